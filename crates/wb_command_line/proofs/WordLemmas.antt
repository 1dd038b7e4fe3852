-- Which words clap takes where none of them is an option, word by word.
use Rattle.std.proofs.Common.{◌≡◌, ◌∙◌, ◌<◌, ◌&&◌, ℕ, Bool, not, true, false, suc, refl, sym, ap, ap₂, subst, arith, List, [], ◌∷◌, ◌++◌, length, Option, Some, None, codes, true≢false, eqb-true}
use Rattle.std.specs.Prelude.{◌==◌, encode_utf8, option_and_then, option_map, slice_get}
use Rattle.std.specs.Str.{IsUtf8, chars, encode_utf8_all}
use Rattle.std.proofs.lemmas.Str.{IsUtf8-past_char, encode_ascii, encodes-chars}
use Rattle.std.specs.List.{All}
use Rattle.std.specs.Option.{MatchOption, option_map_or}
use Rattle.clap.specs.Lexer.{long_of, name_and_value, short_of}
use Rattle.clap.specs.Walk.{Held, Row, Text, Walk, idle, nothing_held, rows_after, subcommand_met, walk_from, walked}
use Rattle.clap.specs.Kinds.{Kinds}
use Rattle.clap.specs.Faults.{defaults_fault, level_fault, turn_fault, walk_fault}
use Rattle.clap.specs.Takes.{level_passes, turn_passes, walk_passes}
use Rattle.wb_heap_model.specs.declared.heap.Rule.{Rule}
use Rattle.wb_heap_model.specs.declared.heap.Rule.TheVariants.{Unlimited}
use Rattle.wb_command_line.specs.CommandLine.{level, level_of}
use Rattle.wb_command_line.specs.Spelled.{command_of, command_with, disorders, doubles, gives_disorder, gives_more_than_one, gives_no_list, mislists, rule_of, takes_rule, task_of, trial_of}
use Rattle.wb_command_line.specs.Subcommands.{Subcommand, Trial, subcommand_named}
use Rattle.wb_command_line.specs.declared.command.Task.{Task}
use Rattle.wb_command_line.specs.declared.command_line.parser.Takes.{Takes}
use Rattle.wb_command_line.specs.declared.command_line.parser.Takes.TheVariants as taking
use Rattle.wb_command_line.specs.WordByWord.{AreRead, AreReadAfter, AreRefused, AreTaken, file_named, has_no_option, is_flag, is_option, is_separator, names_option, option_names, plain_command, plain_trial}
use Rattle.wb_command_line.proofs.CommandLineLemmas.{IsSubcommand, help_command, level_faults, level_meaning, level_takes, name_fails, named_by, names, no_words_fail, none_named_fails, one, other, text_is, trailing_walk}
use Rattle.wb_command_line.proofs.LevelLemmas.{level_long, level_second, level_short}
use Rattle.wb_command_line.proofs.RefusalLemmas.{Fails, TurnFails, and_false, has_kind, level_fails, long_turn, short_turn, turn_first, turn_second, unskipped, word_fails}

-- ---- the words after a subcommand

no_flag : (f : Text) → is_flag f ≡ false → (long_of f ≡ None) × (short_of f ≡ None)
no_flag [] e = (refl, refl)
no_flag (x ∷ []) e = go (x == 45) refl
  where
    go : (b : Bool) → (x == 45) ≡ b → (long_of (x ∷ []) ≡ None) × (short_of (x ∷ []) ≡ None)
    go true is = rw is (refl, refl)
    go false is = rw is (refl, refl)
no_flag (x ∷ y ∷ ys) e = rw e (refl, refl)

first_char : (bytes : Text) → IsUtf8 bytes → 0 < length bytes → (c : ℕ) × (slice_get (chars bytes) 0 ≡ Some c)
first_char bytes text some = go (chars bytes) (encodes-chars bytes text)
  where
    go : (cs : List ℕ) → encode_utf8_all cs ≡ bytes → (c : ℕ) × (slice_get cs 0 ≡ Some c)
    go [] e = let none : [] ≡ bytes = e in absurd (omega (arith, ap length none))
    go (c ∷ cs) e = (c, refl)

flag_turn : (called : Text) (b : Takes) (position : ℕ) (f : Text) (h : Held) → IsUtf8 f → is_separator f ≡ false → is_flag f ≡ true → names_option (option_names b) f ≡ false
    → TurnFails (level called b) (is_option (option_names b)) (level_long called b) (level_short called b) position f (unskipped h)
flag_turn called b position [] h text no_separator flag no_option = absurd (true≢false (sym flag))
flag_turn called b position (x ∷ []) h text no_separator flag no_option = absurd (true≢false (sym flag))
flag_turn called b position (x ∷ y ∷ ys) h text no_separator flag no_option = go (x == 45) refl (y == 45) refl ys refl
  where
    go : (c : Bool) → (x == 45) ≡ c → (d : Bool) → (y == 45) ≡ d → (zs : Text) → ys ≡ zs → TurnFails (level called b) (is_option (option_names b)) (level_long called b) (level_short called b) position (x ∷ y ∷ ys) (unskipped h)
    go false is d is_second zs rest = absurd (true≢false (sym flag ∙ is))
    go true is true is_second [] rest = absurd (true≢false (rw (is, is_second, rest) at no_separator))
    go true is true is_second (z ∷ zs) rest = long_turn (level called b) (is_option (option_names b)) (level_long called b) (level_short called b) position (x ∷ y ∷ ys) (unskipped h) (name_and_value (z ∷ zs)) no_separator (rw (is, is_second, rest) refl) (rw (is, is_second, rest) at no_option)
    go true is false is_second zs rest =
        let bytes : x ∷ y ∷ ys ≡ encode_utf8 45 ++ (y ∷ ys) = ap (λ v. v ∷ y ∷ ys) (eqb-true x 45 is) ∙ sym (ap (λ l. l ++ (y ∷ ys)) (encode_ascii 45 (omega arith))) in
        let after : IsUtf8 (y ∷ ys) = IsUtf8-past_char (x ∷ y ∷ ys) (y ∷ ys) 45 text bytes in
        let first = first_char (y ∷ ys) after (omega arith) in
        short_turn (level called b) (is_option (option_names b)) (level_long called b) (level_short called b) position (x ∷ y ∷ ys) (y ∷ ys) h first.0 no_separator (rw (is, is_second) refl) (rw (is, is_second) refl) first.1

-- the words after it are taken, and name this file
record Reads (called : Text) (b : Takes) (rest : List Text) (file : Option Text) : Type 0 where
  taken : level_passes (level called b) [] nothing_held rest false ≡ true
  faultless : level_fault (level called b) [] nothing_held rest false [] ≡ []
  list : gives_no_list (rows_after (level called b).rules [] rest) ≡ false
  one_rule : gives_more_than_one b (rows_after (level called b).rules [] rest) ≡ false
  in_order : gives_disorder (rows_after (level called b).rules [] rest) ≡ false
  rule : rule_of (rows_after (level called b).rules [] rest) ≡ Unlimited
  trial : trial_of (rows_after (level called b).rules [] rest) ≡ plain_trial
  meaning : (task : Task) → command_with (rows_after (level called b).rules [] rest) task ≡ plain_command task file

-- they are refused
abbrev FailsAt : Text → Takes → List Text → Type 0
FailsAt called b rest = Fails (level_fault (level called b) [] nothing_held rest false []) (level_passes (level called b) [] nothing_held rest false)

below_fails : (called : Text) (b : Takes) (rest : List Text) → Fails (walk_fault (level called b) [] (walk_from nothing_held) rest) (walk_passes (level called b) [] (walk_from nothing_held) rest)
    → FailsAt called b rest
below_fails called b rest f = level_fails (level called b) [] rest false [] true f

reads_none : (called : Text) (b : Takes) → Reads called b [] None
unfolding defaults_fault walk_fault walk_passes walked
reads_none called taking.Rule = record { taken = refl; faultless = refl; list = refl; one_rule = refl; in_order = refl; rule = refl; trial = refl; meaning = λ task. refl }
reads_none called taking.Failures = record { taken = refl; faultless = refl; list = refl; one_rule = refl; in_order = refl; rule = refl; trial = refl; meaning = λ task. refl }
reads_none called taking.Part = record { taken = refl; faultless = refl; list = refl; one_rule = refl; in_order = refl; rule = refl; trial = refl; meaning = λ task. refl }
reads_none called taking.Neither = record { taken = refl; faultless = refl; list = refl; one_rule = refl; in_order = refl; rule = refl; trial = refl; meaning = λ task. refl }

reads_separator : (called : Text) (b : Takes) → Reads called b (codes "--" ∷ []) None
unfolding defaults_fault walk_fault walk_passes walked
reads_separator called taking.Rule = record { taken = refl; faultless = refl; list = refl; one_rule = refl; in_order = refl; rule = refl; trial = refl; meaning = λ task. refl }
reads_separator called taking.Failures = record { taken = refl; faultless = refl; list = refl; one_rule = refl; in_order = refl; rule = refl; trial = refl; meaning = λ task. refl }
reads_separator called taking.Part = record { taken = refl; faultless = refl; list = refl; one_rule = refl; in_order = refl; rule = refl; trial = refl; meaning = λ task. refl }
reads_separator called taking.Neither = record { taken = refl; faultless = refl; list = refl; one_rule = refl; in_order = refl; rule = refl; trial = refl; meaning = λ task. refl }

reads_after_separator : (called : Text) (b : Takes) (f : Text) → Reads called b (codes "--" ∷ f ∷ []) (Some f)
unfolding defaults_fault walk_fault walk_passes walked
reads_after_separator called taking.Rule f = record { taken = refl; faultless = refl; list = refl; one_rule = refl; in_order = refl; rule = refl; trial = refl; meaning = λ task. refl }
reads_after_separator called taking.Failures f = record { taken = refl; faultless = refl; list = refl; one_rule = refl; in_order = refl; rule = refl; trial = refl; meaning = λ task. refl }
reads_after_separator called taking.Part f = record { taken = refl; faultless = refl; list = refl; one_rule = refl; in_order = refl; rule = refl; trial = refl; meaning = λ task. refl }
reads_after_separator called taking.Neither f = record { taken = refl; faultless = refl; list = refl; one_rule = refl; in_order = refl; rule = refl; trial = refl; meaning = λ task. refl }

abbrev none_found : Kinds
none_found = []

reads_file : (called : Text) (b : Takes) (f : Text) → is_separator f ≡ false → is_flag f ≡ false → Reads called b (f ∷ []) (Some f)
unfolding defaults_fault walk_fault walk_passes walked
reads_file called taking.Rule f no_separator is_plain =
    let none = no_flag f is_plain in record {
      taken = rw (no_separator, none.0, none.1) (refl {a = true});
      faultless = rw (no_separator, none.0, none.1) (refl {a = none_found});
      list = rw (no_separator, none.0, none.1) (refl {a = false});
      one_rule = rw (no_separator, none.0, none.1) (refl {a = false});
      in_order = rw (no_separator, none.0, none.1) (refl {a = false});
      rule = rw (no_separator, none.0, none.1) (refl {a = Unlimited});
      trial = rw (no_separator, none.0, none.1) (refl {a = plain_trial});
      meaning = λ task. rw (no_separator, none.0, none.1) (refl {a = plain_command task (Some f)});
    }
reads_file called taking.Failures f no_separator is_plain =
    let none = no_flag f is_plain in record {
      taken = rw (no_separator, none.0, none.1) (refl {a = true});
      faultless = rw (no_separator, none.0, none.1) (refl {a = none_found});
      list = rw (no_separator, none.0, none.1) (refl {a = false});
      one_rule = rw (no_separator, none.0, none.1) (refl {a = false});
      in_order = rw (no_separator, none.0, none.1) (refl {a = false});
      rule = rw (no_separator, none.0, none.1) (refl {a = Unlimited});
      trial = rw (no_separator, none.0, none.1) (refl {a = plain_trial});
      meaning = λ task. rw (no_separator, none.0, none.1) (refl {a = plain_command task (Some f)});
    }
reads_file called taking.Part f no_separator is_plain =
    let none = no_flag f is_plain in record {
      taken = rw (no_separator, none.0, none.1) (refl {a = true});
      faultless = rw (no_separator, none.0, none.1) (refl {a = none_found});
      list = rw (no_separator, none.0, none.1) (refl {a = false});
      one_rule = rw (no_separator, none.0, none.1) (refl {a = false});
      in_order = rw (no_separator, none.0, none.1) (refl {a = false});
      rule = rw (no_separator, none.0, none.1) (refl {a = Unlimited});
      trial = rw (no_separator, none.0, none.1) (refl {a = plain_trial});
      meaning = λ task. rw (no_separator, none.0, none.1) (refl {a = plain_command task (Some f)});
    }
reads_file called taking.Neither f no_separator is_plain =
    let none = no_flag f is_plain in record {
      taken = rw (no_separator, none.0, none.1) (refl {a = true});
      faultless = rw (no_separator, none.0, none.1) (refl {a = none_found});
      list = rw (no_separator, none.0, none.1) (refl {a = false});
      one_rule = refl;
      in_order = rw (no_separator, none.0, none.1) (refl {a = false});
      rule = rw (no_separator, none.0, none.1) (refl {a = Unlimited});
      trial = rw (no_separator, none.0, none.1) (refl {a = plain_trial});
      meaning = λ task. rw (no_separator, none.0, none.1) (refl {a = plain_command task (Some f)});
    }

reads_before_separator : (called : Text) (b : Takes) (f : Text) → is_separator f ≡ false → is_flag f ≡ false → Reads called b (f ∷ codes "--" ∷ []) (Some f)
unfolding defaults_fault walk_fault walk_passes walked
reads_before_separator called taking.Rule f no_separator is_plain =
    let none = no_flag f is_plain in record {
      taken = rw (no_separator, none.0, none.1) (refl {a = true});
      faultless = rw (no_separator, none.0, none.1) (refl {a = none_found});
      list = rw (no_separator, none.0, none.1) (refl {a = false});
      one_rule = rw (no_separator, none.0, none.1) (refl {a = false});
      in_order = rw (no_separator, none.0, none.1) (refl {a = false});
      rule = rw (no_separator, none.0, none.1) (refl {a = Unlimited});
      trial = rw (no_separator, none.0, none.1) (refl {a = plain_trial});
      meaning = λ task. rw (no_separator, none.0, none.1) (refl {a = plain_command task (Some f)});
    }
reads_before_separator called taking.Failures f no_separator is_plain =
    let none = no_flag f is_plain in record {
      taken = rw (no_separator, none.0, none.1) (refl {a = true});
      faultless = rw (no_separator, none.0, none.1) (refl {a = none_found});
      list = rw (no_separator, none.0, none.1) (refl {a = false});
      one_rule = rw (no_separator, none.0, none.1) (refl {a = false});
      in_order = rw (no_separator, none.0, none.1) (refl {a = false});
      rule = rw (no_separator, none.0, none.1) (refl {a = Unlimited});
      trial = rw (no_separator, none.0, none.1) (refl {a = plain_trial});
      meaning = λ task. rw (no_separator, none.0, none.1) (refl {a = plain_command task (Some f)});
    }
reads_before_separator called taking.Part f no_separator is_plain =
    let none = no_flag f is_plain in record {
      taken = rw (no_separator, none.0, none.1) (refl {a = true});
      faultless = rw (no_separator, none.0, none.1) (refl {a = none_found});
      list = rw (no_separator, none.0, none.1) (refl {a = false});
      one_rule = rw (no_separator, none.0, none.1) (refl {a = false});
      in_order = rw (no_separator, none.0, none.1) (refl {a = false});
      rule = rw (no_separator, none.0, none.1) (refl {a = Unlimited});
      trial = rw (no_separator, none.0, none.1) (refl {a = plain_trial});
      meaning = λ task. rw (no_separator, none.0, none.1) (refl {a = plain_command task (Some f)});
    }
reads_before_separator called taking.Neither f no_separator is_plain =
    let none = no_flag f is_plain in record {
      taken = rw (no_separator, none.0, none.1) (refl {a = true});
      faultless = rw (no_separator, none.0, none.1) (refl {a = none_found});
      list = rw (no_separator, none.0, none.1) (refl {a = false});
      one_rule = refl;
      in_order = rw (no_separator, none.0, none.1) (refl {a = false});
      rule = rw (no_separator, none.0, none.1) (refl {a = Unlimited});
      trial = rw (no_separator, none.0, none.1) (refl {a = plain_trial});
      meaning = λ task. rw (no_separator, none.0, none.1) (refl {a = plain_command task (Some f)});
    }

-- the walk after a file
abbrev given : Text → Bool → Walk
given f trailing = record {
  held = record { rows = []; pending = Some (codes "file", f ∷ []); skip = 0 };
  waiting = idle;
  position = 2;
  is_trailing = trailing;
  stopped = None;
}

file_walk : (called : Text) (b : Takes) (f : Text) → is_separator f ≡ false → is_flag f ≡ false → walked (level called b).rules [] (walk_from nothing_held) f ≡ given f false
unfolding walked
file_walk called taking.Rule f no_separator is_plain = let none = no_flag f is_plain in rw (no_separator, none.0, none.1) refl
file_walk called taking.Failures f no_separator is_plain = let none = no_flag f is_plain in rw (no_separator, none.0, none.1) refl
file_walk called taking.Part f no_separator is_plain = let none = no_flag f is_plain in rw (no_separator, none.0, none.1) refl
file_walk called taking.Neither f no_separator is_plain = let none = no_flag f is_plain in rw (no_separator, none.0, none.1) refl

trailing_walked : (called : Text) (b : Takes) (f : Text) → walked (level called b).rules [] trailing_walk f ≡ given f true
unfolding walked
trailing_walked called taking.Rule f = refl
trailing_walked called taking.Failures f = refl
trailing_walked called taking.Part f = refl
trailing_walked called taking.Neither f = refl

flag_fails : (called : Text) (b : Takes) (f : Text) (rest : List Text) → IsUtf8 f → is_separator f ≡ false → is_flag f ≡ true → names_option (option_names b) f ≡ false → FailsAt called b (f ∷ rest)
flag_fails called b f rest text no_separator flag no_option =
    below_fails called b (f ∷ rest) (turn_first (level called b) [] (walk_from nothing_held) f rest (flag_turn called b 1 f nothing_held text no_separator flag no_option))

-- a second file
second_file : (called : Text) (b : Takes) (f g : Text) (rest : List Text) → is_separator f ≡ false → is_flag f ≡ false → is_separator g ≡ false → names_option (option_names b) g ≡ false → FailsAt called b (f ∷ g ∷ rest)
second_file called b f g rest no_separator is_plain file no_option = below_fails called b (f ∷ g ∷ rest) (turn_second (level called b) [] (walk_from nothing_held) f (g ∷ rest)
    (rw (file_walk called b f no_separator is_plain) (turn_first (level called b) [] (given f false) g rest
    (word_fails (level called b) (is_option (option_names b)) (level_long called b) (level_short called b) 2 (level_second called b) g (given f false).held file no_option))))

-- a word more after a file and `--`
third_turn : (called : Text) (b : Takes) (f k : Text) → Fails (turn_fault (level called b) [] (given f true) k) (turn_passes (level called b) [] (given f true) k)
third_turn called taking.Rule f k = record { fault = has_kind _ _; test = refl }
third_turn called taking.Failures f k = record { fault = has_kind _ _; test = refl }
third_turn called taking.Part f k = record { fault = has_kind _ _; test = refl }
third_turn called taking.Neither f k = record { fault = has_kind _ _; test = refl }

after_separator_file : (called : Text) (b : Takes) (f k : Text) (rest : List Text) → FailsAt called b (codes "--" ∷ f ∷ k ∷ rest)
unfolding walked
after_separator_file called b f k rest = below_fails called b (codes "--" ∷ f ∷ k ∷ rest)
    (turn_second (level called b) [] (walk_from nothing_held) (codes "--") (f ∷ k ∷ rest)
    (turn_second (level called b) [] trailing_walk f (k ∷ rest)
    (rw (trailing_walked called b f) (turn_first (level called b) [] (given f true) k rest (third_turn called b f k)))))

after_file_separator : (called : Text) (b : Takes) (f k : Text) (rest : List Text) → is_separator f ≡ false → is_flag f ≡ false → FailsAt called b (f ∷ codes "--" ∷ k ∷ rest)
unfolding walked
after_file_separator called b f k rest no_separator is_plain = below_fails called b (f ∷ codes "--" ∷ k ∷ rest)
    (turn_second (level called b) [] (walk_from nothing_held) f (codes "--" ∷ k ∷ rest)
    (rw (file_walk called b f no_separator is_plain)
    (turn_second (level called b) [] (given f false) (codes "--") (k ∷ rest) (turn_first (level called b) [] (given f true) k rest (third_turn called b f k)))))

-- words without options, after a first that is not `--`
after_first : (b : Takes) (f : Text) (rest : List Text) → is_separator f ≡ false → has_no_option (option_names b) (f ∷ rest) ≡ true
    → (names_option (option_names b) f ≡ false) × (has_no_option (option_names b) rest ≡ true)
after_first b f rest isnt e = go (names_option (option_names b) f) refl (rw isnt at e)
  where
    go : (c : Bool) → names_option (option_names b) f ≡ c → (not (names_option (option_names b) f) && has_no_option (option_names b) rest) ≡ true
        → (names_option (option_names b) f ≡ false) × (has_no_option (option_names b) rest ≡ true)
    go true is h = absurd (true≢false (sym (rw is at h)))
    go false is h = (is, rw is at h)

-- which words after it are taken
level_reads : (called : Text) (b : Takes) (rest : List Text) → All IsUtf8 rest → has_no_option (option_names b) rest ≡ true → MatchOption (file_named rest) (FailsAt called b rest) (Reads called b rest)
level_reads called b [] texts none = reads_none called b
level_reads called b (f ∷ []) texts none = go (is_separator f) refl (is_flag f) refl
  where
    go : (s : Bool) → is_separator f ≡ s → (g : Bool) → is_flag f ≡ g → MatchOption (file_named (f ∷ [])) (FailsAt called b (f ∷ [])) (Reads called b (f ∷ []))
    go true is d flag = rw is (subst (λ (w : Text). Reads called b (w ∷ []) None) (sym (text_is f (codes "--") is)) (reads_separator called b))
    go false isnt true flag = rw (isnt, flag) (flag_fails called b f [] (texts 0 [] (omega arith)) isnt flag (after_first b f [] isnt none).0)
    go false isnt false is_plain = rw (isnt, is_plain) (reads_file called b f isnt is_plain)
level_reads called b (f ∷ g ∷ []) texts none = go (is_separator f) refl (is_flag f) refl (is_separator g) refl
  where
    go : (s : Bool) → is_separator f ≡ s → (d : Bool) → is_flag f ≡ d → (t : Bool) → is_separator g ≡ t
        → MatchOption (file_named (f ∷ g ∷ [])) (FailsAt called b (f ∷ g ∷ [])) (Reads called b (f ∷ g ∷ []))
    go true is d flag t second = rw is (subst (λ (w : Text). Reads called b (w ∷ g ∷ []) (Some g)) (sym (text_is f (codes "--") is)) (reads_after_separator called b g))
    go false isnt true flag t second = rw (isnt, flag) (flag_fails called b f (g ∷ []) (texts 0 [] (omega arith)) isnt flag (after_first b f (g ∷ []) isnt none).0)
    go false isnt false is_plain true second =
        rw (isnt, is_plain, second) (subst (λ (w : Text). Reads called b (f ∷ w ∷ []) (Some f)) (sym (text_is g (codes "--") second)) (reads_before_separator called b f isnt is_plain))
    go false isnt false is_plain false second =
        rw (isnt, is_plain, second) (second_file called b f g [] isnt is_plain second (after_first b g [] second (after_first b f (g ∷ []) isnt none).1).0)
level_reads called b (f ∷ g ∷ k ∷ rest) texts none = go (is_separator f) refl (is_flag f) refl (is_separator g) refl
  where
    go : (s : Bool) → is_separator f ≡ s → (d : Bool) → is_flag f ≡ d → (t : Bool) → is_separator g ≡ t → FailsAt called b (f ∷ g ∷ k ∷ rest)
    go true is d flag t second = subst (λ (w : Text). FailsAt called b (w ∷ g ∷ k ∷ rest)) (sym (text_is f (codes "--") is)) (after_separator_file called b g k rest)
    go false isnt true flag t second = flag_fails called b f (g ∷ k ∷ rest) (texts 0 [] (omega arith)) isnt flag (after_first b f (g ∷ k ∷ rest) isnt none).0
    go false isnt false is_plain true second =
        subst (λ (w : Text). FailsAt called b (f ∷ w ∷ k ∷ rest)) (sym (text_is g (codes "--") second)) (after_file_separator called b f k rest isnt is_plain)
    go false isnt false is_plain false second = second_file called b f g (k ∷ rest) isnt is_plain second (after_first b g (k ∷ rest) second (after_first b f (g ∷ k ∷ rest) isnt none).1).0

-- ---- all words

-- what clap makes of the words after a subcommand's name, of all the words
module _ (s : Subcommand) (is : IsSubcommand s) (name word : Text) (rest : List Text) (met : subcommand_met names idle word ≡ Some s.name) where
  abbrev all_words : List Text
  all_words = name ∷ word ∷ rest

  abbrev rows : List Row
  rows = rows_after (level_of s).rules [] rest

  spelled_task : rule_of rows ≡ Unlimited → trial_of rows ≡ plain_trial → task_of s.name rows ≡ Some (s.task Unlimited plain_trial)
  spelled_task unlimited plain = ap (option_map (λ (x : Subcommand). x.task (rule_of rows) (trial_of rows))) is.named
      ∙ ap₂ (λ (rule : Rule) (trial : Trial). Some (s.task rule trial)) unlimited plain

  taken_words : (file : Option Text) → Reads s.name s.takes rest file → AreTaken all_words (plain_command (s.task Unlimited plain_trial) file)
  taken_words file r = record {
    taken = level_takes s name word rest is met ∙ r.taken;
    spell = record {
      faultless = level_faults s name word rest is met ∙ r.faultless;
      listed = ap (λ (o : Option (Text × List Row)). option_map_or (λ p. mislists p.0 p.1) o false) (level_meaning s name word rest is met)
          ∙ ap (λ wrong. option_map_or (λ x. takes_rule x.takes) (subcommand_named s.name) false && wrong) r.list ∙ and_false _;
      one_rule = ap (λ (o : Option (Text × List Row)). option_map_or (λ p. doubles p.0 p.1) o false) (level_meaning s name word rest is met)
          ∙ ap (λ (o : Option Subcommand). option_map_or (λ x. gives_more_than_one x.takes rows) o false) is.named ∙ r.one_rule;
      in_order = ap (λ (o : Option (Text × List Row)). option_map_or (λ p. disorders p.0 p.1) o false) (level_meaning s name word rest is met)
          ∙ ap (λ disordered. option_map_or (λ x. takes_rule x.takes) (subcommand_named s.name) false && disordered) r.in_order ∙ and_false _;
      meaning = ap (option_and_then command_of) (level_meaning s name word rest is met) ∙ ap (option_map (command_with rows)) (spelled_task r.rule r.trial)
          ∙ ap (λ x. Some x) (r.meaning (s.task Unlimited plain_trial));
    };
  }

  refused_words : FailsAt s.name s.takes rest → AreRefused all_words
  refused_words f = record { refused = level_takes s name word rest is met ∙ f.test; faulty = λ e. f.fault (sym (level_faults s name word rest is met) ∙ e) }

  read_after : All IsUtf8 rest → AreReadAfter s all_words rest
  read_after texts none = go (file_named rest) (level_reads s.name s.takes rest texts none)
    where
      go : (o : Option (Option Text)) → MatchOption o (FailsAt s.name s.takes rest) (Reads s.name s.takes rest)
          → MatchOption o (AreRefused all_words) (λ file. AreTaken all_words (plain_command (s.task Unlimited plain_trial) file))
      go None f = refused_words f
      go (Some file) r = taken_words file r

pub words_are_read : (words : List Text) → All IsUtf8 words → AreRead words
words_are_read [] texts = record { refused = no_words_fail.test; faulty = no_words_fail.fault }
words_are_read (name ∷ []) texts = record { refused = (name_fails name).test; faulty = (name_fails name).fault }
words_are_read (name ∷ word ∷ rest) texts = elim (named_by word) [
  | one s is named met ↦ rw named (read_after s is name word rest met (λ k d lt. texts (suc (suc k)) d (omega arith)))
  | help_command none met ↦ unnamed none
  | other none met ↦ unnamed none
]
  where
    unnamed : subcommand_named word ≡ None → MatchOption (subcommand_named word) (AreRefused (name ∷ word ∷ rest)) (λ s. AreReadAfter s (name ∷ word ∷ rest) rest)
    unnamed none = let f = none_named_fails name word rest none in rw none (record { refused = f.test; faulty = f.fault })
