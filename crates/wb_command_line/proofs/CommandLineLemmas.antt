-- What clap makes of words on this command line.
use Rattle.std.proofs.Common.{◌≡◌, ◌∙◌, ◌&&◌, Bool, true, false, true≢false, refl, sym, ap, List, [], ◌∷◌, Option, Some, None, codes}
use Rattle.std.specs.Str.{bytes_eq}
use Rattle.std.specs.Prelude.{◌≢◌, ◌==◌, IsSome, find, option_map}
use Rattle.std.specs.Option.{option_map_or}
use Rattle.std.proofs.lemmas.Slice.Eq.{bytes_eq-Decides}
use Rattle.clap.specs.Lexer.{long_of}
use Rattle.clap.specs.Walk.{Names, Row, Text, Walk, answers_to, idle, nothing_held, rows_after, subcommand_met, walk, walk_from, walked}
use Rattle.clap.specs.Simple.{App, Shape, built, entered, label_of, names_of, subcommand_of}
use Rattle.clap.specs.Kinds.{Kinds, or_else}
use Rattle.clap.specs.Faults.{fault_of, defaults_fault, level_fault, turn_fault, walk_fault}
use Rattle.clap.specs.Takes.{level_passes, takes, turn_passes, walk_passes}
use Rattle.clap.proofs.WalkLemmas.{walk_stopped}
use Rattle.clap.proofs.FaultLemmas.{stopped_fault}
use Rattle.wb_command_line.specs.CommandLine.{command_line, level_of}
use Rattle.wb_command_line.specs.Subcommands.{Subcommand, check_subcommand, check_task, lengths_subcommand, run_subcommand, size_subcommand, subcommand_named, sweep_subcommand}
use Rattle.wb_command_line.specs.Fault.{AreDoubled}
use Rattle.wb_command_line.specs.Passed.{RowsPass}
use Rattle.wb_command_line.specs.declared.command.Task.{Task}
use Rattle.wb_command_line.specs.Spelled.{gives_more_than_one, gives_no_list, gives_too_many, rule_of, takes_rule, task_of, trial_of}
use Rattle.wb_command_line.proofs.LevelLemmas.{level_name, level_once, level_single}
use Rattle.wb_command_line.proofs.PassedWords.{level_passed}
use Rattle.wb_command_line.proofs.RefusalLemmas.{Fails, and_true, has_kind, level_fails, stopped_passes, turn_first, turn_second, version_asks, word_fails}

-- ---- the command line, built

abbrev pub app : App
app = built command_line

abbrev pub names : Names
names = names_of app

-- a subcommand of the list, with its level in the line that was built; it isn't the call for help
pub record IsSubcommand (s : Subcommand) : Type 0 where
  pub named : subcommand_named s.name ≡ Some s
  pub found : find (λ (x : Shape). answers_to s.name (label_of x)) app.subs ≡ Some (level_of s)
  pub is_no_help : bytes_eq s.name (codes "help") ≡ false

-- which subcommand a word names
pub data Named (word : Text) : Type 0 where
  one : (s : Subcommand) → IsSubcommand s → subcommand_named word ≡ Some s → subcommand_met names idle word ≡ Some s.name → Named word
  help_command : subcommand_named word ≡ None → subcommand_met names idle word ≡ Some (codes "help") → Named word
  other : subcommand_named word ≡ None → subcommand_met names idle word ≡ None → Named word

pub named_by : (w : Text) → Named w
named_by w =
    go (bytes_eq (codes "run") w) refl (bytes_eq (codes "size") w) refl (bytes_eq (codes "lengths") w) refl
    (bytes_eq (codes "sweep") w) refl (bytes_eq (codes "check") w) refl (bytes_eq (codes "help") w) refl
  where
    go : (r : Bool) → bytes_eq (codes "run") w ≡ r → (s : Bool) → bytes_eq (codes "size") w ≡ s → (l : Bool) → bytes_eq (codes "lengths") w ≡ l
        → (t : Bool) → bytes_eq (codes "sweep") w ≡ t → (c : Bool) → bytes_eq (codes "check") w ≡ c → (h : Bool) → bytes_eq (codes "help") w ≡ h → Named w
    go true run s size l lengths t sweep c check h help = one run_subcommand (record { named = refl; found = refl; is_no_help = refl }) (rw run refl) (rw run refl)
    go false run true size l lengths t sweep c check h help = one size_subcommand (record { named = refl; found = refl; is_no_help = refl }) (rw (run, size) refl) (rw (run, size) refl)
    go false run false size true lengths t sweep c check h help =
        one lengths_subcommand (record { named = refl; found = refl; is_no_help = refl }) (rw (run, size, lengths) refl) (rw (run, size, lengths) refl)
    go false run false size false lengths true sweep c check h help =
        one sweep_subcommand (record { named = refl; found = refl; is_no_help = refl }) (rw (run, size, lengths, sweep) refl) (rw (run, size, lengths, sweep) refl)
    go false run false size false lengths false sweep true check h help =
        one check_subcommand (record { named = refl; found = refl; is_no_help = refl }) (rw (run, size, lengths, sweep, check) refl) (rw (run, size, lengths, sweep, check) refl)
    go false run false size false lengths false sweep false check true help = help_command (rw (run, size, lengths, sweep, check) refl) (rw (run, size, lengths, sweep, check, help) refl)
    go false run false size false lengths false sweep false check false help = other (rw (run, size, lengths, sweep, check) refl) (rw (run, size, lengths, sweep, check, help) refl)

abbrev top : Shape
top = app.top

-- a walk that meets a subcommand stops there, before the words after it
abbrev stopped_at : Text → List Text → Walk
stopped_at met rest = record (walk_from nothing_held) { stopped = Some (met, rest) }

level_walk : (met word : Text) (rest : List Text) → subcommand_met names idle word ≡ Some met → walk top.rules names nothing_held (word ∷ rest) ≡ stopped_at met rest
unfolding walked
level_walk met word rest is = rw is (sym (walk_stopped top.rules names (walk_from nothing_held) met [] rest))

-- its name has no fault, and neither have the words after it at this level
level_word : (met word : Text) → bytes_eq met (codes "help") ≡ false → subcommand_met names idle word ≡ Some met
    → (walked top.rules names (walk_from nothing_held) word ≡ stopped_at met [])
    × (turn_fault top names (walk_from nothing_held) word ≡ []) × (turn_passes top names (walk_from nothing_held) word ≡ true)
unfolding walked
level_word met word no_help is = rw (is, no_help) (refl, refl, refl)

level_words : (met word : Text) (rest : List Text) → bytes_eq met (codes "help") ≡ false → subcommand_met names idle word ≡ Some met
    → (walk_fault top names (walk_from nothing_held) (word ∷ rest) ≡ []) × (walk_passes top names (walk_from nothing_held) (word ∷ rest) ≡ true)
unfolding walk_fault walk_passes
level_words met word rest no_help is =
    let one = level_word met word no_help is in
    rw (one.0, one.1, one.2) (stopped_fault top names (walk_from nothing_held) (met, []) rest, stopped_passes top names (walk_from nothing_held) (met, []) rest)

-- after its name it decides alone
or_else_none : (a : Kinds) → or_else a [] ≡ a
or_else_none [] = refl
or_else_none (k ∷ ks) = refl

pub level_faults : (s : Subcommand) (name word : Text) (rest : List Text) → IsSubcommand s → subcommand_met names idle word ≡ Some s.name
    → fault_of command_line (name ∷ word ∷ rest) ≡ level_fault (level_of s) [] nothing_held rest false []
unfolding defaults_fault
level_faults s name word rest is met =
    rw (level_walk s.name word rest met, (level_words s.name word rest is.is_no_help met).0, is.found) (or_else_none _)

pub level_takes : (s : Subcommand) (name word : Text) (rest : List Text) → IsSubcommand s → subcommand_met names idle word ≡ Some s.name
    → takes command_line (name ∷ word ∷ rest) ≡ level_passes (level_of s) [] nothing_held rest false
level_takes s name word rest is met = rw (level_walk s.name word rest met, (level_words s.name word rest is.is_no_help met).1, is.found) (and_true _)

pub level_meaning : (s : Subcommand) (name word : Text) (rest : List Text) → IsSubcommand s → subcommand_met names idle word ≡ Some s.name
    → subcommand_of command_line (name ∷ word ∷ rest) ≡ Some (s.name, rows_after (level_of s).rules [] rest)
level_meaning s name word rest is met =
    ap (λ (w : Walk). entered app w.stopped) (level_walk s.name word rest met)
    ∙ ap (option_map (λ (x : Shape). (x.name, rows_after x.rules [] rest))) is.found
    ∙ ap (λ called. Some (called, rows_after (level_of s).rules [] rest)) (level_name s.name s.takes)

-- words that stop at no subcommand are refused where one of them fails
top_fails : (name : Text) (words : List Text) → Fails (walk_fault top names (walk_from nothing_held) words) (walk_passes top names (walk_from nothing_held) words)
    → Fails (fault_of command_line (name ∷ words)) (takes command_line (name ∷ words))
top_fails name words f = level_fails top names words _ _ _ f

pub no_words_fail : Fails (fault_of command_line []) (takes command_line [])
unfolding defaults_fault walk_fault walk_passes
no_words_fail = record { fault = has_kind _ _; test = refl }

pub name_fails : (name : Text) → Fails (fault_of command_line (name ∷ [])) (takes command_line (name ∷ []))
unfolding defaults_fault walk_fault walk_passes
name_fails name = record { fault = has_kind _ _; test = refl }

-- `help` as a subcommand
help_turn : (word : Text) → subcommand_met names idle word ≡ Some (codes "help") → Fails (turn_fault top names (walk_from nothing_held) word) (turn_passes top names (walk_from nothing_held) word)
help_turn word met = rw met (record { fault = has_kind _ _; test = refl })

-- `--`, and what follows it
abbrev pub trailing_walk : Walk
trailing_walk = record (walk_from nothing_held) { is_trailing = true }

trailing_turn : (word : Text) → Fails (turn_fault top names trailing_walk word) (turn_passes top names trailing_walk word)
trailing_turn word = record { fault = has_kind _ _; test = refl }

separator_fails : (name word : Text) (rest : List Text) → word ≡ codes "--" → Fails (fault_of command_line (name ∷ word ∷ rest)) (takes command_line (name ∷ word ∷ rest))
unfolding walked defaults_fault walk_fault walk_passes
separator_fails name word [] is = rw is (record { fault = has_kind _ _; test = refl })
separator_fails name word (next ∷ rest) is = rw is
    (top_fails name (codes "--" ∷ next ∷ rest) (turn_second top names (walk_from nothing_held) (codes "--") (next ∷ rest)
    (turn_first top names trailing_walk next rest (trailing_turn next))))

other_turn : (word : Text) → subcommand_met names idle word ≡ None → bytes_eq word (codes "--") ≡ false
    → Fails (turn_fault top names (walk_from nothing_held) word) (turn_passes top names (walk_from nothing_held) word)
other_turn word met no_separator = rw met (word_fails top (λ name. false) (λ name _. version_asks (bytes_eq (codes "help") name) (bytes_eq (codes "version") name)) (λ x. version_asks (104 == x) (86 == x)) 1 refl word nothing_held no_separator (no_name (long_of word)))
  where
    no_name : (o : Option (Text × Option Text)) → option_map_or (λ p. false) o false ≡ false
    no_name None = refl
    no_name (Some p) = refl

pub text_is : (a b : Text) → bytes_eq a b ≡ true → a ≡ b
text_is a b e = (bytes_eq-Decides a b).0 e

-- a name of the list that is none of the others is the last
last_named : (name : Text) → IsSome (subcommand_named name) → name ≢ codes "run" → name ≢ codes "size" → name ≢ codes "lengths" → name ≢ codes "sweep"
    → subcommand_named name ≡ Some check_subcommand
last_named name some no_run no_size no_lengths no_sweep =
    go (bytes_eq (codes "run") name) refl (bytes_eq (codes "size") name) refl (bytes_eq (codes "lengths") name) refl
    (bytes_eq (codes "sweep") name) refl (bytes_eq (codes "check") name) refl
  where
    go : (r : Bool) → bytes_eq (codes "run") name ≡ r → (s : Bool) → bytes_eq (codes "size") name ≡ s → (l : Bool) → bytes_eq (codes "lengths") name ≡ l
        → (t : Bool) → bytes_eq (codes "sweep") name ≡ t → (c : Bool) → bytes_eq (codes "check") name ≡ c → subcommand_named name ≡ Some check_subcommand
    go true run s size l lengths t sweep c check = absurd (no_run (sym (text_is (codes "run") name run)))
    go false run true size l lengths t sweep c check = absurd (no_size (sym (text_is (codes "size") name size)))
    go false run false size true lengths t sweep c check = absurd (no_lengths (sym (text_is (codes "lengths") name lengths)))
    go false run false size false lengths true sweep c check = absurd (no_sweep (sym (text_is (codes "sweep") name sweep)))
    go false run false size false lengths false sweep true check = rw (run, size, lengths, sweep, check) refl
    go false run false size false lengths false sweep false check = absurd (true≢false (sym (rw (run, size, lengths, sweep, check) at some)))

-- which takes failures, so that flags that don't go together are too many, and no text is a set's
pub last_doubled : (name : Text) (rows : List Row) → IsSome (subcommand_named name) → name ≢ codes "run" → name ≢ codes "size" → name ≢ codes "lengths" → name ≢ codes "sweep"
    → gives_too_many rows ≡ true → AreDoubled name rows
last_doubled name rows some no_run no_size no_lengths no_sweep both =
    let last = last_named name some no_run no_size no_lengths no_sweep in record {
      listed = ap (λ (o : Option Subcommand). option_map_or (λ s. takes_rule s.takes) o false && gives_no_list rows) last;
      doubled = ap (λ (o : Option Subcommand). option_map_or (λ s. gives_more_than_one s.takes rows) o false) last ∙ both;
    }

-- and what it asks for is a check
pub last_task : (name : Text) (rows : List Row) (task : Task) → IsSome (subcommand_named name) → name ≢ codes "run" → name ≢ codes "size" → name ≢ codes "lengths"
    → name ≢ codes "sweep" → task ≡ check_task (trial_of rows) → task_of name rows ≡ Some task
last_task name rows task some no_run no_size no_lengths no_sweep is =
    ap (λ (o : Option Subcommand). option_map (λ s. s.task (rule_of rows) (trial_of rows)) o) (last_named name some no_run no_size no_lengths no_sweep) ∙ ap (λ t. Some t) (sym is)

-- words that don't name a subcommand first are refused
pub none_named_fails : (name word : Text) (rest : List Text) → subcommand_named word ≡ None → Fails (fault_of command_line (name ∷ word ∷ rest)) (takes command_line (name ∷ word ∷ rest))
none_named_fails name word rest no_one = elim (named_by word) [
  | one s is named met ↦ let none : Some s ≡ None = sym named ∙ no_one in absurd (cc)
  | help_command _ met ↦ top_fails name (word ∷ rest) (turn_first top names (walk_from nothing_held) word rest (help_turn word met))
  | other _ met ↦ go met (bytes_eq word (codes "--")) refl
]
  where
    go : subcommand_met names idle word ≡ None → (b : Bool) → bytes_eq word (codes "--") ≡ b → Fails (fault_of command_line (name ∷ word ∷ rest)) (takes command_line (name ∷ word ∷ rest))
    go met true is = separator_fails name word rest (text_is word (codes "--") is)
    go met false not_it = top_fails name (word ∷ rest) (turn_first top names (walk_from nothing_held) word rest (other_turn word met not_it))

-- ---- words without fault

-- the subcommand of words that have no fault, and what was read of the words after it, which passed
pub record MeetsOne (words : List Text) : Type 0 where
  pub subcommand : Subcommand
  pub is_one : IsSubcommand subcommand
  pub rows : List Row
  pub meaning : subcommand_of command_line words ≡ Some (subcommand.name, rows)
  pub passed : RowsPass (level_of subcommand).rules rows

-- they name one, since `help` has a fault
pub one_is_met : (words : List Text) → fault_of command_line words ≡ [] → MeetsOne words
one_is_met [] e = absurd (no_words_fail.fault e)
one_is_met (name ∷ []) e = absurd ((name_fails name).fault e)
one_is_met (name ∷ word ∷ rest) e = elim (named_by word) [
  | one s is named met ↦ record {
    subcommand = s;
    is_one = is;
    rows = _;
    meaning = level_meaning s name word rest is met;
    passed = level_passed (level_of s) rest (level_single s.name s.takes) (level_once s.name s.takes) (sym (level_faults s name word rest is met) ∙ e);
  }
  | help_command none met ↦ absurd ((none_named_fails name word rest none).fault e)
  | other none met ↦ absurd ((none_named_fails name word rest none).fault e)
]
