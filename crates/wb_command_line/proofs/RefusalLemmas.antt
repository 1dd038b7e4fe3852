-- Words that clap refuses, of a command whose only flags are help and the version, beside options that the words don't name.
use Rattle.std.proofs.Common.{◌≡◌, ◌&&◌, ◌||◌, ◌⊎◌, ℕ, Bool, cond, inl, inr, true, false, refl, sym, subst, List, [], ◌∷◌, ◌++◌, length, Option, Some, None, codes}
use Rattle.std.specs.Prelude.{encode_utf8, slice_get, drop}
use Rattle.std.specs.Str.{bytes_eq, chars}
use Rattle.std.specs.Option.{option_map_or}
use Rattle.clap.specs.Lexer.{long_of, short_of}
use Rattle.clap.specs.Walk.{after_flag, Held, Names, Rule, Step, Text, Walk, idle, arg_by_index, arg_by_long, arg_by_short, bundle_met, bundle_step, long_or_other, nothing_held, plain, reacted, settled, short_or_plain, short_word, subcommand_or_other, value, walk_from, walked}
use Rattle.clap.specs.Simple.{Shape, filled, help_rule, version_rule}
use Rattle.clap.specs.Kinds.{Kinds, or_else}
use Rattle.clap.specs.Faults.{bundle_fault, bundle_step_fault, flag_word_fault, flags_fault, level_fault, long_fault, other_fault, react_fault, settle_fault, short_fault, step_fault, turn_fault, use_fault, walk_fault}
use Rattle.clap.specs.Takes.{level_passes, bundle_passes, bundle_step_passes, flag_word_passes, flags_pass, long_passes, other_passes, react_passes, settle_passes, short_passes, step_passes, turn_passes, use_passes, walk_passes}
use Rattle.clap.specs.declared.error.kind.ErrorKind.{ErrorKind}
use Rattle.clap.specs.declared.error.kind.ErrorKind.TheVariants as kind

-- ---- steps that fail

-- the kinds of a step that fails, and its test
pub record Fails (kinds : Kinds) (passes : Bool) : Type 0 where
  pub fault : kinds ≡ [] → ⊥
  pub test : passes ≡ false

pub has_kind : (k : ErrorKind) (ks : Kinds) → k ∷ ks ≡ [] → ⊥
has_kind k ks e = absurd (cc)

first_none : (a b : Kinds) → or_else a b ≡ [] → a ≡ []
first_none [] b e = refl
first_none (k ∷ ks) b e = absurd (has_kind _ _ e)

fails_first : (a b : Kinds) (p q : Bool) → Fails a p → Fails (or_else a b) (p && q)
fails_first [] b p q f = absurd (f.fault refl)
fails_first (k ∷ ks) b p q f = record { fault = has_kind k ks; test = rw f.test refl }

fails_second : (a b : Kinds) (p q : Bool) → Fails b q → Fails (or_else a b) (p && q)
fails_second [] b true q f = f
fails_second [] b false q f = record { fault = f.fault; test = refl }
fails_second (k ∷ ks) b true q f = record { fault = has_kind k ks; test = f.test }
fails_second (k ∷ ks) b false q f = record { fault = has_kind k ks; test = refl }

-- ---- one word of a level whose only flags beside its options are help and the version

abbrev pub help : Rule
help = filled help_rule

abbrev pub version : Rule
version = filled version_rule

-- no argument, or a flag that asks for a text
abbrev pub IsAsking : Option Rule → Type 0
IsAsking found = (found ≡ None) ⊎ ((found ≡ Some help) ⊎ (found ≡ Some version))

-- of a level that has no version
pub help_asks : (is_help : Bool) → IsAsking (cond (is_help || false) (Some help) None)
help_asks true = inr (inl refl)
help_asks false = inl refl

-- of one that has
pub version_asks : (is_help is_version : Bool) → IsAsking (cond (is_help || false) (Some help) (cond (is_version || false) (Some version) None))
version_asks true is_version = inr (inl refl)
version_asks false true = inr (inr refl)
version_asks false false = inl refl

abbrev pub unskipped : Held → Held
unskipped h = record h { skip = 0 }

module _ (s : Shape) (is_option : Text → Bool) (long_asks : (name : Text) → is_option name ≡ false → IsAsking (arg_by_long s.rules name))
    (short_asks : (x : ℕ) → IsAsking (arg_by_short s.rules x)) where
  abbrev again : Bool
  again = s.args_override_self

  help_fails : (h : Held) → Fails (react_fault s.rules again help [] h) (react_passes s.rules again help [] h)
  help_fails h = fails_second (settle_fault s.rules again h) (use_fault again help [] (settled s.rules h).rows)
      (settle_passes s.rules again h) (use_passes again help [] (settled s.rules h).rows) (record { fault = has_kind _ _; test = refl })

  version_fails : (h : Held) → Fails (react_fault s.rules again version [] h) (react_passes s.rules again version [] h)
  version_fails h = fails_second (settle_fault s.rules again h) (use_fault again version [] (settled s.rules h).rows)
      (settle_passes s.rules again h) (use_passes again version [] (settled s.rules h).rows) (record { fault = has_kind _ _; test = refl })

  long_fails : (p : Text × Option Text) (word : Text) (h : Held) → is_option p.0 ≡ false → Fails (flag_word_fault s.rules again (Some p) word h) (flag_word_passes s.rules again (Some p) word h)
  long_fails p word h no_option = go (arg_by_long s.rules p.0) (long_asks p.0 no_option) p.1
    where
      go : (o : Option Rule) → IsAsking o → (v : Option Text) → Fails (long_fault s.rules again o v h) (long_passes s.rules again o v h)
      go o (inl is) v = rw is (record { fault = has_kind _ _; test = refl })
      go o (inr (inl is)) (Some v) = rw is (record { fault = has_kind _ _; test = refl })
      go o (inr (inl is)) None = rw is (help_fails h)
      go o (inr (inr is)) (Some v) = rw is (record { fault = has_kind _ _; test = refl })
      go o (inr (inr is)) None = rw is (version_fails h)

  short_fails : (x : ℕ) (rest : Text) (h : Held) (next : Held → Kinds) (passes : Held → Bool)
      → Fails (short_fault s.rules again (arg_by_short s.rules x) rest h next) (short_passes s.rules again (arg_by_short s.rules x) rest h passes)
  short_fails x rest h next passes = go (arg_by_short s.rules x) (short_asks x)
    where
      go : (o : Option Rule) → IsAsking o → Fails (short_fault s.rules again o rest h next) (short_passes s.rules again o rest h passes)
      go o (inl is) = rw is (record { fault = has_kind _ _; test = refl })
      go o (inr (inl is)) = rw is (fails_first (react_fault s.rules again help [] h) (next (reacted s.rules help [] h)) (react_passes s.rules again help [] h) (passes (reacted s.rules help [] h)) (help_fails h))
      go o (inr (inr is)) = rw is (fails_first (react_fault s.rules again version [] h) (next (reacted s.rules version [] h)) (react_passes s.rules again version [] h) (passes (reacted s.rules version [] h)) (version_fails h))

  -- `-abc`
  bundle_fails : (flags : Text) (h : Held) (x : ℕ) → slice_get (chars flags) 0 ≡ Some x → Fails (bundle_fault s.rules again flags (unskipped h)) (bundle_passes s.rules again flags (unskipped h))
  unfolding flags_fault flags_pass chars
  bundle_fails [] h x first = absurd (cc)
  bundle_fails (f ∷ fs) h x first =
      let rest = drop (length (encode_utf8 x)) (f ∷ fs) in
      subst (λ o. Fails (bundle_step_fault s.rules again o (f ∷ fs) 0 (unskipped h) (flags_fault s.rules again (length fs))) (bundle_step_passes s.rules again o (f ∷ fs) 0 (unskipped h) (flags_pass s.rules again (length fs))))
      (sym first) (short_fails x rest (unskipped h) (flags_fault s.rules again (length fs) rest 0) (flags_pass s.rules again (length fs) rest 0))

  -- a word where no value is awaited and no subcommand is named
  abbrev pub met_with : ℕ → Text → Held → Held × Step
  met_with position word h = subcommand_or_other s.rules None idle position word h

  abbrev pub TurnFails : ℕ → Text → Held → Type 0
  TurnFails position word h = Fails (or_else (other_fault s None word h) (step_fault s position (met_with position word h).0 (met_with position word h).1))
      (other_passes s None word h && step_passes s position (met_with position word h).0 (met_with position word h).1)

  pub long_turn : (position : ℕ) (word : Text) (h : Held) (p : Text × Option Text) → bytes_eq word (codes "--") ≡ false → long_of word ≡ Some p → is_option p.0 ≡ false → TurnFails position word h
  long_turn position word h p no_dashes is_long no_option = rw (no_dashes, is_long) (fails_first _ _ _ _ (long_fails p word h no_option))

  pub short_turn : (position : ℕ) (word flags : Text) (h : Held) (x : ℕ) → bytes_eq word (codes "--") ≡ false → long_of word ≡ None → short_of word ≡ Some flags → slice_get (chars flags) 0 ≡ Some x
      → TurnFails position word (unskipped h)
  short_turn position word flags h x no_dashes no_long is_short first = rw (no_dashes, no_long, is_short) (fails_first _ _ _ _ (bundle_fails flags h x first))

  -- a word that is no flag, where no positional takes it
  module _ (position : ℕ) (none_takes : arg_by_index s.rules position ≡ None) where
    value_fails : (h : Held) → Fails (step_fault s position h value) (step_passes s position h value)
    value_fails h = rw none_takes (go s.is_leaf)
      where
        go : (leaf : Bool) → Fails (cond leaf (kind.UnknownArgument ∷ []) (kind.UnknownArgument ∷ kind.InvalidSubcommand ∷ [])) false
        go true = record { fault = has_kind _ _; test = refl }
        go false = record { fault = has_kind _ _; test = refl }

    -- a word that may be a bundle of flags
    abbrev bundled : Text → Text → Held → Held × Step
    bundled word flags h = short_word s.rules idle word flags h

    flags_fail : (word flags : Text) (h : Held)
        → Fails (or_else (bundle_fault s.rules again flags (unskipped h)) (step_fault s position (bundled word flags (unskipped h)).0 (bundled word flags (unskipped h)).1))
        (bundle_passes s.rules again flags (unskipped h) && step_passes s position (bundled word flags (unskipped h)).0 (bundled word flags (unskipped h)).1)
    unfolding flags_fault flags_pass bundle_met
    flags_fail word [] h = value_fails (unskipped h)
    flags_fail word (x ∷ xs) h = go (slice_get (chars (x ∷ xs)) 0)
      where
        end : Option ℕ → Held × Step
        end o = let m = bundle_step s.rules o (x ∷ xs) 0 plain (unskipped h) (bundle_met s.rules (length xs)) in after_flag s.rules idle word m.0 m.1

        go : (o : Option ℕ)
            → Fails (or_else (bundle_step_fault s.rules again o (x ∷ xs) 0 (unskipped h) (flags_fault s.rules again (length xs))) (step_fault s position (end o).0 (end o).1))
            (bundle_step_passes s.rules again o (x ∷ xs) 0 (unskipped h) (flags_pass s.rules again (length xs)) && step_passes s position (end o).0 (end o).1)
        go None = value_fails (unskipped h)
        go (Some y) =
            let rest = drop (length (encode_utf8 y)) (x ∷ xs) in
            fails_first _ _ _ _ (short_fails y rest (unskipped h) (flags_fault s.rules again (length xs) rest 0) (flags_pass s.rules again (length xs) rest 0))

    -- any word but `--` and the options
    pub word_fails : (word : Text) (h : Held) → bytes_eq word (codes "--") ≡ false → option_map_or (λ p. is_option p.0) (long_of word) false ≡ false → TurnFails position word (unskipped h)
    word_fails word h no_dashes no_option = rw no_dashes (go (long_of word) no_option)
      where
        go_short : (o : Option Text)
            → Fails (or_else (option_map_or (λ flags. bundle_fault s.rules again flags (unskipped h)) o []) (step_fault s position (short_or_plain s.rules idle word o (unskipped h)).0 (short_or_plain s.rules idle word o (unskipped h)).1))
            (option_map_or (λ flags. bundle_passes s.rules again flags (unskipped h)) o true && step_passes s position (short_or_plain s.rules idle word o (unskipped h)).0 (short_or_plain s.rules idle word o (unskipped h)).1)
        go_short None = value_fails (unskipped h)
        go_short (Some flags) = flags_fail word flags h

        go : (l : Option (Text × Option Text)) → option_map_or (λ p. is_option p.0) l false ≡ false
            → Fails (or_else (flag_word_fault s.rules again l word (unskipped h)) (step_fault s position (long_or_other s.rules idle word l (unskipped h)).0 (long_or_other s.rules idle word l (unskipped h)).1))
            (flag_word_passes s.rules again l word (unskipped h) && step_passes s position (long_or_other s.rules idle word l (unskipped h)).0 (long_or_other s.rules idle word l (unskipped h)).1)
        go None none = go_short (short_of word)
        go (Some p) none = fails_first _ _ _ _ (long_fails p word (unskipped h) none)

-- ---- a level

pub and_true : (p : Bool) → (p && true) ≡ p
and_true true = refl
and_true false = refl

pub and_false : (p : Bool) → (p && false) ≡ false
and_false true = refl
and_false false = refl

-- where a word fails, the level does
pub level_fails : (s : Shape) (names : Names) (words : List Text) (has : Bool) (below : Kinds) (p : Bool) → Fails (walk_fault s names (walk_from nothing_held) words) (walk_passes s names (walk_from nothing_held) words)
    → Fails (level_fault s names nothing_held words has below) (p && level_passes s names nothing_held words has)
level_fails s names words has below p f = record { fault = λ e. f.fault (first_none _ _ e); test = rw f.test (and_false p) }

-- a word that fails, and the words after it
pub turn_first : (s : Shape) (names : Names) (w : Walk) (word : Text) (rest : List Text) → Fails (turn_fault s names w word) (turn_passes s names w word)
    → Fails (walk_fault s names w (word ∷ rest)) (walk_passes s names w (word ∷ rest))
unfolding walk_fault walk_passes
turn_first s names w word rest f = fails_first _ _ _ _ f

pub turn_second : (s : Shape) (names : Names) (w : Walk) (word : Text) (rest : List Text)
    → Fails (walk_fault s names (walked s.rules names w word) rest) (walk_passes s names (walked s.rules names w word) rest)
    → Fails (walk_fault s names w (word ∷ rest)) (walk_passes s names w (word ∷ rest))
unfolding walk_fault walk_passes
turn_second s names w word rest f = fails_second _ _ _ _ f

-- once a subcommand was met, no word fails
pub stopped_passes : (s : Shape) (names : Names) (w : Walk) (p : Text × List Text) (words : List Text) → walk_passes s names (record w { stopped = Some p }) words ≡ true
unfolding walk_passes walked
stopped_passes s names w p [] = refl
stopped_passes s names w p (x ∷ xs) = stopped_passes s names w (p.0, p.1 ++ x ∷ []) xs
