-- Where clap's meaning finds no fault in the words of a level without subcommands, each value read there passed the
-- parser of its argument. For levels where no argument counts or collects its uses, and none may be used twice.
use Rattle.std.proofs.Common.{◌≡◌, ◌&&◌, inl, inr, ℕ, Bool, cond, true, false, zero, suc, arith, refl, sym, subst, List, [], ◌∷◌, length, drop, Option, Some, None, fold, true≢false}
use Rattle.std.specs.Prelude.{⊤, encode_utf8, slice_get, is_some}
use Rattle.std.proofs.lemmas.Bool.{ne_eqb}
use Rattle.std.specs.Option.{option_map_or}
use Rattle.std.specs.Str.{bytes_eq, chars}
use Rattle.clap.specs.Lexer.{long_of, short_of}
use Rattle.clap.specs.Facts.{unwrap_or_range}
use Rattle.clap.specs.Walk.{Held, Outcome, Row, Rule, Step, Text, Waiting, Walk, action_of, after_flag, arg_by_id, arg_by_index, arg_by_long, arg_by_short, attached_value, bundle_met, default_rows, flag_met, has_row, idle, is_empty, is_pending, long_met, long_or_other, most_values, next, nothing_held, option, option_met, plain, plain_word, positional, positional_held, reacted, reading_by, rows_after, settled, settled_rows, short_or_plain, subcommand, subcommand_met, takes_several, takes_values, to_positional, trailing, used, used_by_id, done, waits, refused, bundle, bundle_step, short_met, option_word, after_step, walked_from, value, values_or_missing, walk, walk_from, walked, with_default, with_values, without, word_met}
use Rattle.wb_command_line.specs.Passed.{IsIn, RowPasses, RowsPass}
use Rattle.clap.specs.Simple.{Shape}
use Rattle.clap.specs.Kinds.{or_else, range_kinds, request_kinds}
use Rattle.clap.specs.Faults.{action_fault, default_fault, defaults_fault, flags_fault, level_fault, long_fault, option_fault, positional_fault, react_fault, set_fault, settle_fault, step_fault, turn_fault, use_fault, bundle_fault, bundle_step_fault, flag_word_fault, stray_fault, short_fault, values_fault, walk_fault, word_fault}
use Rattle.clap.specs.Takes.{values_pass}
use Rattle.clap.specs.declared.builder.action.ArgAction.{ArgAction}
use Rattle.clap.specs.declared.builder.action.ArgAction.TheVariants as action
use Rattle.clap.specs.declared.error.kind.ErrorKind.TheVariants as kind
use Rattle.clap.specs.declared.parser.matches.ValueSource.{ValueSource}
use Rattle.clap.specs.declared.parser.matches.ValueSource.TheVariants.{DefaultValue, CommandLine}
use Rattle.wb_command_line.proofs.PassedRows.{are_single, is_single, faultless_values, first_default, first_use, found_in, neither, no_kind, one_more, same_text, single_in}

-- ---- one use

module _ (c : List Rule) (single : are_single c ≡ true) where
  abbrev Good : List Row → Type 0
  Good rows = RowsPass c rows

  row_passes : (a : Rule) (s : ValueSource) (values : List Text) → IsIn a c → values_pass a values ≡ true
      → RowPasses c (record { id = a.id; values = values; count = None; source = Some s; reading = reading_by a })
  row_passes a s values is_in pass = (a, is_in, record { id = same_text a.id; reading = refl; values = pass })

  set_passes : (a : Rule) (values : List Text) (rows : List Row) → IsIn a c → set_fault false a values rows ≡ [] → Good rows
      → Good (with_values a.id (reading_by a) CommandLine values (without a.id rows))
  set_passes a values rows is_in e good = go (has_row a.id rows) refl
    where
      go : (b : Bool) → has_row a.id rows ≡ b → Good (with_values a.id (reading_by a) CommandLine values (without a.id rows))
      go true is = absurd (no_kind _ _ (rw is at e))
      go false isnt =
          let pass = faultless_values a values (rw isnt at e) in
          subst Good (sym (first_use a.id (reading_by a) CommandLine values rows isnt)) (one_more c rows _ good (row_passes a CommandLine values is_in pass))

  used_passes : (a : Rule) (values : List Text) (rows : List Row) → IsIn a c → use_fault false a values rows ≡ [] → Good rows → Good (used a values rows)
  used_passes a values rows is_in e good = go (action_of a) refl (single_in c a single is_in) (neither (range_kinds (unwrap_or_range a.range).start_inclusive (most_values a) (length values)) _ e).1
    where
      vs : List Text
      vs = values_or_missing a values

      go : (x : ArgAction) → action_of a ≡ x → is_single (action_of a) ≡ true → action_fault (action_of a) false a (values_or_missing a values) rows ≡ [] → Good (used a values rows)
      go action.Set is one f = rw is (set_passes a vs rows is_in (rw is at f) good)
      go action.SetTrue is one f = rw is (set_passes a vs rows is_in (rw is at f) good)
      go action.SetFalse is one f = rw is (set_passes a vs rows is_in (rw is at f) good)
      go action.Append is one f = absurd (true≢false (sym (rw is at one)))
      go action.Count is one f = absurd (true≢false (sym (rw is at one)))
      go action.Help is one f = rw is good
      go action.HelpShort is one f = rw is good
      go action.HelpLong is one f = rw is good
      go action.Version is one f = rw is good

  settled_passes : (h : Held) → settle_fault c false h ≡ [] → Good h.rows → Good (settled c h).rows
  settled_passes h e good = go h.pending refl
    where
      used_by : (p : Text × List Text) (o : Option Rule) → arg_by_id c p.0 ≡ o → option_map_or (λ a. use_fault false a p.1 h.rows) o [] ≡ [] → Good (used_by_id o p.1 h.rows)
      used_by p None is f = good
      used_by p (Some a) is f = used_passes a p.1 h.rows (found_in _ c a is) f good

      go : (o : Option (Text × List Text)) → h.pending ≡ o → Good (settled_rows c h.pending h.rows)
      go None is = rw is good
      go (Some p) is = rw is (used_by p (arg_by_id c p.0) refl (rw is at e))

  reacted_passes : (a : Rule) (values : List Text) (h : Held) → IsIn a c → react_fault c false a values h ≡ [] → Good h.rows → Good (reacted c a values h).rows
  reacted_passes a values h is_in e good =
      let parts = neither (settle_fault c false h) _ e in
      used_passes a values (settled c h).rows is_in parts.1 (settled_passes h parts.0 good)

  -- ---- one word

  option_passes : (a : Rule) (v : Option Text) (h : Held) → IsIn a c → option_fault c false a v h ≡ [] → Good h.rows → Good (option_met c a v h).0.rows
  option_passes a (Some v) h is_in e good = reacted_passes a (v ∷ []) h is_in e good
  option_passes a None h is_in e good = settled_passes h e good

  flag_passes : (a : Rule) (v : Option Text) (h : Held) → IsIn a c → cond (is_some v) (kind.TooManyValues ∷ []) (react_fault c false a [] h) ≡ [] → Good h.rows → Good (flag_met c a v h).0.rows
  flag_passes a (Some v) h is_in e good = good
  flag_passes a None h is_in e good = reacted_passes a [] h is_in e good

  long_passes : (name : Text) (v : Option Text) (h : Held) → long_fault c false (arg_by_long c name) v h ≡ [] → Good h.rows → Good (long_met c (arg_by_long c name) v h).0.rows
  long_passes name v h = go (arg_by_long c name) refl
    where
      by_kind : (a : Rule) → IsIn a c → (b : Bool) → takes_values a ≡ b → long_fault c false (Some a) v h ≡ [] → Good h.rows → Good (long_met c (Some a) v h).0.rows
      by_kind a is_in true is e good = rw is (option_passes a v h is_in (rw is at e) good)
      by_kind a is_in false is e good = rw is (flag_passes a v h is_in (rw is at e) good)

      go : (o : Option Rule) → arg_by_long c name ≡ o → long_fault c false o v h ≡ [] → Good h.rows → Good (long_met c o v h).0.rows
      go None is e good = good
      go (Some a) is e good = by_kind a (found_in _ c a is) (takes_values a) refl e good

  -- the characters of a word of short flags, once those after the first pass
  abbrev Later : ℕ → Type 0
  Later k = (flags : Text) (skip : ℕ) (so_far : Outcome) (h : Held) → flags_fault c false k flags skip h ≡ [] → Good h.rows → Good (bundle_met c k flags skip so_far h).0.rows

  short_passes : (k : ℕ) → Later k → (x : ℕ) (rest : Text) (h : Held) → short_fault c false (arg_by_short c x) rest h (flags_fault c false k rest 0) ≡ [] → Good h.rows
      → Good (short_met c (arg_by_short c x) rest h (bundle_met c k rest 0 done)).0.rows
  short_passes k later x rest h = go (arg_by_short c x) refl
    where
      by_kind : (a : Rule) → IsIn a c → (b : Bool) → takes_values a ≡ b
          → short_fault c false (Some a) rest h (flags_fault c false k rest 0) ≡ [] → Good h.rows → Good (short_met c (Some a) rest h (bundle_met c k rest 0 done)).0.rows
      by_kind a is_in true is e good = rw is (option_passes a (attached_value rest) h is_in (rw is at e) good)
      by_kind a is_in false is e good =
          let parts = neither (react_fault c false a [] h) _ (rw is at e) in
          rw is (later rest 0 done (reacted c a [] h) parts.1 (reacted_passes a [] h is_in parts.0 good))

      go : (o : Option Rule) → arg_by_short c x ≡ o → short_fault c false o rest h (flags_fault c false k rest 0) ≡ [] → Good h.rows
          → Good (short_met c o rest h (bundle_met c k rest 0 done)).0.rows
      go None is e good = good
      go (Some a) is e good = by_kind a (found_in _ c a is) (takes_values a) refl e good

  step_of_bundle : (k : ℕ) → Later k → (o : Option ℕ) (flags : Text) (skip : ℕ) (so_far : Outcome) (h : Held) → bundle_step_fault c false o flags skip h (flags_fault c false k) ≡ [] → Good h.rows
      → Good (bundle_step c o flags skip so_far h (bundle_met c k)).0.rows
  step_of_bundle k later None flags skip so_far h e good = good
  step_of_bundle k later (Some x) flags zero so_far h e good = short_passes k later x (drop (length (encode_utf8 x)) flags) h e good
  step_of_bundle k later (Some x) flags (suc n) so_far h e good = later (drop (length (encode_utf8 x)) flags) n so_far h e good

  bundle_passes : (k : ℕ) → Later k
  unfolding flags_fault bundle_met
  bundle_passes zero flags skip so_far h e good = good
  bundle_passes (suc k) flags skip so_far h e good = step_of_bundle k (bundle_passes k) (slice_get (chars flags) 0) flags skip so_far h e good

  plain_passes : (waiting : Waiting) (word : Text) (h : Held) → Good h.rows → Good (plain_word c waiting word h).0.rows
  plain_passes idle word h good = good
  plain_passes positional word h good = good
  plain_passes (option id) word h good = go (arg_by_id c id)
    where
      go : (o : Option Rule) → Good (option_word o id word h).0.rows
      go None = good
      go (Some a) = good

  after_passes : (waiting : Waiting) (word : Text) (h : Held) (o : Outcome) → Good h.rows → Good (after_flag c waiting word h o).0.rows
  after_passes waiting word h done good = good
  after_passes waiting word h (waits id) good = good
  after_passes waiting word h plain good = plain_passes waiting word h good
  after_passes waiting word h refused good = plain_passes waiting word h good

  -- a word that is no subcommand and not `--`
  flag_word_passes : (waiting : Waiting) (word : Text) (h : Held) → flag_word_fault c false (long_of word) word h ≡ [] → Good h.rows
      → Good (long_or_other c waiting word (long_of word) h).0.rows
  flag_word_passes waiting word h = go (long_of word)
    where
      short : (o : Option Text) → option_map_or (λ flags. bundle_fault c false flags h) o [] ≡ [] → Good h.rows → Good (short_or_plain c waiting word o h).0.rows
      short None e good = plain_passes waiting word h good
      short (Some flags) e good =
          let m = bundle c flags h in
          after_passes waiting word m.0 m.1 (bundle_passes (length flags) flags h.skip plain (record h { skip = 0 }) e good)

      go : (o : Option (Text × Option Text)) → flag_word_fault c false o word h ≡ [] → Good h.rows → Good (long_or_other c waiting word o h).0.rows
      go None e good = short (short_of word) e good
      go (Some p) e good =
          let m = long_met c (arg_by_long c p.0) p.1 h in
          after_passes waiting word m.0 m.1 (long_passes p.0 p.1 h e good)

no_subcommand : (waiting : Waiting) (word : Text) → subcommand_met [] waiting word ≡ None
no_subcommand idle word = refl
no_subcommand positional word = refl
no_subcommand (option id) word = refl

-- ---- one level

module _ (s : Shape) (single : are_single s.rules ≡ true) (once : s.args_override_self ≡ false) where
  abbrev Well : Walk → Type 0
  Well w = RowsPass s.rules w.held.rows

  word_passes : (w : Walk) (word : Text) → word_fault s [] w.is_trailing w.waiting word w.held ≡ [] → Well w
      → RowsPass s.rules (word_met s.rules [] w.is_trailing w.waiting w.position word w.held).0.rows
  word_passes w word e good = go w.is_trailing refl
    where
      by_dashes : (b : Bool) → bytes_eq word (45 ∷ 45 ∷ []) ≡ b → w.is_trailing ≡ false → RowsPass s.rules (word_met s.rules [] w.is_trailing w.waiting w.position word w.held).0.rows
      by_dashes true is ahead = rw (ahead, no_subcommand w.waiting word, is) good
      by_dashes false is ahead =
          let f = rw (ahead, no_subcommand w.waiting word, is, once) at e in
          rw (ahead, no_subcommand w.waiting word, is) (flag_word_passes s.rules single w.waiting word w.held f good)

      go : (b : Bool) → w.is_trailing ≡ b → RowsPass s.rules (word_met s.rules [] w.is_trailing w.waiting w.position word w.held).0.rows
      go true is = rw is good
      go false is = by_dashes (bytes_eq word (45 ∷ 45 ∷ [])) refl is

  -- the step that a word took
  step_passes : (w : Walk) (word : Text) (h : Held) (step : Step) → step_fault s w.position h step ≡ [] → RowsPass s.rules h.rows → Well (after_step s.rules word w h step)
  step_passes w word h (next waiting) e good = good
  step_passes w word h (trailing position) e good = good
  step_passes w word h (subcommand name) e good = good
  step_passes w word h value e good = go (arg_by_index s.rules w.position) e
    where
      here : (a : Rule) (b : Bool) → (is_pending a h.pending && takes_several a) ≡ b → positional_fault s.rules s.args_override_self a h ≡ [] → RowsPass s.rules (positional_held s.rules a word h).rows
      here a true is f = rw is good
      here a false is f = rw is (settled_passes s.rules single h (rw (is, once) at f) good)

      go : (o : Option Rule) → option_map_or (λ a. positional_fault s.rules s.args_override_self a h) o (stray_fault s) ≡ [] → Well (to_positional s.rules o word w h)
      go None f = good
      go (Some a) f = here a (is_pending a h.pending && takes_several a) refl f

  turn_passes : (w : Walk) (word : Text) → turn_fault s [] w word ≡ [] → Well w → Well (walked s.rules [] w word)
  unfolding walked
  turn_passes w word e good = go w.stopped refl
    where
      go : (o : Option (Text × List Text)) → w.stopped ≡ o → Well (walked_from s.rules [] o w word)
      go (Some p) is = good
      go None is =
          let met = word_met s.rules [] w.is_trailing w.waiting w.position word w.held in
          let parts = neither (word_fault s [] w.is_trailing w.waiting word w.held) _ (rw is at e) in
          step_passes w word met.0 met.1 parts.1 (word_passes w word parts.0 good)

  walk_passes : (words : List Text) (w : Walk) → walk_fault s [] w words ≡ [] → Well w → Well (fold (walked s.rules []) w words)
  unfolding walk_fault
  walk_passes [] w e good = good
  walk_passes (word ∷ rest) w e good =
      let parts = neither (turn_fault s [] w word) _ e in
      walk_passes rest (walked s.rules [] w word) parts.1 (turn_passes w word parts.0 good)

-- ---- the defaults, and the whole level

-- each of the rules is one of the level's
abbrev AllIn : List Rule → List Rule → Type 0
AllIn c [] = ⊤
AllIn c (a ∷ rest) = IsIn a c × AllIn c rest

wider : (c : List Rule) (x : Rule) (xs : List Rule) → AllIn c xs → AllIn (x ∷ c) xs
wider c x [] all = tt
wider c x (a ∷ rest) all = (inr all.0, wider c x rest all.1)

all_in : (c : List Rule) → AllIn c c
all_in [] = tt
all_in (x ∷ xs) = (inl refl, wider xs x xs (all_in xs))

module _ (c : List Rule) where
  default_passes : (rows : List Row) (a : Rule) → IsIn a c → default_fault rows a ≡ [] → RowsPass c rows → RowsPass c (with_default rows a)
  default_passes rows a is_in e good = go (has_row a.id rows) refl
    where
      given : (vs : List Text) → has_row a.id rows ≡ false → cond (is_empty vs) [] (or_else (request_kinds (action_of a)) (values_fault a vs)) ≡ [] → RowsPass c (default_rows a.id (reading_by a) vs rows)
      given [] isnt f = good
      given (v ∷ vs) isnt f =
          let full : is_empty (v ∷ vs) ≡ false = ne_eqb (length (v ∷ vs)) 0 (λ z. omega arith) in
          let parts = neither (request_kinds (action_of a)) (values_fault a (v ∷ vs)) (rw full at f) in
          let passed : RowPasses c (record { id = a.id; values = v ∷ vs; count = None; source = Some DefaultValue; reading = reading_by a }) =
          (a, is_in, record { id = same_text a.id; reading = refl; values = faultless_values a (v ∷ vs) parts.1 }) in
          subst (RowsPass c) (sym (first_default a.id (reading_by a) DefaultValue (v ∷ vs) rows isnt)) (one_more c rows _ good passed)

      go : (b : Bool) → has_row a.id rows ≡ b → RowsPass c (with_default rows a)
      go true is = rw is good
      go false isnt = rw isnt (given a.defaults isnt (rw isnt at e))

  defaults_pass : (xs : List Rule) (rows : List Row) → AllIn c xs → defaults_fault rows xs ≡ [] → RowsPass c rows → RowsPass c (fold with_default rows xs)
  unfolding defaults_fault
  defaults_pass [] rows all e good = good
  defaults_pass (a ∷ rest) rows all e good =
      let parts = neither (default_fault rows a) _ e in
      defaults_pass rest (with_default rows a) all.1 parts.1 (default_passes rows a all.0 parts.0 good)

-- words without fault: what was read of them passed
pub level_passed : (s : Shape) (words : List Text) → are_single s.rules ≡ true → s.args_override_self ≡ false → level_fault s [] nothing_held words false [] ≡ [] → RowsPass s.rules (rows_after s.rules [] words)
level_passed s words single once e =
    let end = (walk s.rules [] nothing_held words).held in
    let walked_well = neither (walk_fault s [] (walk_from nothing_held) words) _ e in
    let settled_well = neither (settle_fault s.rules s.args_override_self end) _ walked_well.1 in
    let filled_well = neither (defaults_fault (settled s.rules end).rows s.rules) _ settled_well.1 in
    let read : RowsPass s.rules end.rows = walk_passes s single once words (walk_from nothing_held) walked_well.0 tt in
    let settled_read : RowsPass s.rules (settled s.rules end).rows = settled_passes s.rules single end (rw once at settled_well.0) read in
    defaults_pass s.rules s.rules (settled s.rules end).rows (all_in s.rules) filled_well.0 settled_read
