-- From what a parse found to what the words spell.
use Rattle.std.proofs.Common.{◌≡◌, ◌∙◌, ◌<◌, ◌≤◌, ◌^◌, ◌%◌, ◌||◌, ℕ, Bool, nat_eq, arith, true, false, eqb-true, refl, sym, ap, ap₂, subst, List, [], Option, Some, None, Result, Ok, Err, inl, inr, codes, option_and_then, option_map, true≢false}
use Rattle.std.specs.Prelude.{Box, IfOk, IfSome, IsSome, MatchOption, pos, unwrap_or}
use Rattle.std.specs.Option.{option_map_or}
use Rattle.std.specs.Str.{bytes_eq}
use Rattle.std.specs.Box.{box_value}
use Rattle.std.specs.Str.Parse.{ParsesUnsigned}
use Rattle.clap.specs.Values.{Accepts, IsSignedIn, read_as, reading_of}
use Rattle.clap.specs.Lexer.{without_minus}
use Rattle.clap.specs.Facts.{parser_of_value}
use Rattle.clap.specs.Takes.{value_passes}
use Rattle.clap.specs.Walk.{Rule, reading_by}
use Rattle.clap.specs.Words.{App, HasMatchesOf, ReadsOne, Row, Text, fault_of, first_of, is_simple, is_simple_and_free, one_of, one_text, rows_of, subcommand_name_of, subcommand_of, subcommand_rows, subcommand_rows_of}
use Rattle.clap.specs.declared.builder.value_parser.ValueParser.{ValueParser}
use Rattle.clap.specs.declared.builder.value_parser.ValueParser.TheVariants.{Signed}
use Rattle.clap.specs.declared.parser.matches.ArgMatches.{ArgMatches}
use Rattle.clap.specs.declared.parser.matches.Found.{Found}
use Rattle.clap.specs.declared.parser.matches.SubCommand.{SubCommand}
use Rattle.clap.specs.declared.parser.matches.ArgMatches.TheViews.{out-ArgMatches, out-SubCommand}
use Rattle.clap.proofs.CallerReads.{signed_reads}
use Rattle.clap.proofs.ValueTestLemmas.{accepts-Accepts}
use Rattle.clap.proofs.WalkLemmas.{one_text-rows}
use Rattle.wb_basics.specs.declared.limits.TheConstants.{CEILING, LARGEST_BUDGET, LARGEST_MINIMUM, SMALLEST_STEP, LARGEST_STEP}
use Rattle.wb_heap_model.specs.declared.heap.Shape.{Shape}
use Rattle.wb_command_line.specs.Command.{is_sixteenfold}
use Rattle.wb_command_line.specs.CommandLine.{command_line, joined_level}
use Rattle.wb_command_line.specs.Fault.{IsAfterUsage, IsFaultOf, IsFaultOfOptions}
use Rattle.wb_command_line.specs.Spelled.{IsMeantBy, IsSpelledBy, are_several, command_of, decimal, disorders, doubles, flag_of, gives_several_numbers, mislists, number_of, numbered_rule_of, rule_by, spell_both, spell_disorder, spell_no_list, spelled}
use Rattle.wb_command_line.specs.Subcommands.{Subcommand, subcommand_named}
use Rattle.wb_command_line.specs.declared.command_line.following.TheConstants.{MOST_FOLLOWED}
use Rattle.wb_command_line.specs.declared.command_line.sets.TheConstants.{MOST_STATES, MOST_TOGETHER}
use Rattle.wb_command_line.specs.declared.command.Command.{Command}
use Rattle.wb_command_line.specs.declared.command.CommandFault.{CommandFault}
use Rattle.wb_command_line.specs.declared.command.CommandFault.TheVariants.{Usage, Both, Also, Range, NoMemory}
use Rattle.wb_command_line.specs.declared.command.CommandFault.TheVariants as F
use Rattle.wb_command_line.proofs.CommandLineLemmas.{one_is_met, text_is}
use Rattle.wb_command_line.proofs.LevelLemmas.{all_rule, also_rule, brief_rule, budget_rule, ends_rule, every_rule, fail_from_rule, fail_rule, failures_rule, follow_around_rule, follow_rule, follow_steps_rule, from_rule, json_rule, level_wide, limit_rule, min_rule, moving_rule, only_all, only_also, only_brief, only_budget, only_ends, only_every, only_fail, only_fail_from, only_failures, only_follow, only_follow_around, only_follow_steps, only_from, only_json, only_limit, only_min, only_moving, only_pairs, only_persistent, only_quiet, only_rates, only_sets, only_states, only_step, only_to, pairs_rule, persistent_rule, quiet_rule, rates_rule, sets_rule, states_rule, step_rule, to_rule}
use Rattle.wb_command_line.specs.Passed.{RowsPass}
use Rattle.wb_command_line.proofs.PassedValues.{IsOnly, PassedAs, first_passed}

-- the words have no fault, by them and by the parse the subcommand is one of the list with these rows, and their values
-- passed
pub record MeetsParse (words : List Text) (m : ArgMatches) : Type 0 where
  pub faultless : fault_of command_line words ≡ []
  pub subcommand : Subcommand
  pub named : subcommand_named subcommand.name ≡ Some subcommand
  pub rows : List Row
  pub by_words : subcommand_of command_line words ≡ Some (subcommand.name, rows)
  pub by_parse : subcommand_rows_of m ≡ Some (subcommand.name, rows)
  pub passed : RowsPass joined_level.rules rows

pub meets_parse : (words : List Text) (a : App) (m : ArgMatches) → a ≡ command_line → (is_simple_and_free a ≡ true → fault_of a words ≡ []) → HasMatchesOf a words m → MeetsParse words m
meets_parse words a m line no_fault matches =
    let faultless = ap (λ b. fault_of b words) (sym line) ∙ no_fault (ap is_simple_and_free line) in
    let met = one_is_met words faultless in record {
      faultless = faultless;
      subcommand = met.subcommand;
      named = met.is_one.named;
      rows = met.rows;
      by_words = met.meaning;
      by_parse = (matches (ap is_simple line)).1 ∙ ap (λ b. subcommand_of b words) line ∙ met.meaning;
      passed = level_wide met.subcommand.name met.subcommand.takes met.rows met.passed;
    }

named_rows : {Z : Type 0} (o : Option (Box SubCommand Z)) → option_map (λ b. (out-SubCommand (box_value b)).name.now) o ≡ option_map (λ (p : Text × List Row). p.0) (subcommand_rows o)
named_rows None = refl
named_rows (Some b) = refl

pub name_met : (words : List Text) (m : ArgMatches) → (met : MeetsParse words m) → subcommand_name_of m ≡ Some met.subcommand.name
name_met words m met = named_rows (out-ArgMatches m).subcommand ∙ ap (option_map (λ p. p.0)) met.by_parse

-- what the parse has of the subcommand: these are its name and its rows
pub record IsParsed (words : List Text) (m : ArgMatches) (name : Text) (rows : List Row) : Type 0 where
  pub faultless : fault_of command_line words ≡ []
  pub named : IsSome (subcommand_named name)
  pub passed : RowsPass joined_level.rules rows
  pub meaning : spelled words ≡ command_of (name, rows)
  pub mislisted : spell_no_list words ≡ mislists name rows
  pub doubled : spell_both words ≡ doubles name rows
  pub disordered : spell_disorder words ≡ disorders name rows

pub is_parsed : (words : List Text) (m : ArgMatches) → MeetsParse words m → (name : Text) (rows : List Row)
    → Some name ≡ subcommand_name_of m → Some rows ≡ option_map (λ (p : Text × List Row). p.1) (subcommand_rows_of m) → IsParsed words m name rows
is_parsed words m met name rows is_name are_rows =
    let same_name : Some name ≡ Some met.subcommand.name = is_name ∙ name_met words m met in
    let same_rows : Some rows ≡ Some met.rows = are_rows ∙ ap (option_map (λ (p : Text × List Row). p.1)) met.by_parse in
    let called : met.subcommand.name ≡ name = cc in
    let are : met.rows ≡ rows = cc in
    let both : subcommand_of command_line words ≡ Some (name, rows) = met.by_words ∙ ap₂ (λ t l. Some (t, l)) called are in
    record {
      faultless = met.faultless;
      named = subst (λ t. IsSome (subcommand_named t)) called (rw met.named refl);
      passed = subst (RowsPass joined_level.rules) are met.passed;
      meaning = ap (option_and_then command_of) both;
      mislisted = ap (λ (o : Option (Text × List Row)). option_map_or (λ p. mislists p.0 p.1) o false) both;
      doubled = ap (λ (o : Option (Text × List Row)). option_map_or (λ p. doubles p.0 p.1) o false) both;
      disordered = ap (λ (o : Option (Text × List Row)). option_map_or (λ p. disorders p.0 p.1) o false) both;
    }

-- a command that the options mean is spelled by the words, and their fault is one of the words
module _ (words : List Text) (m : ArgMatches) (name : Text) (rows : List Row) (met : IsParsed words m name rows) where
  pub spelled_by : (command : Command) → IsMeantBy name rows command → IsSpelledBy words command
  spelled_by command meant = record {
    faultless = met.faultless;
    listed = met.mislisted ∙ meant.listed;
    one_rule = met.doubled ∙ meant.one_rule;
    in_order = met.disordered ∙ meant.in_order;
    meaning = met.meaning ∙ meant.meaning;
  }

  pub if_spelled : (r : Result Command CommandFault) → IfOk r (IsMeantBy name rows) → IfOk r (IsSpelledBy words)
  if_spelled (Ok command) meant = spelled_by command meant
  if_spelled (Err fault) meant = tt

  pub fault_by : (fault : CommandFault) → IsFaultOfOptions name rows fault → IsFaultOf words fault
  fault_by (Usage e) bad = inr (bad.0, record { faultless = met.faultless; mislisted = met.mislisted ∙ bad.1 })
  fault_by Both bad = record { faultless = met.faultless; listed = met.mislisted ∙ bad.listed; doubled = met.doubled ∙ bad.doubled }
  fault_by Also bad = record { faultless = met.faultless; listed = met.mislisted ∙ bad.listed; one_rule = met.doubled ∙ bad.one_rule; disordered = met.disordered ∙ bad.disordered }
  fault_by F.Shape bad = record { command = bad.command; spelled = spelled_by bad.command bad.meant; misshapen = bad.misshapen }
  fault_by Range bad = record { command = bad.command; spelled = spelled_by bad.command bad.meant; shapely = bad.shapely; empty = bad.empty }
  fault_by NoMemory want = tt

  pub after_usage : spell_no_list words ≡ false → (fault : CommandFault) → IsFaultOfOptions name rows fault → IsAfterUsage fault
  after_usage list (Usage e) bad = absurd (true≢false (sym (met.mislisted ∙ bad.1) ∙ list))
  after_usage list Both doubled = inl refl
  after_usage list Also bad = inr (inl refl)
  after_usage list F.Shape bad = inr (inr (inl refl))
  after_usage list Range bad = inr (inr (inr (inl refl)))
  after_usage list NoMemory want = inr (inr (inr (inr refl)))

-- ---- numbers

-- what was read of an option is the number that it was given, in its range
pub record IsNumberOf (id : Text) (rows : List Row) (low high : ℕ) (r : Option ℕ) : Type 0 where
  pub is : r ≡ number_of id rows
  pub within : IfSome r (λ n. (low ≤ n) × (n ≤ high))

-- of the four that give a rule, without a second number
pub record IsRuleRead (rows : List Row) (l n r f : Option ℕ) : Type 0 where
  pub limit : IsNumberOf (codes "limit") rows 0 CEILING l
  pub number : IsNumberOf (codes "fail") rows 0 CEILING n
  pub rate : IsNumberOf (codes "every") rows 0 CEILING r
  pub first : IsNumberOf (codes "fail-from") rows 0 CEILING f

-- and no greater than the greatest length of a heap
pub low_enough : (id : Text) (rows : List Row) (r : Option ℕ) → IsNumberOf id rows 0 CEILING r → IfSome r (λ n. n ≤ CEILING)
low_enough id rows None read = tt
low_enough id rows (Some n) read = read.within.1

module _ (E : Type 0) (G : List ℕ → Result ℕ E → Type 0) (parses : (u : List ℕ) (x : Result ℕ E) → G u x → ParsesUnsigned 32 10 u x) where
  read_is_decimal : (u : Text) (n : ℕ) → G u (Ok n) → n ≡ decimal u
  read_is_decimal u n g = (parses u (Ok n) g).1

  pub number_is : (c : List Rule) (id : Text) (a : Rule) (low high : ℕ) (f : Found) (r : Option ℕ)
      → a.parser ≡ Some (Signed (pos low) (pos high)) → high < 2 ^ 32 → IsOnly c id a → RowsPass c (rows_of f)
      → (one_text f id ≡ None → r ≡ None) → ((t : Text) → one_text f id ≡ Some t → ReadsOne G t r) → IsNumberOf id (rows_of f) low high r
  number_is c id a low high f r parser fits only passed none value = go (first_of id (rows_of f)) (first_passed c id a (rows_of f) only passed)
    where
      given : (t : Text) → PassedAs a t (one_of id (rows_of f)) → IsNumberOf id (rows_of f) low high r
      given t p =
          let as_read : one_of id (rows_of f) ≡ Some (without_minus t) =
          p.as_read ∙ ap (λ (o : Option ValueParser). Some (read_as (reading_of (parser_of_value o)) t)) parser in
          let accepted : IsSignedIn (pos low) (pos high) t =
          subst (λ (o : Option ValueParser). Accepts a.ignore_case (parser_of_value o) t) parser (accepts-Accepts a.ignore_case (parser_of_value a.parser) t p.passed) in
          let one = value (without_minus t) (one_text-rows f id ∙ as_read) in
          let got = signed_reads E G 32 low high t r one parses fits accepted in
          let number : got.0 ≡ decimal (without_minus t) = read_is_decimal (without_minus t) got.0 (subst (λ (o : Option ℕ). ReadsOne G (without_minus t) o) got.1 one) in
          record {
            is = got.1 ∙ ap (λ n. Some n) number ∙ ap (option_map decimal) (sym as_read);
            within = rw got.1 (got.2, got.3);
          }

      go : (o : Option Text) → MatchOption o (one_of id (rows_of f) ≡ None) (λ t. PassedAs a t (one_of id (rows_of f))) → IsNumberOf id (rows_of f) low high r
      go None absent =
          let is_none : r ≡ None = none (one_text-rows f id ∙ absent) in
          record { is = is_none ∙ ap (option_map decimal) (sym absent); within = rw is_none tt }
      go (Some t) p = given t p

  -- of each option
  abbrev OptionRead : Text → ℕ → ℕ → Type 0
  OptionRead id low high = (f : Found) (r : Option ℕ) → RowsPass joined_level.rules (rows_of f)
      → (one_text f id ≡ None → r ≡ None) → ((t : Text) → one_text f id ≡ Some t → ReadsOne G t r) → IsNumberOf id (rows_of f) low high r

  pub limit_is : OptionRead (codes "limit") 0 CEILING
  limit_is f r passed = number_is joined_level.rules (codes "limit") limit_rule 0 CEILING f r refl (omega arith) only_limit passed

  pub fail_is : OptionRead (codes "fail") 0 CEILING
  fail_is f r passed = number_is joined_level.rules (codes "fail") fail_rule 0 CEILING f r refl (omega arith) only_fail passed

  pub also_is : OptionRead (codes "also") 0 CEILING
  also_is f r passed = number_is joined_level.rules (codes "also") also_rule 0 CEILING f r refl (omega arith) only_also passed

  pub every_is : OptionRead (codes "every") 0 CEILING
  every_is f r passed = number_is joined_level.rules (codes "every") every_rule 0 CEILING f r refl (omega arith) only_every passed

  pub fail_from_is : OptionRead (codes "fail-from") 0 CEILING
  fail_from_is f r passed = number_is joined_level.rules (codes "fail-from") fail_from_rule 0 CEILING f r refl (omega arith) only_fail_from passed

  pub follow_steps_is : OptionRead (codes "follow-steps") 1 MOST_FOLLOWED
  follow_steps_is f r passed = number_is joined_level.rules (codes "follow-steps") follow_steps_rule 1 MOST_FOLLOWED f r refl (omega arith) only_follow_steps passed

  pub follow_around_is : OptionRead (codes "follow-around") 1 CEILING
  follow_around_is f r passed = number_is joined_level.rules (codes "follow-around") follow_around_rule 1 CEILING f r refl (omega arith) only_follow_around passed

  pub failures_is : OptionRead (codes "failures") 1 MOST_TOGETHER
  failures_is f r passed = number_is joined_level.rules (codes "failures") failures_rule 1 MOST_TOGETHER f r refl (omega arith) only_failures passed

  pub states_is : OptionRead (codes "states") 1 MOST_STATES
  states_is f r passed = number_is joined_level.rules (codes "states") states_rule 1 MOST_STATES f r refl (omega arith) only_states passed

  pub from_is : OptionRead (codes "from") 0 CEILING
  from_is f r passed = number_is joined_level.rules (codes "from") from_rule 0 CEILING f r refl (omega arith) only_from passed

  pub to_is : OptionRead (codes "to") 0 CEILING
  to_is f r passed = number_is joined_level.rules (codes "to") to_rule 0 CEILING f r refl (omega arith) only_to passed

  pub budget_is : OptionRead (codes "budget") 1 LARGEST_BUDGET
  budget_is f r passed = number_is joined_level.rules (codes "budget") budget_rule 1 LARGEST_BUDGET f r refl (omega arith) only_budget passed

  pub min_is : OptionRead (codes "min") 0 LARGEST_MINIMUM
  min_is f r passed = number_is joined_level.rules (codes "min") min_rule 0 LARGEST_MINIMUM f r refl (omega arith) only_min passed

  pub step_is : OptionRead (codes "step") SMALLEST_STEP LARGEST_STEP
  step_is f r passed = number_is joined_level.rules (codes "step") step_rule SMALLEST_STEP LARGEST_STEP f r refl (omega arith) only_step passed

  -- of the options that give a rule, without a second number
  pub rule_read : (f : Found) (limit number rate first : Option ℕ) → RowsPass joined_level.rules (rows_of f)
      → (one_text f (codes "limit") ≡ None → limit ≡ None) → ((t : Text) → one_text f (codes "limit") ≡ Some t → ReadsOne G t limit)
      → (one_text f (codes "fail") ≡ None → number ≡ None) → ((t : Text) → one_text f (codes "fail") ≡ Some t → ReadsOne G t number)
      → (one_text f (codes "every") ≡ None → rate ≡ None) → ((t : Text) → one_text f (codes "every") ≡ Some t → ReadsOne G t rate)
      → (one_text f (codes "fail-from") ≡ None → first ≡ None) → ((t : Text) → one_text f (codes "fail-from") ≡ Some t → ReadsOne G t first)
      → IsRuleRead (rows_of f) limit number rate first
  rule_read f limit number rate first passed no_limit a_limit no_number a_number no_rate a_rate no_first a_first = record {
    limit = limit_is f limit passed no_limit a_limit;
    number = fail_is f number passed no_number a_number;
    rate = every_is f rate passed no_rate a_rate;
    first = fail_from_is f first passed no_first a_first;
  }

-- the rule that is spelled, by what was read of the four, and whether more than one was
module _ {rows : List Row} {l n r f : Option ℕ} (read : IsRuleRead rows l n r f) where
  pub rule_as : rule_by l n None r f None ≡ numbered_rule_of rows
  rule_as = λ i. rule_by (read.limit.is i) (read.number.is i) None (read.rate.is i) (read.first.is i) None

  pub several_as : are_several l n r f ≡ gives_several_numbers rows
  several_as = λ i. are_several (read.limit.is i) (read.number.is i) (read.rate.is i) (read.first.is i)

-- what stands for a flag is `true` or `false`, where anything does
flag_is : (id : Text) (a : Rule) → IsOnly joined_level.rules id a → ((t : Text) → value_passes a t ≡ true → (bytes_eq t (codes "true") || bytes_eq t (codes "false")) ≡ true) → reading_by a ≡ reading_by json_rule
    → (f : Found) (r : Bool) → RowsPass joined_level.rules (rows_of f) → (one_text f id ≡ None → r ≡ false)
    → (one_text f id ≡ Some (codes "true") → r ≡ true) → (one_text f id ≡ Some (codes "false") → r ≡ false)
    → r ≡ flag_of id (rows_of f)
flag_is id a only is_flag reads f r passed none set unset = go (first_of id (rows_of f)) (first_passed joined_level.rules id a (rows_of f) only passed)
  where
    told : (o : Option Text) (b : Bool) → one_of id (rows_of f) ≡ o → option_map_or (bytes_eq (codes "true")) o false ≡ b
        → (one_text f id ≡ o → r ≡ b) → r ≡ flag_of id (rows_of f)
    told o b read means gives = gives (one_text-rows f id ∙ read) ∙ sym means ∙ ap (λ x. option_map_or (bytes_eq (codes "true")) x false) (sym read)

    given : (t : Text) → one_of id (rows_of f) ≡ Some t → (bytes_eq t (codes "true") || bytes_eq t (codes "false")) ≡ true
        → r ≡ flag_of id (rows_of f)
    given t read accepted = by (bytes_eq t (codes "true")) refl
      where
        by : (b : Bool) → bytes_eq t (codes "true") ≡ b → r ≡ flag_of id (rows_of f)
        by true is = told (Some (codes "true")) true (read ∙ ap (λ x. Some x) (text_is t (codes "true") is)) refl set
        by false isnt = told (Some (codes "false")) false (read ∙ ap (λ x. Some x) (text_is t (codes "false") (rw isnt at accepted))) refl unset

    go : (o : Option Text) → MatchOption o (one_of id (rows_of f) ≡ None) (λ t. PassedAs a t (one_of id (rows_of f)))
        → r ≡ flag_of id (rows_of f)
    go None absent = told None false absent refl none
    go (Some t) p = given t (p.as_read ∙ ap (λ h. Some (read_as h t)) reads) (is_flag t p.passed)

-- of each flag
abbrev FlagRead : Text → Type 0
FlagRead id = (f : Found) (r : Bool) → RowsPass joined_level.rules (rows_of f) → (one_text f id ≡ None → r ≡ false)
    → (one_text f id ≡ Some (codes "true") → r ≡ true) → (one_text f id ≡ Some (codes "false") → r ≡ false) → r ≡ flag_of id (rows_of f)

pub json_is : FlagRead (codes "json")
json_is = flag_is (codes "json") json_rule only_json (λ t passed. passed) refl

pub quiet_is : FlagRead (codes "quiet")
quiet_is = flag_is (codes "quiet") quiet_rule only_quiet (λ t passed. passed) refl

pub brief_is : FlagRead (codes "brief")
brief_is = flag_is (codes "brief") brief_rule only_brief (λ t passed. passed) refl

pub moving_is : FlagRead (codes "moving")
moving_is = flag_is (codes "moving") moving_rule only_moving (λ t passed. passed) refl

pub follow_is : FlagRead (codes "follow")
follow_is = flag_is (codes "follow") follow_rule only_follow (λ t passed. passed) refl

pub rates_is : FlagRead (codes "rates")
rates_is = flag_is (codes "rates") rates_rule only_rates (λ t passed. passed) refl

pub persistent_is : FlagRead (codes "persistent")
persistent_is = flag_is (codes "persistent") persistent_rule only_persistent (λ t passed. passed) refl

pub pairs_is : FlagRead (codes "pairs")
pairs_is = flag_is (codes "pairs") pairs_rule only_pairs (λ t passed. passed) refl

pub all_is : FlagRead (codes "all")
all_is = flag_is (codes "all") all_rule only_all (λ t passed. passed) refl

pub ends_is : FlagRead (codes "ends")
ends_is = flag_is (codes "ends") ends_rule only_ends (λ t passed. passed) refl

pub sets_is : FlagRead (codes "sets")
sets_is = flag_is (codes "sets") sets_rule only_sets (λ t passed. passed) refl

-- the number of an option, or the default, in its range
pub record IsGivenOr (id : Text) (rows : List Row) (low high default n : ℕ) : Type 0 where
  pub is : n ≡ unwrap_or (number_of id rows) default
  pub least : low ≤ n
  pub most : n ≤ high

pub given_or : (id : Text) (rows : List Row) (low high default n : ℕ) (r : Option ℕ) → IsNumberOf id rows low high r → low ≤ default → default ≤ high → n ≡ unwrap_or r default
    → IsGivenOr id rows low high default n
given_or id rows low high default n r read least most is =
    let within = go r read.within in
    record { is = is ∙ ap (λ o. unwrap_or o default) read.is; least = rw is within.0; most = rw is within.1 }
  where
    go : (o : Option ℕ) → IfSome o (λ m. (low ≤ m) × (m ≤ high)) → (low ≤ unwrap_or o default) × (unwrap_or o default ≤ high)
    go None w = (least, most)
    go (Some m) w = w

pub not_sixteenfold : (shape : Shape) → (shape.min % 16 ≡ 0 → shape.step % 16 ≡ 0 → ⊥) → is_sixteenfold shape ≡ false
not_sixteenfold shape misshapen = go (nat_eq (shape.min % 16) 0) refl (nat_eq (shape.step % 16) 0) refl
  where
    go : (a : Bool) → nat_eq (shape.min % 16) 0 ≡ a → (b : Bool) → nat_eq (shape.step % 16) 0 ≡ b → is_sixteenfold shape ≡ false
    go true x true y = absurd (misshapen (eqb-true _ _ x) (eqb-true _ _ y))
    go true x false y = rw (x, y) refl
    go false x b y = rw x refl
