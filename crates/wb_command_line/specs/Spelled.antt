-- The command that words spell, by clap's meaning of the command line. The first word is the program's name, and is not
-- looked at.
use Rattle.std.specs.Prelude.{◌≡◌, ◌&&◌, ◌||◌, ℕ, List, [], Bool, true, false, not, if◌then◌else◌, Option, Some, None, codes, is_some, option_map, option_and_then, unwrap_or}
use Rattle.std.specs.Option.{option_map_or}
use Rattle.std.specs.Str.{bytes_eq}
use Rattle.std.specs.Str.Parse.{digits_value, without_leading_plus}
use Rattle.clap.specs.Words.{Row, Text, fault_of, first_of, one_of, subcommand_of}
use Rattle.wb_runs.specs.declared.failures.Failures.{Failures}
use Rattle.wb_runs.specs.declared.failures.Failures.TheVariants as failures
use Rattle.wb_heap_model.specs.declared.heap.Rule.{Rule}
use Rattle.wb_heap_model.specs.declared.heap.Rule.TheVariants.{Every, From, Limit, Number, Pair, Set, Unlimited}
use Rattle.wb_heap_model.specs.declared.heap.Shape.{Shape}
use Rattle.wb_runs.specs.declared.part.Part.{Part}
use Rattle.wb_basics.specs.declared.limits.TheConstants.{CEILING, DEFAULT_BUDGET, DEFAULT_MINIMUM, DEFAULT_STEP}
use Rattle.wb_command_line.specs.Command.{are_in_order}
use Rattle.wb_command_line.specs.CommandLine.{command_line}
use Rattle.wb_command_line.specs.SetList.{is_list, numbers_in}
use Rattle.wb_command_line.specs.Subcommands.{Trial, subcommand_named}
use Rattle.wb_command_line.specs.declared.command_line.following.TheConstants.{DEFAULT_FOLLOWED}
use Rattle.wb_command_line.specs.declared.command_line.sets.TheConstants.{DEFAULT_STATES}
use Rattle.wb_command_line.specs.declared.command.Command.{Command}
use Rattle.wb_command_line.specs.declared.command.Task.{Task}
use Rattle.wb_command_line.specs.declared.command_line.parser.Takes.{Takes}
use Rattle.wb_command_line.specs.declared.command_line.parser.Takes.TheVariants as taking

-- what holds where the words don't say otherwise
abbrev pub default_shape : Shape
default_shape = record { min = DEFAULT_MINIMUM; step = DEFAULT_STEP; moving = false }

-- the number of a decimal text; a plus before it and leading zeros make no difference
abbrev pub decimal : Text → ℕ
decimal text = digits_value 10 (without_leading_plus text)

-- the number that an option was given, where it was given one
abbrev pub number_of : Text → List Row → Option ℕ
number_of option rows = option_map decimal (one_of option rows)

-- one of three numbers is there, whichever that is
abbrev pub is_any : Option ℕ → Option ℕ → Option ℕ → Bool
is_any a b c = is_some a || (is_some b || is_some c)

-- more than one of four is
abbrev pub are_several : Option ℕ → Option ℕ → Option ℕ → Option ℕ → Bool
are_several a b c d = (is_some a && is_any b c d) || ((is_some b && (is_some c || is_some d)) || (is_some c && is_some d))

-- more than one of a limit, the number of an attempt, a rate, and the number of the first attempt that fails is given
abbrev pub gives_several_numbers : List Row → Bool
gives_several_numbers rows =
    are_several (number_of (codes "limit") rows) (number_of (codes "fail") rows)
    (number_of (codes "every") rows) (number_of (codes "fail-from") rows)

-- the text of a set was given, and it is no list
abbrev pub gives_no_list : List Row → Bool
gives_no_list rows = option_map_or (λ text. not (is_list text)) (first_of (codes "set") rows) false

-- the numbers of a set, where one was given
abbrev pub set_of : List Row → Option (List ℕ)
set_of rows = option_map numbers_in (first_of (codes "set") rows)

-- one of the four is given
abbrev pub gives_number : List Row → Bool
gives_number rows =
    is_some (number_of (codes "limit") rows)
    || is_any (number_of (codes "fail") rows) (number_of (codes "every") rows) (number_of (codes "fail-from") rows)

-- more than one of these four and a set is given
abbrev pub gives_several : List Row → Bool
gives_several rows = gives_several_numbers rows || (is_some (set_of rows) && gives_number rows)

-- a second number is there, and no first that it comes after
abbrev pub are_disordered : Option ℕ → Option ℕ → Bool
are_disordered first second =
    option_map_or (λ j. not (option_map_or (λ i. are_in_order i j) first false)) second false

-- the number of a second attempt is given, and not that of a first that it comes after
abbrev pub gives_disorder : List Row → Bool
gives_disorder rows = are_disordered (number_of (codes "fail") rows) (number_of (codes "also") rows)

-- the attempt with the first number fails, and where a second is there, that one too
abbrev pub failing_rule : Option ℕ → ℕ → Rule
failing_rule second first = option_map_or (Pair first) second (Number first)

-- the rule of what is there of a limit, a number, a rate, the number of the first that fails and a set, where no more than one of them
-- is, and a second number only beside the first
abbrev pub rule_by : Option ℕ → Option ℕ → Option ℕ → Option ℕ → Option ℕ → Option (List ℕ) → Rule
rule_by limit number second rate first set =
    option_map_or Limit limit
    (option_map_or (failing_rule second) number
    (option_map_or Every rate (option_map_or From first (option_map_or Set set Unlimited))))

-- by what is given, beside such a second number and such a set
abbrev pub rule_beside : Option ℕ → Option (List ℕ) → List Row → Rule
rule_beside second set rows =
    rule_by (number_of (codes "limit") rows) (number_of (codes "fail") rows) second
    (number_of (codes "every") rows) (number_of (codes "fail-from") rows) set

abbrev pub rule_of : List Row → Rule
rule_of rows = rule_beside (number_of (codes "also") rows) (set_of rows) rows

-- the rule of the others, whatever second number is given
abbrev pub first_rule_of : List Row → Rule
first_rule_of rows = rule_beside None (set_of rows) rows

-- and whatever set
abbrev pub numbered_rule_of : List Row → Rule
numbered_rule_of rows = rule_beside None None rows

-- the rule lets one attempt fail, and the other comes after it
abbrev pub comes_before : Rule → ℕ → Bool
comes_before (Number first) second = are_in_order first second
comes_before _ second = false

-- the rule lets the attempt fail that the first lets fail, and this one after it
pub record IsPairOf (first : Rule) (second : ℕ) (rule : Rule) : Type 0 where
  pub number : ℕ
  pub alone : first ≡ Number number
  pub ordered : are_in_order number second ≡ true
  pub pair : rule ≡ Pair number second

-- a flag was given
abbrev pub flag_of : Text → List Row → Bool
flag_of option rows = option_map_or (bytes_eq (codes "true")) (one_of option rows) false

-- cells that grow always move where the flag asks for it
abbrev pub shape_of : List Row → Shape
shape_of rows = record {
  min = unwrap_or (number_of (codes "min") rows) default_shape.min;
  step = unwrap_or (number_of (codes "step") rows) default_shape.step;
  moving = flag_of (codes "moving") rows;
}

abbrev pub budget_of : List Row → ℕ
budget_of rows = unwrap_or (number_of (codes "budget") rows) DEFAULT_BUDGET

-- how many attempts fail together at most, where sets of so many are asked for
abbrev pub most_of : List Row → Option ℕ
most_of rows = number_of (codes "failures") rows

-- how many states may be met, if all sets are asked for
abbrev pub met_of : List Row → ℕ
met_of rows = unwrap_or (number_of (codes "states") rows) DEFAULT_STATES

-- `None` where they are not: a number without the flag asks for none
abbrev pub states_of : List Row → Option ℕ
states_of rows = if flag_of (codes "sets") rows then Some (met_of rows) else None

-- more than one is asked for of rates, failures that persist, pairs and sets; or a list of numbers together with pairs or sets
abbrev pub are_both_sorts : Bool → Bool → Bool → Bool → Bool → Bool
are_both_sorts rates persistent pairs listed sets =
    (rates && persistent) || ((pairs && (rates || (persistent || listed))) || (sets && (rates || (persistent || (pairs || listed)))))

-- so are they where all that is found is asked for, or each number's end, and sets of so many attempts, or all sets; or both of these are
abbrev pub are_too_many : Bool → Bool → Bool → Bool → Bool → Bool → Bool → Bool
are_too_many rates persistent pairs all ends few every_set =
    (few && every_set) || ((all && ends) || are_both_sorts rates persistent pairs (all || ends) (few || every_set))

-- the options of a subcommand that tries failures ask for that
abbrev pub gives_too_many : List Row → Bool
gives_too_many rows =
    are_too_many (flag_of (codes "rates") rows) (flag_of (codes "persistent") rows) (flag_of (codes "pairs") rows)
    (flag_of (codes "all") rows) (flag_of (codes "ends") rows) (is_some (most_of rows)) (is_some (states_of rows))

-- the failures that are to be tried: rates with the flag `--every`, those that persist with `--persistent`, pairs of attempts with
-- `--pairs`, and single attempts with none of them
abbrev pub failures_by : Bool → Bool → Bool → Failures
failures_by rates persistent pairs =
    if rates then failures.Every else if persistent then failures.Persistent else if pairs then failures.Pairs else failures.Single

abbrev pub failures_of : List Row → Failures
failures_of rows = failures_by (flag_of (codes "rates") rows) (flag_of (codes "persistent") rows) (flag_of (codes "pairs") rows)

-- all numbers
abbrev pub whole : Part
whole = record { from = 0; to = CEILING }

-- the numbers that are to be tried
abbrev pub part_of : List Row → Part
part_of rows = record {
  from = unwrap_or (number_of (codes "from") rows) whole.from;
  to = unwrap_or (number_of (codes "to") rows) whole.to;
}

abbrev pub trial_of : List Row → Trial
trial_of rows = record { failures = failures_of rows; part = part_of rows; all = flag_of (codes "all") rows; ends = flag_of (codes "ends") rows; most = most_of rows; states = states_of rows }

-- what a subcommand asks for, by its name and matches
abbrev pub task_of : Text → List Row → Option Task
task_of name rows =
    option_map (λ s. s.task (rule_of rows) (trial_of rows)) (subcommand_named name)

-- the attempt about which steps are followed, where one is named
abbrev pub around_of : List Row → Option ℕ
around_of rows = number_of (codes "follow-around") rows

-- how many of the first steps are followed and how many of the last, or how many before an attempt and how many after it, where steps are
abbrev pub followed_of : List Row → ℕ
followed_of rows = unwrap_or (number_of (codes "follow-steps") rows) DEFAULT_FOLLOWED

-- `None` where none are: `--follow-steps` alone asks for none
abbrev pub follow_of : List Row → Option ℕ
follow_of rows = if flag_of (codes "follow") rows || is_some (around_of rows) then Some (followed_of rows) else None

-- the command of a task, by the matches of its subcommand
abbrev pub command_with : List Row → Task → Command
command_with rows task = record {
  task = task;
  file = first_of (codes "file") rows;
  budget = budget_of rows;
  shape = shape_of rows;
  json = flag_of (codes "json") rows;
  quiet = flag_of (codes "quiet") rows;
  brief = flag_of (codes "brief") rows;
  picture = first_of (codes "picture") rows;
  sarif = first_of (codes "sarif") rows;
  follow = follow_of rows;
  around = around_of rows;
}

-- the command of a subcommand's name and matches
abbrev pub command_of : Text × List Row → Option Command
command_of p = option_map (command_with p.1) (task_of p.0 p.1)

abbrev pub takes_rule : Takes → Bool
takes_rule taking.Rule = true
takes_rule taking.Failures = false
takes_rule taking.Part = false
takes_rule taking.Neither = false

-- more is given than one rule, or than goes together of what is to be tried, by what a subcommand takes
abbrev pub gives_more_than_one : Takes → List Row → Bool
gives_more_than_one taking.Rule rows = gives_several rows
gives_more_than_one taking.Failures rows = gives_too_many rows
gives_more_than_one taking.Part rows = gives_too_many rows
gives_more_than_one taking.Neither rows = false

-- the subcommand takes a rule, and more than one of a limit, a number, a rate, a first number and a set is given to it; or failures, and
-- more is asked for than goes together (`are_too_many`)
abbrev pub doubles : Text → List Row → Bool
doubles name rows =
    option_map_or (λ s. gives_more_than_one s.takes rows) (subcommand_named name) false

-- the subcommand takes a rule, and the text of a set is given to it that is no list
abbrev pub mislists : Text → List Row → Bool
mislists name rows =
    option_map_or (λ s. takes_rule s.takes) (subcommand_named name) false && gives_no_list rows

-- the subcommand takes a rule, and a second number is given to it that doesn't come after a first
abbrev pub disorders : Text → List Row → Bool
disorders name rows =
    option_map_or (λ s. takes_rule s.takes) (subcommand_named name) false && gives_disorder rows

-- a set that is given is a list, no more than one rule is given, or than goes together of what is to be tried, and a second number only
-- after a first, and this is the command
pub record IsMeantBy (name : Text) (rows : List Row) (command : Command) : Type 0 where
  pub listed : mislists name rows ≡ false
  pub one_rule : doubles name rows ≡ false
  pub in_order : disorders name rows ≡ false
  pub meaning : command_of (name, rows) ≡ Some command

-- the command that the words spell, where clap takes them
abbrev pub spelled : List Text → Option Command
spelled words = option_and_then command_of (subcommand_of command_line words)

-- the words give a set whose text is no list
abbrev pub spell_no_list : List Text → Bool
spell_no_list words = option_map_or (λ p. mislists p.0 p.1) (subcommand_of command_line words) false

-- they give more than one of a limit, a number, a rate, a first number and a set, or flags that don't go together
abbrev pub spell_both : List Text → Bool
spell_both words = option_map_or (λ p. doubles p.0 p.1) (subcommand_of command_line words) false

-- they give a second number that doesn't come after a first
abbrev pub spell_disorder : List Text → Bool
spell_disorder words =
    option_map_or (λ p. disorders p.0 p.1) (subcommand_of command_line words) false

-- clap finds no fault in the words, a set that they give is a list, no more than one rule is there, nor flags that don't go together, a
-- second number only after a first, and this is what they spell
pub record IsSpelledBy (words : List Text) (command : Command) : Type 0 where
  pub faultless : fault_of command_line words ≡ []
  pub listed : spell_no_list words ≡ false
  pub one_rule : spell_both words ≡ false
  pub in_order : spell_disorder words ≡ false
  pub meaning : spelled words ≡ Some command
