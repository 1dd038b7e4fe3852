-- The command line, as clap's meaning of a simple command sees it.
use Rattle.std.specs.Prelude.{true, ℕ, List, [], ◌∷◌, ◌++◌, Some, codes, fold, pos}
use Rattle.clap.specs.Words.{App, Rule, Text, new_app, new_rule, with_rule, with_subcommand}
use Rattle.clap.specs.Simple.{Shape, built_leaf}
use Rattle.clap.specs.declared.builder.action.ArgAction.TheVariants.{SetTrue}
use Rattle.clap.specs.declared.builder.value_parser.ValueParser.TheVariants.{Signed}
use Rattle.wb_basics.specs.declared.limits.TheConstants.{CEILING, LARGEST_BUDGET, LARGEST_MINIMUM, LARGEST_STEP, SMALLEST_STEP}
use Rattle.wb_command_line.specs.Subcommands.{Subcommand, subcommands}
use Rattle.wb_command_line.specs.declared.command_line.following.TheConstants.{MOST_FOLLOWED}
use Rattle.wb_command_line.specs.declared.command_line.parser.Level.{Level}
use Rattle.wb_command_line.specs.declared.command_line.parser.NumberOption.{NumberOption}
use Rattle.wb_command_line.specs.declared.command_line.parser.Takes.{Takes}
use Rattle.wb_command_line.specs.declared.command_line.parser.Takes.TheVariants as taking
use Rattle.wb_command_line.specs.declared.command_line.sets.TheConstants.{MOST_STATES, MOST_TOGETHER}

-- `--NAME N`, where N is a number from the least to the most
abbrev pub number_option : Text → ℕ → ℕ → Rule
number_option name least most = record (new_rule name) { long = Some name; value_names = 1; parser = Some (Signed (pos least) (pos most)) }

abbrev pub file_argument : Rule
file_argument = record (new_rule (codes "file")) { value_names = 1 }

abbrev pub limit_option : Rule
limit_option = number_option (codes "limit") 0 CEILING

abbrev pub fail_option : Rule
fail_option = number_option (codes "fail") 0 CEILING

abbrev pub also_option : Rule
also_option = number_option (codes "also") 0 CEILING

abbrev pub every_option : Rule
every_option = number_option (codes "every") 0 CEILING

abbrev pub fail_from_option : Rule
fail_from_option = number_option (codes "fail-from") 0 CEILING

-- `--set LIST`, where LIST is any text as far as clap knows
abbrev pub set_option : Rule
set_option = record (new_rule (codes "set")) { long = Some (codes "set"); value_names = 1 }

abbrev pub budget_option : Rule
budget_option = number_option (codes "budget") 1 LARGEST_BUDGET

abbrev pub min_option : Rule
min_option = number_option (codes "min") 0 LARGEST_MINIMUM

abbrev pub step_option : Rule
step_option = number_option (codes "step") SMALLEST_STEP LARGEST_STEP

-- `--NAME`, which takes no value, by its id and its name
abbrev pub flag : Text → Text → Rule
flag id name = record (new_rule id) { long = Some name; action = Some SetTrue }

abbrev pub moving_flag : Rule
moving_flag = flag (codes "moving") (codes "moving")

abbrev pub json_flag : Rule
json_flag = flag (codes "json") (codes "json")

abbrev pub quiet_flag : Rule
quiet_flag = flag (codes "quiet") (codes "quiet")

abbrev pub brief_flag : Rule
brief_flag = flag (codes "brief") (codes "brief")

-- `--picture FILE`, where FILE is any text
abbrev pub picture_option : Rule
picture_option = record (new_rule (codes "picture")) { long = Some (codes "picture"); value_names = 1 }

-- `--sarif FILE`, where FILE is any text
abbrev pub sarif_option : Rule
sarif_option = record (new_rule (codes "sarif")) { long = Some (codes "sarif"); value_names = 1 }

-- `--every` of a subcommand that tries failures is a flag, and takes no number, so that it has an id of
-- its own
abbrev pub rates_flag : Rule
rates_flag = flag (codes "rates") (codes "every")

abbrev pub persistent_flag : Rule
persistent_flag = flag (codes "persistent") (codes "persistent")

abbrev pub pairs_flag : Rule
pairs_flag = flag (codes "pairs") (codes "pairs")

abbrev pub all_flag : Rule
all_flag = flag (codes "all") (codes "all")

abbrev pub ends_flag : Rule
ends_flag = flag (codes "ends") (codes "ends")

abbrev pub from_option : Rule
from_option = number_option (codes "from") 0 CEILING

abbrev pub to_option : Rule
to_option = number_option (codes "to") 0 CEILING

abbrev pub follow_flag : Rule
follow_flag = flag (codes "follow") (codes "follow")

abbrev pub follow_steps_option : Rule
follow_steps_option = number_option (codes "follow-steps") 1 MOST_FOLLOWED

abbrev pub follow_around_option : Rule
follow_around_option = number_option (codes "follow-around") 1 CEILING

-- `--failures K`, where K attempts fail together at most
abbrev pub failures_option : Rule
failures_option = number_option (codes "failures") 1 MOST_TOGETHER

abbrev pub sets_flag : Rule
sets_flag = flag (codes "sets") (codes "sets")

-- `--states N`, where N states are met at most
abbrev pub states_option : Rule
states_option = number_option (codes "states") 1 MOST_STATES

-- those that ask for sets of attempts
abbrev pub set_options : List Rule
set_options = failures_option ∷ sets_flag ∷ states_option ∷ []

abbrev pub failure_options : List Rule
failure_options = rates_flag ∷ persistent_flag ∷ pairs_flag ∷ all_flag ∷ ends_flag ∷ set_options

abbrev pub part_options : List Rule
part_options = from_option ∷ to_option ∷ []

abbrev pub rule_options : List Rule
rule_options = limit_option ∷ fail_option ∷ also_option ∷ every_option ∷ fail_from_option ∷ set_option ∷ []

-- those that ask for the steps of a run
abbrev pub following_options : List Rule
following_options = follow_flag ∷ follow_steps_option ∷ follow_around_option ∷ []

-- the options that a subcommand has beside those of all
abbrev pub own_options : Takes → List Rule
own_options taking.Rule = rule_options ++ following_options
own_options taking.Failures = failure_options ++ brief_flag ∷ []
own_options taking.Part = failure_options ++ part_options
own_options taking.Neither = brief_flag ∷ []

-- those that every subcommand has and that take a number
abbrev pub number_options : List Rule
number_options = budget_option ∷ min_option ∷ step_option ∷ []

-- those that name files for what is written beside its report
abbrev pub file_options : List Rule
file_options = picture_option ∷ sarif_option ∷ []

-- those that say how its report is written, that no progress is shown, and what is written beside it
abbrev pub report_options : List Rule
report_options = json_flag ∷ quiet_flag ∷ file_options

-- those of every subcommand
abbrev pub shared_options : List Rule
shared_options = number_options ++ moving_flag ∷ report_options

abbrev pub with_rules : App → List Rule → App
with_rules = fold with_rule

-- `NAME [OPTIONS] [FILE]`, by the options beside those of all
abbrev pub line_with : Text → List Rule → App
line_with name options = with_rules (new_app name) (file_argument ∷ options ++ shared_options)

-- `NAME [--limit L] [--fail N] [--also J] [--every N] [--fail-from N] [--set LIST] [--follow] [--follow-steps N] [--follow-around N]
-- [--budget B] [--min M] [--step G] [--moving] [--json] [--quiet] [--picture FILE] [--sarif FILE] [FILE]`, the same with `--every`, `--persistent`,
-- `--pairs`, `--all`, `--ends`, `--failures K`, `--sets` and `--states N` in the place of a rule and of the steps, with these and
-- `[--from I] [--to J]`, or with none; where no part is taken and no rule, with `--brief`
abbrev pub subcommand_line : Text → Takes → App
subcommand_line name takes = line_with name (own_options takes)

-- the same once it is built, with its call for help
abbrev pub level : Text → Takes → Shape
level name takes = built_leaf (subcommand_line name takes).top

abbrev pub level_of : Subcommand → Shape
level_of s = level s.name s.takes

-- a level that has the options of all subcommands, which none of them is: each id is there once
abbrev pub joined_level : Shape
joined_level =
    built_leaf (line_with [] (own_options taking.Rule ++ own_options taking.Neither ++ own_options taking.Part)).top

-- `workbench`, which wants a subcommand, and has a version
abbrev pub bare_line : App
bare_line = let line = new_app (codes "workbench") in record line { top = record line.top { subcommand_required = true; has_version = true } }

abbrev pub command_line : App
command_line = fold (λ line s. with_subcommand line (subcommand_line s.name s.takes).top) bare_line subcommands

-- the option that an entry of code stands for
abbrev pub option_rule : NumberOption → Rule
option_rule option = number_option option.name.now option.least option.most

abbrev pub with_option : App → NumberOption → App
with_option line option = with_rule line (option_rule option)

-- the subcommand that an entry of code stands for
abbrev pub line_of : Level → App
line_of level = subcommand_line level.name.now level.takes

abbrev pub with_level : App → Level → App
with_level above level = with_subcommand above (line_of level).top
