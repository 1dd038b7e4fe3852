-- The subcommands: how each is called, which failures may be named, and what it asks for.
use Rattle.std.specs.Prelude.{ℕ, Bool, List, [], ◌∷◌, Option, codes, find, if◌then◌else◌}
use Rattle.std.specs.Option.{option_map_or}
use Rattle.std.specs.Str.{bytes_eq}
use Rattle.clap.specs.Words.{Text}
use Rattle.wb_runs.specs.declared.failures.Failures.{Failures}
use Rattle.wb_heap_model.specs.declared.heap.Rule.{Rule}
use Rattle.wb_runs.specs.declared.part.Part.{Part}
use Rattle.wb_command_line.specs.declared.command.Search.{Search}
use Rattle.wb_command_line.specs.declared.command.Search.TheVariants.{Least, All, Ends, Sets, EverySet}
use Rattle.wb_command_line.specs.declared.command.Task.{Task}
use Rattle.wb_command_line.specs.declared.command.Task.TheVariants.{Run, Size, Lengths, Sweep, Check}
use Rattle.wb_command_line.specs.declared.command_line.parser.Takes.{Takes}
use Rattle.wb_command_line.specs.declared.command_line.parser.Takes.TheVariants as taking

-- what is to be tried: which failures, which of their numbers, and whether each is listed whose run leaks, panics or is cut, or every
-- one, or the least alone is found; how many attempts fail together at most, where sets of so many are tried; and how many states are met
-- at most, where all sets are
pub record Trial : Type 0 where
  pub failures : Failures
  pub part : Part
  pub all : Bool
  pub ends : Bool
  pub most : Option ℕ
  pub states : Option ℕ

-- what is searched for among single failures: a list of them, or the least
abbrev pub search_listed : Bool → Bool → Failures → Search
search_listed all ends failures = if ends then Ends failures else if all then All failures else Least failures

-- and among sets, where these are asked for
abbrev pub search_by : Option ℕ → Option ℕ → Search → Search
search_by states most single = option_map_or EverySet states (option_map_or Sets most single)

abbrev pub search_of : Trial → Search
search_of trial = search_by trial.states trial.most (search_listed trial.all trial.ends trial.failures)

abbrev pub sweep_task : Trial → Task
sweep_task trial = Sweep (search_of trial) trial.part

-- of all their numbers
abbrev pub check_task : Trial → Task
check_task trial = Check (search_of trial)

pub record Subcommand : Type 0 where
  pub name : Text
  -- which options it has beside those of all
  pub takes : Takes
  -- by its rule, or by what it tries, where it takes them
  pub task : Rule → Trial → Task

abbrev pub run_subcommand : Subcommand
run_subcommand = record { name = codes "run"; takes = taking.Rule; task = λ rule _. Run rule }

abbrev pub size_subcommand : Subcommand
size_subcommand = record { name = codes "size"; takes = taking.Neither; task = λ _ _. Size }

abbrev pub lengths_subcommand : Subcommand
lengths_subcommand = record { name = codes "lengths"; takes = taking.Neither; task = λ _ _. Lengths }

abbrev pub sweep_subcommand : Subcommand
sweep_subcommand = record { name = codes "sweep"; takes = taking.Part; task = λ _ trial. sweep_task trial }

abbrev pub check_subcommand : Subcommand
check_subcommand = record { name = codes "check"; takes = taking.Failures; task = λ _ trial. check_task trial }

abbrev pub subcommands : List Subcommand
subcommands =
    run_subcommand ∷ size_subcommand ∷ lengths_subcommand ∷ sweep_subcommand ∷ check_subcommand ∷ []

abbrev pub subcommand_named : Text → Option Subcommand
subcommand_named name = find (λ s. bytes_eq s.name name) subcommands
