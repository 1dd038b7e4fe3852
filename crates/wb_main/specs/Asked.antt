-- Which run a report shows, as the command and what was found say it.
use Rattle.std.specs.Prelude.{◌≡◌, ◌≤◌, Option, Some, option_map, option_and_then, IfSome}
use Rattle.wb_command_line.specs.declared.command.Command.{Command}
use Rattle.wb_command_line.specs.declared.command.Task.{Task}
use Rattle.wb_command_line.specs.declared.command.Task.TheVariants.{Run, Size, Lengths, Sweep, Check}
use Rattle.wb_history.specs.declared.parameters.RunParameters.{RunParameters}
use Rattle.wb_history.specs.declared.runs.WatchedRun.{WatchedRun}
use Rattle.wb_watch.specs.Watched.{IsWatchedRun}
use Rattle.wb_lengths.specs.Lengths.{first_bad}
use Rattle.wb_heap_model.specs.declared.heap.Rule.{Rule}
use Rattle.wb_heap_model.specs.declared.heap.Rule.TheVariants.{Limit}
use Rattle.wb_tree.specs.declared.script.Script.{Script}
use Rattle.wb_basics.specs.declared.limits.TheConstants.{LARGEST_BUDGET}
use Rattle.wb_runs.specs.Sweeps.{rule_for}
use Rattle.workbench.specs.declared.findings.Findings.{Findings}

-- the rule of the run that a sweep's report shows, if it shows one
abbrev pub rule_named : Findings → Option Rule
rule_named findings = option_map rule_for findings.values.named

-- The run under a rule is made with the command's own shape and budget. The budget of each command is in its range.
pub record IsAsAsked (command : Command) (rule : Rule) (parameters : RunParameters) : Type 0 where
  pub rule_is : parameters.rule ≡ rule
  pub budget : 1 ≤ command.budget → command.budget ≤ LARGEST_BUDGET → parameters.budget ≡ command.budget
  pub shape : parameters.shape ≡ command.shape

-- The run that is explained and drawn is the one that was asked for, the one that a sweep's report shows, or the one in the shortest heap that a
-- table of lengths says is bad.
abbrev pub IsRuleToWatch : Task → Findings → Option Rule → Type 0
IsRuleToWatch (Run rule) findings watched = IfSome watched (λ (r : Rule). r ≡ rule)
IsRuleToWatch Size findings watched = watched ≡ rule_named findings
IsRuleToWatch Lengths findings watched = watched ≡ option_map Limit (option_and_then first_bad findings.values.ranges)
IsRuleToWatch (Sweep search part) findings watched = watched ≡ rule_named findings
IsRuleToWatch (Check search) findings watched = watched ≡ rule_named findings

-- A run that is explained and drawn is made as the command asks, under the rule of the run that the report shows, and ends as the definitions
-- say that this run does.
pub record IsShownRun (command : Command) (findings : Findings) (script : Script) (watched : WatchedRun) : Type 0 where
  pub rule : Rule
  pub shown : IsRuleToWatch command.task findings (Some rule)
  pub asked : IsAsAsked command rule watched.parameters
  pub ended : IsWatchedRun script watched.parameters watched
