-- Which report a command has: the text, the values and the status that its task comes to on a script, the one-line answers, and why a
-- script was refused.
use Rattle.std.specs.Prelude.{◌≡◌, ◌≢◌, ℕ, List, ◌++◌, ◌⊎◌, codes}
use Rattle.std.specs.Fmt.{decimal}
use Rattle.wb_language.specs.declared.fault.ScriptFault.{ScriptFault}
use Rattle.wb_language.specs.declared.fault.ScriptFault.TheVariants.{TooLong, NotAscii, Grammar, UnknownName, DoubleName, WrongKind, MayLeave, NoMain, TooMany, NoMemory}
use Rattle.wb_heap_model.specs.declared.heap.Shape.{Shape}
use Rattle.wb_meaning.specs.declared.run.RunResult.{RunResult}
use Rattle.wb_tree.specs.declared.script.Script.{Script}
use Rattle.wb_meaning.specs.Run.{run}
use Rattle.wb_language.specs.Scripts.{IsScriptOf, IsFaultOf}
use Rattle.wb_command_line.specs.declared.command.Command.{Command}
use Rattle.wb_command_line.specs.declared.command.Task.{Task}
use Rattle.wb_command_line.specs.declared.command.Task.TheVariants as T
use Rattle.workbench.specs.declared.report_values.ReportValues.{ReportValues}
use Rattle.workbench.specs.LengthsReport.{IsLengthsReport}
use Rattle.workbench.specs.ReportValues.{no_values, run_values}
use Rattle.workbench.specs.RunText.{line, run_text, run_status}
use Rattle.workbench.specs.SearchReport.{IsCheckReport, IsSearchReport}
use Rattle.workbench.specs.TwoNumbers.{IsSizeReport}

abbrev pub refused : ℕ → List ℕ
refused fault = line (codes "refused " ++ decimal fault)

abbrev pub refused_at : ℕ → ℕ → List ℕ
refused_at fault at = line (codes "refused " ++ decimal fault ++ codes " line " ++ decimal at)

abbrev pub no_memory : List ℕ
no_memory = line (codes "no memory")

abbrev pub read_fault : List ℕ
read_fault = line (codes "read fault")

-- why a script was refused: the number of its fault, and its line where it has one. Memory that ran out refuses no script.
abbrev pub fault_line : ScriptFault → List ℕ
fault_line TooLong = refused 1
fault_line (NotAscii at) = refused_at 2 at
fault_line (Grammar at) = refused_at 3 at
fault_line (UnknownName at) = refused_at 4 at
fault_line (DoubleName at) = refused_at 5 at
fault_line (WrongKind at) = refused_at 6 at
fault_line (MayLeave at) = refused_at 7 at
fault_line NoMain = refused 8
fault_line (TooMany at) = refused_at 9 at
fault_line NoMemory = no_memory

-- ---- which report a command has

-- the text, the values and the status of one run
pub record IsRunReport (r : RunResult) (text : List ℕ) (values : ReportValues) (status : ℕ) : Type 0 where
  pub text_is : text ≡ run_text r
  pub values_are : values ≡ run_values r
  pub status_is : status ≡ run_status r

-- what a task comes to on a script
abbrev pub IsTaskReport : Task → Script → ℕ → Shape → List ℕ → ReportValues → ℕ → Type 0
IsTaskReport (T.Run rule) script budget shape text values status =
    IsRunReport (run script rule budget shape) text values status
IsTaskReport T.Size script budget shape text values status =
    IsSizeReport script budget shape text values status
IsTaskReport T.Lengths script budget shape text values status =
    IsLengthsReport script budget shape text values status
IsTaskReport (T.Sweep search part) script budget shape text values status =
    IsSearchReport search part script budget shape text values status
IsTaskReport (T.Check search) script budget shape text values status =
    IsCheckReport search script budget shape text values status

-- the bytes spell a script, and this is what the command's task comes to on it
pub record IsReportOfScript (command : Command) (bytes text : List ℕ) (values : ReportValues) (status : ℕ) : Type 0 where
  pub script : Script
  pub spelled : IsScriptOf bytes script
  pub task_report : IsTaskReport command.task script command.budget command.shape text values status

-- the bytes have a fault, and this is its line
pub record IsReportOfFault (bytes text : List ℕ) (values : ReportValues) (status : ℕ) : Type 0 where
  pub fault : ScriptFault
  pub is_none_of_memory : fault ≢ NoMemory
  pub found : IsFaultOf bytes fault
  pub text_is : text ≡ fault_line fault
  pub values_are : values ≡ no_values
  pub status_is : status ≡ 2

-- Report: the text, the values and the status of a command for the bytes that were read
abbrev pub IsReport : Command → List ℕ → List ℕ → ReportValues → ℕ → Type 0
IsReport command bytes text values status = IsReportOfScript command bytes text values status ⊎ IsReportOfFault bytes text values status
