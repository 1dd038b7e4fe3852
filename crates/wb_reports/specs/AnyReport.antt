-- That there is a report of a command on bytes.
use Rattle.std.specs.Prelude.{ℕ, List}
use Rattle.wb_command_line.specs.declared.command.Command.{Command}
use Rattle.workbench.specs.declared.report_values.ReportValues.{ReportValues}
use Rattle.workbench.specs.Report.{IsReport}

abbrev pub AnyReport : Command → List ℕ → Type 0
AnyReport command bytes = (text : List ℕ) × (values : ReportValues) × (status : ℕ) × IsReport command bytes text values status
