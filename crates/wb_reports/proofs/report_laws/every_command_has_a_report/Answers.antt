use Rattle.wb_reports.proofs.TasksReported.{fault-reported, script-reported}
use Rattle.wb_reports.proofs.report_laws.every_command_has_a_report.Goals as goal

pub returns : goal.returns
returns c = record { script = script-reported; fault = fault-reported }
