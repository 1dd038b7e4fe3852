use Rattle.workbench.proofs.AsciiLemmas.{no_memory-printable, read_fault-printable}
use Rattle.workbench.proofs.AsciiReports.{report-printable}
use Rattle.workbench.proofs.PrintableLines.{report_lines}
use Rattle.workbench.proofs.laws.reports_are_ascii.Goals as goal

pub returns : goal.returns
returns c = record { text = report-printable; lines = report_lines; no_memory = no_memory-printable; read_fault = read_fault-printable }
