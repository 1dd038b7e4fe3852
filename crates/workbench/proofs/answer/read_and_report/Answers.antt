-- Proof: read_and_report. What was read is reported on, and laid out.
use Rattle.workbench.proofs.AnswerLemmas.{laid_out_is_reported}
use Rattle.workbench.proofs.answer.read_and_report.Goals as goal

pub returns-clause-report : goal.returns-clause-report
returns-clause-report g c =
    let report = c.in_ok-report.report in
    let message = c.in_ok-lay_out.field-0 in
    laid_out_is_reported c.args.command.now (g.R.Source.remaining c.args.reader.now) c.in_ok-bytes.bytes.items c.as_slice.result.now report.text.items
    message.text.items report.values message.status report.status message.findings c.in_ok-bytes.ensures.bytes c.as_slice.ensures.value c.in_ok-report.ensures
    c.in_ok-lay_out.ensures.text c.in_ok-lay_out.ensures.status c.in_ok-lay_out.ensures.findings
