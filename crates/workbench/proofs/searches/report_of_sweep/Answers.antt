-- Proof: report_of_sweep. If too many states were met, the report says so.
use Rattle.std.proofs.Common.{◌≡◌, Result, Err, subst, sym}
use Rattle.std.specs.Prelude.{IfOk}
use Rattle.wb_sweep.specs.declared.fault.Unswept.{Unswept}
use Rattle.wb_sweep.specs.declared.fault.Unswept.TheVariants.{ManyStates}
use Rattle.wb_sweep.specs.declared.found.Sweep.{Sweep}
use Rattle.workbench.specs.SearchReport.{IsReportOfSwept}
use Rattle.workbench.proofs.SweptReports.{if_many_states}
use Rattle.workbench.proofs.searches.report_of_sweep.Goals as goal

pub returns-in-Err-ManyStates : goal.returns-in-Err-ManyStates
returns-in-Err-ManyStates c =
    let many = c.in-Err-ManyStates in
    let made = c.many_states_report.result in
    let is : c.args.swept ≡ Err (ManyStates many.fine) = cc in
    subst (λ (swept : Result Sweep Unswept). IfOk made (λ r. IsReportOfSwept c.args.search c.args.script.now c.args.conditions.budget c.args.conditions.shape swept r.text.items r.values r.status)) (sym is)
    (if_many_states c.args.script.now c.args.conditions.budget c.args.conditions.shape c.args.search many.fine made
    (rw many.field-0-is at c.many_states_report.ensures.text) (rw many.field-0-is at c.many_states_report.ensures.values) c.many_states_report.ensures.status)
