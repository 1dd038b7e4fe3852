-- Proof: least_report. What the sweep returned is what the report says.
use Rattle.std.proofs.Common.{◌≡◌, Bool, true, false, subst, sym}
use Rattle.workbench.specs.declared.report.Report.{Report}
use Rattle.workbench.specs.PartReport.{IsReportOver, is_whole}
use Rattle.workbench.proofs.SweptReports.{map_ok, part-report, sweep-report}
use Rattle.workbench.proofs.searches.least_report.Goals as goal

pub returns-then-is_whole : goal.returns-then-is_whole
returns-then-is_whole g c =
    let whole : is_whole c.args.part ≡ true = cc in
    let swept = c.sweep_whole-swept in
    map_ok c.report_of_sweep.result (λ (r : Report) is.
    subst (λ (b : Bool). IsReportOver b c.args.failures c.args.part c.args.script.now c.args.conditions.budget c.args.conditions.shape r.text.items r.values r.status) (sym whole)
    (sweep-report c.args.script.now c.args.conditions.budget c.args.conditions.shape c.args.failures r.text.items r.values r.status swept.result
    swept.ensures.swept swept.ensures.cut swept.ensures.known is)) c.report_of_sweep.ensures

pub returns-else-is_whole : goal.returns-else-is_whole
returns-else-is_whole g c =
    let part : is_whole c.args.part ≡ false = cc in
    let swept = c.sweep_part-swept in
    map_ok c.report_of_sweep-else-is_whole.result (λ (r : Report) is.
    subst (λ (b : Bool). IsReportOver b c.args.failures c.args.part c.args.script.now c.args.conditions.budget c.args.conditions.shape r.text.items r.values r.status) (sym part)
    (part-report c.args.script.now c.args.conditions.budget c.args.conditions.shape c.args.failures r.text.items r.values r.status c.args.part swept.result
    swept.ensures.swept swept.ensures.cut swept.ensures.known is)) c.report_of_sweep-else-is_whole.ensures
