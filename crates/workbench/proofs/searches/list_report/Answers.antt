-- Proof: list_report. What the sweep tells, or that the run without failure is cut, is what the report says.
use Rattle.std.proofs.Common.{rules}
use Rattle.workbench.proofs.AllLemmas.{if_told, if_untold}
use Rattle.workbench.proofs.searches.list_report.Goals as goal

pub returns-in-Ok : goal.returns-in-Ok
returns-in-Ok g c =
    let are = rw c.in-Ok.is at c.sweep_all.ensures.told in
    if_told c.args.listing c.args.failures c.args.part c.args.script.now c.args.conditions.budget c.args.conditions.shape c.told_report.result c.in-Ok.all are
    c.told_report.ensures.text c.told_report.ensures.values c.told_report.ensures.status

pub returns-in-Err-Cut : goal.returns-in-Err-Cut
returns-in-Err-Cut g c =
    let cut = c.in-Err-Cut in
    if_untold c.args.listing c.args.failures c.args.part c.args.script.now c.args.conditions.budget c.args.conditions.shape c.cut_report.result cut.at cut.why
    (c.sweep_all.ensures.cut cut.at cut.why (search rules)) (rw cut.field-0-is at c.cut_report.ensures.text) (rw cut.field-0-is at c.cut_report.ensures.values)
    c.cut_report.ensures.status
