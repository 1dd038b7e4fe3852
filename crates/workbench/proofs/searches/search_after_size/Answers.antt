-- Proof: search_after_size. What the sweep returned is what the report says.
use Rattle.wb_command_line.specs.Spelled.{whole}
use Rattle.wb_command_line.specs.declared.command.Search.TheVariants.{Least}
use Rattle.workbench.specs.declared.report.Report.{Report}
use Rattle.workbench.proofs.SweptReports.{for_search, sweep-report}
use Rattle.workbench.proofs.searches.search_after_size.Goals as goal

pub returns-in-Least : goal.returns-in-Least
returns-in-Least g c =
    let swept = c.sweep_beside_known-swept in
    let failures = c.in-Least.failures in
    for_search c.args.script.now c.args.conditions.budget c.args.conditions.shape c.args.search (Least failures) c.in-Least.is whole c.report_of_sweep.result swept.result
    (λ (r : Report).
    sweep-report c.args.script.now c.args.conditions.budget c.args.conditions.shape failures r.text.items r.values r.status swept.result
    swept.ensures.swept swept.ensures.cut swept.ensures.known) c.report_of_sweep.ensures
