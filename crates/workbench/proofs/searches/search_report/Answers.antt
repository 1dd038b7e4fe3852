-- Proof: search_report. What the sweep returned is what the report says.
use Rattle.wb_command_line.specs.declared.command.Search.TheVariants.{EverySet, Sets}
use Rattle.workbench.specs.declared.report.Report.{Report}
use Rattle.workbench.proofs.SweptReports.{every-set-report, for_search, sets-report}
use Rattle.workbench.proofs.searches.search_report.Goals as goal

pub returns-in-Sets : goal.returns-in-Sets
returns-in-Sets g c =
    let swept = c.sweep_sets-swept in
    let most = c.in-Sets.most in
    for_search c.args.script.now c.args.conditions.budget c.args.conditions.shape c.args.search (Sets most) c.in-Sets.is c.args.part c.report_of_sweep.result swept.result
    (λ (r : Report).
    sets-report c.args.script.now c.args.conditions.budget c.args.conditions.shape c.args.part c.args.conditions.greatest r.text.items r.values r.status most swept.result
    swept.ensures.swept swept.ensures.cut swept.ensures.few_cut swept.ensures.known) c.report_of_sweep.ensures

pub returns-in-EverySet : goal.returns-in-EverySet
returns-in-EverySet g c =
    let swept = c.sweep_every_set-swept in
    let states = c.in-EverySet.states in
    let made = c.report_of_sweep-in-EverySet in
    for_search c.args.script.now c.args.conditions.budget c.args.conditions.shape c.args.search (EverySet states) c.in-EverySet.is c.args.part made.result swept.result
    (λ (r : Report).
    every-set-report c.args.script.now c.args.conditions.budget c.args.conditions.shape c.args.part c.args.conditions.greatest r.text.items r.values r.status states swept.result
    swept.ensures.swept swept.ensures.cut swept.ensures.few_cut swept.ensures.many swept.ensures.met swept.ensures.few_met) made.ensures
