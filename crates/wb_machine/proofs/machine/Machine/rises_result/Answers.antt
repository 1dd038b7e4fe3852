use Rattle.std.proofs.Common.{ap, ◌∙◌}
use Rattle.wb_machine.specs.Results.{outcome_by}
use Rattle.wb_machine.proofs.whole_runs.OverRuns.{rises_over}
use Rattle.wb_machine.proofs.machine.Machine.rises_result.Goals as goal

pub returns : goal.returns
returns c =
    let m = c.self.inside in
    rises_over m c.args.self c.self.view_is c.self.invariant c.requires.over c.requires.well c.requires.rises c.finish_rises.result
    (c.finish_rises.ensures.outcome ∙ ap (λ e. outcome_by e m.leaks) c.ending.ensures) c.finish_rises.ensures.rises c.finish_rises.ensures.steps
