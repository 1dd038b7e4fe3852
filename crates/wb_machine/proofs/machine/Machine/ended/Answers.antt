use Rattle.std.proofs.Common.{ap, ◌∙◌}
use Rattle.wb_meaning.specs.Run.{WholeRun}
use Rattle.wb_machine.specs.Results.{outcome_by}
use Rattle.wb_machine.proofs.whole_runs.OverRuns.{outcome_of_whole, run_over, steps_of_whole}
use Rattle.wb_machine.proofs.machine.Machine.ended.Goals as goal

-- what a run that is over has come to tells how it ended
pub returns-clause-outcome : goal.returns-clause-outcome
returns-clause-outcome c =
    let m = c.self.inside in
    let s = c.args.self.now in
    c.outcome_by.ensures
    ∙ ap (λ e. outcome_by e c.in_ok-leaks.leaks) c.ending.ensures
    ∙ ap (outcome_by m.control.ending) c.in_ok-leaks.ensures
    ∙ ap (λ (x : WholeRun). x.result.outcome) (run_over m s c.self.view_is c.self.invariant c.requires.over c.requires.well)
    ∙ outcome_of_whole s

pub returns-clause-steps : goal.returns-clause-steps
returns-clause-steps c =
    let s = c.args.self.now in
    c.steps.ensures
    ∙ ap (λ (x : WholeRun). x.result.steps) (run_over c.self.inside s c.self.view_is c.self.invariant c.requires.over c.requires.well)
    ∙ steps_of_whole s
