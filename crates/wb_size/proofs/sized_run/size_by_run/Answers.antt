use Rattle.std.proofs.Common.{ap}
use Rattle.wb_meaning.specs.declared.run.RisesResult.{RisesResult}
use Rattle.wb_size.proofs.Sized.{sized}
use Rattle.wb_size.proofs.sized_run.size_by_run.Goals as goal

pub returns-clause-sizing : goal.returns-clause-sizing
returns-clause-sizing g c =
    sized c.args.script.now c.args.conditions.budget c.args.conditions.shape c.in_ok-run_result.run_result c.sizing_of.result c.in_ok-run_result.ensures.ran c.in_default.not-Cut c.sizing_of.ensures

pub returns-clause-ran : goal.returns-clause-ran
returns-clause-ran g c = record {
  outcome = ap (λ (r : RisesResult). r.outcome) c.in_ok-run_result.ensures.ran;
  attempts = c.in_ok-run_result.ensures.attempts;
  steps = ap (λ (r : RisesResult). r.steps) c.in_ok-run_result.ensures.ran;
}
