-- What is said, beside the sizing, of the run that it was made by.
use Rattle.std.specs.Prelude.{◌≡◌, length}
use Rattle.wb_meaning.specs.declared.run.RunResult.{RunResult}
use Rattle.wb_size.specs.declared.sized_run.SizedRun.{SizedRun}

pub record IsOfRun (run_result : RunResult) (sized : SizedRun) : Type 0 where
  pub outcome : sized.outcome ≡ run_result.outcome
  pub attempts : sized.attempts ≡ length run_result.trace
  pub steps : sized.steps ≡ run_result.steps
