-- What a watched run is: the run that its parameters make, whatever is kept of it.
use Rattle.std.specs.Prelude.{◌≡◌}
use Rattle.wb_history.specs.declared.parameters.RunParameters.{RunParameters}
use Rattle.wb_history.specs.declared.runs.WatchedRun.{WatchedRun}
use Rattle.wb_tree.specs.declared.script.Script.{Script}
use Rattle.wb_meaning.specs.Run.{run}

-- it has these parameters, and ends as the run of the script with them does
pub record IsWatchedRun (script : Script) (parameters : RunParameters) (watched : WatchedRun) : Type 0 where
  pub made_with : watched.parameters ≡ parameters
  pub ended : watched.outcome ≡ (run script parameters.rule parameters.budget parameters.shape).outcome
