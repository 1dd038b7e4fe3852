use Rattle.wb_heap_model.proofs.FreeRuns.{free_runs-are}
use Rattle.wb_runs.proofs.laws.free_runs_are.Goals as goal

pub returns : goal.returns
returns c = free_runs-are
