use Rattle.wb_runs.proofs.SetLemmas.{least-made, past-last, sets-fine}
use Rattle.wb_runs.proofs.set_laws.sets_end.Goals as goal

pub returns : goal.returns
returns c = record { past = past-last; all = sets-fine; least = least-made }
