use Rattle.wb_runs.proofs.RefusedSets.{fine-by-sets, refused-ascending, refused-same}
use Rattle.wb_runs.proofs.set_laws.refused_attempts_are_a_set.Goals as goal

pub returns : goal.returns
returns c = record { ascend = refused-ascending; same = refused-same; fine = fine-by-sets }
