use Rattle.wb_runs.proofs.SetPartsTogether.{least-sets-together}
use Rattle.wb_runs.proofs.set_part_laws.the_least_set_is_of_both.Goals as goal

pub returns : goal.returns
returns c = record { least = least-sets-together }
