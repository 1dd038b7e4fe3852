use Rattle.wb_runs.proofs.PartsTogether.{least-together, row-together}
use Rattle.wb_runs.proofs.part_laws.the_least_is_of_both.Goals as goal

pub returns : goal.returns
returns c = record { least = least-together; row = row-together }
