use Rattle.wb_runs.proofs.FirstBad.{first-least, first-none}
use Rattle.wb_runs.proofs.part_laws.the_first_is_the_least.Goals as goal

pub returns : goal.returns
returns c = record { some = first-least; none = first-none }
