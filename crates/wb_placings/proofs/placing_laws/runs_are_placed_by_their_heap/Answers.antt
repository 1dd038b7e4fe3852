use Rattle.wb_placings.proofs.PlacedResults.{first_fit-placed}
use Rattle.wb_placings.proofs.placing_laws.runs_are_placed_by_their_heap.Goals as goal

pub returns : goal.returns
returns c = record { same = first_fit-placed }
