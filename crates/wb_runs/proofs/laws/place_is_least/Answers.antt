use Rattle.wb_heap_model.proofs.Places.{place_of-least}
use Rattle.wb_runs.proofs.laws.place_is_least.Goals as goal

pub returns : goal.returns
returns c = place_of-least
