use Rattle.wb_placings.proofs.PlacedResults.{same-but-places, every-placing-fine, in-place-fine}
use Rattle.wb_placings.proofs.placing_laws.moving_runs_stand_for_every_placing.Goals as goal

pub returns : goal.returns
returns c = record { same = same-but-places; every = every-placing-fine; in_place = in-place-fine }
