use Rattle.wb_heap_model.proofs.Parts.{length-part, unit-part, part-part}
use Rattle.wb_runs.proofs.laws.parts_are_read.Goals as goal

pub returns : goal.returns
returns c = record { long = length-part; units = unit-part; parts = part-part }
