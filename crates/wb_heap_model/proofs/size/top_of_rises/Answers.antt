use Rattle.std.proofs.Common.{sym, ◌∙◌, ap}
use Rattle.wb_heap_model.specs.Rises.{top_of_rises}
use Rattle.wb_heap_model.proofs.KeptRises.{top-last}
use Rattle.wb_heap_model.proofs.size.top_of_rises.Goals as goal

pub returns-in-Some : goal.returns-in-Some
returns-in-Some c =
    sym (top-last 0 c.as_slice.result.now c.in-Some.rise.now (sym c.in-Some.ensures.value)) ∙ ap top_of_rises c.as_slice.ensures
