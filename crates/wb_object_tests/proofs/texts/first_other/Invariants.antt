use Rattle.wb_heap_model.specs.TextCells.{IsTextAt}
use Rattle.wb_object_tests.proofs.texts.first_other.Given as goal

-- both cells go on holding texts
abbrev pub invariant-loop-index : goal.invariant-loop-index
invariant-loop-index l = record { first_text : IsTextAt l.first l.heap; second_text : IsTextAt l.second l.heap }
