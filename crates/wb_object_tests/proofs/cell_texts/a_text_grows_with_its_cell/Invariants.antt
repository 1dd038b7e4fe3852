use Rattle.wb_heap_model.specs.TextCells.{IsTextAt}
use Rattle.wb_object_tests.proofs.cell_texts.a_text_grows_with_its_cell.Given as goal

-- the pointer goes on naming a text
abbrev pub invariant-loop-units : goal.invariant-loop-units
invariant-loop-units g l = IsTextAt l.ptr l.heap
