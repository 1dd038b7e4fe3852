-- an edit of one text leaves the others
use Rattle.std.proofs.Common.{◌≡◌, ◌≢◌, Ok, Err, subst, sym}
use Rattle.wb_heap_model.specs.declared.heap.Ptr.{Ptr}
use Rattle.wb_heap_model.specs.Texts.{Edited}
use Rattle.wb_heap_model.specs.Debug.{Debug}
use Rattle.wb_heap_model.specs.TextCells.{IsTextAt, debug_edited}
use Rattle.wb_heap_model.proofs.TextCellsHeap.{text-other}

pub text-edited : (p q : Ptr) (d e : Debug) (edit : Edited) → q ≢ p → e ≡ debug_edited d p edit → IsTextAt q d → IsTextAt q e
text-edited p q d e (Ok t) other is text = text-other p q _ d e other is text
text-edited p q d e (Err panic) other is text = subst (IsTextAt q) (sym is) text
