-- What the heap does beside the stack leaves it as it is.
use Rattle.std.proofs.Common.{◌≡◌, ◌≢◌, ℕ, List, Option, Some, None, ap, ◌∙◌, arith}
use Rattle.wb_heap_model.specs.declared.heap.Ptr.{Ptr}
use Rattle.wb_heap_model.specs.declared.heap.Kind.{Kind}
use Rattle.wb_heap_model.specs.declared.heap.Answer.{Answer}
use Rattle.wb_heap_model.specs.declared.heap.Answer.TheVariants.{Granted, Simulated, Refused}
use Rattle.wb_heap_model.specs.Row.{Cell, cell_at, headers}
use Rattle.wb_heap_model.specs.Rules.{Request}
use Rattle.wb_heap_model.specs.Heap.{alloc_request, after_alloc, new_cell}
use Rattle.wb_heap_model.specs.LimitedHeap.{zero_words}
use Rattle.wb_heap_model.specs.Debug.{Debug, IsLiveIn, IsSoundDebug, alloc_made, answer_in, made_by, number_of_next}
use Rattle.wb_heap_model.proofs.Reallocations.{at-number, cell_at-inserted_other, found-all, found-from, found-head, not_at-number}
use Rattle.wb_cleanup.specs.declared.cleanup.Cleanup.{Cleanup}
use Rattle.wb_cleanup.specs.Stacks.{IsStack, cell_of, items_of}
use Rattle.wb_cleanup.proofs.StackInHeap.{Stands, stack-kept}

-- a live cell has the number of an attempt that was made
pub old-number : (p : Ptr) (d : Debug) (c : Cell (List ℕ)) → IsSoundDebug d → cell_at p d.heap.row ≡ Some c → number_of_next d ≢ p.number
old-number p d c sound found same =
    let head = found-head p d.heap.row c found in
    let live = found-all (IsLiveIn d) p (headers d.heap.row) c.head sound.live head in
    let named = found-from p (headers d.heap.row) 0 c.head sound.row.spaced head in
    absurd (omega (arith, same, at-number p c.head named.named, live.counted))

-- an attempt for another cell
pub alloc-beside : (stack : Cleanup) (d e : Debug) (bytes : ℕ) (kind : Kind) → IsSoundDebug d → IsStack stack d → e ≡ (alloc_made d bytes kind).debug →
    Stands stack (items_of stack d) e
alloc-beside stack d e bytes kind sound is made = stack-kept stack d e (by (answer_in d t) made) is
  where
    t : Request
    t = alloc_request d.heap bytes

    by : (o : Option Answer) → e ≡ (made_by d (alloc_request d.heap bytes) (after_alloc d.heap (alloc_request d.heap bytes) kind (zero_words (alloc_request d.heap bytes).length)) o).debug →
        cell_at (cell_of stack) e.heap.row ≡ cell_at (cell_of stack) d.heap.row
    by None m = ap (λ (x : Debug). cell_at (cell_of stack) x.heap.row) m
    by (Some Simulated) m = ap (λ (x : Debug). cell_at (cell_of stack) x.heap.row) m
    by (Some Refused) m = ap (λ (x : Debug). cell_at (cell_of stack) x.heap.row) m
    by (Some Granted) m =
        let new = new_cell d.heap (number_of_next d) (alloc_request d.heap bytes) kind (zero_words (alloc_request d.heap bytes).length) in
        ap (λ (x : Debug). cell_at (cell_of stack) x.heap.row) m
        ∙ cell_at-inserted_other (cell_of stack) new d.heap.row (not_at-number (cell_of stack) new.head (old-number (cell_of stack) d is.cell.cell sound is.cell.found))
