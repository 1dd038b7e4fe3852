use Rattle.std.proofs.Common.{◌≡◌, ◌≢◌, ℕ, ◌+◌, ◌*◌, Option, Some, None, OnOk, ap, subst, ◌∙◌, arith}
use Rattle.wb_heap_model.specs.declared.heap.Ptr.{Ptr}
use Rattle.wb_heap_model.specs.declared.heap.Kind.TheVariants.{Text}
use Rattle.wb_heap_model.specs.declared.heap.Answer.{Answer}
use Rattle.wb_heap_model.specs.declared.heap.Answer.TheVariants.{Granted, Simulated, Refused}
use Rattle.wb_heap_model.specs.Row.{cell_at, cell_length, headers}
use Rattle.wb_heap_model.specs.Heap.{alloc_request, after_alloc, new_cell}
use Rattle.wb_heap_model.specs.LimitedHeap.{zero_words}
use Rattle.wb_heap_model.specs.Debug.{Debug, IsLiveIn, IsSoundDebug, alloc_made, answer_in, made_by, number_of_next}
use Rattle.wb_heap_model.specs.TextCells.{IsTextAt}
use Rattle.wb_heap_model.proofs.Reallocations.{at-number, found-all, found-from, found-head}
use Rattle.wb_heap_model.proofs.TextCellsHeap.{text-beside}
use Rattle.wb_object_tests.proofs.texts.grant_text_beside.Goals as goal

-- a text's pointer has the number of an attempt that was made
old-number : (q : Ptr) (d : Debug) → IsSoundDebug d → IsTextAt q d → q.number ≢ number_of_next d
old-number q d sound is same =
    let found = found-head q d.heap.row is.cell is.found in
    let live = found-all (IsLiveIn d) q (headers d.heap.row) is.cell.head sound.live found in
    let named = found-from q (headers d.heap.row) 0 is.cell.head sound.row.spaced found in
    absurd (omega (arith, same, at-number q is.cell.head named.named, live.counted))

-- an attempt for a cell leaves the texts that are there
stays : (q : Ptr) (d new : Debug) (bytes : ℕ) → IsSoundDebug d → IsTextAt q d → new ≡ (alloc_made d bytes Text).debug → IsTextAt q new
stays q d new bytes sound is made = by (answer_in d (alloc_request d.heap bytes)) made
  where
    kept : new.heap.row ≡ d.heap.row → IsTextAt q new
    kept row = record { cell = is.cell; found = ap (cell_at q) row ∙ is.found; kind = is.kind; text = is.text }

    by : (o : Option Answer) → new ≡ (made_by d (alloc_request d.heap bytes) (after_alloc d.heap (alloc_request d.heap bytes) Text (zero_words (cell_length bytes))) o).debug → IsTextAt q new
    by None n = kept (ap (λ (x : Debug). x.heap.row) n)
    by (Some Granted) n =
        text-beside q d new (new_cell d.heap (number_of_next d) (alloc_request d.heap bytes) Text (zero_words (cell_length bytes))) (old-number q d sound is)
        (ap (λ (x : Debug). x.heap.row) n) is
    by (Some Simulated) n = kept (ap (λ (x : Debug). x.heap.row) n)
    by (Some Refused) n = kept (ap (λ (x : Debug). x.heap.row) n)

pub returns-in-Ok-Granted-clause-other : goal.returns-in-Ok-Granted-clause-other
returns-in-Ok-Granted-clause-other c =
    stays c.args.other c.args.heap.now c.make.new.heap (4 + 2 * c.args.n) c.requires.sound c.requires.other
    (subst (λ r. OnOk r (c.make.new.heap ≡ (alloc_made c.args.heap.now (4 + 2 * c.args.n) Text).debug)) c.in-Ok-Granted.is c.make.ensures.made)
