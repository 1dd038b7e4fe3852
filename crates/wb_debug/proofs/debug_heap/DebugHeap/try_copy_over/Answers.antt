use Rattle.std.proofs.Common.{sym, subst}
use Rattle.wb_heap_model.specs.declared.heap.Rule.{Rule}
use Rattle.wb_heap_model.specs.LimitedHeap.{LimitedHeap}
use Rattle.wb_debug.specs.Debug.{IsKept}
use Rattle.wb_debug.specs.Log.{Log}
use Rattle.wb_debug.specs.Tally.{Tally}
use Rattle.wb_debug.proofs.debug_heap.DebugHeap.try_copy_over.Goals as goal

-- a heap of equal parts keeps what the other does
pub invariant_of-result : goal.invariant_of-result
invariant_of-result c =
    let i = c.self.inside in
    subst (λ (h : LimitedHeap). IsKept (record i { heap = h; rule = c.in_ok-try_copy.field-0; log = c.in_ok-try_copy-2.field-0; tally = c.copy.result })) (sym c.in_ok-try_copy_over.ensures)
    (subst (λ (r : Rule). IsKept (record i { rule = r; log = c.in_ok-try_copy-2.field-0; tally = c.copy.result })) (sym c.in_ok-try_copy.ensures)
    (subst (λ (l : Log). IsKept (record i { log = l; tally = c.copy.result })) (sym c.in_ok-try_copy-2.ensures)
    (subst (λ (t : Tally). IsKept (record i { tally = t })) (sym c.copy.ensures) c.self.invariant)))
