use Rattle.std.proofs.Common.{◌<◌, sym, subst}
use Rattle.std.specs.Prelude.{All}
use Rattle.wb_heap_model.specs.LimitedHeap.{LimitedHeap}
use Rattle.wb_heap_model.specs.Row.{headers}
use Rattle.wb_heap_tests.proofs.heap_calls.NumberedCalled.try_copy_over.Goals as goal

-- a heap that is equal has no cell with a number that is still to come
pub invariant_of-result : goal.invariant_of-result
invariant_of-result c =
    record {
      numbered = c.args.self.now.numbered;
      below = subst (λ (h : LimitedHeap). All (λ t. t.number < c.args.self.now.next) (headers h.row)) (sym c.in-Ok.ensures) c.args.self.now.below;
    }
