use Rattle.std.proofs.Common.{sym, ◌∙◌, ap, subst, IfSome}
use Rattle.std.specs.Prelude.{nat_le}
use Rattle.wb_heap_model.specs.LimitedHeap.{IsSoundHeap, IsLiveBelow, next_live_of}
use Rattle.wb_heap_model.specs.Row.{headers}
use Rattle.wb_heap_model.proofs.LimitedHeaps.{found-live}
use Rattle.wb_rheap.proofs.heap.Heap.next_live.Goals as goal

pub returns-clause-first : goal.returns-clause-first
returns-clause-first c = c.next_live.ensures.first ∙ ap (λ h. next_live_of c.args.from (headers h.row)) c.self.view_is

pub returns-clause-live : goal.returns-clause-live
returns-clause-live c =
    let sound = subst IsSoundHeap c.self.view_is c.self.invariant.sound in
    subst (λ o. IfSome o (IsLiveBelow c.args.self.now.limit)) (sym (returns-clause-first c)) (found-live c.args.self.now (λ h. nat_le c.args.from h.place) sound)
