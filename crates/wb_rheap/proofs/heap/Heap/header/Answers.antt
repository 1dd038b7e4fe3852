use Rattle.std.proofs.Common.{◌≡◌, ◌*◌, sym, ◌∙◌, ap, subst, length, option_map, IfSome}
use Rattle.wb_heap_model.specs.CellRow.{payload_of}
use Rattle.wb_heap_model.specs.LimitedHeap.{IsSoundHeap, IsLiveBelow}
use Rattle.wb_heap_model.specs.Row.{is_at, cell_at, usable_of}
use Rattle.wb_heap_model.proofs.LimitedHeaps.{found-live}
use Rattle.wb_heap_model.proofs.Rows.{head-cell_at}
use Rattle.wb_rheap.proofs.Finding.{payload-filled}
use Rattle.wb_rheap.proofs.heap.Heap.header.Goals as goal

pub returns-clause-header : goal.returns-clause-header
returns-clause-header c = c.header.ensures.header ∙ ap (λ h. option_map (λ d. d.head) (cell_at c.args.ptr h.row)) c.self.view_is

pub returns-clause-live : goal.returns-clause-live
returns-clause-live c =
    let sound = subst IsSoundHeap c.self.view_is c.self.invariant.sound in
    subst (λ o. IfSome o (IsLiveBelow c.args.self.now.limit)) (sym (returns-clause-header c ∙ head-cell_at c.args.ptr c.args.self.now.row))
    (found-live c.args.self.now (is_at c.args.ptr) sound)

pub returns-clause-payload : goal.returns-clause-payload
returns-clause-payload c =
    let sound = subst IsSoundHeap c.self.view_is c.self.invariant.sound in
    subst (λ o. IfSome o (λ h. 4 * length (payload_of c.args.ptr c.args.self.now.row) ≡ usable_of h)) (sym (returns-clause-header c))
    (payload-filled c.args.ptr c.args.self.now.row sound.filled)
