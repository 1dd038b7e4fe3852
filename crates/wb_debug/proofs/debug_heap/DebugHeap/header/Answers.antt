use Rattle.std.proofs.Common.{◌∙◌, IfSome, ap, option_map, subst, sym}
use Rattle.wb_heap_model.specs.Debug.{Debug, IsLiveIn, IsSoundDebug}
use Rattle.wb_heap_model.specs.Row.{cell_at}
use Rattle.wb_debug.proofs.DebugFields.{kept-sound, cell-live}
use Rattle.wb_debug.proofs.debug_heap.DebugHeap.header.Goals as goal

pub returns-clause-live : goal.returns-clause-live
returns-clause-live c =
    subst (λ o. IfSome o (IsLiveIn c.args.self.now)) (sym (c.header.ensures.header ∙ ap (λ (d : Debug). option_map (λ e. e.head) (cell_at c.args.ptr d.heap.row)) c.self.view_is))
    (cell-live c.self.inside c.args.self.now c.args.ptr c.self.view_is c.self.invariant)

pub returns-clause-sound : goal.returns-clause-sound
returns-clause-sound c = subst IsSoundDebug c.self.view_is (kept-sound c.self.inside c.self.invariant)
