use Rattle.std.proofs.Common.{ap, ◌∙◌, sym}
use Rattle.wb_heap_model.specs.declared.heap.Ptr.{Ptr}
use Rattle.wb_tree.specs.declared.script.Pointer.{Pointer}
use Rattle.wb_heap_model.specs.Debug.{with_row}
use Rattle.wb_machine.specs.Effects.{pointer_stored}
use Rattle.wb_machine.specs.PointerOperands.{row_with_field}
use Rattle.wb_machine.specs.RunState.{with_debug}
use Rattle.wb_machine.proofs.state.State.set_pointer.Goals as goal

pub returns-in-Field-clause-stored : goal.returns-in-Field-clause-stored
returns-in-Field-clause-stored c =
    let h = c.args.self.now in
    c.set_field.ensures.set
    ∙ ap (λ (p : Ptr). with_debug h (with_row h.debug (row_with_field p c.in-Field.index c.args.ptr h.debug.heap.row))) c.holder_pointer.ensures
    ∙ sym (ap (λ (t : Pointer). pointer_stored h t c.args.ptr) c.in-Field.is)
