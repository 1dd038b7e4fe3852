use Rattle.std.proofs.Common.{ap, ◌∙◌}
use Rattle.wb_heap_model.specs.declared.heap.Ptr.{Ptr}
use Rattle.wb_objects.specs.Objects.{words_found}
use Rattle.wb_machine.specs.RunState.{field_count}
use Rattle.wb_machine.specs.PointerOperands.{field_among}
use Rattle.wb_machine.proofs.pointers.pointer_over.Goals as goal

pub returns-in-Held : goal.returns-in-Held
returns-in-Held c buffers = rw c.in-Held.is (c.holder_pointer_over.ensures buffers)

pub returns-in-Field : goal.returns-in-Field
returns-in-Field c buffers =
    let d = c.args.context.heap.now in
    rw c.in-Field.is (c.field_over.ensures
    ∙ ap (λ (p : Ptr). field_among (field_count c.args.context.script.now c.in-Field.class) c.in-Field.index (words_found d p c.in-Field.class)) (c.holder_pointer_over-object.ensures buffers))
