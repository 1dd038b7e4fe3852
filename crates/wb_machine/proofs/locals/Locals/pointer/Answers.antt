use Rattle.std.proofs.Common.{ap, ◌∙◌}
use Rattle.wb_machine.specs.RunState.{Values}
use Rattle.wb_machine.specs.LocalValues.{value_stored}
use Rattle.wb_machine.specs.PointerOperands.{pointer_over}
use Rattle.wb_machine.proofs.frames.Frames.{frame_is}
use Rattle.wb_machine.proofs.locals.Locals.pointer.Goals as goal

pub returns : goal.returns
returns c =
    let inside = c.self.inside in
    c.pointer_over.ensures inside.buffers.items
    ∙ ap (λ (locals : Values). pointer_over c.args.context.script.now c.args.context.heap.now c.args.context.this locals c.args.operand)
    (frame_is (value_stored inside.buffers.items) inside.slots.items c.deref.result.now inside.base c.args.self.now c.self.view_is c.deref.ensures.value)
