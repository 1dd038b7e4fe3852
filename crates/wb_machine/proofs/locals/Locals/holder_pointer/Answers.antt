use Rattle.std.proofs.Common.{ap, ◌∙◌}
use Rattle.wb_machine.specs.RunState.{Values}
use Rattle.wb_machine.specs.LocalValues.{value_stored}
use Rattle.wb_machine.specs.PointerOperands.{holder_pointer_over}
use Rattle.wb_machine.proofs.frames.Frames.{frame_is}
use Rattle.wb_machine.proofs.locals.Locals.holder_pointer.Goals as goal

pub returns : goal.returns
returns c =
    let inside = c.self.inside in
    c.holder_pointer_over.ensures inside.buffers.items
    ∙ ap (λ (locals : Values). holder_pointer_over c.args.this locals c.args.holder)
    (frame_is (value_stored inside.buffers.items) inside.slots.items c.deref.result.now inside.base c.args.self.now c.self.view_is c.deref.ensures.value)
