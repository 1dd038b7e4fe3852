use Rattle.std.proofs.Common.{ap, ◌∙◌, w32, FitsSigned, rules}
use Rattle.std.proofs.lemmas.Int.{to_z-of_z}
use Rattle.wb_machine.specs.RunState.{Values}
use Rattle.wb_machine.specs.LocalValues.{value_stored, number_over}
use Rattle.wb_machine.proofs.frames.Frames.{frame_is}
use Rattle.wb_machine.proofs.locals.Locals.number.Goals as goal

pub returns : goal.returns
returns c =
    let inside = c.self.inside in
    let fits : FitsSigned w32 c.number_over.result = search rules in
    to_z-of_z w32 c.number_over.result fits ∙ c.number_over.ensures inside.buffers.items
    ∙ ap (λ (locals : Values). number_over locals c.args.operand)
    (frame_is (value_stored inside.buffers.items) inside.slots.items c.deref.result.now inside.base c.args.self.now c.self.view_is c.deref.ensures.value)
