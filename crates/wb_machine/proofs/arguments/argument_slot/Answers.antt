use Rattle.std.proofs.Common.{ap, ◌∙◌, w32, FitsSigned, rules}
use Rattle.std.proofs.lemmas.Int.{to_z-of_z}
use Rattle.wb_meaning.specs.State.{pointer, number}
use Rattle.wb_machine.proofs.arguments.argument_slot.Goals as goal

pub returns-in-Passed : goal.returns-in-Passed
returns-in-Passed c buffers = rw c.in-Passed.is (ap pointer (c.pointer_over.ensures buffers))

pub returns-in-Given : goal.returns-in-Given
returns-in-Given c buffers =
    let fits : FitsSigned w32 c.number_over.result = search rules in
    rw c.in-Given.is (ap number (to_z-of_z w32 c.number_over.result fits ∙ c.number_over.ensures buffers))
