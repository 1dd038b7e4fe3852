use Rattle.std.proofs.Common.{sym, ◌∙◌}
use Rattle.wb_tree.specs.declared.script.Argument.TheVariants.{Passed}
use Rattle.wb_tree.specs.declared.script.Pointer.TheVariants.{Held}
use Rattle.wb_tree.specs.declared.script.Holder.TheVariants.{Local}
use Rattle.wb_machine.proofs.effects.PointerOperands.{argument_fine, argument_refusal}
use Rattle.wb_machine.proofs.state.State.arguments_refusal.Goals as goal

pub returns-in-Some : goal.returns-in-Some
returns-in-Some c =
    sym (argument_refusal c.args.self.now c.args.arguments.now c.loop-argument.argument-index (Passed (Held (Local 0))) c.in-Some.panic c.loop-argument-test.true c.loop-argument.invariant
    (sym c.argument_refusal.ensures ∙ c.in-Some.is))

pub loop-argument-preserved : goal.loop-argument-preserved
loop-argument-preserved c =
    argument_fine c.args.self.now c.args.arguments.now c.loop-argument.argument-index (Passed (Held (Local 0))) c.loop-argument-test.true c.loop-argument.invariant (sym c.argument_refusal.ensures ∙ c.in-None.is)
