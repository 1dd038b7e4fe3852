use Rattle.std.proofs.Common.{ap, ◌∙◌, sym, arith, length}
use Rattle.wb_machine.specs.TextOperands.{base_text}
use Rattle.wb_machine.specs.StateView.{run_state}
use Rattle.wb_machine.proofs.kept.TextInvariant.{text_of_base, text_small}
use Rattle.wb_machine.proofs.state.State.base_length.Goals as goal

pub length-requires-in-Some : goal.length-requires-in-Some
length-requires-in-Some c = text_of_base (run_state c.self.inside) c.args.self.now c.args.base c.in-Cell.ptr c.self.view_is c.self.invariant.texts c.in-Cell.is c.requires.base

pub returns-in-Literal-clause-length : goal.returns-in-Literal-clause-length
returns-in-Literal-clause-length c =
    c.literal_length.ensures.length c.args.self.now ∙ ap (λ b. length (base_text c.args.script.now.literals c.args.self.now b)) (sym c.in-Literal.is)

pub returns-in-Some-clause-most : goal.returns-in-Some-clause-most
returns-in-Some-clause-most c =
    let is = text_of_base (run_state c.self.inside) c.args.self.now c.args.base c.in-Cell.ptr c.self.view_is c.self.invariant.texts c.in-Cell.is c.requires.base in
    omega (arith, c.length-in-Some.ensures, text_small c.in-Cell.ptr c.self.inside.heap c.in-Some.field-0 is c.in-Some.ensures.live.within c.in-Some.ensures.payload)
