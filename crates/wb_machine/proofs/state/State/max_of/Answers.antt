use Rattle.std.proofs.Common.{arith, sym, ◌∙◌}
use Rattle.wb_machine.specs.StateView.{run_state}
use Rattle.wb_machine.proofs.kept.TextInvariant.{text_of_base, max_small}
use Rattle.wb_machine.proofs.state.State.max_of.Goals as goal

pub max_len-requires : goal.max_len-requires
max_len-requires c = text_of_base (run_state c.self.inside) c.args.self.now c.args.base c.in-Cell.ptr c.self.view_is c.self.invariant.texts c.in-Cell.is c.requires

pub returns-in-Some-clause-most : goal.returns-in-Some-clause-most
returns-in-Some-clause-most c =
    let is = text_of_base (run_state c.self.inside) c.args.self.now c.args.base c.in-Cell.ptr c.self.view_is c.self.invariant.texts c.in-Cell.is c.requires in
    omega (arith, c.max_len.ensures, max_small c.in-Cell.ptr c.self.inside.heap c.in-Some.field-0 (sym c.in-Some.is ∙ c.header.ensures.header) is c.in-Some.ensures.live.within)
