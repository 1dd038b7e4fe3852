use Rattle.std.proofs.Common.{subst}
use Rattle.wb_machine.specs.TextEffects.{part_stored}
use Rattle.wb_machine.specs.Owed.{CarriesOut}
use Rattle.wb_machine.proofs.state.State.left.Goals as goal

pub returns : goal.returns
returns c =
    subst (λ x. CarriesOut c.args.self.now (part_stored c.args.self.now c.args.local x) c.set_part.result c.set_part.new.self) c.left_part-part.ensures c.set_part.ensures
