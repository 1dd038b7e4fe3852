use Rattle.std.proofs.Common.{refl}
use Rattle.wb_script.specs.Growing.{declared_in_space}
use Rattle.wb_script.proofs.building.Additions.{done_adds_where}
use Rattle.wb_script.proofs.tree.bodies.end_body.Goals as goal

pub returns : goal.returns
returns c = done_adds_where (declared_in_space c.args.space) c.args.number c.args.body c.args.operands.now c.args.body.block_stack.statements c.if-not-is_empty.ensures c.requires.sound c.requires.outside refl
