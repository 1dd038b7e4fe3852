use Rattle.wb_script.specs.Growing.{declared_in_space}
use Rattle.wb_script.proofs.building.Additions.{closed_adds_where}
use Rattle.wb_script.proofs.tree.bodies.add_end.Goals as goal

pub returns : goal.returns
returns c =
    closed_adds_where (declared_in_space c.args.space) c.args.number c.args.body.now c.args.operands.now c.end_block.new.block_stack c.if-not-is_empty.ensures c.requires.sound c.in_ok-end_block.ensures
