use Rattle.wb_script.proofs.building.ClosedBlocks.{whole_if, whole_else, whole_repeat, whole_trap}
use Rattle.wb_script.proofs.tree.blocks.statement_of_block.Goals as goal

pub returns-in-If : goal.returns-in-If
returns-in-If c = rw c.in-If.is (whole_if c.in-If.condition c.args.statements)

pub returns-in-Else : goal.returns-in-Else
returns-in-Else c = rw c.in-Else.is (whole_else c.in-Else.condition c.in-Else.first c.args.statements)

pub returns-in-Repeat : goal.returns-in-Repeat
returns-in-Repeat c = rw c.in-Repeat.is (whole_repeat c.in-Repeat.turns c.args.statements)

pub returns-in-Trap : goal.returns-in-Trap
returns-in-Trap c = rw c.in-Trap.is (whole_trap c.in-Trap.variable c.args.statements)
