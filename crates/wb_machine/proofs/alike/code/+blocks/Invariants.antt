use Rattle.std.proofs.Common.{◌≡◌, ◌+◌, ◌*◌, length}
use Rattle.wb_machine.proofs.alike.code.+blocks.Given as goal

abbrev pub invariant-same_block-loop-left : goal.invariant-same_block-loop-left
invariant-same_block-loop-left l = l.other_left ≡ l.left → l.others ≡ l.statements

abbrev pub decreases-same_block-loop-left : goal.decreases-same_block-loop-left
decreases-same_block-loop-left l = length l.left

abbrev pub decreases-same_block : goal.decreases-same_block
decreases-same_block l = 3 * l.levels + 2

abbrev pub decreases-same_statement : goal.decreases-same_statement
decreases-same_statement l = 3 * l.levels + 1

abbrev pub decreases-same_nested : goal.decreases-same_nested
decreases-same_nested l = 3 * l.levels
