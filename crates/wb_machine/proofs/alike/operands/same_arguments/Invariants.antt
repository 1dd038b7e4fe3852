use Rattle.std.proofs.Common.{◌≡◌, length}
use Rattle.wb_machine.proofs.alike.operands.same_arguments.Given as goal

abbrev pub invariant-loop-left : goal.invariant-loop-left
invariant-loop-left l = l.other_left ≡ l.left → l.others ≡ l.arguments

abbrev pub decreases-loop-left : goal.decreases-loop-left
decreases-loop-left l = length l.left
