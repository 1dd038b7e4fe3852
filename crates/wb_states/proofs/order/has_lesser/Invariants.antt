-- What is left of both lists tells.
use Rattle.std.proofs.Common.{◌≡◌, length}
use Rattle.wb_runs.specs.Sets.{has_lesser_number}
use Rattle.wb_states.proofs.order.has_lesser.Given as goal

abbrev pub invariant-loop-left : goal.invariant-loop-left
invariant-loop-left l = has_lesser_number l.numbers l.others ≡ has_lesser_number l.left l.other_left

abbrev pub decreases-loop-left : goal.decreases-loop-left
decreases-loop-left l = length l.left
