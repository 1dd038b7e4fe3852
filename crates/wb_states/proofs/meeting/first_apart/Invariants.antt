use Rattle.std.proofs.Common.{length}
use Rattle.wb_states.proofs.meeting.first_apart.Given as goal

abbrev pub decreases-loop-left : goal.decreases-loop-left
decreases-loop-left l = length l.left
