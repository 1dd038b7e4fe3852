-- The blocks before this one have no mark.
use Rattle.std.proofs.Common.{◌-◌, ◌≤◌}
use Rattle.wb_chunk.specs.Marks.{AreUnmarked}
use Rattle.wb_chunk.proofs.next_marks.search_marked.Given as goal

abbrev pub invariant-loop-block : goal.invariant-loop-block
invariant-loop-block l = (l.from ≤ l.block) × (l.block ≤ l.end) × AreUnmarked l.marks l.from l.block

abbrev pub decreases-loop-block : goal.decreases-loop-block
decreases-loop-block l = l.end - l.block
