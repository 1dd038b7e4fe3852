use Rattle.std.proofs.Common.{◌+◌, ◌-◌, ◌/◌, ◌≤◌}
use Rattle.wb_chunk.proofs.MarkedWords.{AreDone}
use Rattle.wb_chunk.proofs.marks.zero.Given as goal

abbrev pub invariant-loop-block : goal.invariant-loop-block
invariant-loop-block l = (l.i / 256 ≤ l.block) × (l.block ≤ l.blocks) × AreDone l.fn.words l.words l.marks l.i (l.i + l.n) l.block

abbrev pub decreases-loop-block : goal.decreases-loop-block
decreases-loop-block l = l.blocks - l.block
