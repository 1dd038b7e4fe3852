use Rattle.std.proofs.Common.{◌-◌, ◌≤◌}
use Rattle.wb_chunk.proofs.MarkedWords.{AreCopied}
use Rattle.wb_chunk.proofs.marks.overwrite.Given as goal

abbrev pub invariant-loop-block : goal.invariant-loop-block
invariant-loop-block l = (l.block ≤ l.blocks) × AreCopied l.source l.words l.marks l.block

abbrev pub decreases-loop-block : goal.decreases-loop-block
decreases-loop-block l = l.blocks - l.block
