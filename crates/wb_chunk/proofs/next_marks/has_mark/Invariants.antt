-- A mark was met where the blocks before this one have one, and not else.
use Rattle.std.proofs.Common.{◌≡◌, false}
use Rattle.wb_chunk.specs.Marks.{AreUnmarked}
use Rattle.wb_chunk.proofs.next_marks.has_mark.Given as goal

abbrev pub invariant-loop-block : goal.invariant-loop-block
invariant-loop-block l = (l.any ≡ false → AreUnmarked l.marks l.from l.block) × (AreUnmarked l.marks l.from l.block → l.any ≡ false)
