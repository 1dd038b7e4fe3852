-- The blocks before this one have no mark.
use Rattle.wb_chunk.specs.Marks.{AreUnmarked}
use Rattle.wb_chunk.proofs.next_marks.first_marked.Given as goal

abbrev pub invariant-loop-block : goal.invariant-loop-block
invariant-loop-block l = AreUnmarked l.marks l.from l.block
