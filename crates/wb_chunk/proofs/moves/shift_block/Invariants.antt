-- As many words are moved.
use Rattle.std.proofs.Common.{true}
use Rattle.wb_chunk.specs.Halves.{AreMoved}
use Rattle.wb_chunk.proofs.moves.shift_block.Given as goal

abbrev pub invariant-loop-i : goal.invariant-loop-i
invariant-loop-i l = AreMoved true l.fn.words l.words l.from l.to l.i
