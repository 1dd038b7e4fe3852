-- As many of the last words are moved, in blocks and then one by one.
use Rattle.std.proofs.Common.{◌+◌, ◌-◌, ◌*◌}
use Rattle.wb_chunk.specs.Halves.{AreMoved}
use Rattle.wb_chunk.proofs.moves.move_up.Given as goal

abbrev pub invariant-loop-block : goal.invariant-loop-block
invariant-loop-block l = AreMoved l.shifted l.fn.words l.words (l.from + (l.n - l.block * 16)) (l.to + (l.n - l.block * 16)) (l.block * 16)

abbrev pub invariant-loop-i : goal.invariant-loop-i
invariant-loop-i l = AreMoved l.shifted l.fn.words l.words (l.from + (l.rest - l.i)) (l.to + (l.rest - l.i)) (l.n - (l.rest - l.i))
