use Rattle.std.proofs.Common.{◌≡◌, length}
use Rattle.wb_heap_tests.proofs.chunks.spread.Given as goal

abbrev pub invariant-loop-i : goal.invariant-loop-i
invariant-loop-i l = length l.chunk ≡ l.count
