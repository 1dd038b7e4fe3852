use Rattle.std.proofs.Common.{◌≡◌, ◌++◌, replicate}
use Rattle.wb_chunk.proofs.growth.append_zeros.Given as goal

abbrev pub invariant-loop-i : goal.invariant-loop-i
invariant-loop-i l =
    (l.region.words ≡ l.initial.region.words ++ replicate l.i 0)
    × (l.region.capacity ≡ l.initial.region.capacity) × (l.region.alloc ≡ l.initial.region.alloc)
