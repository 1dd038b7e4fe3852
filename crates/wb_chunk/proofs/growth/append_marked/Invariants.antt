-- The words of so many blocks are there.
use Rattle.std.proofs.Common.{◌≡◌, ◌*◌, take}
use Rattle.wb_chunk.proofs.growth.append_marked.Given as goal

abbrev pub invariant-loop-block : goal.invariant-loop-block
invariant-loop-block l =
    (l.region.words ≡ take (l.block * 256) l.words)
    × (l.region.capacity ≡ l.initial.region.capacity) × (l.region.alloc ≡ l.initial.region.alloc)
