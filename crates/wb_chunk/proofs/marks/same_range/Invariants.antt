-- The words of the range that are in the blocks before this one are the same.
use Rattle.std.proofs.Common.{◌≡◌, ◌-◌, ◌*◌, ◌/◌, ◌<◌, ◌≤◌, ℕ, slice_index}
use Rattle.wb_chunk.proofs.marks.same_range.Given as goal

abbrev pub invariant-loop-block : goal.invariant-loop-block
invariant-loop-block l = (l.i / 256 ≤ l.block) × (l.block ≤ l.blocks)
    × ((k : ℕ) → l.i ≤ k → k < l.end → k < l.block * 256 → slice_index l.others k ≡ slice_index l.words k)

abbrev pub decreases-loop-block : goal.decreases-loop-block
decreases-loop-block l = l.blocks - l.block
