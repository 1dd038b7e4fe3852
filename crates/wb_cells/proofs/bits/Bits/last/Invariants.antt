use Rattle.std.proofs.Common.{◌≡◌, ℕ, ◌<◌, ◌≤◌, length, slice_index_or, false}
use Rattle.wb_cells.proofs.bits.Bits.last.Given as goal

abbrev pub invariant-loop-stop : goal.invariant-loop-stop
invariant-loop-stop l = (l.stop ≤ l.end) × (l.stop ≤ length l.self) × ((k : ℕ) → l.stop ≤ k → k < l.end → slice_index_or l.self k false ≡ false)

abbrev pub decreases-loop-stop : goal.decreases-loop-stop
decreases-loop-stop l = l.stop
