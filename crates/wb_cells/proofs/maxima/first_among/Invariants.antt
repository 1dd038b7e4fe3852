use Rattle.std.proofs.Common.{ℕ, ◌-◌, ◌<◌, ◌≤◌, length, slice_index}
use Rattle.wb_cells.proofs.maxima.first_among.Given as goal

abbrev pub invariant-loop-found : goal.invariant-loop-found
invariant-loop-found l = (l.from ≤ l.at) × ((k : ℕ) → l.from ≤ k → k < l.at → slice_index l.numbers k < l.least)

abbrev pub decreases-loop-found : goal.decreases-loop-found
decreases-loop-found l = length l.numbers - l.at
