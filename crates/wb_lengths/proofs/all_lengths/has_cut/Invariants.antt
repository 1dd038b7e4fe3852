-- Proof: has_cut. The ranges to come say as much as all of them.
use Rattle.std.proofs.Common.{◌≡◌, drop}
use Rattle.wb_lengths.specs.Lengths.{has_cut}
use Rattle.wb_lengths.proofs.all_lengths.has_cut.Given as goal

abbrev pub invariant-loop-range : goal.invariant-loop-range
invariant-loop-range l = has_cut (drop l.range-index l.range-items) ≡ has_cut l.range-items
