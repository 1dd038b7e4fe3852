-- Proof: first_bad. The ranges to come say as much as all of them.
use Rattle.std.proofs.Common.{◌≡◌, drop}
use Rattle.wb_lengths.specs.Lengths.{first_bad}
use Rattle.wb_lengths.proofs.all_lengths.first_bad.Given as goal

abbrev pub invariant-loop-range : goal.invariant-loop-range
invariant-loop-range l = first_bad (drop l.range-index l.range-items) ≡ first_bad l.range-items
