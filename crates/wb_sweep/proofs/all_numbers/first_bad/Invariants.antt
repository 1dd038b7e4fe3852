-- Proof: first_bad. The numbers to come say as much as all of them.
use Rattle.std.proofs.Common.{◌≡◌, drop}
use Rattle.wb_runs.specs.AllNumbers.{first_bad}
use Rattle.wb_sweep.proofs.all_numbers.first_bad.Given as goal

abbrev pub invariant-loop-told : goal.invariant-loop-told
invariant-loop-told l = first_bad (drop l.told-index l.told-items) ≡ first_bad l.told-items
