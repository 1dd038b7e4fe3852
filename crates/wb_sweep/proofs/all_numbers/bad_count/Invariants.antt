-- Proof: bad_count. Those counted and those to come are as many as all.
use Rattle.std.proofs.Common.{◌≡◌, ◌+◌, ◌≤◌, drop}
use Rattle.wb_runs.specs.AllNumbers.{bad_count}
use Rattle.wb_sweep.proofs.all_numbers.bad_count.Given as goal

abbrev pub invariant-loop-told : goal.invariant-loop-told
invariant-loop-told l = (l.count + bad_count (drop l.told-index l.told-items) ≡ bad_count l.told-items) × (l.count ≤ l.told-index)
