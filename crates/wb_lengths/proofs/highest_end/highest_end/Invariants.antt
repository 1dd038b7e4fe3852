-- Proof: highest_end. The greatest end so far, and that of the attempts to come.
use Rattle.std.proofs.Common.{◌≡◌, drop, max}
use Rattle.wb_heap_model.specs.Rises.{highest_end}
use Rattle.wb_lengths.proofs.highest_end.highest_end.Given as goal

abbrev pub invariant-loop-attempt : goal.invariant-loop-attempt
invariant-loop-attempt l = max l.highest (highest_end (drop l.attempt-index l.attempt-items)) ≡ highest_end l.attempt-items
