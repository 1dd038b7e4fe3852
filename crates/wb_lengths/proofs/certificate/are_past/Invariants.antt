-- Proof: are_past. The numbers to come say as much as all of them.
use Rattle.std.proofs.Common.{◌≡◌, drop}
use Rattle.wb_lengths.specs.SetHeaps.{are_past}
use Rattle.wb_lengths.proofs.certificate.are_past.Given as goal

abbrev pub invariant-loop-number : goal.invariant-loop-number
invariant-loop-number l = are_past l.length l.trace (drop l.number-index l.number-items) ≡ are_past l.length l.trace l.number-items
