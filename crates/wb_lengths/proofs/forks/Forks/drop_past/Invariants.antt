-- Proof: drop_past. The forks that are left were there before.
use Rattle.wb_lengths.specs.Forks.{KeepsForks}
use Rattle.wb_lengths.proofs.forks.Forks.drop_past.Given as goal

abbrev pub invariant-loop : goal.invariant-loop
invariant-loop l = KeepsForks l.fn.self l.self
