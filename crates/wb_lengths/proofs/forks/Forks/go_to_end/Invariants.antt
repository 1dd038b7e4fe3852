-- Proof: go_to_end. The run goes on, and stays one of the same as the forks.
use Rattle.wb_lengths.specs.Forks.{GoesOn}
use Rattle.wb_lengths.proofs.forks.Forks.go_to_end.Given as goal

abbrev pub invariant-loop-attempt : goal.invariant-loop-attempt
invariant-loop-attempt l = GoesOn l.fn.self l.fn.run l.self l.run
