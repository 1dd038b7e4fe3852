-- Proof: go_to_attempt. The run goes on, and stays one of the same.
use Rattle.wb_lengths.specs.Forks.{IsOfSame}
use Rattle.wb_lengths.proofs.set_run.SetRun.go_to_attempt.Given as goal

abbrev pub invariant-loop-turn : goal.invariant-loop-turn
invariant-loop-turn l = IsOfSame l.fn.self l.self
