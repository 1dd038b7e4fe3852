-- Proof: go_to. The run goes on, and stays one of the same as the forks.
use Rattle.wb_lengths.proofs.ForkLemmas.{of-same}
use Rattle.wb_lengths.proofs.forks.Forks.go_to.Goals as goal

pub loop-attempt-preserved : goal.loop-attempt-preserved
loop-attempt-preserved c script budget shape are is =
    let on = c.loop-attempt.invariant script budget shape are is in
    c.approach.ensures script budget shape on.0 (of-same script budget shape _ c.go_to_attempt.new.self c.go_to_attempt.ensures on.1)
