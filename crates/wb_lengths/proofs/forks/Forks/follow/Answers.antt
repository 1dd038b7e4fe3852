-- Proof: follow. The run goes on, and stays one of the same as the forks.
use Rattle.wb_lengths.proofs.forks.Forks.follow.Goals as goal

pub returns : goal.returns
returns c script budget shape are is =
    let to = c.go_to.ensures script budget shape are is in c.go_to_end.ensures script budget shape to.0 to.1
