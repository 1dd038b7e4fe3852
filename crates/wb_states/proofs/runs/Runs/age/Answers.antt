-- What is left once a run is dropped was kept before.
use Rattle.wb_states.proofs.runs.Runs.age.Goals as goal

pub returns-then-not-stays : goal.returns-then-not-stays
returns-then-not-stays c i m kept = c.forget.ensures i m kept
