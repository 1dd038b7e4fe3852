-- What is kept once a run is added and room is made was kept before, or is that run.
use Rattle.wb_states.proofs.runs.Runs.push.Goals as goal

pub returns : goal.returns
returns c = λ i m kept. c.in_ok-insert.ensures i m (c.make_room.ensures i m kept)
