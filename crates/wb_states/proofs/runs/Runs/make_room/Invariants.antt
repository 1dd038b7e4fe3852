-- Each run that is left was there.
use Rattle.wb_states.specs.States.{AreOf}
use Rattle.wb_states.proofs.runs.Runs.make_room.Given as goal

abbrev pub invariant-loop : goal.invariant-loop
invariant-loop l = AreOf l.fn.self l.self
