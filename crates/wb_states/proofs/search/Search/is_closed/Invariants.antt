-- The states before the one that is next are closed.
use Rattle.wb_states.specs.Closed.{AreClosedBefore}
use Rattle.wb_states.specs.States.{ground_of}
use Rattle.wb_states.proofs.search.Search.is_closed.Given as goal

abbrev pub invariant-loop-at : goal.invariant-loop-at
invariant-loop-at l = AreClosedBefore (ground_of l.self) l.self l.most l.bound l.at
