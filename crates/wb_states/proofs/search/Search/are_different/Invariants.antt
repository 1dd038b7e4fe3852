-- The states before the one that is next are in order.
use Rattle.wb_states.specs.Many.{AreInOrderBefore}
use Rattle.wb_states.proofs.search.Search.are_different.Given as goal

abbrev pub invariant-loop-at : goal.invariant-loop-at
invariant-loop-at l = AreInOrderBefore l.self.states l.failures l.at
