-- Proof: find_larger. Where too many states were met, sets of as many attempts as were followed are fine, too.
use Rattle.std.proofs.Common.{Ok, ap}
use Rattle.wb_sweep.proofs.larger_sets.find_larger.Goals as goal

pub walk_sets-requires-in-ManyStates-clause-some : goal.walk_sets-requires-in-ManyStates-clause-some
walk_sets-requires-in-ManyStates-clause-some g c = (c.in_ok-shown.ensures.many c.in-ManyStates.fine (ap (λ x. Ok x) c.in-ManyStates.is)).0

pub walk_sets-requires-in-ManyStates-clause-fine : goal.walk_sets-requires-in-ManyStates-clause-fine
walk_sets-requires-in-ManyStates-clause-fine g c = (c.in_ok-shown.ensures.many c.in-ManyStates.fine (ap (λ x. Ok x) c.in-ManyStates.is)).1
