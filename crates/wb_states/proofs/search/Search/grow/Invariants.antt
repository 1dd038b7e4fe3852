-- What it has found so far is true, and it goes over the same.
use Rattle.std.proofs.Common.{◌≡◌}
use Rattle.wb_states.specs.States.{ground_of, IsSound}
use Rattle.wb_states.proofs.search.Search.grow.Given as goal

abbrev pub invariant-loop : goal.invariant-loop
invariant-loop g l = record { sound : IsSound l.self; ground : ground_of l.self ≡ ground_of l.fn.self }
