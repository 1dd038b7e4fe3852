-- What it has found so far is true, and it goes over the same.
use Rattle.std.proofs.Common.{◌≡◌}
use Rattle.wb_states.specs.States.{ground_of, IsSound}
use Rattle.wb_states.proofs.search.Search.look.Given as goal

abbrev pub invariant-loop-fewer : goal.invariant-loop-fewer
invariant-loop-fewer g l = record { sound : IsSound l.self; ground : ground_of l.self ≡ ground_of l.fn.self }
