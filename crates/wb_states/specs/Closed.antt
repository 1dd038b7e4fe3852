-- What is checked of the states that a search keeps, before an answer is given: that the sets which the answer is about are all followed, and that their
-- runs take no more steps than the budget allows.
use Rattle.std.specs.Prelude.{◌≡◌, ℕ, ◌+◌, ◌<◌, ◌≤◌, List, ◌++◌, length, true, Option, Some, None, slice_get, IfSome}
use Rattle.wb_runs.specs.Sets.{set_comes_before, IsSet}
use Rattle.wb_states.specs.declared.closed.Bound.{Bound}
use Rattle.wb_states.specs.declared.closed.Bound.TheVariants.{All, AtMost, Before}
use Rattle.wb_states.specs.declared.search.Search.{Search}
use Rattle.wb_states.specs.declared.state.Edge.{Edge}
use Rattle.wb_states.specs.declared.state.Edge.TheVariants.{Joins, Ends, Shows, Untried, Unknown}
use Rattle.wb_states.specs.declared.state.State.{State}
use Rattle.wb_states.specs.Ground.{past, Ground}
use Rattle.wb_states.specs.States.{failing_next, next_attempt, turns_at}

-- the sets that an answer is about
abbrev pub IsWithin : Bound → List ℕ → Type 0
IsWithin All numbers = Unit {0}
IsWithin (AtMost most) numbers = length numbers ≤ most
IsWithin (Before other) numbers = set_comes_before numbers other ≡ true

-- none of them begins with this one, and has its further numbers past an attempt
abbrev pub AreOutside : Bound → List ℕ → ℕ → Type 0
AreOutside bound set attempts = (more : List ℕ) → IsSet more → IsWithin bound (set ++ past attempts more) → ⊥

-- Each state has a number of turns, no fewer than it was met with. Whatever comes to a state by an edge comes with no more.
abbrev pub IsFollowed : Ground → List ℕ → Bound → ℕ → ℕ → List ℕ → ℕ → Option Edge → Type 0
IsFollowed g most bound turns greatest set attempts None = AreOutside bound set attempts
IsFollowed g most bound turns greatest set attempts (Some (Joins at steps)) = IfSome (slice_get most at) (λ next. greatest + (steps + 1) ≤ next + turns)
IsFollowed g most bound turns greatest set attempts (Some (Ends steps)) = steps + greatest ≤ g.budget + turns
IsFollowed g most bound turns greatest set attempts (Some Shows) = AreOutside bound set attempts
IsFollowed g most bound turns greatest set attempts (Some Unknown) = AreOutside bound set attempts
IsFollowed g most bound turns greatest set attempts (Some Untried) = Unit {0}

pub record IsStateClosed (g : Ground) (search : Search) (most : List ℕ) (bound : Bound) (i : ℕ) (state : State) : Type 0 where
  pub greatest : ℕ
  pub is_at : slice_get most i ≡ Some greatest
  pub met : turns_at state ≤ greatest
  pub within : greatest ≤ g.budget + 1
  pub granted : IsFollowed g most bound (turns_at state) greatest state.numbers (next_attempt state) (slice_get search.granted i)
  pub failed : IsFollowed g most bound (turns_at state) greatest (failing_next state) (next_attempt state) (slice_get search.failed i)

-- so are the states that are listed before an index
abbrev pub AreClosedBefore : Ground → Search → List ℕ → Bound → ℕ → Type 0
AreClosedBefore g search most bound count =
    (i : ℕ) (state : State) → i < count → slice_get search.states i ≡ Some state → IsStateClosed g search most bound i state

-- and there is one at least
pub record IsClosed (g : Ground) (search : Search) (most : List ℕ) (bound : Bound) : Type 0 where
  pub some : 0 < length search.states
  pub each : AreClosedBefore g search most bound (length search.states)
