-- What is checked of the states that a search keeps, before it answers that they are too many: that each comes after the one before it, so
-- that no two are the same, and that their sets have at most so many attempts.
use Rattle.std.specs.Prelude.{◌≡◌, ℕ, ◌+◌, ◌<◌, ◌≤◌, List, length, Some, slice_get}
use Rattle.wb_states.specs.declared.state.State.{State}
use Rattle.wb_states.specs.Ground.{Ground, IsEarlier}
use Rattle.wb_runs.specs.Met.{AreWithin, AsksAfter}
use Rattle.wb_states.specs.States.{IsNoneOrTried}

-- a state's set has at most so many attempts, and the state comes after the one that is listed before it
pub record IsInOrder (states : List State) (failures i : ℕ) (state : State) : Type 0 where
  pub few : length state.numbers ≤ failures
  pub later : (before : ℕ) (last : State) → before + 1 ≡ i → slice_get states before ≡ Some last →
      IsEarlier last.numbers last.attempts state.numbers state.attempts

-- so are the states that are listed before an index
abbrev pub AreInOrderBefore : List State → ℕ → ℕ → Type 0
AreInOrderBefore states failures count =
    (i : ℕ) (state : State) → i < count → slice_get states i ≡ Some state → IsInOrder states failures i state

-- a state that is met: a set of at most so many attempts, and how many attempts its run has made that asks for another
pub record IsMetOf (g : Ground) (most : ℕ) (numbers : List ℕ) (attempts : ℕ) : Type 0 where
  pub tried : IsNoneOrTried g numbers
  pub few : length numbers ≤ most
  pub made : AreWithin attempts numbers
  pub asks : AsksAfter g.script g.budget g.shape numbers attempts
