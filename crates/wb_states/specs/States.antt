-- What is known of the states that a search keeps, and of how runs go on from them.
use Rattle.std.specs.Prelude.{◌≡◌, ◌≢◌, ℕ, ◌+◌, ◌<◌, ◌≤◌, ◌⊎◌, List, [], ◌∷◌, ◌++◌, length, true, false, Some, slice_get, nat_eq, IfSome}
use Rattle.std.specs.HashMap.{get}
use Rattle.wb_machine.specs.Seen.{Seen}
use Rattle.wb_heap_model.specs.declared.heap.Rule.TheVariants.{Set}
use Rattle.wb_runs.specs.Sets.{IsSet}
use Rattle.wb_runs.specs.Sweeps.{is_fine}
use Rattle.wb_states.specs.Ground.{run_of, turns_of, past, Ground, IsNoLater, IsTriedSet, Meets}
use Rattle.wb_runs.specs.Met.{AreWithin, AsksAfter}
use Rattle.wb_states.specs.declared.runs.Runs.{Runs}
use Rattle.wb_states.specs.declared.search.Search.{Search}
use Rattle.wb_states.specs.declared.state.Edge.{Edge}
use Rattle.wb_states.specs.declared.state.Edge.TheVariants.{Joins, Ends, Shows, Untried, Unknown}
use Rattle.wb_states.specs.declared.state.Shown.{Shown}
use Rattle.wb_states.specs.declared.state.State.{State}

-- a run under a set, before an attempt past all of its numbers
pub record IsUnderWay (g : Ground) (numbers : List ℕ) (m : Seen) : Type 0 where
  pub rule : m.rule ≡ Set numbers
  pub script : m.script ≡ g.script
  pub budget : m.budget ≡ g.budget
  pub shape : m.shape ≡ g.shape
  pub well : m.failed ≡ false
  pub set : IsSet numbers
  pub made : AreWithin m.attempts numbers
  pub steps : m.steps ≤ m.budget

-- the set of the run without failure, or one that is tried
abbrev pub IsNoneOrTried : Ground → List ℕ → Type 0
IsNoneOrTried g numbers = (numbers ≡ []) ⊎ IsTriedSet g numbers

pub record IsState (g : Ground) (state : State) : Type 0 where
  pub set : IsSet state.numbers
  pub made : AreWithin state.attempts state.numbers
  pub tried : IsNoneOrTried g state.numbers
  -- its run asks for its next attempt
  pub asks : AsksAfter g.script g.budget g.shape state.numbers state.attempts

-- a run has come to a state, and is about to make its next attempt
pub record IsRunOf (g : Ground) (state : State) (m : Seen) : Type 0 where
  pub under_way : IsUnderWay g state.numbers m
  pub attempts : m.attempts ≡ state.attempts
  pub steps : m.steps ≡ state.steps
  pub begun : 1 ≤ m.attempts → m.begun ≡ true
  pub going : m.over ≡ false
  pub asks : m.asks ≡ true

-- a run goes on under a set, and is about to make an attempt
pub record IsOnTheWay (g : Ground) (numbers : List ℕ) (m : Seen) : Type 0 where
  pub rule : m.rule ≡ Set numbers
  pub script : m.script ≡ g.script
  pub budget : m.budget ≡ g.budget
  pub shape : m.shape ≡ g.shape
  pub well : m.failed ≡ false
  pub begun : 1 ≤ m.attempts → m.begun ≡ true
  pub going : m.over ≡ false
  pub asks : m.asks ≡ true
  pub steps : m.steps ≤ m.budget

-- how many turns its run has taken
abbrev pub turns_at : State → ℕ
turns_at state = turns_of state.attempts state.steps

-- the attempt that is made next
abbrev pub next_attempt : State → ℕ
next_attempt state = state.attempts + 1

-- the set in which it fails too
abbrev pub failing_next : State → List ℕ
failing_next state = state.numbers ++ next_attempt state ∷ []

-- A run under a set goes on in this way from an attempt on, that was the next one of a state which had taken so many turns.
pub record IsJoined (g : Ground) (states : List State) (turns : ℕ) (set : List ℕ) (attempts at steps : ℕ) : Type 0 where
  pub state : State
  pub is_at : slice_get states at ≡ Some state
  pub later : turns < steps + 1
  pub order : IsNoLater state.numbers state.attempts set attempts
  pub tried : (more : List ℕ) → IsSet more → IsTriedSet g (set ++ past attempts more) → IsTriedSet g (state.numbers ++ past state.attempts more)
  pub meets : Meets g set attempts steps state.numbers state.attempts state.steps

pub record IsEnded (g : Ground) (set : List ℕ) (attempts steps : ℕ) : Type 0 where
  pub fine : is_fine (run_of g set) ≡ true
  pub steps_are : (run_of g set).steps ≡ steps
  pub made : length (run_of g set).trace ≤ attempts

abbrev pub GoesOn : Ground → List State → ℕ → List ℕ → ℕ → Edge → Type 0
GoesOn g states turns set attempts (Joins at steps) = IsJoined g states turns set attempts at steps
GoesOn g states turns set attempts (Ends steps) = IsEnded g set attempts steps
GoesOn g states turns set attempts Shows = Unit {0}
GoesOn g states turns set attempts Unknown = Unit {0}
GoesOn g states turns set attempts Untried = (more : List ℕ) → IsSet more → IsTriedSet g (set ++ past attempts more) → ⊥

-- how runs go on from the states, where their next attempts are granted
abbrev pub AreGranted : Ground → List State → List Edge → Type 0
AreGranted g states edges =
    (i : ℕ) (state : State) (edge : Edge) → slice_get states i ≡ Some state → slice_get edges i ≡ Some edge →
    GoesOn g states (turns_at state) state.numbers (next_attempt state) edge

-- and where they fail
abbrev pub AreFailed : Ground → List State → List Edge → Type 0
AreFailed g states edges =
    (i : ℕ) (state : State) (edge : Edge) → slice_get states i ≡ Some state → slice_get edges i ≡ Some edge →
    GoesOn g states (turns_at state) (failing_next state) (next_attempt state) edge

abbrev pub AreStates : Ground → List State → Type 0
AreStates g states = (i : ℕ) (state : State) → slice_get states i ≡ Some state → IsState g state

-- a run is kept of the state at an index
abbrev pub IsKept : Runs → ℕ → Seen → Type 0
IsKept runs i m = get nat_eq runs.machines i ≡ Some m

-- each run that is kept has come to its state
abbrev pub AreRunsOf : Ground → List State → Runs → Type 0
AreRunsOf g states runs = (i : ℕ) (state : State) (m : Seen) → slice_get states i ≡ Some state → IsKept runs i m → IsRunOf g state m

-- each that is kept afterwards was kept before
abbrev pub AreOf : Runs → Runs → Type 0
AreOf before after = (i : ℕ) (m : Seen) → IsKept after i m → IsKept before i m

-- or is the one that was added
abbrev pub AreOfOr : Runs → ℕ → Seen → Runs → Type 0
AreOfOr before at added after = (i : ℕ) (m : Seen) → IsKept after i m → ((i ≡ at) × (m ≡ added)) ⊎ ((i ≢ at) × IsKept before i m)

-- there is a state, and the first is the run without failure before its first attempt
abbrev pub BeginsAtTheStart : List State → Type 0
BeginsAtTheStart [] = ⊥
BeginsAtTheStart (first ∷ rest) = (first.numbers ≡ []) × (first.attempts ≡ 0)

-- a set that is tried, whose run is bad or cut, and that run
pub record IsShown (g : Ground) (shown : Shown) : Type 0 where
  pub tried : IsTriedSet g shown.numbers
  pub shows : is_fine (run_of g shown.numbers) ≡ false
  pub run_is : shown.result ≡ run_of g shown.numbers

-- what a search has found so far is true
pub record IsSearch (g : Ground) (search : Search) : Type 0 where
  pub whole : search.whole ≡ g.whole
  pub part : search.part ≡ g.part
  pub last : search.last ≡ g.last
  pub last_made : g.last ≡ length (run_of g []).trace
  pub fewer_granted : length search.granted ≤ length search.states
  pub fewer_failed : length search.failed ≤ length search.states
  pub states : AreStates g search.states
  pub met : search.met ≤ length search.states
  pub runs : AreRunsOf g search.states search.runs
  pub first : BeginsAtTheStart search.states
  pub granted : AreGranted g search.states search.granted
  pub failed : AreFailed g search.states search.failed
  pub shown : IfSome search.shown (IsShown g)

-- A run is the same as a state from here on, but for numbers: the sets that go on from the state come no later, and are tried if those are that
-- go on from the run.
pub record Continues (g : Ground) (set : List ℕ) (m : Seen) (state : State) : Type 0 where
  pub order : IsNoLater state.numbers state.attempts set m.attempts
  pub tried : (more : List ℕ) → IsSet more → IsTriedSet g (set ++ past m.attempts more) → IsTriedSet g (state.numbers ++ past state.attempts more)
  pub meets : Meets g set m.attempts m.steps state.numbers state.attempts state.steps

-- what it goes over
abbrev pub ground_of : Search → Ground
ground_of s = record { script = s.script.now; budget = s.budget; shape = s.shape; whole = s.whole; part = s.part; last = s.last; allowed = s.allowed }

abbrev pub IsSound : Search → Type 0
IsSound s = IsSearch (ground_of s) s

-- a search goes over the same, and has all states of another and maybe more, with the same edges
pub record HasGrown (before after : Search) : Type 0 where
  pub ground : ground_of after ≡ ground_of before
  pub granted : after.granted ≡ before.granted
  pub failed : after.failed ≡ before.failed
  pub states : (i : ℕ) (state : State) → slice_get before.states i ≡ Some state → slice_get after.states i ≡ Some state

-- a run under a set that is tried, or without failure
pub record IsRunUnder (g : Ground) (numbers : List ℕ) (m : Seen) : Type 0 where
  pub rule : m.rule ≡ Set numbers
  pub script : m.script ≡ g.script
  pub budget : m.budget ≡ g.budget
  pub shape : m.shape ≡ g.shape
  pub well : m.failed ≡ false
  pub set : IsSet numbers
  pub tried : IsNoneOrTried g numbers

-- a run is about to make an attempt past which none of a set is
pub record IsAboutTo (g : Ground) (numbers : List ℕ) (m : Seen) : Type 0 where
  pub rule : m.rule ≡ Set numbers
  pub script : m.script ≡ g.script
  pub budget : m.budget ≡ g.budget
  pub shape : m.shape ≡ g.shape
  pub well : m.failed ≡ false
  pub begun : 1 ≤ m.attempts → m.begun ≡ true
  pub going : m.over ≡ false
  pub asks : m.asks ≡ true
  pub set : IsSet numbers
  pub made : AreWithin (m.attempts + 1) numbers
  pub steps : m.steps ≤ m.budget
  pub tried : IsNoneOrTried g numbers
