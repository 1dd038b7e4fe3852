-- Where the states that a search keeps are closed, the runs of all sets that an answer is about are neither bad nor cut.
use Rattle.std.proofs.Common.{◌≡◌, ℕ, zero, suc, ◌+◌, ◌<◌, ◌≤◌, inl, inr, arith, true, List, [], ◌∷◌, ◌++◌, length, append_assoc, refl, sym, ◌∙◌, ap, subst, Option, Some, None}
use Rattle.std.specs.Prelude.{slice_get, IfSome}
use Rattle.std.proofs.lemmas.Option.{slice_get_within}
use Rattle.wb_runs.specs.Sets.{IsSet}
use Rattle.wb_runs.specs.Sweeps.{is_fine}
use Rattle.wb_runs.proofs.SetLemmas.{past-last}
use Rattle.wb_runs.proofs.SweepLemmas.{fine_uncut}
use Rattle.wb_states.specs.declared.closed.Bound.{Bound}
use Rattle.wb_states.specs.declared.search.Search.{Search}
use Rattle.wb_states.specs.declared.state.Edge.{Edge}
use Rattle.wb_states.specs.declared.state.Edge.TheVariants.{Joins, Ends, Shows, Untried, Unknown}
use Rattle.wb_states.specs.declared.state.State.{State}
use Rattle.wb_states.specs.Closed.{IsClosed, IsFollowed, IsStateClosed, IsWithin}
use Rattle.wb_states.specs.Ground.{past, run_of, turns_of, Ground, IsTriedSet}
use Rattle.wb_states.specs.States.{failing_next, next_attempt, turns_at, BeginsAtTheStart, GoesOn, IsEnded, IsJoined, IsSearch}
use Rattle.wb_states.proofs.NoLater.{no-later, within-too}
use Rattle.wb_states.proofs.PastNumbers.{parted, past-ascends, past-past, past-zero, IsParted}

turns-most : (attempts steps : ℕ) → turns_of attempts steps ≤ steps + 1
turns-most zero steps = omega arith
turns-most (suc attempts) steps = omega arith

-- the run of a set that came to a state with at most so many turns is fine, and takes no more steps from there on than the budget leaves
pub record EndsInTime (g : Ground) (turns greatest : ℕ) (set : List ℕ) : Type 0 where
  pub fine : is_fine (run_of g set) ≡ true
  pub few : (run_of g set).steps + greatest ≤ g.budget + turns

module _ (g : Ground) (search : Search) (most : List ℕ) (bound : Bound) (is : IsSearch g search) (closed : IsClosed g search most bound) where
  -- so are those of all sets that begin with these numbers, and have their others past an attempt
  abbrev AllEnd : ℕ → ℕ → List ℕ → ℕ → Type 0
  AllEnd turns greatest set attempts =
      (more : List ℕ) → IsSet more → IsTriedSet g (set ++ past attempts more) → IsWithin bound (set ++ past attempts more) →
      EndsInTime g turns greatest (set ++ past attempts more)

  abbrev IsClosedAt : ℕ → State → Type 0
  IsClosedAt i state = IsStateClosed g search most bound i state

  -- the sets of states that are met with more turns than all but so many that the budget allows
  abbrev AllEndFrom : ℕ → Type 0
  AllEndFrom left =
      (i : ℕ) (state : State) → slice_get search.states i ≡ Some state → (c : IsClosedAt i state) → g.budget + 1 < c.greatest + left →
      AllEnd (turns_at state) c.greatest state.numbers state.attempts

  module _ (turns greatest : ℕ) (set : List ℕ) (attempts : ℕ) (met : turns ≤ greatest) where
    ended : (steps : ℕ) → IsEnded g set attempts steps → steps + greatest ≤ g.budget + turns → AllEnd turns greatest set attempts
    ended steps e few more up tried within =
        let same = past-last g.script g.budget g.shape set (past attempts more) (fine_uncut (run_of g set) e.fine) (past-ascends (length (run_of g set).trace) attempts more e.made up) in
        record {
          fine = ap is_fine same ∙ e.fine;
          few = omega (arith, ap (λ r. r.steps) same, e.steps_are, few);
        }

    joined : (left at steps : ℕ) → AllEndFrom left → g.budget + 1 < greatest + (left + 1) → (j : IsJoined g search.states turns set attempts at steps) →
        IfSome (slice_get most at) (λ next. greatest + (steps + 1) ≤ next + turns) → AllEnd turns greatest set attempts
    joined left at steps rest enough j follows more up tried within =
        let c : IsClosedAt at j.state = closed.each at j.state (slice_get_within search.states at j.state j.is_at) j.is_at in
        let raised : greatest + (steps + 1) ≤ c.greatest + turns = subst (λ o. IfSome o (λ next. greatest + (steps + 1) ≤ next + turns)) c.is_at follows in
        let before = no-later j.state.numbers j.state.attempts set attempts j.order more in
        let ends : EndsInTime g (turns_at j.state) c.greatest (j.state.numbers ++ past j.state.attempts more) =
        rest at j.state j.is_at c (omega (arith, enough, raised, j.later)) more up (j.tried more up tried)
        (within-too bound (j.state.numbers ++ past j.state.attempts more) (set ++ past attempts more) before within) in
        let turned = turns-most j.state.attempts j.state.steps in
        let meets = j.meets more up ends.fine (omega (arith, ends.few, raised, turned, met)) in
        record {
          fine = meets.0;
          few = omega (arith, meets.1, ends.few, raised, turned);
        }

    followed : (left : ℕ) → AllEndFrom left → g.budget + 1 < greatest + (left + 1) → (edge : Option Edge) →
        ((e : Edge) → edge ≡ Some e → GoesOn g search.states turns set attempts e) → IsFollowed g most bound turns greatest set attempts edge →
        AllEnd turns greatest set attempts
    followed left rest enough None goes outside = λ more up tried within. absurd (outside more up within)
    followed left rest enough (Some (Joins at steps)) goes follows = joined left at steps rest enough (goes (Joins at steps) refl) follows
    followed left rest enough (Some (Ends steps)) goes few = ended steps (goes (Ends steps) refl) few
    followed left rest enough (Some Shows) goes outside = λ more up tried within. absurd (outside more up within)
    followed left rest enough (Some Unknown) goes outside = λ more up tried within. absurd (outside more up within)
    followed left rest enough (Some Untried) goes none = λ more up tried within. absurd (goes Untried refl more up tried)

  module _ (state : State) (turns greatest : ℕ) where
    abbrev whole : List ℕ → List ℕ
    whole more = state.numbers ++ past state.attempts more

    abbrev EndsWith : List ℕ → Type 0
    EndsWith more = IsTriedSet g (whole more) → IsWithin bound (whole more) → EndsInTime g turns greatest (whole more)

    granted-whole : (rest : List ℕ) → state.numbers ++ past (next_attempt state) rest ≡ whole (past 1 rest)
    granted-whole rest = ap (λ ks. state.numbers ++ ks) (sym (past-past state.attempts 1 rest))

    failed-whole : (rest : List ℕ) → failing_next state ++ past (next_attempt state) rest ≡ whole (1 ∷ past 1 rest)
    failed-whole rest =
        append_assoc state.numbers (next_attempt state ∷ []) (past (next_attempt state) rest)
        ∙ ap (λ ks. state.numbers ++ next_attempt state ∷ ks) (sym (past-past state.attempts 1 rest))

    moved : (these others : List ℕ) → these ≡ others → (IsTriedSet g these → IsWithin bound these → EndsInTime g turns greatest these) →
        IsTriedSet g others → IsWithin bound others → EndsInTime g turns greatest others
    moved these others same ends = subst (λ s. IsTriedSet g s → IsWithin bound s → EndsInTime g turns greatest s) same ends

    -- by whether the next attempt is granted or fails
    by-next : AllEnd turns greatest state.numbers (next_attempt state) → AllEnd turns greatest (failing_next state) (next_attempt state) → (more : List ℕ) →
        IsParted more → EndsWith more
    by-next granted failed more (inl (rest, up, same)) =
        subst EndsWith (sym same) (moved (state.numbers ++ past (next_attempt state) rest) (whole (past 1 rest)) (granted-whole rest) (granted rest up))
    by-next granted failed more (inr (rest, up, same)) =
        subst EndsWith (sym same) (moved (failing_next state ++ past (next_attempt state) rest) (whole (1 ∷ past 1 rest)) (failed-whole rest) (failed rest up))

  all-end : (left : ℕ) → AllEndFrom left
  all-end zero i state at c enough more up = absurd (omega (arith, enough, c.within))
  all-end (suc left) i state at c enough more up =
      let turns = turns_at state in
      let nearly : g.budget + 1 < c.greatest + (left + 1) = omega (arith, enough) in
      by-next state turns c.greatest
      (followed turns c.greatest state.numbers (next_attempt state) c.met left (all-end left) nearly (slice_get search.granted i) (λ e there. is.granted i state e at there) c.granted)
      (followed turns c.greatest (failing_next state) (next_attempt state) c.met left (all-end left) nearly (slice_get search.failed i) (λ e there. is.failed i state e at there) c.failed)
      more (parted more up)

  -- the first state is that of the run without failure
  from-first : (first : State) (others : List State) → search.states ≡ first ∷ others → (numbers : List ℕ) → IsTriedSet g numbers → IsWithin bound numbers → is_fine (run_of g numbers) ≡ true
  from-first first others are numbers tried within =
      let at : slice_get search.states 0 ≡ Some first = ap (λ s. slice_get s 0) are in
      let begins = subst BeginsAtTheStart are is.first in
      let same : first.numbers ++ past first.attempts numbers ≡ numbers =
      ap (λ s. s ++ past first.attempts numbers) begins.0 ∙ ap (λ n. past n numbers) begins.1 ∙ past-zero numbers in
      let c = closed.each 0 first closed.some at in
      let ends = all-end (g.budget + 2) 0 first at c (omega arith) numbers tried.set (subst (IsTriedSet g) (sym same) tried) (subst (IsWithin bound) (sym same) within) in
      ap (λ s. is_fine (run_of g s)) (sym same) ∙ ends.fine

pub closed-fine : (g : Ground) (search : Search) (most : List ℕ) (bound : Bound) → IsSearch g search → IsClosed g search most bound → (numbers : List ℕ) →
    IsTriedSet g numbers → IsWithin bound numbers → is_fine (run_of g numbers) ≡ true
closed-fine g search most bound is closed = by search.states refl
  where
    by : (states : List State) → search.states ≡ states → (numbers : List ℕ) → IsTriedSet g numbers → IsWithin bound numbers → is_fine (run_of g numbers) ≡ true
    by [] none = absurd (omega (arith, closed.some, ap (λ (s : List State). length s) none))
    by (first ∷ rest) are = from-first g search most bound is closed first rest are
