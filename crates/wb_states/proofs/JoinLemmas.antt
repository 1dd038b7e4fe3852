-- What is known of a run that joins a state, and of a search in which one more is kept.
use Rattle.std.proofs.Common.{◌≡◌, ℕ, ◌+◌, ◌<◌, ◌≤◌, ◌⊎◌, arith, true, false, List, [], ◌∷◌, ◌++◌, length, Some, refl, sym, ◌∙◌, ap, subst, inl, inr}
use Rattle.std.specs.Prelude.{slice_get}
use Rattle.std.proofs.lemmas.List.{length-append}
use Rattle.std.proofs.lemmas.Option.{slice_get_within}
use Rattle.wb_machine.specs.Seen.{Seen}
use Rattle.wb_machine.specs.Turns.{MakesMore}
use Rattle.wb_heap_model.specs.declared.heap.Rule.{Rule}
use Rattle.wb_heap_model.specs.declared.heap.Rule.TheVariants.{Set}
use Rattle.wb_heap_model.specs.declared.heap.Shape.{Shape}
use Rattle.wb_tree.specs.declared.script.Script.{Script}
use Rattle.wb_meaning.specs.Run.{MakesMoreThan, run}
use Rattle.wb_runs.specs.Sets.{AscendsPast, IsSet}
use Rattle.wb_runs.specs.Parts.{IsNumberOf}
use Rattle.wb_runs.specs.SetParts.{least_number}
use Rattle.wb_states.specs.declared.runs.Runs.{Runs}
use Rattle.wb_states.specs.declared.search.Search.{Search}
use Rattle.wb_states.specs.declared.state.State.{State}
use Rattle.wb_states.specs.Ground.{past, run_of, Ground, IsNoLater, IsTriedSet, Meets}
use Rattle.wb_runs.specs.Met.{AreWithin, AsksAfter}
use Rattle.wb_states.specs.States.{ground_of, AreFailed, AreGranted, AreOfOr, AreRunsOf, AreStates, BeginsAtTheStart, Continues, HasGrown, IsJoined, IsNoneOrTried, IsRunOf, IsSound, IsState, IsUnderWay}
use Rattle.wb_states.proofs.Lists.{get-appended, get-either, get-last}
use Rattle.wb_states.proofs.PastNumbers.{past-ascends}
use Rattle.wb_states.proofs.StateLemmas.{failed-more, granted-more, states-more}

-- numbers with others past an attempt ascend, if it is past none of them
goes-up : (before attempts : ℕ) (set more : List ℕ) → before ≤ attempts → AscendsPast before set → AreWithin attempts set → IsSet more →
    AscendsPast before (set ++ past attempts more)
goes-up before attempts [] more le up within more_up = past-ascends before attempts more le more_up
goes-up before attempts (n ∷ ns) more le up within more_up = (up.0, goes-up n attempts ns more within.0 up.1 within.1 more_up)

module _ (g : Ground) (attempts : ℕ) (more : List ℕ) where
  -- the least number is that of the set
  least-on : (set : List ℕ) → IsNoneOrTried g set → (g.whole ≡ true) ⊎ (0 < length set) → g.whole ≡ false →
      IsNumberOf g.part g.last (least_number (set ++ past attempts more))
  least-on [] tried (inl whole) part = cc
  least-on [] tried (inr some) part = absurd (omega (arith, some))
  least-on (n ∷ ns) (inl none) whole part = cc
  least-on (n ∷ ns) (inr tried) whole part = tried.least part

pub tried-on : (g : Ground) (state : State) → IsState g state → (g.whole ≡ true) ⊎ (0 < length state.numbers) → (more : List ℕ) → IsSet more →
    IsTriedSet g (state.numbers ++ past state.attempts more)
tried-on g state is whole more up = record {
  set = goes-up 0 state.attempts state.numbers more (omega arith) is.set is.made up;
  least = least-on g state.attempts more state.numbers is.tried whole;
}

pub continues : (g : Ground) (set : List ℕ) (m : Seen) (state : State) → IsNoLater state.numbers state.attempts set m.attempts →
    ((more : List ℕ) → IsSet more → IsTriedSet g (state.numbers ++ past state.attempts more)) →
    Meets g set m.attempts m.steps state.numbers state.attempts state.steps → Continues g set m state
continues g set m state order tried meets = record {
  order = order;
  tried = λ more up goes_on. tried more up;
  meets = meets;
}

-- ---- a state that is found

pub joins-found : (g : Ground) (states : List State) (numbers : List ℕ) (m : Seen) (at steps turns : ℕ) →
    (state : State) × (slice_get states at ≡ Some state) × Continues g numbers m state → steps ≡ m.steps → turns < m.steps + 1 →
    IsJoined g states turns numbers m.attempts at steps
joins-found g states numbers m at steps turns (state, is_at, goes) counted later = record {
  state = state;
  is_at = is_at;
  later = omega (arith, later, counted);
  order = goes.order;
  tried = goes.tried;
  meets = subst (λ n. Meets g numbers m.attempts n state.numbers state.attempts state.steps) (sym counted) goes.meets;
}

-- ---- a state that is kept

-- a run under a set asks for its next attempt
asks-after : (g : Ground) (numbers : List ℕ) (m : Seen) → IsUnderWay g numbers m → MakesMore m → (attempts : ℕ) → m.attempts ≡ attempts →
    AsksAfter g.script g.budget g.shape numbers attempts
asks-after g numbers m is more attempts same = subst (λ n. MakesMoreThan n (run_of g numbers)) same (subst (MakesMoreThan m.attempts) own more)
  where
    own : run m.script m.rule m.budget m.shape ≡ run_of g numbers
    own =
        ap (λ (s : Script). run s m.rule m.budget m.shape) is.script
        ∙ ap (λ (r : Rule). run g.script r m.budget m.shape) is.rule
        ∙ ap (λ (b : ℕ). run g.script (Set numbers) b m.shape) is.budget
        ∙ ap (λ (s : Shape). run g.script (Set numbers) g.budget s) is.shape

pub is-state : (g : Ground) (state : State) (m : Seen) → IsUnderWay g state.numbers m → m.attempts ≡ state.attempts → IsNoneOrTried g state.numbers →
    MakesMore m → IsState g state
is-state g state m is attempts tried more = record {
  set = is.set;
  made = subst (λ n. AreWithin n state.numbers) attempts is.made;
  tried = tried;
  asks = asks-after g state.numbers m is more state.attempts attempts;
}

pub is-run : (g : Ground) (state : State) (m : Seen) → IsUnderWay g state.numbers m → m.attempts ≡ state.attempts → m.steps ≡ state.steps → m.begun ≡ true →
    m.over ≡ false → m.asks ≡ true → IsRunOf g state m
is-run g state m run attempts steps begun going asks = record {
  under_way = run;
  attempts = attempts;
  steps = steps;
  begun = λ some. begun;
  going = going;
  asks = asks;
}

pub joins-kept : (g : Ground) (states more : List State) (state : State) (m : Seen) (at turns : ℕ) → more ≡ states ++ state ∷ [] → at ≡ length states →
    m.attempts ≡ state.attempts → m.steps ≡ state.steps → turns < m.steps + 1 → IsJoined g more turns state.numbers m.attempts at state.steps
joins-kept g states more state m at turns same last attempts steps later =
    subst (λ n. IsJoined g more turns state.numbers n at state.steps) (sym attempts) (record {
      state = state;
      is_at = subst (λ xs. slice_get xs at ≡ Some state) (sym same) (subst (λ i. slice_get (states ++ state ∷ []) i ≡ Some state) (sym last) (get-last states state));
      later = omega (arith, later, steps);
      order = inr (refl, inr (refl, omega arith));
      tried = λ more up tried. tried;
      meets = λ more up fine within. (fine, refl);
    })

begins-still : (states more : List State) → BeginsAtTheStart states → BeginsAtTheStart (states ++ more)
begins-still [] more none = absurd none
begins-still (first ∷ rest) more begins = begins

-- each run that is kept has come to its state, where one more state is kept with its run
runs-more : (g : Ground) (states : List State) (before after : Runs) (state : State) (m : Seen) → AreRunsOf g states before → IsRunOf g state m →
    AreOfOr before (length states) m after → AreRunsOf g (states ++ state ∷ []) after
runs-more g states before after state m runs new added i one run at kept =
    elim (added i run kept) [
      | inl is ↦ elim (get-either states state one i at) [
        | inl there ↦ absurd (omega (arith, is.0, slice_get_within states i one there))
        | inr last ↦ subst (λ (s : State). IsRunOf g s run) (sym last.1) (subst (IsRunOf g state) (sym is.1) new)
      ]
      | inr was ↦ elim (get-either states state one i at) [
        | inl there ↦ runs i one run there was.1
        | inr last ↦ absurd (was.0 last.0)
      ]
    ]

-- the search has one state more, with its run, and is else the same but for how it finds them
module _ (before after : Search) (state : State) (m : Seen) (same : after.states ≡ before.states ++ state ∷ [])
    (rest : after ≡ record before { states = after.states; runs = after.runs; met = after.met; latest = after.latest; earlier = after.earlier }) where
  pub kept-grown : HasGrown before after
  kept-grown = record {
    ground = ap ground_of rest;
    granted = ap (λ (s : Search). s.granted) rest;
    failed = ap (λ (s : Search). s.failed) rest;
    states = λ i one at. subst (λ xs. slice_get xs i ≡ Some one) (sym same) (get-appended before.states (state ∷ []) i one at);
  }

  pub kept-sound : IsSound before → IsState (ground_of before) state → IsRunOf (ground_of before) state m →
      AreOfOr before.runs (length before.states) m after.runs → after.met ≤ before.met + 1 → IsSound after
  kept-sound is new run added met =
      let g = ground_of before in
      let longer = ap (λ (xs : List State). length xs) same ∙ length-append before.states (state ∷ []) in
      subst IsSound (sym rest) (record {
        whole = is.whole;
        part = is.part;
        last = is.last;
        last_made = is.last_made;
        fewer_granted = omega (arith, longer, is.fewer_granted);
        fewer_failed = omega (arith, longer, is.fewer_failed);
        states = subst (AreStates g) (sym same) (states-more g before.states state is.states new);
        met = omega (arith, longer, is.met, met);
        runs = subst (λ xs. AreRunsOf g xs after.runs) (sym same) (runs-more g before.states before.runs after.runs state m is.runs run added);
        first = subst BeginsAtTheStart (sym same) (begins-still before.states (state ∷ []) is.first);
        granted = subst (λ xs. AreGranted g xs before.granted) (sym same) (granted-more g before.states state before.granted is.fewer_granted is.granted);
        failed = subst (λ xs. AreFailed g xs before.failed) (sym same) (failed-more g before.states state before.failed is.fewer_failed is.failed);
        shown = is.shown;
      })
