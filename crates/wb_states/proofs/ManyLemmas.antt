-- States that each come after the one before are all different, so that they are as many as they are listed.
use Rattle.std.proofs.Common.{◌≡◌, ℕ, zero, suc, ◌+◌, ◌-◌, ◌<◌, ◌≤◌, inl, inr, arith, true, List, length, map, Some, refl, sym, ◌∙◌, subst}
use Rattle.std.specs.Prelude.{slice_get}
use Rattle.std.proofs.lemmas.Bool.{cases_order}
use Rattle.std.proofs.lemmas.List.{length-map}
use Rattle.std.proofs.lemmas.Option.{slice_get_within}
use Rattle.wb_runs.specs.Sets.{set_comes_before}
use Rattle.wb_runs.proofs.SetOrder.{before-itself, set-before-later}
use Rattle.wb_states.specs.declared.search.Search.{Search}
use Rattle.wb_states.specs.declared.state.State.{State}
use Rattle.wb_states.specs.Ground.{IsEarlier}
use Rattle.wb_states.specs.Many.{AreInOrderBefore, IsInOrder, IsMetOf}
use Rattle.wb_runs.specs.Met.{AreMoreThan}
use Rattle.wb_states.specs.States.{ground_of, IsSound}
use Rattle.wb_states.proofs.GrowLemmas.{found-at, same-state}
use Rattle.wb_states.proofs.Lists.{get-mapped, get-some}

-- ---- the order of sets and attempts

earlier-later : (a : List ℕ) (l : ℕ) (b : List ℕ) (m : ℕ) (c : List ℕ) (n : ℕ) → IsEarlier a l b m → IsEarlier b m c n → IsEarlier a l c n
earlier-later a l b m c n (inl less) (inl more) = inl (set-before-later a b c less more)
earlier-later a l b m c n (inl less) (inr is) = inl (subst (λ s. set_comes_before a s ≡ true) is.0 less)
earlier-later a l b m c n (inr is) (inl more) = inl (subst (λ s. set_comes_before s c ≡ true) (sym is.0) more)
earlier-later a l b m c n (inr is) (inr too) = inr (is.0 ∙ too.0, omega (arith, is.1, too.1))

never-itself : (a : List ℕ) (n : ℕ) → IsEarlier a n a n → ⊥
never-itself a n (inl less) = before-itself a less
never-itself a n (inr is) = omega (arith, is.1)

-- a state comes after the one that is listed before it
pub in-order : (states : List State) (failures i before : ℕ) (last state : State) → Some last ≡ slice_get states before → before + 1 ≡ i →
    length state.numbers ≤ failures → IsEarlier last.numbers last.attempts state.numbers state.attempts → IsInOrder states failures i state
in-order states failures i before last state there next few earlier = record {
  few = few;
  later = λ at other too is_at.
      let index : before ≡ at = omega (arith, next, too) in
      let same : last ≡ other = same-state states at last other (found-at states before at last there index) is_at in
      subst (λ (s : State). IsEarlier s.numbers s.attempts state.numbers state.attempts) same earlier;
}

-- ---- states in order

-- the pair that names a state
abbrev pair_of : State → List ℕ × ℕ
pair_of state = (state.numbers, state.attempts)

module _ (states : List State) (failures : ℕ) (each : AreInOrderBefore states failures (length states)) where
  -- one comes before all that are listed after it
  before-all : (between i j : ℕ) (one other : State) → j ≡ i + 1 + between → slice_get states i ≡ Some one → slice_get states j ≡ Some other →
      IsEarlier one.numbers one.attempts other.numbers other.attempts
  before-all zero i j one other same at there = (each j other (slice_get_within states j other there) there).later i one (omega (arith, same)) at
  before-all (suc between) i j one other same at there =
      let within = slice_get_within states j other there in
      let next : (i + 1 + between) + 1 ≡ j = omega (arith, same) in
      let (middle, is_at) = get-some states (i + 1 + between) (omega (arith, next, within)) in
      earlier-later one.numbers one.attempts middle.numbers middle.attempts other.numbers other.attempts
      (before-all between i (i + 1 + between) one middle refl at is_at) ((each j other within there).later (i + 1 + between) middle next is_at)

  -- so no other is the same
  never-same : (i j : ℕ) (one other : State) → i < j → slice_get states i ≡ Some one → slice_get states j ≡ Some other → pair_of one ≡ pair_of other → ⊥
  never-same i j one other less at there same =
      let earlier = before-all (j - (i + 1)) i j one other (omega (arith, less)) at there in
      never-itself one.numbers one.attempts (subst (λ (p : List ℕ × ℕ). IsEarlier one.numbers one.attempts p.0 p.1) (sym same) earlier)

  same-place : (i j : ℕ) (one other : State) → slice_get states i ≡ Some one → slice_get states j ≡ Some other → pair_of one ≡ pair_of other → i ≡ j
  same-place i j one other at there same = elim (cases_order i j) [
    | inl is ↦ is
    | inr apart ↦ elim apart [
      | inl less ↦ absurd (never-same i j one other less at there same)
      | inr more ↦ absurd (never-same j i other one more there at (sym same))
    ]
  ]

pub are-many : (search : Search) (failures : ℕ) → IsSound search → search.allowed < length search.states →
    AreInOrderBefore search.states failures (length search.states) → AreMoreThan search.allowed (IsMetOf (ground_of search) failures)
are-many search failures sound many each = record {
  pairs = map pair_of search.states;
  more = subst (λ n. search.allowed < n) (sym (length-map search.states pair_of)) many;
  different = λ i j pair at there.
      let (one, one_at, one_is) = get-mapped pair_of search.states i pair at in
      let (other, other_at, other_is) = get-mapped pair_of search.states j pair there in
      same-place search.states failures each i j one other one_at other_at (sym one_is ∙ other_is);
  each = λ i pair at.
      let (one, one_at, one_is) = get-mapped pair_of search.states i pair at in
      let is = sound.states i one one_at in
      subst (λ (p : List ℕ × ℕ). IsMetOf (ground_of search) failures p.0 p.1) (sym one_is)
      (record { tried = is.tried; few = (each i one (slice_get_within search.states i one one_at) one_at).few; made = is.made; asks = is.asks });
}
