-- What a search has found stays true as it finds more: one more state, or how one more run goes on.
use Rattle.std.proofs.Common.{◌≡◌, ℕ, ◌≤◌, arith, List, [], ◌∷◌, ◌++◌, length, Some, sym, ◌∙◌, ap, subst, inl, inr}
use Rattle.std.specs.Prelude.{slice_get}
use Rattle.std.proofs.lemmas.Option.{slice_get_within}
use Rattle.wb_states.specs.declared.state.Edge.{Edge}
use Rattle.wb_states.specs.declared.state.Edge.TheVariants.{Joins, Ends, Shows, Untried, Unknown}
use Rattle.wb_states.specs.declared.state.State.{State}
use Rattle.wb_states.specs.Ground.{Ground}
use Rattle.wb_states.specs.States.{failing_next, next_attempt, turns_at, AreFailed, AreGranted, AreStates, GoesOn, IsState}
use Rattle.wb_states.proofs.Lists.{get-appended, get-either}

-- how a run goes on is true of more states, too
pub goes-on-later : (g : Ground) (states more : List State) (turns : ℕ) (set : List ℕ) (attempts : ℕ) (edge : Edge) →
    ((i : ℕ) (state : State) → slice_get states i ≡ Some state → slice_get more i ≡ Some state) →
    GoesOn g states turns set attempts edge → GoesOn g more turns set attempts edge
goes-on-later g states more turns set attempts (Joins at steps) kept is = record {
  state = is.state;
  is_at = kept at is.state is.is_at;
  later = is.later;
  order = is.order;
  tried = is.tried;
  meets = is.meets;
}
goes-on-later g states more turns set attempts (Ends steps) kept is = is
goes-on-later g states more turns set attempts Shows kept is = is
goes-on-later g states more turns set attempts Untried kept is = is
goes-on-later g states more turns set attempts Unknown kept is = is

-- a state more
module _ (g : Ground) (states : List State) (state : State) where
  kept : (i : ℕ) (one : State) → slice_get states i ≡ Some one → slice_get (states ++ state ∷ []) i ≡ Some one
  kept i one e = get-appended states (state ∷ []) i one e

  -- a state with an edge is one of those that were there
  one-of : (edges : List Edge) (i : ℕ) (one : State) (edge : Edge) → length edges ≤ length states → slice_get edges i ≡ Some edge →
      slice_get (states ++ state ∷ []) i ≡ Some one → slice_get states i ≡ Some one
  one-of edges i one edge fewer at e = elim (get-either states state one i e) [
    | inl is ↦ is
    | inr is ↦ absurd (omega (arith, slice_get_within edges i edge at, fewer, is.0))
  ]

  pub states-more : AreStates g states → IsState g state → AreStates g (states ++ state ∷ [])
  states-more are is i one e = elim (get-either states state one i e) [
    | inl was ↦ are i one was
    | inr last ↦ subst (IsState g) (sym last.1) is
  ]

  pub granted-more : (edges : List Edge) → length edges ≤ length states → AreGranted g states edges → AreGranted g (states ++ state ∷ []) edges
  granted-more edges fewer are i one edge e at =
      goes-on-later g states (states ++ state ∷ []) (turns_at one) one.numbers (next_attempt one) edge kept
      (are i one edge (one-of edges i one edge fewer at e) at)

  pub failed-more : (edges : List Edge) → length edges ≤ length states → AreFailed g states edges → AreFailed g (states ++ state ∷ []) edges
  failed-more edges fewer are i one edge e at =
      goes-on-later g states (states ++ state ∷ []) (turns_at one) (failing_next one) (next_attempt one) edge kept
      (are i one edge (one-of edges i one edge fewer at e) at)

-- how one more run goes on
module _ (g : Ground) (states : List State) (edges : List Edge) (state : State) (edge : Edge) (is_at : slice_get states (length edges) ≡ Some state) where
  pub granted-next : AreGranted g states edges → GoesOn g states (turns_at state) state.numbers (next_attempt state) edge →
      AreGranted g states (edges ++ edge ∷ [])
  granted-next are goes i one other e at = elim (get-either edges edge other i at) [
    | inl was ↦ are i one other e was
    | inr last ↦ let same : one ≡ state = (let there = ap (slice_get states) (sym last.0) ∙ e in let both = sym is_at ∙ there in cc) in
        subst (λ (x : Edge). GoesOn g states (turns_at one) one.numbers (next_attempt one) x) (sym last.1)
        (subst (λ (s : State). GoesOn g states (turns_at s) s.numbers (next_attempt s) edge) (sym same) goes)
  ]

  pub failed-next : AreFailed g states edges → GoesOn g states (turns_at state) (failing_next state) (next_attempt state) edge →
      AreFailed g states (edges ++ edge ∷ [])
  failed-next are goes i one other e at = elim (get-either edges edge other i at) [
    | inl was ↦ are i one other e was
    | inr last ↦ let same : one ≡ state = (let there = ap (slice_get states) (sym last.0) ∙ e in let both = sym is_at ∙ there in cc) in
        subst (λ (x : Edge). GoesOn g states (turns_at one) (failing_next one) (next_attempt one) x) (sym last.1)
        (subst (λ (s : State). GoesOn g states (turns_at s) (failing_next s) (next_attempt s) edge) (sym same) goes)
  ]
