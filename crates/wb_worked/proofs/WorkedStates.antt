-- Which states are met, by computing.
use Rattle.std.proofs.Common.{◌≡◌, ℕ, zero, suc, arith, inl, inr, refl, sym, ap, ◌∙◌, subst, List, [], ◌∷◌, length, Some, None}
use Rattle.std.specs.Prelude.{slice_get}
use Rattle.std.proofs.lemmas.Option.{none-some, same_Some}
use Rattle.wb_runs.specs.Met.{IsMetIn}
use Rattle.wb_worked.proofs.FineSets.{few-fine}
use Rattle.wb_worked.specs.Shorthands.{everything}
use Rattle.wb_worked.specs.WorkedScripts.{three_tries, heap, from_to}
use Rattle.wb_worked.specs.WorkedSweeps.{MoreThanFourAreMet, OneShowsNothing, UnmadeHasNoState}

-- sets, each with how many attempts its run has made, which is its place
abbrev met : List (List ℕ × ℕ)
met = ([], 0) ∷ ([], 1) ∷ ([], 2) ∷ (3 ∷ [], 3) ∷ (3 ∷ 4 ∷ [], 4) ∷ []

place : (i : ℕ) (pair : List ℕ × ℕ) → slice_get met i ≡ Some pair → pair.1 ≡ i
place zero pair is = ap (λ (p : List ℕ × ℕ). p.1) (sym (same_Some ([], 0) pair is))
place (suc zero) pair is = ap (λ (p : List ℕ × ℕ). p.1) (sym (same_Some ([], 1) pair is))
place (suc (suc zero)) pair is = ap (λ (p : List ℕ × ℕ). p.1) (sym (same_Some ([], 2) pair is))
place (suc (suc (suc zero))) pair is = ap (λ (p : List ℕ × ℕ). p.1) (sym (same_Some (3 ∷ [], 3) pair is))
place (suc (suc (suc (suc zero)))) pair is = ap (λ (p : List ℕ × ℕ). p.1) (sym (same_Some (3 ∷ 4 ∷ [], 4) pair is))
place (suc (suc (suc (suc (suc i))))) pair is = absurd (none-some pair is)

abbrev IsMet : List ℕ × ℕ → Type 0
IsMet pair = IsMetIn (from_to 1 9) 2 three_tries 10000 heap pair.0 pair.1

each-is-met : (i : ℕ) (pair : List ℕ × ℕ) → slice_get met i ≡ Some pair → IsMet pair
unfolding everything
each-is-met zero pair is =
    subst IsMet (same_Some ([], 0) pair is) (record { tried = inl refl; few = omega arith; made = tt; asks = inl (omega arith) })
each-is-met (suc zero) pair is =
    subst IsMet (same_Some ([], 1) pair is) (record { tried = inl refl; few = omega arith; made = tt; asks = inl (omega arith) })
each-is-met (suc (suc zero)) pair is =
    subst IsMet (same_Some ([], 2) pair is) (record { tried = inl refl; few = omega arith; made = tt; asks = inl (omega arith) })
each-is-met (suc (suc (suc zero))) pair is =
    subst IsMet (same_Some (3 ∷ [], 3) pair is) (record {
      tried = inr (record { set = (omega arith, tt); least = record { from = omega arith; to = omega arith; made = omega arith } });
      few = omega arith;
      made = (omega arith, tt);
      asks = inl (omega arith);
    })
each-is-met (suc (suc (suc (suc zero)))) pair is =
    subst IsMet (same_Some (3 ∷ 4 ∷ [], 4) pair is) (record {
      tried = inr (record { set = (omega arith, (omega arith, tt)); least = record { from = omega arith; to = omega arith; made = omega arith } });
      few = omega arith;
      made = (omega arith, (omega arith, tt));
      asks = inl (omega arith);
    })
each-is-met (suc (suc (suc (suc (suc i))))) pair is = absurd (none-some pair is)

pub more-than-four : MoreThanFourAreMet
more-than-four = record {
  pairs = met;
  more = omega arith;
  different = λ i j pair one other. sym (place i pair one) ∙ place j pair other;
  each = each-is-met;
}

pub one-shows-nothing : OneShowsNothing
unfolding everything
one-shows-nothing = few-fine three_tries 10000 heap 1 refl

-- its run makes 3 attempts, and the set has number 4
pub unmade-has-no-state : UnmadeHasNoState
unfolding everything
unmade-has-no-state attempts is = omega (arith, is.made.1.0, is.asks)
