-- The least failure whose run is bad or cut is among those up to the last attempt of the run without failure.
use Rattle.std.proofs.Common.{◌≡◌, ◌≢◌, inl, inr, ℕ, zero, suc, ◌+◌, ◌<◌, ◌≤◌, arith, Bool, true, false, length, refl, sym, ◌∙◌, ap, subst, Option, Some, None, cond}
use Rattle.std.specs.Prelude.{not, ◌↔◌}
use Rattle.std.proofs.lemmas.Bool.{cases_lt, and_right}
use Rattle.wb_runs.specs.declared.failures.Failures.{Failures}
use Rattle.wb_heap_model.specs.declared.heap.Shape.{Shape}
use Rattle.wb_meaning.specs.declared.run.RunResult.{RunResult}
use Rattle.wb_meaning.specs.declared.run.Why.TheVariants.{Ceiling}
use Rattle.wb_meaning.specs.declared.run.Outcome.TheVariants.{Cut}
use Rattle.wb_tree.specs.declared.script.Script.{Script}
use Rattle.wb_meaning.specs.Run.{is_bad}
use Rattle.wb_runs.specs.Sweeps.{is_fine, is_cut_outcome, runs_of, AreFineBelow, AreAllFine, IsLeastUnfine, or_else, least_unfine, least_bad_or_cut}
use Rattle.wb_runs.proofs.SameRuns.{past_the_last}

-- a run that is cut isn't fine
pub fine_uncut : (told : RunResult) → is_fine told ≡ true → told.outcome ≢ Cut Ceiling
fine_uncut told fine cut = let e = and_right (not (is_bad told)) (not (is_cut_outcome told.outcome)) (ap (λ o. not (is_cut_outcome o)) cut) in cc

-- runs that are numbered from 0 on, of any family of rules
module _ (runs : ℕ → RunResult) where
  -- where those past a number are the first one, and those up to it are fine, all are
  pub fine_all : (last : ℕ) → ((n : ℕ) → last < n → runs n ≡ runs 0) → AreFineBelow runs (last + 1) → AreAllFine runs
  fine_all last past below number =
      elim (cases_lt number (last + 1)) [
        | inl less ↦ below number less
        | inr ge ↦ ap is_fine (past number (omega arith)) ∙ below 0 (omega arith)
      ]

  none_below : (bound : ℕ) → AreFineBelow runs bound → least_unfine runs bound ≡ None
  none_below zero fine = refl
  none_below (suc n) fine =
      ap (λ o. or_else o (cond (is_fine (runs n)) None (Some n))) (none_below n (λ m lt. fine m (omega arith)))
      ∙ ap (λ b. cond b None (Some n)) (fine n (omega arith))

  some_below : (bound number : ℕ) → number < bound → IsLeastUnfine runs number → least_unfine runs bound ≡ Some number
  some_below zero number lt is = absurd (omega arith)
  some_below (suc n) number lt is =
      elim (cases_lt number n) [
        | inl less ↦ ap (λ o. or_else o (cond (is_fine (runs n)) None (Some n))) (some_below n number less is)
        | inr ge ↦
            let e : number ≡ n = omega arith in
            ap (λ o. or_else o (cond (is_fine (runs n)) None (Some n))) (none_below n (λ m lt. is.least m (omega arith)))
            ∙ ap (λ b. cond b None (Some n)) (ap (λ k. is_fine (runs k)) (sym e) ∙ is.unfine)
            ∙ ap Some (sym e)
      ]

  last_fine : (o : Option ℕ) (b : Bool) (n : ℕ) → or_else o (cond b None (Some n)) ≡ None → (o ≡ None) × (b ≡ true)
  last_fine (Some m) b n e = cc
  last_fine None true n e = (refl, refl)
  last_fine None false n e = cc

  missing_below : (bound : ℕ) → least_unfine runs bound ≡ None → AreFineBelow runs bound
  missing_below zero e n lt = absurd (omega arith)
  missing_below (suc m) e n lt =
      let is = last_fine (least_unfine runs m) (is_fine (runs m)) m e in
      elim (cases_lt n m) [
        | inl less ↦ missing_below m is.0 n less
        | inr ge ↦ let same : m ≡ n = omega arith in subst (λ k. is_fine (runs k) ≡ true) same is.1
      ]

  found_below : (bound number : ℕ) → least_unfine runs bound ≡ Some number → IsLeastUnfine runs number
  found_below zero number e = cc
  found_below (suc m) number e = by (least_unfine runs m) refl (is_fine (runs m)) refl e (found_below m number)
    where
      by : (o : Option ℕ) → least_unfine runs m ≡ o → (b : Bool) → is_fine (runs m) ≡ b → or_else o (cond b None (Some m)) ≡ Some number →
          (least_unfine runs m ≡ Some number → IsLeastUnfine runs number) → IsLeastUnfine runs number
      by (Some k) f b g e rest = rest (f ∙ e)
      by None f true g e rest = cc
      by None f false g e rest = let same : m ≡ number = cc in subst (IsLeastUnfine runs) same (record { unfine = g; least = missing_below m f })

-- the failures of a script's attempts
module _ (failures : Failures) (script : Script) (budget : ℕ) (shape : Shape) where
  past : is_fine (runs_of failures script budget shape 0) ≡ true → (n : ℕ) → length (runs_of failures script budget shape 0).trace < n → runs_of failures script budget shape n ≡ runs_of failures script budget shape 0
  past fine n lt = past_the_last failures script budget shape n (fine_uncut (runs_of failures script budget shape 0) fine) lt

  pub all_fine : AreFineBelow (runs_of failures script budget shape) (length (runs_of failures script budget shape 0).trace + 1) → AreAllFine (runs_of failures script budget shape)
  all_fine below = fine_all (runs_of failures script budget shape) (length (runs_of failures script budget shape 0).trace) (past (below 0 (omega arith))) below

  pub unfine_within : (number : ℕ) → IsLeastUnfine (runs_of failures script budget shape) number → number ≤ length (runs_of failures script budget shape 0).trace
  unfine_within number is =
      elim (cases_lt (length (runs_of failures script budget shape 0).trace) number) [
        | inl lt ↦
            let fine = all_fine (λ smaller less. is.least smaller (omega arith)) number in
            let unfine = is.unfine in
            absurd cc
        | inr le ↦ le
      ]

  pub least-some : (number : ℕ) → (least_bad_or_cut failures script budget shape ≡ Some number) ↔ IsLeastUnfine (runs_of failures script budget shape) number
  least-some number = (
    λ e. found_below (runs_of failures script budget shape) (suc (length (runs_of failures script budget shape 0).trace)) number e,
    λ is. let le = unfine_within number is in some_below (runs_of failures script budget shape) (suc (length (runs_of failures script budget shape 0).trace)) number (omega arith) is,
  )

  pub least-none : (least_bad_or_cut failures script budget shape ≡ None) ↔ AreAllFine (runs_of failures script budget shape)
  least-none = (
    λ e. all_fine (λ n lt. missing_below (runs_of failures script budget shape) (suc (length (runs_of failures script budget shape 0).trace)) e n (omega arith)),
    λ fine. none_below (runs_of failures script budget shape) (suc (length (runs_of failures script budget shape 0).trace)) (λ n lt. fine n),
  )
