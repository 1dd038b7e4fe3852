-- The first number that is told as one whose run leaks or panics is the least.
use Rattle.std.proofs.Common.{◌≡◌, ℕ, zero, suc, ◌+◌, ◌<◌, ◌≤◌, ◌⊎◌, inl, inr, arith, Bool, true, false, List, ◌∷◌, length, map, min, Some, None, refl, sym, ◌∙◌, ap, subst, cond}
use Rattle.std.specs.Prelude.{not, ◌&&◌}
use Rattle.std.specs.List.{filter, range_with_len}
use Rattle.std.proofs.Math.Nat.{min-le_left, min-le_right, min-eq_left, min-eq_right}
use Rattle.std.proofs.lemmas.Bool.{cases_lt}
use Rattle.wb_runs.specs.declared.part.Part.{Part}
use Rattle.wb_meaning.specs.declared.run.RunResult.{RunResult}
use Rattle.wb_runs.specs.AllNumbers.{count_in, first_bad, number_end, unfine_in, unfine_numbers, IsLeastBadOf, IsNoBadOf}
use Rattle.wb_runs.specs.Parts.{IsNumberOf}
use Rattle.wb_meaning.specs.Run.{is_bad}
use Rattle.wb_runs.specs.Sweeps.{is_cut_outcome, is_fine}
use Rattle.wb_runs.proofs.LengthTables.{bad-end}

-- a run that is fine isn't bad
unbad_by : (bad cut : Bool) → (not bad && not cut) ≡ true → bad ≡ false
unbad_by false cut e = refl
unbad_by true cut e = cc

module _ (runs : ℕ → RunResult) where
  -- a number more, before those that are told
  more_told : (from : ℕ) (rest : List ℕ) →
      first_bad (map (number_end runs) (cond (not (is_fine (runs from))) (from ∷ rest) rest))
      ≡ cond (is_bad (runs from)) (Some from) (first_bad (map (number_end runs) rest))
  more_told from rest = by (is_fine (runs from)) refl
    where
      by : (fine : Bool) → is_fine (runs from) ≡ fine →
          first_bad (map (number_end runs) (cond (not fine) (from ∷ rest) rest))
          ≡ cond (is_bad (runs from)) (Some from) (first_bad (map (number_end runs) rest))
      by true e =
          sym (ap (λ b. cond b (Some from) (first_bad (map (number_end runs) rest))) (unbad_by (is_bad (runs from)) (is_cut_outcome (runs from).outcome) e))
      by false e = ap (λ b. cond b (Some from) (first_bad (map (number_end runs) rest))) (bad-end (runs from).outcome)

  told_some : (from count number : ℕ) → first_bad (unfine_numbers runs from count) ≡ Some number →
      (from ≤ number) × (number < from + count) × (is_bad (runs number) ≡ true) × ((lesser : ℕ) → from ≤ lesser → lesser < number → is_bad (runs lesser) ≡ false)
  told_some from zero number e = cc
  told_some from (suc more) number e =
      by (is_bad (runs from)) refl (sym (more_told from (filter (λ n. not (is_fine (runs n))) (range_with_len (from + 1) more))) ∙ e) (told_some (from + 1) more number)
    where
      by : (bad : Bool) → is_bad (runs from) ≡ bad → cond bad (Some from) (first_bad (unfine_numbers runs (from + 1) more)) ≡ Some number →
          (first_bad (unfine_numbers runs (from + 1) more) ≡ Some number →
          (from + 1 ≤ number) × (number < from + 1 + more) × (is_bad (runs number) ≡ true)
          × ((lesser : ℕ) → from + 1 ≤ lesser → lesser < number → is_bad (runs lesser) ≡ false)) →
          (from ≤ number) × (number < from + suc more) × (is_bad (runs number) ≡ true)
          × ((lesser : ℕ) → from ≤ lesser → lesser < number → is_bad (runs lesser) ≡ false)
      by true f g later =
          let same : from ≡ number = cc in (
            omega (arith, same),
            omega (arith, same),
            subst (λ k. is_bad (runs k) ≡ true) same f,
            λ lesser ge lt. absurd (omega (arith, same, ge, lt)),
          )
      by false f g later =
          let (ge, within, bad, least) = later g in (
            omega (arith, ge),
            omega (arith, within),
            bad,
            λ lesser le lt. elim (cases_lt from lesser) [
              | inl past ↦ least lesser (omega (arith, past)) lt
              | inr here ↦ let same : from ≡ lesser = omega (arith, le, here) in subst (λ k. is_bad (runs k) ≡ false) same f
            ],
          )

  told_none : (from count : ℕ) → first_bad (unfine_numbers runs from count) ≡ None → (number : ℕ) → from ≤ number → number < from + count → is_bad (runs number) ≡ false
  told_none from zero e number ge lt = absurd (omega (arith, ge, lt))
  told_none from (suc more) e number ge lt =
      by (is_bad (runs from)) refl (sym (more_told from (filter (λ n. not (is_fine (runs n))) (range_with_len (from + 1) more))) ∙ e) (told_none (from + 1) more)
    where
      by : (bad : Bool) → is_bad (runs from) ≡ bad → cond bad (Some from) (first_bad (unfine_numbers runs (from + 1) more)) ≡ None →
          (first_bad (unfine_numbers runs (from + 1) more) ≡ None → (n : ℕ) → from + 1 ≤ n → n < from + 1 + more → is_bad (runs n) ≡ false) →
          is_bad (runs number) ≡ false
      by true f g later = cc
      by false f g later = elim (cases_lt from number) [
        | inl past ↦ later g number (omega (arith, past)) (omega (arith, lt))
        | inr here ↦ let same : from ≡ number = omega (arith, ge, here) in subst (λ k. is_bad (runs k) ≡ false) same f
      ]

-- the numbers of a part up to a last one are as many as are counted
in_part : (part : Part) (last number : ℕ) → part.from ≤ number → number < part.from + count_in part last → IsNumberOf part last number
in_part part last number ge lt =
    let to = min-le_left part.to last in
    let made = min-le_right part.to last in
    record { from = ge; to = omega (arith, ge, lt, to); made = omega (arith, ge, lt, made) }

part_in : (part : Part) (last number : ℕ) → IsNumberOf part last number → number < part.from + count_in part last
part_in part last number is = by (cases_lt last part.to)
  where
    by : (last < part.to) ⊎ (part.to ≤ last) → number < part.from + count_in part last
    by (inl short) =
        let le : last ≤ part.to = omega (arith, short) in
        let least : min part.to last ≡ last = min-eq_right le in
        omega (arith, least, is.from, is.made)
    by (inr long) = let least : min part.to last ≡ part.to = min-eq_left long in omega (arith, least, is.from, is.to)

pub first-least : (runs : ℕ → RunResult) (part : Part) (number : ℕ) → first_bad (unfine_in runs part) ≡ Some number → IsLeastBadOf runs part number (runs number)
first-least runs part number e =
    let last = length (runs 0).trace in
    let (ge, within, bad, least) = told_some runs part.from (count_in part last) number e in
    record { tried = in_part part last number ge within; bad = bad; least = least; run_is = refl }

pub first-none : (runs : ℕ → RunResult) (part : Part) → first_bad (unfine_in runs part) ≡ None → IsNoBadOf runs part
first-none runs part e number is =
    let last = length (runs 0).trace in
    told_none runs part.from (count_in part last) e number is.from (part_in part last number is)
