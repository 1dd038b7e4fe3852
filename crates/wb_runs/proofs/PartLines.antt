-- What is told of the numbers of parts that follow one another is what is told of both.
use Rattle.std.proofs.Common.{◌≡◌, ℕ, zero, suc, ◌+◌, ◌<◌, ◌≤◌, ◌⊎◌, inl, inr, arith, List, ◌∷◌, ◌++◌, length, map, min, sym, ◌∙◌, ap, length-append}
use Rattle.std.specs.Prelude.{not}
use Rattle.std.specs.List.{filter, range_with_len}
use Rattle.std.proofs.Math.Nat.{min-eq_left, min-eq_right}
use Rattle.std.proofs.lemmas.Bool.{cases_lt}
use Rattle.std.proofs.lemmas.List.{map-append}
use Rattle.std.proofs.lemmas.List.Elements.{filter-append}
use Rattle.wb_runs.specs.declared.number_ends.NumberEnd.{NumberEnd}
use Rattle.wb_runs.specs.declared.part.Part.{Part}
use Rattle.wb_meaning.specs.declared.run.RunResult.{RunResult}
use Rattle.wb_runs.specs.AllNumbers.{bad_count, count_in, number_end, unfine_in, unfine_numbers}
use Rattle.wb_runs.specs.Parts.{AreInARow}
use Rattle.wb_runs.specs.RunEnds.{is_bad_end}
use Rattle.wb_runs.specs.Sweeps.{is_fine}

-- so many numbers, and then more
numbers-more : (from m n : ℕ) → range_with_len from (m + n) ≡ range_with_len from m ++ range_with_len (from + m) n
numbers-more from zero n =
    let none : zero + n ≡ n = omega arith in
    let here : from ≡ from + zero = omega arith in
    ap (range_with_len from) none ∙ ap (λ k. range_with_len k n) here
numbers-more from (suc m) n =
    let more : suc m + n ≡ suc (m + n) = omega arith in
    let on : from + 1 + m ≡ from + suc m = omega arith in
    ap (range_with_len from) more ∙ ap (λ rest. from ∷ rest) (numbers-more (from + 1) m n)
    ∙ ap (λ k. (from ∷ range_with_len (from + 1) m) ++ range_with_len k n) on

module _ (runs : ℕ → RunResult) where
  pub unfine-more : (from m n : ℕ) → unfine_numbers runs from (m + n) ≡ unfine_numbers runs from m ++ unfine_numbers runs (from + m) n
  unfine-more from m n =
      ap (λ numbers. map (number_end runs) (filter (λ number. not (is_fine (runs number))) numbers)) (numbers-more from m n)
      ∙ ap (map (number_end runs)) (filter-append (λ number. not (is_fine (runs number))) (range_with_len from m) (range_with_len (from + m) n))
      ∙ map-append (number_end runs) (filter (λ number. not (is_fine (runs number))) (range_with_len from m))
      (filter (λ number. not (is_fine (runs number))) (range_with_len (from + m) n))

  -- the next part's numbers are those after the first part's, or there are none
  next_numbers : (part next both : Part) (last : ℕ) → AreInARow part next both →
      (count_in both last ≡ count_in part last + count_in next last)
      × (unfine_numbers runs (part.from + count_in part last) (count_in next last) ≡ unfine_numbers runs next.from (count_in next last))
  next_numbers part next both last row = by (cases_lt last part.to)
    where
      same_end : min both.to last ≡ min next.to last
      same_end = ap (λ to. min to last) row.to

      min_last : (to : ℕ) → last ≤ to → min to last ≡ last
      min_last to le = min-eq_right le

      by_end : (last < next.to) ⊎ (next.to ≤ last) → min part.to last ≡ part.to → count_in both last ≡ count_in part last + count_in next last
      by_end (inl short) first =
          let second : min next.to last ≡ last = min_last next.to (omega (arith, short)) in
          omega (arith, first, second, same_end, row.from, row.begins, row.follows)
      by_end (inr long) first =
          let second : min next.to last ≡ next.to = min-eq_left long in
          omega (arith, first, second, same_end, row.from, row.begins, row.follows, row.ends)

      by : (last < part.to) ⊎ (part.to ≤ last) →
          (count_in both last ≡ count_in part last + count_in next last)
          × (unfine_numbers runs (part.from + count_in part last) (count_in next last) ≡ unfine_numbers runs next.from (count_in next last))
      by (inl short) =
          let first : min part.to last ≡ last = min_last part.to (omega (arith, short)) in
          let second : min next.to last ≡ last = min_last next.to (omega (arith, short, row.ends)) in
          let none : count_in next last ≡ 0 = omega (arith, second, short, row.follows) in (
            omega (arith, none, first, second, same_end, row.from),
            ap (unfine_numbers runs (part.from + count_in part last)) none ∙ sym (ap (unfine_numbers runs next.from) none),
          )
      by (inr long) =
          let first : min part.to last ≡ part.to = min-eq_left long in
          let begins : part.from + count_in part last ≡ next.from = omega (arith, first, row.begins, row.follows) in (
            by_end (cases_lt last next.to) first,
            ap (λ from. unfine_numbers runs from (count_in next last)) begins,
          )

pub lines-in-a-row : (runs : ℕ → RunResult) (part next both : Part) → AreInARow part next both → unfine_in runs both ≡ unfine_in runs part ++ unfine_in runs next
lines-in-a-row runs part next both row =
    let last = length (runs 0).trace in
    let (count, begins) = next_numbers runs part next both last row in
    ap (λ from. unfine_numbers runs from (count_in both last)) row.from
    ∙ ap (unfine_numbers runs part.from) count
    ∙ unfine-more runs part.from (count_in part last) (count_in next last)
    ∙ ap (λ more. unfine_in runs part ++ more) begins

pub bad-more : (ends more : List NumberEnd) → bad_count (ends ++ more) ≡ bad_count ends + bad_count more
bad-more ends more =
    ap length (filter-append (λ (told : NumberEnd). is_bad_end told.end) ends more)
    ∙ length-append (filter (λ (told : NumberEnd). is_bad_end told.end) ends) (filter (λ (told : NumberEnd). is_bad_end told.end) more)
