-- What is told of the numbers from one on, as the lead goes on by a turn.
use Rattle.std.proofs.Common.{◌≡◌, ℕ, zero, suc, ◌+◌, ◌-◌, ◌<◌, ◌≤◌, ◌⊎◌, inl, inr, arith, Bool, true, false, List, [], ◌∷◌, ◌++◌, length, map, Option, Some, None, IfSome, refl, sym, ◌∙◌, ap, subst, cond}
use Rattle.std.specs.Prelude.{not, ◌&&◌}
use Rattle.std.specs.List.{filter, range_with_len}
use Rattle.std.proofs.lemmas.Bool.{cases_lt}
use Rattle.std.proofs.lemmas.List.{map-append}
use Rattle.std.proofs.lemmas.List.Elements.{filter-append}
use Rattle.wb_runs.specs.declared.failures.Failures.{Failures}
use Rattle.wb_heap_model.specs.declared.heap.Shape.{Shape}
use Rattle.wb_runs.specs.declared.number_ends.NumberEnd.{NumberEnd}
use Rattle.wb_runs.specs.declared.part.Part.{Part}
use Rattle.wb_meaning.specs.declared.run.Outcome.{Outcome}
use Rattle.wb_meaning.specs.declared.run.Outcome.TheVariants as outcomes
use Rattle.wb_meaning.specs.declared.run.RunResult.{RunResult}
use Rattle.wb_tree.specs.declared.script.Script.{Script}
use Rattle.wb_runs.specs.AllNumbers.{count_in, first_bad, number_end, unfine_in, unfine_numbers, IsLeastBadOf, IsNoBadOf}
use Rattle.wb_meaning.specs.Run.{is_bad}
use Rattle.wb_runs.specs.RunEnds.{end_of, is_bad_end}
use Rattle.wb_runs.specs.Sweeps.{failing_at, is_cut_outcome, is_fine, runs_of}
use Rattle.wb_runs.proofs.FirstBad.{first-least, first-none}
use Rattle.wb_runs.proofs.LengthTables.{bad-end}
use Rattle.wb_sweep.specs.declared.found.Found.{Found}
use Rattle.wb_sweep.specs.declared.found.Listing.{Listing}
use Rattle.wb_sweep.specs.declared.found.Listing.TheVariants.{Unfine, Every}
use Rattle.wb_sweep.specs.AllOfAPart.{is_listed, line_if_told, line_of, listed_in, listed_numbers, IsFoundAsFirst}

-- a turn makes the attempt that it asks for; one that the ceiling cuts would end the run, which has an attempt more
pub made-further : (ceiling over : Bool) (made next last : ℕ) → (ceiling ≡ false → next ≡ made + 1) → (ceiling ≡ true → over ≡ true) →
    (over ≡ true → last ≤ next) → made < last → next ≤ made + 1 → next ≡ made + 1
made-further false over made next last asked ends all more most = asked refl
made-further true over made next last asked ends all more most = let le = all (ends refl) in omega (arith, le, more, most)

-- what is told of a number by its run's end is what is told by its run
pub line_by_end : (listing : Listing) (number : ℕ) (told : RunResult) → line_if_told listing number (end_of told.outcome) ≡ line_of listing number told
line_by_end Every number told = refl
line_by_end Unfine number told = by told.outcome refl
  where
    by : (outcome : Outcome) → told.outcome ≡ outcome → line_if_told Unfine number (end_of told.outcome) ≡ line_of Unfine number told
    by (outcomes.Ended None []) e = rw e refl
    by (outcomes.Ended (Some code) []) e = rw e refl
    by (outcomes.Ended left (leak ∷ leaks)) e = rw e refl
    by (outcomes.Panicked panic) e = rw e refl
    by outcomes.NoCleanup e = rw e refl
    by (outcomes.Cut why) e = rw e refl

-- so many numbers, and then more
numbers-more : (from m n : ℕ) → range_with_len from (m + n) ≡ range_with_len from m ++ range_with_len (from + m) n
numbers-more from zero n =
    let none : zero + n ≡ n = omega arith in
    let here : from ≡ from + zero = omega arith in
    ap (range_with_len from) none ∙ ap (λ k. range_with_len k n) here
numbers-more from (suc m) n =
    let more : suc m + n ≡ suc (m + n) = omega arith in
    let on : from + 1 + m ≡ from + suc m = omega arith in
    ap (range_with_len from) more ∙ ap (λ rest. from ∷ rest) (numbers-more (from + 1) m n)
    ∙ ap (λ k. (from ∷ range_with_len (from + 1) m) ++ range_with_len k n) on

module _ (listing : Listing) (runs : ℕ → RunResult) where
  listed-more : (from m n : ℕ) → listed_numbers listing runs from (m + n) ≡ listed_numbers listing runs from m ++ listed_numbers listing runs (from + m) n
  listed-more from m n =
      ap (λ numbers. map (number_end runs) (filter (λ number. is_listed listing (runs number)) numbers)) (numbers-more from m n)
      ∙ ap (map (number_end runs)) (filter-append (λ number. is_listed listing (runs number)) (range_with_len from m) (range_with_len (from + m) n))
      ∙ map-append (number_end runs) (filter (λ number. is_listed listing (runs number)) (range_with_len from m))
      (filter (λ number. is_listed listing (runs number)) (range_with_len (from + m) n))

  pub one-line : (number : ℕ) → listed_numbers listing runs number 1 ≡ line_of listing number (runs number)
  one-line number = by (is_listed listing (runs number))
    where
      by : (listed : Bool) → map (number_end runs) (cond listed (number ∷ []) []) ≡ cond listed (number_end runs number ∷ []) []
      by true = refl
      by false = refl

  line_more : (from made : ℕ) → from ≤ made + 1 →
      listed_numbers listing runs from (made + 1 - from) ++ line_of listing (made + 1) (runs (made + 1)) ≡ listed_numbers listing runs from (made + 1 + 1 - from)
  line_more from made begun =
      let here : made + 1 ≡ from + (made + 1 - from) = omega (arith, begun) in
      let count : made + 1 - from + 1 ≡ made + 1 + 1 - from = omega (arith, begun) in
      ap (λ rest. listed_numbers listing runs from (made + 1 - from) ++ rest) (sym (one-line (made + 1)) ∙ ap (λ k. listed_numbers listing runs k 1) here)
      ∙ sym (listed-more from (made + 1 - from) 1)
      ∙ ap (listed_numbers listing runs from) count

  -- what is told once the lead has gone on by a turn
  pub lines-further : (from made next : ℕ) (asks : Bool) (ends more : List NumberEnd) → ends ≡ listed_numbers listing runs from (made + 1 - from) →
      (asks ≡ false → next ≡ made) → (asks ≡ true → next ≡ made + 1) →
      (asks ≡ true → from ≤ made + 1 → more ≡ ends ++ line_of listing (made + 1) (runs (made + 1))) → (asks ≡ false → more ≡ ends) → (made + 1 < from → more ≡ ends) →
      more ≡ listed_numbers listing runs from (next + 1 - from)
  lines-further from made next asks ends more told unasked asked added unadded before = by asks refl (cases_lt (made + 1) from)
    where
      by : (b : Bool) → asks ≡ b → (made + 1 < from) ⊎ (from ≤ made + 1) → more ≡ listed_numbers listing runs from (next + 1 - from)
      by false e either = unadded e ∙ told ∙ ap (λ n. listed_numbers listing runs from (n + 1 - from)) (sym (unasked e))
      by true e (inl early) =
          let next_is = asked e in
          let same : made + 1 - from ≡ next + 1 - from = omega (arith, early, next_is) in
          before early ∙ told ∙ ap (listed_numbers listing runs from) same
      by true e (inr begun) =
          added e begun ∙ ap (λ xs. xs ++ line_of listing (made + 1) (runs (made + 1))) told ∙ line_more from made begun
          ∙ ap (λ n. listed_numbers listing runs from (n + 1 - from)) (sym (asked e))

  -- what is told of number 0, before the others
  pub first-lines : (from : ℕ) (more : List NumberEnd) → (from ≡ 0 → more ≡ line_of listing 0 (runs 0)) → (1 ≤ from → more ≡ []) →
      more ≡ listed_numbers listing runs from (1 - from)
  first-lines from more added unadded = by (cases_lt 0 from)
    where
      by : (0 < from) ⊎ (from ≤ 0) → more ≡ listed_numbers listing runs from (1 - from)
      by (inl later) = let none : 0 ≡ 1 - from = omega (arith, later) in unadded (omega (arith, later)) ∙ ap (listed_numbers listing runs from) none
      by (inr start) =
          let first : from ≡ 0 = omega (arith, start) in
          let one : 1 ≡ 1 - from = omega (arith, start) in
          added first ∙ sym (one-line 0) ∙ ap (λ k. listed_numbers listing runs k 1) (sym first) ∙ ap (listed_numbers listing runs from) one

-- ---- what is found

-- a run that is fine has no bad end
unbad_by : (bad cut : Bool) → (not bad && not cut) ≡ true → bad ≡ false
unbad_by false cut e = refl
unbad_by true cut e = cc

fine-end : (runs : ℕ → RunResult) (number : ℕ) → is_fine (runs number) ≡ true → is_bad_end (end_of (runs number).outcome) ≡ false
fine-end runs number e = bad-end (runs number).outcome ∙ unbad_by (is_bad (runs number)) (is_cut_outcome (runs number).outcome) e

-- the first bad one of all numbers is that of those which aren't fine
first-of-all : (runs : ℕ → RunResult) (from count : ℕ) → first_bad (listed_numbers Every runs from count) ≡ first_bad (unfine_numbers runs from count)
first-of-all runs from zero = refl
first-of-all runs from (suc more) =
    by (is_fine (runs from)) refl (first-of-all runs (from + 1) more)
  where
    unfine : List ℕ
    unfine = filter (λ n. not (is_fine (runs n))) (range_with_len (from + 1) more)

    by : (fine : Bool) → is_fine (runs from) ≡ fine →
        first_bad (listed_numbers Every runs (from + 1) more) ≡ first_bad (map (number_end runs) unfine) →
        first_bad (number_end runs from ∷ listed_numbers Every runs (from + 1) more)
        ≡ first_bad (map (number_end runs) (cond (not fine) (from ∷ unfine) unfine))
    by true e later = ap (λ b. cond b (Some from) (first_bad (listed_numbers Every runs (from + 1) more))) (fine-end runs from e) ∙ later
    by false e later = ap (λ rest. cond (is_bad_end (end_of (runs from).outcome)) (Some from) rest) later

first-of : (listing : Listing) (runs : ℕ → RunResult) (part : Part) → first_bad (listed_in listing runs part) ≡ first_bad (unfine_in runs part)
first-of Unfine runs part = refl
first-of Every runs part = first-of-all runs part.from (count_in part (length (runs 0).trace))

module _ (listing : Listing) (failures : Failures) (part : Part) (script : Script) (budget : ℕ) (shape : Shape) (ends : List NumberEnd)
    (told : ends ≡ listed_in listing (runs_of failures script budget shape) part) where
  abbrev runs : ℕ → RunResult
  runs = runs_of failures script budget shape

  pub found-first-bad : (found : Option Found) → IsFoundAsFirst failures script budget shape ends found →
      IfSome found (λ found. (n : ℕ) × (found.at ≡ failing_at failures n) × IsLeastBadOf runs part n found.result)
  found-first-bad None is = tt
  found-first-bad (Some found) (n, first, at, result) =
      let least = first-least runs part n (sym (ap first_bad told ∙ first-of listing runs part) ∙ first) in
      (n, at, subst (IsLeastBadOf runs part n) (sym result) least)

  pub none-is-bad : (found : Option Found) → IsFoundAsFirst failures script budget shape ends found → found ≡ None → IsNoBadOf runs part
  none-is-bad None is e = first-none runs part (sym (ap first_bad told ∙ first-of listing runs part) ∙ is)
  none-is-bad (Some found) is e = cc
