-- Every script has a table of lengths, a least bad length or none, a cut one or none, and, unless it is cut, a length that it needs; and every list
-- of numbers has a least bad one or none.
use Rattle.std.proofs.Common.{◌≡◌, ◌≢◌, ℕ, zero, suc, ◌+◌, ◌<◌, inl, inr, arith, true, false, List, [], ◌∷◌, length, refl, sym, ◌∙◌, ap, subst, Option, Some, None, IsSome}
use Rattle.std.proofs.lemmas.Bool.{cases_Bool, cases_lt}
use Rattle.wb_heap_model.specs.declared.heap.Rule.TheVariants.{Unlimited}
use Rattle.wb_heap_model.specs.declared.heap.Shape.{Shape}
use Rattle.wb_runs.specs.declared.lengths.LengthRange.{LengthRange}
use Rattle.wb_basics.specs.declared.limits.TheConstants.{CEILING}
use Rattle.wb_runs.specs.declared.part.Part.{Part}
use Rattle.wb_meaning.specs.declared.run.Outcome.TheVariants.{Cut}
use Rattle.wb_meaning.specs.declared.run.RunResult.{RunResult}
use Rattle.wb_meaning.specs.declared.run.Why.TheVariants.{Ceiling}
use Rattle.wb_runs.specs.declared.run_end.RunEnd.{RunEnd}
use Rattle.wb_tree.specs.declared.script.Script.{Script}
use Rattle.wb_runs.specs.AllNumbers.{first_bad, unfine_in}
use Rattle.wb_runs.specs.Lengths.{end_in, run_in, IsTableFrom}
use Rattle.wb_meaning.specs.Run.{is_bad, required, rises, run}
use Rattle.wb_runs.specs.Sizes.{refused_first, IsHeapLength}
use Rattle.wb_runs.specs.Sweeps.{is_cut_outcome}
use Rattle.wb_runs.proofs.FirstBad.{first-least, first-none}
use Rattle.wb_runs.proofs.SizeLemmas.{limit_refuses_first, limits_have_table, refused_at-none}
use Rattle.wb_answers.specs.Answered.{AnyCutOrNone, HasLeastBadLength, HasLeastBadOf, HasLengthTable}
use Rattle.wb_answers.proofs.LeastNumber.{least-or-none}
use Rattle.wb_answers.proofs.SameEnds.{same-or-not}

-- ---- a table, from its last length to its first

module _ (end_at : ℕ → RunEnd) (most : ℕ) where
  abbrev HasTable : ℕ → Type 0
  HasTable from = (table : List LengthRange) × IsTableFrom end_at most from table

  begins : (from : ℕ) (range : LengthRange) (ranges : List LengthRange) → IsTableFrom end_at most from (range ∷ ranges) → range.from ≡ from
  begins from range [] is = is.0
  begins from range (next ∷ ranges) is = is.0

  -- a length before a range ends as the range does, or is a range of its own
  wider : (from : ℕ) (range : LengthRange) (ranges : List LengthRange) → from < most → end_at from ≡ range.end →
      IsTableFrom end_at most (from + 1) (range ∷ ranges) → HasTable from
  wider from range [] lt same is = (
    record { from = from; end = range.end } ∷ [],
    (
      refl,
      omega (arith, lt),
      λ length ge le. elim (cases_lt from length) [
        | inl past ↦ is.2 length (omega (arith, past)) le
        | inr here ↦ let first : from ≡ length = omega (arith, ge, here) in subst (λ k. end_at k ≡ range.end) first same
      ],
    ),
  )
  wider from range (next ∷ ranges) lt same is = (
    record { from = from; end = range.end } ∷ next ∷ ranges,
    (
      refl,
      omega (arith, is.1),
      is.2,
      λ length ge less. elim (cases_lt from length) [
        | inl past ↦ is.3 length (omega (arith, past)) less
        | inr here ↦ let first : from ≡ length = omega (arith, ge, here) in subst (λ k. end_at k ≡ range.end) first same
      ],
      is.4,
    ),
  )

  added : (from : ℕ) (range : LengthRange) (ranges : List LengthRange) → end_at from ≢ range.end →
      IsTableFrom end_at most (from + 1) (range ∷ ranges) → HasTable from
  added from range ranges other is =
      let start = begins (from + 1) range ranges is in (
        record { from = from; end = end_at from } ∷ range ∷ ranges,
        (
          refl,
          omega (arith, start),
          λ e. other (sym e),
          λ length ge less. let first : length ≡ from = omega (arith, ge, less, start) in ap end_at first,
          subst (λ f. IsTableFrom end_at most f (range ∷ ranges)) (sym start) is,
        ),
      )

  grown : (from : ℕ) → from < most → HasTable (from + 1) → HasTable from
  grown from lt ([], is) = absurd is
  grown from lt (range ∷ ranges, is) = elim (same-or-not (end_at from) range.end) [
    | inl same ↦ wider from range ranges lt same is
    | inr other ↦ added from range ranges other is
  ]

  pub has-table : (count from : ℕ) → from + count ≡ most → HasTable from
  has-table zero from e = (
    record { from = from; end = end_at from } ∷ [],
    (refl, omega (arith, e), λ length ge le. let same : length ≡ from = omega (arith, e, ge, le) in ap end_at same),
  )
  has-table (suc count) from e = grown from (omega (arith, e)) (has-table count (from + 1) (omega (arith, e)))

module _ (script : Script) (budget : ℕ) (shape : Shape) where
  pub length-table : HasLengthTable script budget shape
  length-table = has-table (end_in script budget shape) CEILING CEILING 0 (omega arith)

  -- ---- one length

  pub bad-length : HasLeastBadLength script budget shape
  bad-length =
      let runs : ℕ → RunResult = run_in script budget shape in
      elim (least-or-none (λ n. is_bad (runs n) ≡ true) (λ n. is_bad (runs n) ≡ false) 0 (CEILING + 1)
      (λ n ge lt none. cases_Bool (is_bad (runs n)))) [
        | inl is ↦ inl (
          is.number,
          runs is.number,
          record { within = omega (arith, is.within); bad = is.has; least = λ shorter less. is.lesser shorter (omega arith) less; run_is = refl },
        )
        | inr none ↦ inr (λ length le. none length (omega arith) (omega (arith, le)))
      ]

  pub cut-length : AnyCutOrNone script budget shape
  cut-length =
      let runs : ℕ → RunResult = run_in script budget shape in
      elim (least-or-none (λ n. is_cut_outcome (runs n).outcome ≡ true) (λ n. is_cut_outcome (runs n).outcome ≡ false) 0 (CEILING + 1)
      (λ n ge lt none. cases_Bool (is_cut_outcome (runs n).outcome))) [
        | inl is ↦ inl (is.number, omega (arith, is.within), is.has)
        | inr none ↦ inr (λ length le. none length (omega arith) (omega (arith, le)))
      ]

  -- ---- the length that a script needs

  pub heap-length : (run script Unlimited budget shape).outcome ≢ Cut Ceiling →
      IsHeapLength script budget shape (required script budget shape) (rises script budget shape)
  heap-length uncut = record {
    enough = λ length le. limit_refuses_first script budget shape length uncut ∙ (refused_at-none script budget shape length).1 le;
    short = λ length lt. short length lt (refused_first script budget shape length) refl;
    table = limits_have_table script budget shape uncut;
  }
    where
      short : (length : ℕ) → length < required script budget shape → (o : Option ℕ) → refused_first script budget shape length ≡ o → IsSome o
      short length lt (Some n) e = refl
      short length lt None e =
          let le = (refused_at-none script budget shape length).0 (sym (limit_refuses_first script budget shape length uncut) ∙ e) in
          absurd (omega (arith, lt, le))

-- ---- numbers that are listed

pub bad-number : (runs : ℕ → RunResult) (part : Part) → HasLeastBadOf runs part
bad-number runs part = by (first_bad (unfine_in runs part)) refl
  where
    by : (o : Option ℕ) → first_bad (unfine_in runs part) ≡ o → HasLeastBadOf runs part
    by (Some number) e = inl (number, first-least runs part number e)
    by None e = inr (first-none runs part e)
