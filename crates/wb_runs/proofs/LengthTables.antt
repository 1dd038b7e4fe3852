-- Tables of how runs end in heaps of all lengths: there is one, and it grows at its front.
use Rattle.std.proofs.Common.{◌≡◌, ◌≢◌, ◌⊎◌, inl, inr, ℕ, ◌<◌, ◌≤◌, arith, List, [], ◌∷◌, refl, sym, ◌∙◌, ap, subst, Some, None}
use Rattle.std.proofs.lemmas.Bool.{cases_lt}
use Rattle.wb_basics.specs.declared.limits.TheConstants.{CEILING}
use Rattle.wb_heap_model.specs.declared.heap.Rule.TheVariants.{Unlimited}
use Rattle.wb_heap_model.specs.declared.heap.Shape.{Shape}
use Rattle.wb_runs.specs.declared.lengths.LengthRange.{LengthRange}
use Rattle.wb_meaning.specs.declared.run.Outcome.{Outcome}
use Rattle.wb_meaning.specs.declared.run.Outcome.TheVariants.{Ended, Panicked, NoCleanup, Cut}
use Rattle.wb_meaning.specs.declared.run.Why.TheVariants.{Ceiling}
use Rattle.wb_runs.specs.declared.run_end.RunEnd.{RunEnd}
use Rattle.wb_tree.specs.declared.script.Script.{Script}
use Rattle.wb_runs.specs.Lengths.{end_in, IsTableFrom, IsLengthTable, last_from}
use Rattle.wb_meaning.specs.Run.{run, required, is_bad_outcome}
use Rattle.wb_runs.specs.RunEnds.{end_of, is_bad_end, is_cut_end}
use Rattle.wb_runs.specs.Sweeps.{is_cut_outcome}
use Rattle.wb_runs.proofs.SizeLemmas.{long_enough}

-- how a run ended says whether it is bad, and whether it was cut
pub bad-end : (outcome : Outcome) → is_bad_end (end_of outcome) ≡ is_bad_outcome outcome
bad-end (Ended None []) = refl
bad-end (Ended (Some code) []) = refl
bad-end (Ended left (leak ∷ leaks)) = refl
bad-end (Panicked panic) = refl
bad-end NoCleanup = refl
bad-end (Cut why) = refl

pub cut-end : (outcome : Outcome) → is_cut_end (end_of outcome) ≡ is_cut_outcome outcome
cut-end (Ended None []) = refl
cut-end (Ended (Some code) []) = refl
cut-end (Ended left (leak ∷ leaks)) = refl
cut-end (Panicked panic) = refl
cut-end NoCleanup = refl
cut-end (Cut why) = refl

module _ (end_at : ℕ → RunEnd) (most : ℕ) where
  begins : (from : ℕ) (range : LengthRange) (ranges : List LengthRange) → IsTableFrom end_at most from (range ∷ ranges) → range.from ≡ from
  begins from range [] is = is.0
  begins from range (next ∷ ranges) is = is.0

  -- the lengths of a table go up to the greatest
  pub from_within : (from : ℕ) (table : List LengthRange) → IsTableFrom end_at most from table → from ≤ most
  from_within from [] is = absurd is
  from_within from (range ∷ []) is = is.1
  from_within from (range ∷ next ∷ ranges) is = let rest = from_within next.from (next ∷ ranges) is.4 in omega (arith, is.1, rest)

  -- what the first range says of its first length
  first_end : (from : ℕ) (range : LengthRange) (ranges : List LengthRange) → IsTableFrom end_at most from (range ∷ ranges) → end_at from ≡ range.end
  first_end from range [] is = is.2 from (omega arith) is.1
  first_end from range (next ∷ ranges) is = is.3 from (omega arith) is.1

  same_range : (from : ℕ) (range other : LengthRange) (ranges others : List LengthRange) → IsTableFrom end_at most from (range ∷ ranges) →
      IsTableFrom end_at most from (other ∷ others) → range ≡ other
  same_range from range other ranges others is too =
      let start = begins from range ranges is ∙ sym (begins from other others too) in
      let end = sym (first_end from range ranges is) ∙ first_end from other others too in
      let with_start : ℕ → LengthRange = λ f. record { from = f; end = range.end } in
      let with_end : RunEnd → LengthRange = λ e. record { from = other.from; end = e } in
      ap with_start start ∙ ap with_end end

  pub one-table : (from : ℕ) (table other : List LengthRange) → IsTableFrom end_at most from table → IsTableFrom end_at most from other → table ≡ other
  one-table from [] other is too = absurd is
  one-table from (range ∷ ranges) [] is too = absurd too
  one-table from (range ∷ []) (other ∷ []) is too = ap (λ r. r ∷ []) (same_range from range other [] [] is too)
  one-table from (range ∷ []) (other ∷ next ∷ others) is too =
      let same = same_range from range other [] (next ∷ others) is too in
      let within = from_within next.from (next ∷ others) too.4 in
      let there = is.2 next.from (omega (arith, too.1)) within in
      absurd (too.2 (sym (first_end next.from next others too.4) ∙ there ∙ ap (λ (r : LengthRange). r.end) same))
  one-table from (range ∷ next ∷ ranges) (other ∷ []) is too =
      let same = same_range from range other (next ∷ ranges) [] is too in
      let within = from_within next.from (next ∷ ranges) is.4 in
      let there = too.2 next.from (omega (arith, is.1)) within in
      absurd (is.2 (sym (first_end next.from next ranges is.4) ∙ there ∙ sym (ap (λ (r : LengthRange). r.end) same)))
  one-table from (range ∷ next ∷ ranges) (other ∷ another ∷ others) is too =
      let same = same_range from range other (next ∷ ranges) (another ∷ others) is too in
      by same (one-table next.from (next ∷ ranges) (another ∷ others) is.4) (cases_lt next.from another.from) (cases_lt another.from next.from)
    where
      by : range ≡ other → (IsTableFrom end_at most next.from (another ∷ others) → next ∷ ranges ≡ another ∷ others) →
          (next.from < another.from) ⊎ (another.from ≤ next.from) → (another.from < next.from) ⊎ (next.from ≤ another.from) →
          range ∷ next ∷ ranges ≡ other ∷ another ∷ others
      by same rest (inl lt) second =
          let there = too.3 next.from (omega (arith, is.1)) lt in
          absurd (is.2 (sym (first_end next.from next ranges is.4) ∙ there ∙ sym (ap (λ (r : LengthRange). r.end) same)))
      by same rest (inr le) (inl lt) =
          let there = is.3 another.from (omega (arith, too.1)) lt in
          absurd (too.2 (sym (first_end another.from another others too.4) ∙ there ∙ ap (λ (r : LengthRange). r.end) same))
      by same rest (inr le) (inr ge) =
          let start : another.from ≡ next.from = omega (arith, le, ge) in
          ap (λ r. r ∷ next ∷ ranges) same ∙ ap (λ rs. other ∷ rs) (rest (subst (λ f. IsTableFrom end_at most f (another ∷ others)) start too.4))

  -- from a length on at which nothing changes any more there is no further range
  pub no-later-range : (from bound : ℕ) (range : LengthRange) (ranges : List LengthRange) → IsTableFrom end_at most from (range ∷ ranges) → from ≤ bound →
      ((length : ℕ) → bound ≤ length → length ≤ most → end_at length ≡ end_at bound) → last_from from ranges ≤ bound
  no-later-range from bound range [] is le still = le
  no-later-range from bound range (next ∷ ranges) is le still =
      by (λ earlier. no-later-range next.from bound next ranges is.4 earlier still) (cases_lt bound next.from)
    where
      by : (next.from ≤ bound → last_from next.from ranges ≤ bound) → (bound < next.from) ⊎ (next.from ≤ bound) → last_from from (next ∷ ranges) ≤ bound
      by rest (inr earlier) = rest earlier
      by rest (inl later) =
          let within = from_within next.from (next ∷ ranges) is.4 in
          absurd (is.2 (sym (first_end next.from next ranges is.4) ∙ still next.from (omega (arith, later)) within ∙ is.3 bound le later))

-- from the required length on a run ends as it does without a limit
pub last-range : (script : Script) (budget : ℕ) (shape : Shape) (table : List LengthRange) → (run script Unlimited budget shape).outcome ≢ Cut Ceiling →
    IsLengthTable script budget shape table → last_from 0 table ≤ required script budget shape
last-range script budget shape [] uncut is = absurd is
last-range script budget shape (range ∷ ranges) uncut is =
    let start = begins (end_in script budget shape) CEILING 0 range ranges is in
    let bound = required script budget shape in
    let same : (length : ℕ) → bound ≤ length → end_in script budget shape length ≡ end_of (run script Unlimited budget shape).outcome =
    λ length le. ap end_of (long_enough script budget shape length uncut le).outcome in
    subst (λ f. last_from f ranges ≤ bound) (sym start)
    (no-later-range (end_in script budget shape) CEILING 0 bound range ranges is (omega arith)
    (λ length le most. same length le ∙ sym (same bound (omega arith))))
