-- What is found of a script's runs in heaps of all lengths.
use Rattle.std.specs.Prelude.{◌≡◌, ℕ, ◌≤◌, List, [], ◌∷◌, Bool, true, false, if◌then◌else◌, Option, Some, None, IfSome}
use Rattle.wb_heap_model.specs.declared.heap.Shape.{Shape}
use Rattle.wb_runs.specs.declared.lengths.LengthRange.{LengthRange}
use Rattle.wb_basics.specs.declared.limits.TheConstants.{CEILING}
use Rattle.wb_tree.specs.declared.script.Script.{Script}
use Rattle.wb_runs.specs.Lengths.{run_in, IsLeastBadLength, IsLengthTable, IsNoBadLength}
use Rattle.wb_runs.specs.RunEnds.{is_bad_end, is_cut_end}
use Rattle.wb_runs.specs.Sweeps.{is_cut_outcome}
use Rattle.wb_lengths.specs.declared.all_lengths.LengthFindings.{LengthFindings}

-- the run in a heap of some length up to the ceiling is cut
abbrev pub IsCutSomewhere : Script → ℕ → Shape → Type 0
IsCutSomewhere script budget shape =
    (length : ℕ) × (length ≤ CEILING) × (is_cut_outcome (run_in script budget shape length).outcome ≡ true)

-- none is
abbrev pub IsCutNowhere : Script → ℕ → Shape → Type 0
IsCutNowhere script budget shape =
    (length : ℕ) → length ≤ CEILING → is_cut_outcome (run_in script budget shape length).outcome ≡ false

-- The table is the right one, and the length is the least whose run leaks or panics, or there is none; and whether some length's run
-- is cut is as it is said.
pub record AreLengths (script : Script) (budget : ℕ) (shape : Shape) (found : LengthFindings) : Type 0 where
  pub table : IsLengthTable script budget shape found.table
  pub bad : IfSome found.bad (λ bad. IsLeastBadLength script budget shape bad.length bad.result)
  pub none : found.bad ≡ None → IsNoBadLength script budget shape
  pub cut : found.is_cut ≡ true → IsCutSomewhere script budget shape
  pub uncut : found.is_cut ≡ false → IsCutNowhere script budget shape

-- the runs of a range are cut
abbrev pub has_cut : List LengthRange → Bool
has_cut [] = false
has_cut (range ∷ ranges) = if is_cut_end range.end then true else has_cut ranges

-- where the first range begins whose runs leak or panic
abbrev pub first_bad : List LengthRange → Option ℕ
first_bad [] = None
first_bad (range ∷ ranges) = if is_bad_end range.end then Some range.from else first_bad ranges
