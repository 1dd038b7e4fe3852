-- What a walk down the lengths knows between two runs.
use Rattle.std.specs.Prelude.{◌≡◌, ◌≢◌, ◌⊎◌, ℕ, ◌+◌, ◌-◌, ◌≤◌, List, [], ◌∷◌, Option, Some, None, slice_get}
use Rattle.wb_heap_model.specs.declared.heap.Answer.TheVariants.{Granted}
use Rattle.wb_heap_model.specs.declared.heap.Attempt.{Attempt}
use Rattle.wb_heap_model.specs.declared.heap.Shape.{Shape}
use Rattle.wb_runs.specs.declared.lengths.LengthRange.{LengthRange}
use Rattle.wb_basics.specs.declared.limits.TheConstants.{CEILING}
use Rattle.wb_runs.specs.declared.run_end.RunEnd.{RunEnd}
use Rattle.wb_tree.specs.declared.script.Script.{Script}
use Rattle.wb_runs.specs.Lengths.{end_in, IsTableFrom}
use Rattle.wb_heap_model.specs.Reported.{end_of_attempt}

-- no granted cell of a trace ends past a length
abbrev pub GrantsWithin : ℕ → List Attempt → Type 0
GrantsWithin most trace = (k : ℕ) (t : Attempt) → slice_get trace k ≡ Some t → t.answer ≡ Granted → end_of_attempt t ≤ most

abbrev pub range : ℕ → RunEnd → LengthRange
range from end = record { from = from; end = end }

-- a range is put before others: the first of these begins there in its place, where both end alike
abbrev pub IsPutBefore : LengthRange → List LengthRange → List LengthRange → Type 0
IsPutBefore before [] new = new ≡ before ∷ []
IsPutBefore before (first ∷ rest) new =
    ((first.end ≡ before.end) × (new ≡ before ∷ rest)) ⊎ ((first.end ≢ before.end) × (new ≡ before ∷ first ∷ rest))

-- the table is right from a length on; past the ceiling there is nothing to say
abbrev pub IsRightFrom : Script → ℕ → Shape → ℕ → List LengthRange → Type 0
IsRightFrom script budget shape from table =
    ((from ≡ CEILING + 1) × (table ≡ [])) ⊎ IsTableFrom (end_in script budget shape) CEILING from table

-- how many steps are left, where they are bounded, once so many more were taken
abbrev pub steps_after : ℕ → Option ℕ → Option ℕ
steps_after taken None = None
steps_after taken (Some left) = Some (left - taken)
