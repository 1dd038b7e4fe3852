-- What a script does in a heap of every length: a table of how its runs end, and the least length whose run leaks or panics.
use Rattle.std.specs.Prelude.{◌≡◌, ◌≢◌, ℕ, ◌<◌, ◌≤◌, List, [], ◌∷◌, true, false}
use Rattle.wb_heap_model.specs.declared.heap.Rule.TheVariants.{Limit}
use Rattle.wb_heap_model.specs.declared.heap.Shape.{Shape}
use Rattle.wb_runs.specs.declared.lengths.LengthRange.{LengthRange}
use Rattle.wb_basics.specs.declared.limits.TheConstants.{CEILING}
use Rattle.wb_meaning.specs.declared.run.RunResult.{RunResult}
use Rattle.wb_runs.specs.declared.run_end.RunEnd.{RunEnd}
use Rattle.wb_tree.specs.declared.script.Script.{Script}
use Rattle.wb_meaning.specs.Run.{run, is_bad}
use Rattle.wb_runs.specs.RunEnds.{end_of}

-- the run of a script in a heap of a length
abbrev pub run_in : Script → ℕ → Shape → ℕ → RunResult
run_in script budget shape length = run script (Limit length) budget shape

-- and how it ends
abbrev pub end_in : Script → ℕ → Shape → ℕ → RunEnd
end_in script budget shape length = end_of (run_in script budget shape length).outcome

-- A table whose first range begins at a length. Each range says how the runs end in heaps of its lengths, which are those up to the
-- next range, of the last one those up to the greatest; and the next range begins further on and says otherwise.
abbrev pub IsTableFrom : (ℕ → RunEnd) → ℕ → ℕ → List LengthRange → Type 0
IsTableFrom end_at most from [] = ⊥
IsTableFrom end_at most from (range ∷ []) =
    (range.from ≡ from) × (from ≤ most) × ((length : ℕ) → from ≤ length → length ≤ most → end_at length ≡ range.end)
IsTableFrom end_at most from (range ∷ next ∷ ranges) =
    (range.from ≡ from) × (from < next.from) × (next.end ≢ range.end)
    × ((length : ℕ) → from ≤ length → length < next.from → end_at length ≡ range.end)
    × IsTableFrom end_at most next.from (next ∷ ranges)

-- the table of how the runs of a script end in heaps of all lengths from 0 to the ceiling
abbrev pub IsLengthTable : Script → ℕ → Shape → List LengthRange → Type 0
IsLengthTable script budget shape table = IsTableFrom (end_in script budget shape) CEILING 0 table

-- The least length, of all from 0 to the ceiling, whose run leaks or panics, and that run. Runs that are cut aren't looked at.
pub record IsLeastBadLength (script : Script) (budget : ℕ) (shape : Shape) (length : ℕ) (result : RunResult) : Type 0 where
  pub within : length ≤ CEILING
  pub bad : is_bad (run_in script budget shape length) ≡ true
  pub least : (shorter : ℕ) → shorter < length → is_bad (run_in script budget shape shorter) ≡ false
  pub run_is : result ≡ run_in script budget shape length

-- no length's run leaks or panics
abbrev pub IsNoBadLength : Script → ℕ → Shape → Type 0
IsNoBadLength script budget shape =
    (length : ℕ) → length ≤ CEILING → is_bad (run_in script budget shape length) ≡ false

-- where the last range begins; without one, a length
abbrev pub last_from : ℕ → List LengthRange → ℕ
last_from from [] = from
last_from from (range ∷ ranges) = last_from range.from ranges
