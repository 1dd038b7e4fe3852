-- What a sweep tells that looks at each number of a part: of those whose run leaks, panics or is cut, or of every one.
use Rattle.std.specs.Prelude.{◌≡◌, ℕ, ◌<◌, List, [], ◌∷◌, Bool, true, if◌then◌else◌, not, Option, Some, None, IfSome, ◌||◌, length, map}
use Rattle.std.specs.List.{filter, range_with_len}
use Rattle.wb_runs.specs.declared.failures.Failures.{Failures}
use Rattle.wb_heap_model.specs.declared.heap.Shape.{Shape}
use Rattle.wb_runs.specs.declared.number_ends.NumberEnd.{NumberEnd}
use Rattle.wb_runs.specs.declared.part.Part.{Part}
use Rattle.wb_meaning.specs.declared.run.RunResult.{RunResult}
use Rattle.wb_tree.specs.declared.script.Script.{Script}
use Rattle.wb_runs.specs.AllNumbers.{bad_count, count_in, first_bad, number_end, IsLeastBadOf, IsNoBadOf}
use Rattle.wb_runs.specs.Parts.{last_attempt, IsUncut}
use Rattle.wb_runs.specs.declared.run_end.RunEnd.{RunEnd}
use Rattle.wb_runs.specs.RunEnds.{end_of, is_bad_end, is_cut_end}
use Rattle.wb_runs.specs.Sweeps.{failing_at, is_fine, runs_of}
use Rattle.wb_sweep.specs.declared.found.AllNumbers.{AllNumbers}
use Rattle.wb_sweep.specs.declared.found.Found.{Found}
use Rattle.wb_sweep.specs.declared.found.Listing.{Listing}
use Rattle.wb_sweep.specs.declared.found.Listing.TheVariants.{Unfine, Every}

-- a number is listed whose run came to this
abbrev pub is_listed : Listing → RunResult → Bool
is_listed Unfine told = not (is_fine told)
is_listed Every told = true

-- of so many numbers from one on those that are listed, each with its run's end
abbrev pub listed_numbers : Listing → (ℕ → RunResult) → ℕ → ℕ → List NumberEnd
listed_numbers listing runs from count = map (number_end runs) (filter (λ number. is_listed listing (runs number)) (range_with_len from count))

-- those of a part, up to the last attempt of the run without failure
abbrev pub listed_in : Listing → (ℕ → RunResult) → Part → List NumberEnd
listed_in listing runs part = listed_numbers listing runs part.from (count_in part (length (runs 0).trace))

-- what is told of a number by its run
abbrev pub line_of : Listing → ℕ → RunResult → List NumberEnd
line_of listing number told = if is_listed listing told then record { number = number; end = end_of told.outcome } ∷ [] else []

-- a number is listed whose run ends so
abbrev pub is_listed_end : Listing → RunEnd → Bool
is_listed_end Unfine end = is_bad_end end || is_cut_end end
is_listed_end Every end = true

-- what is told of it by its run's end
abbrev pub line_if_told : Listing → ℕ → RunEnd → List NumberEnd
line_if_told listing number end = if is_listed_end listing end then record { number = number; end = end } ∷ [] else []

-- what is found is the first number that is told as bad, with its run
abbrev pub IsFoundAsFirst : Failures → Script → ℕ → Shape → List NumberEnd → Option Found → Type 0
IsFoundAsFirst failures script budget shape ends None = first_bad ends ≡ None
IsFoundAsFirst failures script budget shape ends (Some found) =
    (n : ℕ) × (first_bad ends ≡ Some n) × (found.at ≡ failing_at failures n) × (found.result ≡ runs_of failures script budget shape n)

-- The numbers of the part that are listed, up to the last attempt, each with its run's end; how many leak or panic, and of the least
-- of these its run. The run without failure isn't cut, and each number past the last attempt gives it.
pub record AreAllNumbers (listing : Listing) (failures : Failures) (part : Part) (script : Script) (budget : ℕ) (shape : Shape) (all : AllNumbers) : Type 0 where
  pub uncut : IsUncut failures script budget shape
  pub attempts : all.attempts ≡ last_attempt failures script budget shape
  pub ends : all.ends ≡ listed_in listing (runs_of failures script budget shape) part
  pub bad : all.bad ≡ bad_count all.ends
  pub found : IfSome all.found (λ found. (n : ℕ) × (found.at ≡ failing_at failures n)
      × IsLeastBadOf (runs_of failures script budget shape) part n found.result)
  pub none : all.found ≡ None → IsNoBadOf (runs_of failures script budget shape) part
  pub later : (n : ℕ) → last_attempt failures script budget shape < n → runs_of failures script budget shape n ≡ runs_of failures script budget shape 0
