-- What is told of each number of a part, up to the last attempt of the run without failure.
use Rattle.std.specs.Prelude.{◌≡◌, ℕ, ◌+◌, ◌-◌, ◌<◌, ◌≤◌, List, [], ◌∷◌, true, false, not, if◌then◌else◌, Option, Some, None, length, map, min}
use Rattle.std.specs.List.{filter, range_with_len}
use Rattle.wb_runs.specs.declared.number_ends.NumberEnd.{NumberEnd}
use Rattle.wb_runs.specs.declared.part.Part.{Part}
use Rattle.wb_meaning.specs.declared.run.RunResult.{RunResult}
use Rattle.wb_runs.specs.Parts.{IsNumberOf}
use Rattle.wb_meaning.specs.Run.{is_bad}
use Rattle.wb_runs.specs.RunEnds.{end_of, is_bad_end}
use Rattle.wb_runs.specs.Sweeps.{is_fine}

-- how the run of a number ended
abbrev pub number_end : (ℕ → RunResult) → ℕ → NumberEnd
number_end runs number = record { number = number; end = end_of (runs number).outcome }

-- of so many numbers from one on those whose run is bad or cut, each with its run's end
abbrev pub unfine_numbers : (ℕ → RunResult) → ℕ → ℕ → List NumberEnd
unfine_numbers runs from count = map (number_end runs) (filter (λ number. not (is_fine (runs number))) (range_with_len from count))

-- how many numbers a part has up to a last one
abbrev pub count_in : Part → ℕ → ℕ
count_in part last = min part.to last + 1 - part.from

-- those of a part whose run is bad or cut, up to the last attempt of the run without failure
abbrev pub unfine_in : (ℕ → RunResult) → Part → List NumberEnd
unfine_in runs part = unfine_numbers runs part.from (count_in part (length (runs 0).trace))

-- how many of them leak or panic
abbrev pub bad_count : List NumberEnd → ℕ
bad_count ends = length (filter (λ told. is_bad_end told.end) ends)

-- the first of them that does
abbrev pub first_bad : List NumberEnd → Option ℕ
first_bad [] = None
first_bad (told ∷ ends) = if is_bad_end told.end then Some told.number else first_bad ends

-- the least number of a part whose run leaks or panics, and that run; those that are cut aren't looked at
pub record IsLeastBadOf (runs : ℕ → RunResult) (part : Part) (number : ℕ) (result : RunResult) : Type 0 where
  pub tried : IsNumberOf part (length (runs 0).trace) number
  pub bad : is_bad (runs number) ≡ true
  pub least : (lesser : ℕ) → part.from ≤ lesser → lesser < number → is_bad (runs lesser) ≡ false
  pub run_is : result ≡ runs number

-- no number's run leaks or panics
abbrev pub IsNoBadOf : (ℕ → RunResult) → Part → Type 0
IsNoBadOf runs part = (number : ℕ) → IsNumberOf part (length (runs 0).trace) number → is_bad (runs number) ≡ false
