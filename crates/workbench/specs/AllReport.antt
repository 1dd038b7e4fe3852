-- What `--all` and `--ends` say, as lines and as values, and what that means of runs: the numbers of a part up to the last attempt of the
-- run without failure, each with its run's end; with `--all` those whose run leaks, panics or is cut, with `--ends` every one.
use Rattle.std.specs.Prelude.{◌≡◌, ◌⊎◌, ℕ, ◌<◌, List, ◌++◌, codes, if◌then◌else◌}
use Rattle.std.specs.Fmt.{decimal}
use Rattle.std.specs.List.{flat_map, list_any}
use Rattle.std.specs.Option.{option_map_or}
use Rattle.wb_runs.specs.declared.failures.Failures.{Failures}
use Rattle.wb_runs.specs.declared.failures.Failures.TheVariants.{Single, Every, Pairs, Persistent}
use Rattle.wb_heap_model.specs.declared.heap.Shape.{Shape}
use Rattle.wb_runs.specs.declared.number_ends.NumberEnd.{NumberEnd}
use Rattle.wb_runs.specs.declared.part.Part.{Part}
use Rattle.wb_meaning.specs.declared.run.Outcome.TheVariants.{Cut}
use Rattle.wb_meaning.specs.declared.run.RunResult.{RunResult}
use Rattle.wb_meaning.specs.declared.run.Why.{Why}
use Rattle.wb_tree.specs.declared.script.Script.{Script}
use Rattle.wb_runs.specs.AllNumbers.{IsLeastBadOf, IsNoBadOf, bad_count}
use Rattle.wb_runs.specs.Parts.{IsUncut}
use Rattle.wb_runs.specs.RunEnds.{is_cut_end}
use Rattle.wb_runs.specs.Sweeps.{failing_at, runs_of}
use Rattle.wb_sweep.specs.AllOfAPart.{listed_in}
use Rattle.wb_sweep.specs.declared.found.AllNumbers.{AllNumbers}
use Rattle.wb_sweep.specs.declared.found.Listing.{Listing}
use Rattle.workbench.specs.declared.report_values.FailingNumber.TheVariants.{At, Never}
use Rattle.workbench.specs.declared.report_values.ReportValues.{ReportValues}
use Rattle.workbench.specs.ReportValues.{all_values, cut_values}
use Rattle.workbench.specs.EndWords.{end_words}
use Rattle.workbench.specs.RunText.{line, run_text}
use Rattle.workbench.specs.TwoNumbers.{attempts_line, attempts_of, cut_at_line}

-- ---- the lines

-- what the number is: of an attempt, alone or as the first of all that fail, or a rate. Pairs are not told of so; with them single
-- attempts are
abbrev pub number_word : Failures → List ℕ
number_word Single = codes "number "
number_word Every = codes "every "
number_word Pairs = codes "number "
number_word Persistent = codes "persistent "

-- the run under this failure ends so
unfoldable pub told_line : Failures → NumberEnd → List ℕ
told_line failures told = line (number_word failures ++ decimal told.number ++ codes " " ++ end_words told.end)

abbrev pub told_lines : Failures → List NumberEnd → List ℕ
told_lines failures ends = flat_map (told_line failures) ends

-- how many of them leak or panic
abbrev pub bad_line : ℕ → List ℕ
bad_line bad = line (codes "bad " ++ decimal bad)

-- all that is said before the run
abbrev pub all_lines : Failures → ℕ → List NumberEnd → ℕ → List ℕ
all_lines failures attempts ends bad = attempts_line attempts ++ told_lines failures ends ++ bad_line bad

abbrev pub all_text : Failures → ℕ → List NumberEnd → List ℕ
all_text failures attempts ends = all_lines failures attempts ends (bad_count ends)

-- the status where no run leaks or panics: 3 where one is told of that is cut
abbrev pub fine_status : List NumberEnd → ℕ
fine_status ends = if list_any (λ told. is_cut_end told.end) ends then 3 else 0

-- what a sweep tells, as it is printed; its values and the status
abbrev pub told_text : Failures → AllNumbers → List ℕ
told_text failures all =
    option_map_or (λ bad. all_lines failures all.attempts all.ends all.bad ++ run_text bad.result) all.found
    (all_lines failures all.attempts all.ends all.bad)

abbrev pub told_values : AllNumbers → ReportValues
told_values all = all_values all.attempts all.ends (option_map_or (λ bad. At bad.at) all.found Never)

abbrev pub told_status : AllNumbers → ℕ
told_status all = option_map_or (λ bad. 1) all.found (fine_status all.ends)

-- ---- what they mean

-- how the run ends under each failure of the part that is told of
abbrev pub told_of : Listing → Failures → Part → Script → ℕ → Shape → List NumberEnd
told_of listing failures part script budget shape = listed_in listing (runs_of failures script budget shape) part

-- each number past the last attempt gives the run without failure, so that none is left out
abbrev pub AreLaterAsNone : Failures → Script → ℕ → Shape → Type 0
AreLaterAsNone failures script budget shape =
    (n : ℕ) → attempts_of failures script budget shape < n → runs_of failures script budget shape n ≡ runs_of failures script budget shape 0

-- Exactly the numbers of the part up to the last attempt are told of that are listed. Some run leaks or panics, and that of the least
-- such number is printed.
pub record IsToldWithBad (listing : Listing) (failures : Failures) (part : Part) (script : Script) (budget : ℕ) (shape : Shape)
    (text : List ℕ) (values : ReportValues) : Type 0 where
  pub uncut : IsUncut failures script budget shape
  pub later : AreLaterAsNone failures script budget shape
  pub number : ℕ
  pub result : RunResult
  pub least : IsLeastBadOf (runs_of failures script budget shape) part number result
  pub text_is :
      text ≡ all_text failures (attempts_of failures script budget shape) (told_of listing failures part script budget shape) ++ run_text result
  pub values_are :
      values ≡ all_values (attempts_of failures script budget shape) (told_of listing failures part script budget shape) (At (failing_at failures number))

-- the same numbers are told of, and no run leaks or panics
pub record IsToldWithoutBad (listing : Listing) (failures : Failures) (part : Part) (script : Script) (budget : ℕ) (shape : Shape)
    (text : List ℕ) (values : ReportValues) (status : ℕ) : Type 0 where
  pub uncut : IsUncut failures script budget shape
  pub later : AreLaterAsNone failures script budget shape
  pub none : IsNoBadOf (runs_of failures script budget shape) part
  pub text_is : text ≡ all_text failures (attempts_of failures script budget shape) (told_of listing failures part script budget shape)
  pub values_are : values ≡ all_values (attempts_of failures script budget shape) (told_of listing failures part script budget shape) Never
  pub status_is : status ≡ fine_status (told_of listing failures part script budget shape)

-- nothing is told of: the run without failure is cut
pub record IsUntold (failures : Failures) (script : Script) (budget : ℕ) (shape : Shape) (text : List ℕ) (values : ReportValues) : Type 0 where
  pub why : Why
  pub cut : (runs_of failures script budget shape 0).outcome ≡ Cut why
  pub text_is : text ≡ cut_at_line (failing_at failures 0) why
  pub values_are : values ≡ cut_values (failing_at failures 0)

-- the report of `sweep --all`, and of `sweep --ends`
abbrev pub IsListReport : Listing → Failures → Part → Script → ℕ → Shape → List ℕ → ReportValues → ℕ → Type 0
IsListReport listing failures part script budget shape text values status =
    (IsToldWithBad listing failures part script budget shape text values × (status ≡ 1))
    ⊎ (IsToldWithoutBad listing failures part script budget shape text values status
    ⊎ (IsUntold failures script budget shape text values × (status ≡ 3)))
