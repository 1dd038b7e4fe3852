-- What `sweep --from I --to J` says, as lines and as values, and what that means of runs. What is printed is as of a sweep over all
-- numbers; what is found is the least of those that are tried (`wb_runs`, `specs/Parts.antt`).
use Rattle.std.specs.Prelude.{◌≡◌, ◌⊎◌, ℕ, ◌&&◌, Bool, true, false, List, ◌++◌, nat_eq}
use Rattle.wb_runs.specs.declared.failures.Failing.{Failing}
use Rattle.wb_runs.specs.declared.failures.Failures.{Failures}
use Rattle.wb_heap_model.specs.declared.heap.Shape.{Shape}
use Rattle.wb_basics.specs.declared.limits.TheConstants.{CEILING}
use Rattle.wb_runs.specs.declared.part.Part.{Part}
use Rattle.wb_meaning.specs.declared.run.RunResult.{RunResult}
use Rattle.wb_meaning.specs.declared.run.Why.{Why}
use Rattle.wb_tree.specs.declared.script.Script.{Script}
use Rattle.wb_runs.specs.Parts.{IsCutIn, IsFoundIn, IsNoneIn}
use Rattle.workbench.specs.declared.report_values.FailingNumber.TheVariants.{At, Never}
use Rattle.workbench.specs.declared.report_values.ReportValues.{ReportValues}
use Rattle.workbench.specs.ReportValues.{cut_values, sweep_values}
use Rattle.workbench.specs.TwoNumbers.{IsSweepReport, attempts_line, attempts_of, cut_at_line, found_text, none_line}

-- a failure of those that are tried is printed, and the run under it. It is the least of them whose run leaks or panics; no lesser
-- one's run is cut (`IsFoundIn`).
pub record IsFailingIn (failures : Failures) (part : Part) (script : Script) (budget : ℕ) (shape : Shape)
    (text : List ℕ) (values : ReportValues) : Type 0 where
  pub at : Failing
  pub result : RunResult
  pub found : IsFoundIn failures part script budget shape at result
  pub text_is : text ≡ attempts_line (attempts_of failures script budget shape) ++ found_text at result
  pub values_are : values ≡ sweep_values (attempts_of failures script budget shape) (At at)

-- the run leaks or panics under no failure that is tried, and is cut under none of them
pub record IsNeverFailingIn (failures : Failures) (part : Part) (script : Script) (budget : ℕ) (shape : Shape)
    (text : List ℕ) (values : ReportValues) : Type 0 where
  pub none : IsNoneIn failures part script budget shape
  pub text_is : text ≡ attempts_line (attempts_of failures script budget shape) ++ none_line failures
  pub values_are : values ≡ sweep_values (attempts_of failures script budget shape) Never

-- there is no answer: the run without failure is cut; or that under a failure which is tried, and no lesser one's leaks, panics or is
-- cut (`IsCutIn`)
pub record IsUnsweptIn (failures : Failures) (part : Part) (script : Script) (budget : ℕ) (shape : Shape)
    (text : List ℕ) (values : ReportValues) : Type 0 where
  pub at : Failing
  pub why : Why
  pub cut : IsCutIn failures part script budget shape at why
  pub text_is : text ≡ cut_at_line at why
  pub values_are : values ≡ cut_values at

-- the report of a sweep over a part
abbrev pub IsPartReport : Failures → Part → Script → ℕ → Shape → List ℕ → ReportValues → ℕ → Type 0
IsPartReport failures part script budget shape text values status =
    (IsFailingIn failures part script budget shape text values × (status ≡ 1))
    ⊎ ((IsNeverFailingIn failures part script budget shape text values × (status ≡ 0))
    ⊎ (IsUnsweptIn failures part script budget shape text values × (status ≡ 3)))

-- the part has all numbers that a command may name
abbrev pub is_whole : Part → Bool
is_whole part = nat_eq part.from 0 && nat_eq part.to CEILING

-- the report of a sweep: of all failures, or of a part of them. A part that is the whole is answered as if none were named; that both
-- come to the same is a law of `wb_runs`
abbrev pub IsReportOver : Bool → Failures → Part → Script → ℕ → Shape → List ℕ → ReportValues → ℕ → Type 0
IsReportOver true failures part script budget shape text values status = IsSweepReport failures script budget shape text values status
IsReportOver false failures part script budget shape text values status = IsPartReport failures part script budget shape text values status
