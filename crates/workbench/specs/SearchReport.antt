-- Which report `sweep` and `check` have, by what they search for.
use Rattle.std.specs.Prelude.{◌≡◌, ◌⊎◌, ℕ, List, ◌++◌, Result, Ok, Err}
use Rattle.wb_heap_model.specs.declared.heap.Shape.{Shape}
use Rattle.wb_runs.specs.declared.part.Part.{Part}
use Rattle.wb_tree.specs.declared.script.Script.{Script}
use Rattle.wb_command_line.specs.Spelled.{whole}
use Rattle.wb_command_line.specs.declared.command.Search.{Search}
use Rattle.wb_command_line.specs.declared.command.Search.TheVariants.{Least, All, Ends, Sets, EverySet}
use Rattle.wb_runs.specs.declared.failures.Failures.TheVariants.{Single}
use Rattle.wb_sweep.specs.declared.fault.Unswept.{Unswept}
use Rattle.wb_sweep.specs.declared.fault.Unswept.TheVariants.{Cut, ManyStates}
use Rattle.wb_sweep.specs.declared.found.Sweep.{Sweep}
use Rattle.wb_sweep.specs.declared.found.Listing.TheVariants.{Unfine, Every}
use Rattle.workbench.specs.declared.report_values.ReportValues.{ReportValues}
use Rattle.workbench.specs.AllReport.{IsListReport}
use Rattle.workbench.specs.EverySetReport.{IsEverySetReport, many_states_text, no_set_at_all_line}
use Rattle.workbench.specs.PartReport.{IsReportOver, is_whole}
use Rattle.workbench.specs.ReportValues.{both_values, cut_values, many_states_values}
use Rattle.workbench.specs.SetsReport.{IsSetsReport, no_set_line}
use Rattle.workbench.specs.TwoNumbers.{IsSized, IsUnsized, attempts_of, cut_at_line, none_line, sweep_text, swept_status, swept_values}

-- the line of a sweep that finds nothing
abbrev pub nothing_line : Search → List ℕ
nothing_line (Least failures) = none_line failures
nothing_line (All failures) = none_line failures
nothing_line (Ends failures) = none_line failures
nothing_line (Sets most) = no_set_line most
nothing_line (EverySet states) = no_set_at_all_line

-- the report says what the sweep of a search returned: what it found, where it was cut, or that it met too many states
abbrev pub IsReportOfSwept : Search → Script → ℕ → Shape → Result Sweep Unswept → List ℕ → ReportValues → ℕ → Type 0
IsReportOfSwept search script budget shape (Ok sweep) text values status =
    (text ≡ sweep_text (nothing_line search) sweep) × (values ≡ swept_values sweep) × (status ≡ swept_status sweep)
IsReportOfSwept search script budget shape (Err (Cut at why)) text values status =
    (text ≡ cut_at_line at why) × (values ≡ cut_values at) × (status ≡ 3)
IsReportOfSwept search script budget shape (Err (ManyStates fine)) text values status =
    (text ≡ many_states_text (attempts_of Single script budget shape) fine) × (values ≡ many_states_values fine) × (status ≡ 3)
IsReportOfSwept search script budget shape (Err _) text values status = ⊥

-- what a search among the failures of a part comes to
abbrev pub IsSearchReport : Search → Part → Script → ℕ → Shape → List ℕ → ReportValues → ℕ → Type 0
IsSearchReport (Least failures) part script budget shape text values status =
    IsReportOver (is_whole part) failures part script budget shape text values status
IsSearchReport (All failures) part script budget shape text values status =
    IsListReport Unfine failures part script budget shape text values status
IsSearchReport (Ends failures) part script budget shape text values status =
    IsListReport Every failures part script budget shape text values status
IsSearchReport (Sets most) part script budget shape text values status =
    IsSetsReport part most script budget shape text values status
IsSearchReport (EverySet states) part script budget shape text values status =
    IsEverySetReport part states script budget shape text values status

-- the length, and then what the search among all failures comes to
pub record IsSizedAndSearched (search : Search) (script : Script) (budget : ℕ) (shape : Shape)
    (text : List ℕ) (values : ReportValues) (status : ℕ) : Type 0 where
  pub first : List ℕ
  pub second : List ℕ
  pub size : ReportValues
  pub sweep : ReportValues
  pub sized : IsSized script budget shape first size
  pub searched : IsSearchReport search whole script budget shape second sweep status
  pub text_is : text ≡ first ++ second
  pub values_are : values ≡ both_values size sweep

-- the report of `check`; where there is no length, the search isn't made
abbrev pub IsCheckReport : Search → Script → ℕ → Shape → List ℕ → ReportValues → ℕ → Type 0
IsCheckReport search script budget shape text values status =
    IsSizedAndSearched search script budget shape text values status
    ⊎ (IsUnsized script budget shape text values × (status ≡ 3))
