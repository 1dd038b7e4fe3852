-- What a report says as values, beside its lines: of a run, of a size, of a sweep, of the search through all lengths.
use Rattle.std.specs.Prelude.{ℕ, List, Option, Some, None, length}
use Rattle.wb_runs.specs.declared.failures.Failing.{Failing}
use Rattle.wb_runs.specs.declared.lengths.LengthRange.{LengthRange}
use Rattle.wb_runs.specs.declared.number_ends.NumberEnd.{NumberEnd}
use Rattle.wb_meaning.specs.declared.run.RunResult.{RunResult}
use Rattle.wb_heap_model.specs.declared.size.Rise.{Rise}
use Rattle.workbench.specs.declared.report_values.FailingNumber.{FailingNumber}
use Rattle.workbench.specs.declared.report_values.FailingNumber.TheVariants.{At, Length, Never}
use Rattle.workbench.specs.declared.report_values.ReportValues.{ReportValues}

-- of a refused script
abbrev pub no_values : ReportValues
no_values = record { attempts = None; number = None; required = None; rises = None; ranges = None; all = None; named = None; fine = None }

-- of a run that was cut under this failure
abbrev pub cut_values : Failing → ReportValues
cut_values at = record no_values { named = Some at }

-- of a search that met more states than it may, where no set of at most so many attempts showed anything
abbrev pub many_states_values : ℕ → ReportValues
many_states_values fine = record no_values { fine = Some fine }

-- of one run, a cut one too: the length of its trace
abbrev pub run_values : RunResult → ReportValues
run_values r = record no_values { attempts = Some (length r.trace) }

abbrev pub size_values : ℕ → List Rise → ReportValues
size_values required rises = record no_values { required = Some required; rises = Some rises }

-- the failure that was found; a length of heap is none
abbrev pub found_failing : FailingNumber → Option Failing
found_failing Never = None
found_failing (Length _) = None
found_failing (At failing) = Some failing

-- of a sweep that was finished: the attempts of the run without failure, and the failure that was found,
-- or that there is none
abbrev pub sweep_values : ℕ → FailingNumber → ReportValues
sweep_values attempts number =
    record no_values { attempts = Some attempts; number = Some number; named = found_failing number }

-- of a sweep that told of all that it found
abbrev pub all_values : ℕ → List NumberEnd → FailingNumber → ReportValues
all_values attempts ends number = record (sweep_values attempts number) { all = Some ends }

-- of a size, and of the sweep after it
abbrev pub both_values : ReportValues → ReportValues → ReportValues
both_values first second = record {
  attempts = second.attempts;
  number = second.number;
  required = first.required;
  rises = first.rises;
  ranges = None;
  all = second.all;
  named = second.named;
  fine = second.fine;
}

-- of the search through all lengths: its table, and what it found
abbrev pub lengths_values : List LengthRange → FailingNumber → ReportValues
lengths_values table number = record no_values { number = Some number; ranges = Some table }
