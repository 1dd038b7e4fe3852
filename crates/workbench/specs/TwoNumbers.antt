-- What `size`, `sweep` and `check` say, as lines and as values, and what that means of runs: how
-- long the heap must be, which attempt each shorter heap refuses first, and the least number of an
-- attempt whose simulated failure leaks or panics, alone or with that of all after it, the least rate of
-- attempts whose failures do, or the least pair of attempts.
use Rattle.std.specs.Prelude.{◌≡◌, ◌≢◌, ◌⊎◌, ℕ, List, [], ◌∷◌, ◌++◌, codes, length}
use Rattle.std.specs.Fmt.{decimal}
use Rattle.std.specs.List.{flat_map}
use Rattle.std.specs.Option.{option_map_or}
use Rattle.wb_runs.specs.declared.failures.Failing.{Failing}
use Rattle.wb_runs.specs.declared.failures.Failing.TheVariants.{Number, Pair}
use Rattle.wb_runs.specs.declared.failures.Failing.TheVariants as failings
use Rattle.wb_runs.specs.declared.failures.Failures.{Failures}
use Rattle.wb_runs.specs.declared.failures.Failures.TheVariants.{Single, Every, Pairs, Persistent}
use Rattle.wb_heap_model.specs.declared.heap.Rule.TheVariants.{Unlimited}
use Rattle.wb_heap_model.specs.declared.heap.Shape.{Shape}
use Rattle.wb_meaning.specs.declared.run.Outcome.TheVariants.{Cut}
use Rattle.wb_meaning.specs.declared.run.RunResult.{RunResult}
use Rattle.wb_meaning.specs.declared.run.Why.{Why}
use Rattle.wb_meaning.specs.declared.run.Why.TheVariants.{Budget, Ceiling}
use Rattle.wb_tree.specs.declared.script.Script.{Script}
use Rattle.wb_heap_model.specs.declared.size.Rise.{Rise}
use Rattle.wb_meaning.specs.Run.{run, rises as rises_of}
use Rattle.wb_runs.specs.Sizes.{IsHeapLength}
use Rattle.wb_runs.specs.SweepAnswers.{IsCutShort, IsFound, IsNoneFound}
use Rattle.wb_runs.specs.Sweeps.{runs_of}
use Rattle.wb_sweep.specs.declared.found.Sweep.{Sweep}
use Rattle.workbench.specs.declared.report_values.FailingNumber.TheVariants.{At, Never}
use Rattle.workbench.specs.declared.report_values.ReportValues.{ReportValues}
use Rattle.workbench.specs.ReportValues.{cut_values, size_values, sweep_values}
use Rattle.workbench.specs.RunText.{line, run_text}

-- ---- how long the heap must be

-- lengths from one on, up to the next line's, are refused this attempt first
abbrev pub refuses_line : ℕ → ℕ → List ℕ
refuses_line from number = line (codes "from " ++ decimal from ++ codes " refuses " ++ decimal number)

-- a table of rises, from a length on: each line begins where the one before ends, at its top
abbrev pub table_text : ℕ → List Rise → List ℕ
table_text from [] = []
table_text from (rise ∷ rises) = refuses_line from rise.number ++ table_text rise.top rises

abbrev pub size_text : ℕ → List Rise → List ℕ
size_text required rises = line (codes "required " ++ decimal required) ++ table_text 0 rises ++ line (codes "enough from " ++ decimal required)

-- a number after a blank
abbrev pub spaced : ℕ → List ℕ
spaced n = codes " " ++ decimal n

abbrev pub numbers_text : List ℕ → List ℕ
numbers_text numbers = flat_map spaced numbers

-- the number of the attempt that fails, or of the first of all that do, the rate at which attempts fail, or the numbers of those that fail
abbrev pub failing_text : Failing → List ℕ
failing_text (Number n) = spaced n
failing_text (failings.Every n) = spaced n
failing_text (failings.From n) = spaced n
failing_text (Pair i j) = spaced i ++ spaced j
failing_text (failings.Set numbers) = numbers_text numbers

-- the end of the line of a cut
abbrev pub why_word : Why → List ℕ
why_word Budget = line (codes " budget")
why_word Ceiling = line (codes " ceiling")

-- the run under this failure was cut
abbrev pub cut_at_line : Failing → Why → List ℕ
cut_at_line at why = codes "cut" ++ failing_text at ++ why_word why

-- The length is reported. It is the least at which the run meets no refusal of the heap, and for each smaller one the line of the
-- table whose range holds it names the first attempt that the heap refuses (`IsHeapLength`). The rows of the table are the rises of
-- the run without a limit, which isn't cut (`AreRises` says in words what rises are).
pub record IsSized (script : Script) (budget : ℕ) (shape : Shape) (text : List ℕ) (values : ReportValues) : Type 0 where
  pub required : ℕ
  pub rises : List Rise
  pub uncut : (why : Why) → (run script Unlimited budget shape).outcome ≢ Cut why
  pub needed : IsHeapLength script budget shape required rises
  pub rises_are : rises ≡ rises_of script budget shape
  pub text_is : text ≡ size_text required rises
  pub values_are : values ≡ size_values required rises

-- no length is reported: the run without a limit is cut
pub record IsUnsized (script : Script) (budget : ℕ) (shape : Shape) (text : List ℕ) (values : ReportValues) : Type 0 where
  pub why : Why
  pub cut : (run script Unlimited budget shape).outcome ≡ Cut why
  pub text_is : text ≡ cut_at_line (Number 0) why
  pub values_are : values ≡ cut_values (Number 0)

-- the report of `size`
abbrev pub IsSizeReport : Script → ℕ → Shape → List ℕ → ReportValues → ℕ → Type 0
IsSizeReport script budget shape text values status =
    (IsSized script budget shape text values × (status ≡ 0)) ⊎ (IsUnsized script budget shape text values × (status ≡ 3))

-- ---- which failure shows a leak or a panic

abbrev pub attempts_line : ℕ → List ℕ
attempts_line attempts = line (codes "attempts " ++ decimal attempts)

-- how many attempts the run without failure makes
abbrev pub attempts_of : Failures → Script → ℕ → Shape → ℕ
attempts_of failures script budget shape =
    length (runs_of failures script budget shape 0).trace

-- which attempts fail
abbrev pub failing_word : Failing → List ℕ
failing_word (Number n) = codes "number"
failing_word (failings.Every n) = codes "every"
failing_word (failings.From n) = codes "persistent"
failing_word (Pair i j) = codes "pair"
failing_word (failings.Set numbers) = codes "set"

abbrev pub failing_line : Failing → List ℕ
failing_line at = line (failing_word at ++ failing_text at)

abbrev pub found_text : Failing → RunResult → List ℕ
found_text failing result = failing_line failing ++ run_text result

abbrev pub none_line : Failures → List ℕ
none_line Single = line (codes "number none")
none_line Every = line (codes "every none")
none_line Pairs = line (codes "pair none")
none_line Persistent = line (codes "persistent none")

-- what a sweep found, as it is printed, with the line of one that finds nothing; its values and the status
abbrev pub sweep_text : List ℕ → Sweep → List ℕ
sweep_text nothing sweep = attempts_line sweep.attempts ++ option_map_or (λ found. found_text found.at found.result) sweep.found nothing

abbrev pub swept_values : Sweep → ReportValues
swept_values sweep = sweep_values sweep.attempts (option_map_or (λ found. At found.at) sweep.found Never)

abbrev pub swept_status : Sweep → ℕ
swept_status sweep = option_map_or (λ found. 1) sweep.found 0

-- A number, a rate or a pair is printed, and the run under that failure. It is the least whose run leaks
-- or panics; no smaller one's run is cut (`IsFound`).
pub record IsFailing (failures : Failures) (script : Script) (budget : ℕ) (shape : Shape)
    (text : List ℕ) (values : ReportValues) : Type 0 where
  pub at : Failing
  pub result : RunResult
  pub found : IsFound failures script budget shape at result
  pub text_is : text ≡ attempts_line (attempts_of failures script budget shape) ++ found_text at result
  pub values_are : values ≡ sweep_values (attempts_of failures script budget shape) (At at)

-- the run leaks or panics under no failure of all that there are, and is cut under none of them
pub record IsNeverFailing (failures : Failures) (script : Script) (budget : ℕ) (shape : Shape)
    (text : List ℕ) (values : ReportValues) : Type 0 where
  pub none : IsNoneFound failures script budget shape
  pub text_is :
      text ≡ attempts_line (attempts_of failures script budget shape) ++ none_line failures
  pub values_are : values ≡ sweep_values (attempts_of failures script budget shape) Never

-- there is no answer: the run under a failure is cut, and no smaller one's run leaks, panics or is cut
-- (`IsCutShort`)
pub record IsUnswept (failures : Failures) (script : Script) (budget : ℕ) (shape : Shape)
    (text : List ℕ) (values : ReportValues) : Type 0 where
  pub at : Failing
  pub why : Why
  pub cut : IsCutShort failures script budget shape at why
  pub text_is : text ≡ cut_at_line at why
  pub values_are : values ≡ cut_values at

-- the report of `sweep`
abbrev pub IsSweepReport : Failures → Script → ℕ → Shape → List ℕ → ReportValues → ℕ → Type 0
IsSweepReport failures script budget shape text values status =
    (IsFailing failures script budget shape text values × (status ≡ 1))
    ⊎ ((IsNeverFailing failures script budget shape text values × (status ≡ 0))
    ⊎ (IsUnswept failures script budget shape text values × (status ≡ 3)))
