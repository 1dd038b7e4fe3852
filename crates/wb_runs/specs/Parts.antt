-- What a sweep over a part of its numbers answers. It tries the failures of these numbers up to the last attempt of the run without failure. That
-- run is made whatever the part is, and judged only where the part has number 0; where it is cut, this is the answer.
use Rattle.std.specs.Prelude.{◌≡◌, ℕ, ◌+◌, ◌<◌, ◌≤◌, ◌⊎◌, ◌↔◌, Bool, true, false, ◌&&◌, ◌||◌, nat_eq, nat_lt, if◌then◌else◌, length}
use Rattle.wb_runs.specs.declared.failures.Failing.{Failing}
use Rattle.wb_runs.specs.declared.failures.Failing.TheVariants.{Number, Pair}
use Rattle.wb_runs.specs.declared.failures.Failing.TheVariants as failings
use Rattle.wb_runs.specs.declared.failures.Failures.{Failures}
use Rattle.wb_runs.specs.declared.failures.Failures.TheVariants.{Single, Every, Pairs, Persistent}
use Rattle.wb_heap_model.specs.declared.heap.Shape.{Shape}
use Rattle.wb_runs.specs.declared.part.Part.{Part}
use Rattle.wb_meaning.specs.declared.run.Outcome.TheVariants.{Cut}
use Rattle.wb_meaning.specs.declared.run.RunResult.{RunResult}
use Rattle.wb_meaning.specs.declared.run.Why.{Why}
use Rattle.wb_tree.specs.declared.script.Script.{Script}
use Rattle.wb_meaning.specs.Run.{run, is_bad}
use Rattle.wb_runs.specs.Sweeps.{failing_at, is_cut_outcome, is_fine, rule_for, runs_of}

-- a number of a part that isn't past the last attempt
pub record IsNumberOf (part : Part) (last number : ℕ) : Type 0 where
  pub from : part.from ≤ number
  pub to : number ≤ part.to
  pub made : number ≤ last

-- a failure that is tried of a part; pairs are, whose first number is the part's
abbrev pub IsTried : Failures → Part → ℕ → Failing → Type 0
IsTried Single part last (Number n) = IsNumberOf part last n
IsTried Every part last (failings.Every n) = IsNumberOf part last n
IsTried Pairs part last (Number n) = IsNumberOf part last n
IsTried Persistent part last (failings.From n) = IsNumberOf part last n
IsTried Pairs part last (Pair i j) = IsNumberOf part last i × (1 ≤ i) × (i < j)
IsTried _ part last _ = ⊥

-- the order of failures: a single one comes before two, and then the numbers tell, of pairs the first before the second
abbrev pub comes_before : Failing → Failing → Bool
comes_before (Number m) (Number n) = nat_lt m n
comes_before (Number m) (Pair i j) = true
comes_before (failings.Every m) (failings.Every n) = nat_lt m n
comes_before (failings.From m) (failings.From n) = nat_lt m n
comes_before (Pair a b) (Pair i j) = nat_lt a i || (nat_eq a i && nat_lt b j)
comes_before _ _ = false

-- the run under a failure
abbrev pub run_at : Script → ℕ → Shape → Failing → RunResult
run_at script budget shape at = run script (rule_for at) budget shape

-- how many attempts the run without failure makes
abbrev pub last_attempt : Failures → Script → ℕ → Shape → ℕ
last_attempt failures script budget shape = length (runs_of failures script budget shape 0).trace

-- the run without failure isn't cut
abbrev pub IsUncut : Failures → Script → ℕ → Shape → Type 0
IsUncut failures script budget shape = is_cut_outcome (runs_of failures script budget shape 0).outcome ≡ false

-- the runs of the failures that are tried, and come before one, are neither bad nor cut
abbrev pub AreFineBefore : Failures → Part → Script → ℕ → Shape → Failing → Type 0
AreFineBefore failures part script budget shape at =
    (other : Failing) → IsTried failures part (last_attempt failures script budget shape) other → comes_before other at ≡ true →
    is_fine (run_at script budget shape other) ≡ true

-- the least failure that is tried whose run leaks or panics, and that run; the run of no lesser one is cut
pub record IsFoundIn (failures : Failures) (part : Part) (script : Script) (budget : ℕ) (shape : Shape) (at : Failing) (result : RunResult) : Type 0 where
  pub uncut : IsUncut failures script budget shape
  pub tried : IsTried failures part (last_attempt failures script budget shape) at
  pub bad : is_bad (run_at script budget shape at) ≡ true
  pub least : AreFineBefore failures part script budget shape at
  pub run_is : result ≡ run_at script budget shape at

-- the least failure that is tried whose run is cut, and why; the run of no lesser one leaks or panics
pub record IsLeastCutIn (failures : Failures) (part : Part) (script : Script) (budget : ℕ) (shape : Shape) (at : Failing) (why : Why) : Type 0 where
  pub uncut : IsUncut failures script budget shape
  pub tried : IsTried failures part (last_attempt failures script budget shape) at
  pub cut : (run_at script budget shape at).outcome ≡ Cut why
  pub least : AreFineBefore failures part script budget shape at

-- the run without failure is cut
pub record IsCutWithout (failures : Failures) (script : Script) (budget : ℕ) (shape : Shape) (at : Failing) (why : Why) : Type 0 where
  pub failing : at ≡ failing_at failures 0
  pub cut : (runs_of failures script budget shape 0).outcome ≡ Cut why

abbrev pub IsCutIn : Failures → Part → Script → ℕ → Shape → Failing → Why → Type 0
IsCutIn failures part script budget shape at why =
    IsCutWithout failures script budget shape at why ⊎ IsLeastCutIn failures part script budget shape at why

-- the run of no failure that is tried leaks, panics or is cut
pub record IsNoneIn (failures : Failures) (part : Part) (script : Script) (budget : ℕ) (shape : Shape) : Type 0 where
  pub uncut : IsUncut failures script budget shape
  pub fine : (at : Failing) → IsTried failures part (last_attempt failures script budget shape) at → is_fine (run_at script budget shape at) ≡ true

-- ---- parts that make up another

-- what a sweep over a part comes to
pub data Answer : Type 0 where
  found : Failing → RunResult → Answer
  cut : Failing → Why → Answer
  none : Answer

abbrev pub IsAnswerIn : Failures → Part → Script → ℕ → Shape → Answer → Type 0
IsAnswerIn failures part script budget shape (found at result) = IsFoundIn failures part script budget shape at result
IsAnswerIn failures part script budget shape (cut at why) = IsCutIn failures part script budget shape at why
IsAnswerIn failures part script budget shape none = IsNoneIn failures part script budget shape

-- of two answers that name a failure the second, where its failure comes first
abbrev pub first_of : Failing → Failing → Answer → Answer → Answer
first_of at other a b = if comes_before other at then b else a

-- the lesser of two answers; a cut ranks as its failure does
abbrev pub least_of : Answer → Answer → Answer
least_of none b = b
least_of a none = a
least_of (found at result) (found other another) = first_of at other (found at result) (found other another)
least_of (found at result) (cut other another) = first_of at other (found at result) (cut other another)
least_of (cut at why) (found other another) = first_of at other (cut at why) (found other another)
least_of (cut at why) (cut other another) = first_of at other (cut at why) (cut other another)

-- the numbers of two parts together are those of a third
abbrev pub AreTogether : Part → Part → Part → Type 0
AreTogether part next both =
    (number : ℕ) → ((both.from ≤ number) × (number ≤ both.to))
    ↔ (((part.from ≤ number) × (number ≤ part.to)) ⊎ ((next.from ≤ number) × (number ≤ next.to)))

-- a part ends where the next one begins, and both together are a third
pub record AreInARow (part next both : Part) : Type 0 where
  pub begins : part.from ≤ part.to + 1
  pub follows : next.from ≡ part.to + 1
  pub ends : part.to ≤ next.to
  pub from : both.from ≡ part.from
  pub to : both.to ≡ next.to
