-- What a sweep looks for among runs that are numbered from 0 on.
use Rattle.std.specs.Prelude.{◌≡◌, ℕ, zero, suc, ◌<◌, List, [], ◌∷◌, Bool, true, false, not, ◌&&◌, if◌then◌else◌, length, Option, Some, None}
use Rattle.wb_runs.specs.declared.failures.Failing.{Failing}
use Rattle.wb_runs.specs.declared.failures.Failing.TheVariants.{Number, Pair}
use Rattle.wb_runs.specs.declared.failures.Failing.TheVariants as failings
use Rattle.wb_runs.specs.declared.failures.Failures.{Failures}
use Rattle.wb_runs.specs.declared.failures.Failures.TheVariants.{Single, Every, Pairs, Persistent}
use Rattle.wb_heap_model.specs.declared.heap.Rule.{Rule}
use Rattle.wb_heap_model.specs.declared.heap.Rule.TheVariants as rules
use Rattle.wb_heap_model.specs.declared.heap.Shape.{Shape}
use Rattle.wb_meaning.specs.declared.run.Outcome.{Outcome}
use Rattle.wb_meaning.specs.declared.run.Outcome.TheVariants.{Cut}
use Rattle.wb_meaning.specs.declared.run.RunResult.{RunResult}
use Rattle.wb_meaning.specs.declared.run.Why.{Why}
use Rattle.wb_tree.specs.declared.script.Script.{Script}
use Rattle.wb_meaning.specs.Run.{run, is_bad}

abbrev pub is_cut_outcome : Outcome → Bool
is_cut_outcome (Cut why) = true
is_cut_outcome _ = false

-- neither bad nor cut
abbrev pub is_fine : RunResult → Bool
is_fine result = not (is_bad result) && not (is_cut_outcome result.outcome)

abbrev pub AreFineBelow : (ℕ → RunResult) → ℕ → Type 0
AreFineBelow runs bound = (number : ℕ) → number < bound → is_fine (runs number) ≡ true

abbrev pub AreAllFine : (ℕ → RunResult) → Type 0
AreAllFine runs = (number : ℕ) → is_fine (runs number) ≡ true

-- the least number whose run is bad or cut
pub record IsLeastUnfine (runs : ℕ → RunResult) (number : ℕ) : Type 0 where
  pub unfine : is_fine (runs number) ≡ false
  pub least : AreFineBelow runs number

abbrev pub or_else : Option ℕ → Option ℕ → Option ℕ
or_else (Some n) other = Some n
or_else None other = other

-- that number, looked for below a bound
abbrev pub least_unfine : (ℕ → RunResult) → ℕ → Option ℕ
least_unfine runs zero = None
least_unfine runs (suc n) = or_else (least_unfine runs n) (if is_fine (runs n) then None else Some n)

-- the failure that a sweep tries as n; one of pairs tries the single failures first
abbrev pub failing_at : Failures → ℕ → Failing
failing_at Single n = Number n
failing_at Every n = failings.Every n
failing_at Pairs n = Number n
failing_at Persistent n = failings.From n

-- the rule of a failure
abbrev pub rule_for : Failing → Rule
rule_for (Number n) = rules.Number n
rule_for (failings.Every n) = rules.Every n
rule_for (Pair i j) = rules.Pair i j
rule_for (failings.From n) = rules.From n
rule_for (failings.Set numbers) = rules.Set numbers

-- the numbers of the attempts that a failure makes fail, none by number 0; it isn't asked of a rate, nor of all from a number on
abbrev pub set_of : Failing → List ℕ
set_of (Number zero) = []
set_of (Number (suc n)) = suc n ∷ []
set_of (failings.Every n) = []
set_of (Pair i j) = i ∷ j ∷ []
set_of (failings.From n) = []
set_of (failings.Set numbers) = numbers

-- the failure of a set, as a sweep over sets names it: no attempt and a single one by their number, two and more by the set
abbrev pub failing_set : List ℕ → Failing
failing_set [] = Number 0
failing_set (n ∷ []) = Number n
failing_set (m ∷ n ∷ ns) = failings.Set (m ∷ n ∷ ns)

abbrev pub IsNamedAsSet : Failing → Type 0
IsNamedAsSet at = at ≡ failing_set (set_of at)

-- the runs under failures that are tried as 0, 1, 2 and so on
abbrev pub runs_under : (ℕ → Failing) → Script → ℕ → Shape → ℕ → RunResult
runs_under tried script budget shape n = run script (rule_for (tried n)) budget shape

abbrev pub rule_of : Failures → ℕ → Rule
rule_of failures n = rule_for (failing_at failures n)

-- the run under the failure that is tried as n: the attempt with number n fails, or every n-th does, or all from the n-th on; as
-- attempts count from 1, n = 0 is the run without failure
abbrev pub runs_of : Failures → Script → ℕ → Shape → ℕ → RunResult
runs_of failures = runs_under (failing_at failures)

-- what a sweep finds among the numbers up to the last attempt of the run without failure; `sweeps_end` among the laws says
-- that it is the least of all numbers
abbrev pub least_bad_or_cut : Failures → Script → ℕ → Shape → Option ℕ
least_bad_or_cut failures script budget shape =
    least_unfine (runs_of failures script budget shape) (suc (length (runs_of failures script budget shape 0).trace))

-- the least number whose run leaks or panics, and that run; no smaller number's run is cut
pub record IsLeastBad (runs : ℕ → RunResult) (number : ℕ) (result : RunResult) : Type 0 where
  pub bad : is_bad (runs number) ≡ true
  pub least : AreFineBelow runs number
  pub run_is : result ≡ runs number

-- the least number whose run is cut, and why; no smaller number's run is bad
pub record IsLeastCut (runs : ℕ → RunResult) (number : ℕ) (why : Why) : Type 0 where
  pub cut : (runs number).outcome ≡ Cut why
  pub least : AreFineBelow runs number

-- the least of the failures that are tried whose run leaks or panics, and that run
abbrev pub IsFoundAmong : (ℕ → Failing) → Script → ℕ → Shape → Failing → RunResult → Type 0
IsFoundAmong tried script budget shape at result =
    (n : ℕ) × (at ≡ tried n) × IsLeastBad (runs_under tried script budget shape) n result

-- the least of them whose run is cut, and why
abbrev pub IsCutAmong : (ℕ → Failing) → Script → ℕ → Shape → Failing → Why → Type 0
IsCutAmong tried script budget shape at why =
    (n : ℕ) × (at ≡ tried n) × IsLeastCut (runs_under tried script budget shape) n why
