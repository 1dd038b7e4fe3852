-- What a walk finds among the numbers from one on up to a last one, and what is fine of a part.
use Rattle.std.specs.Prelude.{◌≡◌, ℕ, ◌<◌, ◌≤◌, true}
use Rattle.wb_runs.specs.declared.failures.Failing.{Failing}
use Rattle.wb_heap_model.specs.declared.heap.Shape.{Shape}
use Rattle.wb_runs.specs.declared.part.Part.{Part}
use Rattle.wb_meaning.specs.declared.run.Outcome.TheVariants.{Cut}
use Rattle.wb_meaning.specs.declared.run.RunResult.{RunResult}
use Rattle.wb_meaning.specs.declared.run.Why.{Why}
use Rattle.wb_tree.specs.declared.script.Script.{Script}
use Rattle.wb_runs.specs.Parts.{IsNumberOf}
use Rattle.wb_meaning.specs.Run.{is_bad}
use Rattle.wb_runs.specs.Sweeps.{is_fine, runs_under}

-- the runs of the numbers from one on that are less than another are neither bad nor cut
abbrev pub AreFineFrom : (ℕ → RunResult) → ℕ → ℕ → Type 0
AreFineFrom runs from bound = (number : ℕ) → from ≤ number → number < bound → is_fine (runs number) ≡ true

-- the least of them whose run leaks or panics, and that run; no lesser one's is cut
pub record IsLeastBadFrom (runs : ℕ → RunResult) (from last number : ℕ) (result : RunResult) : Type 0 where
  pub begun : from ≤ number
  pub made : number ≤ last
  pub bad : is_bad (runs number) ≡ true
  pub least : AreFineFrom runs from number
  pub run_is : result ≡ runs number

-- the least of them whose run is cut, and why; no lesser one's leaks or panics
pub record IsLeastCutFrom (runs : ℕ → RunResult) (from last number : ℕ) (why : Why) : Type 0 where
  pub begun : from ≤ number
  pub made : number ≤ last
  pub cut : (runs number).outcome ≡ Cut why
  pub least : AreFineFrom runs from number

abbrev pub IsFoundFrom : (ℕ → Failing) → ℕ → ℕ → Script → ℕ → Shape → Failing → RunResult → Type 0
IsFoundFrom tried from last script budget shape at result =
    (n : ℕ) × (at ≡ tried n) × IsLeastBadFrom (runs_under tried script budget shape) from last n result

abbrev pub IsCutFrom : (ℕ → Failing) → ℕ → ℕ → Script → ℕ → Shape → Failing → Why → Type 0
IsCutFrom tried from last script budget shape at why =
    (n : ℕ) × (at ≡ tried n) × IsLeastCutFrom (runs_under tried script budget shape) from last n why

-- the runs of the numbers of a part, up to the last attempt, are neither bad nor cut
abbrev pub AreNumbersFine : (ℕ → RunResult) → Part → ℕ → Type 0
AreNumbersFine runs part last = (number : ℕ) → IsNumberOf part last number → is_fine (runs number) ≡ true
