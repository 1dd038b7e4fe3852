-- What a sweep over sets says of those of a part: the least whose run is bad, or that none is. The failure that is found or cut is named as a
-- set is: a single attempt by its number, two and more by their set.
use Rattle.std.specs.Prelude.{◌≡◌, ℕ, ◌+◌, ◌≤◌, None, IfSome}
use Rattle.wb_runs.specs.declared.failures.Failing.{Failing}
use Rattle.wb_runs.specs.declared.failures.Failures.TheVariants.{Single}
use Rattle.wb_heap_model.specs.declared.heap.Shape.{Shape}
use Rattle.wb_runs.specs.declared.part.Part.{Part}
use Rattle.wb_meaning.specs.declared.run.RunResult.{RunResult}
use Rattle.wb_meaning.specs.declared.run.Why.{Why}
use Rattle.wb_tree.specs.declared.script.Script.{Script}
use Rattle.wb_runs.specs.EverySet.{IsLeastSetCutIn, IsLeastSetFoundIn, IsNoSetOfAnySizeIn}
use Rattle.wb_runs.specs.Parts.{last_attempt}
use Rattle.wb_runs.specs.SetParts.{IsNoSetIn, IsSetCutIn, IsSetFoundIn}
use Rattle.wb_runs.specs.Sweeps.{set_of, IsNamedAsSet}
use Rattle.wb_sweep.specs.declared.found.Sweep.{Sweep}

-- ---- sets of at most so many attempts

-- the failure's set is the least whose run leaks or panics, and that run
abbrev pub IsFoundAmongSets : Part → ℕ → Script → ℕ → Shape → Failing → RunResult → Type 0
IsFoundAmongSets part most script budget shape at result =
    IsNamedAsSet at × IsSetFoundIn part most script budget shape (set_of at) result

-- the failure's set is the least whose run is cut, and why
abbrev pub IsCutAmongSets : Part → ℕ → Script → ℕ → Shape → Failing → Why → Type 0
IsCutAmongSets part most script budget shape at why = IsNamedAsSet at × IsSetCutIn part most script budget shape (set_of at) why

-- The run without failure makes at most one attempt more than the budget has steps, so that a caller knows which parts have all sets.
pub record IsSetSweepIn (part : Part) (most : ℕ) (script : Script) (budget : ℕ) (shape : Shape) (sweep : Sweep) : Type 0 where
  pub attempts : sweep.attempts ≡ last_attempt Single script budget shape
  pub few : sweep.attempts ≤ budget + 1
  pub found : IfSome sweep.found (λ found. IsFoundAmongSets part most script budget shape found.at found.result)
  pub none : sweep.found ≡ None → IsNoSetIn part most script budget shape

-- ---- sets of any number of attempts

abbrev pub IsFoundAmongAllSets : Part → Script → ℕ → Shape → Failing → RunResult → Type 0
IsFoundAmongAllSets part script budget shape at result = IsNamedAsSet at × IsLeastSetFoundIn part script budget shape (set_of at) result

abbrev pub IsCutAmongAllSets : Part → Script → ℕ → Shape → Failing → Why → Type 0
IsCutAmongAllSets part script budget shape at why = IsNamedAsSet at × IsLeastSetCutIn part script budget shape (set_of at) why

pub record IsEverySetSweepIn (part : Part) (script : Script) (budget : ℕ) (shape : Shape) (sweep : Sweep) : Type 0 where
  pub attempts : sweep.attempts ≡ last_attempt Single script budget shape
  pub few : sweep.attempts ≤ budget + 1
  pub found : IfSome sweep.found (λ found. IsFoundAmongAllSets part script budget shape found.at found.result)
  pub none : sweep.found ≡ None → IsNoSetOfAnySizeIn part script budget shape
