-- What a sweep over all sets of a part answers, however many attempts a set has.
use Rattle.std.specs.Prelude.{◌≡◌, ℕ, List, length, true}
use Rattle.wb_runs.specs.declared.failures.Failures.TheVariants.{Single}
use Rattle.wb_heap_model.specs.declared.heap.Shape.{Shape}
use Rattle.wb_runs.specs.declared.part.Part.{Part}
use Rattle.wb_meaning.specs.declared.run.RunResult.{RunResult}
use Rattle.wb_meaning.specs.declared.run.Why.{Why}
use Rattle.wb_tree.specs.declared.script.Script.{Script}
use Rattle.wb_runs.specs.Parts.{last_attempt, IsUncut}
use Rattle.wb_runs.specs.SetAnswers.{SetAnswer, found, cut, none}
use Rattle.wb_runs.specs.SetParts.{IsSetCutIn, IsSetFoundIn, IsSetOf}
use Rattle.wb_runs.specs.Sets.{set_run}
use Rattle.wb_runs.specs.Sweeps.{is_fine}

-- the runs of all sets that are tried are neither bad nor cut
abbrev pub AreAllSetsFineIn : Part → Script → ℕ → Shape → Type 0
AreAllSetsFineIn part script budget shape =
    (numbers : List ℕ) → IsSetOf part (last_attempt Single script budget shape) numbers → is_fine (set_run script budget shape numbers) ≡ true

-- the run of no set that is tried leaks, panics or is cut
pub record IsNoSetOfAnySizeIn (part : Part) (script : Script) (budget : ℕ) (shape : Shape) : Type 0 where
  pub uncut : IsUncut Single script budget shape
  pub fine : AreAllSetsFineIn part script budget shape

-- the least set that is tried whose run leaks or panics, and that run; the run of no lesser one is cut
abbrev pub IsLeastSetFoundIn : Part → Script → ℕ → Shape → List ℕ → RunResult → Type 0
IsLeastSetFoundIn part script budget shape numbers result = IsSetFoundIn part (length numbers) script budget shape numbers result

-- the least one whose run is cut, and why; the run of no lesser one leaks or panics
abbrev pub IsLeastSetCutIn : Part → Script → ℕ → Shape → List ℕ → Why → Type 0
IsLeastSetCutIn part script budget shape numbers why = IsSetCutIn part (length numbers) script budget shape numbers why

-- what a sweep over all sets of a part comes to
abbrev pub IsEverySetAnswerIn : Part → Script → ℕ → Shape → SetAnswer → Type 0
IsEverySetAnswerIn part script budget shape (found numbers result) = IsLeastSetFoundIn part script budget shape numbers result
IsEverySetAnswerIn part script budget shape (cut numbers why) = IsLeastSetCutIn part script budget shape numbers why
IsEverySetAnswerIn part script budget shape none = IsNoSetOfAnySizeIn part script budget shape
