-- What a sweep over the sets of a part comes to, as one value, and which sets the failures that other sweeps find are.
use Rattle.std.specs.Prelude.{◌≡◌, ℕ, List, if◌then◌else◌}
use Rattle.wb_runs.specs.declared.failures.Failing.{Failing}
use Rattle.wb_runs.specs.declared.failures.Failures.{Failures}
use Rattle.wb_heap_model.specs.declared.heap.Shape.{Shape}
use Rattle.wb_runs.specs.declared.part.Part.{Part}
use Rattle.wb_meaning.specs.declared.run.RunResult.{RunResult}
use Rattle.wb_meaning.specs.declared.run.Why.{Why}
use Rattle.wb_tree.specs.declared.script.Script.{Script}
use Rattle.wb_runs.specs.Parts.{IsCutIn, IsFoundIn}
use Rattle.wb_runs.specs.SetParts.{IsNoSetIn, IsSetCutIn, IsSetFoundIn}
use Rattle.wb_runs.specs.Sets.{set_comes_before}
use Rattle.wb_runs.specs.Sweeps.{set_of}

-- what a sweep over the sets of a part comes to
pub data SetAnswer : Type 0 where
  found : List ℕ → RunResult → SetAnswer
  cut : List ℕ → Why → SetAnswer
  none : SetAnswer

-- that of a sweep over sets of at most so many attempts
abbrev pub IsSetAnswerIn : Part → ℕ → Script → ℕ → Shape → SetAnswer → Type 0
IsSetAnswerIn part most script budget shape (found numbers result) = IsSetFoundIn part most script budget shape numbers result
IsSetAnswerIn part most script budget shape (cut numbers why) = IsSetCutIn part most script budget shape numbers why
IsSetAnswerIn part most script budget shape none = IsNoSetIn part most script budget shape

-- of two answers that name a set the second, where its set comes first
abbrev pub first_set_of : List ℕ → List ℕ → SetAnswer → SetAnswer → SetAnswer
first_set_of numbers other a b = if set_comes_before other numbers then b else a

-- the lesser of two answers; a cut ranks as its set does
abbrev pub least_set_of : SetAnswer → SetAnswer → SetAnswer
least_set_of none b = b
least_set_of a none = a
least_set_of (found numbers result) (found other another) = first_set_of numbers other (found numbers result) (found other another)
least_set_of (found numbers result) (cut other another) = first_set_of numbers other (found numbers result) (cut other another)
least_set_of (cut numbers why) (found other another) = first_set_of numbers other (cut numbers why) (found other another)
least_set_of (cut numbers why) (cut other another) = first_set_of numbers other (cut numbers why) (cut other another)

-- ---- single failures and pairs

-- the set is that of a failure which a sweep over a part finds
abbrev pub IsSetOfFound : Failures → Part → Script → ℕ → Shape → List ℕ → RunResult → Type 0
IsSetOfFound failures part script budget shape numbers result =
    (at : Failing) × (numbers ≡ set_of at) × IsFoundIn failures part script budget shape at result

-- or of one whose run is cut
abbrev pub IsSetOfCut : Failures → Part → Script → ℕ → Shape → List ℕ → Why → Type 0
IsSetOfCut failures part script budget shape numbers why =
    (at : Failing) × (numbers ≡ set_of at) × IsCutIn failures part script budget shape at why
