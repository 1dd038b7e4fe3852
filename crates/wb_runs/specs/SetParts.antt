-- What a sweep over sets answers, of a part of its numbers. It tries the sets of at most so many attempts whose least number is the part's, and no
-- greater than the last attempt of the run without failure. That run is number 0; it is made whatever the part is, and judged only where the part
-- has number 0; where it is cut, this is the answer.
use Rattle.std.specs.Prelude.{◌≡◌, ℕ, ◌≤◌, ◌⊎◌, List, [], ◌∷◌, true, length}
use Rattle.wb_runs.specs.declared.failures.Failures.TheVariants.{Single}
use Rattle.wb_heap_model.specs.declared.heap.Shape.{Shape}
use Rattle.wb_runs.specs.declared.part.Part.{Part}
use Rattle.wb_meaning.specs.declared.run.Outcome.TheVariants.{Cut}
use Rattle.wb_meaning.specs.declared.run.RunResult.{RunResult}
use Rattle.wb_meaning.specs.declared.run.Why.{Why}
use Rattle.wb_tree.specs.declared.script.Script.{Script}
use Rattle.wb_runs.specs.Parts.{last_attempt, IsNumberOf, IsUncut}
use Rattle.wb_meaning.specs.Run.{is_bad}
use Rattle.wb_runs.specs.Sets.{set_comes_before, set_run, IsSet}
use Rattle.wb_runs.specs.Sweeps.{is_fine}

-- the least number of a set; that of the empty set is 0
abbrev pub least_number : List ℕ → ℕ
least_number [] = 0
least_number (n ∷ ns) = n

-- a set that is tried of a part
pub record IsSetOf (part : Part) (last : ℕ) (numbers : List ℕ) : Type 0 where
  pub set : IsSet numbers
  pub least : IsNumberOf part last (least_number numbers)

-- the runs of those with at most so many attempts are neither bad nor cut
abbrev pub AreSetsFineIn : Part → ℕ → Script → ℕ → Shape → Type 0
AreSetsFineIn part most script budget shape =
    (numbers : List ℕ) → IsSetOf part (last_attempt Single script budget shape) numbers → length numbers ≤ most → is_fine (set_run script budget shape numbers) ≡ true

-- so are those of them that come before a set
abbrev pub AreSetsFineInBefore : Part → Script → ℕ → Shape → List ℕ → Type 0
AreSetsFineInBefore part script budget shape numbers =
    (other : List ℕ) → IsSetOf part (last_attempt Single script budget shape) other → set_comes_before other numbers ≡ true →
    is_fine (set_run script budget shape other) ≡ true

-- the least set that is tried whose run leaks or panics, and that run; the run of no lesser one is cut
pub record IsSetFoundIn (part : Part) (most : ℕ) (script : Script) (budget : ℕ) (shape : Shape) (numbers : List ℕ) (result : RunResult) : Type 0 where
  pub uncut : IsUncut Single script budget shape
  pub tried : IsSetOf part (last_attempt Single script budget shape) numbers
  pub few : length numbers ≤ most
  pub bad : is_bad (set_run script budget shape numbers) ≡ true
  pub least : AreSetsFineInBefore part script budget shape numbers
  pub run_is : result ≡ set_run script budget shape numbers

-- the least set that is tried whose run is cut, and why; the run of no lesser one leaks or panics
pub record IsLeastCutSetIn (part : Part) (most : ℕ) (script : Script) (budget : ℕ) (shape : Shape) (numbers : List ℕ) (why : Why) : Type 0 where
  pub uncut : IsUncut Single script budget shape
  pub tried : IsSetOf part (last_attempt Single script budget shape) numbers
  pub few : length numbers ≤ most
  pub cut : (set_run script budget shape numbers).outcome ≡ Cut why
  pub least : AreSetsFineInBefore part script budget shape numbers

-- the run without failure is cut
pub record IsCutWithoutSet (script : Script) (budget : ℕ) (shape : Shape) (numbers : List ℕ) (why : Why) : Type 0 where
  pub empty : numbers ≡ []
  pub cut : (set_run script budget shape []).outcome ≡ Cut why

abbrev pub IsSetCutIn : Part → ℕ → Script → ℕ → Shape → List ℕ → Why → Type 0
IsSetCutIn part most script budget shape numbers why =
    IsCutWithoutSet script budget shape numbers why ⊎ IsLeastCutSetIn part most script budget shape numbers why

-- the run of no set that is tried leaks, panics or is cut
pub record IsNoSetIn (part : Part) (most : ℕ) (script : Script) (budget : ℕ) (shape : Shape) : Type 0 where
  pub uncut : IsUncut Single script budget shape
  pub fine : AreSetsFineIn part most script budget shape
