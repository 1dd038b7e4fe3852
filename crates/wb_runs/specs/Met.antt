-- What it means that more states were met than were allowed. A state is the run under a set of attempts that fail, before an attempt past
-- all of them: it is named by the set, and by how many attempts were made.
use Rattle.std.specs.Prelude.{◌≡◌, ℕ, ◌<◌, ◌≤◌, ◌⊎◌, List, [], ◌∷◌, length, Some, slice_get}
use Rattle.wb_runs.specs.declared.failures.Failures.TheVariants.{Single}
use Rattle.wb_heap_model.specs.declared.heap.Shape.{Shape}
use Rattle.wb_runs.specs.declared.part.Part.{Part}
use Rattle.wb_meaning.specs.Run.{MakesMoreThan}
use Rattle.wb_tree.specs.declared.script.Script.{Script}
use Rattle.wb_runs.specs.Parts.{last_attempt}
use Rattle.wb_runs.specs.SetParts.{IsSetOf}
use Rattle.wb_runs.specs.Sets.{set_run}

-- none of these numbers is past an attempt
abbrev pub AreWithin : ℕ → List ℕ → Type 0
AreWithin attempts [] = Unit {0}
AreWithin attempts (n ∷ ns) = (n ≤ attempts) × AreWithin attempts ns

-- The run under a set asks for an attempt after so many: it makes one more, or the ceiling cuts it there.
abbrev pub AsksAfter : Script → ℕ → Shape → List ℕ → ℕ → Type 0
AsksAfter script budget shape numbers attempts = MakesMoreThan attempts (set_run script budget shape numbers)

-- A state of a part: the run under no failure, or under a set of at most so many attempts that is tried of the part, has made so many attempts, all of the
-- set's among them, and asks for another.
pub record IsMetIn (part : Part) (most : ℕ) (script : Script) (budget : ℕ) (shape : Shape) (numbers : List ℕ) (attempts : ℕ) : Type 0 where
  pub tried : (numbers ≡ []) ⊎ IsSetOf part (last_attempt Single script budget shape) numbers
  pub few : length numbers ≤ most
  pub made : AreWithin attempts numbers
  pub asks : AsksAfter script budget shape numbers attempts

-- this holds of more than so many pairs of a set and a number of attempts, no two of which are the same
pub record AreMoreThan (count : ℕ) (Holds : List ℕ → ℕ → Type 0) : Type 0 where
  pub pairs : List (List ℕ × ℕ)
  pub more : count < length pairs
  pub different : (i j : ℕ) (pair : List ℕ × ℕ) → slice_get pairs i ≡ Some pair → slice_get pairs j ≡ Some pair → i ≡ j
  pub each : (i : ℕ) (pair : List ℕ × ℕ) → slice_get pairs i ≡ Some pair → Holds pair.0 pair.1

-- there are more than so many states of a part, under sets of at most so many attempts
abbrev pub AreManyStatesIn : Part → ℕ → ℕ → Script → ℕ → Shape → Type 0
AreManyStatesIn part most states script budget shape = AreMoreThan states (IsMetIn part most script budget shape)
