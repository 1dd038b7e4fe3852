-- What a search goes over: the sets of a part, in the runs of a script.
use Rattle.std.specs.Prelude.{◌≡◌, ℕ, zero, suc, ◌+◌, ◌<◌, ◌≤◌, ◌⊎◌, List, ◌++◌, length, map, true, Bool, false}
use Rattle.wb_heap_model.specs.declared.heap.Shape.{Shape}
use Rattle.wb_runs.specs.declared.part.Part.{Part}
use Rattle.wb_meaning.specs.declared.run.RunResult.{RunResult}
use Rattle.wb_tree.specs.declared.script.Script.{Script}
use Rattle.wb_runs.specs.Parts.{IsNumberOf}
use Rattle.wb_runs.specs.SetParts.{least_number}
use Rattle.wb_runs.specs.Sets.{has_lesser_number, set_comes_before, set_run, IsSet}
use Rattle.wb_runs.specs.Sweeps.{is_fine}

pub record Ground : Type 0 where
  pub script : Script
  pub budget : ℕ
  pub shape : Shape
  -- all sets are tried
  pub whole : Bool
  -- else those whose least number this part has, and is no greater than the last attempt of the run without failure
  pub part : Part
  pub last : ℕ
  -- how many states may be met
  pub allowed : ℕ

-- the run under a set
abbrev pub run_of : Ground → List ℕ → RunResult
run_of g = set_run g.script g.budget g.shape

pub record IsTriedSet (g : Ground) (numbers : List ℕ) : Type 0 where
  pub set : IsSet numbers
  pub least : g.whole ≡ false → IsNumberOf g.part g.last (least_number numbers)

-- these numbers, counted on from an attempt
abbrev pub past : ℕ → List ℕ → List ℕ
past attempts numbers = map (λ n. attempts + n) numbers

-- A set and an attempt come no later than others: of two sets the lesser one comes first, and of one set the lesser attempt.
abbrev pub IsNoLater : List ℕ → ℕ → List ℕ → ℕ → Type 0
IsNoLater set attempts other later =
    (length set < length other)
    ⊎ ((length set ≡ length other) × ((has_lesser_number set other ≡ true) ⊎ ((set ≡ other) × (attempts ≤ later))))

-- and they come earlier
abbrev pub IsEarlier : List ℕ → ℕ → List ℕ → ℕ → Type 0
IsEarlier set attempts other later = (set_comes_before set other ≡ true) ⊎ ((set ≡ other) × (attempts < later))

-- Two runs have come to the same but for numbers: one under a set, after so many attempts and steps, and another. If the same further attempts fail in
-- both, counted from there, and the other is neither bad nor cut, so is the first, in as many steps from there on, if its budget allows them.
abbrev pub Meets : Ground → List ℕ → ℕ → ℕ → List ℕ → ℕ → ℕ → Type 0
Meets g set attempts steps other other_attempts other_steps =
    (more : List ℕ) → IsSet more →
    is_fine (run_of g (other ++ past other_attempts more)) ≡ true →
    (run_of g (other ++ past other_attempts more)).steps + steps ≤ g.budget + other_steps →
    (is_fine (run_of g (set ++ past attempts more)) ≡ true)
    × ((run_of g (set ++ past attempts more)).steps + other_steps ≡ (run_of g (other ++ past other_attempts more)).steps + steps)

-- how many turns a run has taken that is about to make an attempt: the first makes one and counts no step
abbrev pub turns_of : ℕ → ℕ → ℕ
turns_of zero steps = 0
turns_of (suc attempts) steps = steps + 1
