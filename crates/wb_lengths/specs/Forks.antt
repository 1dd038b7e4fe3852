-- Runs in which the attempts of a set fail, and copies of them, from which the runs in shorter heaps go on.
use Rattle.std.specs.Prelude.{◌≡◌, ℕ}
use Rattle.std.specs.List.{All}
use Rattle.wb_heap_model.specs.declared.heap.Shape.{Shape}
use Rattle.wb_tree.specs.declared.script.Script.{Script}
use Rattle.wb_lengths.specs.declared.forks.Forks.{Forks}
use Rattle.wb_lengths.specs.declared.set_run.SetRun.{SetRun}

-- a run is of a script, under a budget, in heaps of a shape
pub record IsOf (script : Script) (budget : ℕ) (shape : Shape) (run : SetRun) : Type 0 where
  pub same_script : run.machine.script ≡ script
  pub same_budget : run.machine.budget ≡ budget
  pub same_shape : run.machine.shape ≡ shape

-- a run is of the same as another
abbrev pub IsOfSame : SetRun → SetRun → Type 0
IsOfSame old new = IsOf old.machine.script old.machine.budget old.machine.shape new

-- all forks are of a script, under a budget, in heaps of a shape
abbrev pub AreOf : Script → ℕ → Shape → Forks → Type 0
AreOf script budget shape forks = All (IsOf script budget shape) forks.runs.items

-- the forks that are left are of what the forks before were of
abbrev pub KeepsForks : Forks → Forks → Type 0
KeepsForks old new = (script : Script) (budget : ℕ) (shape : Shape) → AreOf script budget shape old → AreOf script budget shape new

-- one more run is of the same; and so are the forks that are kept once it is among them
abbrev pub KeepsForksWith : Forks → SetRun → Forks → Type 0
KeepsForksWith old run new =
    (script : Script) (budget : ℕ) (shape : Shape) → AreOf script budget shape old → IsOf script budget shape run → AreOf script budget shape new

-- a run goes on, beside the forks, and is still of the same as they
abbrev pub GoesOn : Forks → SetRun → Forks → SetRun → Type 0
GoesOn old run new next =
    (script : Script) (budget : ℕ) (shape : Shape) → AreOf script budget shape old → IsOf script budget shape run →
    AreOf script budget shape new × IsOf script budget shape next

-- forks of a script give a run of it
abbrev pub GivesRun : Script → ℕ → Shape → Forks → Forks → SetRun → Type 0
GivesRun script budget shape old new run = AreOf script budget shape old → AreOf script budget shape new × IsOf script budget shape run
