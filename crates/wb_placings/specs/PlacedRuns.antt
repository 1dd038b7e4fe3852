-- The run of a script in a heap that chooses the places of cells in whatever way, and when two runs are the same but for places.
use Rattle.std.specs.Prelude.{◌≡◌, ℕ, List, ◌||◌, if◌then◌else◌}
use Rattle.wb_heap_model.specs.declared.heap.Answer.{Answer}
use Rattle.wb_heap_model.specs.declared.heap.Answer.TheVariants.{Granted, Simulated}
use Rattle.wb_heap_model.specs.declared.heap.Attempt.{Attempt}
use Rattle.wb_heap_model.specs.declared.heap.Rule.TheVariants as rules
use Rattle.wb_meaning.specs.declared.run.RunResult.{RunResult}
use Rattle.wb_tree.specs.declared.script.Script.{Script}
use Rattle.wb_heap_model.specs.Placement.{Placement}
use Rattle.wb_heap_model.specs.Rules.{Request, simulates}
use Rattle.wb_heap_model.specs.Space.{Space}
use Rattle.wb_meaning.specs.State.{Process, ends, stops, asks, notes}
use Rattle.wb_meaning.specs.Account.{over, stopped, Account, Settled, noted, recorded, next_number}
use Rattle.wb_meaning.specs.Run.{before, process, result_of}
use Rattle.wb_renaming.specs.SameButNumbers.{AllBeside}

-- The answer to an attempt. It is made to fail if the script's own setting or the set says so, and else it is granted, wherever its cell
-- ends: a placing may put cells past the ceiling, and that cuts no run.
abbrev pub answer_under : List ℕ → ℕ → Request → Answer
answer_under numbers number t = if t.due || simulates (rules.Set numbers) number then Simulated else Granted

-- how a process ends that gets these answers
abbrev pub settled_under : List ℕ → Space → Process → Account → Settled
settled_under numbers space (ends way st) a = record { end = over way; state = st; account = a }
settled_under numbers space (stops stop st) a = record { end = stopped stop; state = st; account = a }
settled_under numbers space (asks t cut go) a =
    let answer = answer_under numbers (next_number a) t in
    settled_under numbers space (go (next_number a) answer) (recorded space (next_number a) t answer a)
settled_under numbers space (notes q p) a = settled_under numbers space p (noted space q a)

-- A placing doesn't say how long the heap is. Only notes tell of that, and no law compares the notes of such a run.
abbrev pub no_space : Space
no_space = record { least = 0; bound = 0; step = 0 }

-- The run in which the attempts of a set fail, in a heap with this choice of places. A device's heap chooses only what is valid: a new cell meets no live
-- cell but, if it is one that grows, itself, and a cell stays only if the bytes after it are free. The laws hold without that condition,
-- since a pointer names a cell by its place and number, and no two cells have one number, even where they overlap.
abbrev pub placed_run : Script → ℕ → List ℕ → Placement → RunResult
placed_run script budget numbers placement = result_of (settled_under numbers no_space (process script budget placement) (before no_space))

-- the same attempt, but for the place of its cell
pub record IsSameAttempt (t u : Attempt) : Type 0 where
  pub number : u.number ≡ t.number
  pub length : u.length ≡ t.length
  pub answer : u.answer ≡ t.answer

-- Equal but for the places in the trace, and for notes. These tell of the heap itself, and no statement of a script reads them.
pub record IsSameButPlaces (x y : RunResult) : Type 0 where
  pub outcome : y.outcome ≡ x.outcome
  pub trace : AllBeside IsSameAttempt x.trace y.trace
  pub lines : y.lines ≡ x.lines
  pub steps : y.steps ≡ x.steps
