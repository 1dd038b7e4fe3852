-- What a sweep says of every failure: the least whose run is bad, or that none is.
use Rattle.std.specs.Prelude.{◌≡◌, ℕ, ◌+◌, List, true, Some, None, IfSome, length, slice_get}
use Rattle.wb_runs.specs.declared.failures.Failing.{Failing}
use Rattle.wb_runs.specs.declared.failures.Failures.{Failures}
use Rattle.wb_heap_model.specs.declared.heap.Attempt.{Attempt}
use Rattle.wb_heap_model.specs.declared.heap.Shape.{Shape}
use Rattle.wb_runs.specs.declared.part.Part.{Part}
use Rattle.wb_meaning.specs.declared.run.RunResult.{RunResult}
use Rattle.wb_tree.specs.declared.script.Script.{Script}
use Rattle.wb_runs.specs.Parts.{last_attempt, IsFoundIn, IsNoneIn}
use Rattle.wb_meaning.specs.Run.{is_bad}
use Rattle.wb_runs.specs.SweepAnswers.{IsFound, IsNoneFound}
use Rattle.wb_runs.specs.Sweeps.{runs_of}
use Rattle.wb_sweep.specs.declared.found.Found.{Found}
use Rattle.wb_sweep.specs.declared.found.Sweep.{Sweep}

-- each line of a trace has its index, counted from 1, as its number
abbrev pub IsNumbered : List Attempt → Type 0
IsNumbered trace = (k : ℕ) (t : Attempt) → slice_get trace k ≡ Some t → t.number ≡ k + 1

-- what is found of a bad run
pub record IsBadAt (at : Failing) (run_result : RunResult) (found : Found) : Type 0 where
  pub bad : is_bad run_result ≡ true
  pub failing : found.at ≡ at
  pub result : found.result ≡ run_result

-- All failures are spoken of, also those past the last attempt.
pub record IsSweep (failures : Failures) (script : Script) (budget : ℕ) (shape : Shape) (sweep : Sweep) : Type 0 where
  pub attempts : sweep.attempts ≡ length (runs_of failures script budget shape 0).trace
  pub found : IfSome sweep.found (λ found. IsFound failures script budget shape found.at found.result)
  pub none : sweep.found ≡ None → IsNoneFound failures script budget shape

-- The same of a part: the failures of its numbers are spoken of, up to the last attempt.
pub record IsSweepIn (failures : Failures) (part : Part) (script : Script) (budget : ℕ) (shape : Shape) (sweep : Sweep) : Type 0 where
  pub attempts : sweep.attempts ≡ last_attempt failures script budget shape
  pub found : IfSome sweep.found (λ found. IsFoundIn failures part script budget shape found.at found.result)
  pub none : sweep.found ≡ None → IsNoneIn failures part script budget shape
