-- What a run in which the attempts of a set fail shows of the run in a heap.
use Rattle.std.specs.Prelude.{◌≡◌, ℕ, ◌-◌, List, [], ◌∷◌, Bool, true, false, nat_le, nat_lt, if◌then◌else◌, Option, Some, None, slice_get}
use Rattle.wb_heap_model.specs.declared.heap.Attempt.{Attempt}
use Rattle.wb_heap_model.specs.declared.heap.Shape.{Shape}
use Rattle.wb_meaning.specs.declared.run.Outcome.{Outcome}
use Rattle.wb_meaning.specs.declared.run.Outcome.TheVariants.{Cut}
use Rattle.wb_meaning.specs.declared.run.RunResult.{RunResult}
use Rattle.wb_meaning.specs.declared.run.Why.TheVariants.{Ceiling}
use Rattle.wb_tree.specs.declared.script.Script.{Script}
use Rattle.wb_heap_model.specs.Reported.{end_of_attempt}
use Rattle.wb_heap_model.specs.Rises.{highest_end}
use Rattle.wb_runs.specs.Lengths.{run_in}

-- What a result tells of the run in a heap of some length: how it ends, after how many steps, and how far up its granted cells end. The
-- two may differ in notes, and in how the trace names refusals.
pub record TellsRunIn (script : Script) (budget : ℕ) (shape : Shape) (length : ℕ) (told : RunResult) : Type 0 where
  pub outcome : told.outcome ≡ (run_in script budget shape length).outcome
  pub steps : told.steps ≡ (run_in script budget shape length).steps
  pub top : highest_end told.trace ≡ highest_end (run_in script budget shape length).trace

-- the ceiling cut the run
abbrev pub is_cut_at_ceiling : Outcome → Bool
is_cut_at_ceiling (Cut Ceiling) = true
is_cut_at_ceiling _ = false

-- the cell of a line would end past a length; where there is no line, there is nothing to show
abbrev pub is_past : ℕ → Option Attempt → Bool
is_past length None = true
is_past length (Some t) = nat_lt length (end_of_attempt t)

-- so would those of all lines of a trace with these numbers
abbrev pub are_past : ℕ → List Attempt → List ℕ → Bool
are_past length trace [] = true
are_past length trace (n ∷ ns) = if is_past length (slice_get trace (n - 1)) then are_past length trace ns else false

-- A run in which the attempts with these numbers fail shows that a heap of a length has the same run: the ceiling doesn't cut it, its
-- granted cells end within the length, and the cells of the attempts with these numbers would end past it.
abbrev pub shows_run_in : ℕ → List ℕ → RunResult → Bool
shows_run_in length numbers told =
    if is_cut_at_ceiling told.outcome then false
    else (if nat_le (highest_end told.trace) length then are_past length told.trace numbers else false)
