-- What callers see of a turn.
use Rattle.std.specs.Prelude.{◌≡◌, ◌↔◌, ◌+◌, ◌≤◌, true, false, min}
use Rattle.wb_meaning.specs.Run.{MakesMoreThan, run}
use Rattle.wb_machine.specs.declared.machine.Turn.{Turn}
use Rattle.wb_machine.specs.declared.machine.Turn.TheVariants.{GoesOn, Ended}
use Rattle.wb_machine.specs.Asks.{MakesAsked}
use Rattle.wb_machine.specs.Seen.{Seen, line_after}

-- the run is of the same script, under the same rule, budget and shape, and keeps the same of its attempts
pub record IsSameRun (old new : Seen) : Type 0 where
  pub script : new.script ≡ old.script
  pub rule : new.rule ≡ old.rule
  pub budget : new.budget ≡ old.budget
  pub shape : new.shape ≡ old.shape
  pub keeps_rises : new.keeps_rises ≡ old.keeps_rises

-- what a turn leaves, by its answer
pub record TurnLeaves (turn : Turn) (old new : Seen) : Type 0 where
  pub begun : new.begun ≡ true
  pub well : new.failed ≡ false
  -- the first makes attempt 1, and counts no step
  pub first : old.begun ≡ false → new.steps ≡ 0
  pub one : old.begun ≡ false → new.attempts ≡ 1
  -- each later one counts a step, unless the budget is used up
  pub later : old.begun ≡ true → old.over ≡ false → new.steps ≡ min (old.steps + 1) old.budget
  pub counted : old.begun ≡ true → turn ≡ GoesOn → new.steps ≡ old.steps + 1
  pub within : new.steps ≤ new.budget
  -- it makes the attempt that it asks for, unless the ceiling cuts the run
  pub made : MakesAsked old.asks new.met_ceiling old.attempts new.attempts
  pub ceiling : new.met_ceiling ≡ true → new.over ≡ true
  pub ended : (turn ≡ Ended) ↔ (new.over ≡ true)
  pub line : new.line ≡ line_after old

-- the run of a machine makes more attempts than the machine has made so far, or the ceiling cuts it there
abbrev pub MakesMore : Seen → Type 0
MakesMore m = MakesMoreThan m.attempts (run m.script m.rule m.budget m.shape)
