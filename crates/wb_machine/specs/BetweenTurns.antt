-- What holds between two turns of a run, of the pieces that are left and of the state, and what no turn changes.
use Rattle.std.specs.Prelude.{◌≡◌, ◌⊎◌, ℕ, ◌+◌, ◌≤◌, Bool, true, false, List}
use Rattle.wb_tree.specs.declared.script.Script.{Script}
use Rattle.wb_heap_model.specs.Debug.{keeps_rises}
use Rattle.wb_machine.specs.declared.pieces.Ending.{Ending}
use Rattle.wb_machine.specs.declared.pieces.PendingPiece.{PendingPiece}
use Rattle.wb_machine.specs.RunState.{RunState}
use Rattle.wb_machine.specs.Flow.{is_stop, is_over, AreSound, IsFirst, IsReady}
use Rattle.wb_machine.specs.ObjectInvariant.{AreWhole}
use Rattle.wb_machine.specs.Owed.{HasStack}
use Rattle.wb_machine.specs.SlotInvariant.{HasRoom}

-- a turn is to come, of which the first may have been taken, or the run is over
pub record IsBetweenTurns (script : Script) (budget : ℕ) (begun : Bool) (ending : Ending) (pieces : List PendingPiece) (h : RunState) : Type 0 where
  pub within : h.steps ≤ budget
  -- each attempt took a step, but for the first
  pub counted : h.debug.attempts ≤ h.steps + 1
  -- each mark took a step
  pub level : h.debug.heap.level ≤ h.steps
  pub first : begun ≡ false → IsFirst ending pieces h
  -- a step is to come, or the run is over
  pub settled : begun ≡ true → (is_over ending pieces ≡ true) ⊎ IsReady ending pieces
  -- a run that isn't stopped has its cleanup stack
  pub stack : begun ≡ true → is_stop ending ≡ false → HasStack h
  pub pieces_are : AreSound script pieces
  -- a slot of the stack is free, or items come off before anything is pushed
  pub room : begun ≡ true → HasRoom ending pieces h
  -- an object has a pointer for each field of its class
  pub whole : AreWhole script h.debug.heap.row

-- what turns leave as it was, and that they take no attempt back
pub record KeepsSetting (before after : RunState) : Type 0 where
  pub rule : after.debug.rule ≡ before.debug.rule
  pub shape : after.debug.shape ≡ before.debug.shape
  pub kept : keeps_rises after.debug ≡ keeps_rises before.debug
  pub fewer : before.debug.attempts ≤ after.debug.attempts
