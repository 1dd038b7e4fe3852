-- What must hold before a step, and before a statement that begins in it: of the pieces that are left, and of the state.
use Rattle.std.specs.Prelude.{◌≡◌, ◌+◌, ◌^◌, ◌<◌, List}
use Rattle.wb_tree.specs.declared.script.Script.{Script}
use Rattle.wb_machine.specs.declared.pieces.Ending.{Ending}
use Rattle.wb_machine.specs.declared.pieces.Ending.TheVariants.{GoesOn}
use Rattle.wb_machine.specs.declared.pieces.PendingPiece.{PendingPiece}
use Rattle.wb_machine.specs.RunState.{RunState}
use Rattle.wb_machine.specs.Flow.{AreSound, IsReady}
use Rattle.wb_machine.specs.Owed.{HasStack, MayAttempt}
use Rattle.wb_machine.specs.SlotInvariant.{HasRoom, IsFree}

-- a step may be taken of the piece on top
pub record MayStep (script : Script) (ending : Ending) (pieces : List PendingPiece) (h : RunState) : Type 0 where
  pub ready : IsReady ending pieces
  pub sound : AreSound script pieces
  -- a slot of the cleanup stack is free, or items come off first
  pub room : HasRoom ending pieces h
  pub stack : HasStack h
  -- an attempt, a mark and a step more have numbers of 32 bits
  pub number : MayAttempt h
  pub level : h.debug.heap.level + 1 < 2 ^ 32
  pub steps : h.steps + 1 < 2 ^ 32

-- a statement may begin over the pieces that come after it; its step is counted
pub record MayBegin (script : Script) (ending : Ending) (pieces : List PendingPiece) (h : RunState) : Type 0 where
  pub going : ending ≡ GoesOn
  pub sound : AreSound script pieces
  -- a slot of the cleanup stack is free
  pub free : IsFree pieces h
  pub stack : HasStack h
  -- an attempt and a mark more have numbers of 32 bits
  pub number : MayAttempt h
  pub level : h.debug.heap.level + 1 < 2 ^ 32
