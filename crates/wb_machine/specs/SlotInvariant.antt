-- The free slot of the cleanup stack, while pieces are pending.
use Rattle.std.specs.Prelude.{◌≡◌, ℕ, ◌+◌, ◌<◌, ◌≤◌, List, [], ◌∷◌, false, length, max}
use Rattle.wb_machine.specs.declared.pieces.Ending.{Ending}
use Rattle.wb_machine.specs.declared.pieces.Ending.TheVariants.{GoesOn, Leaves}
use Rattle.wb_machine.specs.declared.pieces.PendingPiece.{PendingPiece}
use Rattle.wb_machine.specs.declared.pieces.PendingPiece.TheVariants.{Items, Trap}
use Rattle.wb_machine.specs.RunState.{RunState}
use Rattle.wb_machine.specs.Flow.{is_stop}

-- how many slots there were at least at the entry of a TRAP, as one was free; any other piece tells of none
abbrev pub slots_for : PendingPiece → ℕ
slots_for (Trap at x entry) = entry + 1
slots_for _ = 0

-- the most of these
abbrev pub slots_for_all : List PendingPiece → ℕ
slots_for_all [] = 0
slots_for_all (p ∷ ps) = max (slots_for p) (slots_for_all ps)

-- how many items a piece is to destroy
abbrev pub to_destroy : PendingPiece → ℕ
to_destroy (Items at left) = left
to_destroy _ = 0

-- how many the piece on top is to destroy
abbrev pub to_destroy_first : List PendingPiece → ℕ
to_destroy_first [] = 0
to_destroy_first (p ∷ []) = to_destroy p
to_destroy_first (p ∷ q ∷ ps) = to_destroy_first (q ∷ ps)

-- a slot is free, and one was at the entry of each TRAP
pub record IsFree (pieces : List PendingPiece) (h : RunState) : Type 0 where
  pub entered : slots_for_all pieces ≤ h.slots
  pub free : length h.items < h.slots

-- at least one item comes off after a leave
abbrev pub after_leave : Ending → ℕ
after_leave (Leaves code) = 1
after_leave _ = 0

-- how many items come off before anything can be pushed
abbrev pub coming_off : Ending → List PendingPiece → ℕ
coming_off GoesOn pieces = to_destroy_first pieces
coming_off (Leaves code) pieces = 1
coming_off _ pieces = 0

-- a slot is free once so many items come off, and one was at the entry of each TRAP
pub record IsFreeAfter (coming : ℕ) (pieces : List PendingPiece) (h : RunState) : Type 0 where
  pub entered : slots_for_all pieces ≤ h.slots
  pub some : 1 ≤ h.slots
  pub within : length h.items ≤ h.slots
  pub free : length h.items < h.slots + coming

-- a slot is free for the next push, unless the run is stopped
abbrev pub HasRoom : Ending → List PendingPiece → RunState → Type 0
HasRoom ending pieces h = is_stop ending ≡ false → IsFreeAfter (coming_off ending pieces) pieces h

-- the same where the piece on top is done
abbrev pub HasRoomUnder : Ending → List PendingPiece → RunState → Type 0
HasRoomUnder ending pieces h = is_stop ending ≡ false → IsFreeAfter (after_leave ending) pieces h
