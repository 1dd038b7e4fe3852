-- How deep a run is, by its pending pieces.
use Rattle.std.specs.Prelude.{ℕ, Bool, true, false, List, count_by}
use Rattle.wb_machine.specs.declared.pieces.PendingPiece.{PendingPiece}
use Rattle.wb_machine.specs.declared.pieces.PendingPiece.TheVariants.{Trap}

-- a TRAP of the script; `main`'s own is none
abbrev pub is_trap : PendingPiece → Bool
is_trap (Trap at x entry) = true
is_trap _ = false

-- how many TRAPs of the script are open
abbrev pub open_traps_in : List PendingPiece → ℕ
open_traps_in pieces = count_by is_trap pieces
