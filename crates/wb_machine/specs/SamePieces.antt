-- Pending pieces, as a machine holds them, that are the same but for allocation numbers.
use Rattle.std.specs.Prelude.{◌≡◌, ℕ, ℤ, Bool, true, false, List}
use Rattle.std.specs.Borrow.{Bor}
use Rattle.wb_heap_model.specs.declared.heap.Ptr.{Ptr}
use Rattle.wb_tree.specs.declared.script.StatementAt.{StatementAt}
use Rattle.wb_renaming.specs.SameButNumbers.{Names, AllBeside, IsSamePointer, IsSameValue, IsSamePending}
use Rattle.wb_machine.specs.declared.pieces.After.{After}
use Rattle.wb_machine.specs.declared.pieces.After.TheVariants.{Nothing, Gives, Releases}
use Rattle.wb_machine.specs.declared.pieces.Context as pieces
use Rattle.wb_machine.specs.declared.pieces.PendingPiece.{PendingPiece}
use Rattle.wb_machine.specs.declared.pieces.PendingPiece.TheVariants.{Code, Turns, Items, Object, Trap, Caught, MainTrap, MainCaught, Call}
use Rattle.wb_machine.specs.Flow.{pending_in}
use Rattle.wb_machine.specs.RunState.{Values}

pub data IsSameAfter (names : Names) : After → After → Type 0 where
  same_nothing : IsSameAfter names Nothing Nothing
  same_gives : (x : ℕ) → IsSameAfter names (Gives x) (Gives x)
  same_releases : {p q : Ptr} → IsSamePointer names p q → IsSameAfter names (Releases p) (Releases q)

-- The same piece at the same place of the script. A place is told by what is still to do there.
pub data IsSamePiece (names : Names) : PendingPiece → PendingPiece → Type 0 where
  same_code : (at : pieces.Context) {s t : Bor (List StatementAt)} → t.now ≡ s.now → IsSamePiece names (Code at s) (Code at t)
  same_turns : (at : pieces.Context) (left : ℕ) {s t : Bor (List StatementAt)} → t.now ≡ s.now → IsSamePiece names (Turns at left s) (Turns at left t)
  same_items : (at : pieces.Context) (left : ℕ) → IsSamePiece names (Items at left) (Items at left)
  same_object : (at : pieces.Context) {p q : Ptr} → IsSamePointer names p q → IsSamePiece names (Object at p) (Object at q)
  same_trap : (at : pieces.Context) (x entry : ℕ) → IsSamePiece names (Trap at x entry) (Trap at x entry)
  same_caught : (x : ℕ) (code : ℤ) → IsSamePiece names (Caught x code) (Caught x code)
  same_main_trap : IsSamePiece names MainTrap MainTrap
  same_main_caught : (code : ℤ) → IsSamePiece names (MainCaught code) (MainCaught code)
  same_call : (base : ℕ) {this other : Ptr} {after other_after : After} → IsSamePointer names this other → IsSameAfter names after other_after →
      IsSamePiece names (Call base this after) (Call base other other_after)

-- a piece that ends a TRAP, or follows its end
abbrev pub is_of_trap : PendingPiece → Bool
is_of_trap (Trap at x entry) = true
is_of_trap (Caught x code) = true
is_of_trap MainTrap = true
is_of_trap (MainCaught code) = true
is_of_trap _ = false

-- pieces are the same but for numbers, over any locals of the frames below that are so
abbrev pub ArePendingAlike : Names → List PendingPiece → List PendingPiece → Type 0
ArePendingAlike names pieces others =
    (callers other_callers : Values) → AllBeside (IsSameValue names) callers other_callers →
    AllBeside (IsSamePending names) (pending_in callers pieces) (pending_in other_callers others)
