-- The cleanup stack as the list of its items, which are in a cell of a heap.
use Rattle.std.specs.Prelude.{◌≡◌, ℕ, ◌+◌, ◌-◌, ◌*◌, ◌≤◌, List, [], Bool, nat_le, if◌then◌else◌, Option, Some, None, length, take, unwrap_or}
use Rattle.wb_heap_model.specs.declared.heap.TheConstants.Panic.{POP_BELOW_TRAP, ANOTHER_ITEM_ON_TOP}
use Rattle.wb_basics.specs.declared.limits.TheConstants.{CEILING}
use Rattle.wb_heap_model.specs.declared.heap.Ptr.{Ptr}
use Rattle.wb_heap_model.specs.declared.heap.Item.{Item}
use Rattle.wb_heap_model.specs.declared.heap.Panic.{Panic}
use Rattle.wb_heap_model.specs.CellRow.{payload_of}
use Rattle.wb_heap_model.specs.CleanupCells.{IsCleanupAt, items_in}
use Rattle.wb_heap_model.specs.Debug.{Debug}
use Rattle.wb_heap_model.specs.Pointers.{is_same_pointer, item_pointer, newest}
use Rattle.wb_cleanup.specs.declared.cleanup.Cleanup.{Cleanup}

-- the pointer to the stack's cell
abbrev pub cell_of : Cleanup → Ptr
cell_of stack = stack.cell

-- how many items the cell has room for
abbrev pub slots_of : Cleanup → ℕ
slots_of stack = stack.slots

-- how many items are on it
abbrev pub count_of : Cleanup → ℕ
count_of stack = stack.used

-- the items that the first slots in the cell spell, the oldest first
abbrev pub items_of : Cleanup → Debug → List Item
items_of stack d = unwrap_or (items_in (count_of stack) (payload_of (cell_of stack) d.heap.row)) []

-- the stack is in the heap: the cell is valid there and a Cleanup cell with four words a slot, the slots are a multiple of 4,
-- and the first ones spell the items; with its header it is no longer than the ceiling, as no cell is
pub record IsStack (stack : Cleanup) (d : Debug) : Type 0 where
  pub cell : IsCleanupAt (cell_of stack) (slots_of stack) (items_of stack d) d
  pub counted : count_of stack ≡ length (items_of stack d)
  pub bounded : 16 * (slots_of stack + 1) ≤ CEILING

-- at least this number of items are above the first ones, which make up the floor
abbrev pub has_above : ℕ → ℕ → List Item → Bool
has_above floor n items = nat_le (floor + n) (length items)

-- the items but for the newest ones
abbrev pub all_but : ℕ → List Item → List Item
all_but n items = take (length items - n) items

-- the stack lost its newest items and nothing else: so it is in every heap in which it was
pub record IsPopped (n : ℕ) (old new : Cleanup) : Type 0 where
  pub cell : cell_of new ≡ cell_of old
  pub slots : slots_of new ≡ slots_of old
  pub within : n ≤ count_of old
  pub count : count_of new ≡ count_of old - n
  pub stands : (d : Debug) → IsStack old d → IsStack new d
  pub items : (d : Debug) → IsStack old d → items_of new d ≡ all_but n (items_of old d)

-- what a pop refuses, by the number of items that are there
abbrev pub pop_refusal : ℕ → ℕ → ℕ → Option Panic
pop_refusal floor n count = if nat_le (floor + n) count then None else Some POP_BELOW_TRAP

-- where another item is on top
abbrev pub refusal_of_top : Option Item → Ptr → Option Panic
refusal_of_top None p = Some POP_BELOW_TRAP
refusal_of_top (Some item) p = if is_same_pointer (item_pointer item) p then None else Some ANOTHER_ITEM_ON_TOP

-- the newest item above a floor
abbrev pub newest_above : ℕ → List Item → Option Item
newest_above floor items = if has_above floor 1 items then newest items else None

-- what the pop of an expected item refuses
abbrev pub expected_refusal : ℕ → Ptr → List Item → Option Panic
expected_refusal floor p items = refusal_of_top (newest_above floor items) p
