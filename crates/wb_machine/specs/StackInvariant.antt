-- The cleanup stack beside the heap that it is in, and what always holds of both.
use Rattle.std.specs.Prelude.{◌≡◌, ℕ, List, [], Option, Some, None}
use Rattle.wb_heap_model.specs.declared.heap.Ptr.{Ptr}
use Rattle.wb_heap_model.specs.declared.heap.Item.{Item}
use Rattle.wb_heap_model.specs.Row.{Cell}
use Rattle.wb_heap_model.specs.Pointers.{null}
use Rattle.wb_heap_model.specs.Debug.{Debug, IsSoundDebug}
use Rattle.wb_cleanup.specs.declared.cleanup.Cleanup.{Cleanup}
use Rattle.wb_cleanup.specs.Stacks.{IsStack, cell_of, slots_of, items_of}
use Rattle.wb_machine.specs.TextInvariant.{AreTexts}

-- the pointer to the cell of a stack; null where there is none yet
abbrev pub cell_or_null : Option Cleanup → Ptr
cell_or_null None = null
cell_or_null (Some stack) = cell_of stack

-- its items, from the oldest on
abbrev pub items_or_none : Option Cleanup → Debug → List Item
items_or_none None d = []
items_or_none (Some stack) d = items_of stack d

-- how many it has room for
abbrev pub slots_or_first : Option Cleanup → ℕ
slots_or_first None = 8
slots_or_first (Some stack) = slots_of stack

-- where there is a stack it is in each heap with these cells
abbrev pub StandsIn : Option Cleanup → List (Cell (List ℕ)) → Type 0
StandsIn None row = Unit {0}
StandsIn (Some stack) row = (d : Debug) → d.heap.row ≡ row → IsStack stack d

-- the heap is sound, its text cells hold texts, and the stack is in it
pub record IsMemory (d : Debug) (stack : Option Cleanup) : Type 0 where
  pub sound : IsSoundDebug d
  pub texts : AreTexts d.heap.row
  pub stands : StandsIn stack d.heap.row
