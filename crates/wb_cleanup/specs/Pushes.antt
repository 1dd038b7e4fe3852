-- What a push leaves: the item, and in the heap the growth of a stack that it fills.
use Rattle.std.specs.Prelude.{◌≡◌, ◌≢◌, ℕ, ◌+◌, ◌*◌, ◌<◌, ◌⊎◌, List, [], ◌∷◌, ◌++◌, Bool, true, false, nat_eq, if◌then◌else◌, Option, Some, None, length}
use Rattle.wb_heap_model.specs.declared.heap.Ptr.{Ptr}
use Rattle.wb_heap_model.specs.declared.heap.Item.{Item}
use Rattle.wb_heap_model.specs.declared.heap.Gave.{Gave}
use Rattle.wb_heap_model.specs.declared.heap.Gave.TheVariants as G
use Rattle.wb_heap_model.specs.Row.{Cell, cell_at}
use Rattle.wb_heap_model.specs.CellRow.{payload_of}
use Rattle.wb_heap_model.specs.Debug.{Debug, Made, debug_changed, realloc_made}
use Rattle.wb_cleanup.specs.declared.cleanup.Cleanup.{Cleanup}
use Rattle.wb_cleanup.specs.declared.cleanup.Pushed.{Pushed}
use Rattle.wb_cleanup.specs.declared.cleanup.Pushed.TheVariants.{Fine, Leave, Ceiling}
use Rattle.wb_cleanup.specs.Stacks.{cell_of, count_of, slots_of, items_of}

-- one item more fills the last slot
abbrev pub fills : Cleanup → Debug → Bool
fills stack d = nat_eq (length (items_of stack d) + 1) (slots_of stack)

-- a cell is reallocated; without a result it is as if the ceiling had cut it
abbrev pub remade : Debug → ℕ → Option (Cell (List ℕ)) → Made
remade d bytes None = record { debug = d; gave = G.Ceiling }
remade d bytes (Some c) = realloc_made d c bytes

-- the growth: the stack's cell for four slots more
abbrev pub growth : Cleanup → Debug → Made
growth stack d = remade d (16 * (slots_of stack + 4)) (cell_at (cell_of stack) d.heap.row)

-- what a push makes of the heap beside the words of the stack: the growth where it fills the last slot, and else nothing
abbrev pub push_made : Cleanup → Debug → Made
push_made stack d = if fills stack d then growth stack d else record { debug = d; gave = G.Granted (cell_of stack) }

-- what a push answers
abbrev pub pushed_by : Gave → Pushed
pushed_by (G.Granted p) = Fine
pushed_by G.Denied = Leave
pushed_by G.Ceiling = Ceiling

-- the cell of the stack after it; a granted growth may have moved it
abbrev pub cell_by : Ptr → Gave → Ptr
cell_by p (G.Granted q) = q
cell_by p _ = p

-- the slots after a push that fills the last one, or doesn't
abbrev pub slots_by : Bool → ℕ → Gave → ℕ
slots_by true slots (G.Granted q) = slots + 4
slots_by _ slots _ = slots

-- the items after it; where the ceiling cuts the run there is none more
abbrev pub items_by : List Item → Item → Gave → List Item
items_by items item G.Ceiling = items
items_by items item _ = items ++ item ∷ []

-- one heap is the other but for the words of one cell
abbrev pub IsButForWords : Ptr → Debug → Debug → Type 0
IsButForWords p d e = e ≡ debug_changed d p (payload_of p e.heap.row)

-- nothing has changed, neither the stack nor its heap
pub record IsUnchanged (old new : Cleanup) (d e : Debug) : Type 0 where
  pub stack : new ≡ old
  pub heap : e ≡ d

-- the items are the same, in whichever heap and cell
pub record KeepsItems (old new : Cleanup) (d e : Debug) : Type 0 where
  pub items : items_of new e ≡ items_of old d
  pub count : count_of new ≡ count_of old

-- what the growth leaves, by its answer
pub record GrowthLeaves (pushed : Pushed) (old new : Cleanup) (d e : Debug) : Type 0 where
  pub answer : pushed ≡ pushed_by (growth old d).gave
  pub heap : e ≡ (growth old d).debug
  pub slots : slots_of new ≡ slots_by true (slots_of old) (growth old d).gave
  pub cell : cell_of new ≡ cell_by (cell_of old) (growth old d).gave
  pub fine : pushed ≡ Fine → slots_of new ≡ slots_of old + 4
  pub ceiling : pushed ≡ Ceiling → new ≡ old

-- what is left by its answer where room is made for a push: the growth where the item fills the last slot, and else the same
pub record RoomLeaves (pushed : Pushed) (old new : Cleanup) (d e : Debug) : Type 0 where
  pub answer : pushed ≡ pushed_by (push_made old d).gave
  pub heap : e ≡ (push_made old d).debug
  pub slots : slots_of new ≡ slots_by (fills old d) (slots_of old) (push_made old d).gave
  pub cell : cell_of new ≡ cell_by (cell_of old) (push_made old d).gave
  pub fine : pushed ≡ Fine → count_of new + 1 < slots_of new
  pub ceiling : pushed ≡ Ceiling → new ≡ old

-- what a push leaves, by its answer: the item on top, unless the ceiling cuts the run, in the cell and the slots that the growth
-- gives; and a free slot, unless the growth was refused
pub record PushLeaves (pushed : Pushed) (item : Item) (old new : Cleanup) (d e : Debug) : Type 0 where
  pub answer : pushed ≡ pushed_by (push_made old d).gave
  pub items : items_of new e ≡ items_by (items_of old d) item (push_made old d).gave
  pub slots : slots_of new ≡ slots_by (fills old d) (slots_of old) (push_made old d).gave
  pub cell : cell_of new ≡ cell_by (cell_of old) (push_made old d).gave
  pub heap : IsButForWords (cell_of new) (push_made old d).debug e
  pub room : pushed ≢ Leave → count_of new < slots_of new
  pub ceiling : pushed ≡ Ceiling → IsUnchanged old new d e

-- a push that takes no memory: one that the ceiling cuts, or that fills no last slot
abbrev pub IsFree : Cleanup → Debug → Type 0
IsFree stack d = ((push_made stack d).gave ≡ G.Ceiling) ⊎ (fills stack d ≡ false)
