-- What carrying out a statement on the cleanup stack makes of the state of a run.
use Rattle.std.specs.Prelude.{◌≡◌, ℕ, ◌+◌, ◌-◌, ◌*◌, List, [], ◌∷◌, ◌++◌, Bool, nat_eq, if◌then◌else◌, Option, Some, None, length, take}
use Rattle.wb_heap_model.specs.declared.heap.TheConstants.{KERR_NO_MEMORY}
use Rattle.wb_heap_model.specs.declared.heap.TheConstants.Panic.{NUMBER_OUT_OF_RANGE}
use Rattle.wb_heap_model.specs.declared.heap.Ptr.{Ptr}
use Rattle.wb_heap_model.specs.declared.heap.Item.{Item}
use Rattle.wb_heap_model.specs.declared.heap.Gave.{Gave}
use Rattle.wb_heap_model.specs.declared.heap.Gave.TheVariants.{Granted, Denied, Ceiling}
use Rattle.wb_meaning.specs.declared.run.Why.TheVariants as why
use Rattle.wb_heap_model.specs.Row.{cell_at}
use Rattle.wb_heap_model.specs.CellRow.{payload_of}
use Rattle.wb_heap_model.specs.CleanupCells.{IsCleanupAt}
use Rattle.wb_heap_model.specs.Debug.{Debug, Made, debug_changed}
use Rattle.wb_cleanup.specs.Pushes.{cell_by, remade, slots_by}
use Rattle.wb_cleanup.specs.Stacks.{expected_refusal, pop_refusal}
use Rattle.wb_machine.specs.declared.pieces.Ending.TheVariants.{Cut}
use Rattle.wb_machine.specs.RunState.{RunState}
use Rattle.wb_machine.specs.Effects.{Effect, gone_on, left_with, panicked, unless_refused}

-- the stack's cell is there, with its items in its slots
abbrev pub IsStackThere : RunState → Type 0
IsStackThere h = IsCleanupAt h.cleanup h.slots h.items h.debug

-- one item more fills the last slot
abbrev pub is_filled : RunState → Bool
is_filled h = nat_eq (length h.items + 1) h.slots

-- the growth of a stack that is then full, and nothing for one that isn't
abbrev pub growth_made : RunState → Bool → Made
growth_made h filled =
    if filled then remade h.debug (16 * (h.slots + 4)) (cell_at h.cleanup h.debug.heap.row) else record { debug = h.debug; gave = Granted h.cleanup }

-- the item is on the stack, whose cell has these words then
abbrev pub with_item : RunState → Item → List ℕ → Bool → Debug → Gave → RunState
with_item h item ws filled d gave = record h {
  debug = debug_changed d (cell_by h.cleanup gave) ws;
  cleanup = cell_by h.cleanup gave;
  items = h.items ++ item ∷ [];
  slots = slots_by filled h.slots gave;
}

-- an item was pushed, whatever words the free slots hold
abbrev pub IsPushed : RunState → Item → RunState → Type 0
IsPushed h item g =
    let made = growth_made h (is_filled h) in
    g ≡ with_item h item (payload_of g.cleanup g.debug.heap.row) (is_filled h) made.debug made.gave

-- a push that leaves where the growth was refused; where the ceiling cuts it there is no item more
abbrev pub push_by : RunState → Item → List ℕ → Bool → Debug → Gave → Effect
push_by h item ws filled d (Granted p) = gone_on (with_item h item ws filled d (Granted p))
push_by h item ws filled d Denied = left_with (with_item h item ws filled d Denied) KERR_NO_MEMORY
push_by h item ws filled d Ceiling = record { ending = Cut why.Ceiling; state = h }

-- a push onto a stack that has a free slot
abbrev pub push_effect : RunState → Item → List ℕ → Effect
push_effect h item ws =
    let made = growth_made h (is_filled h) in
    push_by h item ws (is_filled h) made.debug made.gave

-- the newest items are gone
abbrev pub without_newest : RunState → ℕ → RunState
without_newest h n = record h { items = take (length h.items - n) h.items }

-- a pop of a number of items that may be out of its range
abbrev pub pop_within : RunState → ℕ → Option ℕ → Effect
pop_within h floor None = panicked h NUMBER_OUT_OF_RANGE
pop_within h floor (Some n) = unless_refused h (pop_refusal floor n (length h.items)) (without_newest h n)

-- a pop of the newest item, of which the pointer is known
abbrev pub pop_check_effect : RunState → ℕ → Ptr → Effect
pop_check_effect h floor p = unless_refused h (expected_refusal floor p h.items) (without_newest h 1)
