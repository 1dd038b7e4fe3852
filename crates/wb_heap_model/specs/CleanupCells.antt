-- The items of the cleanup stack in the words of its cell: slots of four words, the oldest item first.
use Rattle.std.specs.Prelude.{◌≡◌, ℕ, zero, suc, ◌*◌, ◌%◌, ◌^◌, ◌<◌, ◌≤◌, ◌&&◌, List, [], ◌∷◌, ◌++◌, Option, Some, None, option_map, All, length, take, nat_eq, nat_lt, if◌then◌else◌}
use Rattle.wb_heap_model.specs.declared.heap.Ptr.{Ptr}
use Rattle.wb_heap_model.specs.declared.heap.Kind.TheVariants.{Cleanup}
use Rattle.wb_heap_model.specs.declared.heap.Item.{Item}
use Rattle.wb_heap_model.specs.declared.heap.Item.TheVariants.{Free, Delete, Call}
use Rattle.wb_heap_model.specs.Row.{Cell, cell_at, usable_of}
use Rattle.wb_heap_model.specs.Debug.{Debug}

-- the words of an item's slot: what is done with it, its pointer, and its operation, or 0 where it has none
abbrev pub slot_words : Item → List ℕ
slot_words (Free p) = 1 ∷ p.place ∷ p.number ∷ 0 ∷ []
slot_words (Delete p) = 2 ∷ p.place ∷ p.number ∷ 0 ∷ []
slot_words (Call p operation) = 3 ∷ p.place ∷ p.number ∷ operation ∷ []

-- the words of items, slot by slot
abbrev pub items_words : List Item → List ℕ
items_words [] = []
items_words (item ∷ items) = slot_words item ++ items_words items

-- an operation's index has 16 bits
abbrev pub IsItem : Item → Type 0
IsItem (Free p) = Unit {0}
IsItem (Delete p) = Unit {0}
IsItem (Call p operation) = operation < 2 ^ 16

-- the words are this number of slots, of which the first spell these items; the others may hold anything
pub record IsCleanup (slots : ℕ) (ws : List ℕ) (items : List Item) : Type 0 where
  pub words : take (4 * length items) ws ≡ items_words items
  pub room : length ws ≡ 4 * slots
  pub fits : length items ≤ slots
  pub are_items : All IsItem items

-- the pointer names the cleanup stack's cell, with these items in this number of slots
pub record IsCleanupAt (p : Ptr) (slots : ℕ) (items : List Item) (d : Debug) : Type 0 where
  pub cell : Cell (List ℕ)
  pub found : cell_at p d.heap.row ≡ Some cell
  pub kind : cell.head.kind ≡ Cleanup
  pub usable : usable_of cell.head ≡ 16 * slots
  pub whole : slots % 4 ≡ 0
  pub spells : IsCleanup slots cell.content items

-- the item that the four words of a slot spell
abbrev pub item_of : ℕ → Ptr → ℕ → Option Item
item_of what p operation =
    if nat_eq what 1 && nat_eq operation 0 then Some (Free p) else
    if nat_eq what 2 && nat_eq operation 0 then Some (Delete p) else
    if nat_eq what 3 && nat_lt operation (2 ^ 16) then Some (Call p operation) else None

abbrev pub item_before : Option Item → Option (List Item) → Option (List Item)
item_before None rest = None
item_before (Some item) rest = option_map (λ items. item ∷ items) rest

-- the items in a number of slots from the first on; `None` if one of these spells no item
abbrev pub items_in : ℕ → List ℕ → Option (List Item)
items_in zero ws = Some []
items_in (suc n) (what ∷ place ∷ number ∷ operation ∷ ws) =
    item_before (item_of what (record { place = place; number = number }) operation) (items_in n ws)
items_in (suc n) _ = None
