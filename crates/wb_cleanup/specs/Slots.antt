-- One slot of the cleanup stack among the words of its cell.
use Rattle.std.specs.Prelude.{◌≡◌, ℕ, ◌+◌, ◌*◌, ◌^◌, ◌<◌, ◌≤◌, List, ◌++◌, length, take, drop}
use Rattle.wb_heap_model.specs.declared.heap.Item.{Item}
use Rattle.wb_heap_model.specs.CleanupCells.{slot_words, IsItem}

-- words in place of as many others, from a place on
abbrev pub with_words : ℕ → List ℕ → List ℕ → List ℕ
with_words at new ws = take at ws ++ new ++ drop (at + length new) ws

-- the four words of a slot
abbrev pub words_of_slot : ℕ → List ℕ → List ℕ
words_of_slot slot ws = take 4 (drop (4 * slot) ws)

-- the slot is within the words of a cell, and spells an item
pub record IsSlot (slot : ℕ) (ws : List ℕ) : Type 0 where
  pub within : 4 * (slot + 1) ≤ length ws
  pub bounded : length ws < 2 ^ 32
  pub item : Item
  pub is_item : IsItem item
  pub spells : words_of_slot slot ws ≡ slot_words item
