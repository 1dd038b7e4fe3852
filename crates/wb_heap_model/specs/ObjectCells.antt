-- Objects in cells: the words of an object with these fields.
use Rattle.std.specs.Prelude.{◌≡◌, ℕ, ◌+◌, ◌*◌, ◌≤◌, List, [], ◌∷◌, Some, length}
use Rattle.wb_heap_model.specs.declared.heap.Ptr.{Ptr}
use Rattle.wb_heap_model.specs.declared.heap.Kind.TheVariants.{Object}
use Rattle.wb_heap_model.specs.Row.{Cell, cell_at}
use Rattle.wb_heap_model.specs.Texts.{exactly}
use Rattle.wb_heap_model.specs.Spelling.{fields_in}
use Rattle.wb_heap_model.specs.Debug.{Debug}

-- the words of pointers: the place and the number of each
abbrev pub pointer_words : List Ptr → List ℕ
pointer_words [] = []
pointer_words (p ∷ ps) = p.place ∷ p.number ∷ pointer_words ps

-- the words of an object: the index of its class, 0, its fields, and zeros up to a number of words
abbrev pub object_words : ℕ → ℕ → List Ptr → List ℕ
object_words n class fields = exactly n (class ∷ 0 ∷ pointer_words fields)

-- the words are those of an object of the class with these fields, for which they have room
pub record IsObject (class : ℕ) (ws : List ℕ) (fields : List Ptr) : Type 0 where
  pub words : ws ≡ object_words (length ws) class fields
  pub fits : 2 + 2 * length fields ≤ length ws

-- the pointer names an object of the class, which has this number of fields
pub record IsObjectAt (p : Ptr) (class count : ℕ) (d : Debug) : Type 0 where
  pub cell : Cell (List ℕ)
  pub found : cell_at p d.heap.row ≡ Some cell
  pub kind : cell.head.kind ≡ Object class
  pub object : IsObject class cell.content (fields_in count cell.content)
  pub counted : length (fields_in count cell.content) ≡ count
