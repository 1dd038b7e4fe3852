-- Texts in cells: the words of a text, and the debug heap once a cell holds another text.
use Rattle.std.specs.Prelude.{◌≡◌, ℕ, ◌+◌, ◌-◌, ◌*◌, ◌^◌, ◌≤◌, List, [], ◌∷◌, Option, Some, None, Ok, Err, length, take, drop, slice_index}
use Rattle.wb_heap_model.specs.declared.heap.Ptr.{Ptr}
use Rattle.wb_heap_model.specs.declared.heap.Kind.TheVariants.{Text}
use Rattle.wb_heap_model.specs.declared.heap.Gave.{Gave}
use Rattle.wb_heap_model.specs.declared.heap.Gave.TheVariants.{Granted}
use Rattle.wb_heap_model.specs.Row.{Cell, cell_at, usable_of}
use Rattle.wb_heap_model.specs.CellRow.{payload_of}
use Rattle.wb_heap_model.specs.Texts.{AreUnits, Edited, exactly, max_units}
use Rattle.wb_heap_model.specs.Spelling.{halves}
use Rattle.wb_heap_model.specs.Debug.{Debug, debug_changed}

-- units two to a word, the lower half first
abbrev pub joined : List ℕ → List ℕ
joined (a ∷ b ∷ us) = (a + b * 2 ^ 16) ∷ joined us
joined (a ∷ []) = a ∷ []
joined [] = []

-- a number of words have room for a number of units after the length
abbrev pub room_in : ℕ → ℕ
room_in n = 2 * (n - 1)

-- the words of a text, filled up with zero units to a number of words
abbrev pub text_words : ℕ → List ℕ → List ℕ
text_words n t = length t ∷ joined (exactly (room_in n) t)

-- the units after the length, those past it too
abbrev pub units_after : List ℕ → List ℕ
units_after ws = halves (drop 1 ws)

-- the text that words read as
abbrev pub text_in : List ℕ → List ℕ
text_in ws = take (slice_index ws 0) (units_after ws)

-- the words are those of the text, for which they have room
pub record IsText (ws t : List ℕ) : Type 0 where
  pub words : ws ≡ text_words (length ws) t
  pub fits : length t ≤ room_in (length ws)
  pub units : AreUnits t

-- the text in the cell that a pointer names
abbrev pub text_at : Ptr → Debug → List ℕ
text_at p d = text_in (payload_of p d.heap.row)

abbrev pub usable_or_none : Option (Cell (List ℕ)) → ℕ
usable_or_none None = 0
usable_or_none (Some c) = usable_of c.head

-- its maximum
abbrev pub max_at : Ptr → Debug → ℕ
max_at p d = max_units (usable_or_none (cell_at p d.heap.row))

-- the pointer names a cell that reads as a text
pub record IsTextAt (p : Ptr) (d : Debug) : Type 0 where
  pub cell : Cell (List ℕ)
  pub found : cell_at p d.heap.row ≡ Some cell
  pub kind : cell.head.kind ≡ Text
  pub text : IsText cell.content (text_in cell.content)

-- the heap once the text of one cell was replaced
abbrev pub text_changed : Debug → Ptr → List ℕ → Debug
text_changed d p t = debug_changed d p (text_words (length (payload_of p d.heap.row)) t)

-- the heap after an edit of the text in one cell; a refusal leaves it as it was
abbrev pub debug_edited : Debug → Ptr → Edited → Debug
debug_edited d p (Ok t) = text_changed d p t
debug_edited d p (Err panic) = d

-- a cell that was granted reads as this text
abbrev pub IsGrantedText : Debug → List ℕ → Gave → Type 0
IsGrantedText d t (Granted p) = IsTextAt p d × (text_at p d ≡ t)
IsGrantedText d t _ = Unit {0}

-- what a reallocation gave reads as this text, and so does the old cell where it was refused
abbrev pub IsRemadeText : Debug → Ptr → List ℕ → Gave → Type 0
IsRemadeText d p t (Granted q) = IsTextAt q d × (text_at q d ≡ t)
IsRemadeText d p t _ = IsTextAt p d × (text_at p d ≡ t)
