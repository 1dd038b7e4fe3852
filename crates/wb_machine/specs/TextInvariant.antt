-- Rows whose text cells hold texts.
use Rattle.std.specs.Prelude.{◌≡◌, ℕ, List, [], ◌∷◌}
use Rattle.wb_heap_model.specs.declared.heap.Kind.TheVariants.{Text}
use Rattle.wb_heap_model.specs.Row.{Cell}
use Rattle.wb_heap_model.specs.TextCells.{IsText, text_in}

-- the words of a text cell are those of a text
abbrev pub IsTextCell : Cell (List ℕ) → Type 0
IsTextCell c = c.head.kind ≡ Text → IsText c.content (text_in c.content)

abbrev pub AreTexts : List (Cell (List ℕ)) → Type 0
AreTexts [] = Unit {0}
AreTexts (c ∷ cs) = IsTextCell c × AreTexts cs
