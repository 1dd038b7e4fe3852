-- What an edit reads, and what it makes of a text.
use Rattle.std.specs.Prelude.{◌≢◌, ℕ, ◌+◌, ◌^◌, ◌<◌, List, ◌++◌}
use Rattle.wb_heap_model.specs.declared.heap.Ptr.{Ptr}
use Rattle.wb_heap_model.specs.Texts.{Edited, at_most, insert_text, units_of_part}
use Rattle.wb_heap_model.specs.Debug.{Debug}
use Rattle.wb_heap_model.specs.TextCells.{text_at, max_at, IsTextAt}
use Rattle.wb_hbuf.specs.declared.sources.Edit.{Edit}
use Rattle.wb_hbuf.specs.declared.sources.Edit.TheVariants.{Copy, Append, Insert}
use Rattle.wb_hbuf.specs.declared.sources.Source.{Source}
use Rattle.wb_hbuf.specs.declared.sources.Source.TheVariants.{Literal, Buffer, Cell, Own}

-- the text that a source is a part of; the destination's own is given
abbrev pub base_units : Debug → List ℕ → Source → List ℕ
base_units d own (Literal chars from count) = chars.now
base_units d own (Buffer buf from count) = buf.now.units
base_units d own (Cell p from count) = text_at p d
base_units d own (Own from count) = own

abbrev pub from_of : Source → ℕ
from_of (Literal chars from count) = from
from_of (Buffer buf from count) = from
from_of (Cell p from count) = from
from_of (Own from count) = from

abbrev pub count_of : Source → ℕ
count_of (Literal chars from count) = count
count_of (Buffer buf from count) = count
count_of (Cell p from count) = count
count_of (Own from count) = count

-- the units of a source, zeros past the end of the text that it is a part of
abbrev pub source_units : Debug → List ℕ → Source → List ℕ
source_units d own s = units_of_part (base_units d own s) (from_of s) (count_of s)

abbrev pub IsReadable : Debug → Source → Type 0
IsReadable d (Cell p from count) = IsTextAt p d
IsReadable d _ = Unit {0}

-- a source can be read: its cell reads as a text, and it ends below 2^32
pub record IsSource (d : Debug) (s : Source) : Type 0 where
  pub readable : IsReadable d s
  pub ends : from_of s + count_of s < 2 ^ 32

-- the source isn't the destination's own text
abbrev pub IsForeign : Source → Type 0
IsForeign (Own from count) = ⊥
IsForeign _ = Unit {0}

-- the cell of a source is another than the destination
abbrev pub IsApart : Ptr → Source → Type 0
IsApart p (Cell q from count) = q ≢ p
IsApart p _ = Unit {0}

-- a text isn't put into itself
abbrev pub SuitsEdit : Edit → Source → Type 0
SuitsEdit (Insert at) s = IsForeign s
SuitsEdit _ s = Unit {0}

-- what an edit makes of a text with a maximum
abbrev pub edit_text : Edit → ℕ → List ℕ → List ℕ → Edited
edit_text Copy max t us = at_most max us
edit_text Append max t us = at_most max (t ++ us)
edit_text (Insert at) max t us = insert_text max t at us

-- what an edit makes of the text in a cell
abbrev pub cell_edited : Debug → Ptr → Edit → Source → Edited
cell_edited d p e s = edit_text e (max_at p d) (text_at p d) (source_units d (text_at p d) s)

-- a source that is read by itself, and not for a destination
pub record IsReadableAlone (d : Debug) (s : Source) : Type 0 where
  pub source : IsSource d s
  pub foreign : IsForeign s
