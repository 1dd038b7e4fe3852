-- Text operands: which units they stand for, and where an edit is written.
use Rattle.std.specs.Prelude.{ℕ, ◌+◌, List, [], Bool, false, nat_eq, Result, Ok, Err, drop, slice_get, unwrap_or}
use Rattle.wb_heap_model.specs.declared.heap.TheConstants.Panic.{WRONG_KIND}
use Rattle.wb_heap_model.specs.declared.heap.Ptr.{Ptr}
use Rattle.wb_heap_model.specs.declared.heap.Panic.{Panic}
use Rattle.wb_heap_model.specs.declared.text.Base.{Base}
use Rattle.wb_heap_model.specs.declared.text.Base.TheVariants as B
use Rattle.wb_heap_model.specs.declared.text.View.{View}
use Rattle.wb_tree.specs.declared.script.Writable.{Writable}
use Rattle.wb_tree.specs.declared.script.Writable.TheVariants.{OwnBuffer, InCell}
use Rattle.wb_tree.specs.declared.script.Readable.{Readable}
use Rattle.wb_tree.specs.declared.script.Readable.TheVariants.{Of, ViewOf, Quoted}
use Rattle.wb_heap_model.specs.Row.{Cell, changed, usable_of}
use Rattle.wb_heap_model.specs.Texts.{Edited, Part, exactly, max_units}
use Rattle.wb_heap_model.specs.Contents.{Content, units}
use Rattle.wb_meaning.specs.State.{Value, buffer, view, State, Process, ends, stops, goes_on, panics, with_some, set_local, local_of}
use Rattle.wb_meaning.specs.Operands.{with_cell, with_pointer, units_of, set_row}
use Rattle.wb_heap_model.specs.Pointers.{is_same_pointer}

-- what a text operand is a part of: a whole base, or a view
pub data Source : Type 0 where
  whole : Base → Source
  part : View → Source

abbrev pub base_of : Source → Base
base_of (whole b) = b
base_of (part v) = v.base

-- a text that can be changed, before its cell is looked at
unfoldable pub with_writable : State → Writable → (Base → Process) → Process
with_writable st (OwnBuffer i) go = go (B.Local i)
with_writable st (InCell p) go = with_pointer st p (λ at. go (B.Cell at))

abbrev pub view_in : Value → Source
view_in (view v) = part v
view_in _ = whole B.Nothing

unfoldable pub with_readable : State → Readable → (Source → Process) → Process
with_readable st (Of d) go = with_writable st d (λ b. go (whole b))
with_readable st (ViewOf i) go = go (view_in (local_of st i))
with_readable st (Quoted i) go = go (whole (B.Literal i))

abbrev pub buffer_text : Value → List ℕ
buffer_text (buffer max t) = t
buffer_text _ = []

abbrev pub max_in : Value → ℕ
max_in (buffer max t) = max
max_in _ = 0

abbrev pub literal_at : List (List ℕ) → ℕ → List ℕ
literal_at literals i = unwrap_or (slice_get literals i) []

unfoldable pub with_text_cell : State → Ptr → (Cell Content → List ℕ → Process) → Process
with_text_cell st p go = with_cell st p (λ c. with_some (units_of c.head.kind c.content) WRONG_KIND st (go c))

-- the units of a base; a view's base that is gone is WORKBENCH 1
unfoldable pub with_base : List (List ℕ) → State → Base → (List ℕ → Process) → Process
with_base literals st B.Nothing go = go []
with_base literals st (B.Literal i) go = go (literal_at literals i)
with_base literals st (B.Local i) go = go (buffer_text (local_of st i))
with_base literals st (B.Cell p) go = with_text_cell st p (λ c us. go us)

unfoldable pub with_units : List (List ℕ) → State → Source → (List ℕ → Process) → Process
with_units literals st (whole b) go = with_base literals st b go
with_units literals st (part v) go = with_base literals st v.base (λ us. go (exactly v.length (drop v.position us)))

-- the maximum and the text of a text that can be changed
unfoldable pub with_room : State → Base → (ℕ → List ℕ → Process) → Process
with_room st (B.Local i) go = go (max_in (local_of st i)) (buffer_text (local_of st i))
with_room st (B.Cell p) go = with_text_cell st p (λ c us. go (max_units (usable_of c.head)) us)
with_room st _ go = stops (panics WRONG_KIND) st

abbrev pub set_units : List ℕ → Content → Content
set_units us (units old) = units us
set_units us c = c

abbrev pub set_text : State → Base → ℕ → List ℕ → State
set_text st (B.Local i) max us = set_local st i (buffer max us)
set_text st (B.Cell p) max us = set_row st (changed p (set_units us) st.heap.row)
set_text st _ max us = st

-- an edit is written, or refused
unfoldable pub write : Edited → State → Base → ℕ → Process
write (Ok us) st b max = ends goes_on (set_text st b max us)
write (Err panic) st b max = stops (panics panic) st

abbrev pub position_of : Source → ℕ
position_of (whole b) = 0
position_of (part v) = v.position

-- a part of a source becomes a view
unfoldable pub write_view : Result Part Panic → State → ℕ → Source → Process
write_view (Ok p) st w s = ends goes_on (set_local st w (view (record { base = base_of s; position = position_of s + p.from; length = p.count })))
write_view (Err panic) st w s = stops (panics panic) st

-- the same text, under whatever name
abbrev pub is_same_base : Base → Base → Bool
is_same_base (B.Local i) (B.Local j) = nat_eq i j
is_same_base (B.Cell p) (B.Cell q) = is_same_pointer p q
is_same_base _ _ = false
