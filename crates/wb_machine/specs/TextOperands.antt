-- What text operands stand for, in the state of a run.
use Rattle.std.specs.Prelude.{ℕ, List, [], length, Bool, true, false, if◌then◌else◌, Option, Some, None, Result, Ok, Err}
use Rattle.wb_heap_model.specs.declared.heap.TheConstants.Panic.{NULL_OR_STALE, WRONG_KIND}
use Rattle.wb_heap_model.specs.declared.heap.Kind.{Kind}
use Rattle.wb_heap_model.specs.declared.heap.Kind.TheVariants.{Text}
use Rattle.wb_heap_model.specs.declared.heap.Panic.{Panic}
use Rattle.wb_tree.specs.declared.script.Script.{Script}
use Rattle.wb_tree.specs.declared.script.Writable.{Writable}
use Rattle.wb_tree.specs.declared.script.Writable.TheVariants.{OwnBuffer, InCell}
use Rattle.wb_tree.specs.declared.script.Readable.{Readable}
use Rattle.wb_tree.specs.declared.script.Readable.TheVariants.{Of, ViewOf, Quoted}
use Rattle.wb_heap_model.specs.declared.text.Base.{Base}
use Rattle.wb_heap_model.specs.declared.text.Base.TheVariants as B
use Rattle.wb_heap_model.specs.declared.text.View.{View}
use Rattle.wb_heap_model.specs.Row.{Cell, cell_at}
use Rattle.wb_heap_model.specs.Texts.{Buffer, units_of_part}
use Rattle.wb_meaning.specs.Reading.{literal_at, buffer_text, max_in}
use Rattle.wb_heap_model.specs.TextCells.{text_at, max_at}
use Rattle.wb_machine.specs.RunState.{RunState, value_in}
use Rattle.wb_machine.specs.LocalValues.{buffer_in, whole_window, window_in}
use Rattle.wb_machine.specs.PointerOperands.{pointer_read}

-- a text that can be changed: a buffer, or a cell
abbrev pub base_named : Script → RunState → Writable → Base
base_named script h (OwnBuffer i) = B.Local i
base_named script h (InCell p) = B.Cell (pointer_read script h p)

abbrev pub is_text : Kind → Bool
is_text Text = true
is_text _ = false

-- what is refused of a cell that is to hold a text
abbrev pub text_refusal : Option (Cell (List ℕ)) → Option Panic
text_refusal None = Some NULL_OR_STALE
text_refusal (Some c) = if is_text c.head.kind then None else Some WRONG_KIND

-- what is refused of a base: only a cell can be gone, or hold no text
abbrev pub base_refusal : RunState → Base → Option Panic
base_refusal h (B.Cell p) = text_refusal (cell_at p h.debug.heap.row)
base_refusal h _ = None

-- the text of a base, over these literals
abbrev pub base_text : List (List ℕ) → RunState → Base → List ℕ
base_text literals h B.Nothing = []
base_text literals h (B.Literal i) = literal_at literals i
base_text literals h (B.Local i) = buffer_text (value_in h.locals i)
base_text literals h (B.Cell p) = text_at p h.debug

-- and its maximum, where it can be changed
abbrev pub base_max : RunState → Base → ℕ
base_max h (B.Local i) = max_in (value_in h.locals i)
base_max h (B.Cell p) = max_at p h.debug
base_max h _ = 0

abbrev pub is_writable_base : Base → Bool
is_writable_base (B.Local i) = true
is_writable_base (B.Cell p) = true
is_writable_base _ = false

-- the units that a view shows
abbrev pub window_units : List (List ℕ) → RunState → View → List ℕ
window_units literals h v = units_of_part (base_text literals h v.base) v.position v.length

-- the whole of a base
abbrev pub whole_of : List (List ℕ) → RunState → Base → View
whole_of literals h base = whole_window base (length (base_text literals h base))

-- what a readable text shows, as a view
abbrev pub window_read : Script → RunState → Readable → View
window_read script h (Of d) = whole_of script.literals h (base_named script h d)
window_read script h (ViewOf i) = window_in (value_in h.locals i)
window_read script h (Quoted i) = whole_of script.literals h (B.Literal i)

-- a view, or what is refused of its base
abbrev pub unless_gone : Option Panic → View → Result View Panic
unless_gone (Some panic) v = Err panic
unless_gone None v = Ok v

abbrev pub window_found : Script → RunState → Readable → Result View Panic
window_found script h t = unless_gone (base_refusal h (window_read script h t).base) (window_read script h t)

-- the buffer of a base, and an empty one where it is no buffer
abbrev pub buffer_under : RunState → Base → Buffer
buffer_under h (B.Local i) = buffer_in (value_in h.locals i)
buffer_under h _ = record { max = 0; units = [] }
