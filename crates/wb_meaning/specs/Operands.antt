-- Pointer and number operands: what they are, and what they refuse.
use Rattle.std.specs.Prelude.{ℕ, ℤ, pos, negsuc, List, nat_eq, nat_le, if◌then◌else◌, Option, Some, None, slice_get, slice_set, unwrap_or}
use Rattle.wb_heap_model.specs.declared.heap.TheConstants.Panic.{NULL_OR_STALE, WRONG_KIND}
use Rattle.wb_heap_model.specs.declared.heap.Ptr.{Ptr}
use Rattle.wb_heap_model.specs.declared.heap.Kind.{Kind}
use Rattle.wb_heap_model.specs.declared.heap.Kind.TheVariants.{Raw, Object, Text}
use Rattle.wb_heap_model.specs.declared.heap.Panic.TheVariants.{Workbench}
use Rattle.wb_tree.specs.declared.script.Holder.{Holder}
use Rattle.wb_tree.specs.declared.script.Holder.TheVariants as H
use Rattle.wb_tree.specs.declared.script.Pointer.{Pointer}
use Rattle.wb_tree.specs.declared.script.Pointer.TheVariants.{Held, Field}
use Rattle.wb_tree.specs.declared.script.Number.{Number}
use Rattle.wb_tree.specs.declared.script.Number.TheVariants.{Constant, Variable}
use Rattle.wb_heap_model.specs.Row.{Cell, cell_at, changed}
use Rattle.wb_heap_model.specs.Contents.{Content, words, fields, units}
use Rattle.wb_meaning.specs.State.{pointer, State, Process, with_some, set_heap, set_local, pointer_in, number_in, local_of}
use Rattle.wb_heap_model.specs.Pointers.{null}

abbrev pub workbench : ℕ → Rattle.wb_heap_model.specs.declared.heap.Panic.Panic
workbench n = Workbench n

-- numbers never refuse
abbrev pub number_of : State → Number → ℤ
number_of st (Constant z) = z
number_of st (Variable i) = number_in (local_of st i)

-- a number from 0 to a maximum
abbrev pub within : ℕ → ℤ → Option ℕ
within max (pos n) = if nat_le n max then Some n else None
within max (negsuc n) = None

abbrev pub not_negative : ℤ → Option ℕ
not_negative (pos n) = Some n
not_negative (negsuc n) = None

abbrev pub held_by : State → Holder → Ptr
held_by st (H.Local i) = pointer_in (local_of st i)
held_by st H.This = st.frame.this

-- the fields of an object of a class
abbrev pub fields_of : Kind → Content → ℕ → Option (List Ptr)
fields_of (Object k) (fields ps) class = if nat_eq k class then Some ps else None
fields_of _ _ class = None

abbrev pub raw_words_of : Kind → Content → Option (List ℤ)
raw_words_of Raw (words ws) = Some ws
raw_words_of _ _ = None

abbrev pub units_of : Kind → Content → Option (List ℕ)
units_of Text (units us) = Some us
units_of _ _ = None

-- a valid pointer's cell, or WORKBENCH 1
unfoldable pub with_cell : State → Ptr → (Cell Content → Process) → Process
with_cell st p go = with_some (cell_at p st.heap.row) NULL_OR_STALE st go

unfoldable pub with_fields : State → Ptr → ℕ → (List Ptr → Process) → Process
with_fields st p class go = with_cell st p (λ c. with_some (fields_of c.head.kind c.content class) WRONG_KIND st go)

-- a pointer operand, or a target before it is written
unfoldable pub with_pointer : State → Pointer → (Ptr → Process) → Process
with_pointer st (Held h) go = go (held_by st h)
with_pointer st (Field h class i) go = with_fields st (held_by st h) class (λ ps. go (unwrap_or (slice_get ps i) null))

abbrev pub set_field : ℕ → Ptr → Content → Content
set_field i p (fields ps) = fields (slice_set ps i p)
set_field i p c = c

abbrev pub set_row : State → List (Cell Content) → State
set_row st row = set_heap st (record st.heap { row = row })

-- a target is written
abbrev pub set_pointer : State → Pointer → Ptr → State
set_pointer st (Held (H.Local i)) p = set_local st i (pointer p)
set_pointer st (Held H.This) p = st
set_pointer st (Field h class i) p = set_row st (changed (held_by st h) (set_field i p) st.heap.row)
