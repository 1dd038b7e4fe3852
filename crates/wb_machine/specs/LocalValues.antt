-- Locals as values.
use Rattle.std.specs.Prelude.{◌≡◌, ℕ, ℤ, pos, suc, Bool, true, nat_le, ◌≤◌, ◌++◌, ◌∷◌, [], List, map, take, drop, vec_len, slice_index_or}
use Rattle.wb_heap_model.specs.declared.heap.Ptr.{Ptr}
use Rattle.wb_tree.specs.declared.script.Argument.{Argument}
use Rattle.wb_tree.specs.declared.script.Argument.TheVariants.{Passed, Given}
use Rattle.wb_basics.specs.declared.limits.TheConstants.{LARGEST_BUFFER}
use Rattle.wb_tree.specs.declared.script.Local.{Local}
use Rattle.wb_tree.specs.declared.script.Local.TheVariants.{OfBuffer}
use Rattle.wb_tree.specs.declared.script.Script.{Script}
use Rattle.wb_tree.specs.declared.script.Number.{Number}
use Rattle.wb_tree.specs.declared.script.Number.TheVariants.{Constant, Variable}
use Rattle.wb_heap_model.specs.declared.text.Base.{Base}
use Rattle.wb_heap_model.specs.declared.text.Base.TheVariants.{Nothing}
use Rattle.wb_heap_model.specs.declared.text.View.{View}
use Rattle.wb_heap_model.specs.Texts.{Buffer}
use Rattle.wb_meaning.specs.State.{Value, pointer, number, buffer, view, initial, number_in}
use Rattle.wb_meaning.specs.Reading.{buffer_text, max_in}
use Rattle.wb_machine.specs.declared.arguments.CallArguments.{CallArguments}
use Rattle.wb_machine.specs.declared.arguments.CallArguments.TheVariants.{Arguments, Item}
use Rattle.wb_machine.specs.declared.locals.Slot.{Slot}
use Rattle.wb_machine.specs.declared.locals.Slot.TheVariants as S
use Rattle.wb_machine.specs.declared.locals.Stored.{Stored}
use Rattle.wb_machine.specs.declared.locals.Stored.TheVariants as T
use Rattle.wb_machine.specs.declared.locals.Locals.TheInside.{Inside}
use Rattle.wb_heap_model.specs.Debug.{Debug}
use Rattle.wb_machine.specs.RunState.{Values, RunState, value_in}
use Rattle.wb_machine.specs.PointerOperands.{pointer_over}

abbrev pub value_of : Slot → Value
value_of (S.Pointer p) = pointer p
value_of (S.Number z) = number z
value_of (S.View v) = view v
value_of S.NoBuffer = buffer 0 []

abbrev pub no_buffer : Buffer
no_buffer = record { max = 0; units = [] }

abbrev pub value_of_buffer : Buffer → Value
value_of_buffer b = buffer b.max b.units

-- what is stored, over all buffers
abbrev pub value_stored : List Buffer → Stored → Value
value_stored buffers (T.Small slot) = value_of slot
value_stored buffers (T.Buffer b) = value_of_buffer (slice_index_or buffers b.at no_buffer)

abbrev pub values_stored : List Buffer → List Stored → Values
values_stored buffers stored = map (value_stored buffers) stored

-- what is stored at a place; out of range it reads as the number 0
abbrev pub stored_at : List Stored → ℕ → Stored
stored_at stored i = slice_index_or stored i (T.Small (S.Number (pos 0)))

-- the indexes of buffers ascend with the slots, from the lowest that may be on, and are below an end: no two slots share one
abbrev pub AreAscending : ℕ → ℕ → List Stored → Type 0
AreAscending lowest end [] = lowest ≤ end
AreAscending lowest end (T.Small slot ∷ more) = AreAscending lowest end more
AreAscending lowest end (T.Buffer b ∷ more) = (lowest ≤ b.at) × AreAscending (suc b.at) end more

-- the index of the first buffer, or the end of all where there is none
abbrev pub first_buffer : ℕ → List Stored → ℕ
first_buffer end [] = end
first_buffer end (T.Small slot ∷ more) = first_buffer end more
first_buffer end (T.Buffer b ∷ more) = b.at

-- the locals of the innermost frame, and those of the frames below it, from the outermost on
pub record Frames : Type 0 where
  pub callers : Values
  pub locals : Values

abbrev pub frames_in : Inside → Frames
frames_in l = record { callers = take l.base (values_stored l.buffers.items l.slots.items); locals = drop l.base (values_stored l.buffers.items l.slots.items) }

-- a frame begins no later than the locals end; each buffer is there, and of one local
pub record IsWithin (l : Inside) : Type 0 where
  pub frame : l.base ≤ vec_len l.slots
  pub buffers : AreAscending 0 (vec_len l.buffers) l.slots.items
  pub none : l.none ≡ no_buffer

-- the number of an operand
abbrev pub number_over : Values → Number → ℤ
number_over locals (Constant z) = z
number_over locals (Variable i) = number_in (value_in locals i)

-- what a parameter gets, over a heap, the caller's object and its locals
abbrev pub passed_over : Script → Debug → Ptr → Values → Argument → Value
passed_over script d this locals (Passed p) = pointer (pointer_over script d this locals p)
passed_over script d this locals (Given v) = number (number_over locals v)

-- what a body is handed
abbrev pub values_over : Script → Debug → Ptr → Values → CallArguments → Values
values_over script d this locals (Arguments arguments) = map (passed_over script d this locals) arguments.now
values_over script d this locals (Item p) = pointer p ∷ []

-- the same by the state of its caller
abbrev pub passed : Script → RunState → Argument → Value
passed script h argument = passed_over script h.debug h.this h.locals argument

abbrev pub values_of_arguments : Script → RunState → CallArguments → Values
values_of_arguments script h call_arguments = values_over script h.debug h.this h.locals call_arguments

-- a frame on top of the innermost one: what its body is given, and what it declares
abbrev pub framed : Frames → Values → List Local → Frames
framed f given declared = record { callers = f.callers ++ f.locals; locals = given ++ map initial declared }

-- a buffer's maximum is within its limit
abbrev pub is_small : Local → Bool
is_small (OfBuffer max) = nat_le max LARGEST_BUFFER
is_small _ = true

-- the innermost frame is dropped; the one below it begins at a place
abbrev pub unframed : Frames → ℕ → Frames
unframed f base = record { callers = take base f.callers; locals = drop base f.callers }

-- the buffer in a value; a value that holds none reads as an empty one of maximum 0
abbrev pub buffer_in : Value → Buffer
buffer_in v = record { max = max_in v; units = buffer_text v }

-- the first units of a base, a number of them
abbrev pub whole_window : Base → ℕ → View
whole_window base n = record { base = base; position = 0; length = n }

-- nothing at all
abbrev pub no_window : View
no_window = whole_window Nothing 0

-- the view in a value; a value that holds none reads as nothing
abbrev pub window_in : Value → View
window_in (view v) = v
window_in _ = no_window
