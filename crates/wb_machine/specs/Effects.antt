-- What carrying out a statement makes of the state of a run, and how it ends.
use Rattle.std.specs.Prelude.{ℕ, ℤ, pos, ◌+◌, ◌+ℤ◌, Bool, not, ◌&&◌, int_le, int_lt, List, [], ◌∷◌, ◌++◌, if◌then◌else◌, Option, Some, None, slice_index, slice_set, map, take, drop, true, false}
use Rattle.std.specs.Int.{w32, cast_unsigned}
use Rattle.wb_basics.specs.declared.limits.TheConstants.{LARGEST_REQUEST}
use Rattle.wb_heap_model.specs.declared.heap.TheConstants.{KERR_NO_MEMORY}
use Rattle.wb_heap_model.specs.declared.heap.TheConstants.Panic.{NUMBER_OUT_OF_RANGE, BAD_CELL, WRONG_KIND, NULL_OR_STALE}
use Rattle.wb_heap_model.specs.declared.heap.Ptr.{Ptr}
use Rattle.wb_heap_model.specs.declared.heap.Kind.TheVariants.{Raw, Cleanup}
use Rattle.wb_heap_model.specs.declared.heap.Gave.{Gave}
use Rattle.wb_heap_model.specs.declared.heap.Gave.TheVariants.{Granted, Denied, Ceiling}
use Rattle.wb_heap_model.specs.declared.heap.Panic.{Panic}
use Rattle.wb_heap_model.specs.declared.reported.Note.{Note}
use Rattle.wb_meaning.specs.declared.run.Why.TheVariants as why
use Rattle.wb_tree.specs.declared.script.Holder.TheVariants as H
use Rattle.wb_tree.specs.declared.script.Script.{Script}
use Rattle.wb_tree.specs.declared.script.Local.{Local}
use Rattle.wb_tree.specs.declared.script.Pointer.{Pointer}
use Rattle.wb_tree.specs.declared.script.Pointer.TheVariants as P
use Rattle.wb_tree.specs.declared.script.Number.{Number}
use Rattle.wb_tree.specs.declared.script.Condition.{Condition}
use Rattle.wb_tree.specs.declared.script.Condition.TheVariants.{IsNull, NotNull, Equal, Less}
use Rattle.wb_tree.specs.declared.script.Refusal.{Refusal}
use Rattle.wb_tree.specs.declared.script.Refusal.TheVariants as refusals
use Rattle.wb_heap_model.specs.Row.{Cell, cell_at, usable_of, without}
use Rattle.wb_heap_model.specs.CellRow.{payload_of}
use Rattle.wb_meaning.specs.State.{Value, pointer, number, initial, number_in}
use Rattle.wb_heap_model.specs.Pointers.{null, is_null}
use Rattle.wb_meaning.specs.Operands.{within}
use Rattle.wb_meaning.specs.Statements.{is_raw, index_in, in_range}
use Rattle.wb_heap_model.specs.Rules.{Setting}
use Rattle.wb_heap_model.specs.Heap.{is_cleanup, after_mark, after_mark_end, mark_end_refusal}
use Rattle.wb_heap_model.specs.Spelling.{signed}
use Rattle.wb_heap_model.specs.Debug.{Made, alloc_made, realloc_made, with_row, debug_changed, with_setting, debug_compressed, note_of_heap, note_of_available, note_of_compress}
use Rattle.wb_machine.specs.declared.pieces.Ending.{Ending}
use Rattle.wb_machine.specs.declared.pieces.Ending.TheVariants.{GoesOn, Returns, Leaves, Panics, Cut, NoCleanup}
use Rattle.wb_machine.specs.RunState.{Values, RunState, with_debug, value_in}
use Rattle.wb_machine.specs.LocalValues.{number_over}
use Rattle.wb_machine.specs.PointerOperands.{holder_pointer_in, row_with_field}
pub use Rattle.wb_machine.specs.PointerOperands.{pointer_read}

pub record Effect : Type 0 where
  pub ending : Ending
  pub state : RunState

-- it goes on
abbrev pub gone_on : RunState → Effect
gone_on h = record { ending = GoesOn; state = h }

-- it panics, and nothing changed
abbrev pub panicked : RunState → Panic → Effect
panicked h panic = record { ending = Panics panic; state = h }

-- it panics with a refusal, or goes on where there is none
abbrev pub unless_refused : RunState → Option Panic → RunState → Effect
unless_refused h (Some panic) after = panicked h panic
unless_refused h None after = gone_on after

-- the number of an operand
abbrev pub number_read : RunState → Number → ℤ
number_read h v = number_over h.locals v

-- what an `if` asks
abbrev pub condition_read : Script → RunState → Condition → Bool
condition_read script h (IsNull p) = is_null (pointer_read script h p)
condition_read script h (NotNull p) = not (is_null (pointer_read script h p))
condition_read script h (Equal v w) = int_le (number_read h v) (number_read h w) && int_le (number_read h w) (number_read h v)
condition_read script h (Less v w) = int_lt (number_read h v) (number_read h w)

-- it leaves with a code
abbrev pub left_with : RunState → ℤ → Effect
left_with h code = record { ending = Leaves code; state = h }

-- it leaves with a code, or goes on
abbrev pub left_where : RunState → Bool → ℤ → Effect
left_where h b code = if b then left_with h code else gone_on h

-- it ends the body with a pointer
abbrev pub returned : RunState → Ptr → Effect
returned h p = record { ending = Returns p; state = h }

-- a local gets a value
abbrev pub stored : RunState → ℕ → Value → RunState
stored h i v = record h { locals = slice_set h.locals i v }

-- a pointer operand gets a pointer; `self` is none that a statement writes
abbrev pub pointer_stored : RunState → Pointer → Ptr → RunState
pointer_stored h (P.Held (H.Local i)) q = stored h i (pointer q)
pointer_stored h (P.Held H.This) q = h
pointer_stored h (P.Field holder class i) q = with_debug h (with_row h.debug (row_with_field (holder_pointer_in h holder) i q h.debug.heap.row))

-- a target gets null for a refused attempt, or it is a leave
abbrev pub refused_effect : RunState → Pointer → Refusal → Effect
refused_effect h p refusals.GivesNull = gone_on (pointer_stored h p null)
refused_effect h p refusals.Leaves = left_with h KERR_NO_MEMORY

-- a target gets what an attempt gave
abbrev pub given_effect : RunState → Pointer → Refusal → Gave → Effect
given_effect h p x (Granted q) = gone_on (pointer_stored h p q)
given_effect h p x Denied = refused_effect h p x
given_effect h p x Ceiling = record { ending = Cut why.Ceiling; state = h }

-- the same once the heap made of a call what it makes
abbrev pub made_effect : RunState → Pointer → Refusal → Made → Effect
made_effect h p x made = given_effect (with_debug h made.debug) p x made.gave

-- an allocation of a number of bytes, which may be out of its range
abbrev pub alloc_within : RunState → Pointer → Refusal → Option ℕ → Effect
alloc_within h p x None = panicked h NUMBER_OUT_OF_RANGE
alloc_within h p x (Some bytes) = made_effect h p x (alloc_made h.debug bytes Raw)

abbrev pub alloc_effect : RunState → Pointer → Refusal → ℤ → Effect
alloc_effect h p x z = alloc_within h p x (within LARGEST_REQUEST z)

-- a reallocation of a cell to a number of bytes, which may be out of its range
abbrev pub realloc_within : RunState → Pointer → Refusal → Cell (List ℕ) → Option ℕ → Effect
realloc_within h p x c None = panicked h NUMBER_OUT_OF_RANGE
realloc_within h p x c (Some bytes) = made_effect h p x (realloc_made h.debug c bytes)

abbrev pub realloc_found : RunState → Pointer → Refusal → ℤ → Option (Cell (List ℕ)) → Effect
realloc_found h p x z None = panicked h BAD_CELL
realloc_found h p x z (Some c) = if is_raw c.head.kind then realloc_within h p x c (within LARGEST_REQUEST z) else panicked h WRONG_KIND

-- a reallocation; of null it is an allocation
abbrev pub realloc_effect : RunState → Pointer → Refusal → Ptr → ℤ → Effect
realloc_effect h p x q z = if is_null q then alloc_effect h p x z else realloc_found h p x z (cell_at q h.debug.heap.row)

-- a release of what a pointer names, unless that is nothing or the cleanup stack's own cell
abbrev pub released_found : RunState → Ptr → Option (Cell (List ℕ)) → Effect
released_found h p None = panicked h BAD_CELL
released_found h p (Some c) =
    if is_cleanup c.head.kind then panicked h BAD_CELL else gone_on (with_debug h (with_row h.debug (without p h.debug.heap.row)))

-- a release; null is nothing
abbrev pub free_effect : RunState → Ptr → Effect
free_effect h p = if is_null p then gone_on h else released_found h p (cell_at p h.debug.heap.row)

-- a word of a payload gets another
abbrev pub word_stored : RunState → Ptr → Option ℕ → ℕ → Effect
word_stored h p None word = panicked h NUMBER_OUT_OF_RANGE
word_stored h p (Some k) word = gone_on (with_debug h (debug_changed h.debug p (slice_set (payload_of p h.debug.heap.row) k word)))

abbrev pub store_found : RunState → Ptr → ℤ → ℕ → Option (Cell (List ℕ)) → Effect
store_found h p index word None = panicked h NULL_OR_STALE
store_found h p index word (Some c) =
    if is_raw c.head.kind then word_stored h p (index_in (usable_of c.head) index) word else panicked h WRONG_KIND

-- a number stored, as its word in two's complement
abbrev pub store_effect : RunState → Ptr → ℤ → ℤ → Effect
store_effect h p index value = store_found h p index (cast_unsigned w32 value) (cell_at p h.debug.heap.row)

-- a number local gets the usable bytes of a cell
abbrev pub usable_found : RunState → ℕ → Option (Cell (List ℕ)) → Effect
usable_found h x None = panicked h BAD_CELL
usable_found h x (Some c) = gone_on (stored h x (number (pos (usable_of c.head))))

abbrev pub usable_effect : RunState → ℕ → Ptr → Effect
usable_effect h x p = usable_found h x (cell_at p h.debug.heap.row)

-- a number local gets a word of a payload, as a signed number
abbrev pub word_loaded : RunState → ℕ → Ptr → Option ℕ → Effect
word_loaded h x p None = panicked h NUMBER_OUT_OF_RANGE
word_loaded h x p (Some k) = gone_on (stored h x (number (signed (slice_index (payload_of p h.debug.heap.row) k))))

abbrev pub load_found : RunState → ℕ → Ptr → ℤ → Option (Cell (List ℕ)) → Effect
load_found h x p index None = panicked h NULL_OR_STALE
load_found h x p index (Some c) = if is_raw c.head.kind then word_loaded h x p (index_in (usable_of c.head) index) else panicked h WRONG_KIND

abbrev pub load_effect : RunState → ℕ → Ptr → ℤ → Effect
load_effect h x p index = load_found h x p index (cell_at p h.debug.heap.row)

-- a number that is added to a number local
abbrev pub sum_stored : RunState → ℕ → ℤ → Effect
sum_stored h x z = if in_range z then gone_on (stored h x (number z)) else panicked h NUMBER_OUT_OF_RANGE

abbrev pub add_effect : RunState → ℕ → ℤ → Effect
add_effect h x z = sum_stored h x (number_in (value_in h.locals x) +ℤ z)

-- one level deeper
abbrev pub marked : RunState → RunState
marked h = with_debug h (record h.debug { heap = after_mark h.debug.heap })

-- the end of a mark that expects a number of cells
abbrev pub mark_end_within : RunState → Option ℕ → Effect
mark_end_within h None = panicked h NUMBER_OUT_OF_RANGE
mark_end_within h (Some n) = unless_refused h (mark_end_refusal h.debug.heap n) (with_debug h (record h.debug { heap = after_mark_end h.debug.heap }))

-- a check that expects a number of cells, with what refuses them
abbrev pub check_within : RunState → (ℕ → Option Panic) → Option ℕ → Effect
check_within h refusal None = panicked h NUMBER_OUT_OF_RANGE
check_within h refusal (Some n) = unless_refused h (refusal n) h

-- a setting of a rate
abbrev pub set_within : RunState → (ℕ → Setting) → Option ℕ → Effect
set_within h setting None = panicked h NUMBER_OUT_OF_RANGE
set_within h setting (Some n) = gone_on (with_debug h (with_setting h.debug (setting n)))

-- one more note
abbrev pub with_note : RunState → Note → RunState
with_note h note = record h { notes = h.notes ++ note ∷ [] }

-- a note of the live cells
abbrev pub heap_noted : RunState → RunState
heap_noted h = with_note h (note_of_heap h.debug)

-- a note of the free bytes
abbrev pub available_noted : RunState → RunState
available_noted h = with_note h (note_of_available h.debug)

-- a compression, with a note of what it reclaimed
abbrev pub compress_noted : RunState → RunState
compress_noted h = with_note (with_debug h (debug_compressed h.debug)) (note_of_compress h.debug)

-- a printed line
abbrev pub line_printed : RunState → List ℕ → RunState
line_printed h line = record h { lines = h.lines ++ line ∷ [] }

-- one step more
abbrev pub stepped : RunState → RunState
stepped h = record h { steps = h.steps + 1 }

-- `main` begins with these locals
abbrev pub entered : RunState → List Local → RunState
entered h locals = record h { this = null; locals = map initial locals }

-- a body of an object, or of none, begins with what it is given, in a frame of its own
abbrev pub framed_with : RunState → Ptr → Values → List Local → RunState
framed_with h this given locals = record h { this = this; callers = h.callers ++ h.locals; locals = given ++ map initial locals }

-- a body has ended; its caller's frame begins at a place, and has this object
abbrev pub called_back : RunState → Ptr → ℕ → RunState
called_back h this base = record h { this = this; callers = take base h.callers; locals = drop base h.callers }

-- the bytes of the cleanup stack's cell at first
abbrev pub first_bytes : ℕ
first_bytes = 128

-- the first attempt
abbrev pub first_made : RunState → Made
first_made h = alloc_made h.debug first_bytes Cleanup

-- its cell is the cleanup stack's, where it was granted
abbrev pub started_by : RunState → Gave → RunState
started_by h (Granted cell) = record h { cleanup = cell }
started_by h _ = h

abbrev pub is_granted : Gave → Bool
is_granted (Granted cell) = true
is_granted _ = false

-- `main` begins where it was granted
abbrev pub begun_by : RunState → List Local → Gave → Effect
begun_by h locals (Granted cell) = gone_on (entered (record h { cleanup = cell }) locals)
begun_by h locals Denied = record { ending = NoCleanup; state = h }
begun_by h locals Ceiling = record { ending = Cut why.Ceiling; state = h }

abbrev pub begun_effect : RunState → List Local → Effect
begun_effect h locals = begun_by (with_debug h (first_made h).debug) locals (first_made h).gave
