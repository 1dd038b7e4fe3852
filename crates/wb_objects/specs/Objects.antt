-- Objects in a heap, by their pointers: what is refused, what their words hold, and the heap once one is made or has another
-- pointer in a field.
use Rattle.std.specs.Prelude.{◌≡◌, ℕ, ◌+◌, ◌-◌, ◌*◌, ◌/◌, ◌≤◌, List, ◌∷◌, ◌++◌, Bool, false, nat_eq, if◌then◌else◌, Option, Some, None, Result, Ok, Err, IfOk, ok_or, unwrap_or, length, take, drop, replicate, slice_get}
use Rattle.wb_heap_model.specs.declared.heap.TheConstants.Panic.{NULL_OR_STALE, WRONG_KIND}
use Rattle.wb_heap_model.specs.declared.heap.Ptr.{Ptr}
use Rattle.wb_heap_model.specs.declared.heap.Kind.{Kind}
use Rattle.wb_heap_model.specs.declared.heap.Kind.TheVariants.{Object}
use Rattle.wb_heap_model.specs.declared.heap.Gave.{Gave}
use Rattle.wb_heap_model.specs.declared.heap.Gave.TheVariants.{Granted}
use Rattle.wb_heap_model.specs.declared.heap.Panic.{Panic}
use Rattle.wb_tree.specs.declared.script.Class.{Class}
use Rattle.wb_heap_model.specs.Row.{Cell, cell_at}
use Rattle.wb_heap_model.specs.CellRow.{payload_of}
use Rattle.wb_heap_model.specs.Heap.{alloc_request, after_alloc}
use Rattle.wb_heap_model.specs.Pointers.{null}
use Rattle.wb_heap_model.specs.Contents.{class_of}
use Rattle.wb_tree.specs.Bodies.{payload_of_object}
use Rattle.wb_heap_model.specs.Spelling.{pointers, fields_in}
use Rattle.wb_heap_model.specs.ObjectCells.{object_words, IsObjectAt}
use Rattle.wb_heap_model.specs.Debug.{Debug, Made, made_by, answer_in, debug_changed}

-- the class of a cell: WORKBENCH 1 where there is none, and WORKBENCH 2 where it is no object
abbrev pub class_of_cell : Option (Cell (List ℕ)) → Result ℕ Panic
class_of_cell None = Err NULL_OR_STALE
class_of_cell (Some c) = ok_or (class_of c.head.kind) WRONG_KIND

-- the class of the object that a pointer names
abbrev pub class_found : Debug → Ptr → Result ℕ Panic
class_found d p = class_of_cell (cell_at p d.heap.row)

abbrev pub is_of_class : ℕ → Kind → Bool
is_of_class class (Object k) = nat_eq k class
is_of_class class _ = false

-- the words of a cell that is to be an object of a class: the same refusals, and WORKBENCH 2 where its class is another
abbrev pub words_of_cell : ℕ → Option (Cell (List ℕ)) → Result (List ℕ) Panic
words_of_cell class None = Err NULL_OR_STALE
words_of_cell class (Some c) = if is_of_class class c.head.kind then Ok c.content else Err WRONG_KIND

-- the words of the object of a class that a pointer names
abbrev pub words_found : Debug → Ptr → ℕ → Result (List ℕ) Panic
words_found d p class = words_of_cell class (cell_at p d.heap.row)

-- where the pointer names an object of the class, its words have room for the field with this index
abbrev pub HasField : Debug → Ptr → ℕ → ℕ → Type 0
HasField d p class i = IfOk (words_found d p class) (λ ws. 4 + 2 * i ≤ length ws)

-- the pointer in a field, which the class and a zero are before
abbrev pub field_in : ℕ → List ℕ → Ptr
field_in i ws = unwrap_or (slice_get (pointers (drop 2 ws)) i) null

abbrev pub field_of : ℕ → Result (List ℕ) Panic → Result Ptr Panic
field_of i (Ok ws) = Ok (field_in i ws)
field_of i (Err panic) = Err panic

-- the words with another pointer in a field
abbrev pub with_field : ℕ → Ptr → List ℕ → List ℕ
with_field i p ws = take (2 + 2 * i) ws ++ p.place ∷ p.number ∷ drop (4 + 2 * i) ws

-- the heap once a field of one cell holds another pointer; a refusal leaves it as it was
abbrev pub field_changed : Debug → Ptr → ℕ → Ptr → Result (List ℕ) Panic → Debug
field_changed d p i q (Ok ws) = debug_changed d p (with_field i q ws)
field_changed d p i q (Err panic) = d

-- the words of a new object in a cell of this length: all its fields are null
abbrev pub new_words : ℕ → ℕ → ℕ → List ℕ
new_words length class count = object_words (length / 4 - 4) class (replicate count null)

-- Attempt for an object of a class, which has this index
abbrev pub object_made : Debug → ℕ → Class → Made
object_made d index class =
    let t = alloc_request d.heap (payload_of_object class) in
    made_by d t (after_alloc d.heap t (Object index) (new_words t.length index (length class.fields))) (answer_in d t)

-- a cell that was granted is an object of the class, with a number of fields, which are null
abbrev pub IsNewObject : Debug → ℕ → ℕ → Gave → Type 0
IsNewObject d class count (Granted p) = IsObjectAt p class count d × (fields_in count (payload_of p d.heap.row) ≡ replicate count null)
IsNewObject d class count _ = Unit {0}
