-- The state of a run as a machine keeps it, and which state and account of the definitions that is.
use Rattle.std.specs.Prelude.{ℕ, pos, Bool, List, [], map, length, slice_get, unwrap_or}
use Rattle.wb_heap_model.specs.declared.heap.Ptr.{Ptr}
use Rattle.wb_heap_model.specs.declared.heap.Item.{Item}
use Rattle.wb_heap_model.specs.declared.heap.Rule.{Rule}
use Rattle.wb_heap_model.specs.declared.heap.Shape.{Shape}
use Rattle.wb_heap_model.specs.declared.reported.Note.{Note}
use Rattle.wb_tree.specs.declared.script.Body.{Body}
use Rattle.wb_tree.specs.declared.script.Script.{Script}
use Rattle.wb_heap_model.specs.Row.{Cell}
use Rattle.wb_heap_model.specs.Heap.{Heap}
use Rattle.wb_heap_model.specs.Contents.{Content}
use Rattle.wb_meaning.specs.State.{Value, number, State}
use Rattle.wb_heap_model.specs.Pointers.{null}
use Rattle.wb_tree.specs.Bodies.{class_at, procedure_at}
use Rattle.wb_meaning.specs.Account.{Account}
use Rattle.wb_heap_model.specs.Debug.{Debug, first_debug_of}
use Rattle.wb_heap_model.specs.Spelling.{read_as}

-- the locals of a body, by their index
abbrev pub Values : Type 0
Values = List Value

-- the debug heap, the cleanup stack's cell, its items from the oldest on, and how many it has room for; the object whose body the
-- innermost frame runs, its locals, those of the frames below it, from the outermost on, what was printed, the notes, and the steps
pub record RunState : Type 0 where
  pub debug : Debug
  pub cleanup : Ptr
  pub items : List Item
  pub slots : ℕ
  pub this : Ptr
  pub locals : Values
  pub callers : Values
  pub lines : List (List ℕ)
  pub notes : List Note
  pub steps : ℕ

-- nothing is done yet; a line of each attempt is kept, or the rises alone
abbrev pub first_state : Bool → Rule → Shape → RunState
first_state measuring rule shape = record { debug = first_debug_of measuring rule shape; cleanup = null; items = []; slots = 8; this = null; locals = []; callers = []; lines = []; notes = []; steps = 0 }

-- the body of `main`
abbrev pub main_of : Script → Body
main_of script = procedure_at script script.main

-- how many fields the objects of a class have
abbrev pub field_count : Script → ℕ → ℕ
field_count script class = length (class_at script class).fields

-- a cell with its words read as content
abbrev pub read_cell : Script → Cell (List ℕ) → Cell Content
read_cell script c = record { head = c.head; content = read_as (field_count script) c.head.kind c.content }

abbrev pub read_row : Script → List (Cell (List ℕ)) → List (Cell Content)
read_row script row = map (read_cell script) row

-- the cells read, with the same level, setting and way to choose places
abbrev pub read_heap : Script → Heap (List ℕ) → Heap Content
read_heap script heap = record { row = read_row script heap.row; level = heap.level; setting = heap.setting; placement = heap.placement }

-- the state of the definitions
abbrev pub state_of : Script → RunState → State
state_of script h = record {
  heap = read_heap script h.debug.heap;
  cleanup = h.cleanup;
  items = h.items;
  slots = h.slots;
  frame = record { this = h.this; locals = h.locals };
  lines = h.lines;
  steps = h.steps;
}

-- and the account
abbrev pub account_of : RunState → Account
account_of h = record { attempts = h.debug.attempts; trace = h.debug.trace; rises = h.debug.rises; notes = h.notes; committed = h.debug.committed }

-- the same with another debug heap
abbrev pub with_debug : RunState → Debug → RunState
with_debug h debug = record h { debug = debug }

-- a local; out of range it reads as the number 0
abbrev pub value_in : Values → ℕ → Value
value_in locals i = unwrap_or (slice_get locals i) (number (pos 0))
