-- The state of a script, and what a piece of it comes to.
use Rattle.std.specs.Prelude.{ℕ, ℤ, pos, List, [], Bool, true, false, Option, Some, None, slice_get, slice_set, unwrap_or}
use Rattle.wb_heap_model.specs.declared.heap.Ptr.{Ptr}
use Rattle.wb_heap_model.specs.declared.heap.Item.{Item}
use Rattle.wb_heap_model.specs.declared.heap.Panic.{Panic}
use Rattle.wb_heap_model.specs.declared.heap.Answer.{Answer}
use Rattle.wb_heap_model.specs.declared.heap.Header.{Header}
use Rattle.wb_meaning.specs.declared.run.Why.{Why}
use Rattle.wb_heap_model.specs.declared.text.View.{View}
use Rattle.wb_heap_model.specs.declared.text.Base.TheVariants.{Nothing}
use Rattle.wb_tree.specs.declared.script.Local.{Local}
use Rattle.wb_tree.specs.declared.script.Local.TheVariants.{OfPointer, OfNumber, OfBuffer, OfView}
use Rattle.wb_heap_model.specs.Heap.{Heap}
use Rattle.wb_heap_model.specs.Rules.{Request}
use Rattle.wb_heap_model.specs.Contents.{Content}
use Rattle.wb_heap_model.specs.Pointers.{null}

-- a variable; a buffer has a maximum and a text
pub data Value : Type 0 where
  pointer : Ptr → Value
  number : ℤ → Value
  buffer : ℕ → List ℕ → Value
  view : View → Value

-- what a local holds at first
abbrev pub initial : Local → Value
initial (OfPointer class) = pointer null
initial OfNumber = number (pos 0)
initial (OfBuffer max) = buffer max []
initial OfView = view (record { base = Nothing; position = 0; length = 0 })

pub record Frame : Type 0 where
  pub this : Ptr
  pub locals : List Value

-- what a script sees and changes; what the rule decides of a run beside it (trace, notes, committed length) is an `Account`
pub record State : Type 0 where
  pub heap : Heap Content
  -- the cleanup stack's cell, its items from the oldest on, and how many it has room for
  pub cleanup : Ptr
  pub items : List Item
  pub slots : ℕ
  pub frame : Frame
  pub lines : List (List ℕ)
  pub steps : ℕ

-- how a piece ends that nothing stopped
pub data Way : Type 0 where
  goes_on : Way
  returns : Ptr → Way
  leaves : ℤ → Way

-- what stops the whole run at once
pub data Stop : Type 0 where
  panics : Panic → Stop
  is_cut : Why → Stop
  no_cleanup : Stop

-- what a note asks of the account
pub data Query : Type 0 where
  -- count and total
  heap_note : ℕ → ℕ → Query
  available_note : List Header → Query
  -- the end of the last cell
  compress_note : ℕ → Query

-- A run up to what the rule says: it ends, or asks for an attempt and goes on with its number and the answer
-- (or, where the ceiling cuts the run there, ends in the state given), or makes a note.
pub data Process : Type 0 where
  ends : Way → State → Process
  stops : Stop → State → Process
  asks : Request → State → (ℕ → Answer → Process) → Process
  notes : Query → Process → Process

-- goes on with the process's end
unfoldable pub and_then : Process → (Way → State → Process) → Process
and_then (ends way st) go = go way st
and_then (stops stop st) go = stops stop st
and_then (asks t cut answered) go = asks t cut (λ n a. and_then (answered n a) go)
and_then (notes q p) go = notes q (and_then p go)

-- only a plain end goes on
unfoldable pub on_plain_end : Way → State → (State → Process) → Process
on_plain_end goes_on st go = go st
on_plain_end (returns p) st go = ends (returns p) st
on_plain_end (leaves code) st go = ends (leaves code) st

-- one after another
unfoldable pub then_do : Process → (State → Process) → Process
then_do p go = and_then p (λ way st. on_plain_end way st go)

-- goes on where a test holds, or panics
unfoldable pub require : Bool → Panic → State → (State → Process) → Process
require true panic st go = go st
require false panic st go = stops (panics panic) st

-- goes on with a value, or panics where there is none
unfoldable pub with_some : {A : Type 0} → Option A → Panic → State → (A → Process) → Process
with_some (Some a) panic st go = go a
with_some None panic st go = stops (panics panic) st

-- panics with a refusal, or goes on where there is none
unfoldable pub unless : Option Panic → State → (State → Process) → Process
unless (Some panic) st go = stops (panics panic) st
unless None st go = go st

-- changes of one part
abbrev pub set_heap : State → Heap Content → State
set_heap st heap = record st { heap = heap }

abbrev pub set_local : State → ℕ → Value → State
set_local st i v = record st { frame = record st.frame { locals = slice_set st.frame.locals i v } }

-- a local that is no pointer reads as null; a sound script asks for none
abbrev pub pointer_in : Value → Ptr
pointer_in (pointer p) = p
pointer_in _ = null

-- a local that is no number reads as 0; a sound script asks for none
abbrev pub number_in : Value → ℤ
number_in (number z) = z
number_in _ = pos 0

abbrev pub local_of : State → ℕ → Value
local_of st i = unwrap_or (slice_get st.frame.locals i) (number (pos 0))
