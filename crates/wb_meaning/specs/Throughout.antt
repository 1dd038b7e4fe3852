-- The cells that a run passes through.
use Rattle.std.specs.Prelude.{◌≡◌, ℕ, ◌+◌, ◌≤◌, List, All, length, map}
use Rattle.wb_heap_model.specs.declared.heap.Answer.{Answer}
use Rattle.wb_heap_model.specs.declared.heap.Header.{Header}
use Rattle.wb_heap_model.specs.declared.heap.Kind.{Kind}
use Rattle.wb_heap_model.specs.declared.heap.Kind.TheVariants.{Raw, Object, Text, Cleanup}
use Rattle.wb_heap_model.specs.declared.reported.Leak.{Leak}
use Rattle.wb_tree.specs.declared.script.Script.{Script}
use Rattle.wb_tree.specs.Bodies.{class_at}
use Rattle.wb_heap_model.specs.Row.{Cell, headers, IsRow, top_of, total_length}
use Rattle.wb_heap_model.specs.Reported.{leak_of}
use Rattle.wb_heap_model.specs.Contents.{Content, words, fields, units, none}
use Rattle.wb_meaning.specs.State.{State, Query, heap_note, available_note, compress_note, Process, ends, stops, asks, notes}

-- a note tells of a state
abbrev pub IsNoteOf : State → Query → Type 0
IsNoteOf st (heap_note count total) = (count ≡ length st.heap.row) × (total ≡ total_length (headers st.heap.row))
IsNoteOf st (available_note row) = row ≡ headers st.heap.row
IsNoteOf st (compress_note top) = top ≡ top_of (headers st.heap.row)

-- A fact about each state that a process shows, beside how many attempts were made before: where it ends or stops, where it
-- asks for an attempt, and of which it makes a note. Attempts are numbered in order, and answered in any way. As a run shows
-- where its budget cuts it, the states that it passes through from step to step are those that it shows under all budgets.
abbrev pub Throughout : (ℕ → State → Type 0) → ℕ → Process → Type 0
Throughout P made (ends way st) = P made st
Throughout P made (stops stop st) = P made st
Throughout P made (asks t cut go) = P made cut × ((answer : Answer) → Throughout P (made + 1) (go (made + 1) answer))
Throughout P made (notes q p) = ((st : State) × P made st × IsNoteOf st q) × Throughout P made p

-- a Raw cell holds words, an object a pointer for each field of its class, and a text units; what the cleanup stack's cell holds
-- is in the state itself
abbrev pub SuitsKind : Script → Kind → Content → Type 0
SuitsKind script Raw (words ws) = Unit {0}
SuitsKind script (Object class) (fields ps) = length ps ≡ length (class_at script class).fields
SuitsKind script Text (units us) = Unit {0}
SuitsKind script Cleanup none = Unit {0}
SuitsKind script _ _ = ⊥

abbrev pub HoldsItsKind : Script → Cell Content → Type 0
HoldsItsKind script c = SuitsKind script c.head.kind c.content

-- what the live cells of a script are once a number of attempts were made: a row, numbered by these attempts, each with what its
-- kind holds
pub record AreCellsAfter (script : Script) (made : ℕ) (cells : List (Cell Content)) : Type 0 where
  pub row : IsRow (headers cells)
  pub made_before : All (λ h. h.number ≤ made) (headers cells)
  pub kinds : All (HoldsItsKind script) cells

-- what a run tells as leaks: cells of a row, numbered by its attempts
pub record AreLeaksAfter (made : ℕ) (leaks : List Leak) : Type 0 where
  pub cells : List Header
  pub told : leaks ≡ map leak_of cells
  pub row : IsRow cells
  pub made_before : All (λ h. h.number ≤ made) cells
