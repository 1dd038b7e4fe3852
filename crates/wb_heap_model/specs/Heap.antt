-- What attempts, marks and checks make of a heap of cells, whatever the cells hold.
use Rattle.std.specs.Prelude.{ℕ, ◌+◌, ◌-◌, List, [], ◌∷◌, Bool, true, false, not, ◌&&◌, nat_eq, if◌then◌else◌, Option, Some, None, filter, length}
use Rattle.wb_heap_model.specs.declared.heap.TheConstants.Panic.{NO_OPEN_MARK}
use Rattle.wb_heap_model.specs.declared.heap.Ptr.{Ptr}
use Rattle.wb_heap_model.specs.declared.heap.Header.{Header}
use Rattle.wb_heap_model.specs.declared.heap.Kind.{Kind}
use Rattle.wb_heap_model.specs.declared.heap.Kind.TheVariants.{Cleanup}
use Rattle.wb_heap_model.specs.declared.heap.Answer.{Answer}
use Rattle.wb_heap_model.specs.declared.heap.Answer.TheVariants.{Granted}
use Rattle.wb_heap_model.specs.declared.heap.Panic.{Panic}
use Rattle.wb_heap_model.specs.declared.heap.Panic.TheVariants.{Alloc}
use Rattle.wb_heap_model.specs.Placement.{Placement, after_placing, has_stayed, place_to_grow_to, place_to_put}
use Rattle.wb_heap_model.specs.Row.{Cell, headers, pointer_to, without, inserted, cell_length}
use Rattle.wb_heap_model.specs.Rules.{Setting, never, is_due, after_attempt, Request}

-- cells, the current level of marks, the script's own setting, and how places are chosen
pub record Heap (A : Type 0) : Type 0 where
  pub row : List (Cell A)
  pub level : ℕ
  pub setting : Setting
  pub placement : Placement

-- no cell yet
abbrev pub no_cells : {A : Type 0} → Placement → Heap A
no_cells placement = record { row = []; level = 0; setting = never; placement = placement }

-- a heap after an answer, and the pointer that was given
pub record AfterAnswer (A : Type 0) : Type 0 where
  pub heap : Heap A
  pub given : Option Ptr

-- what an attempt for a cell of this length at this place asks
abbrev pub request_at : {A : Type 0} → Heap A → ℕ → ℕ → Request
request_at heap place length = record { length = length; place = place; due = is_due heap.setting }

-- the heap once an attempt was counted
abbrev pub attempt_counted : {A : Type 0} → Heap A → Heap A
attempt_counted heap = record heap { setting = after_attempt heap.setting; placement = after_placing heap.placement }

-- what an allocation asks: its place is chosen before anything may refuse it
abbrev pub alloc_request : {A : Type 0} → Heap A → ℕ → Request
alloc_request heap bytes = request_at heap (place_to_put heap.placement (headers heap.row) (cell_length bytes)) (cell_length bytes)

-- the cell that a grant inserts: the attempt's number, and the current level
abbrev pub new_cell : {A : Type 0} → Heap A → ℕ → Request → Kind → A → Cell A
new_cell heap number t kind fresh =
    record { head = record { place = t.place; length = t.length; kind = kind; level = heap.level; number = number }; content = fresh }

-- the heap after an allocation was answered
abbrev pub after_alloc : {A : Type 0} → Heap A → Request → Kind → A → ℕ → Answer → AfterAnswer A
after_alloc heap t kind fresh number Granted =
    record {
      heap = record (attempt_counted heap) { row = inserted (new_cell heap number t kind fresh) heap.row };
      given = Some (record { place = t.place; number = number });
    }
after_alloc heap t kind fresh number _ = record { heap = attempt_counted heap; given = None }

-- what a reallocation to a longer cell asks
abbrev pub realloc_request : {A : Type 0} → Heap A → Header → ℕ → Request
realloc_request heap h bytes = request_at heap (place_to_grow_to heap.placement (headers heap.row) h (cell_length bytes)) (cell_length bytes)

-- the header after a granted reallocation: a cell that moved gets the attempt's number; kind and level stay
abbrev pub moved : Placement → Header → ℕ → Request → Header
moved placement h number t = record h { place = t.place; length = t.length; number = if has_stayed placement h t.place then h.number else number }

-- the heap after a reallocation was answered
abbrev pub after_realloc : {A : Type 0} → Heap A → Request → Header → A → ℕ → Answer → AfterAnswer A
after_realloc heap t h content number Granted =
    record {
      heap = record (attempt_counted heap) { row = inserted (record { head = moved heap.placement h number t; content = content }) (without (pointer_to h) heap.row) };
      given = Some (pointer_to (moved heap.placement h number t));
    }
after_realloc heap t h content number _ = record { heap = attempt_counted heap; given = None }

-- a cell that becomes no longer, which is no attempt
abbrev pub shortened : {A : Type 0} → Heap A → Header → ℕ → A → Heap A
shortened heap h length content =
    record heap { row = inserted (record { head = record h { length = length }; content = content }) (without (pointer_to h) heap.row) }

abbrev pub is_cleanup : Kind → Bool
is_cleanup Cleanup = true
is_cleanup _ = false

-- the cells of a level that a check counts; the cleanup cell is of none
abbrev pub cells_of_level : ℕ → List Header → List Header
cells_of_level level row = filter (λ h. nat_eq h.level level && not (is_cleanup h.kind)) row

-- the cells that a check of all levels counts
abbrev pub cells_of_all_levels : List Header → List Header
cells_of_all_levels row = filter (λ h. not (is_cleanup h.kind)) row

-- the place of the first of some cells, or 0 where there is none
abbrev pub lowest : List Header → ℕ
lowest [] = 0
lowest (h ∷ hs) = h.place

-- what a check refuses that expects a number of these cells
abbrev pub checked : List Header → ℕ → Option Panic
checked cells n = if nat_eq (length cells) n then None else Some (Alloc (lowest cells))

-- a cell of the level takes the level below; the cleanup cell has none
abbrev pub lower : ℕ → Header → Header
lower level h = if nat_eq h.level level && not (is_cleanup h.kind) then record h { level = level - 1 } else h

-- each cell of the level takes the level below
abbrev pub lowered : {A : Type 0} → ℕ → List (Cell A) → List (Cell A)
lowered level [] = []
lowered level (c ∷ cs) = record c { head = lower level c.head } ∷ lowered level cs

-- the heap one level deeper
abbrev pub after_mark : {A : Type 0} → Heap A → Heap A
after_mark heap = record heap { level = heap.level + 1 }

-- the heap after a `markend` that finds what it expects
abbrev pub after_mark_end : {A : Type 0} → Heap A → Heap A
after_mark_end heap = record heap { row = lowered heap.level heap.row; level = heap.level - 1 }

-- what a `markend` refuses
abbrev pub mark_end_refusal : {A : Type 0} → Heap A → ℕ → Option Panic
mark_end_refusal heap n = if nat_eq heap.level 0 then Some NO_OPEN_MARK else checked (cells_of_level heap.level (headers heap.row)) n
