-- A heap of cells of words with a limit: what contracts see of the heap, and what a grant and a release make of it.
use Rattle.std.specs.Prelude.{ℕ, ◌+◌, ◌-◌, ◌*◌, ◌/◌, ◌%◌, ◌≡◌, ◌≤◌, List, [], replicate, min, max, length, true, nat_le, nat_lt, nat_eq, Option, find, All, if◌then◌else◌}
use Rattle.wb_basics.specs.declared.limits.TheConstants.{CEILING}
use Rattle.wb_heap_model.specs.declared.heap.Header.{Header}
use Rattle.wb_heap_model.specs.declared.heap.Ptr.{Ptr}
use Rattle.wb_heap_model.specs.declared.heap.Kind.{Kind}
use Rattle.wb_heap_model.specs.declared.heap.Shape.{Shape}
use Rattle.wb_heap_model.specs.Row.{Cell, IsRow, headers, end_of, usable_of, pointer_to, place_of, inserted, without, top_of}
use Rattle.wb_heap_model.specs.Placement.{realloc_place}
use Rattle.wb_heap_model.specs.Space.{Space, space_below, bound_below, committed_by, compressed_to, free_runs, is_shape}
use Rattle.wb_heap_model.specs.CellRow.{with_payload, with_level, resized_words}

pub record LimitedHeap : Type 0 where
  pub row : List (Cell (List ℕ))
  pub limit : ℕ
  pub shape : Shape
  pub committed : ℕ
  -- the greatest committed length so far, for which memory is held
  pub held : ℕ

abbrev pub space_in : LimitedHeap → Space
space_in heap = space_below (bound_below heap.limit) heap.shape

-- no cell, and the least committed length
abbrev pub empty_heap : ℕ → Shape → LimitedHeap
empty_heap limit shape =
    record { row = []; limit = limit; shape = shape; committed = min shape.min (bound_below limit); held = min shape.min (bound_below limit) }

-- where a cell of this length goes
abbrev pub place_in : LimitedHeap → ℕ → ℕ
place_in heap length = place_of (headers heap.row) length

-- the words of a payload in a new cell of this length
abbrev pub zero_words : ℕ → List ℕ
zero_words length = replicate (length / 4 - 4) 0

abbrev pub fresh_cell : ℕ → ℕ → Kind → ℕ → ℕ → Cell (List ℕ)
fresh_cell place length kind number level =
    record { head = record { place = place; length = length; kind = kind; level = level; number = number }; content = zero_words length }

-- the committed length once a cell of this length was granted
abbrev pub committed_with : LimitedHeap → ℕ → ℕ
committed_with heap length = committed_by (space_in heap) heap.committed (place_in heap length + length)

-- the heap once a cell was granted
abbrev pub heap_with : LimitedHeap → ℕ → Kind → ℕ → ℕ → LimitedHeap
heap_with heap length kind number level =
    record heap {
      row = inserted (fresh_cell (place_in heap length) length kind number level) heap.row;
      committed = committed_with heap length;
      held = max heap.held (committed_with heap length);
    }

-- the heap once a cell was released
abbrev pub heap_without : LimitedHeap → Ptr → LimitedHeap
heap_without heap p = record heap { row = without p heap.row }

-- where a cell goes that is to be longer
abbrev pub place_to_grow : LimitedHeap → Header → ℕ → ℕ
place_to_grow heap h length = realloc_place heap.shape.moving (headers heap.row) h length

-- the pointer to it there: a cell that moved has the attempt's number
abbrev pub grown_pointer : LimitedHeap → Header → ℕ → ℕ → Ptr
grown_pointer heap h length number =
    record { place = place_to_grow heap h length; number = if nat_eq (place_to_grow heap h length) h.place then h.number else number }

-- the cell there: what it holds is filled up with zeros, and kind and level stay
abbrev pub grown_cell : LimitedHeap → Cell (List ℕ) → ℕ → ℕ → Cell (List ℕ)
grown_cell heap c length number =
    let p = grown_pointer heap c.head length number in
    record { head = record c.head { place = p.place; length = length; number = p.number }; content = resized_words length c.content }

-- the committed length once the cell is longer
abbrev pub committed_grown : LimitedHeap → Header → ℕ → ℕ
committed_grown heap h length = committed_by (space_in heap) heap.committed (place_to_grow heap h length + length)

-- the heap once a cell was made longer
abbrev pub heap_grown : LimitedHeap → Cell (List ℕ) → ℕ → ℕ → LimitedHeap
heap_grown heap c length number =
    record heap {
      row = inserted (grown_cell heap c length number) (without (pointer_to c.head) heap.row);
      committed = committed_grown heap c.head length;
      held = max heap.held (committed_grown heap c.head length);
    }

-- the heap once a cell was made no longer: its tail is free, and what was there is dropped
abbrev pub heap_shortened : LimitedHeap → Cell (List ℕ) → ℕ → LimitedHeap
heap_shortened heap c length =
    record heap {
      row = inserted (record { head = record c.head { length = length }; content = resized_words length c.content }) (without (pointer_to c.head) heap.row);
    }

-- the heap once a cell was reallocated
abbrev pub heap_reallocated : LimitedHeap → Cell (List ℕ) → ℕ → ℕ → LimitedHeap
heap_reallocated heap c length number =
    if nat_lt c.head.length length then heap_grown heap c length number else heap_shortened heap c length

-- and the pointer to it
abbrev pub reallocated_pointer : LimitedHeap → Header → ℕ → ℕ → Ptr
reallocated_pointer heap h length number = if nat_lt h.length length then grown_pointer heap h length number else pointer_to h

-- the heap once the words of one cell were replaced
abbrev pub heap_changed : LimitedHeap → Ptr → List ℕ → LimitedHeap
heap_changed heap p words = record heap { row = with_payload p words heap.row }

-- the heap once one cell belongs to another level
abbrev pub heap_leveled : LimitedHeap → Ptr → ℕ → LimitedHeap
heap_leveled heap p level = record heap { row = with_level p level heap.row }

-- the committed length once the heap gave up what lies above its last cell
abbrev pub compressed_length : LimitedHeap → ℕ
compressed_length heap = compressed_to (space_in heap) heap.committed (top_of (headers heap.row))

abbrev pub heap_compressed : LimitedHeap → LimitedHeap
heap_compressed heap = record heap { committed = compressed_length heap }

-- the bytes that it gives up
abbrev pub reclaimed_from : LimitedHeap → ℕ
reclaimed_from heap = heap.committed - compressed_length heap

-- the lengths of the free runs below the committed length
abbrev pub runs_in : LimitedHeap → List ℕ
runs_in heap = free_runs 0 (headers heap.row) heap.committed

-- a length that a cell may have: a multiple of 16, from 16 to the greatest that a script or the cleanup stack asks for
pub record IsCellLength (length : ℕ) : Type 0 where
  pub aligned : length % 16 ≡ 0
  pub least : 16 ≤ length
  pub greatest : length ≤ 16777232

-- the first cell that begins at a place or above it
abbrev pub next_live_of : ℕ → List Header → Option Header
next_live_of from row = find (λ h. nat_le from h.place) row

-- what holds of each live cell of a heap with this limit
pub record IsLiveBelow (limit : ℕ) (h : Header) : Type 0 where
  pub placed : h.place % 16 ≡ 0
  pub aligned : h.length % 16 ≡ 0
  pub least : 16 ≤ h.length
  pub numbered : 1 ≤ h.number
  pub within : end_of h ≤ limit

-- a cell has as many words as its usable length has room for
abbrev pub IsFilled : Cell (List ℕ) → Type 0
IsFilled c = 4 * length c.content ≡ usable_of c.head

-- what holds of every heap: its cells are a row below the committed length, which keeps its bounds
pub record IsSoundHeap (heap : LimitedHeap) : Type 0 where
  pub row : IsRow (headers heap.row)
  pub within : All (λ h. end_of h ≤ heap.committed) (headers heap.row)
  pub least : (space_in heap).least ≤ heap.committed
  pub bound : heap.committed ≤ (space_in heap).bound
  pub aligned : heap.committed % 16 ≡ 0
  -- the memory that is held covers the committed length
  pub covered : heap.committed ≤ heap.held
  pub held : heap.held ≤ (space_in heap).bound
  pub filled : All IsFilled heap.row
  pub limit : heap.limit ≤ CEILING
  pub shape : is_shape heap.shape ≡ true
