-- The free cells of a row: the bytes between its live cells, and the list of them.
use Rattle.std.specs.Prelude.{ℕ, ◌+◌, ◌-◌, ◌*◌, ◌/◌, ◌%◌, ◌≡◌, ◌<◌, List, [], ◌∷◌, nat_eq, slice_index, slice_set, Option, Some, None, if◌then◌else◌}
use Rattle.wb_heap_model.specs.declared.heap.Header.{Header}
use Rattle.wb_heap_model.specs.Row.{Cell, headers, end_of}
use Rattle.wb_cells.specs.declared.free_list.Hole.{Hole}
use Rattle.wb_cells.specs.FreeList.{Gap, NO_PLACE}
use Rattle.wb_cells.specs.Maxima.{IsLast}

-- a length at one place, which is counted in steps of 16 bytes, and 0 elsewhere
abbrev pub one_at : ℕ → ℕ → ℕ → ℕ
one_at place length k = if nat_eq (16 * k) place then length else 0

-- the length of the free cell that begins at a place, among those before the cells of a row, from a place on
abbrev pub gap_from : ℕ → List Header → ℕ → ℕ
gap_from at [] k = 0
gap_from at (h ∷ hs) k = one_at at (h.place - at) k + gap_from (end_of h) hs k

-- the same among free cells
abbrev pub gap_of : List Gap → ℕ → ℕ
gap_of [] k = 0
gap_of (g ∷ gs) k = one_at g.place g.length k + gap_of gs k

-- they begin at multiples of 16, and none is empty
abbrev pub AreSet : List Gap → Type 0
AreSet [] = Unit {0}
AreSet (g ∷ gs) = (g.place % 16 ≡ 0) × (0 < g.length) × AreSet gs

-- lengths by place list just these free cells
pub record AreListed (gaps : List Gap) (lengths : List ℕ) : Type 0 where
  pub set : AreSet gaps
  pub listed : (k : ℕ) → slice_index lengths k ≡ gap_of gaps k

-- lengths by place are those of the free cells of a row
abbrev pub AreGapsOf : List (Cell (List ℕ)) → List ℕ → Type 0
AreGapsOf row lengths = (k : ℕ) → slice_index lengths k ≡ gap_from 0 (headers row) k

-- the lengths once a cell was put in where a free one begins, or at the top
abbrev pub opened_lengths : List ℕ → ℕ → ℕ → ℕ → List ℕ
opened_lengths lengths top place bytes =
    if nat_eq place top then lengths else
    slice_set (slice_set lengths (place / 16) 0) ((place + bytes) / 16) (slice_index lengths (place / 16) - bytes)

-- the lengths once a hole is a free cell, or lies above the top: what began at the end of a live cell begins there
abbrev pub closed_lengths : List ℕ → ℕ → ℕ → Hole → List ℕ
closed_lengths lengths top end hole =
    if nat_eq hole.end top then slice_set lengths (hole.start / 16) 0 else
    slice_set (slice_set lengths (end / 16) 0) (hole.start / 16) (hole.end - hole.start)

-- the place that a search found, in bytes, or another
abbrev pub found_or : Option ℕ → ℕ → ℕ
found_or None other = other
found_or (Some k) other = 16 * k

-- the place of the last free cell before one, which is counted in steps of 16 bytes
pub record IsPrior (lengths : List ℕ) (at prior : ℕ) : Type 0 where
  pub found : Option ℕ
  pub last : IsLast (slice_index lengths) 0 at found
  pub is : prior ≡ found_or found NO_PLACE
