-- The hole that a released cell leaves or that lies after a live one, and how it is closed.
use Rattle.std.specs.Prelude.{ℕ, ◌+◌, ◌-◌, ◌*◌, ◌/◌, ◌%◌, ◌≡◌, ◌≤◌, List, [], ◌∷◌, Bool, not, ◌&&◌, slice_index, nat_eq, if◌then◌else◌}
use Rattle.std.specs.List.{replace_range}
use Rattle.wb_cells.specs.declared.free_list.Ends.{Ends}
use Rattle.wb_cells.specs.declared.free_list.Hole.{Hole}
use Rattle.wb_cells.specs.declared.free_list.Neighbours.{Neighbours}
use Rattle.wb_cells.specs.FreeList.{NO_PLACE, IsWithin, end_at, linked_first, linked_words, next_past, parted_words}

-- whether a free cell is right below a place
abbrev pub touches : List ℕ → ℕ → ℕ → Bool
touches words before place = not (nat_eq before NO_PLACE) && nat_eq (end_at words before) place

-- the free bytes after the cell at a place
abbrev pub hole_past : List ℕ → ℕ → Neighbours → Hole
hole_past words place around = record {
  start = end_at words place;
  end = if nat_eq around.after (end_at words place) then end_at words around.after else end_at words place;
  before = around.before;
  next = if nat_eq around.after (end_at words place) then slice_index words (around.after / 16 * 4 + 2) else around.after;
}

-- the cell at a place, and the free cells that touch it
abbrev pub hole_of : List ℕ → ℕ → Neighbours → Hole
hole_of words place around = record {
  start = if touches words around.before place then around.before else place;
  end = if nat_eq around.after (end_at words place) then end_at words around.after else end_at words place;
  before = if touches words around.before place then around.prior else around.before;
  next = if nat_eq around.after (end_at words place) then slice_index words (around.after / 16 * 4 + 2) else around.after;
}

-- the words once a hole is a free cell, or is none, or lies above the top
abbrev pub closed_words : List ℕ → ℕ → Hole → List ℕ
closed_words words top hole =
    if nat_eq hole.end top then linked_words words hole.before NO_PLACE else
    if nat_eq hole.start hole.end then linked_words words hole.before hole.next else
    linked_words (replace_range words (hole.start / 16 * 4) (hole.start / 16 * 4 + 4) ((hole.end - hole.start) ∷ 0 ∷ hole.next ∷ 0 ∷ [])) hole.before hole.start

-- the top and the first free cell then
abbrev pub closed_ends : ℕ → ℕ → Hole → Ends
closed_ends first top hole =
    if nat_eq hole.end top then record { top = hole.start; first = linked_first first hole.before NO_PLACE } else
    record { top = top; first = linked_first first hole.before (if nat_eq hole.start hole.end then hole.next else hole.start) }

-- a free cell at a place is long enough
pub record IsOpenable (words : List ℕ) (place bytes : ℕ) : Type 0 where
  pub within : IsWithin words place
  pub fits : bytes ≤ slice_index words (place / 16 * 4)
  pub placed : place % 16 ≡ 0
  pub whole : slice_index words (place / 16 * 4) % 16 ≡ 0

-- room above the top
pub record IsRaised (words words' : List ℕ) (first place bytes : ℕ) (ends : Ends) : Type 0 where
  pub same : words' ≡ words
  pub now : ends ≡ record { top = place + bytes; first = first }

-- room in a free cell
pub record IsOpened (words words' : List ℕ) (first top place bytes before : ℕ) (ends : Ends) : Type 0 where
  pub written : words' ≡ linked_words (parted_words words place bytes) before (next_past words place bytes)
  pub now : ends ≡ record { top = top; first = linked_first first before (next_past words place bytes) }
