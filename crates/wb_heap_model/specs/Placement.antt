-- How a heap chooses the places of cells. All that a run's meaning asks of places goes through `place_to_put`, `place_to_grow_to` and `has_stayed`.
use Rattle.std.specs.Prelude.{ℕ, ◌+◌, List, [], ◌∷◌, drop, Bool, false, not, ◌&&◌, ◌||◌, nat_eq, nat_le, if◌then◌else◌}
use Rattle.std.specs.List.{list_all}
use Rattle.wb_heap_model.specs.declared.heap.Header.{Header}
use Rattle.wb_heap_model.specs.declared.heap.Shape.{Shape}
use Rattle.wb_heap_model.specs.Row.{end_of, is_at, pointer_to, place_of}

-- what a placing says of an attempt: where its cell goes, and whether a cell that grows stays where it is
pub record Spot : Type 0 where
  pub place : ℕ
  pub stays : Bool

-- first fit, in which a cell that grows moves always, or only where the bytes after it aren't free; or what a placing says of the attempts
-- that are to come, in their order
pub data Placement : Type 0 where
  first_fit : Bool → Placement
  by_placing : List Spot → Placement

-- what it says of the next attempt; where the list has run out: place 0, and a cell that grows doesn't stay
abbrev pub next_spot : List Spot → Spot
next_spot [] = record { place = 0; stays = false }
next_spot (spot ∷ spots) = spot

-- that of a heap of a shape
abbrev pub placement_of : Shape → Placement
placement_of shape = first_fit shape.moving

-- places are chosen by first fit
abbrev pub IsByFirstFit : Placement → Type 0
IsByFirstFit (first_fit moving) = Unit {0}
IsByFirstFit (by_placing spots) = ⊥

-- whether the bytes of a longer cell are free but for the cell itself
abbrev pub fits_in_place : List Header → Header → ℕ → Bool
fits_in_place row h length =
    list_all (λ g. is_at (pointer_to h) g || (nat_le (h.place + length) g.place || nat_le (end_of g) h.place)) row

-- the place of a cell that is to be longer: its own, where cells may stay and the bytes after it are free, else the first gap beside it
abbrev pub realloc_place : Bool → List Header → Header → ℕ → ℕ
realloc_place moving row h length = if not moving && fits_in_place row h length then h.place else place_of row length

-- where a new cell of this length goes
abbrev pub place_to_put : Placement → List Header → ℕ → ℕ
place_to_put (first_fit moving) row length = place_of row length
place_to_put (by_placing spots) row length = (next_spot spots).place

-- where a cell goes that is to be longer
abbrev pub place_to_grow_to : Placement → List Header → Header → ℕ → ℕ
place_to_grow_to (first_fit moving) row h length = realloc_place moving row h length
place_to_grow_to (by_placing spots) row h length = if (next_spot spots).stays then h.place else (next_spot spots).place

-- whether a cell that was to be longer, and is at this place now, has stayed where it was
abbrev pub has_stayed : Placement → Header → ℕ → Bool
has_stayed (first_fit moving) h place = nat_eq place h.place
has_stayed (by_placing spots) h place = (next_spot spots).stays

-- once an attempt was made
abbrev pub after_placing : Placement → Placement
after_placing (first_fit moving) = first_fit moving
after_placing (by_placing spots) = by_placing (drop 1 spots)
