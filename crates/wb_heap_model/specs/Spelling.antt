-- Which row a list of words spells, and how a cell's words read as its content.
use Rattle.std.specs.Prelude.{ℕ, ℤ, pos, negsuc, zero, suc, ◌+◌, ◌-◌, ◌/◌, ◌%◌, ◌^◌, ◌&&◌, List, [], ◌∷◌, true, false, Option, Some, None, nat_eq, nat_le, nat_lt, if◌then◌else◌, option_map, slice_index, length, take, drop, map}
use Rattle.wb_heap_model.specs.declared.heap.Ptr.{Ptr}
use Rattle.wb_heap_model.specs.declared.heap.Header.{Header}
use Rattle.wb_heap_model.specs.declared.heap.Kind.{Kind}
use Rattle.wb_heap_model.specs.declared.heap.Kind.TheVariants.{Raw, Object, Text, Cleanup}
use Rattle.wb_heap_model.specs.Row.{Cell}
use Rattle.wb_heap_model.specs.Contents.{Content, words, fields, units, none}

-- the kind of a live cell with this state word; that of a free cell is 0, and other words are of no cell
abbrev pub kind_of : ℕ → Option Kind
kind_of state =
    if nat_eq state 1 then Some Raw else
    if nat_eq state 2 then Some Text else
    if nat_eq state 3 then Some Cleanup else
    if nat_le 16 state && nat_lt state (16 + 2 ^ 16) then Some (Object (state - 16)) else None

-- the header that the words at a place are, of a cell of this kind
abbrev pub header_of : ℕ → List ℕ → Kind → Header
header_of place ws kind = record {
  place = place;
  length = slice_index ws 0;
  kind = kind;
  level = slice_index ws 2;
  number = slice_index ws 3;
}

-- the header of the live cell whose words begin at a place, and none if they are no live cell's
abbrev pub header_at : ℕ → List ℕ → Option Header
header_at place ws = option_map (header_of place ws) (kind_of (slice_index ws 1))

-- the live cell itself
abbrev pub cell_of : ℕ → List ℕ → Option (Cell (List ℕ))
cell_of place ws = option_map (λ head. record { head = head; content = take (slice_index ws 0 / 4 - 4) (drop 4 ws) }) (header_at place ws)

abbrev pub with_cell_if : Option (Cell (List ℕ)) → List (Cell (List ℕ)) → List (Cell (List ℕ))
with_cell_if None cs = cs
with_cell_if (Some c) cs = c ∷ cs

-- at most a number of headers, from a place on, with the words from there on
abbrev pub spelled_from : ℕ → ℕ → ℕ → List ℕ → List (Cell (List ℕ))
spelled_from zero top place ws = []
spelled_from (suc n) top place ws =
    elim (nat_lt place top) [
      | true ↦ with_cell_if (cell_of place ws) (spelled_from n top (place + slice_index ws 0) (drop (slice_index ws 0 / 4) ws))
      | false ↦ []
    ]

-- Spelling: the row that words spell up to a top
abbrev pub spelled : List ℕ → ℕ → List (Cell (List ℕ))
spelled ws top = spelled_from (length ws) top 0 ws

-- a word as a signed number
abbrev pub signed : ℕ → ℤ
signed w = if nat_lt w (2 ^ 31) then pos w else negsuc (2 ^ 32 - 1 - w)

abbrev pub pointers : List ℕ → List Ptr
pointers (place ∷ number ∷ ws) = record { place = place; number = number } ∷ pointers ws
pointers _ = []

abbrev pub halves : List ℕ → List ℕ
halves [] = []
halves (w ∷ ws) = w % 2 ^ 16 ∷ w / 2 ^ 16 ∷ halves ws

-- the fields that the words of an object read as, where its class has a number of them
abbrev pub fields_in : ℕ → List ℕ → List Ptr
fields_in count ws = take count (pointers (drop 2 ws))

-- a cell's content, where a class has a number of fields
abbrev pub read_as : (ℕ → ℕ) → Kind → List ℕ → Content
read_as count Raw ws = words (map signed ws)
read_as count (Object class) ws = fields (fields_in (count class) ws)
read_as count Text ws = units (take (slice_index ws 0) (halves (drop 1 ws)))
read_as count Cleanup ws = none
