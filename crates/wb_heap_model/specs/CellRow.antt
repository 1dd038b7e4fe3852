-- Cells in a chunk, as contracts see them: the row that the words spell, and how many bytes are held.
use Rattle.std.specs.Prelude.{ℕ, ◌-◌, ◌*◌, ◌/◌, ◌%◌, ◌≡◌, ◌≤◌, ◌⊎◌, All, length, List, [], ◌∷◌, ◌++◌, take, replicate, Any, Option, Some, None, true, if◌then◌else◌}
use Rattle.wb_basics.specs.declared.limits.TheConstants.{CEILING}
use Rattle.wb_heap_model.specs.declared.heap.Ptr.{Ptr}
use Rattle.wb_heap_model.specs.declared.heap.Header.{Header}
use Rattle.wb_heap_model.specs.Row.{Cell, IsRow, headers, end_of, usable_of, top_of, is_at, cell_at, changed, IsFree, Misses}

pub record CellRow : Type 0 where
  pub row : List (Cell (List ℕ))
  -- in bytes
  pub held : ℕ

abbrev pub content_or_nil : Option (Cell (List ℕ)) → List ℕ
content_or_nil None = []
content_or_nil (Some c) = c.content

-- the words of the cell that a pointer names, and none if it names no cell
abbrev pub payload_of : Ptr → List (Cell (List ℕ)) → List ℕ
payload_of p row = content_or_nil (cell_at p row)

-- the row once the payload of one cell was replaced
abbrev pub with_payload : Ptr → List ℕ → List (Cell (List ℕ)) → List (Cell (List ℕ))
with_payload p words row = changed p (λ _. words) row

-- the words of a payload, cut or filled up with zeros for a cell of another length
abbrev pub resized_words : ℕ → List ℕ → List ℕ
resized_words to ws = take (to / 4 - 4) ws ++ replicate (to / 4 - 4 - length ws) 0

-- the cell with another length, at its place
abbrev pub resized_cell : ℕ → Cell (List ℕ) → Cell (List ℕ)
resized_cell to c = record { head = record c.head { length = to }; content = resized_words to c.content }

-- the row once one cell has another length
abbrev pub with_length : Ptr → ℕ → List (Cell (List ℕ)) → List (Cell (List ℕ))
with_length p to [] = []
with_length p to (c ∷ cs) = if is_at p c.head then resized_cell to c ∷ cs else c ∷ with_length p to cs

-- the row once one cell belongs to another level
abbrev pub with_level : Ptr → ℕ → List (Cell (List ℕ)) → List (Cell (List ℕ))
with_level p to [] = []
with_level p to (c ∷ cs) = if is_at p c.head then record c { head = record c.head { level = to } } ∷ cs else c ∷ with_level p to cs

-- the free bytes between the cell that a pointer names and the next one; `None` if it is the last
abbrev pub room_after : Ptr → List Header → Option ℕ
room_after p (h ∷ g ∷ hs) = if is_at p h then Some (g.place - end_of h) else room_after p (g ∷ hs)
room_after p _ = None

-- the header is the pointer's own, or of a cell that meets none of a number of bytes from the pointer's place on
abbrev pub Clears : Ptr → ℕ → Header → Type 0
Clears p to h = (is_at p h ≡ true) ⊎ Misses p.place to h

-- the cell that a pointer names can have this length where it is: no other cell meets its bytes then
abbrev pub FitsInPlace : Ptr → ℕ → List Header → Type 0
FitsInPlace p to [] = Unit {0}
FitsInPlace p to (h ∷ hs) = Clears p to h × FitsInPlace p to hs

-- what holds of all cells in a chunk: they are a row below the bytes held, and each payload has the words of its cell's length
pub record IsSoundCells (cells : CellRow) : Type 0 where
  pub row : IsRow (headers cells.row)
  pub filled : All (λ c. 4 * length c.content ≡ usable_of c.head) cells.row
  pub within : top_of (headers cells.row) ≤ cells.held
  pub rounded : cells.held % 16 ≡ 0
  pub bounded : cells.held ≤ CEILING

-- free bytes begin at the place, right at the end of a cell or at 0, and there are at least as many as asked for
pub record IsGap (row : List Header) (place length : ℕ) : Type 0 where
  pub begins : (place ≡ 0) ⊎ Any (λ h. end_of h ≡ place) row
  pub free : IsFree row place length
