-- Rows of live cells, and where a request goes.
use Rattle.std.specs.Prelude.{◌≡◌, ◌≢◌, ℕ, ◌+◌, ◌-◌, ◌*◌, ◌/◌, ◌%◌, ◌≤◌, ◌⊎◌, List, [], ◌∷◌, Bool, not, ◌&&◌, nat_eq, nat_lt, nat_le, if◌then◌else◌, Option, map, find, filter, AllPairs, sum}
use Rattle.wb_heap_model.specs.declared.heap.Ptr.{Ptr}
use Rattle.wb_heap_model.specs.declared.heap.Header.{Header}

-- a live cell; what it holds is of the type that the layer speaks of
pub record Cell (A : Type 0) : Type 0 where
  pub head : Header
  pub content : A

abbrev pub headers : {A : Type 0} → List (Cell A) → List Header
headers row = map (λ c. c.head) row

-- where a cell ends
abbrev pub end_of : Header → ℕ
end_of h = h.place + h.length

-- the bytes of a payload
abbrev pub usable_of : Header → ℕ
usable_of h = h.length - 16

-- the cell begins at the pointer's place and has its number
abbrev pub is_at : Ptr → Header → Bool
is_at p h = nat_eq p.place h.place && nat_eq p.number h.number

abbrev pub pointer_to : Header → Ptr
pointer_to h = record { place = h.place; number = h.number }

-- the cell that a valid pointer names
abbrev pub cell_at : {A : Type 0} → Ptr → List (Cell A) → Option (Cell A)
cell_at p row = find (λ c. is_at p c.head) row

-- the row but for one cell
abbrev pub without : {A : Type 0} → Ptr → List (Cell A) → List (Cell A)
without p row = filter (λ c. not (is_at p c.head)) row

-- the cell goes to its place in the order
abbrev pub inserted : {A : Type 0} → Cell A → List (Cell A) → List (Cell A)
inserted c [] = c ∷ []
inserted c (d ∷ ds) = if nat_lt c.head.place d.head.place then c ∷ d ∷ ds else d ∷ inserted c ds

-- the content of one cell changes
abbrev pub changed : {A : Type 0} → Ptr → (A → A) → List (Cell A) → List (Cell A)
changed p f [] = []
changed p f (c ∷ cs) = if is_at p c.head then record c { content = f c.content } ∷ cs else c ∷ changed p f cs

-- ascending, apart, in multiples of 16, from a place on
abbrev pub IsSpacedFrom : ℕ → List Header → Type 0
IsSpacedFrom at [] = Unit {0}
IsSpacedFrom at (h ∷ hs) =
    (at ≤ h.place) × (h.place % 16 ≡ 0) × (h.length % 16 ≡ 0) × (16 ≤ h.length) × (1 ≤ h.number) × IsSpacedFrom (end_of h) hs

-- what every heap keeps: its cells ascend without meeting, and no two have one number
pub record IsRow (row : List Header) : Type 0 where
  pub spaced : IsSpacedFrom 0 row
  pub numbered : AllPairs (λ g h. g.number ≢ h.number) row

-- the cell meets none of the bytes
abbrev pub Misses : ℕ → ℕ → Header → Type 0
Misses place length h = (place + length ≤ h.place) ⊎ (end_of h ≤ place)

-- no cell meets the bytes
abbrev pub IsFree : List Header → ℕ → ℕ → Type 0
IsFree [] place length = Unit {0}
IsFree (h ∷ hs) place length = Misses place length h × IsFree hs place length

-- the first gap from a place on that is long enough
abbrev pub place_from : ℕ → List Header → ℕ → ℕ
place_from at [] length = at
place_from at (h ∷ hs) length = if nat_le (at + length) h.place then at else place_from (end_of h) hs length

-- first fit: the place of a request is the first gap that is long enough, and above the last cell there is always room
abbrev pub place_of : List Header → ℕ → ℕ
place_of row length = place_from 0 row length

-- the same in words: free, a multiple of 16, and the least such; `place_is_least` among the laws says that it is the same
pub record IsLeastPlace (row : List Header) (length place : ℕ) : Type 0 where
  pub aligned : place % 16 ≡ 0
  pub free : IsFree row place length
  pub least : (q : ℕ) → q % 16 ≡ 0 → IsFree row q length → place ≤ q

-- the length of the cell for a request of a number of bytes: a header of 16, and the bytes in steps of 16
abbrev pub cell_length : ℕ → ℕ
cell_length bytes = 16 + 16 * ((bytes + 15) / 16)

-- the end of the last cell, or a place where there is none
abbrev pub top_from : ℕ → List Header → ℕ
top_from at [] = at
top_from at (h ∷ hs) = top_from (end_of h) hs

-- the end of the last cell
abbrev pub top_of : List Header → ℕ
top_of row = top_from 0 row

-- the cell lengths together
abbrev pub total_length : List Header → ℕ
total_length row = sum (map (λ h. h.length) row)
