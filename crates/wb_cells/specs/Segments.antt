-- The words of a chunk as segments: live cells and free ones, end to end from place 0.
use Rattle.std.specs.Prelude.{ℕ, ◌+◌, ◌*◌, ◌/◌, ◌%◌, ◌≡◌, ◌≤◌, ◌<◌, List, [], ◌∷◌, ◌++◌, Bool, true, false, length, replicate}
use Rattle.wb_heap_model.specs.declared.heap.Kind.{Kind}
use Rattle.wb_heap_model.specs.declared.heap.Kind.TheVariants.{Raw, Object, Text, Cleanup}
use Rattle.wb_heap_model.specs.Row.{Cell}

-- a live cell with its kind, level, number and payload, or a free cell with whatever its words hold past the header
pub data Segment : Type 0 where
  live : Kind → ℕ → ℕ → List ℕ → Segment
  free : List ℕ → Segment

-- the state word of a live cell
abbrev pub state_of : Kind → ℕ
state_of Raw = 1
state_of Text = 2
state_of Cleanup = 3
state_of (Object class) = 16 + class

-- the words past the header
abbrev pub body_of : Segment → List ℕ
body_of (live kind level number body) = body
body_of (free body) = body

-- the cell length, in bytes
abbrev pub size_of : Segment → ℕ
size_of s = 16 + 4 * length (body_of s)

-- the bytes of segments
abbrev pub total : List Segment → ℕ
total [] = 0
total (s ∷ ss) = size_of s + total ss

-- the place of the first free one, or what follows where there is none
abbrev pub first_free : ℕ → List Segment → ℕ → ℕ
first_free at [] last = last
first_free at (live kind level number body ∷ ss) last = first_free (at + (16 + 4 * length body)) ss last
first_free at (free body ∷ ss) last = at

-- the place of the last free one, or what came before where there is none
abbrev pub last_free : ℕ → List Segment → ℕ → ℕ
last_free at [] none = none
last_free at (live kind level number body ∷ ss) none = last_free (at + (16 + 4 * length body)) ss none
last_free at (free body ∷ ss) none = last_free (at + (16 + 4 * length body)) ss at

-- the words of segments from a place on; the last free one is followed by `last`
abbrev pub words_of : ℕ → List Segment → ℕ → List ℕ
words_of at [] last = []
words_of at (live kind level number body ∷ ss) last =
    (16 + 4 * length body) ∷ state_of kind ∷ level ∷ number ∷ (body ++ words_of (at + (16 + 4 * length body)) ss last)
words_of at (free body ∷ ss) last =
    (16 + 4 * length body) ∷ 0 ∷ first_free (at + (16 + 4 * length body)) ss last ∷ 0 ∷ (body ++ words_of (at + (16 + 4 * length body)) ss last)

-- a live segment as a cell at a place
abbrev pub cell_from : ℕ → Kind → ℕ → ℕ → List ℕ → Cell (List ℕ)
cell_from at kind level number body =
    record { head = record { place = at; length = 16 + 4 * length body; kind = kind; level = level; number = number }; content = body }

-- the live cells of segments
abbrev pub row_from : ℕ → List Segment → List (Cell (List ℕ))
row_from at [] = []
row_from at (live kind level number body ∷ ss) = cell_from at kind level number body ∷ row_from (at + (16 + 4 * length body)) ss
row_from at (free body ∷ ss) = row_from (at + (16 + 4 * length body)) ss

-- one bit for each 16 bytes: whether a live cell begins there
abbrev pub starts_of : List Segment → List Bool
starts_of [] = []
starts_of (live kind level number body ∷ ss) = true ∷ (replicate (length body / 4) false ++ starts_of ss)
starts_of (free body ∷ ss) = false ∷ (replicate (length body / 4) false ++ starts_of ss)

-- payloads are whole places of 16 bytes, live cells have a number, and classes are below 2^16
abbrev pub AreWhole : List Segment → Type 0
AreWhole [] = Unit {0}
AreWhole (live kind level number body ∷ ss) = (length body % 4 ≡ 0) × (1 ≤ number) × (state_of kind < 65552) × AreWhole ss
AreWhole (free body ∷ ss) = (length body % 4 ≡ 0) × AreWhole ss

-- a live one comes first
abbrev pub BeginsLive : List Segment → Type 0
BeginsLive [] = ⊥
BeginsLive (live kind level number body ∷ ss) = Unit {0}
BeginsLive (free body ∷ ss) = ⊥

-- no two free ones touch, and none is last
abbrev pub AreMerged : List Segment → Type 0
AreMerged [] = Unit {0}
AreMerged (live kind level number body ∷ ss) = AreMerged ss
AreMerged (free body ∷ ss) = BeginsLive ss × AreMerged ss
