-- A chunk's words, and what its fields agree on.
use Rattle.std.specs.Prelude.{◌≡◌, ℕ, ◌*◌, ◌≤◌, List, [], Bool, length, Option, Some, None}
use Rattle.std.specs.declared.alloc.Global.{Global}
use Rattle.wb_chunk.specs.declared.TheConstants.{MOST_WORDS}
use Rattle.wb_chunk.specs.declared.marks.TheConstants.{BLOCK}
use Rattle.wb_chunk.specs.declared.region.Region.{Region}
use Rattle.wb_chunk.specs.Marks.{AreMarked}

-- the words of a region, where there is one
abbrev pub words_of : Option (Region Global) → List ℕ
words_of None = []
words_of (Some r) = r.words

-- a region has room for a number of words, and its block goes back to this allocator; without one there is no room
abbrev pub HasRoom : Option (Region Global) → ℕ → Global → Type 0
HasRoom None capacity alloc = capacity ≡ 0
HasRoom (Some r) capacity alloc = (r.capacity ≡ capacity) × (r.alloc ≡ alloc)

-- what holds of a chunk's fields
pub record IsKept (region : Option (Region Global)) (count capacity : ℕ) (marks : List Bool) (alloc : Global) : Type 0 where
  pub counted : count ≡ length (words_of region)
  pub room : HasRoom region capacity alloc
  pub within : count ≤ capacity
  pub bounded : capacity ≤ MOST_WORDS
  pub covered : capacity ≤ BLOCK * length marks
  pub marked : AreMarked marks (words_of region)
