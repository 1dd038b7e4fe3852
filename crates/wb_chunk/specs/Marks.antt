-- Words in blocks, each of which bears a mark where it may hold anything but zeros.
use Rattle.std.specs.Prelude.{◌≡◌, ℕ, ◌*◌, ◌/◌, ◌<◌, ◌≤◌, ◌⊎◌, Bool, true, false, List, slice_index, slice_index_or}
use Rattle.wb_chunk.specs.declared.marks.TheConstants.{BLOCK}

-- whether the block of a word bears a mark
abbrev pub is_marked : List Bool → ℕ → Bool
is_marked marks k = slice_index_or marks (k / BLOCK) false

-- each word of a block without a mark is 0
abbrev pub AreMarked : List Bool → List ℕ → Type 0
AreMarked marks words = (k : ℕ) → is_marked marks k ≡ false → slice_index words k ≡ 0

-- the words from one place up to another are marked too, and no word has lost its mark
abbrev pub MarksToo : List Bool → List Bool → ℕ → ℕ → Type 0
MarksToo old new first end = (k : ℕ) → is_marked new k ≡ false → (is_marked old k ≡ false) × ((k < first) ⊎ (end ≤ k))

-- no block that begins at this place, in words, or after it bears a mark
abbrev pub IsUnmarkedFrom : List Bool → ℕ → Type 0
IsUnmarkedFrom marks end = (block : ℕ) → end ≤ block * BLOCK → slice_index_or marks block false ≡ false

-- the words from one place up to another are those of another list
abbrev pub AreSameWords : List ℕ → List ℕ → ℕ → ℕ → Type 0
AreSameWords words others first end = (k : ℕ) → first ≤ k → k < end → slice_index others k ≡ slice_index words k

-- no block from one up to another bears a mark
abbrev pub AreUnmarked : List Bool → ℕ → ℕ → Type 0
AreUnmarked marks from end = (block : ℕ) → from ≤ block → block < end → slice_index_or marks block false ≡ false

-- the first block from one on, and below another, that bears a mark; or the other where none does
pub record IsNextMarked (marks : List Bool) (from end block : ℕ) : Type 0 where
  pub after : from ≤ block
  pub within : block ≤ end
  pub passed : AreUnmarked marks from block
  pub found : block < end → slice_index_or marks block false ≡ true

-- the same of two lists: the first block that bears a mark in either
pub record IsNextInEither (marks others : List Bool) (from end block : ℕ) : Type 0 where
  pub after : from ≤ block
  pub within : block ≤ end
  pub passed : AreUnmarked marks from block × AreUnmarked others from block
  pub found : block < end → (slice_index_or marks block false ≡ true) ⊎ (slice_index_or others block false ≡ true)
