-- Numbers in a row, which of them are not 0, the greatest of each 64 of them, and searches among them.
use Rattle.std.specs.Prelude.{ℕ, ◌+◌, ◌*◌, ◌≡◌, ◌≢◌, ◌≤◌, ◌<◌, List, length, slice_index, slice_index_or, nat_eq, Bool, false, not, Option, Some, None}
use Rattle.wb_chunk.specs.declared.TheConstants.{MOST_WORDS}

-- the first number from one index on, below another, that is so great, or none is
abbrev pub IsFirst : (ℕ → ℕ) → ℕ → ℕ → ℕ → Option ℕ → Type 0
IsFirst f from end least None = (k : ℕ) → from ≤ k → k < end → f k < least
IsFirst f from end least (Some at) =
    (from ≤ at) × (at < end) × (least ≤ f at) × ((k : ℕ) → from ≤ k → k < at → f k < least)

-- the last number from one index on, below another, that is not 0, or all are
abbrev pub IsLast : (ℕ → ℕ) → ℕ → ℕ → Option ℕ → Type 0
IsLast f from end None = (k : ℕ) → from ≤ k → k < end → f k ≡ 0
IsLast f from end (Some at) =
    (from ≤ at) × (at < end) × (0 < f at) × ((k : ℕ) → at < k → k < end → f k ≡ 0)

-- the first number of all that is so great, or none is
abbrev pub IsFirstLong : (ℕ → ℕ) → ℕ → Option ℕ → Type 0
IsFirstLong f least None = (k : ℕ) → f k < least
IsFirstLong f least (Some at) = (least ≤ f at) × ((k : ℕ) → k < at → f k < least)

-- an index from one on, below another, where the number is this one
pub record IsThere (f : ℕ → ℕ) (from end number : ℕ) : Type 0 where
  pub at : ℕ
  pub above : from ≤ at
  pub below : at < end
  pub is : f at ≡ number

-- the greatest of the numbers from one index on, below another, or 0 where there is none
pub record IsGreatest (f : ℕ → ℕ) (from end greatest : ℕ) : Type 0 where
  pub most : (k : ℕ) → from ≤ k → k < end → f k ≤ greatest
  pub some : greatest ≢ 0 → IsThere f from end greatest

-- the greatest of each 64
abbrev pub AreGreatest : (ℕ → ℕ) → List ℕ → Type 0
AreGreatest f spans = (j : ℕ) → IsGreatest f (64 * j) (64 * j + 64) (slice_index spans j)

-- of each number a bit says whether it is another than 0
pub record AreMarked (numbers : List ℕ) (marks : List Bool) : Type 0 where
  pub told : (k : ℕ) → slice_index_or marks k false ≡ not (nat_eq (slice_index numbers k) 0)
  pub room : length numbers ≤ length marks

-- the greatest of each 64 numbers, and of all
pub record AreRanked (numbers spans : List ℕ) (greatest : ℕ) : Type 0 where
  pub of_spans : AreGreatest (slice_index numbers) spans
  pub of_all : IsGreatest (slice_index spans) 0 (length spans) greatest
  pub room : length numbers ≤ 64 * length spans
  pub bounded : length numbers ≤ MOST_WORDS

-- a number that is kept apart from a list, which has none that is greater in its place
pub record IsKeptApart (numbers : List ℕ) (at number : ℕ) : Type 0 where
  pub low : slice_index numbers at ≤ number
  pub within : 0 < number → at < length numbers

-- the greatest length of each block
pub record AreOfBlocks (lengths blocks : List ℕ) : Type 0 where
  pub of_blocks : AreGreatest (slice_index lengths) blocks
  pub room : length lengths ≤ 64 * length blocks
  pub bounded : length lengths ≤ MOST_WORDS
