-- Bits in words of 32, the lowest bit of a word first, and searches for one that is on.
use Rattle.std.specs.Int.{bit_at}
use Rattle.std.specs.Prelude.{ℕ, zero, suc, ◌/◌, ◌%◌, ◌<◌, ◌≤◌, ◌≡◌, ◌≢◌, List, [], ◌∷◌, ◌++◌, length, slice_index_or, Bool, true, false, nat_eq, Option, Some, None}

-- the lowest bits of a word
unfoldable pub lowest_bits : ℕ → ℕ → List Bool
lowest_bits zero word = []
lowest_bits (suc n) word = nat_eq (word % 2) 1 ∷ lowest_bits n (word / 2)

-- the bits of words, one word after another
unfoldable pub bits_of : List ℕ → List Bool
bits_of [] = []
bits_of (word ∷ words) = lowest_bits 32 word ++ bits_of words

-- another word, with one bit put on or off and the other bits as they were
pub record IsWithBit (word word' bit : ℕ) (on : Bool) : Type 0 where
  pub here : nat_eq (bit_at word' bit) 1 ≡ on
  pub elsewhere : (k : ℕ) → k < 32 → k ≢ bit → bit_at word' k ≡ bit_at word k

-- the bit is the first from one on that is on, or none is
abbrev pub IsNext : List Bool → ℕ → Option ℕ → Type 0
IsNext bits from None = (k : ℕ) → from ≤ k → slice_index_or bits k false ≡ false
IsNext bits from (Some at) =
    (from ≤ at) × (at < length bits) × (slice_index_or bits at false ≡ true) × ((k : ℕ) → from ≤ k → k < at → slice_index_or bits k false ≡ false)

-- the bit is the last from one on, below another, that is on, or none is
abbrev pub IsLastOn : List Bool → ℕ → ℕ → Option ℕ → Type 0
IsLastOn bits from end None = (k : ℕ) → from ≤ k → k < end → slice_index_or bits k false ≡ false
IsLastOn bits from end (Some at) =
    (from ≤ at) × (at < end) × (slice_index_or bits at false ≡ true) × ((k : ℕ) → at < k → k < end → slice_index_or bits k false ≡ false)

-- the bit of a word is its last one up to another that is on, or none is
abbrev pub IsLastIn : ℕ → ℕ → Option ℕ → Type 0
IsLastIn word top None = (k : ℕ) → k ≤ top → bit_at word k ≡ 0
IsLastIn word top (Some bit) = (bit ≤ top) × (bit_at word bit ≡ 1) × ((k : ℕ) → bit < k → k ≤ top → bit_at word k ≡ 0)
