-- Halves of a payload are halves of the words.
use Rattle.std.proofs.Common.{◌≡◌, ℕ, ◌+◌, ◌*◌, ◌/◌, ◌%◌, ◌^◌, List, slice_set, cond, get_or, arith}
use Rattle.std.specs.Prelude.{nat_eq}
use Rattle.wb_chunk.specs.Halves.{half_of, with_half}

-- a word with another half
abbrev pub mixed : ℕ → ℕ → ℕ → ℕ
mixed word i v = cond (nat_eq (i % 2) 0) (word / 2 ^ 16 * 2 ^ 16 + v) (v * 2 ^ 16 + word % 2 ^ 16)

half_index : (m i : ℕ) → (2 * m + i) / 2 ≡ m + i / 2
half_index m i = omega arith

half_side : (m i : ℕ) → (2 * m + i) % 2 ≡ i % 2
half_side m i = omega arith

pub half_of-at : (words body : List ℕ) (m i : ℕ) → get_or words (m + i / 2) 0 ≡ get_or body (i / 2) 0 → half_of words (2 * m + i) ≡ half_of body i
half_of-at words body m i same = rw (half_index m i, half_side m i, same)

pub with_half-at : (words body : List ℕ) (m i v : ℕ) → get_or words (m + i / 2) 0 ≡ get_or body (i / 2) 0 →
    with_half words (2 * m + i) v ≡ slice_set words (m + i / 2) (mixed (get_or body (i / 2) 0) i v)
with_half-at words body m i v same = rw (half_index m i, half_side m i, same)
