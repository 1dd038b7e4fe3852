-- A list of words as halves of 16 bits: half 2k is the low half of word k, and half 2k + 1 the high one.
use Rattle.std.specs.Prelude.{◌≡◌, ℕ, zero, suc, ◌+◌, ◌*◌, ◌/◌, ◌%◌, ◌^◌, ◌<◌, ◌≤◌, ◌⊎◌, List, [], ◌∷◌, Bool, nat_eq, if◌then◌else◌, slice_index, slice_set}

-- the half at a place
abbrev pub half_of : List ℕ → ℕ → ℕ
half_of words i =
    let word = slice_index words (i / 2) in
    if nat_eq (i % 2) 0 then word % 2 ^ 16 else word / 2 ^ 16

-- the words with another half at a place
abbrev pub with_half : List ℕ → ℕ → ℕ → List ℕ
with_half words i v =
    let word = slice_index words (i / 2) in
    slice_set words (i / 2) (if nat_eq (i % 2) 0 then word / 2 ^ 16 * 2 ^ 16 + v else v * 2 ^ 16 + word % 2 ^ 16)

-- a number of halves, from a place on
abbrev pub halves_from : List ℕ → ℕ → ℕ → List ℕ
halves_from words i zero = []
halves_from words i (suc n) = half_of words i ∷ halves_from words (suc i) n

-- the words with other halves from a place on
abbrev pub with_halves : List ℕ → ℕ → List ℕ → List ℕ
with_halves words i [] = words
with_halves words i (v ∷ vs) = with_half (with_halves words (suc i) vs) i v

-- a word, or the one of its high half and the low half of the next
abbrev pub word_of : Bool → ℕ → ℕ → ℕ
word_of shifted word next = if shifted then word / 2 ^ 16 + next % 2 ^ 16 * 2 ^ 16 else word

-- the words from one place on are those from another place on, shifted by a half or as they were, and the others stayed
pub record AreMoved (shifted : Bool) (old new : List ℕ) (from to n : ℕ) : Type 0 where
  pub inside : (k : ℕ) → k < n → slice_index new (to + k) ≡ word_of shifted (slice_index old (from + k)) (slice_index old (from + k + 1))
  pub outside : (k : ℕ) → (k < to) ⊎ (to + n ≤ k) → slice_index new k ≡ slice_index old k
