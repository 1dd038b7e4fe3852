-- What a list of packed bits reads as, after a write and after growth.
use Rattle.std.proofs.Common.{◌≡◌, ◌≢◌, ℕ, zero, suc, ◌+◌, ◌-◌, ◌*◌, ◌/◌, ◌%◌, ◌^◌, ◌<◌, ◌≤◌, ◌⊎◌, inl, inr, List, [], ◌∷◌, ◌++◌, length, get_or, Bool, true, false, replicate, refl, sym, ◌∙◌, ap, arith, append_assoc, length-append}
use Rattle.std.specs.Prelude.{nat_eq}
use Rattle.std.specs.Int.{bit_at, trailing_zeros, w32}
use Rattle.std.proofs.Math.ListN.{set}
use Rattle.std.proofs.lemmas.List.{length-set, get_or_append_left, get_or-append_right, get_or-set_same, get_or-set_other, ext_get_or, replicate-append-replicate}
use Rattle.std.proofs.lemmas.Nat.Bits.{bit_at_lowest, bit_at-suc, bit_at-zero, bit_at_above, bit_at-trailing_zeros}
use Rattle.std.proofs.lemmas.Nat.{shr-shr, shr_le}
use Rattle.std.proofs.lemmas.Bool.{cases_lt, cases_eq}
use Rattle.wb_cells.specs.Bits.{lowest_bits, bits_of, IsWithBit}

length-lowest_bits : (n word : ℕ) → length (lowest_bits n word) ≡ n
unfolding lowest_bits
length-lowest_bits zero word = refl
length-lowest_bits (suc n) word = ap suc (length-lowest_bits n (word / 2))

get_or-lowest_bits : (n word k : ℕ) → k < n → get_or (lowest_bits n word) k false ≡ nat_eq (bit_at word k) 1
unfolding lowest_bits
get_or-lowest_bits zero word k lt = absurd (omega (arith, lt))
get_or-lowest_bits (suc n) word zero lt = ap (λ b. nat_eq b 1) (sym (bit_at_lowest word))
get_or-lowest_bits (suc n) word (suc k) lt = get_or-lowest_bits n (word / 2) k (omega (arith, lt)) ∙ ap (λ b. nat_eq b 1) (sym (bit_at-suc word k))

pub length-bits_of : (words : List ℕ) → length (bits_of words) ≡ 32 * length words
unfolding bits_of
length-bits_of [] = refl
length-bits_of (word ∷ words) = omega (arith, length-append (lowest_bits 32 word) (bits_of words), length-lowest_bits 32 word, length-bits_of words)

pub bits_of-nil : bits_of [] ≡ []
unfolding bits_of
bits_of-nil = refl

-- the bit at a place
pub get_or-bits_of : (words : List ℕ) (k : ℕ) → get_or (bits_of words) k false ≡ nat_eq (bit_at (get_or words (k / 32) 0) (k % 32)) 1
unfolding bits_of
get_or-bits_of [] k = ap (λ b. nat_eq b 1) (sym (bit_at-zero (k % 32)))
get_or-bits_of (word ∷ words) k = go (cases_lt k 32) (get_or-bits_of words (k - 32))
  where
    go : (k < 32) ⊎ (32 ≤ k) → get_or (bits_of words) (k - 32) false ≡ nat_eq (bit_at (get_or words ((k - 32) / 32) 0) ((k - 32) % 32)) 1 →
        get_or (lowest_bits 32 word ++ bits_of words) k false ≡ nat_eq (bit_at (get_or (word ∷ words) (k / 32) 0) (k % 32)) 1
    go (inl lt) rest =
        let quotient : k / 32 ≡ 0 = omega (arith, lt) in
        let remainder : k % 32 ≡ k = omega (arith, lt) in
        rw (quotient, remainder)
        (get_or_append_left (lowest_bits 32 word) (bits_of words) false k (rw length-lowest_bits lt) ∙ get_or-lowest_bits 32 word k lt)
    go (inr ge) rest =
        let quotient : k / 32 ≡ suc ((k - 32) / 32) = omega (arith, ge) in
        let remainder : k % 32 ≡ (k - 32) % 32 = omega (arith, ge) in
        rw (quotient, remainder)
        (get_or-append_right (lowest_bits 32 word) (bits_of words) 32 k false (length-lowest_bits 32 word) ge ∙ rest)

pub bits_of-append : (xs ys : List ℕ) → bits_of (xs ++ ys) ≡ bits_of xs ++ bits_of ys
unfolding bits_of
bits_of-append [] ys = refl
bits_of-append (x ∷ xs) ys = ap (λ bs. lowest_bits 32 x ++ bs) (bits_of-append xs ys) ∙ sym (append_assoc (lowest_bits 32 x) (bits_of xs) (bits_of ys))

lowest_bits-zero : (n : ℕ) → lowest_bits n 0 ≡ replicate n false
unfolding lowest_bits
lowest_bits-zero zero = refl
lowest_bits-zero (suc n) = ap (λ bs. false ∷ bs) (lowest_bits-zero n)

pub bits_of-zeros : (n : ℕ) → bits_of (replicate n 0) ≡ replicate (32 * n) false
unfolding bits_of
bits_of-zeros zero = refl
bits_of-zeros (suc n) =
    let e : 32 * suc n ≡ 32 + 32 * n = omega arith in
    rw (e, lowest_bits-zero 32, bits_of-zeros n) (replicate-append-replicate 32 (32 * n) false)

pub bits_of-set : (words : List ℕ) (at word : ℕ) (on : Bool) → at < 32 * length words → IsWithBit (get_or words (at / 32) 0) word (at % 32) on →
    bits_of (set words (at / 32) word) ≡ set (bits_of words) at on
bits_of-set words at word on lt put =
    ext_get_or false (bits_of (set words (at / 32) word)) (set (bits_of words) at on) (simp (length-bits_of, length-set)) each
  where
    each : (k : ℕ) → k < length (bits_of (set words (at / 32) word)) → get_or (bits_of (set words (at / 32) word)) k false ≡ get_or (set (bits_of words) at on) k false
    each k within = go (cases_eq k at) (cases_eq (k / 32) (at / 32))
      where
        count : length (bits_of words) ≡ 32 * length words
        count = length-bits_of words

        within_words : at / 32 < length words
        within_words = omega (arith, lt)

        go : (k ≡ at) ⊎ (k ≡ at → ⊥) → (k / 32 ≡ at / 32) ⊎ (k / 32 ≡ at / 32 → ⊥) →
            get_or (bits_of (set words (at / 32) word)) k false ≡ get_or (set (bits_of words) at on) k false
        go (inl same) _ =
            rw same (get_or-bits_of (set words (at / 32) word) at
            ∙ ap (λ w. nat_eq (bit_at w (at % 32)) 1) (get_or-set_same words (at / 32) word 0 within_words)
            ∙ put.here ∙ sym (get_or-set_same (bits_of words) at on false (omega (arith, count, lt))))
        go (inr other) (inl row) =
            let column : k % 32 ≢ at % 32 = λ e. other (omega (arith, e, row)) in
            get_or-bits_of (set words (at / 32) word) k
            ∙ ap (λ q. nat_eq (bit_at (get_or (set words (at / 32) word) q 0) (k % 32)) 1) row
            ∙ ap (λ w. nat_eq (bit_at w (k % 32)) 1) (get_or-set_same words (at / 32) word 0 within_words)
            ∙ ap (λ b. nat_eq b 1) (put.elsewhere (k % 32) (omega arith) column)
            ∙ ap (λ q. nat_eq (bit_at (get_or words q 0) (k % 32)) 1) (sym row)
            ∙ sym (get_or-set_other (bits_of words) at k on false other ∙ get_or-bits_of words k)
        go (inr other) (inr apart) =
            get_or-bits_of (set words (at / 32) word) k
            ∙ ap (λ w. nat_eq (bit_at w (k % 32)) 1) (get_or-set_other words (at / 32) (k / 32) word 0 apart)
            ∙ sym (get_or-set_other (bits_of words) at k on false other ∙ get_or-bits_of words k)

bit_at-shr : (word r j : ℕ) → bit_at (word / 2 ^ r) j ≡ bit_at word (r + j)
bit_at-shr word r j = ap (λ n. n % 2) (shr-shr word r j)

-- one bit of a word, by its place among all
get_or-bit : (words : List ℕ) (at k : ℕ) → k / 32 ≡ at / 32 → get_or (bits_of words) k false ≡ nat_eq (bit_at (get_or words (at / 32) 0) (k % 32)) 1
get_or-bit words at k row = get_or-bits_of words k ∙ ap (λ q. nat_eq (bit_at (get_or words q 0) (k % 32)) 1) row

-- no bit is on in what is left of a word
pub word_off : (words : List ℕ) (at k : ℕ) → get_or words (at / 32) 0 / 2 ^ (at % 32) ≡ 0 → at ≤ k → k < (at / 32 + 1) * 32 → get_or (bits_of words) k false ≡ false
word_off words at k none le lt =
    let word = get_or words (at / 32) 0 in
    let row : k / 32 ≡ at / 32 = omega (arith, le, lt) in
    let column : at % 32 + (k - at) ≡ k % 32 = omega (arith, le, lt, row) in
    let off : bit_at word (k % 32) ≡ 0 =
    ap (bit_at word) (sym column) ∙ sym (bit_at-shr word (at % 32) (k - at)) ∙ ap (λ n. bit_at n (k - at)) none ∙ bit_at-zero (k - at) in
    get_or-bit words at k row ∙ ap (λ b. nat_eq b 1) off

-- the first bit that is on in what is left of a word
pub record IsFirstOn (bits : List Bool) (at first count : ℕ) : Type 0 where
  pub within : first < count
  pub on : get_or bits first false ≡ true
  pub below : (k : ℕ) → at ≤ k → k < first → get_or bits k false ≡ false

pub word_on : (words : List ℕ) (at : ℕ) → get_or words (at / 32) 0 < 2 ^ 32 → get_or words (at / 32) 0 / 2 ^ (at % 32) ≢ 0 → at < 32 * length words →
    IsFirstOn (bits_of words) at (at + trailing_zeros w32 (get_or words (at / 32) 0 / 2 ^ (at % 32))) (32 * length words)
word_on words at fits some inside =
    let word = get_or words (at / 32) 0 in
    let rest = word / 2 ^ (at % 32) in
    let zeros = trailing_zeros w32 rest in
    let positive : 0 < rest = omega (arith, some) in
    let bound : rest < 2 ^ 32 = omega (arith, shr_le word (at % 32), fits) in
    let lowest = bit_at-trailing_zeros w32 rest positive bound in
    let on : bit_at word (at % 32 + zeros) ≡ 1 = sym (bit_at-shr word (at % 32) zeros) ∙ lowest.1 in
    let column : at % 32 + zeros < 32 = inside_word word (at % 32 + zeros) fits on (cases_lt (at % 32 + zeros) 32) in
    let row : (at + zeros) / 32 ≡ at / 32 = omega (arith, column) in
    let place : (at + zeros) % 32 ≡ at % 32 + zeros = omega (arith, column) in
    record {
      within = omega (arith, inside, row);
      on = get_or-bit words at (at + zeros) row ∙ ap (λ i. nat_eq (bit_at word i) 1) place ∙ ap (λ b. nat_eq b 1) on;
      below = λ k le lt.
          let row' : k / 32 ≡ at / 32 = omega (arith, le, lt, column) in
          let at' : at % 32 + (k - at) ≡ k % 32 = omega (arith, le, row') in
          let off : bit_at word (k % 32) ≡ 0 = ap (bit_at word) (sym at') ∙ sym (bit_at-shr word (at % 32) (k - at)) ∙ lowest.2 (k - at) (omega (arith, le, lt)) in
          get_or-bit words at k row' ∙ ap (λ b. nat_eq b 1) off;
    }
  where
    inside_word : (word i : ℕ) → word < 2 ^ 32 → bit_at word i ≡ 1 → (i < 32) ⊎ (32 ≤ i) → i < 32
    inside_word word i fits on (inl lt) = lt
    inside_word word i fits on (inr ge) = absurd (omega (arith, on, bit_at_above word 32 i fits ge))
