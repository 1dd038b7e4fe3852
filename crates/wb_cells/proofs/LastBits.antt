-- The last bit that is on, of a word and of packed bits, and what bits say of the numbers that they are about.
use Rattle.std.proofs.Common.{◌≡◌, ◌≢◌, ℕ, zero, suc, ◌+◌, ◌-◌, ◌*◌, ◌/◌, ◌%◌, ◌^◌, ◌<◌, ◌≤◌, ◌⊎◌, inl, inr, List, [], ◌++◌, length, get_or, slice_index, slice_set, replicate, length-append, Bool, true, false, not, bit_and, min, Option, Some, None, refl, sym, ◌∙◌, ap, subst, arith}
use Rattle.std.specs.Prelude.{nat_eq}
use Rattle.std.specs.Int.{bit_at, leading_zeros, w32}
use Rattle.std.proofs.lemmas.Bool.{cases_lt, cases_eq, ne_eqb, false≢true}
use Rattle.std.proofs.lemmas.List.{length-set, get_or_append_left, get_or-append_right, get_or_past, get_or-set_same, get_or-set_other, get_or-replicate, length-replicate}
use Rattle.std.proofs.lemmas.Nat.{leading_top, le-div, pow_pos, shr_below, and_le_l}
use Rattle.std.proofs.lemmas.Nat.Bits.{bit_at_above, bit_at_and, bit_at_ones, bit_at_ones_above, bit_at-lt, bit_at-zero, ones_shr}
use Rattle.wb_cells.specs.Bits.{bits_of, IsLastIn, IsLastOn, IsNext}
use Rattle.wb_cells.specs.Maxima.{AreMarked, IsFirst, IsLast}
use Rattle.wb_cells.proofs.Packing.{get_or-bits_of}
use Rattle.wb_cells.proofs.Spans.{slice_index-zeros}

module _ (words : List ℕ) (top : ℕ) where
  in_word : (k : ℕ) → top / 32 * 32 ≤ k → k ≤ top → get_or (bits_of words) k false ≡ nat_eq (bit_at (get_or words (top / 32) 0) (k % 32)) 1
  in_word k low high =
      let row : k / 32 ≡ top / 32 = omega (arith, low, high) in
      get_or-bits_of words k ∙ ap (λ q. nat_eq (bit_at (get_or words q 0) (k % 32)) 1) row

  -- no bit of a word is on up to one
  pub word_none : IsLastIn (get_or words (top / 32) 0) (top % 32) None → (k : ℕ) → top / 32 * 32 ≤ k → k ≤ top → get_or (bits_of words) k false ≡ false
  word_none none k low high = in_word k low high ∙ ap (λ b. nat_eq b 1) (none (k % 32) (omega (arith, low, high)))

  -- or one is the last
  pub word_here : (bit : ℕ) → IsLastIn (get_or words (top / 32) 0) (top % 32) (Some bit) → get_or (bits_of words) (top / 32 * 32 + bit) false ≡ true
  word_here bit last =
      let column : (top / 32 * 32 + bit) % 32 ≡ bit = omega (arith, last.0) in
      in_word (top / 32 * 32 + bit) (omega arith) (omega (arith, last.0))
      ∙ ap (λ i. nat_eq (bit_at (get_or words (top / 32) 0) i) 1) column ∙ ap (λ b. nat_eq b 1) last.1

  pub word_past : (bit : ℕ) → IsLastIn (get_or words (top / 32) 0) (top % 32) (Some bit) → (k : ℕ) → top / 32 * 32 + bit < k → k ≤ top → get_or (bits_of words) k false ≡ false
  word_past bit last k above high =
      in_word k (omega (arith, above)) high ∙ ap (λ b. nat_eq b 1) (last.2 (k % 32) (omega (arith, above, high)) (omega (arith, above, high)))

-- the highest bit of a number
record IsHighest (n at : ℕ) : Type 0 where
  here : bit_at n at ≡ 1
  past : (k : ℕ) → at < k → bit_at n k ≡ 0

at_power : (n j : ℕ) → 2 ^ j ≤ n → n < 2 ^ suc j → bit_at n j ≡ 1
at_power n j low high =
    let least : 1 ≤ n / 2 ^ j = le-div 1 n (2 ^ j) (pow_pos j) (omega (arith, low)) in
    let most : n / 2 ^ j < 2 ^ 1 = shr_below n 1 j (subst (λ k. n < 2 ^ k) (omega arith) high) in
    omega (arith, least, most)

highest : (n : ℕ) → n ≢ 0 → n < 2 ^ 32 → (leading_zeros w32 n ≤ 31) × IsHighest n (31 - leading_zeros w32 n)
highest n some bound =
    let top = leading_top 32 n (omega (arith, some)) bound in
    let here : 31 - leading_zeros w32 n ≡ top.0 = omega (arith, top.1) in (
      omega (arith, top.1),
      subst (IsHighest n) (sym here) (record {
        here = at_power n top.0 top.2 top.3;
        past = λ k above. bit_at_above n (suc top.0) k top.3 (omega (arith, above));
      }),
    )

module _ (word top : ℕ) (within : top < 32) where
  abbrev low : ℕ
  low = bit_and word (4294967295 / 2 ^ (31 - top))

  mask : 4294967295 / 2 ^ (31 - top) ≡ 2 ^ (top + 1) - 1
  mask = ones_shr 32 (31 - top) (omega arith) ∙ ap (λ k. 2 ^ k - 1) (omega (arith, within))

  low_same : (k : ℕ) → k ≤ top → bit_at low k ≡ bit_at word k
  low_same k le =
      bit_at_and word _ k ∙ ap (λ m. min (bit_at word k) (bit_at m k)) mask ∙ ap (min (bit_at word k)) (bit_at_ones (top + 1) k (omega (arith, le)))
      ∙ omega (arith, bit_at-lt word k)

  low_off : (k : ℕ) → top < k → bit_at low k ≡ 0
  low_off k above =
      bit_at_and word _ k ∙ ap (λ m. min (bit_at word k) (bit_at m k)) mask ∙ ap (min (bit_at word k)) (bit_at_ones_above (top + 1) k (omega (arith, above)))
      ∙ omega arith

  -- no bit up to one is on
  pub low_none : low ≡ 0 → IsLastIn word top None
  low_none none k le = sym (low_same k le) ∙ ap (λ n. bit_at n k) none ∙ bit_at-zero k

  -- or the highest one of these bits
  pub low_some : word < 2 ^ 32 → low ≢ 0 → (leading_zeros w32 low ≤ 31) × IsLastIn word top (Some (31 - leading_zeros w32 low))
  low_some fits some = (h.0, (within_top (cases_lt top at), sym (low_same at (within_top (cases_lt top at))) ∙ h.1.here, λ k above le. sym (low_same k le) ∙ h.1.past k above))
    where
      h : (leading_zeros w32 low ≤ 31) × IsHighest low (31 - leading_zeros w32 low)
      h = highest low some (omega (arith, and_le_l word (4294967295 / 2 ^ (31 - top)), fits))

      at : ℕ
      at = 31 - leading_zeros w32 low

      within_top : (top < at) ⊎ (at ≤ top) → at ≤ top
      within_top (inl past) = absurd (omega (arith, low_off at past, h.1.here))
      within_top (inr le) = le

zero_of : (n : ℕ) → not (nat_eq n 0) ≡ false → n ≡ 0
zero_of n e = go (cases_eq n 0)
  where
    go : (n ≡ 0) ⊎ (n ≡ 0 → ⊥) → n ≡ 0
    go (inl none) = none
    go (inr other) = absurd (false≢true (sym e ∙ ap not (ne_eqb n 0 other)))

some_of : (n : ℕ) → not (nat_eq n 0) ≡ true → 0 < n
some_of zero e = absurd (false≢true e)
some_of (suc n) e = omega arith

-- the last number that is not 0 is at the last bit that is on
pub last_marked : (numbers : List ℕ) (marks : List Bool) (from end : ℕ) → AreMarked numbers marks → (found : Option ℕ) → IsLastOn marks from end found →
    IsLast (slice_index numbers) from end found
last_marked numbers marks from end are None none = λ k low high. zero_of (slice_index numbers k) (sym (are.told k) ∙ none k low high)
last_marked numbers marks from end are (Some at) last =
    (last.0, last.1, some_of (slice_index numbers at) (sym (are.told at) ∙ last.2), λ k low high. zero_of (slice_index numbers k) (sym (are.told k) ∙ last.3 k low high))

-- the first one is at the first bit that is on
pub next_marked : (numbers : List ℕ) (marks : List Bool) (from : ℕ) → AreMarked numbers marks → (found : Option ℕ) → IsNext marks from found →
    IsFirst (slice_index numbers) from (length numbers) 1 found
next_marked numbers marks from are None none = λ k low high. omega (arith, zero_of (slice_index numbers k) (sym (are.told k) ∙ none k low))
next_marked numbers marks from are (Some at) next =
    (next.0, within (cases_lt at (length numbers)), omega (arith, some), λ k low high. omega (arith, zero_of (slice_index numbers k) (sym (are.told k) ∙ next.3 k low high)))
  where
    some : 0 < slice_index numbers at
    some = some_of (slice_index numbers at) (sym (are.told at) ∙ next.2)

    within : (at < length numbers) ⊎ (length numbers ≤ at) → at < length numbers
    within (inl lt) = lt
    within (inr ge) = absurd (omega (arith, some, get_or_past numbers at 0 ge))

-- bits are right where there are none, where a number changed with its bit, and where there are more that are 0
pub none_marked : AreMarked [] []
none_marked = record { told = λ k. refl; room = omega arith }

pub marked_set : (numbers : List ℕ) (marks : List Bool) (at number : ℕ) → at < length numbers → AreMarked numbers marks →
    AreMarked (slice_set numbers at number) (slice_set marks at (not (nat_eq number 0)))
marked_set numbers marks at number lt are = record {
  told = λ k. each k (cases_eq k at);
  room = omega (arith, are.room, length-set numbers at number, length-set marks at (not (nat_eq number 0)));
}
  where
    each : (k : ℕ) → (k ≡ at) ⊎ (k ≡ at → ⊥) →
        get_or (slice_set marks at (not (nat_eq number 0))) k false ≡ not (nat_eq (slice_index (slice_set numbers at number) k) 0)
    each k (inl e) =
        rw e (get_or-set_same marks at (not (nat_eq number 0)) false (omega (arith, lt, are.room))
        ∙ sym (ap (λ n. not (nat_eq n 0)) (get_or-set_same numbers at number 0 lt)))
    each k (inr other) =
        get_or-set_other marks at k (not (nat_eq number 0)) false other ∙ are.told k
        ∙ sym (ap (λ n. not (nat_eq n 0)) (get_or-set_other numbers at k number 0 other))

-- a bit stays on where both numbers are another than 0
pub marked_kept : (numbers : List ℕ) (marks : List Bool) (at number : ℕ) → at < length numbers → slice_index numbers at ≢ 0 → number ≢ 0 → AreMarked numbers marks →
    AreMarked (slice_set numbers at number) marks
marked_kept numbers marks at number lt old new are = record {
  told = λ k. each k (cases_eq k at);
  room = omega (arith, are.room, length-set numbers at number);
}
  where
    each : (k : ℕ) → (k ≡ at) ⊎ (k ≡ at → ⊥) → get_or marks k false ≡ not (nat_eq (slice_index (slice_set numbers at number) k) 0)
    each k (inl e) =
        rw e (are.told at ∙ ap not (ne_eqb (slice_index numbers at) 0 old)
        ∙ sym (ap (λ n. not (nat_eq n 0)) (get_or-set_same numbers at number 0 lt) ∙ ap not (ne_eqb number 0 new)))
    each k (inr other) = are.told k ∙ sym (ap (λ n. not (nat_eq n 0)) (get_or-set_other numbers at k number 0 other))

more_off : (marks : List Bool) (m k : ℕ) → get_or (marks ++ replicate m false) k false ≡ get_or marks k false
more_off marks m k = go (cases_lt k (length marks))
  where
    past : (j : ℕ) → (j < m) ⊎ (m ≤ j) → get_or (replicate m false) j false ≡ false
    past j (inl lt) = get_or-replicate m j false false lt
    past j (inr ge) = get_or_past (replicate m false) j false (omega (arith, length-replicate m false, ge))

    go : (k < length marks) ⊎ (length marks ≤ k) → get_or (marks ++ replicate m false) k false ≡ get_or marks k false
    go (inl lt) = get_or_append_left marks (replicate m false) false k lt
    go (inr ge) =
        get_or-append_right marks (replicate m false) (length marks) k false refl ge ∙ past (k - length marks) (cases_lt (k - length marks) m)
        ∙ sym (get_or_past marks k false ge)

pub marked_grown : (numbers : List ℕ) (marks : List Bool) (n m : ℕ) → length numbers + n ≤ length marks + m → AreMarked numbers marks →
    AreMarked (numbers ++ replicate n 0) (marks ++ replicate m false)
marked_grown numbers marks n m room are = record {
  told = λ k. more_off marks m k ∙ are.told k ∙ sym (ap (λ i. not (nat_eq i 0)) (slice_index-zeros numbers n k));
  room = omega (arith, room, length-append numbers (replicate n 0), length-replicate {A = ℕ} n 0, length-append marks (replicate m false), length-replicate m false);
}
