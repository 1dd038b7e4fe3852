-- The greatest of each span: what a search among them says of the numbers, and what one other number makes of them.
use Rattle.std.proofs.Common.{◌≡◌, ◌≢◌, ℕ, ◌+◌, ◌-◌, ◌*◌, ◌/◌, ◌<◌, ◌≤◌, ◌⊎◌, inl, inr, List, [], ◌++◌, length, slice_index, replicate, Option, Some, None, is_some, false, max, refl, sym, ◌∙◌, ap, subst, arith, length-append}
use Rattle.std.proofs.lemmas.Bool.{cases_lt, cases_eq}
use Rattle.std.proofs.lemmas.List.{get_or_append_left, get_or-append_right, get_or_past, length-replicate, get_or-replicate}
use Rattle.wb_chunk.specs.declared.TheConstants.{MOST_WORDS}
use Rattle.wb_cells.specs.Maxima.{IsFirst, IsLast, IsFirstLong, IsThere, IsGreatest, AreGreatest, AreOfBlocks, AreRanked}

-- numbers that are 0 more, which read as those past the end
pub slice_index-zeros : (xs : List ℕ) (n k : ℕ) → slice_index (xs ++ replicate n 0) k ≡ slice_index xs k
slice_index-zeros xs n k = go (cases_lt k (length xs))
  where
    past : (j : ℕ) → (j < n) ⊎ (n ≤ j) → slice_index (replicate n 0) j ≡ 0
    past j (inl lt) = get_or-replicate n j 0 0 lt
    past j (inr ge) = get_or_past (replicate n 0) j 0 (omega (arith, length-replicate {A = ℕ} n 0, ge))

    go : (k < length xs) ⊎ (length xs ≤ k) → slice_index (xs ++ replicate n 0) k ≡ slice_index xs k
    go (inl lt) = get_or_append_left xs (replicate n 0) 0 k lt
    go (inr ge) =
        get_or-append_right xs (replicate n 0) (length xs) k 0 refl ge
        ∙ past (k - length xs) (cases_lt (k - length xs) n)
        ∙ sym (get_or_past xs k 0 ge)

-- the same numbers have the same greatest
pub greatest_same : (f g : ℕ → ℕ) (from end greatest : ℕ) → ((k : ℕ) → f k ≡ g k) → IsGreatest f from end greatest → IsGreatest g from end greatest
greatest_same f g from end greatest same is = record {
  most = λ k low high. omega (arith, is.most k low high, same k);
  some = λ any.
      let t = is.some any in
      record { at = t.at; above = t.above; below = t.below; is = sym (same t.at) ∙ t.is };
}

pub all_same : (f g : ℕ → ℕ) (xs ys : List ℕ) → ((k : ℕ) → f k ≡ g k) → ((j : ℕ) → slice_index xs j ≡ slice_index ys j) → AreGreatest f xs → AreGreatest g ys
all_same f g xs ys same spans are j =
    subst (λ n. IsGreatest g (64 * j) (64 * j + 64) n) (spans j) (greatest_same f g (64 * j) (64 * j + 64) (slice_index xs j) same (are j))

-- no numbers
pub none_ranked : AreRanked [] [] 0
none_ranked = record {
  of_spans = λ j. record { most = λ k low high. omega arith; some = λ any. absurd (any refl) };
  of_all = record { most = λ k low high. omega arith; some = λ any. absurd (any refl) };
  room = omega arith;
  bounded = omega arith;
}

pub none_of_blocks : AreOfBlocks [] []
none_of_blocks = record {
  of_blocks = λ j. record { most = λ k low high. omega arith; some = λ any. absurd (any refl) };
  room = omega arith;
  bounded = omega arith;
}

-- a number is no greater than the greatest of its span
pub below_span : (f : ℕ → ℕ) (spans : List ℕ) (k : ℕ) → AreGreatest f spans → f k ≤ slice_index spans (k / 64)
below_span f spans k are = (are (k / 64)).most k (omega arith) (omega arith)

-- the first number that is so great is in the first span that has one
pub first_down : (f : ℕ → ℕ) (spans : List ℕ) (least j : ℕ) → 0 < least → AreGreatest f spans → least ≤ slice_index spans j →
    ((i : ℕ) → i < j → slice_index spans i < least) → (found : Option ℕ) → IsFirst f (j * 64) (j * 64 + 64) least found → IsFirstLong f least found
first_down f spans least j some are long short None none =
    let t = (are j).some (λ e. omega (arith, e, long, some)) in
    absurd (omega (arith, none t.at (omega (arith, t.above)) (omega (arith, t.below)), t.is, some))
first_down f spans least j some are long short (Some at) first = (first.2, λ k lt. go k lt (cases_lt k (j * 64)))
  where
    go : (k : ℕ) → k < at → (k < j * 64) ⊎ (j * 64 ≤ k) → f k < least
    go k lt (inl low) = omega (arith, below_span f spans k are, short (k / 64) (omega (arith, low)))
    go k lt (inr high) = first.3 k high lt

-- where no span has one, there is none
pub first_none : (f : ℕ → ℕ) (spans : List ℕ) (least : ℕ) → AreGreatest f spans → ((i : ℕ) → slice_index spans i < least) → IsFirstLong f least None
first_none f spans least are short k = omega (arith, below_span f spans k are, short (k / 64))

-- the last number below an index is in its own span
pub last_own : (f : ℕ → ℕ) (at found : ℕ) → IsLast f (at / 64 * 64) at (Some found) → IsLast f 0 at (Some found)
last_own f at found is = (omega arith, is.1, is.2, is.3)

-- or in the last span before that has one
pub last_down : (f : ℕ → ℕ) (spans : List ℕ) (at j : ℕ) → AreGreatest f spans → IsLast f (at / 64 * 64) at None → IsLast (slice_index spans) 0 (at / 64) (Some j) →
    (found : Option ℕ) → IsLast f (j * 64) (j * 64 + 64) found → IsLast f 0 at found
last_down f spans at j are own span None none =
    let t = (are j).some (λ e. omega (arith, e, span.2)) in
    absurd (omega (arith, none t.at (omega (arith, t.above)) (omega (arith, t.below)), t.is, span.2))
last_down f spans at j are own span (Some found) last =
    (omega arith, omega (arith, last.1, span.1), last.2, λ k above below. go k above below (cases_lt k (j * 64 + 64)) (cases_lt k (at / 64 * 64)))
  where
    go : (k : ℕ) → found < k → k < at → (k < j * 64 + 64) ⊎ (j * 64 + 64 ≤ k) → (k < at / 64 * 64) ⊎ (at / 64 * 64 ≤ k) → f k ≡ 0
    go k above below (inl low) _ = last.3 k above low
    go k above below (inr high) (inl under) =
        let none : slice_index spans (k / 64) ≡ 0 = span.3 (k / 64) (omega (arith, high)) (omega (arith, under)) in
        omega (arith, below_span f spans k are, none)
    go k above below (inr high) (inr own_span) = own k own_span below

-- or there is none
pub last_none : (f : ℕ → ℕ) (spans : List ℕ) (at : ℕ) → AreGreatest f spans → IsLast f (at / 64 * 64) at None → IsLast (slice_index spans) 0 (at / 64) None → IsLast f 0 at None
last_none f spans at are own span k low below = go (cases_lt k (at / 64 * 64))
  where
    go : (k < at / 64 * 64) ⊎ (at / 64 * 64 ≤ k) → f k ≡ 0
    go (inl under) =
        let none : slice_index spans (k / 64) ≡ 0 = span (k / 64) (omega arith) (omega (arith, under)) in
        omega (arith, below_span f spans k are, none)
    go (inr own_span) = own k own_span below

-- the greatest of all spans is the greatest of all numbers
pub greatest_of_all : (f : ℕ → ℕ) (spans : List ℕ) (greatest n : ℕ) → AreGreatest f spans → ((j : ℕ) → slice_index spans j ≤ greatest) →
    (greatest ≢ 0 → IsThere (slice_index spans) 0 n greatest) →
    ((k : ℕ) → f k ≤ greatest) × (greatest ≢ 0 → IsThere f 0 (64 * n) greatest)
greatest_of_all f spans greatest n are most some = (
  λ k. omega (arith, below_span f spans k are, most (k / 64)),
  λ any.
      let t = some any in
      let s = (are t.at).some (λ e. any (sym t.is ∙ e)) in
      record { at = s.at; above = omega arith; below = omega (arith, s.below, t.below); is = s.is ∙ t.is },
)

-- a number changed: the greatest of a range that it is in is the new one
module _ (f g : ℕ → ℕ) (from end was at : ℕ) (above : from ≤ at) (below : at < end) (others : (k : ℕ) → k ≢ at → f k ≡ g k) where
  pub greatest_up : was ≤ g at → IsGreatest f from end was → IsGreatest g from end (g at)
  greatest_up le is = record {
    most = λ k low high. each k low high (cases_eq k at);
    some = λ any. record { at = at; above = above; below = below; is = refl };
  }
    where
      each : (k : ℕ) → from ≤ k → k < end → (k ≡ at) ⊎ (k ≡ at → ⊥) → g k ≤ g at
      each k low high (inl e) = rw e (omega arith)
      each k low high (inr other) = omega (arith, is.most k low high, others k other, le)

  -- or the old one, which is another number
  pub greatest_stays : f at ≢ was → g at < was → IsGreatest f from end was → IsGreatest g from end was
  greatest_stays less low is = record {
    most = λ k least high. each k least high (cases_eq k at);
    some = λ any.
        let t = is.some any in
        record { at = t.at; above = t.above; below = t.below; is = sym (others t.at (λ e. less (sym (ap f e) ∙ t.is))) ∙ t.is };
  }
    where
      each : (k : ℕ) → from ≤ k → k < end → (k ≡ at) ⊎ (k ≡ at → ⊥) → g k ≤ was
      each k least high (inl e) = rw e (omega (arith, low))
      each k least high (inr other) = omega (arith, is.most k least high, others k other)

-- a span's bounds, with the factors in either order
pub turned : (f : ℕ → ℕ) (j greatest : ℕ) → IsGreatest f (64 * j) (64 * j + 64) greatest → IsGreatest f (j * 64) (j * 64 + 64) greatest
turned f j greatest is = subst (λ n. IsGreatest f n (n + 64) greatest) (omega arith) is

pub turned_back : (f : ℕ → ℕ) (j greatest : ℕ) → IsGreatest f (j * 64) (j * 64 + 64) greatest → IsGreatest f (64 * j) (64 * j + 64) greatest
turned_back f j greatest is = subst (λ n. IsGreatest f n (n + 64) greatest) (omega arith) is

-- and with it those of all spans are right
pub renewed_spans : (f g : ℕ → ℕ) (spans spans' : List ℕ) (at : ℕ) → AreGreatest f spans → ((k : ℕ) → k ≢ at → f k ≡ g k) →
    ((j : ℕ) → j ≢ at / 64 → slice_index spans' j ≡ slice_index spans j) →
    IsGreatest g (64 * (at / 64)) (64 * (at / 64) + 64) (slice_index spans' (at / 64)) → AreGreatest g spans'
renewed_spans f g spans spans' at are others same here j = go (cases_eq j (at / 64))
  where
    go : (j ≡ at / 64) ⊎ (j ≡ at / 64 → ⊥) → IsGreatest g (64 * j) (64 * j + 64) (slice_index spans' j)
    go (inl e) = subst (λ i. IsGreatest g (64 * i) (64 * i + 64) (slice_index spans' i)) (sym e) here
    go (inr other) =
        let is = are j in
        rw (same j other) (record {
          most = λ k low high. omega (arith, is.most k low high, others k (λ e. other (omega (arith, e, low, high))));
          some = λ any.
              let t = is.some any in
              record {
                at = t.at;
                above = t.above;
                below = t.below;
                is = sym (others t.at (λ e. other (omega (arith, e, t.above, t.below)))) ∙ t.is;
              };
        })

-- more numbers that are 0, with the spans for them
grown_spans : (numbers spans : List ℕ) (n m : ℕ) → AreGreatest (slice_index numbers) spans → AreGreatest (slice_index (numbers ++ replicate n 0)) (spans ++ replicate m 0)
grown_spans numbers spans n m are =
    all_same (slice_index numbers) (slice_index (numbers ++ replicate n 0)) spans (spans ++ replicate m 0)
    (λ k. sym (slice_index-zeros numbers n k)) (λ j. sym (slice_index-zeros spans m j)) are

grown_room : (numbers spans : List ℕ) (n m : ℕ) → length numbers + n ≤ 64 * (length spans + m) → length (numbers ++ replicate n 0) ≤ 64 * length (spans ++ replicate m 0)
grown_room numbers spans n m room =
    omega (arith, room, length-append numbers (replicate n 0), length-replicate {A = ℕ} n 0, length-append spans (replicate m 0), length-replicate {A = ℕ} m 0)

-- numbers that are no greater than another, also those past the end
pub all_most : (numbers : List ℕ) (greatest : ℕ) → ((k : ℕ) → 0 ≤ k → k < length numbers → slice_index numbers k ≤ greatest) → (k : ℕ) → slice_index numbers k ≤ greatest
all_most numbers greatest most k = go (cases_lt k (length numbers))
  where
    go : (k < length numbers) ⊎ (length numbers ≤ k) → slice_index numbers k ≤ greatest
    go (inl lt) = most k (omega arith) lt
    go (inr ge) = omega (arith, get_or_past numbers k 0 ge)

grown_greatest : (numbers : List ℕ) (n greatest : ℕ) → IsGreatest (slice_index numbers) 0 (length numbers) greatest →
    IsGreatest (slice_index (numbers ++ replicate n 0)) 0 (length (numbers ++ replicate n 0)) greatest
grown_greatest numbers n greatest is = record {
  most = λ k low high. omega (arith, slice_index-zeros numbers n k, all_most numbers greatest is.most k);
  some = λ any.
      let t = is.some any in
      record { at = t.at; above = t.above; below = omega (arith, t.below, length-append numbers (replicate n 0)); is = slice_index-zeros numbers n t.at ∙ t.is };
}

pub grown_ranked : (numbers spans : List ℕ) (greatest : ℕ) → AreRanked numbers spans greatest → (n m : ℕ) →
    length numbers + n ≤ 64 * (length spans + m) → length numbers + n ≤ MOST_WORDS → AreRanked (numbers ++ replicate n 0) (spans ++ replicate m 0) greatest
grown_ranked numbers spans greatest are n m room small = record {
  of_spans = grown_spans numbers spans n m are.of_spans;
  of_all = grown_greatest spans m greatest are.of_all;
  room = grown_room numbers spans n m room;
  bounded = omega (arith, small, length-append numbers (replicate n 0), length-replicate {A = ℕ} n 0);
}

pub grown_blocks : (lengths blocks : List ℕ) → AreOfBlocks lengths blocks → (n m : ℕ) →
    length lengths + n ≤ 64 * (length blocks + m) → length lengths + n ≤ MOST_WORDS → AreOfBlocks (lengths ++ replicate n 0) (blocks ++ replicate m 0)
grown_blocks lengths blocks are n m room small = record {
  of_blocks = grown_spans lengths blocks n m are.of_blocks;
  room = grown_room lengths blocks n m room;
  bounded = omega (arith, small, length-append lengths (replicate n 0), length-replicate {A = ℕ} n 0);
}

-- a span with a number that is not 0 begins within the numbers
pub span_within : (numbers spans : List ℕ) (j : ℕ) → AreGreatest (slice_index numbers) spans → 0 < slice_index spans j → 64 * j < length numbers
span_within numbers spans j are some =
    let t = (are j).some (λ e. omega (arith, e, some)) in
    go t.at t.above t.is (cases_lt t.at (length numbers))
  where
    go : (k : ℕ) → 64 * j ≤ k → slice_index numbers k ≡ slice_index spans j → (k < length numbers) ⊎ (length numbers ≤ k) → 64 * j < length numbers
    go k above is (inl lt) = omega (arith, above, lt)
    go k above is (inr ge) = absurd (omega (arith, is, get_or_past numbers k 0 ge, some))

-- numbers that are all below another, also those past the end
pub all_short : (numbers : List ℕ) (least : ℕ) → 0 < least → ((k : ℕ) → 0 ≤ k → k < length numbers → slice_index numbers k < least) → (k : ℕ) → slice_index numbers k < least
all_short numbers least long short k = go (cases_lt k (length numbers))
  where
    go : (k < length numbers) ⊎ (length numbers ≤ k) → slice_index numbers k < least
    go (inl lt) = short k (omega arith) lt
    go (inr ge) = omega (arith, get_or_past numbers k 0 ge, long)

-- a number that is not 0 is within the list
pub there_within : (numbers : List ℕ) (n greatest : ℕ) → greatest ≢ 0 → IsThere (slice_index numbers) 0 n greatest → IsThere (slice_index numbers) 0 (length numbers) greatest
there_within numbers n greatest any t = go (cases_lt t.at (length numbers))
  where
    go : (t.at < length numbers) ⊎ (length numbers ≤ t.at) → IsThere (slice_index numbers) 0 (length numbers) greatest
    go (inl lt) = record { at = t.at; above = t.above; below = lt; is = t.is }
    go (inr ge) = absurd (any (sym t.is ∙ get_or_past numbers t.at 0 ge))

-- the last number that is not 0, and those after it
pub greatest_down : (f : ℕ → ℕ) (from at stop end greatest : ℕ) → stop ≤ end → IsLast f from stop (Some at) → IsGreatest f stop end greatest →
    IsGreatest f at end (max (f at) greatest)
greatest_down f from at stop end greatest le last is = record {
  most = λ k low high. each k low high (cases_lt k stop) (cases_lt at k);
  some = λ any. go (cases_lt greatest (f at));
}
  where
    each : (k : ℕ) → at ≤ k → k < end → (k < stop) ⊎ (stop ≤ k) → (at < k) ⊎ (k ≤ at) → f k ≤ max (f at) greatest
    each k low high (inl under) (inl past) = omega (arith, last.3 k past under)
    each k low high (inl under) (inr here) = let e : k ≡ at = omega (arith, low, here) in omega (arith, ap f e)
    each k low high (inr above) _ = omega (arith, is.most k above high)

    go : (greatest < f at) ⊎ (f at ≤ greatest) → IsThere f at end (max (f at) greatest)
    go (inl lt) = record { at = at; above = omega arith; below = omega (arith, last.1, le); is = omega (arith, lt) }
    go (inr ge) =
        let t = is.some (λ e. omega (arith, e, ge, last.2)) in
        record { at = t.at; above = omega (arith, t.above, last.1); below = t.below; is = omega (arith, t.is, ge) }

-- those before them are 0
pub greatest_rest : (f : ℕ → ℕ) (from stop end greatest : ℕ) → (greatest ≢ 0 → from ≤ stop) → IsLast f from stop None → IsGreatest f stop end greatest →
    IsGreatest f from end greatest
greatest_rest f from stop end greatest begun none is = record {
  most = λ k low high. each k low high (cases_lt k stop);
  some = λ any. let t = is.some any in record { at = t.at; above = omega (arith, t.above, begun any); below = t.below; is = t.is };
}
  where
    each : (k : ℕ) → from ≤ k → k < end → (k < stop) ⊎ (stop ≤ k) → f k ≤ greatest
    each k low high (inl under) = omega (arith, none k low under)
    each k low high (inr above) = is.most k above high

-- or one of those after is as great as any
pub greatest_full : (f : ℕ → ℕ) (from stop end greatest most : ℕ) → (greatest ≢ 0 → from ≤ stop) → IsGreatest f stop end greatest →
    ((k : ℕ) → from ≤ k → k < end → f k ≤ most) → most ≤ greatest → IsGreatest f from end greatest
greatest_full f from stop end greatest most begun is bound full = record {
  most = λ k low high. omega (arith, bound k low high, full);
  some = λ any. let t = is.some any in record { at = t.at; above = omega (arith, t.above, begun any); below = t.below; is = t.is };
}

-- a number changed and became less, and the others are no greater than the greatest was
pub changed_most : (f g : ℕ → ℕ) (from end was at : ℕ) → ((k : ℕ) → k ≢ at → f k ≡ g k) → g at < was → IsGreatest f from end was →
    (k : ℕ) → from ≤ k → k < end → g k ≤ was
changed_most f g from end was at others low is k least high = go (cases_eq k at)
  where
    go : (k ≡ at) ⊎ (k ≡ at → ⊥) → g k ≤ was
    go (inl e) = rw e (omega (arith, low))
    go (inr other) = omega (arith, is.most k least high, others k other)

pub none_is : (o : Option ℕ) → is_some o ≡ false → o ≡ None
none_is None e = refl
none_is (Some k) e = absurd cc

-- of no numbers
pub greatest_empty : (f : ℕ → ℕ) (from : ℕ) → IsGreatest f from from 0
greatest_empty f from = record { most = λ k low high. absurd (omega (arith, low, high)); some = λ any. absurd (any refl) }
