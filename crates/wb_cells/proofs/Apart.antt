-- Numbers of which one is kept apart from their list, and no less than it is there: what a search in the list says of them all.
use Rattle.std.proofs.Common.{◌≡◌, ◌≢◌, ℕ, ◌<◌, ◌≤◌, ◌⊎◌, inl, inr, List, ◌++◌, slice_index, slice_set, replicate, Option, Some, None, min, max, sym, ◌∙◌, ap, arith, length-append}
use Rattle.std.proofs.lemmas.Bool.{cases_lt, cases_eq}
use Rattle.std.proofs.lemmas.List.{get_or-set_same, get_or-set_other, set-get_or, set-append_left}
use Rattle.wb_cells.specs.Maxima.{IsFirstLong, IsLast, IsThere, IsGreatest, IsKeptApart}
use Rattle.wb_cells.proofs.Spans.{slice_index-zeros}

-- all numbers, of which that at `at` isn't the list's
module _ (f g : ℕ → ℕ) (at number : ℕ) (here : g at ≡ number) (others : (k : ℕ) → k ≢ at → g k ≡ f k) (low : f at ≤ number) where
  -- the first that is so great, where that number isn't
  pub first_other : (least : ℕ) → number < least → (found : Option ℕ) → IsFirstLong f least found → IsFirstLong g least found
  first_other least short None none = λ k. less k (none k) (cases_eq k at)
    where
      less : (k : ℕ) → f k < least → (k ≡ at) ⊎ (k ≡ at → ⊥) → g k < least
      less k lt (inl e) = rw e (omega (arith, here, short))
      less k lt (inr other) = omega (arith, others k other, lt)
  first_other least short (Some found) first =
      (omega (arith, first.0, others found (λ e. omega (arith, ap f e, low, first.0, short))), λ k lt. less k (first.1 k lt) (cases_eq k at))
    where
      less : (k : ℕ) → f k < least → (k ≡ at) ⊎ (k ≡ at → ⊥) → g k < least
      less k lt (inl e) = rw e (omega (arith, here, short))
      less k lt (inr other) = omega (arith, others k other, lt)

  -- and where it is
  pub first_here : (least : ℕ) → least ≤ number → IsFirstLong f least None → IsFirstLong g least (Some at)
  first_here least long none = (omega (arith, here, long), λ k lt. omega (arith, others k (λ e. omega (arith, e, lt)), none k))

  pub first_either : (least found : ℕ) → least ≤ number → IsFirstLong f least (Some found) → IsFirstLong g least (Some (min found at))
  first_either least found long first = go (cases_lt found at)
    where
      go : (found < at) ⊎ (at ≤ found) → IsFirstLong g least (Some (min found at))
      go (inl lt) =
          let e : min found at ≡ found = omega (arith, lt) in
          rw e (omega (arith, first.0, others found (λ e. omega (arith, e, lt))), λ k below. omega (arith, others k (λ e. omega (arith, e, lt, below)), first.1 k below))
      go (inr ge) =
          let e : min found at ≡ at = omega (arith, ge) in
          rw e (omega (arith, here, long), λ k below. omega (arith, others k (λ e. omega (arith, e, below)), first.1 k (omega (arith, below, ge))))

  same : (end : ℕ) → (number ≡ 0) ⊎ (end ≤ at) → (k : ℕ) → k < end → (k ≡ at) ⊎ (k ≡ at → ⊥) → g k ≡ f k
  same end none k lt (inr other) = others k other
  same end (inl zero) k lt (inl e) = rw e (omega (arith, here, zero, low))
  same end (inr past) k lt (inl e) = absurd (omega (arith, e, lt, past))

  -- the last that is not 0, where that number is 0 or not below the end
  pub last_other : (end : ℕ) → (number ≡ 0) ⊎ (end ≤ at) → (found : Option ℕ) → IsLast f 0 end found → IsLast g 0 end found
  last_other end none None is = λ k from lt. omega (arith, same end none k lt (cases_eq k at), is k from lt)
  last_other end none (Some found) is = (
    is.0,
    is.1,
    omega (arith, is.2, same end none found is.1 (cases_eq found at)),
    λ k above lt. omega (arith, same end none k lt (cases_eq k at), is.3 k above lt),
  )

  -- and where it is below the end
  pub last_here : (end : ℕ) → 0 < number → at < end → IsLast f 0 end None → IsLast g 0 end (Some at)
  last_here end some below none =
      (omega arith, below, omega (arith, here, some), λ k above lt. omega (arith, others k (λ e. omega (arith, e, above)), none k (omega arith) lt))

  pub last_either : (end found : ℕ) → 0 < number → at < end → IsLast f 0 end (Some found) → IsLast g 0 end (Some (max found at))
  last_either end found some below last = go (cases_lt at found)
    where
      go : (at < found) ⊎ (found ≤ at) → IsLast g 0 end (Some (max found at))
      go (inl lt) =
          let e : max found at ≡ found = omega (arith, lt) in
          rw e (
            omega arith,
            last.1,
            omega (arith, last.2, others found (λ e. omega (arith, e, lt))),
            λ k above under. omega (arith, others k (λ e. omega (arith, e, lt, above)), last.3 k above under),
          )
      go (inr ge) =
          let e : max found at ≡ at = omega (arith, ge) in
          rw e (
            omega arith,
            below,
            omega (arith, here, some),
            λ k above under. omega (arith, others k (λ e. omega (arith, e, above)), last.3 k (omega (arith, above, ge)) under),
          )

  -- the greatest
  pub greatest_either : (n greatest : ℕ) → (0 < number → at < n) → IsGreatest f 0 n greatest → IsGreatest g 0 n (max greatest number)
  greatest_either n greatest within is = record {
    most = λ k from below. each k from below (cases_eq k at);
    some = λ any. go any (cases_lt number greatest);
  }
    where
      each : (k : ℕ) → 0 ≤ k → k < n → (k ≡ at) ⊎ (k ≡ at → ⊥) → g k ≤ max greatest number
      each k from below (inl e) = rw e (omega (arith, here))
      each k from below (inr other) = omega (arith, others k other, is.most k from below)

      go : max greatest number ≢ 0 → (number < greatest) ⊎ (greatest ≤ number) → IsThere g 0 n (max greatest number)
      go any (inl lt) =
          let t = is.some (λ e. omega (arith, e, lt)) in
          record {
            at = t.at;
            above = t.above;
            below = t.below;
            is = omega (arith, others t.at (λ e. omega (arith, ap f e, t.is, low, lt)), t.is, lt);
          }
      go any (inr ge) = record { at = at; above = omega arith; below = within (go_some any ge); is = omega (arith, here, ge) }
        where
          go_some : max greatest number ≢ 0 → greatest ≤ number → 0 < number
          go_some some le = pos (cases_lt 0 number)
            where
              pos : (0 < number) ⊎ (number ≤ 0) → 0 < number
              pos (inl lt) = lt
              pos (inr zero) = absurd (some (omega (arith, le, zero)))

-- the number in its place
pub apart_here : (numbers : List ℕ) (at number : ℕ) → IsKeptApart numbers at number → slice_index (slice_set numbers at number) at ≡ number
apart_here numbers at number is = go (cases_lt 0 number)
  where
    go : (0 < number) ⊎ (number ≤ 0) → slice_index (slice_set numbers at number) at ≡ number
    go (inl some) = get_or-set_same numbers at number 0 (is.within some)
    go (inr none) =
        let zero : slice_index numbers at ≡ number = omega (arith, is.low, none) in
        ap (λ n. slice_index (slice_set numbers at n) at) (sym zero) ∙ ap (λ l. slice_index l at) (set-get_or numbers at 0) ∙ zero

pub apart_others : (numbers : List ℕ) (at number k : ℕ) → k ≢ at → slice_index (slice_set numbers at number) k ≡ slice_index numbers k
apart_others numbers at number k other = get_or-set_other numbers at k number 0 other

-- a number that is 0 is in its place already
pub apart_none : (numbers : List ℕ) (at number : ℕ) → slice_index numbers at ≤ number → number ≤ 0 → numbers ≡ slice_set numbers at number
apart_none numbers at number low none =
    let zero : slice_index numbers at ≡ number = omega (arith, low, none) in
    sym (set-get_or numbers at 0) ∙ ap (λ n. slice_set numbers at n) zero

-- more numbers that are 0
pub apart_grown : (numbers : List ℕ) (at number n : ℕ) → IsKeptApart numbers at number → IsKeptApart (numbers ++ replicate n 0) at number
apart_grown numbers at number n is = record {
  low = omega (arith, is.low, slice_index-zeros numbers n at);
  within = λ some. omega (arith, is.within some, length-append numbers (replicate n 0));
}

pub apart_grown_list : (numbers : List ℕ) (at number n : ℕ) → IsKeptApart numbers at number →
    slice_set (numbers ++ replicate n 0) at number ≡ slice_set numbers at number ++ replicate n 0
apart_grown_list numbers at number n is = go (cases_lt 0 number)
  where
    go : (0 < number) ⊎ (number ≤ 0) → slice_set (numbers ++ replicate n 0) at number ≡ slice_set numbers at number ++ replicate n 0
    go (inl some) = set-append_left numbers (replicate n 0) at number (is.within some)
    go (inr none) =
        sym (apart_none (numbers ++ replicate n 0) at number (omega (arith, is.low, slice_index-zeros numbers n at)) none)
        ∙ ap (λ l. l ++ replicate n 0) (apart_none numbers at number is.low none)
