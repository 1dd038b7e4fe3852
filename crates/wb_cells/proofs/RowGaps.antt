-- The free cells of a row once a cell was put in, taken out or given another length.
use Rattle.std.proofs.Common.{◌≡◌, ◌≢◌, ℕ, ◌+◌, ◌-◌, ◌*◌, ◌/◌, ◌%◌, ◌<◌, ◌≤◌, ◌⊎◌, inl, inr, List, [], ◌∷◌, ◌++◌, length, slice_index, slice_set, Bool, true, false, cond, refl, sym, ◌∙◌, ap, arith}
use Rattle.std.specs.Prelude.{nat_eq}
use Rattle.std.proofs.lemmas.Bool.{eq-eqb, ne_eqb, cases_eq, cases_lt}
use Rattle.std.proofs.lemmas.List.{get_or-set_same, get_or-set_other, get_or_past, length-set}
use Rattle.wb_heap_model.specs.declared.heap.Header.{Header}
use Rattle.wb_heap_model.specs.Row.{IsSpacedFrom, end_of, top_from}
use Rattle.wb_heap_model.proofs.Places.{top_from-above}
use Rattle.wb_cells.specs.RowGaps.{one_at, gap_from}

pub one_here : (place length k : ℕ) → 16 * k ≡ place → one_at place length k ≡ length
one_here place length k e = rw (eq-eqb (16 * k) place e) refl

pub one_off : (place length k : ℕ) → 16 * k ≢ place → one_at place length k ≡ 0
one_off place length k e = rw (ne_eqb (16 * k) place e) refl

pub one_none : (place k : ℕ) → one_at place 0 k ≡ 0
one_none place k = go (nat_eq (16 * k) place)
  where
    go : (b : Bool) → ◌≡◌ {A = ℕ} (cond b 0 0) 0
    go true = refl
    go false = refl

-- no free cell begins below the row
pub gap-below : (hs : List Header) (at k : ℕ) → IsSpacedFrom at hs → 16 * k < at → gap_from at hs k ≡ 0
gap-below [] at k s lt = refl
gap-below (h ∷ hs) at k s lt =
    omega (arith, one_off at (h.place - at) k (λ e. omega (arith, e, lt)), gap-below hs (end_of h) k s.5 (omega (arith, lt, s.0)))

-- nor above it
pub gap-above : (hs : List Header) (at k : ℕ) → IsSpacedFrom at hs → top_from at hs ≤ 16 * k → gap_from at hs k ≡ 0
gap-above [] at k s le = refl
gap-above (h ∷ hs) at k s le =
    let high = top_from-above hs (end_of h) s.5 in
    omega (arith, one_off at (h.place - at) k (λ e. omega (arith, e, le, high, s.0, s.3)), gap-above hs (end_of h) k s.5 le)

pub top_from-append : (xs ys : List Header) (at : ℕ) → top_from at (xs ++ ys) ≡ top_from (top_from at xs) ys
top_from-append [] ys at = refl
top_from-append (x ∷ xs) ys at = top_from-append xs ys (end_of x)

pub gap-append : (xs ys : List Header) (at k : ℕ) → gap_from at (xs ++ ys) k ≡ gap_from at xs k + gap_from (top_from at xs) ys k
gap-append [] ys at k = omega arith
gap-append (x ∷ xs) ys at k = omega (arith, gap-append xs ys (end_of x) k)

pub spaced-front : (xs ys : List Header) (at : ℕ) → IsSpacedFrom at (xs ++ ys) → IsSpacedFrom at xs
spaced-front [] ys at s = tt
spaced-front (x ∷ xs) ys at s = (s.0, s.1, s.2, s.3, s.4, spaced-front xs ys (end_of x) s.5)

pub spaced-back : (xs ys : List Header) (at : ℕ) → IsSpacedFrom at (xs ++ ys) → IsSpacedFrom (top_from at xs) ys
spaced-back [] ys at s = s
spaced-back (x ∷ xs) ys at s = spaced-back xs ys (end_of x) s.5

-- the free cell at one place is gone, and one begins at another place, which may be the same
pub record IsMoved (f g : ℕ → ℕ) (from to bytes : ℕ) : Type 0 where
  pub there : (k : ℕ) → 16 * k ≡ to → g k ≡ bytes
  pub gone : (k : ℕ) → 16 * k ≡ from → from ≢ to → g k ≡ 0
  pub others : (k : ℕ) → 16 * k ≢ from → 16 * k ≢ to → g k ≡ f k

-- the same of a list of lengths
pub moved_list : (lengths : List ℕ) (f g : ℕ → ℕ) (from to bytes : ℕ) → from % 16 ≡ 0 → to % 16 ≡ 0 → from / 16 < length lengths → to / 16 < length lengths →
    ((k : ℕ) → slice_index lengths k ≡ f k) → IsMoved f g from to bytes →
    (k : ℕ) → slice_index (slice_set (slice_set lengths (from / 16) 0) (to / 16) bytes) k ≡ g k
moved_list lengths f g from to bytes r r' low high is moved k = go (cases_eq k (to / 16)) (cases_eq k (from / 16))
  where
    first : List ℕ
    first = slice_set lengths (from / 16) 0

    go : (k ≡ to / 16) ⊎ (k ≡ to / 16 → ⊥) → (k ≡ from / 16) ⊎ (k ≡ from / 16 → ⊥) →
        slice_index (slice_set (slice_set lengths (from / 16) 0) (to / 16) bytes) k ≡ g k
    go (inl e) _ =
        ap (λ i. slice_index (slice_set (slice_set lengths (from / 16) 0) (to / 16) bytes) i) e
        ∙ get_or-set_same (slice_set lengths (from / 16) 0) (to / 16) bytes 0 (omega (arith, high, length-set lengths (from / 16) 0))
        ∙ sym (moved.there k (omega (arith, e, r')))
    go (inr other) (inl e) =
        get_or-set_other (slice_set lengths (from / 16) 0) (to / 16) k bytes 0 other
        ∙ ap (λ i. slice_index (slice_set lengths (from / 16) 0) i) e
        ∙ get_or-set_same lengths (from / 16) 0 0 low
        ∙ sym (moved.gone k (omega (arith, e, r)) (λ same. other (omega (arith, e, same))))
    go (inr other) (inr apart) =
        get_or-set_other (slice_set lengths (from / 16) 0) (to / 16) k bytes 0 other
        ∙ get_or-set_other lengths (from / 16) k 0 0 apart
        ∙ is k
        ∙ sym (moved.others k (λ e. apart (omega (arith, e))) (λ e. other (omega (arith, e))))

-- the free cell at one place is gone, or there was none
pub record IsGone (f g : ℕ → ℕ) (from : ℕ) : Type 0 where
  pub gone : (k : ℕ) → 16 * k ≡ from → g k ≡ 0
  pub others : (k : ℕ) → 16 * k ≢ from → g k ≡ f k

pub gone_list : (lengths : List ℕ) (f g : ℕ → ℕ) (from : ℕ) → from % 16 ≡ 0 → ((k : ℕ) → slice_index lengths k ≡ f k) → IsGone f g from →
    (k : ℕ) → slice_index (slice_set lengths (from / 16) 0) k ≡ g k
gone_list lengths f g from r is gone k = go (cases_eq k (from / 16)) (cases_lt (from / 16) (length lengths))
  where
    go : (k ≡ from / 16) ⊎ (k ≡ from / 16 → ⊥) → (from / 16 < length lengths) ⊎ (length lengths ≤ from / 16) → slice_index (slice_set lengths (from / 16) 0) k ≡ g k
    go (inl e) (inl low) =
        ap (λ i. slice_index (slice_set lengths (from / 16) 0) i) e ∙ get_or-set_same lengths (from / 16) 0 0 low ∙ sym (gone.gone k (omega (arith, e, r)))
    go (inl e) (inr high) =
        get_or_past (slice_set lengths (from / 16) 0) k 0 (omega (arith, e, high, length-set lengths (from / 16) 0)) ∙ sym (gone.gone k (omega (arith, e, r)))
    go (inr apart) _ = get_or-set_other lengths (from / 16) k 0 0 apart ∙ is k ∙ sym (gone.others k (λ e. apart (omega (arith, e))))

-- a cell between others
module _ (low : List Header) (h : Header) (high : List Header) where
  abbrev start : ℕ
  start = top_from 0 low

  -- it is taken out
  pub gap-without : (c : Header) → IsSpacedFrom 0 (low ++ c ∷ h ∷ high) →
      IsMoved (gap_from 0 (low ++ c ∷ h ∷ high)) (gap_from 0 (low ++ h ∷ high)) (end_of c) start (h.place - start)
  gap-without c s =
      let front = spaced-front low (c ∷ h ∷ high) 0 s in
      let back = spaced-back low (c ∷ h ∷ high) 0 s in
      record {
        there = λ k e. omega (
          arith,
          gap-append low (h ∷ high) 0 k,
          gap-above low 0 k front (omega (arith, e)),
          one_here start (h.place - start) k e,
          gap-below high (end_of h) k back.5.5 (omega (arith, e, back.0, back.3, back.5.0, back.5.3)),
        );
        gone = λ k e apart. omega (
          arith,
          gap-append low (h ∷ high) 0 k,
          gap-above low 0 k front (omega (arith, e, back.0)),
          one_off start (h.place - start) k (λ q. apart (sym e ∙ q)),
          gap-below high (end_of h) k back.5.5 (omega (arith, e, back.5.0, back.5.3)),
        );
        others = λ k off apart. omega (
          arith,
          gap-append low (h ∷ high) 0 k,
          gap-append low (c ∷ h ∷ high) 0 k,
          one_off start (h.place - start) k apart,
          one_off start (c.place - start) k apart,
          one_off (end_of c) (h.place - end_of c) k off,
        );
      }

  -- it gets another length
  pub gap-length : (c d : Header) → IsSpacedFrom 0 (low ++ c ∷ h ∷ high) → IsSpacedFrom 0 (low ++ d ∷ h ∷ high) → c.place ≡ d.place →
      IsMoved (gap_from 0 (low ++ c ∷ h ∷ high)) (gap_from 0 (low ++ d ∷ h ∷ high)) (end_of c) (end_of d) (h.place - end_of d)
  gap-length c d s s' same =
      let front = spaced-front low (c ∷ h ∷ high) 0 s in
      let back = spaced-back low (c ∷ h ∷ high) 0 s in
      let back' = spaced-back low (d ∷ h ∷ high) 0 s' in
      let begin : one_at start (c.place - start) ≡ one_at start (d.place - start) = ap (λ n. one_at start (n - start)) same in
      record {
        there = λ k e. omega (
          arith,
          gap-append low (d ∷ h ∷ high) 0 k,
          gap-above low 0 k front (omega (arith, e, back'.0)),
          one_off start (d.place - start) k (λ q. omega (arith, e, q, back'.0, back'.3)),
          one_here (end_of d) (h.place - end_of d) k e,
          gap-below high (end_of h) k back.5.5 (omega (arith, e, back'.5.0, back'.5.3)),
        );
        gone = λ k e apart. omega (
          arith,
          gap-append low (d ∷ h ∷ high) 0 k,
          gap-above low 0 k front (omega (arith, e, back.0)),
          one_off start (d.place - start) k (λ q. omega (arith, e, q, back.0, back.3)),
          one_off (end_of d) (h.place - end_of d) k (λ q. apart (sym e ∙ q)),
          gap-below high (end_of h) k back.5.5 (omega (arith, e, back.5.0, back.5.3)),
        );
        others = λ k off apart. omega (
          arith,
          gap-append low (d ∷ h ∷ high) 0 k,
          gap-append low (c ∷ h ∷ high) 0 k,
          ap (λ q. q k) begin,
          one_off (end_of c) (h.place - end_of c) k off,
          one_off (end_of d) (h.place - end_of d) k apart,
        );
      }

  -- it is put in where the free cell before the next one begins
  pub gap-inserted : (c : Header) → IsSpacedFrom 0 (low ++ h ∷ high) → IsSpacedFrom 0 (low ++ c ∷ h ∷ high) → c.place ≡ start →
      IsMoved (gap_from 0 (low ++ h ∷ high)) (gap_from 0 (low ++ c ∷ h ∷ high)) c.place (end_of c) (h.place - end_of c)
  gap-inserted c s s' here =
      let front = spaced-front low (c ∷ h ∷ high) 0 s' in
      let back = spaced-back low (c ∷ h ∷ high) 0 s' in
      let none : (k : ℕ) → one_at start (c.place - start) k ≡ 0 = λ k. ap (λ n. one_at start n k) (omega (arith, here)) ∙ one_none start k in
      record {
        there = λ k e. omega (
          arith,
          gap-append low (c ∷ h ∷ high) 0 k,
          gap-above low 0 k front (omega (arith, e, back.0)),
          none k,
          one_here (end_of c) (h.place - end_of c) k e,
          gap-below high (end_of h) k back.5.5 (omega (arith, e, back.5.0, back.5.3)),
        );
        gone = λ k e apart. omega (
          arith,
          gap-append low (c ∷ h ∷ high) 0 k,
          gap-above low 0 k front (omega (arith, e, back.0)),
          none k,
          one_off (end_of c) (h.place - end_of c) k (λ q. apart (sym e ∙ q)),
          gap-below high (end_of h) k back.5.5 (omega (arith, e, back.3, back.5.0, back.5.3)),
        );
        others = λ k off apart. omega (
          arith,
          gap-append low (c ∷ h ∷ high) 0 k,
          gap-append low (h ∷ high) 0 k,
          none k,
          one_off (end_of c) (h.place - end_of c) k apart,
          one_off start (h.place - start) k (λ e. off (e ∙ sym here)),
        );
      }

-- a cell after all others
module _ (low : List Header) where
  pub gap-without_last : (c : Header) → IsSpacedFrom 0 (low ++ c ∷ []) → IsGone (gap_from 0 (low ++ c ∷ [])) (gap_from 0 low) (top_from 0 low)
  gap-without_last c s =
      let front = spaced-front low (c ∷ []) 0 s in
      record {
        gone = λ k e. gap-above low 0 k front (omega (arith, e));
        others = λ k off. omega (arith, gap-append low (c ∷ []) 0 k, one_off (top_from 0 low) (c.place - top_from 0 low) k off);
      }

  pub gap-length_last : (c d : Header) → IsSpacedFrom 0 (low ++ d ∷ []) → c.place ≡ d.place →
      IsGone (gap_from 0 (low ++ c ∷ [])) (gap_from 0 (low ++ d ∷ [])) (end_of d)
  gap-length_last c d s same =
      let front = spaced-front low (d ∷ []) 0 s in
      let back = spaced-back low (d ∷ []) 0 s in
      record {
        gone = λ k e. omega (
          arith,
          gap-append low (d ∷ []) 0 k,
          gap-above low 0 k front (omega (arith, e, back.0)),
          one_off (top_from 0 low) (d.place - top_from 0 low) k (λ q. omega (arith, e, q, back.0, back.3)),
        );
        others = λ k off.
            gap-append low (d ∷ []) 0 k ∙ ap (λ n. gap_from 0 low k + (one_at (top_from 0 low) (n - top_from 0 low) k + 0)) (sym same) ∙ sym (gap-append low (c ∷ []) 0 k);
      }

  pub gap-inserted_last : (c : Header) → c.place ≡ top_from 0 low → (k : ℕ) → gap_from 0 low k ≡ gap_from 0 (low ++ c ∷ []) k
  gap-inserted_last c here k =
      let none : one_at (top_from 0 low) (c.place - top_from 0 low) k ≡ 0 = ap (λ n. one_at (top_from 0 low) n k) (omega (arith, here)) ∙ one_none (top_from 0 low) k in
      omega (arith, gap-append low (c ∷ []) 0 k, none)
