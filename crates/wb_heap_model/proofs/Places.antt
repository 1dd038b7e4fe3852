-- Place's place is the least: an induction on the row.
use Rattle.std.proofs.Common.{subst, length, drop, get_or, drop-cons, suc, ◌≡◌, ℕ, ◌+◌, ◌%◌, ◌<◌, ◌≤◌, inl, inr, Bool, true, false, List, [], ◌∷◌, refl, arith, cond}
use Rattle.std.specs.Prelude.{nat_le}
use Rattle.std.proofs.lemmas.Bool.{leb-true, leb-false, le-leb}
use Rattle.wb_heap_model.specs.declared.heap.Header.{Header}
use Rattle.wb_heap_model.specs.Row.{end_of, IsSpacedFrom, Misses, IsFree, IsLeastPlace, place_from, place_of, top_from}

-- what lies below the rest of a row is free
pub below_free : (hs : List Header) (at place length : ℕ) → IsSpacedFrom at hs → place + length ≤ at → IsFree hs place length
below_free [] at place length s le = tt
below_free (h ∷ hs) at place length s le =
    (inl (omega (arith, le, s.0)), below_free hs (end_of h) place length s.5 (omega (arith, le, s.0)))

pub record IsLeastFrom (at : ℕ) (row : List Header) (length place : ℕ) : Type 0 where
  pub above : at ≤ place
  pub aligned : place % 16 ≡ 0
  pub free : IsFree row place length
  pub least : (q : ℕ) → at ≤ q → IsFree row q length → place ≤ q

pub place_from_is : (row : List Header) (at length : ℕ) → 0 < length → at % 16 ≡ 0 → IsSpacedFrom at row →
    IsLeastFrom at row length (place_from at row length)
place_from_is [] at length long aligned s = record { above = omega arith; aligned = aligned; free = tt; least = λ q le f. le }
place_from_is (h ∷ hs) at length long aligned s =
    let rest = place_from_is hs (end_of h) length long (omega (arith, s.1, s.2)) s.5 in go (nat_le (at + length) h.place) refl rest
  where
    go : (b : Bool) → nat_le (at + length) h.place ≡ b → IsLeastFrom (end_of h) hs length (place_from (end_of h) hs length) →
        IsLeastFrom at (h ∷ hs) length (cond b at (place_from (end_of h) hs length))
    go true e rest = record {
      above = omega arith;
      aligned = aligned;
      free = (inl (leb-true _ _ e), below_free hs (end_of h) at length s.5 (omega (arith, leb-true _ _ e)));
      least = λ q le f. le;
    }
    go false e rest = record {
      above = omega (arith, rest.above, s.0);
      aligned = rest.aligned;
      free = (inr rest.above, rest.free);
      least = λ q le f. other q le f.0 f.1;
    }
      where
        other : (q : ℕ) → at ≤ q → Misses q length h → IsFree hs q length → place_from (end_of h) hs length ≤ q
        other q le (inl before) f = omega (arith, leb-false _ _ e, before, le)
        other q le (inr after) f = rest.least q after f

-- Place, in words
pub place_of-least : (row : List Header) (length : ℕ) → 0 < length → IsSpacedFrom 0 row → IsLeastPlace row length (place_of row length)
place_of-least row length long s =
    let is = place_from_is row 0 length long refl s in
    record { aligned = is.aligned; free = is.free; least = λ q a f. is.least q (omega arith) f }

-- a row ends no lower than it is spaced from
pub top_from-above : (row : List Header) (at : ℕ) → IsSpacedFrom at row → at ≤ top_from at row
top_from-above [] at s = omega arith
top_from-above (h ∷ hs) at s = omega (arith, top_from-above hs (end_of h) s.5, s.0)

-- a cell ends within its row
pub end_of-within : (row : List Header) (i at : ℕ) (d : Header) → i < length row → IsSpacedFrom at (drop i row) →
    end_of (get_or row i d) ≤ top_from at (drop i row)
end_of-within row i at d lt s =
    let e : drop i row ≡ get_or row i d ∷ drop (suc i) row = drop-cons row i d lt in
    let spaced : IsSpacedFrom at (get_or row i d ∷ drop (suc i) row) = subst (λ r. IsSpacedFrom at r) e s in
    rw e (top_from-above (drop (suc i) row) (end_of (get_or row i d)) spaced.5)

-- where a place fits before the next cell, it is the place
pub place_from-fits : (row : List Header) (i at len : ℕ) (d : Header) → i < length row → at + len ≤ (get_or row i d).place →
    place_from at (drop i row) len ≡ at
place_from-fits row i at len d lt le =
    let e : drop i row ≡ get_or row i d ∷ drop (suc i) row = drop-cons row i d lt in
    rw (e, le-leb (at + len) (get_or row i d).place le) refl
