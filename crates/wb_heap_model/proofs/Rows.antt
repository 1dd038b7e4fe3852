-- What a grant and a release keep of a row, and where the row's cells are in a list.
use Rattle.std.proofs.Common.{◌≡◌, ◌≢◌, ℕ, ◌+◌, ◌%◌, ◌≤◌, suc, one-add, inl, inr, Bool, true, false, not, List, [], ◌∷◌, refl, sym, ap, arith, cond, map, filter, find, All, AllPairs, Some, option_map}
use Rattle.std.specs.Prelude.{nat_lt, nat_le, insert}
use Rattle.std.specs.List.{position_or_len}
use Rattle.std.proofs.lemmas.Bool.{ltb-true, ltb-false}
use Rattle.std.proofs.lemmas.List.Elements.{All-cons, All-nil}
use Rattle.std.proofs.lemmas.List.Kept.{AllPairs-cons, AllPairs-filter}
use Rattle.wb_heap_model.specs.declared.heap.Header.{Header}
use Rattle.wb_heap_model.specs.declared.heap.Ptr.{Ptr}
use Rattle.wb_heap_model.specs.Row.{Cell, headers, end_of, is_at, cell_at, inserted, without, changed, IsSpacedFrom, IsRow, Misses, IsFree, place_from, top_from}
use Rattle.wb_heap_model.proofs.Places.{top_from-above}

-- a row that is spaced from a place is spaced from a lower one
pub spaced-lower : (hs : List Header) (low at : ℕ) → low ≤ at → IsSpacedFrom at hs → IsSpacedFrom low hs
spaced-lower [] low at le s = tt
spaced-lower (h ∷ hs) low at le s = (omega (arith, s.0), s.1, s.2, s.3, s.4, s.5)

-- a row without some of its cells
pub spaced-filter : (p : Header → Bool) (hs : List Header) (at : ℕ) → IsSpacedFrom at hs → IsSpacedFrom at (filter p hs)
spaced-filter p [] at s = tt
spaced-filter p (h ∷ hs) at s = go (p h) (spaced-filter p hs (end_of h) s.5)
  where
    go : (b : Bool) → IsSpacedFrom (end_of h) (filter p hs) → IsSpacedFrom at (cond b (h ∷ filter p hs) (filter p hs))
    go true rest = (s.0, s.1, s.2, s.3, s.4, rest)
    go false rest = spaced-lower (filter p hs) at (end_of h) (omega (arith, s.0)) rest

pub IsRow-filter : (p : Header → Bool) (hs : List Header) → IsRow hs → IsRow (filter p hs)
IsRow-filter p hs is = record {
  spaced = spaced-filter p hs 0 is.spaced;
  numbered = AllPairs-filter (λ g h. g.number ≢ h.number) p hs is.numbered;
}

All-first : (P : Header → Type 0) (h : Header) (hs : List Header) → All P (h ∷ hs) → P h
All-first P h hs all = all 0 h (omega arith)

All-rest : (P : Header → Type 0) (h : Header) (hs : List Header) → All P (h ∷ hs) → All P hs
All-rest P h hs all k x lt = all (suc k) x (omega arith)

module _ {A : Type 0} where
  pub headers-without : (p : Ptr) (row : List (Cell A)) → headers (without p row) ≡ filter (λ h. not (is_at p h)) (headers row)
  headers-without p [] = refl
  headers-without p (c ∷ cs) = go (is_at p c.head) (headers-without p cs)
    where
      go : (b : Bool) → headers (without p cs) ≡ filter (λ h. not (is_at p h)) (headers cs) → headers (cond (not b) (c ∷ without p cs) (without p cs)) ≡
          cond (not b) (c.head ∷ filter (λ h. not (is_at p h)) (headers cs)) (filter (λ h. not (is_at p h)) (headers cs))
      go true rest = rest
      go false rest = ap (λ hs. c.head ∷ hs) rest

  pub headers-changed : (p : Ptr) (f : A → A) (row : List (Cell A)) → headers (changed p f row) ≡ headers row
  headers-changed p f [] = refl
  headers-changed p f (c ∷ cs) = go (is_at p c.head) (headers-changed p f cs)
    where
      go : (b : Bool) → headers (changed p f cs) ≡ headers cs → headers (cond b (record c { content = f c.content } ∷ cs) (c ∷ changed p f cs)) ≡ c.head ∷ headers cs
      go true rest = refl
      go false rest = ap (λ hs. c.head ∷ hs) rest

  pub head-cell_at : (p : Ptr) (row : List (Cell A)) → option_map (λ c. c.head) (cell_at p row) ≡ find (is_at p) (headers row)
  head-cell_at p [] = refl
  head-cell_at p (c ∷ cs) = go (is_at p c.head) (head-cell_at p cs)
    where
      go : (b : Bool) → option_map (λ d. d.head) (cell_at p cs) ≡ find (is_at p) (headers cs) → option_map (λ d. d.head) (cond b (Some c) (cell_at p cs)) ≡ cond b (Some c.head) (find (is_at p) (headers cs))
      go true rest = refl
      go false rest = rest

  -- a cell that is apart goes to its place
  pub spaced-inserted : (c : Cell A) (row : List (Cell A)) (at : ℕ) → at ≤ c.head.place → c.head.place % 16 ≡ 0 → c.head.length % 16 ≡ 0 →
      16 ≤ c.head.length → 1 ≤ c.head.number → IsFree (headers row) c.head.place c.head.length → IsSpacedFrom at (headers row) →
      IsSpacedFrom at (headers (inserted c row))
  spaced-inserted c [] at from placed aligned long numbered free s = (from, placed, aligned, long, numbered, tt)
  spaced-inserted c (d ∷ ds) at from placed aligned long numbered free s =
      go (nat_lt c.head.place d.head.place) refl free.0
      (λ above. spaced-inserted c ds (end_of d.head) above placed aligned long numbered free.1 s.5)
    where
      go : (b : Bool) → nat_lt c.head.place d.head.place ≡ b → Misses c.head.place c.head.length d.head →
          (end_of d.head ≤ c.head.place → IsSpacedFrom (end_of d.head) (headers (inserted c ds))) → IsSpacedFrom at (headers (cond b (c ∷ d ∷ ds) (d ∷ inserted c ds)))
      go true e (inl below) rest = (from, placed, aligned, long, numbered, (below, s.1, s.2, s.3, s.4, s.5))
      go true e (inr above) rest = absurd (omega (arith, ltb-true _ _ e, above, s.3))
      go false e (inl below) rest = absurd (omega (arith, ltb-false _ _ e, below, long))
      go false e (inr above) rest = (s.0, s.1, s.2, s.3, s.4, rest above)

  -- what holds of the cells and of the new one
  pub All-inserted : (P : Header → Type 0) (c : Cell A) (row : List (Cell A)) → P c.head → All P (headers row) → All P (headers (inserted c row))
  All-inserted P c [] here rest = All-cons P c.head [] here rest
  All-inserted P c (d ∷ ds) here rest = go (nat_lt c.head.place d.head.place) (All-inserted P c ds here (All-rest P d.head (headers ds) rest))
    where
      go : (b : Bool) → All P (headers (inserted c ds)) → All P (headers (cond b (c ∷ d ∷ ds) (d ∷ inserted c ds)))
      go true tail = All-cons P c.head (d.head ∷ headers ds) here rest
      go false tail = All-cons P d.head (headers (inserted c ds)) (All-first P d.head (headers ds) rest) tail

  -- the same of the cells themselves
  pub All-placed : (P : Cell A → Type 0) (c : Cell A) (row : List (Cell A)) → P c → All P row → All P (inserted c row)
  All-placed P c [] here rest = All-cons P c [] here rest
  All-placed P c (d ∷ ds) here rest = go (nat_lt c.head.place d.head.place) (All-placed P c ds here (λ k x lt. rest (suc k) x (omega arith)))
    where
      go : (b : Bool) → All P (inserted c ds) → All P (cond b (c ∷ d ∷ ds) (d ∷ inserted c ds))
      go true tail = All-cons P c (d ∷ ds) here rest
      go false tail = All-cons P d (inserted c ds) (rest 0 d (omega arith)) tail

  -- a new number keeps the numbers apart
  pub numbered-inserted : (c : Cell A) (row : List (Cell A)) → All (λ h. h.number ≢ c.head.number) (headers row) →
      AllPairs (λ g h. g.number ≢ h.number) (headers row) → AllPairs (λ g h. g.number ≢ h.number) (headers (inserted c row))
  numbered-inserted c [] new apart = AllPairs-cons (λ g h. g.number ≢ h.number) c.head [] (All-nil _) apart
  numbered-inserted c (d ∷ ds) new apart =
      go (nat_lt c.head.place d.head.place)
      (numbered-inserted c ds (All-rest (λ h. h.number ≢ c.head.number) d.head (headers ds) new)
      (λ i j x lt end. apart (suc i) (suc j) x (omega arith) (omega arith)))
    where
      go : (b : Bool) → AllPairs (λ g h. g.number ≢ h.number) (headers (inserted c ds)) →
          AllPairs (λ g h. g.number ≢ h.number) (headers (cond b (c ∷ d ∷ ds) (d ∷ inserted c ds)))
      go true tail = AllPairs-cons (λ g h. g.number ≢ h.number) c.head (d.head ∷ headers ds) (λ k x lt e. new k x lt (sym e)) apart
      go false tail =
          AllPairs-cons (λ g h. g.number ≢ h.number) d.head (headers (inserted c ds))
          (All-inserted (λ h. d.head.number ≢ h.number) c ds (All-first (λ h. h.number ≢ c.head.number) d.head (headers ds) new)
          (λ k x lt. apart 0 (suc k) x (omega arith) (omega arith)))
          tail

  pub IsRow-inserted : (c : Cell A) (row : List (Cell A)) → c.head.place % 16 ≡ 0 → c.head.length % 16 ≡ 0 → 16 ≤ c.head.length → 1 ≤ c.head.number →
      IsFree (headers row) c.head.place c.head.length → All (λ h. h.number ≢ c.head.number) (headers row) → IsRow (headers row) →
      IsRow (headers (inserted c row))
  IsRow-inserted c row placed aligned long numbered free new is = record {
    spaced = spaced-inserted c row 0 (omega arith) placed aligned long numbered free is.spaced;
    numbered = numbered-inserted c row new is.numbered;
  }

-- cells that are made of their headers
module _ {A : Type 0} (f : Header → A) where
  abbrev pub filled : Header → Cell A
  filled h = record { head = h; content = f h }

  pub headers-filled : (hs : List Header) → headers (map filled hs) ≡ hs
  headers-filled [] = refl
  headers-filled (h ∷ hs) = ap (λ l. h ∷ l) (headers-filled hs)

  pub without-filled : (p : Ptr) (hs : List Header) → map filled (filter (λ h. not (is_at p h)) hs) ≡ without p (map filled hs)
  without-filled p [] = refl
  without-filled p (h ∷ hs) = go (is_at p h) (without-filled p hs)
    where
      go : (b : Bool) → map filled (filter (λ h. not (is_at p h)) hs) ≡ without p (map filled hs) → map filled (cond (not b) (h ∷ filter (λ h. not (is_at p h)) hs) (filter (λ h. not (is_at p h)) hs)) ≡
          cond (not b) (filled h ∷ without p (map filled hs)) (without p (map filled hs))
      go true rest = rest
      go false rest = ap (λ l. filled h ∷ l) rest

  -- the place in the order is before the first cell that begins above
  pub inserted-filled : (h : Header) (hs : List Header) →
      map filled (insert hs (position_or_len (λ g. nat_lt h.place g.place) hs) h) ≡ inserted (filled h) (map filled hs)
  inserted-filled h [] = refl
  inserted-filled h (g ∷ gs) = go (nat_lt h.place g.place) (position_or_len (λ g. nat_lt h.place g.place) gs) (inserted-filled h gs)
    where
      go : (b : Bool) (i : ℕ) → map filled (insert gs i h) ≡ inserted (filled h) (map filled gs) →
          map filled (insert (g ∷ gs) (cond (not b) (1 + i) 0) h) ≡
          cond b (filled h ∷ filled g ∷ map filled gs) (filled g ∷ inserted (filled h) (map filled gs))
      go true i rest = refl
      go false i rest = rw one-add (ap (λ l. filled g ∷ l) rest)

-- a place is no higher than the row's end
pub place_from-top : (hs : List Header) (at length : ℕ) → IsSpacedFrom at hs → place_from at hs length ≤ top_from at hs
place_from-top [] at length s = omega arith
place_from-top (h ∷ hs) at length s = go (nat_le (at + length) h.place) (place_from-top hs (end_of h) length s.5) (top_from-above hs (end_of h) s.5)
  where
    go : (b : Bool) → place_from (end_of h) hs length ≤ top_from (end_of h) hs → end_of h ≤ top_from (end_of h) hs →
        cond b at (place_from (end_of h) hs length) ≤ top_from (end_of h) hs
    go true rest above = omega (arith, s.0)
    go false rest above = rest

-- where all cells end by a place, the row does
pub top_from-within : (hs : List Header) (at most : ℕ) → at ≤ most → All (λ h. end_of h ≤ most) hs → top_from at hs ≤ most
top_from-within [] at most le all = le
top_from-within (h ∷ hs) at most le all =
    top_from-within hs (end_of h) most (All-first (λ h. end_of h ≤ most) h hs all) (All-rest (λ h. end_of h ≤ most) h hs all)

-- no cell ends past the row's end
pub ends-within : (hs : List Header) (at : ℕ) → IsSpacedFrom at hs → All (λ h. end_of h ≤ top_from at hs) hs
ends-within [] at s = All-nil _
ends-within (h ∷ hs) at s =
    All-cons (λ g. end_of g ≤ top_from (end_of h) hs) h hs (top_from-above hs (end_of h) s.5) (ends-within hs (end_of h) s.5)
