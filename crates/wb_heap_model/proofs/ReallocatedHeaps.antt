-- What a reallocation and another level keep of a heap with a limit.
use Rattle.std.proofs.Common.{◌≡◌, ◌≢◌, ℕ, suc, ◌+◌, ◌/◌, ◌%◌, ◌≤◌, ◌<◌, inl, inr, Bool, true, false, not, cond, List, [], ◌∷◌, length, max, filter, find, All, AllPairs, Some, refl, sym, subst, arith}
use Rattle.std.specs.Prelude.{nat_lt, nat_eq, ◌&&◌}
use Rattle.std.proofs.Math.Nat.{mul-mod_left}
use Rattle.std.proofs.lemmas.Bool.{ltb-true, ltb-false, and_parts}
use Rattle.std.proofs.lemmas.List.Elements.{All-cons, All-nil, All-filter}
use Rattle.std.proofs.lemmas.List.Kept.{AllPairs-cons}
use Rattle.wb_heap_model.specs.declared.heap.Header.{Header}
use Rattle.wb_heap_model.specs.declared.heap.Ptr.{Ptr}
use Rattle.wb_heap_model.specs.CellRow.{FitsInPlace, resized_words, with_level}
use Rattle.wb_heap_model.specs.Placement.{fits_in_place}
use Rattle.wb_heap_model.specs.LimitedHeap.{LimitedHeap, IsSoundHeap, IsCellLength, IsFilled, space_in, place_in, place_to_grow, grown_pointer, grown_cell, committed_grown, heap_grown, heap_shortened, heap_reallocated, heap_leveled}
use Rattle.wb_heap_model.specs.Row.{Cell, headers, end_of, pointer_to, is_at, cell_at, inserted, without, IsSpacedFrom, IsRow, IsFree, Misses, place_of}
use Rattle.wb_heap_model.proofs.LimitedHeaps.{shape_is, committed_by-is, IsCommitted, place_in-least, place_in-committed}
use Rattle.wb_heap_model.proofs.Reallocations.{at-place, pointer-at, found-from, found-all, found-missed, found-head, fits-words, fits-free, fits-shorter, free-filter, resized-filled}
use Rattle.wb_heap_model.proofs.Rows.{headers-without, IsRow-filter, IsRow-inserted, All-inserted, All-placed}

-- a cell goes, and another one comes
pub IsSoundHeap-replaced : (heap : LimitedHeap) (p : Ptr) (c : Cell (List ℕ)) (committed held : ℕ) → c.head.place % 16 ≡ 0 → c.head.length % 16 ≡ 0 →
    16 ≤ c.head.length → 1 ≤ c.head.number → IsFree (headers (without p heap.row)) c.head.place c.head.length →
    All (λ h. h.number ≢ c.head.number) (headers (without p heap.row)) → IsFilled c → end_of c.head ≤ committed → heap.committed ≤ committed →
    committed % 16 ≡ 0 → committed ≤ (space_in heap).bound → committed ≤ held → held ≤ (space_in heap).bound → IsSoundHeap heap →
    IsSoundHeap (record heap { row = inserted c (without p heap.row); committed = committed; held = held })
IsSoundHeap-replaced heap p c committed held placed aligned long numbered free new filled covers grown rounded bound covered within is =
    let e = sym (headers-without p heap.row) in
    record {
      row = IsRow-inserted c (without p heap.row) placed aligned long numbered free new (subst IsRow e (IsRow-filter _ (headers heap.row) is.row));
      within = All-inserted (λ h. end_of h ≤ committed) c (without p heap.row) covers
          (subst (All (λ h. end_of h ≤ committed)) e
          (All-filter _ (λ h. end_of h ≤ committed) (headers heap.row) (λ k d lt. omega (arith, is.within k d lt, grown))));
      least = omega (arith, is.least, grown);
      bound = bound;
      aligned = rounded;
      covered = covered;
      held = within;
      filled = All-placed IsFilled c (without p heap.row) filled (All-filter _ IsFilled heap.row is.filled);
      limit = is.limit;
      shape = is.shape;
    }

-- no other cell has its number
pub others-numbered : (p : Ptr) (hs : List Header) (h : Header) → AllPairs (λ f g. f.number ≢ g.number) hs → find (is_at p) hs ≡ Some h →
    All (λ g. g.number ≢ h.number) (filter (λ g. not (is_at p g)) hs)
others-numbered p [] h apart e = cc
others-numbered p (g ∷ gs) h apart e =
    by (is_at p g) e (others-numbered p gs h (λ i j x lt end. apart (suc i) (suc j) x (omega arith) (omega arith)))
  where
    by : (b : Bool) → cond b (Some g) (find (is_at p) gs) ≡ Some h →
        (find (is_at p) gs ≡ Some h → All (λ f. f.number ≢ h.number) (filter (λ f. not (is_at p f)) gs)) →
        All (λ f. f.number ≢ h.number) (cond (not b) (g ∷ filter (λ f. not (is_at p f)) gs) (filter (λ f. not (is_at p f)) gs))
    by true found rest =
        let same : g ≡ h = cc in
        subst (λ x. All (λ f. f.number ≢ x.number) (filter (λ f. not (is_at p f)) gs)) same
        (All-filter (λ f. not (is_at p f)) (λ f. f.number ≢ g.number) gs (λ k x lt e. apart 0 (suc k) x (omega arith) (omega arith) (sym e)))
    by false found rest =
        All-cons (λ f. f.number ≢ h.number) g (filter (λ f. not (is_at p f)) gs)
        (found-all (λ x. g.number ≢ x.number) p gs h (λ k x lt. apart 0 (suc k) x (omega arith) (omega arith)) found) (rest found)

pub own-numbered : (heap : LimitedHeap) (p : Ptr) (c : Cell (List ℕ)) → IsSoundHeap heap → cell_at p heap.row ≡ Some c →
    All (λ h. h.number ≢ c.head.number) (headers (without p heap.row))
own-numbered heap p c is e =
    subst (All (λ h. h.number ≢ c.head.number)) (sym (headers-without p heap.row))
    (others-numbered p (headers heap.row) c.head is.row.numbered (found-head p heap.row c e))

-- a place for a longer cell: its own, which it fits, or that of a new cell of its length
pub record IsPlaceToGrow (heap : LimitedHeap) (p : Ptr) (h : Header) (length place : ℕ) : Type 0 where
  pub aligned : place % 16 ≡ 0
  pub within : place ≤ heap.committed
  pub free : IsFree (headers (without p heap.row)) place length
  pub here : place ≡ h.place → FitsInPlace p length (headers heap.row)
  pub elsewhere : place ≢ h.place → place ≡ place_in heap length

pub place_to_grow-is : (heap : LimitedHeap) (p : Ptr) (c : Cell (List ℕ)) (length : ℕ) → IsCellLength length → IsSoundHeap heap →
    cell_at p heap.row ≡ Some c → IsPlaceToGrow heap p c.head length (place_to_grow heap c.head length)
place_to_grow-is heap p c length long is e = by (not heap.shape.moving && fits_in_place (headers heap.row) c.head length) refl
  where
    by : (b : Bool) → (not heap.shape.moving && fits_in_place (headers heap.row) c.head length) ≡ b →
        IsPlaceToGrow heap p c.head length (cond b c.head.place (place_of (headers heap.row) length))
    by true stays =
        let fits = (and_parts (not heap.shape.moving) (fits_in_place (headers heap.row) c.head length) stays).1 in
        let found = found-head p heap.row c e in
        let there = found-from p (headers heap.row) 0 c.head is.row.spaced found in
        let words = subst (λ q. FitsInPlace q length (headers heap.row)) (pointer-at p c.head there.named) (fits-words (headers heap.row) c.head length fits) in
        let end = found-all (λ h. end_of h ≤ heap.committed) p (headers heap.row) c.head is.within found in
        record {
          aligned = there.placed;
          within = omega (arith, end);
          free = subst (λ hs. IsFree hs c.head.place length) (sym (headers-without p heap.row))
              (subst (λ n. IsFree (filter (λ h. not (is_at p h)) (headers heap.row)) n length) (at-place p c.head there.named)
              (fits-free p length (headers heap.row) words));
          here = λ same. words;
          elsewhere = λ other. absurd (other refl);
        }
    by false full =
        let found = found-head p heap.row c e in
        let there = found-from p (headers heap.row) 0 c.head is.row.spaced found in
        let least = place_in-least heap length long is in
        record {
          aligned = least.aligned;
          within = place_in-committed heap length is;
          free = subst (λ hs. IsFree hs (place_in heap length) length) (sym (headers-without p heap.row))
              (free-filter (λ h. not (is_at p h)) (headers heap.row) (place_in heap length) length least.free);
          here = λ same. absurd (met same there.least (found-missed p (headers heap.row) c.head (place_in heap length) length least.free found));
          elsewhere = λ other. refl;
        }
      where
        met : place_in heap length ≡ c.head.place → 16 ≤ c.head.length → Misses (place_in heap length) length c.head → ⊥
        met same some (inl below) = omega (arith, same, below, long.least)
        met same some (inr above) = omega (arith, same, above, some)

-- the number of the cell there
grown-numbered : (heap : LimitedHeap) (c : Cell (List ℕ)) (length number : ℕ) (P : ℕ → Type 0) → P c.head.number → P number →
    P (grown_pointer heap c.head length number).number
grown-numbered heap c length number P own new = by (nat_eq (place_to_grow heap c.head length) c.head.place)
  where
    by : (b : Bool) → P (cond b c.head.number number)
    by true = own
    by false = new

-- the committed length once the cell is longer
pub committed_grown-is : (heap : LimitedHeap) (p : Ptr) (c : Cell (List ℕ)) (length : ℕ) → IsCellLength length → place_to_grow heap c.head length + length ≤ heap.limit →
    cell_at p heap.row ≡ Some c → IsSoundHeap heap →
    IsCommitted (space_in heap) heap.committed (place_to_grow heap c.head length + length) (committed_grown heap c.head length)
committed_grown-is heap p c length long fits e is =
    let place = place_to_grow-is heap p c length long is e in
    let shape = shape_is heap.shape is.shape in
    committed_by-is (space_in heap) heap.committed (place_to_grow heap c.head length + length) (omega (arith, shape.step_least)) shape.step_aligned
    (mul-mod_left (heap.limit / 16) 16) is.aligned is.bound (omega (arith, fits, place.aligned, long.aligned))

pub IsSoundHeap-heap_grown : (heap : LimitedHeap) (p : Ptr) (c : Cell (List ℕ)) (length number : ℕ) → IsCellLength length → 1 ≤ number →
    All (λ h. h.number ≢ number) (headers heap.row) → place_to_grow heap c.head length + length ≤ heap.limit → cell_at p heap.row ≡ Some c →
    IsSoundHeap heap → IsSoundHeap (heap_grown heap c length number)
IsSoundHeap-heap_grown heap p c length number long numbered unused fits e is =
    let found = found-head p heap.row c e in
    let there = found-from p (headers heap.row) 0 c.head is.row.spaced found in
    let place = place_to_grow-is heap p c length long is e in
    let committed = committed_grown-is heap p c length long fits e is in
    let others : All (λ h. h.number ≢ number) (headers (without p heap.row)) =
    subst (All (λ h. h.number ≢ number)) (sym (headers-without p heap.row)) (All-filter _ (λ h. h.number ≢ number) (headers heap.row) unused) in
    subst
    (λ q. IsSoundHeap (record heap {
      row = inserted (grown_cell heap c length number) (without q heap.row);
      committed = committed_grown heap c.head length;
      held = max heap.held (committed_grown heap c.head length);
    }))
    (sym (pointer-at p c.head there.named))
    (IsSoundHeap-replaced heap p (grown_cell heap c length number) (committed_grown heap c.head length) (max heap.held (committed_grown heap c.head length))
    place.aligned long.aligned long.least (grown-numbered heap c length number (λ n. 1 ≤ n) there.numbered numbered) place.free
    (grown-numbered heap c length number (λ n. All (λ h. h.number ≢ n) (headers (without p heap.row))) (own-numbered heap p c is e) others)
    (resized-filled length c.content long.aligned) committed.covers committed.grown committed.aligned committed.bound (omega arith)
    (omega (arith, is.held, committed.bound)) is)

pub IsSoundHeap-heap_shortened : (heap : LimitedHeap) (p : Ptr) (c : Cell (List ℕ)) (length : ℕ) → IsCellLength length → length ≤ c.head.length →
    cell_at p heap.row ≡ Some c → IsSoundHeap heap → IsSoundHeap (heap_shortened heap c length)
IsSoundHeap-heap_shortened heap p c length long shorter e is =
    let found = found-head p heap.row c e in
    let there = found-from p (headers heap.row) 0 c.head is.row.spaced found in
    let words =
    subst (λ q. FitsInPlace q length (headers heap.row)) (pointer-at p c.head there.named)
    (fits-words (headers heap.row) c.head length (fits-shorter p (headers heap.row) 0 c.head length is.row.spaced found shorter)) in
    let end = found-all (λ h. end_of h ≤ heap.committed) p (headers heap.row) c.head is.within found in
    let free : IsFree (headers (without p heap.row)) c.head.place length =
    subst (λ hs. IsFree hs c.head.place length) (sym (headers-without p heap.row))
    (subst (λ n. IsFree (filter (λ h. not (is_at p h)) (headers heap.row)) n length) (at-place p c.head there.named)
    (fits-free p length (headers heap.row) words)) in
    let new : Cell (List ℕ) = record { head = record c.head { length = length }; content = resized_words length c.content } in
    subst (λ q. IsSoundHeap (record heap { row = inserted new (without q heap.row) })) (sym (pointer-at p c.head there.named))
    (IsSoundHeap-replaced heap p new heap.committed heap.held there.placed long.aligned long.least there.numbered free (own-numbered heap p c is e)
    (resized-filled length c.content long.aligned) (omega (arith, end, shorter)) (omega arith) is.aligned is.bound is.covered is.held is)

pub IsSoundHeap-heap_reallocated : (heap : LimitedHeap) (p : Ptr) (c : Cell (List ℕ)) (length number : ℕ) → IsCellLength length → 1 ≤ number →
    All (λ h. h.number ≢ number) (headers heap.row) → (c.head.length < length → place_to_grow heap c.head length + length ≤ heap.limit) →
    cell_at p heap.row ≡ Some c → IsSoundHeap heap → IsSoundHeap (heap_reallocated heap c length number)
IsSoundHeap-heap_reallocated heap p c length number long numbered unused fits e is = by (nat_lt c.head.length length) refl
  where
    by : (b : Bool) → nat_lt c.head.length length ≡ b → IsSoundHeap (cond b (heap_grown heap c length number) (heap_shortened heap c length))
    by true longer = IsSoundHeap-heap_grown heap p c length number long numbered unused (fits (ltb-true c.head.length length longer)) e is
    by false shorter = IsSoundHeap-heap_shortened heap p c length long (ltb-false c.head.length length shorter) e is

-- what holds of all cells, and of one in two heads
pub All-heap_reallocated : (P : Header → Type 0) (heap : LimitedHeap) (c : Cell (List ℕ)) (length number : ℕ) →
    P (grown_cell heap c length number).head → P (record c.head { length = length }) → All P (headers heap.row) →
    All P (headers (heap_reallocated heap c length number).row)
All-heap_reallocated P heap c length number grown shorter all = by (nat_lt c.head.length length)
  where
    rest : All P (headers (without (pointer_to c.head) heap.row))
    rest = subst (All P) (sym (headers-without (pointer_to c.head) heap.row)) (All-filter _ P (headers heap.row) all)

    by : (b : Bool) → All P (headers (cond b (heap_grown heap c length number) (heap_shortened heap c length)).row)
    by true = All-inserted P (grown_cell heap c length number) (without (pointer_to c.head) heap.row) grown rest
    by false =
        All-inserted P (record { head = record c.head { length = length }; content = resized_words length c.content }) (without (pointer_to c.head) heap.row)
        shorter rest

-- another level leaves what doesn't speak of levels
pub spaced-leveled : (p : Ptr) (level : ℕ) (row : List (Cell (List ℕ))) (at : ℕ) → IsSpacedFrom at (headers row) → IsSpacedFrom at (headers (with_level p level row))
spaced-leveled p level [] at s = tt
spaced-leveled p level (c ∷ cs) at s = by (is_at p c.head) (spaced-leveled p level cs (end_of c.head) s.5)
  where
    by : (b : Bool) → IsSpacedFrom (end_of c.head) (headers (with_level p level cs)) →
        IsSpacedFrom at (headers (cond b (record c { head = record c.head { level = level } } ∷ cs) (c ∷ with_level p level cs)))
    by true rest = s
    by false rest = (s.0, s.1, s.2, s.3, s.4, rest)

pub All-leveled : (P : Cell (List ℕ) → Type 0) (p : Ptr) (level : ℕ) (row : List (Cell (List ℕ))) →
    ((c : Cell (List ℕ)) → P c → P (record c { head = record c.head { level = level } })) → All P row → All P (with_level p level row)
All-leveled P p level [] blind all = All-nil P
All-leveled P p level (c ∷ cs) blind all =
    by (is_at p c.head) (All-leveled P p level cs blind (λ k x lt. all (suc k) x (omega arith)))
  where
    by : (b : Bool) → All P (with_level p level cs) → All P (cond b (record c { head = record c.head { level = level } } ∷ cs) (c ∷ with_level p level cs))
    by true rest = All-cons P (record c { head = record c.head { level = level } }) cs (blind c (all 0 c (omega arith))) (λ k x lt. all (suc k) x (omega arith))
    by false rest = All-cons P c (with_level p level cs) (all 0 c (omega arith)) rest

pub All-headers_leveled : (P : Header → Type 0) (p : Ptr) (level : ℕ) (row : List (Cell (List ℕ))) → ((h : Header) → P h → P (record h { level = level })) →
    All P (headers row) → All P (headers (with_level p level row))
All-headers_leveled P p level [] blind all = All-nil P
All-headers_leveled P p level (c ∷ cs) blind all =
    by (is_at p c.head) (All-headers_leveled P p level cs blind (λ k x lt. all (suc k) x (omega arith)))
  where
    by : (b : Bool) → All P (headers (with_level p level cs)) →
        All P (headers (cond b (record c { head = record c.head { level = level } } ∷ cs) (c ∷ with_level p level cs)))
    by true rest = All-cons P (record c.head { level = level }) (headers cs) (blind c.head (all 0 c.head (omega arith))) (λ k x lt. all (suc k) x (omega arith))
    by false rest = All-cons P c.head (headers (with_level p level cs)) (all 0 c.head (omega arith)) rest

numbered-leveled : (p : Ptr) (level : ℕ) (row : List (Cell (List ℕ))) → AllPairs (λ g h. g.number ≢ h.number) (headers row) →
    AllPairs (λ g h. g.number ≢ h.number) (headers (with_level p level row))
numbered-leveled p level [] apart = apart
numbered-leveled p level (c ∷ cs) apart = by (is_at p c.head) (numbered-leveled p level cs tail)
  where
    tail : AllPairs (λ g h. g.number ≢ h.number) (headers cs)
    tail i j x lt end = apart (suc i) (suc j) x (omega arith) (omega arith)

    first : All (λ h. c.head.number ≢ h.number) (headers cs)
    first k x lt = apart 0 (suc k) x (omega arith) (omega arith)

    by : (b : Bool) → AllPairs (λ g h. g.number ≢ h.number) (headers (with_level p level cs)) →
        AllPairs (λ g h. g.number ≢ h.number) (headers (cond b (record c { head = record c.head { level = level } } ∷ cs) (c ∷ with_level p level cs)))
    by true rest = AllPairs-cons (λ g h. g.number ≢ h.number) (record c.head { level = level }) (headers cs) first tail
    by false rest =
        AllPairs-cons (λ g h. g.number ≢ h.number) c.head (headers (with_level p level cs))
        (All-headers_leveled (λ h. c.head.number ≢ h.number) p level cs (λ h is. is) first) rest

pub IsSoundHeap-heap_leveled : (heap : LimitedHeap) (p : Ptr) (level : ℕ) → IsSoundHeap heap → IsSoundHeap (heap_leveled heap p level)
IsSoundHeap-heap_leveled heap p level is = record {
  row = record { spaced = spaced-leveled p level heap.row 0 is.row.spaced; numbered = numbered-leveled p level heap.row is.row.numbered };
  within = All-headers_leveled (λ h. end_of h ≤ heap.committed) p level heap.row (λ h le. le) is.within;
  least = is.least;
  bound = is.bound;
  aligned = is.aligned;
  covered = is.covered;
  held = is.held;
  filled = All-leveled IsFilled p level heap.row (λ c full. full) is.filled;
  limit = is.limit;
  shape = is.shape;
}
