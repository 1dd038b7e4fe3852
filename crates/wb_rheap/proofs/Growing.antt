-- Where a cell goes that becomes longer, and what a pointer to it is.
use Rattle.std.proofs.Common.{cond, All, IfSome, ◌≡◌, ◌≢◌, ℕ, ◌+◌, ◌-◌, ◌*◌, ◌/◌, ◌%◌, ◌≤◌, ◌<◌, Bool, true, false, List, length, Option, Some, None, option_map, Result, Ok, Err, OnOk, IsSomeAnd, refl, sym, ◌∙◌, ap, subst, arith}
use Rattle.std.specs.Prelude.{not, ◌&&◌, nat_eq, nat_le, nat_lt}
use Rattle.std.proofs.lemmas.Bool.{leb-true, leb-false, le-leb, lt-leb, lt-ltb, le-ltb, and_from, and_left, and_right, cond-true, cond-false, false_from_ne_true}
use Rattle.wb_heap_model.specs.declared.heap.Header.{Header}
use Rattle.wb_heap_model.specs.declared.heap.Ptr.{Ptr}
use Rattle.wb_heap_model.specs.CellRow.{FitsInPlace, payload_of, resized_words, with_length, content_or_nil, room_after, IsGap}
use Rattle.wb_heap_model.specs.Placement.{fits_in_place}
use Rattle.wb_heap_model.specs.LimitedHeap.{LimitedHeap, IsSoundHeap, IsCellLength, place_in, place_to_grow, committed_grown, grown_cell, heap_grown, heap_shortened, heap_reallocated, reallocated_pointer, grown_pointer, IsFilled}
use Rattle.wb_heap_model.specs.Row.{Cell, IsRow, IsLeastPlace, headers, cell_at, end_of, inserted, without, pointer_to, usable_of}
use Rattle.wb_heap_model.proofs.LimitedHeaps.{place_in-least}
use Rattle.wb_heap_model.proofs.Reallocations.{IsFoundFrom, found-from, found-head, pointer-at, found-all, fits-room, fits-words, fits-shorter, words-fit, has_room, with_length-inserted}
use Rattle.wb_heap_model.proofs.ReallocatedHeaps.{place_to_grow-is}
use Rattle.wb_rheap.proofs.Finding.{place_in-gap, payload-filled}

-- the header of a live cell, and the cell
abbrev pub Names : Ptr → List (Cell (List ℕ)) → Header → Type 0
Names p row h = option_map (λ c. c.head) (cell_at p row) ≡ Some h

abbrev pub cell-of : Ptr → List (Cell (List ℕ)) → Header → Cell (List ℕ)
cell-of p row h = record { head = h; content = payload_of p row }

pub whole-cell : (p : Ptr) (row : List (Cell (List ℕ))) (h : Header) → Names p row h → cell_at p row ≡ Some (cell-of p row h)
whole-cell p row h e = by (cell_at p row) refl e
  where
    by : (o : Option (Cell (List ℕ))) → cell_at p row ≡ o → option_map (λ c. c.head) o ≡ Some h → cell_at p row ≡ Some (cell-of p row h)
    by None is found = cc
    by (Some c) is found =
        let head : c.head ≡ h = cc in
        let content : c.content ≡ payload_of p row = sym (ap content_or_nil is) in
        is ∙ ap (λ x. Some (record { head = x; content = c.content })) head ∙ ap (λ w. Some (record { head = h; content = w })) content

pub live-found : (heap : LimitedHeap) (p : Ptr) (h : Header) → IsSoundHeap heap → Names p heap.row h → IsFoundFrom 0 p h
live-found heap p h is e = found-from p (headers heap.row) 0 h is.row.spaced (found-head p heap.row (cell-of p heap.row h) (whole-cell p heap.row h e))

pub own-pointer : (heap : LimitedHeap) (p : Ptr) (h : Header) → IsSoundHeap heap → Names p heap.row h → pointer_to h ≡ p
own-pointer heap p h is e = pointer-at p h (live-found heap p h is e).named

pub own-named : (heap : LimitedHeap) (p : Ptr) (h : Header) → IsSoundHeap heap → Names p heap.row h → Names (pointer_to h) heap.row h
own-named heap p h is e = subst (λ q. Names q heap.row h) (sym (own-pointer heap p h is e)) e

-- whether it can be longer where it is
pub fits-decided : (heap : LimitedHeap) (h : Header) (length : ℕ) (room : Option ℕ) → IsSoundHeap heap → Names (pointer_to h) heap.row h →
    room ≡ room_after (pointer_to h) (headers heap.row) → has_room room h.length length ≡ fits_in_place (headers heap.row) h length
fits-decided heap h length room is e following =
    ap (λ o. has_room o h.length length) following
    ∙ sym (fits-room (pointer_to h) (headers heap.row) 0 h length is.row.spaced
    (found-head (pointer_to h) heap.row (cell-of (pointer_to h) heap.row h) (whole-cell (pointer_to h) heap.row h e)))

pub room-left : (a b room : ℕ) → a < b → nat_le (b - a) room ≡ nat_le b (a + room)
room-left a b room lt = by (nat_le (b - a) room) refl
  where
    by : (t : Bool) → nat_le (b - a) room ≡ t → t ≡ nat_le b (a + room)
    by true e = sym (le-leb b (a + room) (omega (arith, leb-true (b - a) room e)))
    by false e = sym (lt-leb b (a + room) (omega (arith, leb-false (b - a) room e)))

pub stays-there : (heap : LimitedHeap) (p : Ptr) (h : Header) (length : ℕ) → IsSoundHeap heap → Names p heap.row h → heap.shape.moving ≡ false →
    FitsInPlace p length (headers heap.row) → place_to_grow heap h length ≡ p.place
stays-there heap p h length is e still fits =
    let own = own-pointer heap p h is e in
    cond-true (not heap.shape.moving && fits_in_place (headers heap.row) h length) h.place (place_in heap length)
    (and_from (not heap.shape.moving) (fits_in_place (headers heap.row) h length) (ap not still)
    (words-fit (headers heap.row) h length (subst (λ q. FitsInPlace q length (headers heap.row)) (sym own) fits)))
    ∙ ap (λ q. q.place) own

-- where it doesn't stay it goes where a new cell would
moved-least : (heap : LimitedHeap) (h : Header) (length : ℕ) → IsCellLength length → IsSoundHeap heap →
    (not heap.shape.moving && fits_in_place (headers heap.row) h length) ≡ false → IsLeastPlace (headers heap.row) length (place_to_grow heap h length)
moved-least heap h length long is elsewhere =
    subst (IsLeastPlace (headers heap.row) length)
    (sym (cond-false (not heap.shape.moving && fits_in_place (headers heap.row) h length) h.place (place_in heap length) elsewhere))
    (place_in-least heap length long is)

pub always-moves : (heap : LimitedHeap) (h : Header) (length : ℕ) → IsCellLength length → IsSoundHeap heap → heap.shape.moving ≡ true →
    IsLeastPlace (headers heap.row) length (place_to_grow heap h length)
always-moves heap h length long is moving =
    moved-least heap h length long is (and_left (not heap.shape.moving) (fits_in_place (headers heap.row) h length) (ap not moving))

pub moves-least : (heap : LimitedHeap) (p : Ptr) (h : Header) (length : ℕ) → IsCellLength length → IsSoundHeap heap → Names p heap.row h →
    (FitsInPlace p length (headers heap.row) → ⊥) → IsLeastPlace (headers heap.row) length (place_to_grow heap h length)
moves-least heap p h length long is e full =
    let own = own-pointer heap p h is e in
    let full_there : fits_in_place (headers heap.row) h length ≡ false =
    false_from_ne_true (fits_in_place (headers heap.row) h length)
    (λ fits. full (subst (λ q. FitsInPlace q length (headers heap.row)) own (fits-words (headers heap.row) h length fits))) in
    moved-least heap h length long is (and_right (not heap.shape.moving) (fits_in_place (headers heap.row) h length) full_there)

pub grows-within : (heap : LimitedHeap) (h : Header) (length : ℕ) → IsCellLength length → IsSoundHeap heap → Names (pointer_to h) heap.row h →
    place_to_grow heap h length ≤ heap.committed
grows-within heap h length long is e =
    (place_to_grow-is heap (pointer_to h) (cell-of (pointer_to h) heap.row h) length long is (whole-cell (pointer_to h) heap.row h e)).within

pub grows-aligned : (heap : LimitedHeap) (h : Header) (length : ℕ) → IsCellLength length → IsSoundHeap heap → Names (pointer_to h) heap.row h →
    place_to_grow heap h length % 16 ≡ 0
grows-aligned heap h length long is e =
    (place_to_grow-is heap (pointer_to h) (cell-of (pointer_to h) heap.row h) length long is (whole-cell (pointer_to h) heap.row h e)).aligned

-- the words of its payload
pub words-of : (p : Ptr) (row : List (Cell (List ℕ))) (h : Header) → All IsFilled row → Names p row h → (h.length - 16) / 4 ≡ length (payload_of p row)
words-of p row h filled e =
    let four : 4 * length (payload_of p row) ≡ usable_of h = subst (λ o. IfSome o (λ g. 4 * length (payload_of p row) ≡ usable_of g)) e (payload-filled p row filled) in
    omega (arith, four)

-- the row where it stays
pub in-place : (row : List (Cell (List ℕ))) (h : Header) (length place : ℕ) → IsRow (headers row) → Names (pointer_to h) row h → place ≡ h.place →
    with_length (pointer_to h) length row ≡
    inserted (record { head = record h { place = place; length = length }; content = resized_words length (payload_of (pointer_to h) row) })
    (without (pointer_to h) row)
in-place row h length place is e here =
    with_length-inserted (pointer_to h) length row 0 (cell-of (pointer_to h) row h) is.spaced is.numbered (whole-cell (pointer_to h) row h e)
    ∙ ap (λ q. inserted (record { head = record h { place = q; length = length }; content = resized_words length (payload_of (pointer_to h) row) })
    (without (pointer_to h) row)) (sym here)

-- the place where it stays
pub fits-there : (heap : LimitedHeap) (h : Header) (length place : ℕ) → IsCellLength length → IsSoundHeap heap → Names (pointer_to h) heap.row h →
    place ≡ place_to_grow heap h length → place ≡ h.place → FitsInPlace (pointer_to h) length (headers heap.row)
fits-there heap h length place long is e at here =
    (place_to_grow-is heap (pointer_to h) (cell-of (pointer_to h) heap.row h) length long is (whole-cell (pointer_to h) heap.row h e)).here (sym at ∙ here)

pub shorter-there : (heap : LimitedHeap) (h : Header) (length : ℕ) → IsSoundHeap heap → Names (pointer_to h) heap.row h → length ≤ h.length →
    FitsInPlace (pointer_to h) length (headers heap.row)
shorter-there heap h length is e le =
    fits-words (headers heap.row) h length
    (fits-shorter (pointer_to h) (headers heap.row) 0 h length is.row.spaced
    (found-head (pointer_to h) heap.row (cell-of (pointer_to h) heap.row h) (whole-cell (pointer_to h) heap.row h e)) le)

pub live-within : (heap : LimitedHeap) (h : Header) → IsSoundHeap heap → Names (pointer_to h) heap.row h → h.place + h.length ≤ heap.committed
live-within heap h is e =
    found-all (λ g. end_of g ≤ heap.committed) (pointer_to h) (headers heap.row) h is.within
    (found-head (pointer_to h) heap.row (cell-of (pointer_to h) heap.row h) (whole-cell (pointer_to h) heap.row h e))

-- the gap that it moves to
pub gap-elsewhere : (heap : LimitedHeap) (h : Header) (length place : ℕ) → IsCellLength length → IsSoundHeap heap → Names (pointer_to h) heap.row h →
    place ≡ place_to_grow heap h length → place ≢ h.place → IsGap (headers heap.row) place length
gap-elsewhere heap h length place long is e at other =
    let grows = place_to_grow-is heap (pointer_to h) (cell-of (pointer_to h) heap.row h) length long is (whole-cell (pointer_to h) heap.row h e) in
    subst (λ q. IsGap (headers heap.row) q length) (sym (at ∙ grows.elsewhere (λ same. other (at ∙ same)))) (place_in-gap heap length long is)

-- the cell there
pub grown-there : (heap : LimitedHeap) (row : List (Cell (List ℕ))) (h : Header) (length place number : ℕ) (p : Ptr) → row ≡ heap.row →
    place ≡ place_to_grow heap h length → p ≡ record { place = place; number = cond (nat_eq place h.place) h.number number } →
    record { head = record h { place = place; length = length; number = p.number }; content = resized_words length (payload_of (pointer_to h) row) } ≡
    grown_cell heap (cell-of (pointer_to h) heap.row h) length number
grown-there heap row h length place number p is at named =
    ap (λ r. record { head = record h { place = place; length = length; number = p.number }; content = resized_words length (payload_of (pointer_to h) r) }) is
    ∙ ap (λ (q : Ptr). record {
      head = record h { place = place; length = length; number = q.number };
      content = resized_words length (payload_of (pointer_to h) heap.row);
    }) named
    ∙ ap (λ q. record {
      head = record h { place = q; length = length; number = cond (nat_eq q h.place) h.number number };
      content = resized_words length (payload_of (pointer_to h) heap.row);
    }) at

-- what a reallocation leaves, and what it answers
module _ (heap : LimitedHeap) (p : Ptr) (h : Header) (length number : ℕ) (is : IsSoundHeap heap) (e : Names p heap.row h) where
  of-cell : (P : Cell (List ℕ) → Type 0) → P (cell-of p heap.row h) → IsSomeAnd (cell_at p heap.row) P
  of-cell P here = subst (λ o. IsSomeAnd o P) (sym (whole-cell p heap.row h e)) here

  if-cell : (P : Cell (List ℕ) → Type 0) → P (cell-of p heap.row h) → IfSome (cell_at p heap.row) P
  if-cell P here = subst (λ o. IfSome o P) (sym (whole-cell p heap.row h e)) here

  longer-done : (new : LimitedHeap) → h.length < length → new ≡ heap_grown heap (cell-of (pointer_to h) heap.row h) length number →
      IsSomeAnd (cell_at p heap.row) (λ c. new ≡ heap_reallocated heap c length number)
  longer-done new longer grown =
      let here = grown ∙ ap (λ q. heap_grown heap (cell-of q heap.row h) length number) (own-pointer heap p h is e) in
      of-cell (λ c. new ≡ heap_reallocated heap c length number)
      (here
      ∙ sym (cond-true (nat_lt h.length length) (heap_grown heap (cell-of p heap.row h) length number) (heap_shortened heap (cell-of p heap.row h) length)
      (lt-ltb h.length length longer)))

  pub done-longer : {A E : Type 0} (r : Result A E) (new : LimitedHeap) → h.length < length →
      OnOk r (new ≡ heap_grown heap (cell-of (pointer_to h) heap.row h) length number) →
      OnOk r (IsSomeAnd (cell_at p heap.row) (λ c. new ≡ heap_reallocated heap c length number))
  done-longer (Ok x) new longer grown = longer-done new longer grown
  done-longer (Err x) new longer grown = tt

  pub done-shorter : (new : LimitedHeap) → length ≤ h.length → new ≡ heap_shortened heap (cell-of (pointer_to h) heap.row h) length →
      IsSomeAnd (cell_at p heap.row) (λ c. new ≡ heap_reallocated heap c length number)
  done-shorter new shorter short =
      let here = short ∙ ap (λ q. heap_shortened heap (cell-of q heap.row h) length) (own-pointer heap p h is e) in
      of-cell (λ c. new ≡ heap_reallocated heap c length number)
      (here
      ∙ sym (cond-false (nat_lt h.length length) (heap_grown heap (cell-of p heap.row h) length number) (heap_shortened heap (cell-of p heap.row h) length)
      (le-ltb h.length length shorter)))

  pub pointer-shorter : length ≤ h.length → IsSomeAnd (cell_at p heap.row) (λ c. p ≡ reallocated_pointer heap c.head length number)
  pointer-shorter shorter =
      of-cell (λ c. p ≡ reallocated_pointer heap c.head length number)
      (sym (own-pointer heap p h is e)
      ∙ sym (cond-false (nat_lt h.length length) (grown_pointer heap h length number) (pointer_to h) (le-ltb h.length length shorter)))

  pub no-growth : {A E : Type 0} (r : Result A E) (fault : E) → h.length < length → (committed_grown heap h length ≤ heap.held → r ≢ Err fault) →
      IfSome (cell_at p heap.row) (λ c. (heap_reallocated heap c length number).committed ≤ heap.held → r ≢ Err fault)
  no-growth r fault longer granted =
      if-cell (λ c. (heap_reallocated heap c length number).committed ≤ heap.held → r ≢ Err fault)
      (subst (λ (x : LimitedHeap). x.committed ≤ heap.held → r ≢ Err fault)
      (sym (cond-true (nat_lt h.length length) (heap_grown heap (cell-of p heap.row h) length number) (heap_shortened heap (cell-of p heap.row h) length)
      (lt-ltb h.length length longer))) granted)
