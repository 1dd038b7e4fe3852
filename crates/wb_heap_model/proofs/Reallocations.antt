-- A cell of a row that a pointer names: what is known of it, whether it can be longer where it is, and the row once
-- another cell stands for it.
use Rattle.std.proofs.Common.{◌≡◌, ◌≢◌, ℕ, suc, ◌+◌, ◌-◌, ◌*◌, ◌/◌, ◌%◌, ◌≤◌, ◌<◌, ◌⊎◌, inl, inr, Bool, true, false, not, cond, List, [], ◌∷◌, ◌++◌, length, take, drop, replicate, filter, find, All, AllPairs, Option, Some, None, option_map, refl, sym, ◌∙◌, ap, subst, arith, length-append}
use Rattle.std.specs.Prelude.{◌&&◌, ◌||◌, nat_eq, nat_lt, nat_le}
use Rattle.std.proofs.lemmas.Bool.{eqb-true, eq-eqb, ne_eqb, leb-true, leb-false, le-leb, lt-leb, le-ltb, lt-ltb, ltb-true, and_parts, and_from, and_left, and_right, or_cases, or_from, or_left, or_right, cond-true, cond-false}
use Rattle.std.proofs.lemmas.List.{length-take, length-replicate, take_all, drop-replicate}
use Rattle.wb_heap_model.specs.declared.heap.Header.{Header}
use Rattle.wb_heap_model.specs.declared.heap.Ptr.{Ptr}
use Rattle.wb_heap_model.specs.CellRow.{room_after, Clears, FitsInPlace, resized_words, resized_cell, with_length}
use Rattle.wb_heap_model.specs.Placement.{fits_in_place}
use Rattle.wb_heap_model.specs.LimitedHeap.{zero_words}
use Rattle.wb_heap_model.specs.Row.{Cell, headers, end_of, pointer_to, is_at, cell_at, inserted, without, changed, IsSpacedFrom, Misses, IsFree}
use Rattle.wb_heap_model.proofs.Rows.{head-cell_at, headers-without, spaced-filter}

-- whether a pointer is a cell's
pub at-place : (p : Ptr) (h : Header) → is_at p h ≡ true → p.place ≡ h.place
at-place p h e = eqb-true p.place h.place (and_parts (nat_eq p.place h.place) (nat_eq p.number h.number) e).0

pub at-number : (p : Ptr) (h : Header) → is_at p h ≡ true → p.number ≡ h.number
at-number p h e = eqb-true p.number h.number (and_parts (nat_eq p.place h.place) (nat_eq p.number h.number) e).1

pub at-own : (h : Header) → is_at (pointer_to h) h ≡ true
at-own h = and_from (nat_eq h.place h.place) (nat_eq h.number h.number) (eq-eqb h.place h.place refl) (eq-eqb h.number h.number refl)

pub not_at-number : (p : Ptr) (h : Header) → h.number ≢ p.number → is_at p h ≡ false
not_at-number p h other = and_right (nat_eq p.place h.place) (nat_eq p.number h.number) (ne_eqb p.number h.number (λ e. other (sym e)))

pub not_at-place : (p : Ptr) (h : Header) → p.place ≢ h.place → is_at p h ≡ false
not_at-place p h other = and_left (nat_eq p.place h.place) (nat_eq p.number h.number) (ne_eqb p.place h.place other)

pub pointer-at : (p : Ptr) (h : Header) → is_at p h ≡ true → pointer_to h ≡ p
pointer-at p h e =
    ap (λ x. record { place = x; number = h.number }) (sym (at-place p h e)) ∙ ap (λ n. record { place = p.place; number = n }) (sym (at-number p h e))

-- a cell that a pointer names in a row from a place on
pub record IsFoundFrom (at : ℕ) (p : Ptr) (h : Header) : Type 0 where
  pub named : is_at p h ≡ true
  pub above : at ≤ h.place
  pub placed : h.place % 16 ≡ 0
  pub aligned : h.length % 16 ≡ 0
  pub least : 16 ≤ h.length
  pub numbered : 1 ≤ h.number

pub found-from : (p : Ptr) (hs : List Header) (at : ℕ) (h : Header) → IsSpacedFrom at hs → find (is_at p) hs ≡ Some h → IsFoundFrom at p h
found-from p [] at h s e = cc
found-from p (g ∷ gs) at h s e = by (is_at p g) refl e (found-from p gs (end_of g) h s.5)
  where
    by : (b : Bool) → is_at p g ≡ b → cond b (Some g) (find (is_at p) gs) ≡ Some h → (find (is_at p) gs ≡ Some h → IsFoundFrom (end_of g) p h) → IsFoundFrom at p h
    by true here found rest =
        let same : g ≡ h = cc in
        subst (IsFoundFrom at p) same (record { named = here; above = s.0; placed = s.1; aligned = s.2; least = s.3; numbered = s.4 })
    by false other found rest =
        let is = rest found in
        record { named = is.named; above = omega (arith, is.above, s.0); placed = is.placed; aligned = is.aligned; least = is.least; numbered = is.numbered }

-- what holds of all cells holds of it
pub found-all : (P : Header → Type 0) (p : Ptr) (hs : List Header) (h : Header) → All P hs → find (is_at p) hs ≡ Some h → P h
found-all P p [] h all e = cc
found-all P p (g ∷ gs) h all e = by (is_at p g) e (found-all P p gs h (λ k x lt. all (suc k) x (omega arith)))
  where
    by : (b : Bool) → cond b (Some g) (find (is_at p) gs) ≡ Some h → (find (is_at p) gs ≡ Some h → P h) → P h
    by true found rest = let same : g ≡ h = cc in subst P same (all 0 g (omega arith))
    by false found rest = rest found

-- bytes that no cell meets are none of its own
pub found-missed : (p : Ptr) (hs : List Header) (h : Header) (place length : ℕ) → IsFree hs place length → find (is_at p) hs ≡ Some h → Misses place length h
found-missed p [] h place length free e = cc
found-missed p (g ∷ gs) h place length free e = by (is_at p g) e (found-missed p gs h place length free.1)
  where
    by : (b : Bool) → cond b (Some g) (find (is_at p) gs) ≡ Some h → (find (is_at p) gs ≡ Some h → Misses place length h) → Misses place length h
    by true found rest = let same : g ≡ h = cc in subst (Misses place length) same free.0
    by false found rest = rest found

-- the room after a cell is where it can grow
first_room : Header → List Header → Option ℕ
first_room h [] = None
first_room h (g ∷ gs) = Some (g.place - end_of h)

-- whether so much room is enough for another length
abbrev pub has_room : Option ℕ → ℕ → ℕ → Bool
has_room None old new = true
has_room (Some room) old new = nat_le new (old + room)

abbrev clears : Header → ℕ → Header → Bool
clears h to g = is_at (pointer_to h) g || (nat_le (h.place + to) g.place || nat_le (end_of g) h.place)

above-clears : (h : Header) (hs : List Header) (at to : ℕ) → IsSpacedFrom at hs → h.place + to ≤ at → fits_in_place hs h to ≡ true
above-clears h [] at to s le = refl
above-clears h (g ∷ gs) at to s le =
    and_from (clears h to g) (fits_in_place gs h to)
    (or_right (is_at (pointer_to h) g) (nat_le (h.place + to) g.place || nat_le (end_of g) h.place)
    (or_left (nat_le (h.place + to) g.place) (nat_le (end_of g) h.place) (le-leb (h.place + to) g.place (omega (arith, le, s.0)))))
    (above-clears h gs (end_of g) to s.5 (omega (arith, le, s.0)))

first-clears : (h : Header) (hs : List Header) (to : ℕ) → 16 ≤ h.length → IsSpacedFrom (end_of h) hs → fits_in_place hs h to ≡ has_room (first_room h hs) h.length to
unfolding first_room
first-clears h [] to long s = refl
first-clears h (g ∷ gs) to long s = by (nat_le (h.place + to) g.place) refl
  where
    by : (b : Bool) → nat_le (h.place + to) g.place ≡ b → (clears h to g && fits_in_place gs h to) ≡ nat_le to (h.length + (g.place - end_of h))
    by true e =
        let le = leb-true _ _ e in
        and_from (clears h to g) (fits_in_place gs h to)
        (or_right (is_at (pointer_to h) g) (nat_le (h.place + to) g.place || nat_le (end_of g) h.place)
        (or_left (nat_le (h.place + to) g.place) (nat_le (end_of g) h.place) e))
        (above-clears h gs (end_of g) to s.5 (omega (arith, le)))
        ∙ sym (le-leb to (h.length + (g.place - end_of h)) (omega (arith, le)))
    by false e =
        let gt = leb-false _ _ e in
        and_left (clears h to g) (fits_in_place gs h to)
        (or_from (is_at (pointer_to h) g) (nat_le (h.place + to) g.place || nat_le (end_of g) h.place)
        (not_at-place (pointer_to h) g (λ same. absurd (omega (arith, same, s.0, long))))
        (or_from (nat_le (h.place + to) g.place) (nat_le (end_of g) h.place) e (lt-leb (end_of g) h.place (omega (arith, s.0, long)))))
        ∙ sym (lt-leb to (h.length + (g.place - end_of h)) (omega (arith, gt, s.0)))

room-here : (p : Ptr) (h : Header) (hs : List Header) → is_at p h ≡ true → room_after p (h ∷ hs) ≡ first_room h hs
unfolding first_room
room-here p h [] e = refl
room-here p h (g ∷ gs) e = cond-true (is_at p h) (Some (g.place - end_of h)) (room_after p (g ∷ gs)) e

room-past : (p : Ptr) (h : Header) (hs : List Header) → is_at p h ≡ false → room_after p (h ∷ hs) ≡ room_after p hs
room-past p h [] e = refl
room-past p h (g ∷ gs) e = cond-false (is_at p h) (Some (g.place - end_of h)) (room_after p (g ∷ gs)) e

pub fits-room : (p : Ptr) (hs : List Header) (at : ℕ) (h : Header) (to : ℕ) → IsSpacedFrom at hs → find (is_at p) hs ≡ Some h →
    fits_in_place hs h to ≡ has_room (room_after p hs) h.length to
fits-room p [] at h to s e = cc
fits-room p (g ∷ gs) at h to s e = by (is_at p g) refl e (fits-room p gs (end_of g) h to s.5)
  where
    own : (x : Header) → x ≡ h → 16 ≤ x.length → IsSpacedFrom (end_of x) gs → is_at p x ≡ true → fits_in_place (x ∷ gs) h to ≡ has_room (room_after p (x ∷ gs)) h.length to
    own x same long spaced here =
        subst (λ y. 16 ≤ y.length → IsSpacedFrom (end_of y) gs → is_at p y ≡ true → fits_in_place (y ∷ gs) h to ≡ has_room (room_after p (y ∷ gs)) h.length to) (sym same)
        (λ l t n.
        ap (λ b. b && fits_in_place gs h to) (or_left (is_at (pointer_to h) h) (nat_le (h.place + to) h.place || nat_le (end_of h) h.place) (at-own h))
        ∙ first-clears h gs to l t ∙ ap (λ r. has_room r h.length to) (sym (room-here p h gs n)))
        long spaced here

    by : (b : Bool) → is_at p g ≡ b → cond b (Some g) (find (is_at p) gs) ≡ Some h → (find (is_at p) gs ≡ Some h → fits_in_place gs h to ≡ has_room (room_after p gs) h.length to) →
        fits_in_place (g ∷ gs) h to ≡ has_room (room_after p (g ∷ gs)) h.length to
    by true here found rest = let same : g ≡ h = cc in own g same s.3 s.5 here
    by false other found rest =
        let is = found-from p gs (end_of g) h s.5 found in
        ap (λ b. b && fits_in_place gs h to)
        (or_right (is_at (pointer_to h) g) (nat_le (h.place + to) g.place || nat_le (end_of g) h.place)
        (or_right (nat_le (h.place + to) g.place) (nat_le (end_of g) h.place) (le-leb (end_of g) h.place is.above)))
        ∙ rest found ∙ ap (λ r. has_room r h.length to) (sym (room-past p g gs other))

-- a length that isn't greater fits
pub fits-shorter : (p : Ptr) (hs : List Header) (at : ℕ) (h : Header) (to : ℕ) → IsSpacedFrom at hs → find (is_at p) hs ≡ Some h → to ≤ h.length →
    fits_in_place hs h to ≡ true
fits-shorter p hs at h to s e le = fits-room p hs at h to s e ∙ by (room_after p hs)
  where
    by : (o : Option ℕ) → has_room o h.length to ≡ true
    by None = refl
    by (Some room) = le-leb to (h.length + room) (omega arith)

-- the same in words
pub fits-words : (hs : List Header) (h : Header) (to : ℕ) → fits_in_place hs h to ≡ true → FitsInPlace (pointer_to h) to hs
fits-words [] h to e = tt
fits-words (g ∷ gs) h to e =
    let both = and_parts (clears h to g) (fits_in_place gs h to) e in
    (by (or_cases (is_at (pointer_to h) g) (nat_le (h.place + to) g.place || nat_le (end_of g) h.place) both.0), fits-words gs h to both.1)
  where
    by : (is_at (pointer_to h) g ≡ true) ⊎ ((nat_le (h.place + to) g.place || nat_le (end_of g) h.place) ≡ true) → Clears (pointer_to h) to g
    by (inl own) = inl own
    by (inr apart) =
        elim (or_cases (nat_le (h.place + to) g.place) (nat_le (end_of g) h.place) apart) [
          | inl below ↦ inr (inl (leb-true (h.place + to) g.place below))
          | inr above ↦ inr (inr (leb-true (end_of g) h.place above))
        ]

-- and back
pub words-fit : (hs : List Header) (h : Header) (to : ℕ) → FitsInPlace (pointer_to h) to hs → fits_in_place hs h to ≡ true
words-fit [] h to fits = refl
words-fit (g ∷ gs) h to fits = and_from (clears h to g) (fits_in_place gs h to) (by fits.0) (words-fit gs h to fits.1)
  where
    by : Clears (pointer_to h) to g → clears h to g ≡ true
    by (inl own) = or_left (is_at (pointer_to h) g) (nat_le (h.place + to) g.place || nat_le (end_of g) h.place) own
    by (inr (inl below)) =
        or_right (is_at (pointer_to h) g) (nat_le (h.place + to) g.place || nat_le (end_of g) h.place)
        (or_left (nat_le (h.place + to) g.place) (nat_le (end_of g) h.place) (le-leb (h.place + to) g.place below))
    by (inr (inr above)) =
        or_right (is_at (pointer_to h) g) (nat_le (h.place + to) g.place || nat_le (end_of g) h.place)
        (or_right (nat_le (h.place + to) g.place) (nat_le (end_of g) h.place) (le-leb (end_of g) h.place above))

-- no other cell meets its bytes then
pub fits-free : (p : Ptr) (to : ℕ) (hs : List Header) → FitsInPlace p to hs → IsFree (filter (λ h. not (is_at p h)) hs) p.place to
fits-free p to [] fits = tt
fits-free p to (h ∷ hs) fits = by (is_at p h) refl fits.0 (fits-free p to hs fits.1)
  where
    by : (b : Bool) → is_at p h ≡ b → Clears p to h → IsFree (filter (λ g. not (is_at p g)) hs) p.place to →
        IsFree (cond (not b) (h ∷ filter (λ g. not (is_at p g)) hs) (filter (λ g. not (is_at p g)) hs)) p.place to
    by true e clear rest = rest
    by false e (inl own) rest = cc
    by false e (inr missed) rest = (missed, rest)

-- bytes that no cell meets, among fewer cells
pub free-filter : (test : Header → Bool) (hs : List Header) (place length : ℕ) → IsFree hs place length → IsFree (filter test hs) place length
free-filter test [] place length free = tt
free-filter test (h ∷ hs) place length free = by (test h) (free-filter test hs place length free.1)
  where
    by : (b : Bool) → IsFree (filter test hs) place length → IsFree (cond b (h ∷ filter test hs) (filter test hs)) place length
    by true rest = (free.0, rest)
    by false rest = rest

module _ {A : Type 0} where
  pub found-head : (p : Ptr) (row : List (Cell A)) (c : Cell A) → cell_at p row ≡ Some c → find (is_at p) (headers row) ≡ Some c.head
  found-head p row c e = sym (head-cell_at p row) ∙ ap (option_map (λ d. d.head)) e

  -- a row has one cell of a number
  pub without-absent : (p : Ptr) (row : List (Cell A)) → All (λ h. h.number ≢ p.number) (headers row) → without p row ≡ row
  without-absent p [] others = refl
  without-absent p (c ∷ cs) others =
      ap (λ b. cond (not b) (c ∷ without p cs) (without p cs)) (not_at-number p c.head (others 0 c.head (omega arith)))
      ∙ ap (λ r. c ∷ r) (without-absent p cs (λ k d lt. others (suc k) d (omega arith)))

  pub others-apart : (p : Ptr) (c : Cell A) (cs : List (Cell A)) → AllPairs (λ g h. g.number ≢ h.number) (c.head ∷ headers cs) → is_at p c.head ≡ true →
      All (λ h. h.number ≢ p.number) (headers cs)
  others-apart p c cs apart here k h lt same = apart 0 (suc k) h (omega arith) (omega arith) (sym (at-number p c.head here) ∙ sym same)

  -- a cell that is below a row goes before it
  pub inserted-first : (c : Cell A) (row : List (Cell A)) (at : ℕ) → IsSpacedFrom at (headers row) → c.head.place < at → inserted c row ≡ c ∷ row
  inserted-first c [] at s lt = refl
  inserted-first c (d ∷ ds) at s lt = cond-true (nat_lt c.head.place d.head.place) (c ∷ d ∷ ds) (d ∷ inserted c ds) (lt-ltb c.head.place d.head.place (omega (arith, lt, s.0)))

  -- look-ups in a row with one more cell
  pub cell_at-inserted_other : (p : Ptr) (c : Cell A) (row : List (Cell A)) → is_at p c.head ≡ false → cell_at p (inserted c row) ≡ cell_at p row
  cell_at-inserted_other p c [] other = ap (λ b. cond b (Some c) None) other
  cell_at-inserted_other p c (d ∷ ds) other = by (nat_lt c.head.place d.head.place) (cell_at-inserted_other p c ds other)
    where
      by : (b : Bool) → cell_at p (inserted c ds) ≡ cell_at p ds → cell_at p (cond b (c ∷ d ∷ ds) (d ∷ inserted c ds)) ≡ cell_at p (d ∷ ds)
      by true rest = ap (λ b. cond b (Some c) (cell_at p (d ∷ ds))) other
      by false rest = ap (λ o. cond (is_at p d.head) (Some d) o) rest

  pub cell_at-inserted : (p : Ptr) (c : Cell A) (row : List (Cell A)) → is_at p c.head ≡ true → All (λ h. h.number ≢ p.number) (headers row) →
      cell_at p (inserted c row) ≡ Some c
  cell_at-inserted p c [] here others = ap (λ b. cond b (Some c) None) here
  cell_at-inserted p c (d ∷ ds) here others =
      by (nat_lt c.head.place d.head.place) (cell_at-inserted p c ds here (λ k h lt. others (suc k) h (omega arith)))
    where
      by : (b : Bool) → cell_at p (inserted c ds) ≡ Some c → cell_at p (cond b (c ∷ d ∷ ds) (d ∷ inserted c ds)) ≡ Some c
      by true rest = ap (λ b. cond b (Some c) (cell_at p (d ∷ ds))) here
      by false rest = ap (λ b. cond b (Some d) (cell_at p (inserted c ds))) (not_at-number p d.head (others 0 d.head (omega arith))) ∙ rest

  -- its content changes
  pub changed-inserted : (p : Ptr) (f : A → A) (c : Cell A) (row : List (Cell A)) → is_at p c.head ≡ true → All (λ h. h.number ≢ p.number) (headers row) →
      changed p f (inserted c row) ≡ inserted (record { head = c.head; content = f c.content }) row
  changed-inserted p f c [] here others = ap (λ b. cond b (record { head = c.head; content = f c.content } ∷ []) (c ∷ [])) here
  changed-inserted p f c (d ∷ ds) here others =
      by (nat_lt c.head.place d.head.place) (changed-inserted p f c ds here (λ k h lt. others (suc k) h (omega arith)))
    where
      new : Cell A
      new = record { head = c.head; content = f c.content }

      by : (b : Bool) → changed p f (inserted c ds) ≡ inserted (record { head = c.head; content = f c.content }) ds →
          changed p f (cond b (c ∷ d ∷ ds) (d ∷ inserted c ds)) ≡
          cond b (record { head = c.head; content = f c.content } ∷ d ∷ ds) (d ∷ inserted (record { head = c.head; content = f c.content }) ds)
      by true rest = ap (λ b. cond b (record { head = c.head; content = f c.content } ∷ d ∷ ds) (c ∷ changed p f (d ∷ ds))) here
      by false rest =
          ap (λ b. cond b (record { head = d.head; content = f d.content } ∷ inserted c ds) (d ∷ changed p f (inserted c ds)))
          (not_at-number p d.head (others 0 d.head (omega arith)))
          ∙ ap (λ r. d ∷ r) rest

  -- another cell goes
  pub without-inserted : (p : Ptr) (c : Cell A) (row : List (Cell A)) (at : ℕ) → IsSpacedFrom at (headers row) → is_at p c.head ≡ false →
      without p (inserted c row) ≡ inserted c (without p row)
  without-inserted p c [] at s other = ap (λ b. cond (not b) (c ∷ []) []) other
  without-inserted p c (d ∷ ds) at s other =
      by (nat_lt c.head.place d.head.place) refl (is_at p d.head) refl (without-inserted p c ds (end_of d.head) s.5 other)
    where
      by : (b : Bool) → nat_lt c.head.place d.head.place ≡ b → (a : Bool) → is_at p d.head ≡ a → without p (inserted c ds) ≡ inserted c (without p ds) →
          without p (cond b (c ∷ d ∷ ds) (d ∷ inserted c ds)) ≡ inserted c (without p (d ∷ ds))
      by true lower a e rest =
          let spaced : IsSpacedFrom d.head.place (headers (without p (d ∷ ds))) =
          subst (IsSpacedFrom d.head.place) (sym (headers-without p (d ∷ ds)))
          (spaced-filter (λ h. not (is_at p h)) (headers (d ∷ ds)) d.head.place (omega arith, s.1, s.2, s.3, s.4, s.5)) in
          ap (λ x. cond (not x) (c ∷ without p (d ∷ ds)) (without p (d ∷ ds))) other
          ∙ sym (inserted-first c (without p (d ∷ ds)) d.head.place spaced (ltb-true c.head.place d.head.place lower))
      by false higher true e rest =
          ap (λ x. cond (not x) (d ∷ without p (inserted c ds)) (without p (inserted c ds))) e ∙ rest
          ∙ ap (λ x. inserted c (cond (not x) (d ∷ without p ds) (without p ds))) (sym e)
      by false higher false e rest =
          ap (λ x. cond (not x) (d ∷ without p (inserted c ds)) (without p (inserted c ds))) e ∙ ap (λ r. d ∷ r) rest
          ∙ sym (cond-false (nat_lt c.head.place d.head.place) (c ∷ d ∷ without p ds) (d ∷ inserted c (without p ds)) higher)
          ∙ ap (λ x. inserted c (cond (not x) (d ∷ without p ds) (without p ds))) (sym e)

-- the words of a payload that was cut or filled up
pub length-resized : (to : ℕ) (words : List ℕ) → length (resized_words to words) ≡ to / 4 - 4
length-resized to words =
    omega (
      arith,
      length-append (take (to / 4 - 4) words) (replicate (to / 4 - 4 - length words) 0),
      length-take (to / 4 - 4) words,
      length-replicate (to / 4 - 4 - length words) (◌+◌ 0 0),
    )

pub resized-filled : (to : ℕ) (words : List ℕ) → to % 16 ≡ 0 → 4 * length (resized_words to words) ≡ to - 16
resized-filled to words aligned = omega (arith, length-resized to words)

-- all words of a shorter payload, and zeros
pub copied-resized : (to n : ℕ) (words : List ℕ) → length words ≡ n → n ≤ to / 4 - 4 → take n words ++ drop n (zero_words to) ≡ resized_words to words
copied-resized to n words long le =
    ap (λ w. w ++ drop n (zero_words to)) (take_all n words (omega (arith, long)) ∙ sym (take_all (to / 4 - 4) words (omega (arith, long, le))))
    ∙ ap (λ w. take (to / 4 - 4) words ++ w) (drop-replicate n (to / 4 - 4) 0 ∙ ap (λ m. replicate (to / 4 - 4 - m) 0) (sym long))

-- a cell that has another length where it is
pub with_length-inserted : (p : Ptr) (to : ℕ) (row : List (Cell (List ℕ))) (at : ℕ) (c : Cell (List ℕ)) → IsSpacedFrom at (headers row) →
    AllPairs (λ g h. g.number ≢ h.number) (headers row) → cell_at p row ≡ Some c → with_length p to row ≡ inserted (resized_cell to c) (without p row)
with_length-inserted p to [] at c s apart e = cc
with_length-inserted p to (d ∷ ds) at c s apart e =
    by (is_at p d.head) refl e
    (with_length-inserted p to ds (end_of d.head) c s.5 (λ i j x lt end. apart (suc i) (suc j) x (omega arith) (omega arith)))
  where
    by : (b : Bool) → is_at p d.head ≡ b → cond b (Some d) (cell_at p ds) ≡ Some c →
        (cell_at p ds ≡ Some c → with_length p to ds ≡ inserted (resized_cell to c) (without p ds)) →
        cond b (resized_cell to d ∷ ds) (d ∷ with_length p to ds) ≡ inserted (resized_cell to c) (cond (not b) (d ∷ without p ds) (without p ds))
    by true here found rest =
        let same : d ≡ c = cc in
        let gone : without p ds ≡ ds = without-absent p ds (others-apart p d ds apart here) in
        sym (ap (λ r. inserted (resized_cell to c) r) gone ∙ ap (λ x. inserted (resized_cell to x) ds) (sym same)
        ∙ inserted-first (resized_cell to d) ds (end_of d.head) s.5 (omega (arith, s.3)))
    by false other found rest =
        let is = found-from p (headers ds) (end_of d.head) c.head s.5 (found-head p ds c found) in
        ap (λ r. d ∷ r) (rest found)
        ∙ sym (cond-false (nat_lt c.head.place d.head.place) (resized_cell to c ∷ d ∷ without p ds) (d ∷ inserted (resized_cell to c) (without p ds))
        (le-ltb c.head.place d.head.place (omega (arith, is.above))))
