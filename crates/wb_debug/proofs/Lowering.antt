-- The end of a mark: each cell of its level is put below it, from cell to cell.
use Rattle.std.proofs.Common.{◌≡◌, ◌≢◌, ℕ, suc, ◌-◌, ◌≤◌, ◌<◌, ◌&&◌, Bool, true, false, List, [], ◌∷◌, length, Some, None, IsSome, refl, ap, ◌∙◌, sym, cond, subst, arith}
use Rattle.std.specs.Prelude.{nat_eq, nat_le, nat_lt}
use Rattle.std.proofs.lemmas.Bool.{eq-eqb, ne_eqb, leb-true, leb-false, le-leb, lt-leb, lt-ltb}
use Rattle.wb_heap_model.specs.declared.heap.Header.{Header}
use Rattle.wb_heap_model.specs.declared.heap.Ptr.{Ptr}
use Rattle.wb_heap_model.specs.CellRow.{with_level}
use Rattle.wb_heap_model.specs.Heap.{lower, lowered}
use Rattle.wb_heap_model.specs.LimitedHeap.{LimitedHeap, IsSoundHeap, heap_leveled, next_live_of}
use Rattle.wb_heap_model.specs.Row.{Cell, headers, end_of, is_at, cell_at, pointer_to, IsSpacedFrom}
use Rattle.wb_heap_model.proofs.Onward.{onward, onward_next, onward_fewer, IsNextCell}
use Rattle.wb_debug.specs.Levels.{is_counted}
use Rattle.wb_debug.specs.declared.checks.Levels.TheVariants.{One}
use Rattle.wb_debug.specs.Tally.{is_below, number}
use Rattle.wb_debug.proofs.Counting.{onward-number}
use Rattle.wb_debug.proofs.Tallies.{number-cons, ones, same-level}

-- a cell one level lower, where it is of the level
abbrev put_below : ℕ → Cell (List ℕ) → Cell (List ℕ)
put_below level c = record c { head = lower level c.head }

-- the row once the cells from a place on were put below the level
abbrev pub lowered_on : ℕ → ℕ → List (Cell (List ℕ)) → List (Cell (List ℕ))
lowered_on from level [] = []
lowered_on from level (c ∷ cs) = cond (nat_le from c.head.place) (record c { head = lower level c.head }) c ∷ lowered_on from level cs

at_or_above : (from level : ℕ) (c : Cell (List ℕ)) (cs : List (Cell (List ℕ))) → from ≤ c.head.place →
    lowered_on from level (c ∷ cs) ≡ put_below level c ∷ lowered_on from level cs
at_or_above from level c cs le = ap (λ b. cond b (put_below level c) c ∷ lowered_on from level cs) (le-leb from c.head.place le)

underneath : (from level : ℕ) (c : Cell (List ℕ)) (cs : List (Cell (List ℕ))) → c.head.place < from →
    lowered_on from level (c ∷ cs) ≡ c ∷ lowered_on from level cs
underneath from level c cs lt = ap (λ b. cond b (put_below level c) c ∷ lowered_on from level cs) (lt-leb from c.head.place lt)

-- a row that begins there
lowered_on-all : (from level at : ℕ) (row : List (Cell (List ℕ))) → IsSpacedFrom at (headers row) → from ≤ at → lowered_on from level row ≡ lowered level row
lowered_on-all from level at [] s le = refl
lowered_on-all from level at (c ∷ cs) s le =
    at_or_above from level c cs (omega (arith, s.0)) ∙ ap (λ r. put_below level c ∷ r) (lowered_on-all from level (end_of c.head) cs s.5 (omega (arith, s.0)))

-- where no cell is left
pub lowered_on-none : (from level : ℕ) (row : List (Cell (List ℕ))) → next_live_of from (headers row) ≡ None → lowered_on from level row ≡ row
lowered_on-none from level [] e = refl
lowered_on-none from level (c ∷ cs) e = by (nat_le from c.head.place) refl e (lowered_on-none from level cs)
  where
    by : (b : Bool) → nat_le from c.head.place ≡ b → cond b (Some c.head) (next_live_of from (headers cs)) ≡ None →
        (next_live_of from (headers cs) ≡ None → lowered_on from level cs ≡ cs) → cond b (put_below level c) c ∷ lowered_on from level cs ≡ c ∷ cs
    by true t e rest = cc
    by false t e rest = ap (λ r. c ∷ r) (rest e)

-- a pointer names its own cell, and no cell of another place
itself : (h : Header) → is_at (pointer_to h) h ≡ true
itself h = ap (λ b. b && nat_eq h.number h.number) (eq-eqb h.place h.place refl) ∙ eq-eqb h.number h.number refl

elsewhere : (h g : Header) → h.place ≢ g.place → is_at (pointer_to h) g ≡ false
elsewhere h g apart = ap (λ b. b && nat_eq h.number g.number) (ne_eqb h.place g.place apart)

-- the row once one cell has the level
abbrev put : Header → ℕ → List (Cell (List ℕ)) → List (Cell (List ℕ))
put h to row = with_level (pointer_to h) to row

put-here : (to : ℕ) (c : Cell (List ℕ)) (cs : List (Cell (List ℕ))) → put c.head to (c ∷ cs) ≡ record c { head = record c.head { level = to } } ∷ cs
put-here to c cs = ap (λ b. cond b (record c { head = record c.head { level = to } } ∷ cs) (c ∷ put c.head to cs)) (itself c.head)

put-following : (h : Header) (to : ℕ) (c : Cell (List ℕ)) (cs : List (Cell (List ℕ))) → h.place ≢ c.head.place → put h to (c ∷ cs) ≡ c ∷ put h to cs
put-following h to c cs apart = ap (λ b. cond b (record c { head = record c.head { level = to } } ∷ cs) (c ∷ put h to cs)) (elsewhere h c.head apart)

-- after a cell the row may as well begin at its end
lowered_on-following : (from level : ℕ) (h : Header) (row : List (Cell (List ℕ))) → IsSpacedFrom (end_of h) (headers row) → from ≤ end_of h →
    lowered_on (end_of h) level row ≡ lowered_on from level row
lowered_on-following from level h row s le = lowered_on-all (end_of h) level (end_of h) row s (omega arith) ∙ sym (lowered_on-all from level (end_of h) row s le)

-- the next cell, which is of the level
pub lowered_on-next : (from level at : ℕ) (h : Header) (row : List (Cell (List ℕ))) → IsSpacedFrom at (headers row) → next_live_of from (headers row) ≡ Some h →
    is_counted (One level) h ≡ true → lowered_on (end_of h) level (with_level (pointer_to h) (level - 1) row) ≡ lowered_on from level row
lowered_on-next from level at h [] s e counts = cc
lowered_on-next from level at h (c ∷ cs) s e counts =
    by (nat_le from c.head.place) refl e (λ more. lowered_on-next from level (end_of c.head) h cs s.5 more counts)
  where
    below : Cell (List ℕ)
    below = record c { head = record c.head { level = level - 1 } }

    by : (b : Bool) → nat_le from c.head.place ≡ b → cond b (Some c.head) (next_live_of from (headers cs)) ≡ Some h →
        (next_live_of from (headers cs) ≡ Some h → lowered_on (end_of h) level (put h (level - 1) cs) ≡ lowered_on from level cs) →
        lowered_on (end_of h) level (put h (level - 1) (c ∷ cs)) ≡ lowered_on from level (c ∷ cs)
    by true t e rest =
        let same : c.head ≡ h = cc in
        let le : from ≤ c.head.place = leb-true _ _ t in
        let lowers : put_below level c ≡ below =
        ap (λ b. record c { head = cond b (record c.head { level = level - 1 }) c.head }) (subst (λ x. is_counted (One level) x ≡ true) (sym same) counts) in
        subst (λ x. lowered_on (end_of x) level (put x (level - 1) (c ∷ cs)) ≡ lowered_on from level (c ∷ cs)) same
        (ap (lowered_on (end_of c.head) level) (put-here (level - 1) c cs) ∙ underneath (end_of c.head) level below cs (omega (arith, s.3))
        ∙ ap (λ r. below ∷ r) (lowered_on-following from level c.head cs s.5 (omega (arith, le)))
        ∙ ap (λ d. d ∷ lowered_on from level cs) (sym lowers) ∙ sym (at_or_above from level c cs le))
    by false t e rest =
        let lt : c.head.place < from = leb-false _ _ t in
        let above : from ≤ h.place = (onward_next from (end_of c.head) h (headers cs) s.5 e).above in
        ap (lowered_on (end_of h) level) (put-following h (level - 1) c cs (λ same. absurd (omega (arith, lt, above, same))))
        ∙ underneath (end_of h) level c (put h (level - 1) cs) (omega (arith, lt, above)) ∙ ap (λ r. c ∷ r) (rest e) ∙ sym (underneath from level c cs lt)

-- one that isn't
pub lowered_on-past : (from level at : ℕ) (h : Header) (row : List (Cell (List ℕ))) → IsSpacedFrom at (headers row) → next_live_of from (headers row) ≡ Some h →
    is_counted (One level) h ≡ false → lowered_on (end_of h) level row ≡ lowered_on from level row
lowered_on-past from level at h [] s e counts = cc
lowered_on-past from level at h (c ∷ cs) s e counts =
    by (nat_le from c.head.place) refl e (λ more. lowered_on-past from level (end_of c.head) h cs s.5 more counts)
  where
    by : (b : Bool) → nat_le from c.head.place ≡ b → cond b (Some c.head) (next_live_of from (headers cs)) ≡ Some h →
        (next_live_of from (headers cs) ≡ Some h → lowered_on (end_of h) level cs ≡ lowered_on from level cs) →
        lowered_on (end_of h) level (c ∷ cs) ≡ lowered_on from level (c ∷ cs)
    by true t e rest =
        let same : c.head ≡ h = cc in
        let le : from ≤ c.head.place = leb-true _ _ t in
        let stays : put_below level c ≡ c =
        ap (λ b. record c { head = cond b (record c.head { level = level - 1 }) c.head }) (subst (λ x. is_counted (One level) x ≡ false) (sym same) counts) in
        subst (λ x. lowered_on (end_of x) level (c ∷ cs) ≡ lowered_on from level (c ∷ cs)) same
        (underneath (end_of c.head) level c cs (omega (arith, s.3)) ∙ ap (λ r. c ∷ r) (lowered_on-following from level c.head cs s.5 (omega (arith, le)))
        ∙ ap (λ d. d ∷ lowered_on from level cs) (sym stays) ∙ sym (at_or_above from level c cs le))
    by false t e rest =
        let lt : c.head.place < from = leb-false _ _ t in
        let above : from ≤ h.place = (onward_next from (end_of c.head) h (headers cs) s.5 e).above in
        underneath (end_of h) level c cs (omega (arith, lt, above)) ∙ ap (λ r. c ∷ r) (rest e) ∙ sym (underneath from level c cs lt)

-- another level leaves the places
pub onward-with_level : (from : ℕ) (p : Ptr) (to : ℕ) (row : List (Cell (List ℕ))) →
    length (onward from (headers (with_level p to row))) ≡ length (onward from (headers row))
onward-with_level from p to [] = refl
onward-with_level from p to (c ∷ cs) = by (is_at p c.head) (onward-with_level from p to cs)
  where
    by : (here : Bool) → length (onward from (headers (with_level p to cs))) ≡ length (onward from (headers cs)) →
        length (onward from (headers (cond here (record c { head = record c.head { level = to } } ∷ cs) (c ∷ with_level p to cs))))
        ≡ length (onward from (headers (c ∷ cs)))
    by true rest = go (nat_le from c.head.place)
      where
        go : (b : Bool) → length (cond b (record c.head { level = to } ∷ onward from (headers cs)) (onward from (headers cs)))
            ≡ length (cond b (c.head ∷ onward from (headers cs)) (onward from (headers cs)))
        go true = refl
        go false = refl
    by false rest = go (nat_le from c.head.place)
      where
        go : (b : Bool) → length (cond b (c.head ∷ onward from (headers (with_level p to cs))) (onward from (headers (with_level p to cs))))
            ≡ length (cond b (c.head ∷ onward from (headers cs)) (onward from (headers cs)))
        go true = ap suc rest
        go false = rest

-- the cell that comes next is one that its pointer names
pub next-named : (from : ℕ) (h : Header) (row : List (Cell (List ℕ))) → next_live_of from (headers row) ≡ Some h → IsSome (cell_at (pointer_to h) row)
next-named from h [] e = cc
next-named from h (c ∷ cs) e = by (is_at (pointer_to h) c.head) (nat_le from c.head.place) refl e (next-named from h cs)
  where
    by : (here more : Bool) → is_at (pointer_to h) c.head ≡ here → cond more (Some c.head) (next_live_of from (headers cs)) ≡ Some h →
        (next_live_of from (headers cs) ≡ Some h → IsSome (cell_at (pointer_to h) cs)) → IsSome (cond here (Some c) (cell_at (pointer_to h) cs))
    by true more t e rest = refl
    by false false t e rest = rest e
    by false true t e rest =
        let same : c.head ≡ h = cc in
        let here : is_at (pointer_to h) c.head ≡ true = subst (λ x. is_at (pointer_to x) c.head ≡ true) same (itself c.head) in cc

-- the heap once the cells below a place were put below the level: those from there on are still to come
pub record IsLowered (old : LimitedHeap) (level from : ℕ) (heap : LimitedHeap) : Type 0 where
  pub others : heap ≡ record old { row = heap.row }
  pub row : lowered_on from level heap.row ≡ lowered level old.row

pub lower-next : (old : LimitedHeap) (level from : ℕ) (h : Header) (heap new : LimitedHeap) → new ≡ heap_leveled heap (pointer_to h) (level - 1) →
    IsSoundHeap heap → next_live_of from (headers heap.row) ≡ Some h → is_counted (One level) h ≡ true → IsLowered old level from heap →
    IsLowered old level (end_of h) new
lower-next old level from h heap new is sound next counts so_far =
    subst (IsLowered old level (end_of h)) (sym is) (record {
      others = ap (λ (x : LimitedHeap). record x { row = with_level (pointer_to h) (level - 1) heap.row }) so_far.others;
      row = lowered_on-next from level 0 h heap.row sound.row.spaced next counts ∙ so_far.row;
    })

pub lower-past : (old : LimitedHeap) (level from : ℕ) (h : Header) (heap : LimitedHeap) → IsSoundHeap heap → next_live_of from (headers heap.row) ≡ Some h →
    is_counted (One level) h ≡ false → IsLowered old level from heap → IsLowered old level (end_of h) heap
lower-past old level from h heap sound next counts so_far =
    record { others = so_far.others; row = lowered_on-past from level 0 h heap.row sound.row.spaced next counts ∙ so_far.row }

-- no cell is left
pub lower-whole : (old : LimitedHeap) (level from : ℕ) (heap : LimitedHeap) → next_live_of from (headers heap.row) ≡ None → IsLowered old level from heap →
    heap ≡ record old { row = lowered level old.row }
lower-whole old level from heap none so_far =
    so_far.others ∙ ap (λ r. record old { row = r }) (sym (lowered_on-none from level heap.row none) ∙ so_far.row)

-- each cell that came leaves fewer to come
pub lower-fewer : (from : ℕ) (h : Header) (heap new : LimitedHeap) (p : Ptr) (to : ℕ) → new ≡ heap_leveled heap p to → IsNextCell from h (headers heap.row) →
    length (onward (end_of h) (headers new.row)) < length (onward from (headers heap.row))
lower-fewer from h heap new p to is next =
    omega (
      arith,
      ap (λ (x : LimitedHeap). length (onward (end_of h) (headers x.row))) is,
      onward-with_level (end_of h) p to heap.row,
      onward_fewer (headers heap.row) from h next,
    )

-- where none of the level is below a place, the cells from there on are all that are put below it
pub lowered_on-counted : (from level : ℕ) (row : List (Cell (List ℕ))) → number (is_below (is_counted (One level)) from) (headers row) ≡ 0 →
    lowered_on from level row ≡ lowered level row
lowered_on-counted from level [] none = refl
lowered_on-counted from level (c ∷ cs) none =
    by (nat_le from c.head.place) (is_counted (One level) c.head) refl refl
    (lowered_on-counted from level cs (omega (arith, none, number-cons (is_below (is_counted (One level)) from) c.head (headers cs))))
  where
    here : ones (is_below (is_counted (One level)) from c.head) ≡ 0
    here = omega (arith, none, number-cons (is_below (is_counted (One level)) from) c.head (headers cs))

    by : (b t : Bool) → nat_le from c.head.place ≡ b → is_counted (One level) c.head ≡ t → lowered_on from level cs ≡ lowered level cs →
        cond b (put_below level c) c ∷ lowered_on from level cs ≡ put_below level c ∷ lowered level cs
    by true t e is rest = ap (λ r. put_below level c ∷ r) rest
    by false false e is rest =
        let stays : put_below level c ≡ c = ap (λ b. record c { head = cond b (record c.head { level = level - 1 }) c.head }) is in
        ap (λ r. c ∷ r) rest ∙ ap (λ d. d ∷ lowered level cs) (sym stays)
    by false true e is rest =
        let low : nat_lt c.head.place from ≡ true = lt-ltb _ _ (leb-false _ _ e) in
        let one : ones (is_below (is_counted (One level)) from c.head) ≡ 1 = ap (λ x. ones (x && nat_lt c.head.place from)) is ∙ ap ones low in
        absurd (omega (arith, one, here))

-- where none is left
lowered_on-rest : (from level : ℕ) (row : List (Cell (List ℕ))) → number (is_counted (One level)) (onward from (headers row)) ≡ 0 → lowered_on from level row ≡ row
lowered_on-rest from level [] none = refl
lowered_on-rest from level (c ∷ cs) none = by (nat_le from c.head.place) (is_counted (One level) c.head) refl refl none (lowered_on-rest from level cs)
  where
    test : Header → Bool
    test = is_counted (One level)

    by : (b t : Bool) → nat_le from c.head.place ≡ b → is_counted (One level) c.head ≡ t →
        number (is_counted (One level)) (cond b (c.head ∷ onward from (headers cs)) (onward from (headers cs))) ≡ 0 →
        (number (is_counted (One level)) (onward from (headers cs)) ≡ 0 → lowered_on from level cs ≡ cs) → cond b (put_below level c) c ∷ lowered_on from level cs ≡ c ∷ cs
    by false t e is left rest = ap (λ r. c ∷ r) (rest left)
    by true true e is left rest =
        absurd (omega (arith, left, number-cons (is_counted (One level)) c.head (onward from (headers cs)), ap ones is))
    by true false e is left rest =
        let stays : put_below level c ≡ c = ap (λ b. record c { head = cond b (record c.head { level = level - 1 }) c.head }) is in
        ap (λ d. d ∷ lowered_on from level cs) stays
        ∙ ap (λ r. c ∷ r) (rest (omega (arith, left, number-cons (is_counted (One level)) c.head (onward from (headers cs)))))

-- the cells after one that changes its level
onward-put : (h : Header) (to : ℕ) (row : List (Cell (List ℕ))) → 1 ≤ h.length → onward (end_of h) (headers (with_level (pointer_to h) to row)) ≡ onward (end_of h) (headers row)
onward-put h to [] some = refl
onward-put h to (c ∷ cs) some = by (is_at (pointer_to h) c.head) refl (onward-put h to cs some)
  where
    by : (here : Bool) → is_at (pointer_to h) c.head ≡ here → onward (end_of h) (headers (with_level (pointer_to h) to cs)) ≡ onward (end_of h) (headers cs) →
        onward (end_of h) (headers (cond here (record c { head = record c.head { level = to } } ∷ cs) (c ∷ with_level (pointer_to h) to cs))) ≡ onward (end_of h) (c.head ∷ headers cs)
    by true e rest =
        let at : h.place ≡ c.head.place = same-place (nat_eq h.place c.head.place) refl e in
        let low : nat_le (end_of h) c.head.place ≡ false = lt-leb _ _ (omega (arith, at, some)) in
        ap (λ b. cond b (record c.head { level = to } ∷ onward (end_of h) (headers cs)) (onward (end_of h) (headers cs))) low
        ∙ sym (ap (λ b. cond b (c.head ∷ onward (end_of h) (headers cs)) (onward (end_of h) (headers cs))) low)
      where
        same-place : (b : Bool) → nat_eq h.place c.head.place ≡ b → is_at (pointer_to h) c.head ≡ true → h.place ≡ c.head.place
        same-place true t e = same-level h.place c.head.place t
        same-place false t e = let no = sym (ap (λ x. x && nat_eq h.number c.head.number) t) ∙ e in cc
    by false e rest = ap (λ r. cond (nat_le (end_of h) c.head.place) (c.head ∷ r) r) rest

-- one cell less is to be put below
pub lower-counts : (level from n : ℕ) (h : Header) (heap new : LimitedHeap) → new ≡ heap_leveled heap (pointer_to h) (level - 1) → 1 ≤ h.length →
    IsNextCell from h (headers heap.row) → is_counted (One level) h ≡ true → number (is_counted (One level)) (onward from (headers heap.row)) ≡ n →
    number (is_counted (One level)) (onward (end_of h) (headers new.row)) ≡ n - 1
lower-counts level from n h heap new is some next counts left =
    let same = ap (λ (x : LimitedHeap). number (is_counted (One level)) (onward (end_of h) (headers x.row))) is
    ∙ ap (number (is_counted (One level))) (onward-put h (level - 1) heap.row some) in
    omega (arith, same, left, onward-number (is_counted (One level)) (headers heap.row) from h next, ap ones counts)

pub past-counts : (level from n : ℕ) (h : Header) (row : List Header) → IsNextCell from h row → is_counted (One level) h ≡ false →
    number (is_counted (One level)) (onward from row) ≡ n → number (is_counted (One level)) (onward (end_of h) row) ≡ n
past-counts level from n h row next counts left = omega (arith, left, onward-number (is_counted (One level)) row from h next, ap ones counts)

-- where it begins and ends
pub lower-begin : (old : LimitedHeap) (level from : ℕ) → number (is_below (is_counted (One level)) from) (headers old.row) ≡ 0 → IsLowered old level from old
lower-begin old level from none = record { others = refl; row = lowered_on-counted from level old.row none }

pub lower-end : (old : LimitedHeap) (level from : ℕ) (heap : LimitedHeap) → number (is_counted (One level)) (onward from (headers heap.row)) ≡ 0 → IsLowered old level from heap →
    heap ≡ record old { row = lowered level old.row }
lower-end old level from heap none so_far =
    so_far.others ∙ ap (λ r. record old { row = r }) (sym (lowered_on-rest from level heap.row none) ∙ so_far.row)
