-- What `give` needs and leaves: the hole of a released cell, and how it is closed.
use Rattle.std.proofs.Common.{◌≡◌, ◌≢◌, ℕ, suc, ◌+◌, ◌*◌, ◌/◌, ◌%◌, ◌<◌, ◌≤◌, ◌⊎◌, inl, inr, List, [], ◌∷◌, ◌++◌, length, get_or, slice_index, slice_set, Bool, true, false, cond, replicate, refl, sym, ◌∙◌, ap, subst, arith, zero-add, append_assoc, length-append}
use Rattle.std.specs.Prelude.{nat_eq}
use Rattle.std.proofs.lemmas.List.{replicate-append-replicate, get_or_at, set_at}
use Rattle.std.proofs.lemmas.Bool.{eq-eqb, ne_eqb}
use Rattle.wb_heap_model.specs.declared.heap.Kind.{Kind}
use Rattle.wb_heap_model.specs.declared.heap.Ptr.{Ptr}
use Rattle.wb_heap_model.specs.Row.{Cell, without}
use Rattle.wb_cells.specs.declared.free_list.Hole.{Hole}
use Rattle.wb_cells.specs.FreeList.{NO_PLACE, Links, IsWithin, end_at}
use Rattle.wb_cells.specs.Holes.{touches, hole_of}
use Rattle.wb_cells.specs.Inside.{IsLaid}
use Rattle.wb_cells.specs.Segments.{Segment, live, free, state_of, total, first_free, last_free, words_of, cell_from, row_from, starts_of, AreWhole, BeginsLive, AreMerged}
use Rattle.wb_cells.proofs.Laying.{total-append, first_free-append, row_from-append, starts_of-append, length-words_of, length-starts_of, total-whole, whole_front, whole_back}
use Rattle.wb_cells.proofs.Linking.{gaps_from, below_none, first_free-above, links_laid}
use Rattle.wb_cells.proofs.Changing.{IsCell, next}
use Rattle.wb_cells.proofs.Hollow.{link_within}
use Rattle.wb_cells.proofs.Rounds.{AreNeighbours, Rounds, neighbours}
use Rattle.wb_cells.proofs.Rooms.{merged_back}
use Rattle.wb_cells.proofs.Merging.{IsUp, IsDown, up, down, within_free, last_split, IsLastFree}

-- the cells below and above the one that goes
without-below : (p : Ptr) (xs : List Segment) (at : ℕ) (row : List (Cell (List ℕ))) → at + total xs ≤ p.place →
    without p (row_from at xs ++ row) ≡ row_from at xs ++ without p row
without-below p [] at row le = refl
without-below p (free body ∷ xs) at row le = without-below p xs (at + (16 + 4 * length body)) row (omega (arith, le))
without-below p (live kind level number body ∷ xs) at row le =
    rw (ne_eqb p.place at (λ e. omega (arith, e, le)))
    (ap (λ r. cell_from at kind level number body ∷ r) (without-below p xs (at + (16 + 4 * length body)) row (omega (arith, le))))

without-above : (p : Ptr) (xs : List Segment) (at : ℕ) → p.place < at → without p (row_from at xs) ≡ row_from at xs
without-above p [] at lt = refl
without-above p (free body ∷ xs) at lt = without-above p xs (at + (16 + 4 * length body)) (omega (arith, lt))
without-above p (live kind level number body ∷ xs) at lt =
    rw (ne_eqb p.place at (λ e. omega (arith, e, lt)))
    (ap (λ r. cell_from at kind level number body ∷ r) (without-above p xs (at + (16 + 4 * length body)) (omega (arith, lt))))

pub without-split : (p : Ptr) (front : List Segment) (kind : Kind) (level : ℕ) (body : List ℕ) (back : List Segment) → p.place ≡ total front →
    without p (row_from 0 (front ++ live kind level p.number body ∷ back)) ≡ row_from 0 front ++ row_from (total front + (16 + 4 * length body)) back
without-split p front kind level body back here =
    let place : nat_eq p.place (0 + total front) ≡ true = eq-eqb p.place (0 + total front) (omega (arith, here)) in
    let number : nat_eq p.number p.number ≡ true = eq-eqb p.number p.number refl in
    let at : 0 + total front + (16 + 4 * length body) ≡ total front + (16 + 4 * length body) = omega arith in
    ap (without p) (row_from-append front (live kind level p.number body ∷ back) 0)
    ∙ without-below p front 0 (row_from (0 + total front) (live kind level p.number body ∷ back)) (omega (arith, here))
    ∙ ap (λ r. row_from 0 front ++ r) (rw (place, number) (without-above p back (0 + total front + (16 + 4 * length body)) (omega (arith, here))))
    ∙ ap (λ n. row_from 0 front ++ row_from n back) at

-- the free cells round a released cell
pub rounds_of : (words : List ℕ) (starts : List Bool) (top first : ℕ) (laid : IsLaid words starts top first) (p : Ptr) (cell : IsCell p words laid.segments laid.spare)
    (prior before after : ℕ) → Rounds words first p.place prior before after →
    AreNeighbours words p.place cell.front (live cell.kind cell.level p.number cell.body ∷ cell.back) prior before after
rounds_of words starts top first laid p cell prior before after rounds =
    let rest = live cell.kind cell.level p.number cell.body ∷ cell.back in
    let round = neighbours words first cell.front rest (subst (λ z. Links words first (gaps_from 0 z)) cell.is (links_laid words starts top first laid)) prior before after
    (subst (λ n. Rounds words first n prior before after) cell.here rounds) in
    subst (λ n. AreNeighbours words n cell.front rest prior before after) (sym cell.here) round

-- words and bits round a hole, and the cells that are left
pub record IsHollow (words : List ℕ) (bits : List Bool) (top first : ℕ) (cells : List (Cell (List ℕ))) (start end before next : ℕ) : Type 0 where
  pub low : List Segment
  pub high : List Segment
  pub spare : List ℕ
  pub junk : List ℕ
  pub from : ℕ
  pub unset : ℕ
  pub here : start ≡ total low
  pub long : start + 4 * length junk ≡ end
  pub rounded : length junk % 4 ≡ 0
  pub spelled : words ≡ words_of 0 low from ++ (junk ++ (words_of end high NO_PLACE ++ spare))
  pub linked : first ≡ first_free 0 low from
  pub last : before ≡ last_free 0 low NO_PLACE
  pub link : next ≡ first_free end high NO_PLACE
  pub ends : top ≡ end + total high
  pub marked : bits ≡ starts_of low ++ (replicate (length junk / 4) false ++ (starts_of high ++ replicate unset false))
  pub whole_low : AreWhole low
  pub whole_high : AreWhole high
  pub merged_low : AreMerged low
  pub merged_high : AreMerged high
  pub closed : (body : List ℕ) (ys : List Segment) → BeginsLive ys → AreMerged ys → AreMerged (low ++ free body ∷ ys)
  pub begins : (high ≡ []) ⊎ BeginsLive high
  pub row : cells ≡ row_from 0 low ++ row_from end high
  pub below : total low < NO_PLACE

-- the hole that a released cell and the free cells at its sides leave
module _ (words : List ℕ) (starts : List Bool) (top first : ℕ) (laid : IsLaid words starts top first) (p : Ptr) (cell : IsCell p words laid.segments laid.spare)
    (prior before after : ℕ) (round : AreNeighbours words p.place cell.front (live cell.kind cell.level p.number cell.body ∷ cell.back) prior before after) where
  abbrev own : Segment
  own = live cell.kind cell.level p.number cell.body

  abbrev size : ℕ
  size = 16 + 4 * length cell.body

  abbrev end : ℕ
  end = p.place + size

  whole_all : AreWhole (cell.front ++ own ∷ cell.back)
  whole_all = subst (λ z. AreWhole z) cell.is laid.whole

  merged_all : AreMerged (cell.front ++ own ∷ cell.back)
  merged_all = subst (λ z. AreMerged z) cell.is laid.merged

  spelled_all : words ≡ words_of 0 (cell.front ++ own ∷ cell.back) NO_PLACE ++ laid.spare
  spelled_all = laid.spelled ∙ ap (λ z. words_of 0 z NO_PLACE ++ laid.spare) cell.is

  total_all : total laid.segments ≡ end + total cell.back
  total_all = ap total cell.is ∙ total-append cell.front (own ∷ cell.back) ∙ omega (arith, cell.here)

  regroup : cell.front ++ own ∷ cell.back ≡ (cell.front ++ own ∷ []) ++ cell.back
  regroup = sym (append_assoc cell.front (own ∷ []) cell.back)

  end_front : end ≡ total (cell.front ++ own ∷ [])
  end_front = omega (arith, cell.here, total-append cell.front (own ∷ []))

  low_none : total cell.front < NO_PLACE
  low_none = omega (arith, below_none words starts top first laid, total_all, cell.here)

  above_end : after ≡ first_free end cell.back NO_PLACE
  above_end = rw cell.here round.above

  pub is_up : IsUp end cell.back (cond (nat_eq after end) (end_at words after) end) (cond (nat_eq after end) (slice_index words (after / 16 * 4 + 2)) after)
  is_up =
      up words laid.spare (cell.front ++ own ∷ []) cell.back end after end_front (spelled_all ∙ ap (λ z. words_of 0 z NO_PLACE ++ laid.spare) regroup)
      (subst (λ z. AreWhole z) regroup whole_all) (merged_back (cell.front ++ own ∷ []) cell.back (subst (λ z. AreMerged z) regroup merged_all))
      (omega (arith, below_none words starts top first laid, total_all)) above_end

  abbrev link_now : ℕ
  link_now = next laid.spare cell.front cell.kind cell.level p.number cell.body cell.back

  pub is_down : IsDown link_now p.place cell.front (cond (touches words before p.place) before p.place) (cond (touches words before p.place) prior before)
  is_down =
      down words laid.spare cell.front (own ∷ cell.back) p.place prior before link_now cell.here spelled_all whole_all merged_all tt low_none round.second round.below

  -- the bits of a run of places where no live cell begins
  run : (a m b : ℕ) → replicate {A = Bool} (a + (suc m + b)) false ≡ replicate a false ++ (false ∷ (replicate m false ++ replicate b false))
  run a m b =
      sym (replicate-append-replicate a (suc m + b) false) ∙ ap (λ bs. replicate a false ++ bs) (sym (replicate-append-replicate (suc m) b false))

  pub hollow : IsHollow words (slice_set starts (p.place / 16) false) top first (without p (row_from 0 laid.segments))
      (cond (touches words before p.place) before p.place) (cond (nat_eq after end) (end_at words after) end)
      (cond (touches words before p.place) prior before) (cond (nat_eq after end) (slice_index words (after / 16 * 4 + 2)) after)
  hollow =
      let d = is_down in
      let u = is_up in
      let head = size ∷ state_of cell.kind ∷ cell.level ∷ p.number ∷ cell.body in
      let m = length cell.body / 4 in
      let a = length d.less / 4 in
      let b = length u.more / 4 in
      let at : total cell.front + size ≡ end = omega (arith, cell.here) in
      let w = whole_back cell.front (own ∷ cell.back) whole_all in
      let junk = d.less ++ (head ++ u.more) in
      let count : length junk ≡ length d.less + (4 + length cell.body + length u.more) =
      length-append d.less (head ++ u.more) ∙ omega (arith, length-append head u.more) in
      let quarters : length junk / 4 ≡ a + (suc m + b) = omega (arith, count, w.0, d.rounded, u.rounded) in
      let bits : slice_set starts (p.place / 16) false ≡ starts_of cell.front ++ (false ∷ ((replicate m false ++ starts_of cell.back) ++ replicate laid.unset false)) =
      ap (λ bs. slice_set bs (p.place / 16) false) (laid.marked ∙ ap (λ z. starts_of z ++ replicate laid.unset false) cell.is
      ∙ ap (λ bs. bs ++ replicate laid.unset false) (starts_of-append cell.front (own ∷ cell.back)) ∙ append_assoc (starts_of cell.front) (starts_of (own ∷ cell.back)) (replicate laid.unset false))
      ∙ set_at (starts_of cell.front) true ((replicate m false ++ starts_of cell.back) ++ replicate laid.unset false) false (p.place / 16)
      (omega (arith, length-starts_of cell.front (whole_front cell.front (own ∷ cell.back) whole_all), cell.here)) in
      record {
        low = d.rest;
        high = u.rest;
        spare = laid.spare;
        junk = junk;
        from = d.from;
        unset = laid.unset;
        here = d.here;
        long = omega (arith, count, d.long, u.long);
        rounded = omega (arith, count, w.0, d.rounded, u.rounded);
        spelled = cell.spelled ∙ rw (d.spelled, at, u.spelled) (simp append_assoc);
        linked = laid.linked ∙ ap (λ z. first_free 0 z NO_PLACE) cell.is ∙ first_free-append cell.front (own ∷ cell.back) 0 NO_PLACE
            ∙ ap (λ n. first_free 0 cell.front (first_free (n + size) cell.back NO_PLACE)) (zero-add (total cell.front)) ∙ d.first;
        last = d.last;
        link = u.link;
        ends = laid.ends ∙ total_all ∙ u.ends;
        marked = bits ∙ rw (d.marked, u.marked, quarters, run a m b) (simp append_assoc);
        whole_low = d.whole;
        whole_high = u.whole;
        merged_low = d.merged;
        merged_high = u.merged;
        closed = d.closed;
        begins = u.begins;
        row = ap (λ z. without p (row_from 0 z)) cell.is ∙ without-split p cell.front cell.kind cell.level cell.body cell.back cell.here ∙ rw (at, d.row, u.row) refl;
        below = omega (arith, low_none, d.here, d.long, cell.here);
      }

  size_live : slice_index words (p.place / 16 * 4) ≡ size
  size_live =
      ap (λ ws. get_or ws (p.place / 16 * 4) 0) cell.spelled
      ∙ get_or_at (words_of 0 cell.front link_now) size _ 0 (p.place / 16 * 4) (omega (arith, length-words_of cell.front 0 link_now, cell.here, cell.rounded))

  pub within_live : IsWithin words p.place
  within_live = record {
    least = rw size_live (omega arith);
    end = rw size_live (omega (arith, laid.ends, total_all, ap length laid.spelled, length-append (words_of 0 laid.segments NO_PLACE) laid.spare, length-words_of laid.segments 0 NO_PLACE));
    bounded = laid.bounded;
  }

  pub within_before : before ≢ NO_PLACE → IsWithin words before
  within_before some = go (last_split cell.front 0 NO_PLACE)
    where
      go : (last_free 0 cell.front NO_PLACE ≡ NO_PLACE) ⊎ IsLastFree 0 (last_free 0 cell.front NO_PLACE) cell.front → IsWithin words before
      go (inl none) = absurd (some (round.below ∙ none))
      go (inr l) =
          let all : cell.front ++ own ∷ cell.back ≡ l.front ++ free l.body ∷ (l.back ++ own ∷ cell.back) =
          ap (λ z. z ++ own ∷ cell.back) l.is ∙ append_assoc l.front (free l.body ∷ l.back) (own ∷ cell.back) in
          within_free words laid.spare l.front l.body (l.back ++ own ∷ cell.back) before (round.below ∙ l.here ∙ zero-add _)
          (subst (λ z. AreWhole z) all whole_all) (spelled_all ∙ ap (λ z. words_of 0 z NO_PLACE ++ laid.spare) all) laid.bounded

  pub within_after : after ≡ p.place + slice_index words (p.place / 16 * 4) → IsWithin words after
  within_after meets = go cell.back refl
    where
      same : after ≡ end
      same = meets ∙ ap (λ n. p.place + n) size_live

      under : end + total cell.back < NO_PLACE
      under = omega (arith, below_none words starts top first laid, total_all)

      go : (back : List Segment) → cell.back ≡ back → IsWithin words after
      go [] is = let none = ap (λ z. first_free end z NO_PLACE) is in absurd (omega (arith, same, above_end, none, under))
      go (live kind level number body ∷ ys) is =
          let first = ap (λ z. first_free end z NO_PLACE) is in
          let above = first_free-above ys (end + (16 + 4 * length body)) NO_PLACE (omega (arith, under, ap total is)) in
          absurd (omega (arith, same, above_end, first, above))
      go (free body ∷ ys) is =
          let all : cell.front ++ own ∷ cell.back ≡ (cell.front ++ own ∷ []) ++ free body ∷ ys = regroup ∙ ap (λ z. (cell.front ++ own ∷ []) ++ z) is in
          within_free words laid.spare (cell.front ++ own ∷ []) body ys after (same ∙ end_front)
          (subst (λ z. AreWhole z) all whole_all) (spelled_all ∙ ap (λ z. words_of 0 z NO_PLACE ++ laid.spare) all) laid.bounded

  -- the hole as the code finds it
  pub hollow_is : (hole : Hole) → hole ≡ hole_of words p.place (record { prior = prior; before = before; after = after }) →
      IsHollow words (slice_set starts (p.place / 16) false) top first (without p (row_from 0 laid.segments)) hole.start hole.end hole.before hole.next
  hollow_is hole is =
      let at : end_at words p.place ≡ end = ap (λ n. p.place + n) size_live in
      let h : IsHollow words (slice_set starts (p.place / 16) false) top first (without p (row_from 0 laid.segments))
      (cond (touches words before p.place) before p.place) (cond (nat_eq after (end_at words p.place)) (end_at words after) (end_at words p.place))
      (cond (touches words before p.place) prior before) (cond (nat_eq after (end_at words p.place)) (slice_index words (after / 16 * 4 + 2)) after) = rw at hollow in
      subst (λ q. IsHollow words (slice_set starts (p.place / 16) false) top first (without p (row_from 0 laid.segments)) q.start q.end q.before q.next) (sym is) h

-- the bounds of a hole
module _ (words : List ℕ) (bits : List Bool) (top first : ℕ) (cells : List (Cell (List ℕ))) (start end before next : ℕ)
    (hole : IsHollow words bits top first cells start end before next) where
  abbrev rest : List ℕ
  rest = words_of end hole.high NO_PLACE ++ hole.spare

  count : length words ≡ length (words_of 0 hole.low hole.from) + (length hole.junk + length rest)
  count = ap length hole.spelled ∙ length-append (words_of 0 hole.low hole.from) (hole.junk ++ rest) ∙ ap (λ n. length (words_of 0 hole.low hole.from) + n) (length-append hole.junk rest)

  pub hole_start : start ≢ end → start / 16 * 4 + 4 ≤ length words
  hole_start some = omega (arith, count, length-words_of hole.low 0 hole.from, hole.here, hole.long, hole.rounded, some, total-whole hole.low hole.whole_low)

  pub hole_order : start ≤ end
  hole_order = omega (arith, hole.long)

  pub hole_before : before ≢ NO_PLACE → before / 16 * 4 + 4 ≤ length words
  hole_before some =
      let w = link_within hole.low hole.whole_low (λ e. some (hole.last ∙ e)) in
      omega (arith, w.0, w.1, hole.last, count, length-words_of hole.low 0 hole.from)
