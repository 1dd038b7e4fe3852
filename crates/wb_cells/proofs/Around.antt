-- Where a cell is in its row: the free bytes on both sides of it, and what the row is without it or with another length.
use Rattle.std.proofs.Common.{◌≡◌, ℕ, ◌+◌, ◌*◌, ◌/◌, ◌%◌, ◌<◌, ◌≤◌, ◌⊎◌, inl, inr, List, [], ◌∷◌, ◌++◌, length, slice_index, Bool, cond, refl, sym, ◌∙◌, ap, subst, arith, zero-add, add-zero, append_assoc}
use Rattle.std.specs.Prelude.{nat_eq}
use Rattle.std.proofs.lemmas.List.{append-nil, map-append}
use Rattle.wb_heap_model.specs.declared.heap.Header.{Header}
use Rattle.wb_heap_model.specs.declared.heap.Ptr.{Ptr}
use Rattle.wb_heap_model.specs.Row.{Cell, headers, end_of, inserted, without, top_from}
use Rattle.wb_heap_model.specs.CellRow.{resized_words, with_length}
use Rattle.wb_cells.specs.FreeList.{end_at}
use Rattle.wb_cells.specs.Holes.{touches}
use Rattle.wb_cells.specs.Inside.{IsLaid}
use Rattle.wb_cells.specs.Segments.{Segment, live, free, total, cell_from, row_from, BeginsLive, AreMerged}
use Rattle.wb_cells.proofs.Laying.{total-append, total-whole, row_from-append, top_from-row}
use Rattle.wb_cells.proofs.Changing.{IsCell, next}
use Rattle.wb_cells.proofs.Rounds.{AreNeighbours}
use Rattle.wb_cells.proofs.Rooms.{IsRoom, inserted-between, inserted-first}
use Rattle.wb_cells.proofs.Merging.{IsUp, IsDown, merged_before}
use Rattle.wb_cells.proofs.Giving.{is_up, is_down, without-split}
use Rattle.wb_cells.proofs.Lengths.{length-resized, with_length-split}

-- a free cell before another cell, at whose start a new one is put
pub record IsHoleIn (row : List (Cell (List ℕ))) (place bytes top : ℕ) : Type 0 where
  pub low : List Header
  pub next : Header
  pub high : List Header
  pub is : headers row ≡ low ++ next ∷ high
  pub here : place ≡ top_from 0 low
  pub fits : place + bytes ≤ next.place
  pub under : next.place < top
  pub put : (c : Cell (List ℕ)) → c.head.place ≡ place → headers (inserted c row) ≡ low ++ c.head ∷ next ∷ high

heads-append : (xs ys : List (Cell (List ℕ))) → headers (xs ++ ys) ≡ headers xs ++ headers ys
heads-append xs ys = map-append (λ c. c.head) xs ys

pub hole_in : (xs : List Segment) (place bytes top : ℕ) → AreMerged xs → top ≡ total xs → IsRoom place bytes xs → IsHoleIn (row_from 0 xs) place bytes top
hole_in xs place bytes top merged tops room = go room.back refl room.begins
  where
    low : List Header
    low = headers (row_from 0 room.front)

    following : ℕ
    following = total room.front + (16 + 4 * length room.body)

    rows : row_from 0 xs ≡ row_from 0 room.front ++ row_from following room.back
    rows =
        ap (row_from 0) room.is ∙ row_from-append room.front (free room.body ∷ room.back) 0
        ∙ ap (λ n. row_from 0 room.front ++ row_from (n + (16 + 4 * length room.body)) room.back) (zero-add (total room.front))

    merged_front : AreMerged room.front
    merged_front = merged_before room.front room.body room.back (subst (λ z. AreMerged z) room.is merged)

    here : place ≡ top_from 0 low
    here = room.here ∙ sym (top_from-row room.front 0 merged_front ∙ zero-add (total room.front))

    go : (back : List Segment) → room.back ≡ back → BeginsLive back → IsHoleIn (row_from 0 xs) place bytes top
    go [] e begins = absurd begins
    go (free body ∷ ys) e begins = absurd begins
    go (live kind level number body ∷ ys) e begins =
        let n = total room.front + (16 + 4 * length room.body) in
        let fore = row_from 0 room.front in
        let back = row_from n (live kind level number body ∷ ys) in
        let parts : row_from 0 xs ≡ fore ++ back = rows ∙ ap (λ z. fore ++ row_from n z) e in
        record {
          low = headers fore;
          next = (cell_from n kind level number body).head;
          high = headers (row_from (n + (16 + 4 * length body)) ys);
          is = ap headers parts ∙ heads-append fore back;
          here = here;
          fits = omega (arith, room.fits, room.here);
          under = omega (arith, tops, ap total room.is, total-append room.front (free room.body ∷ room.back), ap total e);
          put = λ c at. ap (λ r. headers (inserted c r)) parts
              ∙ ap headers (inserted-between c room.front 0 back (omega (arith, at, room.here))
              ∙ ap (λ r. fore ++ r) (inserted-first c (live kind level number body ∷ ys) n (omega (arith, at, room.here))))
              ∙ heads-append fore (c ∷ back);
        }

-- a new cell above all others
pub row_above : (xs : List Segment) (c : Cell (List ℕ)) → AreMerged xs → c.head.place ≡ total xs → headers (inserted c (row_from 0 xs)) ≡ headers (row_from 0 xs) ++ c.head ∷ []
row_above xs c merged here =
    ap (λ r. headers (inserted c r)) (sym (append-nil (row_from 0 xs)))
    ∙ ap headers (inserted-between c xs 0 [] (omega (arith, here)))
    ∙ heads-append (row_from 0 xs) (c ∷ [])

-- a cell that others follow, with the free bytes round it
pub record IsInner (row : List (Cell (List ℕ))) (p : Ptr) (start end stop top : ℕ) : Type 0 where
  pub low : List Header
  pub own : Header
  pub next : Header
  pub high : List Header
  pub is : headers row ≡ low ++ own ∷ next ∷ high
  pub gone : headers (without p row) ≡ low ++ next ∷ high
  pub long : (to : ℕ) → to % 16 ≡ 0 → 16 ≤ to → headers (with_length p to row) ≡ low ++ record own { length = to } ∷ next ∷ high
  pub here : start ≡ top_from 0 low
  pub ends : end ≡ end_of own
  pub at : p.place ≡ own.place
  pub stops : stop ≡ next.place
  pub under : stop < top

-- the last cell
pub record IsLast (row : List (Cell (List ℕ))) (p : Ptr) (start end stop top : ℕ) : Type 0 where
  pub low : List Header
  pub own : Header
  pub is : headers row ≡ low ++ own ∷ []
  pub gone : headers (without p row) ≡ low
  pub long : (to : ℕ) → to % 16 ≡ 0 → 16 ≤ to → headers (with_length p to row) ≡ low ++ record own { length = to } ∷ []
  pub here : start ≡ top_from 0 low
  pub ends : end ≡ end_of own
  pub at : p.place ≡ own.place
  pub stops : stop ≡ top

module _ (words : List ℕ) (starts : List Bool) (top first : ℕ) (laid : IsLaid words starts top first) (p : Ptr) (cell : IsCell p words laid.segments laid.spare)
    (prior before after : ℕ) (round : AreNeighbours words p.place cell.front (live cell.kind cell.level p.number cell.body ∷ cell.back) prior before after) where
  abbrev size : ℕ
  size = 16 + 4 * length cell.body

  abbrev end : ℕ
  end = p.place + size

  abbrev start : ℕ
  start = cond (touches words before p.place) before p.place

  abbrev stop : ℕ
  stop = cond (nat_eq after end) (end_at words after) end

  abbrev fore : List (Cell (List ℕ))
  fore = row_from 0 cell.front

  abbrev one : Cell (List ℕ)
  one = cell_from p.place cell.kind cell.level p.number cell.body

  at_end : total cell.front + size ≡ end
  at_end = omega (arith, cell.here)

  rows : row_from 0 laid.segments ≡ fore ++ one ∷ row_from end cell.back
  rows =
      ap (row_from 0) cell.is ∙ row_from-append cell.front (live cell.kind cell.level p.number cell.body ∷ cell.back) 0
      ∙ ap (λ n. fore ++ cell_from n cell.kind cell.level p.number cell.body ∷ row_from (n + size) cell.back) (zero-add (total cell.front) ∙ sym cell.here)

  rows_without : without p (row_from 0 laid.segments) ≡ fore ++ row_from end cell.back
  rows_without =
      ap (λ z. without p (row_from 0 z)) cell.is ∙ without-split p cell.front cell.kind cell.level cell.body cell.back cell.here
      ∙ ap (λ n. fore ++ row_from n cell.back) at_end

  rows_long : (to : ℕ) → to % 16 ≡ 0 → 16 ≤ to → headers (with_length p to (row_from 0 laid.segments)) ≡ headers fore ++ record one.head { length = to } ∷ headers (row_from end cell.back)
  rows_long to rounded least =
      let body' = resized_words to cell.body in
      let long : 16 + 4 * length body' ≡ to = omega (arith, length-resized to cell.body, rounded, least) in
      let last = live cell.kind cell.level p.number body' in
      ap (λ z. headers (with_length p to (row_from 0 z))) cell.is
      ∙ ap headers (with_length-split p to cell.front cell.kind cell.level cell.body cell.back 0 (cell.here ∙ sym (zero-add _)) long)
      ∙ heads-append (row_from 0 (cell.front ++ last ∷ [])) (row_from (0 + total cell.front + size) cell.back)
      ∙ ap (λ r. headers r ++ headers (row_from (0 + total cell.front + size) cell.back)) (row_from-append cell.front (last ∷ []) 0)
      ∙ ap (λ hs. hs ++ headers (row_from (0 + total cell.front + size) cell.back)) (heads-append fore (row_from (0 + total cell.front) (last ∷ [])))
      ∙ ap (λ n. (headers fore ++ record { place = n; length = 16 + 4 * length body'; kind = cell.kind; level = cell.level; number = p.number } ∷ []) ++ headers (row_from (n + size) cell.back))
      (zero-add (total cell.front) ∙ sym cell.here)
      ∙ ap (λ n. (headers fore ++ record { place = p.place; length = n; kind = cell.kind; level = cell.level; number = p.number } ∷ []) ++ headers (row_from end cell.back)) long
      ∙ append_assoc (headers fore) (record one.head { length = to } ∷ []) (headers (row_from end cell.back))

  down : IsDown (next laid.spare cell.front cell.kind cell.level p.number cell.body cell.back) p.place cell.front start (cond (touches words before p.place) prior before)
  down = is_down words starts top first laid p cell prior before after round

  up : IsUp end cell.back stop (cond (nat_eq after end) (slice_index words (after / 16 * 4 + 2)) after)
  up = is_up words starts top first laid p cell prior before after round

  here : start ≡ top_from 0 (headers fore)
  here = down.here ∙ sym (ap (λ r. top_from 0 (headers r)) down.row ∙ top_from-row down.rest 0 down.merged ∙ zero-add (total down.rest))

  tops : top ≡ stop + total up.rest
  tops = laid.ends ∙ ap total cell.is ∙ total-append cell.front (live cell.kind cell.level p.number cell.body ∷ cell.back) ∙ omega (arith, cell.here, up.ends)

  pub start_rounded : start % 16 ≡ 0
  start_rounded = omega (arith, down.here, total-whole down.rest down.whole)

  pub end_rounded : end % 16 ≡ 0
  end_rounded = omega (arith, cell.here, cell.rounded, cell.whole)

  pub start_low : start ≤ p.place
  start_low = omega (arith, down.long)

  pub end_low : end ≤ stop
  end_low = omega (arith, up.long)

  pub stop_low : stop ≤ top
  stop_low = omega (arith, tops)

  pub stands : IsLast (row_from 0 laid.segments) p start end stop top ⊎ IsInner (row_from 0 laid.segments) p start end stop top
  stands = go up.rest refl up.begins
    where
      go : (rest : List Segment) → up.rest ≡ rest → (rest ≡ []) ⊎ BeginsLive rest →
          IsLast (row_from 0 laid.segments) p start end stop top ⊎ IsInner (row_from 0 laid.segments) p start end stop top
      go [] e begins =
          let none : row_from end cell.back ≡ [] = up.row ∙ ap (λ z. row_from stop z) e in
          inl (record {
            low = headers fore;
            own = one.head;
            is = ap headers (rows ∙ ap (λ r. fore ++ one ∷ r) none) ∙ heads-append fore (one ∷ []);
            gone = ap headers (rows_without ∙ ap (λ r. fore ++ r) none ∙ append-nil fore);
            long = λ to rounded least. rows_long to rounded least ∙ ap (λ r. headers fore ++ record one.head { length = to } ∷ headers r) none;
            here = here;
            ends = refl;
            at = refl;
            stops = sym (tops ∙ ap (λ z. stop + total z) e ∙ add-zero stop);
          })
      go (free body ∷ ys) e (inl nil) = absurd cc
      go (free body ∷ ys) e (inr begins) = absurd begins
      go (live kind level number body ∷ ys) e begins =
          let back = row_from stop (live kind level number body ∷ ys) in
          let some : row_from end cell.back ≡ back = up.row ∙ ap (λ z. row_from stop z) e in
          inr (record {
            low = headers fore;
            own = one.head;
            next = (cell_from stop kind level number body).head;
            high = headers (row_from (stop + (16 + 4 * length body)) ys);
            is = ap headers (rows ∙ ap (λ r. fore ++ one ∷ r) some) ∙ heads-append fore (one ∷ back);
            gone = ap headers (rows_without ∙ ap (λ r. fore ++ r) some) ∙ heads-append fore back;
            long = λ to rounded least. rows_long to rounded least ∙ ap (λ r. headers fore ++ record one.head { length = to } ∷ headers r) some;
            here = here;
            ends = refl;
            at = refl;
            stops = refl;
            under = omega (arith, tops, ap total e);
          })
