-- The lengths of the free cells are those of the row: as links have them, and after a grant, a release and a reallocation.
use Rattle.std.proofs.Common.{◌≡◌, ◌≢◌, ℕ, ◌+◌, ◌-◌, ◌*◌, ◌/◌, ◌%◌, ◌<◌, ◌≤◌, ◌⊎◌, inl, inr, List, [], ◌∷◌, ◌++◌, length, slice_index, slice_set, Bool, true, false, cond, Option, Some, None, refl, sym, ◌∙◌, ap, subst, arith, zero-add}
use Rattle.std.specs.Prelude.{nat_eq}
use Rattle.std.proofs.lemmas.Bool.{eq-eqb, ne_eqb, cases_eq, cases_lt}
use Rattle.std.proofs.lemmas.List.{length-set}
use Rattle.wb_heap_model.specs.declared.heap.Header.{Header}
use Rattle.wb_heap_model.specs.declared.heap.Ptr.{Ptr}
use Rattle.wb_heap_model.specs.Row.{Cell, IsSpacedFrom, headers, end_of, inserted, without, place_of, top_from, top_of}
use Rattle.wb_heap_model.specs.CellRow.{IsGap, room_after, with_length}
use Rattle.wb_heap_model.specs.Space.{free_runs, longest}
use Rattle.wb_heap_model.specs.Spelling.{spelled}
use Rattle.wb_cells.specs.declared.free_list.Hole.{Hole}
use Rattle.wb_cells.specs.FreeList.{Gap, Links, end_at}
use Rattle.wb_cells.specs.Holes.{touches, hole_of, hole_past}
use Rattle.wb_cells.specs.Inside.{IsLaid}
use Rattle.wb_cells.specs.Maxima.{IsFirstLong, IsGreatest}
use Rattle.wb_cells.specs.RowGaps.{one_at, gap_from, gap_of, AreSet, AreListed, AreGapsOf, opened_lengths, closed_lengths, found_or}
use Rattle.wb_cells.specs.Segments.{Segment, live, free, cell_from, row_from, AreWhole, AreMerged}
use Rattle.wb_cells.proofs.Laying.{spelled-laid, top_from-row}
use Rattle.wb_cells.proofs.NamedCells.{length_word, found_cell}
use Rattle.wb_cells.proofs.Fitting.{place_from-gaps, longest-gaps, room_at, room_after-gaps}
use Rattle.wb_cells.proofs.Spans.{all_most}
use Rattle.wb_cells.proofs.Changing.{IsCell}
use Rattle.wb_cells.proofs.Rounds.{AreNeighbours}
use Rattle.wb_cells.proofs.Sound.{sound_laid}
use Rattle.wb_cells.proofs.Taking.{room_laid, openable_laid}
use Rattle.wb_cells.proofs.Linking.{gaps_from, links_laid}
use Rattle.wb_cells.proofs.RowGaps.{one_here, one_none, gap-below, gap-above, gap-append, spaced-front, spaced-back, IsMoved, moved_list, IsGone, gone_list, gap-without, gap-length, gap-inserted, gap-without_last, gap-length_last, gap-inserted_last}
use Rattle.wb_cells.proofs.Around.{IsHoleIn, IsInner, IsLast, hole_in, row_above, stands, start_rounded, end_rounded, start_low, end_low, stop_low}

-- words link one list of free cells
pub links_same : (xs ys : List Gap) (words : List ℕ) (at : ℕ) → Links words at xs → Links words at ys → xs ≡ ys
links_same [] [] words at l m = refl
links_same [] (y ∷ ys) words at l m = absurd (omega (arith, l, m.0, m.3))
links_same (x ∷ xs) [] words at l m = absurd (omega (arith, m, l.0, l.3))
links_same (x ∷ xs) (y ∷ ys) words at l m =
    let place : x.place ≡ y.place = sym l.0 ∙ m.0 in
    let long : x.length ≡ y.length = sym l.1 ∙ ap (λ n. slice_index words (n / 16 * 4)) place ∙ m.1 in
    let rest = links_same xs ys words (slice_index words (x.place / 16 * 4 + 2)) l.5 (subst (λ n. Links words (slice_index words (n / 16 * 4 + 2)) ys) (sym place) m.5) in
    λ i. record { place = place i; length = long i } ∷ rest i

-- the free segments are the free cells of the row
gaps-listed : (xs : List Segment) (at k : ℕ) → AreMerged xs → gap_from at (headers (row_from at xs)) k ≡ gap_of (gaps_from at xs) k
gaps-listed [] at k m = refl
gaps-listed (live kind level number body ∷ xs) at k m =
    let none : one_at at (at - at) k ≡ 0 = ap (λ n. one_at at n k) (omega arith) ∙ one_none at k in
    omega (arith, none, gaps-listed xs (at + (16 + 4 * length body)) k m)
gaps-listed (free body ∷ []) at k m = absurd m.0
gaps-listed (free body ∷ free body' ∷ xs) at k m = absurd m.0
gaps-listed (free body ∷ live kind level number body' ∷ xs) at k m =
    let one : one_at at (at + (16 + 4 * length body) - at) k ≡ one_at at (16 + 4 * length body) k = ap (λ n. one_at at n k) (omega arith) in
    omega (arith, one, gaps-listed xs (at + (16 + 4 * length body) + (16 + 4 * length body')) k m.1)

gaps-set : (xs : List Segment) (at : ℕ) → at % 16 ≡ 0 → AreWhole xs → AreSet (gaps_from at xs)
gaps-set [] at r w = tt
gaps-set (live kind level number body ∷ xs) at r w = gaps-set xs (at + (16 + 4 * length body)) (omega (arith, r, w.0)) w.3
gaps-set (free body ∷ xs) at r w = (r, omega arith, gaps-set xs (at + (16 + 4 * length body)) (omega (arith, r, w.0)) w.1)

pub listed_laid : (words : List ℕ) (starts : List Bool) (top first : ℕ) (laid : IsLaid words starts top first) (gaps : List ℕ) → AreGapsOf (spelled words top) gaps →
    (cells : List Gap) → Links words first cells → AreListed cells gaps
listed_laid words starts top first laid gaps are cells links =
    subst (λ z. AreListed z gaps) (links_same (gaps_from 0 laid.segments) cells words first (links_laid words starts top first laid) links) (record {
      set = gaps-set laid.segments 0 refl laid.whole;
      listed = λ k. are k ∙ ap (λ r. gap_from 0 (headers r) k) (spelled-laid words starts top first laid) ∙ gaps-listed laid.segments 0 k laid.merged;
    })

pub length-opened : (lengths : List ℕ) (top place bytes : ℕ) → length (opened_lengths lengths top place bytes) ≡ length lengths
length-opened lengths top place bytes = go (nat_eq place top)
  where
    go : (b : Bool) →
        length (cond b lengths (slice_set (slice_set lengths (place / 16) 0) ((place + bytes) / 16) (slice_index lengths (place / 16) - bytes))) ≡ length lengths
    go true = refl
    go false =
        length-set (slice_set lengths (place / 16) 0) ((place + bytes) / 16) (slice_index lengths (place / 16) - bytes) ∙ length-set lengths (place / 16) 0

pub length-closed : (lengths : List ℕ) (top end : ℕ) (hole : Hole) → length (closed_lengths lengths top end hole) ≡ length lengths
length-closed lengths top end hole = go (nat_eq hole.end top)
  where
    go : (b : Bool) →
        length (cond b (slice_set lengths (hole.start / 16) 0) (slice_set (slice_set lengths (end / 16) 0) (hole.start / 16) (hole.end - hole.start))) ≡ length lengths
    go true = length-set lengths (hole.start / 16) 0
    go false = length-set (slice_set lengths (end / 16) 0) (hole.start / 16) (hole.end - hole.start) ∙ length-set lengths (end / 16) 0

-- a cell was put in where a free one began
pub gaps_opened : (row row' : List (Cell (List ℕ))) (lengths : List ℕ) (c : Cell (List ℕ)) (top place bytes : ℕ) → IsHoleIn row place bytes top →
    row' ≡ inserted c row → c.head.place ≡ place → c.head.length ≡ bytes → place ≢ top → IsSpacedFrom 0 (headers row) → IsSpacedFrom 0 (headers row') →
    place % 16 ≡ 0 → bytes % 16 ≡ 0 → place / 16 < length lengths → (place + bytes) / 16 < length lengths →
    AreGapsOf row lengths → AreGapsOf row' (opened_lengths lengths top place bytes)
gaps_opened row row' lengths c top place bytes hole is here long low s s' r r' inside inside' are k =
    let new : headers row' ≡ hole.low ++ c.head ∷ hole.next ∷ hole.high = ap headers is ∙ hole.put c here in
    let old = subst (IsSpacedFrom 0) hole.is s in
    let now = subst (IsSpacedFrom 0) new s' in
    let front = spaced-front hole.low (hole.next ∷ hole.high) 0 old in
    let back = spaced-back hole.low (hole.next ∷ hole.high) 0 old in
    let moved : IsMoved (gap_from 0 (headers row)) (gap_from 0 (headers row')) place (place + bytes) (hole.next.place - (place + bytes)) =
    rw (hole.is, new, ← here, ← long) (gap-inserted hole.low hole.next hole.high c.head old now (here ∙ hole.here)) in
    let at : 16 * (place / 16) ≡ place = omega (arith, r) in
    let room : slice_index lengths (place / 16) ≡ hole.next.place - place =
    are (place / 16) ∙ ap (λ hs. gap_from 0 hs (place / 16)) hole.is
    ∙ omega (
      arith,
      gap-append hole.low (hole.next ∷ hole.high) 0 (place / 16),
      gap-above hole.low 0 (place / 16) front (omega (arith, at, hole.here)),
      one_here (top_from 0 hole.low) (hole.next.place - top_from 0 hole.low) (place / 16) (at ∙ hole.here),
      gap-below hole.high (end_of hole.next) (place / 16) back.5 (omega (arith, at, hole.here, back.0, back.3)),
      hole.here,
    ) in
    let left : slice_index lengths (place / 16) - bytes ≡ hole.next.place - (place + bytes) = omega (arith, room) in
    rw (ne_eqb place top low, left) (moved_list lengths (gap_from 0 (headers row)) (gap_from 0 (headers row')) place (place + bytes) (hole.next.place - (place + bytes)) r
    (omega (arith, r, r')) inside inside' are moved k)

-- or above all others
pub gaps_raised : (row row' : List (Cell (List ℕ))) (lengths : List ℕ) (c : Cell (List ℕ)) (top place bytes : ℕ) → headers row' ≡ headers row ++ c.head ∷ [] →
    c.head.place ≡ top_from 0 (headers row) → place ≡ top → AreGapsOf row lengths → AreGapsOf row' (opened_lengths lengths top place bytes)
gaps_raised row row' lengths c top place bytes is here same are k =
    rw (eq-eqb place top same) (are k ∙ gap-inserted_last (headers row) c.head here k ∙ ap (λ hs. gap_from 0 hs k) (sym is))

-- a cell was taken out
pub gaps_closed : (row row' : List (Cell (List ℕ))) (lengths : List ℕ) (p : Ptr) (start end stop top : ℕ) (hole : Hole) →
    IsLast row p start end stop top ⊎ IsInner row p start end stop top → hole.start ≡ start → hole.end ≡ stop → row' ≡ without p row →
    IsSpacedFrom 0 (headers row) → start % 16 ≡ 0 → end % 16 ≡ 0 → end ≤ stop → stop ≤ top → start ≤ p.place → top ≤ 16 * length lengths →
    AreGapsOf row lengths → AreGapsOf row' (closed_lengths lengths top end hole)
gaps_closed row row' lengths p start end stop top hole (inl last) begins ends is s r r' ends_low stops_low starts_low under are k =
    let old = subst (IsSpacedFrom 0) last.is s in
    let new : headers row' ≡ last.low = ap headers is ∙ last.gone in
    let gone : IsGone (gap_from 0 (headers row)) (gap_from 0 (headers row')) start = rw (last.is, new, last.here) (gap-without_last last.low last.own old) in
    rw (eq-eqb hole.end top (ends ∙ last.stops), begins) (gone_list lengths (gap_from 0 (headers row)) (gap_from 0 (headers row')) start r are gone k)
gaps_closed row row' lengths p start end stop top hole (inr inner) begins ends is s r r' ends_low stops_low starts_low under are k =
    let old = subst (IsSpacedFrom 0) inner.is s in
    let new : headers row' ≡ inner.low ++ inner.next ∷ inner.high = ap headers is ∙ inner.gone in
    let moved : IsMoved (gap_from 0 (headers row)) (gap_from 0 (headers row')) end start (stop - start) =
    rw (inner.is, new, inner.here, inner.ends, inner.stops) (gap-without inner.low inner.next inner.high inner.own old) in
    rw (ne_eqb hole.end top (λ e. omega (arith, e, ends, inner.under)), begins, ends)
    (moved_list lengths (gap_from 0 (headers row)) (gap_from 0 (headers row')) end start (stop - start) r' r (omega (arith, inner.under, ends_low, under))
    (omega (arith, inner.under, inner.at, inner.ends, starts_low, ends_low, under)) are moved k)

-- a cell got another length
pub gaps_resized : (row row' : List (Cell (List ℕ))) (lengths : List ℕ) (p : Ptr) (start end stop top to : ℕ) (hole : Hole) →
    IsLast row p start end stop top ⊎ IsInner row p start end stop top → hole.start ≡ p.place + to → hole.end ≡ stop → row' ≡ with_length p to row →
    IsSpacedFrom 0 (headers row) → IsSpacedFrom 0 (headers row') → p.place % 16 ≡ 0 → to % 16 ≡ 0 → 16 ≤ to → end % 16 ≡ 0 → end ≤ stop → stop ≤ top → top ≤ 16 * length lengths →
    AreGapsOf row lengths → AreGapsOf row' (closed_lengths lengths top end hole)
gaps_resized row row' lengths p start end stop top to hole (inl last) begins ends is s s' r r' least r'' ends_low stops_low under are k =
    let new : headers row' ≡ last.low ++ record last.own { length = to } ∷ [] = ap headers is ∙ last.long to r' least in
    let now = subst (IsSpacedFrom 0) new s' in
    let gone : IsGone (gap_from 0 (headers row)) (gap_from 0 (headers row')) (p.place + to) =
    rw (last.is, new, last.at) (gap-length_last last.low last.own (record last.own { length = to }) now refl) in
    rw (eq-eqb hole.end top (ends ∙ last.stops), begins) (gone_list lengths (gap_from 0 (headers row)) (gap_from 0 (headers row')) (p.place + to) (omega (arith, r, r')) are gone k)
gaps_resized row row' lengths p start end stop top to hole (inr inner) begins ends is s s' r r' least r'' ends_low stops_low under are k =
    let old = subst (IsSpacedFrom 0) inner.is s in
    let new : headers row' ≡ inner.low ++ record inner.own { length = to } ∷ inner.next ∷ inner.high = ap headers is ∙ inner.long to r' least in
    let now = subst (IsSpacedFrom 0) new s' in
    let back' = spaced-back inner.low (record inner.own { length = to } ∷ inner.next ∷ inner.high) 0 now in
    let moved : IsMoved (gap_from 0 (headers row)) (gap_from 0 (headers row')) end (p.place + to) (stop - (p.place + to)) =
    rw (inner.is, new, inner.at, inner.ends, inner.stops) (gap-length inner.low inner.next inner.high inner.own (record inner.own { length = to }) old now refl) in
    rw (ne_eqb hole.end top (λ e. omega (arith, e, ends, inner.under)), begins, ends)
    (moved_list lengths (gap_from 0 (headers row)) (gap_from 0 (headers row')) end (p.place + to) (stop - (p.place + to)) r'' (omega (arith, r, r'))
    (omega (arith, inner.under, ends_low, under)) (omega (arith, inner.stops, inner.at, inner.under, back'.5.0, under)) are moved k)

-- what the code needs where a cell gets another length
pub record HasBounds (lengths : List ℕ) (top end : ℕ) (hole : Hole) : Type 0 where
  pub end_in : hole.end ≢ top → end / 16 < length lengths
  pub start_in : hole.end ≢ top → hole.start / 16 < length lengths
  pub order : hole.end ≢ top → hole.start ≤ hole.end

-- what it needs and leaves where a cell goes
pub record IsRelisted (lengths : List ℕ) (top end : ℕ) (hole : Hole) (row' : List (Cell (List ℕ))) : Type 0 where
  pub end_in : hole.end ≢ top → end / 16 < length lengths
  pub start_in : hole.end ≢ top → hole.start / 16 < length lengths
  pub order : hole.end ≢ top → hole.start ≤ hole.end
  pub lists : AreGapsOf row' (closed_lengths lengths top end hole)

-- what it needs for a grant
pub record CanOpen (lengths : List ℕ) (place bytes : ℕ) : Type 0 where
  pub start : place / 16 < length lengths
  pub end : (place + bytes) / 16 < length lengths
  pub fits : bytes ≤ slice_index lengths (place / 16)

pub can_open : (row : List (Cell (List ℕ))) (lengths : List ℕ) (top place bytes : ℕ) → IsHoleIn row place bytes top → IsSpacedFrom 0 (headers row) →
    place % 16 ≡ 0 → top ≤ 16 * length lengths → AreGapsOf row lengths → CanOpen lengths place bytes
can_open row lengths top place bytes hole s r inside are =
    let old = subst (IsSpacedFrom 0) hole.is s in
    let front = spaced-front hole.low (hole.next ∷ hole.high) 0 old in
    let at : 16 * (place / 16) ≡ place = omega (arith, r) in
    let room = are (place / 16) ∙ ap (λ hs. gap_from 0 hs (place / 16)) hole.is in
    record {
      start = omega (arith, hole.fits, hole.under, inside);
      end = omega (arith, hole.fits, hole.under, inside);
      fits = omega (
        arith,
        room,
        gap-append hole.low (hole.next ∷ hole.high) 0 (place / 16),
        one_here (top_from 0 hole.low) (hole.next.place - top_from 0 hole.low) (place / 16) (at ∙ hole.here),
        hole.here,
        hole.fits,
      );
    }

module _ (words : List ℕ) (starts : List Bool) (top first : ℕ) (laid : IsLaid words starts top first) (gaps : List ℕ) (room : length words ≤ 4 * length gaps)
    (are : AreGapsOf (spelled words top) gaps) where
  same_row : spelled words top ≡ row_from 0 laid.segments
  same_row = spelled-laid words starts top first laid

  spaced : IsSpacedFrom 0 (headers (row_from 0 laid.segments))
  spaced = subst (λ r. IsSpacedFrom 0 (headers r)) same_row (sound_laid words starts top first laid).row.spaced

  listed : AreGapsOf (row_from 0 laid.segments) gaps
  listed = subst (λ r. AreGapsOf r gaps) same_row are

  tops : top ≡ top_from 0 (headers (row_from 0 laid.segments))
  tops = laid.ends ∙ sym (top_from-row laid.segments 0 laid.merged ∙ zero-add _)

  inside : top ≤ 16 * length gaps
  inside = omega (arith, subst (λ r. top_of (headers r) ≤ 4 * length words) same_row (sound_laid words starts top first laid).within, tops, room)

  -- a grant
  module _ (place bytes : ℕ) (rounded : bytes % 16 ≡ 0) (least : 16 ≤ bytes) (row : List (Cell (List ℕ))) (is : spelled words top ≡ row)
      (gap : IsGap (headers row) place bytes) where
    hole : place ≢ top → IsHoleIn (row_from 0 laid.segments) place bytes top
    hole low = hole_in laid.segments place bytes top laid.merged laid.ends (room_laid words starts top first laid place bytes rounded least row is gap low)

    place_rounded : place ≢ top → place % 16 ≡ 0
    place_rounded low = (openable_laid words starts top first laid place bytes rounded least row is gap low).placed

    pub granted_room : place ≢ top → CanOpen gaps place bytes
    granted_room low = can_open (row_from 0 laid.segments) gaps top place bytes (hole low) spaced (place_rounded low) inside listed

    pub granted : (row' : List (Cell (List ℕ))) (c : Cell (List ℕ)) → row' ≡ inserted c row → c.head.place ≡ place → c.head.length ≡ bytes →
        IsSpacedFrom 0 (headers row') → AreGapsOf row' (opened_lengths gaps top place bytes)
    granted row' c put here long s' = go (cases_eq place top)
      where
        now : row' ≡ inserted c (row_from 0 laid.segments)
        now = put ∙ ap (inserted c) (sym is ∙ same_row)

        go : (place ≡ top) ⊎ (place ≡ top → ⊥) → AreGapsOf row' (opened_lengths gaps top place bytes)
        go (inl same) =
            gaps_raised (row_from 0 laid.segments) row' gaps c top place bytes
            (ap headers now ∙ row_above laid.segments c laid.merged (here ∙ same ∙ laid.ends)) (here ∙ same ∙ tops) same listed
        go (inr low) =
            let can = granted_room low in
            gaps_opened (row_from 0 laid.segments) row' gaps c top place bytes (hole low) now here long low spaced s'
            (place_rounded low) rounded can.start can.end listed

  -- a release, or a reallocation in place
  module _ (p : Ptr) (cell : IsCell p words laid.segments laid.spare) (prior before after : ℕ)
      (round : AreNeighbours words p.place cell.front (live cell.kind cell.level p.number cell.body ∷ cell.back) prior before after) where
    abbrev end : ℕ
    end = p.place + (16 + 4 * length cell.body)

    end_is : end_at words p.place ≡ end
    end_is = ap (λ n. p.place + n) (length_word p words laid.segments laid.spare cell)

    abbrev start : ℕ
    start = cond (touches words before p.place) before p.place

    abbrev stop : ℕ
    stop = cond (nat_eq after end) (end_at words after) end

    around_it : IsLast (row_from 0 laid.segments) p start end stop top ⊎ IsInner (row_from 0 laid.segments) p start end stop top
    around_it = stands words starts top first laid p cell prior before after round

    starts_low : start ≤ p.place
    starts_low = start_low words starts top first laid p cell prior before after round

    ends_low : end ≤ stop
    ends_low = end_low words starts top first laid p cell prior before after round

    stops_low : stop ≤ top
    stops_low = stop_low words starts top first laid p cell prior before after round

    rounded_start : start % 16 ≡ 0
    rounded_start = start_rounded words starts top first laid p cell prior before after round

    rounded_end : end % 16 ≡ 0
    rounded_end = end_rounded words starts top first laid p cell prior before after round

    pub released : (hole : Hole) (to : ℕ) → hole ≡ hole_of words p.place (record { prior = prior; before = before; after = after }) → to ≡ end_at words p.place →
        (row' : List (Cell (List ℕ))) → row' ≡ without p (spelled words top) → IsRelisted gaps top to hole row'
    released hole to is at row' without_it =
        let begins : hole.start ≡ start = ap (λ h. h.start) is in
        let stops : hole.end ≡ stop = ap (λ h. h.end) is ∙ rw end_is refl in
        let to_end : to ≡ end = at ∙ end_is in
        record {
          end_in = λ some. omega (arith, some, stops, to_end, ends_low, stops_low, inside);
          start_in = λ some. omega (arith, some, begins, stops, starts_low, ends_low, stops_low, inside);
          order = λ some. omega (arith, begins, stops, starts_low, ends_low);
          lists = rw to_end (gaps_closed (row_from 0 laid.segments) row' gaps p start end stop top hole around_it begins stops (without_it ∙ ap (without p) same_row) spaced
              rounded_start rounded_end ends_low stops_low starts_low inside listed);
        }

    module _ (hole : Hole) (to : ℕ) (is : hole.end ≡ (hole_past words p.place (record { prior = prior; before = before; after = after })).end)
        (at : to ≡ end_at words p.place) (order : hole.end ≢ top → hole.start ≤ hole.end) where
      past_stop : hole.end ≡ stop
      past_stop = is ∙ rw end_is refl

      past_end : to ≡ end
      past_end = at ∙ end_is

      pub relisted_bounds : HasBounds gaps top to hole
      relisted_bounds = record {
        end_in = λ some. omega (arith, some, past_stop, past_end, ends_low, stops_low, inside);
        start_in = λ some. omega (arith, some, order some, past_stop, stops_low, inside);
        order = order;
      }

      pub relisted : (length_now : ℕ) → hole.start ≡ p.place + length_now → length_now % 16 ≡ 0 → 16 ≤ length_now →
          (row' : List (Cell (List ℕ))) → row' ≡ with_length p length_now (spelled words top) → IsSpacedFrom 0 (headers row') → AreGapsOf row' (closed_lengths gaps top to hole)
      relisted length_now begins rounded least row' long s' =
          rw past_end (gaps_resized (row_from 0 laid.segments) row' gaps p start end stop top length_now hole around_it begins past_stop (long ∙ ap (with_length p length_now) same_row) spaced s'
          (omega (arith, cell.here, cell.rounded)) rounded least rounded_end ends_low stops_low inside listed)

-- what the index finds
module _ (words : List ℕ) (starts : List Bool) (top first : ℕ) (laid : IsLaid words starts top first) (gaps : List ℕ) (are : AreGapsOf (spelled words top) gaps) where
  abbrev all : List Header
  all = headers (spelled words top)

  spaced_all : IsSpacedFrom 0 all
  spaced_all = (sound_laid words starts top first laid).row.spaced

  top_is : top_from 0 all ≡ top
  top_is = ap (λ r. top_from 0 (headers r)) (spelled-laid words starts top first laid) ∙ top_from-row laid.segments 0 laid.merged ∙ zero-add _ ∙ sym laid.ends

  pub first_place : (bytes : ℕ) → 0 < bytes → (found : Option ℕ) → IsFirstLong (slice_index gaps) bytes found → place_of all bytes ≡ found_or found top
  first_place bytes long found is = place_from-gaps all 0 bytes spaced_all refl long found (same found is) ∙ ap (found_or found) top_is
    where
      same : (f : Option ℕ) → IsFirstLong (slice_index gaps) bytes f → IsFirstLong (gap_from 0 all) bytes f
      same None none = λ k. omega (arith, none k, are k)
      same (Some at) some = (omega (arith, some.0, are at), λ k lt. omega (arith, some.1 k lt, are k))

  pub first_within : (bytes at : ℕ) → 0 < bytes → IsFirstLong (slice_index gaps) bytes (Some at) → 16 * at < 4 * length words
  first_within bytes at long is = go (cases_lt (16 * at) top)
    where
      go : (16 * at < top) ⊎ (top ≤ 16 * at) → 16 * at < 4 * length words
      go (inl lt) = omega (arith, lt, (sound_laid words starts top first laid).within, top_is)
      go (inr ge) = absurd (omega (arith, is.0, long, are at, gap-above all 0 at spaced_all (omega (arith, ge, top_is))))

  pub longest_is : (greatest : ℕ) → IsGreatest (slice_index gaps) 0 (length gaps) greatest → greatest ≡ longest (free_runs 0 all (top_of all))
  longest_is greatest is = longest-gaps all gaps greatest spaced_all are (all_most gaps greatest is.most) is.some

  -- the room after a cell
  module _ (p : Ptr) (cell : IsCell p words laid.segments laid.spare) (row : List (Cell (List ℕ))) (is : spelled words top ≡ row) (end : ℕ)
      (ends : end ≡ p.place + slice_index words (p.place / 16 * 4)) where
    room_is : room_after p (headers row) ≡ room_at end top (slice_index gaps (end / 16))
    room_is =
        let head = (cell_from p.place cell.kind cell.level p.number cell.body).head in
        let same : end_of head ≡ end = sym (ends ∙ ap (λ n. p.place + n) (length_word p words laid.segments laid.spare cell)) in
        let at : 16 * (end / 16) ≡ end_of head = omega (arith, same, cell.here, cell.rounded, cell.whole) in
        ap (λ r. room_after p (headers r)) (sym is)
        ∙ room_after-gaps p all 0 (end / 16) head spaced_all (found_cell words starts top first laid p cell) at
        ∙ ap (λ n. room_at n (top_from 0 all) (gap_from 0 all (end / 16))) same
        ∙ ap (λ n. room_at end n (gap_from 0 all (end / 16))) top_is
        ∙ ap (room_at end top) (sym (are (end / 16)))

    pub room_last : end ≡ top → room_after p (headers row) ≡ None
    room_last last = room_is ∙ rw (eq-eqb end top last) refl

    pub room_inner : end ≢ top → room_after p (headers row) ≡ Some (slice_index gaps (end / 16))
    room_inner low = room_is ∙ rw (ne_eqb end top low) refl
