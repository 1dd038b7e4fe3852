-- A hole of the right length among the segments, and a new cell in it.
use Rattle.std.proofs.Common.{◌≡◌, ◌≢◌, ℕ, suc, ◌+◌, ◌-◌, ◌*◌, ◌/◌, ◌%◌, ◌<◌, ◌≤◌, List, [], ◌∷◌, ◌++◌, length, slice_set, Bool, true, false, take, drop, replicate, refl, sym, ◌∙◌, ap, subst, arith, zero-add, append_assoc, length-append, All, AllPairs}
use Rattle.std.specs.List.{replace_range}
use Rattle.std.proofs.lemmas.List.{append-nil, length-drop, length-take-le, length-replicate, replicate-append-replicate, take-append-drop, length-set, set_at, drop_all}
use Rattle.wb_chunk.specs.declared.TheConstants.{MOST_WORDS}
use Rattle.wb_heap_model.specs.declared.heap.Kind.{Kind}
use Rattle.wb_heap_model.specs.Row.{Cell, headers, inserted}
use Rattle.wb_heap_model.specs.Spelling.{spelled}
use Rattle.wb_heap_model.proofs.Rows.{numbered-inserted}
use Rattle.wb_cells.specs.FreeList.{NO_PLACE}
use Rattle.wb_cells.specs.Inside.{IsLaid}
use Rattle.wb_cells.specs.Segments.{Segment, live, state_of, total, first_free, words_of, cell_from, row_from, starts_of, AreWhole, AreMerged}
use Rattle.wb_cells.proofs.Words.{replace_range-inside}
use Rattle.wb_cells.proofs.Laying.{total-append, first_free-append, row_from-append, starts_of-append, length-words_of, length-starts_of, total-whole, whole_both, spelled_is}
use Rattle.wb_cells.proofs.Changing.{parted}
use Rattle.wb_cells.proofs.Rooms.{merged_both, inserted-between, inserted-first}

-- words and bits with a hole between two lists of segments
pub record IsPlaced (words : List ℕ) (starts : List Bool) (top first place bytes : ℕ) (segments : List Segment) : Type 0 where
  pub front : List Segment
  pub back : List Segment
  pub spare : List ℕ
  pub junk : List ℕ
  pub unset : ℕ
  pub here : place ≡ total front
  pub long : 4 * length junk ≡ bytes
  pub spelled : words ≡ words_of 0 front (first_free (place + bytes) back NO_PLACE) ++ (junk ++ (words_of (place + bytes) back NO_PLACE ++ spare))
  pub linked : first ≡ first_free 0 front (first_free (place + bytes) back NO_PLACE)
  pub ends : top ≡ place + bytes + total back
  pub marked : starts ≡ starts_of front ++ (replicate (bytes / 16) false ++ (starts_of back ++ replicate unset false))
  pub whole_below : AreWhole front
  pub whole_above : AreWhole back
  pub merged : (kind : Kind) (level number : ℕ) (body : List ℕ) → AreMerged (front ++ live kind level number body ∷ back)
  pub row : row_from 0 segments ≡ row_from 0 front ++ row_from (place + bytes) back

-- a new cell of zeros in the hole
module _ (words : List ℕ) (starts : List Bool) (top first place bytes : ℕ) (segments : List Segment) (hole : IsPlaced words starts top first place bytes segments)
    (rounded : bytes % 16 ≡ 0) (least : 16 ≤ bytes) (kind : Kind) (level number : ℕ) where
  abbrev zeros : List ℕ
  zeros = replicate (bytes / 16 * 4 - 4) 0

  abbrev after : List Segment
  after = hole.front ++ live kind level number zeros ∷ hole.back

  abbrev below : List ℕ
  below = words_of 0 hole.front (first_free (place + bytes) hole.back NO_PLACE)

  abbrev above : List ℕ
  above = words_of (place + bytes) hole.back NO_PLACE ++ hole.spare

  abbrev pub written : List ℕ
  written = replace_range
      (replace_range words (place / 16 * 4) (place / 16 * 4 + 4) (bytes ∷ state_of kind ∷ level ∷ number ∷ []))
      (place / 16 * 4 + 4) (place / 16 * 4 + 4 + (bytes / 16 * 4 - 4)) zeros

  size : 16 + 4 * length zeros ≡ bytes
  size = rw length-replicate (omega (arith, rounded, least))

  length-below : length below ≡ place / 16 * 4
  length-below = omega (arith, length-words_of hole.front 0 (first_free (place + bytes) hole.back NO_PLACE), hole.here, total-whole hole.front hole.whole_below)

  pub hole_within : place / 16 * 4 + 4 + (bytes / 16 * 4 - 4) ≤ length words
  hole_within =
      omega (arith, ap length hole.spelled, length-append below (hole.junk ++ above), length-append hole.junk above, length-below, hole.long, rounded, least)

  written_is : written ≡ below ++ (bytes ∷ state_of kind ∷ level ∷ number ∷ (zeros ++ above))
  written_is =
      let i = place / 16 * 4 in
      let head = bytes ∷ state_of kind ∷ level ∷ number ∷ [] in
      let n = bytes / 16 * 4 - 4 in
      let rest : length (drop 4 hole.junk) ≡ n = length-drop 4 hole.junk ∙ omega (arith, hole.long, rounded, least) in
      let first : replace_range words i (i + 4) head ≡ below ++ (head ++ (drop 4 hole.junk ++ above)) =
      ap (λ ws. replace_range ws i (i + 4) head) hole.spelled
      ∙ replace_range-inside below [] hole.junk above head i 4 (omega (arith, length-below)) (omega (arith, hole.long, least)) in
      ap (λ ws. replace_range ws (i + 4) (i + 4 + n) zeros) first
      ∙ replace_range-inside below head (drop 4 hole.junk) above zeros (i + 4) n (omega (arith, length-below)) (omega (arith, rest))
      ∙ ap (λ ws. below ++ (head ++ ((zeros ++ ws) ++ above))) (drop_all n (drop 4 hole.junk) (omega (arith, rest)))
      ∙ ap (λ ws. below ++ (head ++ (ws ++ above))) (append-nil zeros)

  pub written_spells : written ≡ words_of 0 after NO_PLACE ++ hole.spare
  written_spells = written_is ∙ sym (rw (size, ← hole.here) at (parted hole.spare hole.front kind level number zeros hole.back))

  total-after : total after ≡ top
  total-after = total-append hole.front (live kind level number zeros ∷ hole.back) ∙ omega (arith, size, hole.ends, hole.here)

  first-after : first ≡ first_free 0 after NO_PLACE
  first-after = hole.linked ∙ sym (first_free-append hole.front (live kind level number zeros ∷ hole.back) 0 NO_PLACE
      ∙ ap (λ n. first_free 0 hole.front (first_free n hole.back NO_PLACE)) (omega (arith, size, hole.here)))

  starts-after : slice_set starts (place / 16) true ≡ starts_of after ++ replicate hole.unset false
  starts-after =
      let m = length zeros / 4 in
      let rest = starts_of hole.back ++ replicate hole.unset false in
      let one : bytes / 16 ≡ suc m = omega (arith, size) in
      ap (λ bs. slice_set bs (place / 16) true) (hole.marked ∙ ap (λ n. starts_of hole.front ++ (replicate n false ++ rest)) one)
      ∙ set_at (starts_of hole.front) false (replicate m false ++ rest) true (place / 16) (omega (arith, length-starts_of hole.front hole.whole_below, hole.here))
      ∙ sym (ap (λ bs. bs ++ replicate hole.unset false) (starts_of-append hole.front (live kind level number zeros ∷ hole.back))
      ∙ append_assoc (starts_of hole.front) (true ∷ (replicate m false ++ starts_of hole.back)) (replicate hole.unset false)
      ∙ ap (λ bs. starts_of hole.front ++ (true ∷ bs)) (append_assoc (replicate m false) (starts_of hole.back) (replicate hole.unset false)))

  abbrev cell : Cell (List ℕ)
  cell = cell_from place kind level number zeros

  pub row-after : row_from 0 after ≡ inserted cell (row_from 0 segments)
  row-after =
      let above_place : place < place + bytes = omega (arith, least) in
      row_from-append hole.front (live kind level number zeros ∷ hole.back) 0
      ∙ rw (size, ← hole.here, zero-add place) refl
      ∙ sym (ap (inserted cell) hole.row
      ∙ inserted-between cell hole.front 0 (row_from (place + bytes) hole.back) (omega (arith, hole.here))
      ∙ ap (λ r. row_from 0 hole.front ++ r) (inserted-first cell hole.back (place + bytes) above_place))

  pub length-written : length written ≡ length words
  length-written =
      let four = bytes ∷ state_of kind ∷ level ∷ number ∷ [] in
      omega (
        arith,
        ap length written_is,
        ap length hole.spelled,
        length-append below (hole.junk ++ above),
        length-append hole.junk above,
        hole.long,
        size,
        length-append below (bytes ∷ state_of kind ∷ level ∷ number ∷ (zeros ++ above)),
        length-append zeros above,
      )

  whole-after : 1 ≤ number → state_of kind < 65552 → AreWhole after
  whole-after numbered bound =
      whole_both hole.front (live kind level number zeros ∷ hole.back) hole.whole_below (omega (arith, size, rounded), numbered, bound, hole.whole_above)

  pub laid_taken : 1 ≤ number → state_of kind < 65552 → All (λ h. h.number ≢ number) (headers (row_from 0 segments)) →
      AllPairs (λ g h. g.number ≢ h.number) (headers (row_from 0 segments)) →
      length words ≤ 4 * length starts → length words % 4 ≡ 0 → length words ≤ MOST_WORDS → IsLaid written (slice_set starts (place / 16) true) top first
  laid_taken numbered bound unused apart covered four bounded = record {
    segments = after;
    spare = hole.spare;
    unset = hole.unset;
    spelled = written_spells;
    marked = starts-after;
    ends = sym total-after;
    linked = first-after;
    whole = whole-after numbered bound;
    merged = hole.merged kind level number zeros;
    numbered = subst (λ r. AllPairs (λ g h. g.number ≢ h.number) (headers r)) (sym row-after) (numbered-inserted cell (row_from 0 segments) unused apart);
    covered = rw (length-written, length-set) covered;
    rounded = rw length-written four;
    bounded = rw length-written bounded;
  }

  pub spelled-taken : 1 ≤ number → state_of kind < 65552 → spelled written top ≡ inserted cell (row_from 0 segments)
  spelled-taken numbered bound = spelled_is written hole.spare after top written_spells (sym total-after) (whole-after numbered bound) ∙ row-after

-- room above the top
pub placed_above : (words : List ℕ) (starts : List Bool) (top first : ℕ) (laid : IsLaid words starts top first) (bytes : ℕ) → bytes % 16 ≡ 0 →
    top + bytes ≤ 4 * length words → IsPlaced words starts (top + bytes) first top bytes laid.segments
placed_above words starts top first laid bytes rounded within =
    let xs = laid.segments in
    let n = bytes / 4 in
    let count : length words ≡ length (words_of 0 xs NO_PLACE) + length laid.spare = ap length laid.spelled ∙ length-append (words_of 0 xs NO_PLACE) laid.spare in
    let fits : n ≤ length laid.spare = omega (arith, count, length-words_of xs 0 NO_PLACE, laid.ends, within) in
    let bits : bytes / 16 + (laid.unset - bytes / 16) ≡ laid.unset =
    omega (arith, ap length laid.marked, length-append (starts_of xs) (replicate laid.unset false), length-replicate laid.unset false, length-starts_of xs laid.whole, laid.ends, within, laid.covered, rounded) in
    record {
      front = xs;
      back = [];
      spare = drop n laid.spare;
      junk = take n laid.spare;
      unset = laid.unset - bytes / 16;
      here = laid.ends;
      long = rw (length-take-le n laid.spare fits) (omega (arith, rounded));
      spelled = laid.spelled ∙ ap (λ ws. words_of 0 xs NO_PLACE ++ ws) (sym (take-append-drop n laid.spare));
      linked = laid.linked;
      ends = omega arith;
      marked = laid.marked ∙ ap (λ bs. starts_of xs ++ bs) (ap (λ k. replicate k false) (sym bits) ∙ sym (replicate-append-replicate (bytes / 16) (laid.unset - bytes / 16) false));
      whole_below = laid.whole;
      whole_above = tt;
      merged = λ kind level number body. merged_both xs [] (live kind level number body ∷ []) (λ b. absurd b) (λ m. tt) (rw append-nil laid.merged);
      row = sym (append-nil (row_from 0 xs));
    }
