-- What `resize` leaves: the cells round the one that has another length, and the free cell after it.
use Rattle.std.proofs.Common.{◌≡◌, ◌≢◌, ℕ, ◌+◌, ◌-◌, ◌*◌, ◌/◌, ◌%◌, ◌≤◌, ◌⊎◌, inl, inr, List, [], ◌∷◌, ◌++◌, length, slice_set, slice_index, None, Bool, true, false, cond, drop, replicate, refl, sym, ◌∙◌, ap, subst, arith, zero-add, add-zero, append_assoc, length-append}
use Rattle.std.specs.Prelude.{nat_eq}
use Rattle.std.specs.List.{replace_range}
use Rattle.std.proofs.lemmas.List.{append-nil, length-drop, length-replicate, length-set, replicate-append-replicate, set_at}
use Rattle.wb_heap_model.specs.declared.heap.Ptr.{Ptr}
use Rattle.wb_heap_model.specs.Row.{Cell, headers, cell_at}
use Rattle.wb_heap_model.specs.Spelling.{spelled}
use Rattle.wb_heap_model.specs.CellRow.{FitsInPlace, resized_words, with_length}
use Rattle.wb_cells.specs.FreeList.{NO_PLACE, end_at}
use Rattle.wb_cells.specs.Holes.{hole_past, closed_words, closed_ends}
use Rattle.wb_cells.specs.declared.free_list.Hole.{Hole}
use Rattle.wb_cells.specs.declared.free_list.Neighbours.{Neighbours}
use Rattle.wb_cells.specs.Inside.{IsLaid}
use Rattle.wb_cells.specs.Segments.{Segment, live, free, state_of, total, first_free, words_of, row_from, starts_of, AreWhole, BeginsLive, AreMerged}
use Rattle.wb_cells.proofs.Words.{replace_range-inside}
use Rattle.wb_cells.proofs.Laying.{spelled-laid, total-append, first_free-append, words_of-append, starts_of-append, length-starts_of, whole_front, whole_back, whole_both}
use Rattle.wb_cells.proofs.Changing.{IsCell, valid, next, past, before, length-before, payload_within}
use Rattle.wb_cells.proofs.Rounds.{AreNeighbours, Rounds}
use Rattle.wb_cells.proofs.Rooms.{merged_both}
use Rattle.wb_cells.proofs.Merging.{IsUp, last_free-live}
use Rattle.wb_cells.proofs.Giving.{IsHollow, rounds_of, is_up, hole_start}
use Rattle.wb_cells.proofs.Closing.{IsClosed, closed_hole, closed_above}
use Rattle.wb_cells.proofs.NamedCells.{length_word}
use Rattle.wb_cells.proofs.Lengths.{apart-length, length-resized, with_length-split, parted_room, fits_past, fits_below, length-replace_range}

module _ (words : List ℕ) (starts : List Bool) (top first : ℕ) (laid : IsLaid words starts top first) (p : Ptr) (cell : IsCell p words laid.segments laid.spare)
    (prior under above : ℕ) (round : AreNeighbours words p.place cell.front (live cell.kind cell.level p.number cell.body ∷ cell.back) prior under above)
    (to : ℕ) (rounded : to % 16 ≡ 0) (least : 16 ≤ to) (within : p.place + to ≤ 4 * length words) (fits : FitsInPlace p to (headers (row_from 0 laid.segments))) where
  abbrev own : Segment
  own = live cell.kind cell.level p.number cell.body

  abbrev size : ℕ
  size = 16 + 4 * length cell.body

  abbrev end : ℕ
  end = p.place + size

  -- the end of the free segment after it, or its own, and the free one after that
  abbrev last : ℕ
  last = cond (nat_eq above end) (end_at words above) end

  abbrev link : ℕ
  link = cond (nat_eq above end) (slice_index words (above / 16 * 4 + 2)) above

  abbrev link_now : ℕ
  link_now = next laid.spare cell.front cell.kind cell.level p.number cell.body cell.back

  abbrev body' : List ℕ
  body' = resized_words to cell.body

  abbrev one : Segment
  one = live cell.kind cell.level p.number body'

  abbrev low : List Segment
  low = cell.front ++ one ∷ []

  -- words in the new payload, and words that it gains
  abbrev m : ℕ
  m = to / 4 - 4

  abbrev n : ℕ
  n = to / 4 - 4 - length cell.body

  abbrev pub lengthened : List ℕ
  lengthened =
      replace_range (slice_set words (p.place / 16 * 4) to) ((p.place + size) / 16 * 4) ((p.place + size) / 16 * 4 + (to - size) / 16 * 4) (replicate ((to - size) / 16 * 4) 0)

  pub following : IsUp end cell.back last link
  following = is_up words starts top first laid p cell prior under above round

  whole_all : AreWhole (cell.front ++ own ∷ cell.back)
  whole_all = subst (λ z. AreWhole z) cell.is laid.whole

  whole_own : AreWhole (own ∷ cell.back)
  whole_own = whole_back cell.front (own ∷ cell.back) whole_all

  merged_all : AreMerged (cell.front ++ own ∷ cell.back)
  merged_all = subst (λ z. AreMerged z) cell.is laid.merged

  total_all : total laid.segments ≡ end + total cell.back
  total_all = ap total cell.is ∙ total-append cell.front (own ∷ cell.back) ∙ omega (arith, cell.here)

  size' : 16 + 4 * length body' ≡ to
  size' = omega (arith, length-resized to cell.body, rounded, least)

  total_low : p.place + to ≡ total low
  total_low = omega (arith, cell.here, size', total-append cell.front (one ∷ []))

  gained : (to - size) / 16 * 4 ≡ n
  gained = omega (arith, rounded, least, whole_own.0)

  at_end : total cell.front + size ≡ end
  at_end = omega (arith, cell.here)

  past_own : past laid.spare cell.front cell.kind cell.level p.number cell.body cell.back ≡ following.more ++ (words_of last following.rest NO_PLACE ++ laid.spare)
  past_own = rw (at_end, following.spelled) (append_assoc following.more (words_of last following.rest NO_PLACE) laid.spare)

  low_words : (ws : List ℕ) → words_of 0 low link_now ++ ws ≡ words_of 0 cell.front link_now ++ (to ∷ state_of cell.kind ∷ cell.level ∷ p.number ∷ (body' ++ ws))
  low_words ws =
      ap (λ l. l ++ ws) (words_of-append cell.front (one ∷ []) 0 link_now)
      ∙ append_assoc (words_of 0 cell.front link_now) (words_of (0 + total cell.front) (one ∷ []) link_now) ws
      ∙ ap (λ k. words_of 0 cell.front link_now ++ (k ∷ state_of cell.kind ∷ cell.level ∷ p.number ∷ ((body' ++ []) ++ ws))) size'
      ∙ ap (λ b. words_of 0 cell.front link_now ++ (to ∷ state_of cell.kind ∷ cell.level ∷ p.number ∷ (b ++ ws))) (append-nil body')

  abbrev left : List ℕ → List ℕ
  left room = drop m cell.body ++ drop n room

  -- the room past the old payload begins with what is gained, or is past what is lost
  lengthened_is : (room tail : List ℕ) → past laid.spare cell.front cell.kind cell.level p.number cell.body cell.back ≡ room ++ tail → n ≤ length room →
      lengthened ≡ words_of 0 low link_now ++ (left room ++ tail)
  lengthened_is room tail is enough =
      let below = before p words laid.segments laid.spare cell in
      let i = p.place / 16 * 4 in
      let z = (p.place + size) / 16 * 4 in
      let k = (to - size) / 16 * 4 in
      let head = to ∷ state_of cell.kind ∷ cell.level ∷ p.number ∷ cell.body in
      let put : slice_set words i to ≡ below ++ (head ++ (room ++ tail)) =
      ap (λ ws. slice_set ws i to) cell.spelled
      ∙ set_at below size _ to i (length-before p words laid.segments laid.spare cell)
      ∙ ap (λ ws. below ++ (to ∷ state_of cell.kind ∷ cell.level ∷ p.number ∷ (cell.body ++ ws))) is in
      let index : length below + length head ≡ z = omega (arith, length-before p words laid.segments laid.spare cell, cell.here, cell.rounded, whole_own.0) in
      let zeros : replace_range (below ++ (head ++ (room ++ tail))) z (z + n) (replicate n 0) ≡ below ++ (head ++ ((replicate n 0 ++ drop n room) ++ tail)) =
      replace_range-inside below head room tail (replicate n 0) z n index enough in
      let parts : cell.body ++ ((replicate n 0 ++ drop n room) ++ tail) ≡ body' ++ (left room ++ tail) =
      sym (append_assoc cell.body (replicate n 0 ++ drop n room) tail)
      ∙ ap (λ ws. ws ++ tail) (parted_room cell.body room to)
      ∙ append_assoc body' (left room) tail in
      ap (λ ws. replace_range ws z (z + k) (replicate k 0)) put
      ∙ ap (λ j. replace_range (below ++ (head ++ (room ++ tail))) z (z + j) (replicate j 0)) gained
      ∙ zeros
      ∙ ap (λ ws. below ++ (to ∷ state_of cell.kind ∷ cell.level ∷ p.number ∷ ws)) parts
      ∙ sym (low_words (left room ++ tail))

  marked_own : starts ≡ starts_of cell.front ++ (true ∷ (replicate (length cell.body / 4) false ++ (starts_of cell.back ++ replicate laid.unset false)))
  marked_own =
      laid.marked ∙ ap (λ z. starts_of z ++ replicate laid.unset false) cell.is
      ∙ ap (λ bs. bs ++ replicate laid.unset false) (starts_of-append cell.front (own ∷ cell.back))
      ∙ append_assoc (starts_of cell.front) (starts_of (own ∷ cell.back)) (replicate laid.unset false)
      ∙ ap (λ bs. starts_of cell.front ++ (true ∷ bs)) (append_assoc (replicate (length cell.body / 4) false) (starts_of cell.back) (replicate laid.unset false))

  marked_low : (bs : List Bool) → starts_of low ++ bs ≡ starts_of cell.front ++ (true ∷ (replicate (length body' / 4) false ++ bs))
  marked_low bs =
      ap (λ l. l ++ bs) (starts_of-append cell.front (one ∷ []))
      ∙ append_assoc (starts_of cell.front) (starts_of (one ∷ [])) bs
      ∙ ap (λ l. starts_of cell.front ++ (true ∷ (l ++ bs))) (append-nil (replicate (length body' / 4) false))

  -- the bits past a live cell's first are off
  marked_from : (j k : ℕ) (rest : List Bool) → length cell.body / 4 + j ≡ length body' / 4 + k → starts_of cell.back ++ replicate laid.unset false ≡ replicate j false ++ rest →
      starts ≡ starts_of low ++ (replicate k false ++ rest)
  marked_from j k rest same is =
      let run : replicate (length cell.body / 4) false ++ (replicate j false ++ rest) ≡ replicate (length body' / 4) false ++ (replicate k false ++ rest) =
      sym (append_assoc (replicate (length cell.body / 4) false) (replicate j false) rest)
      ∙ ap (λ l. l ++ rest) (replicate-append-replicate (length cell.body / 4) j false ∙ ap (λ q. replicate q false) same ∙ sym (replicate-append-replicate (length body' / 4) k false))
      ∙ append_assoc (replicate (length body' / 4) false) (replicate k false) rest in
      marked_own ∙ ap (λ bs. starts_of cell.front ++ (true ∷ (replicate (length cell.body / 4) false ++ bs))) is
      ∙ ap (λ bs. starts_of cell.front ++ (true ∷ bs)) run
      ∙ sym (marked_low (replicate k false ++ rest))

  row_now : with_length p to (row_from 0 laid.segments) ≡ row_from 0 low ++ row_from last following.rest
  row_now =
      ap (λ z. with_length p to (row_from 0 z)) cell.is
      ∙ with_length-split p to cell.front cell.kind cell.level cell.body cell.back 0 (cell.here ∙ sym (zero-add _)) size'
      ∙ ap (λ q. row_from 0 low ++ row_from q cell.back) (ap (λ q. q + size) (zero-add (total cell.front)) ∙ at_end)
      ∙ ap (λ r. row_from 0 low ++ r) following.row

  -- words and bits round what is left after it
  hollow_from : (high : List Segment) (spare junk : List ℕ) (unset stop link' top' : ℕ) → p.place + to + 4 * length junk ≡ stop → length junk % 4 ≡ 0 →
      lengthened ≡ words_of 0 low link_now ++ (junk ++ (words_of stop high NO_PLACE ++ spare)) → link' ≡ first_free stop high NO_PLACE → top' ≡ stop + total high →
      starts ≡ starts_of low ++ (replicate (length junk / 4) false ++ (starts_of high ++ replicate unset false)) →
      AreWhole high → AreMerged high → (high ≡ []) ⊎ BeginsLive high → row_from last following.rest ≡ row_from stop high →
      IsHollow lengthened starts top' first (with_length p to (row_from 0 laid.segments)) (p.place + to) stop under link'
  hollow_from high spare junk unset stop link' top' long four spelled link_is ends marked whole merged begins row = record {
    low = low;
    high = high;
    spare = spare;
    junk = junk;
    from = link_now;
    unset = unset;
    here = total_low;
    long = long;
    rounded = four;
    spelled = spelled;
    linked = laid.linked ∙ ap (λ z. first_free 0 z NO_PLACE) cell.is ∙ first_free-append cell.front (own ∷ cell.back) 0 NO_PLACE
        ∙ ap (λ q. first_free 0 cell.front (first_free (q + size) cell.back NO_PLACE)) (zero-add (total cell.front))
        ∙ sym (first_free-append cell.front (one ∷ []) 0 link_now);
    last = round.below ∙ sym (last_free-live cell.front cell.kind cell.level p.number body' 0 NO_PLACE);
    link = link_is;
    ends = ends;
    marked = marked;
    whole_low = whole_both cell.front (one ∷ []) (whole_front cell.front (own ∷ cell.back) whole_all) (omega (arith, size', rounded), whole_own.1, whole_own.2, tt);
    whole_high = whole;
    merged_low = merged_both cell.front (own ∷ cell.back) (one ∷ []) (λ b. tt) (λ q. tt) merged_all;
    merged_high = merged;
    closed = λ body ys b q. subst (λ z. AreMerged z) (sym (append_assoc cell.front (one ∷ []) (free body ∷ ys)))
        (merged_both cell.front (own ∷ cell.back) (one ∷ free body ∷ ys) (λ c. tt) (λ c. (b, q)) merged_all);
    begins = begins;
    row = row_now ∙ ap (λ r. row_from 0 low ++ r) row;
    below = omega (arith, total_low, within, laid.bounded);
  }

  -- a live cell follows
  module _ (begins : BeginsLive following.rest) where
    fits_low : p.place + to ≤ last
    fits_low =
        let f = subst (λ z. FitsInPlace p to (headers (row_from 0 z))) (cell.is ∙ sym (append_assoc cell.front (own ∷ []) cell.back)) fits in
        let g = fits_past p to (cell.front ++ own ∷ []) cell.back 0 f in
        let here : 0 + total (cell.front ++ own ∷ []) ≡ end = omega (arith, cell.here, total-append cell.front (own ∷ [])) in
        let h = subst (λ r. FitsInPlace p to (headers r)) (ap (λ q. row_from q cell.back) here ∙ following.row) g in
        fits_below p to last following.rest begins (omega (arith, following.long)) h

    abbrev junk : List ℕ
    junk = left following.more

    count : p.place + to + 4 * length junk ≡ last
    count = omega (arith, length-append (drop m cell.body) (drop n following.more), length-drop m cell.body, length-drop n following.more, following.long, fits_low, size', length-resized to cell.body)

    quarter : length junk % 4 ≡ 0
    quarter = omega (arith, length-append (drop m cell.body) (drop n following.more), length-drop m cell.body, length-drop n following.more, following.rounded, whole_own.0, rounded, least)

    pub hollow_after : IsHollow lengthened starts top first (with_length p to (row_from 0 laid.segments)) (p.place + to) last under link
    hollow_after =
        hollow_from following.rest laid.spare junk laid.unset last link top count quarter
        (lengthened_is following.more (words_of last following.rest NO_PLACE ++ laid.spare) past_own (omega (arith, following.long, fits_low, size', length-resized to cell.body)))
        following.link (laid.ends ∙ total_all ∙ following.ends)
        (marked_from (length following.more / 4) (length junk / 4) (starts_of following.rest ++ replicate laid.unset false)
        (omega (arith, count, following.long, size', whole_own.0, following.rounded, quarter, rounded))
        (ap (λ bs. bs ++ replicate laid.unset false) following.marked ∙ append_assoc (replicate (length following.more / 4) false) (starts_of following.rest) (replicate laid.unset false)))
        following.whole following.merged (inr begins) refl

  -- it is the last
  module _ (none : following.rest ≡ []) where
    abbrev room : List ℕ
    room = following.more ++ laid.spare

    bare : past laid.spare cell.front cell.kind cell.level p.number cell.body cell.back ≡ room ++ []
    bare = past_own ∙ ap (λ z. following.more ++ (words_of last z NO_PLACE ++ laid.spare)) none ∙ sym (append-nil room)

    inside : n ≤ length room
    inside =
        let ws = past laid.spare cell.front cell.kind cell.level p.number cell.body cell.back in
        omega (
          arith,
          ap length cell.spelled,
          length-append (before p words laid.segments laid.spare cell) ((16 + 4 * length cell.body) ∷ state_of cell.kind ∷ cell.level ∷ p.number ∷ (cell.body ++ ws)),
          length-append cell.body ws,
          length-before p words laid.segments laid.spare cell,
          cell.here,
          cell.rounded,
          ap length bare,
          length-append room [],
          within,
          size',
          length-resized to cell.body,
        )

    abbrev unset : ℕ
    unset = length cell.body / 4 + (length following.more / 4 + laid.unset) - length body' / 4

    enough : length body' / 4 ≤ length cell.body / 4 + (length following.more / 4 + laid.unset)
    enough =
        let off = starts_of cell.back ++ replicate laid.unset false in
        let back : length (starts_of cell.back) ≡ length following.more / 4 =
        ap length (following.marked ∙ ap (λ z. replicate (length following.more / 4) false ++ starts_of z) none ∙ append-nil _) ∙ length-replicate _ _ in
        omega (
          arith,
          ap length marked_own,
          length-append (starts_of cell.front) (true ∷ (replicate (length cell.body / 4) false ++ off)),
          length-append (replicate (length cell.body / 4) false) off,
          length-replicate (length cell.body / 4) false,
          length-append (starts_of cell.back) (replicate laid.unset false),
          back,
          length-replicate laid.unset false,
          length-starts_of cell.front (whole_front cell.front (own ∷ cell.back) whole_all),
          cell.here,
          laid.covered,
          within,
          size',
          rounded,
        )

    pub hollow_above : IsHollow lengthened starts (p.place + to) first (with_length p to (row_from 0 laid.segments)) (p.place + to) (p.place + to) under NO_PLACE
    hollow_above =
        hollow_from [] (left room) [] unset (p.place + to) NO_PLACE (p.place + to) (omega arith) refl
        (lengthened_is room [] bare inside ∙ ap (λ ws. words_of 0 low link_now ++ ws) (append-nil (left room)))
        refl (omega arith)
        (marked_from (length following.more / 4 + laid.unset) unset [] (omega (arith, enough))
        (ap (λ bs. bs ++ replicate laid.unset false) (following.marked ∙ ap (λ z. replicate (length following.more / 4) false ++ starts_of z) none ∙ append-nil _)
        ∙ replicate-append-replicate (length following.more / 4) laid.unset false ∙ sym (append-nil _))
        ∙ ap (λ bs. starts_of low ++ bs) (append-nil _))
        tt tt (inl refl) (ap (row_from last) none)

  lowered : following.rest ≡ [] → last ≡ top
  lowered none = sym (laid.ends ∙ total_all ∙ following.ends ∙ ap (λ z. last + total z) none ∙ add-zero last)

  -- the hole as the code finds it, from the new end on
  abbrev hole_now : Hole → Hole
  hole_now q = record { start = p.place + to; end = q.end; before = q.before; next = q.next }

  abbrev found : Hole
  found = record { start = end; end = last; before = under; next = link }

  is_found : (q : Hole) → q ≡ hole_past words p.place (record { prior = prior; before = under; after = above }) → q ≡ found
  is_found q is =
      let at : end_at words p.place ≡ end = ap (λ k. p.place + k) (length_word p words laid.segments laid.spare cell) in
      is ∙ rw at refl

  abbrev pub Shuts : Hole → ℕ → Type 0
  Shuts q count =
      IsClosed (closed_words lengthened top (hole_now q)) starts (closed_ends first top (hole_now q)).top (closed_ends first top (hole_now q)).first
      (with_length p to (row_from 0 laid.segments)) count

  pub shut : (q : Hole) → q ≡ hole_past words p.place (record { prior = prior; before = under; after = above }) → (total : ℕ) → Shuts q total
  unfolding hollow_above hollow_from
  shut q is total = subst (λ r. Shuts r total) (sym (is_found q is)) (go following.begins)
    where
      go : (following.rest ≡ []) ⊎ BeginsLive following.rest → Shuts found total
      go (inl none) = closed_above lengthened starts top first (with_length p to (row_from 0 laid.segments)) total (hole_now found) (hollow_above none) refl (lowered none)
      go (inr begins) = closed_hole lengthened starts top first (with_length p to (row_from 0 laid.segments)) total (hole_now found) (hollow_after begins)

  -- its bounds, where a live cell follows
  pub shut_start : (q : Hole) → q ≡ hole_past words p.place (record { prior = prior; before = under; after = above }) → q.end ≢ top → p.place + to ≢ q.end →
      (p.place + to) / 16 * 4 + 4 ≤ length lengthened
  shut_start q is = let e = is_found q is in subst (λ r. r.end ≢ top → p.place + to ≢ r.end → (p.place + to) / 16 * 4 + 4 ≤ length lengthened) (sym e) (go following.begins)
    where
      go : (following.rest ≡ []) ⊎ BeginsLive following.rest → last ≢ top → p.place + to ≢ last → (p.place + to) / 16 * 4 + 4 ≤ length lengthened
      go (inl none) high = absurd (high (lowered none))
      go (inr begins) high = hole_start _ _ _ _ _ _ _ _ _ (hollow_after begins)

  pub shut_order : (q : Hole) → q ≡ hole_past words p.place (record { prior = prior; before = under; after = above }) → q.end ≢ top → p.place + to ≤ q.end
  shut_order q is = let e = is_found q is in subst (λ r. r.end ≢ top → p.place + to ≤ r.end) (sym e) (go following.begins)
    where
      go : (following.rest ≡ []) ⊎ BeginsLive following.rest → last ≢ top → p.place + to ≤ last
      go (inl none) high = absurd (high (lowered none))
      go (inr begins) high = fits_low begins

  pub zeros_within : (p.place + size) / 16 * 4 + (to - size) / 16 * 4 ≤ length words
  zeros_within = omega (arith, payload_within p words laid.segments laid.spare cell, within, cell.here, cell.rounded, whole_own.0, rounded)

  pub length-lengthened : length lengthened ≡ length words
  length-lengthened =
      let set = slice_set words (p.place / 16 * 4) to in
      length-replace_range set ((p.place + size) / 16 * 4) ((to - size) / 16 * 4) (replicate ((to - size) / 16 * 4) 0) (length-replicate _ _)
      (rw length-set zeros_within) ∙ length-set words (p.place / 16 * 4) to

-- the words once the cell at a place has another length, what it gained being zeros
abbrev pub lengthened_words : List ℕ → ℕ → ℕ → ℕ → List ℕ
lengthened_words words place old to =
    replace_range (slice_set words (place / 16 * 4) to) ((place + old) / 16 * 4) ((place + old) / 16 * 4 + (to - old) / 16 * 4) (replicate ((to - old) / 16 * 4) 0)

-- what the code needs on its way, and what it leaves
pub record IsResized (words : List ℕ) (starts : List Bool) (top first : ℕ) (p : Ptr) (row : List (Cell (List ℕ))) (old to : ℕ) (words' : List ℕ) (hole : Hole) : Type 0 where
  pub zeros : (p.place + old) / 16 * 4 + (to - old) / 16 * 4 ≤ length words
  pub start : hole.end ≢ top → hole.start ≢ hole.end → hole.start / 16 * 4 + 4 ≤ length words'
  pub order : hole.end ≢ top → hole.start ≤ hole.end
  pub count : length words' ≡ length words
  pub laid : length (closed_words words' top hole) ≡ length words → IsLaid (closed_words words' top hole) starts (closed_ends first top hole).top (closed_ends first top hole).first
  pub spells : spelled (closed_words words' top hole) (closed_ends first top hole).top ≡ with_length p to row

pub resized : (words : List ℕ) (starts : List Bool) (top first : ℕ) (laid : IsLaid words starts top first) (p : Ptr) (row : List (Cell (List ℕ))) → spelled words top ≡ row →
    cell_at p row ≢ None → (around : Neighbours) → Rounds words first p.place around.prior around.before around.after → (to : ℕ) → to % 16 ≡ 0 → 16 ≤ to →
    p.place + to ≤ 4 * length words → FitsInPlace p to (headers row) → (old : ℕ) → old ≡ slice_index words (p.place / 16 * 4) →
    (hole : Hole) → hole ≡ hole_past words p.place around →
    IsResized words starts top first p row old to
    (lengthened_words words p.place old to) (record { start = p.place + to; end = hole.end; before = hole.before; next = hole.next })
resized words starts top first laid p row is some around rounds to rounded least within fits old long hole found =
    let same = sym is ∙ spelled-laid words starts top first laid in
    let cell = (valid words starts top first laid p row is some).cell in
    let round = rounds_of words starts top first laid p cell around.prior around.before around.after rounds in
    let low = subst (λ r. FitsInPlace p to (headers r)) same fits in
    let size : 16 + 4 * length cell.body ≡ old = sym (long ∙ length_word p words laid.segments laid.spare cell) in
    let closed = shut words starts top first laid p cell around.prior around.before around.after round to rounded least within low hole found (length words) in
    subst (λ n. IsResized words starts top first p row n to (lengthened_words words p.place n to)
    (record { start = p.place + to; end = hole.end; before = hole.before; next = hole.next })) size (record {
      zeros = zeros_within words starts top first laid p cell around.prior around.before around.after round to rounded least within low;
      start = shut_start words starts top first laid p cell around.prior around.before around.after round to rounded least within low hole found;
      order = shut_order words starts top first laid p cell around.prior around.before around.after round to rounded least within low hole found;
      count = length-lengthened words starts top first laid p cell around.prior around.before around.after round to rounded least within low;
      laid = λ count. closed.laid count (apart-length p to (row_from 0 laid.segments) laid.numbered) laid.covered laid.rounded laid.bounded;
      spells = closed.row ∙ ap (with_length p to) (sym same);
    })
