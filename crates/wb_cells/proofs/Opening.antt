-- Room in a free segment: its first bytes become the hole, and what is left of it stays free.
use Rattle.std.proofs.Common.{◌≡◌, ℕ, suc, ◌+◌, ◌-◌, ◌*◌, ◌/◌, ◌%◌, ◌<◌, ◌≤◌, ◌⊎◌, inl, inr, List, [], ◌∷◌, ◌++◌, length, get_or, slice_index, Bool, true, false, take, drop, replicate, refl, sym, ◌∙◌, ap, subst, arith, zero-add, append_assoc, length-append}
use Rattle.std.specs.Prelude.{nat_eq}
use Rattle.std.specs.List.{replace_range}
use Rattle.std.proofs.lemmas.List.{length-drop, length-take-le, replicate-append-replicate, take-append-drop, get_or_at, get_or-append-add}
use Rattle.std.proofs.lemmas.Bool.{eq-eqb, ne_eqb, cases_lt}
use Rattle.wb_cells.specs.declared.free_list.Ends.{Ends}
use Rattle.wb_cells.specs.FreeList.{NO_PLACE, linked_words, linked_first, next_past, parted_words}
use Rattle.wb_cells.specs.Holes.{IsOpenable, IsOpened}
use Rattle.wb_cells.specs.Inside.{IsLaid}
use Rattle.wb_cells.specs.Segments.{Segment, live, free, total, first_free, last_free, words_of, row_from, starts_of, AreWhole, AreMerged}
use Rattle.wb_cells.proofs.Words.{replace_range-inside}
use Rattle.wb_cells.proofs.Laying.{total-append, first_free-append, words_of-append, row_from-append, starts_of-append, length-words_of, total-whole, whole_front, whole_back}
use Rattle.wb_cells.proofs.Linking.{below_none}
use Rattle.wb_cells.proofs.Hollow.{linked_words-front, linked_first-front}
use Rattle.wb_cells.proofs.Rooms.{IsRoom, merged_both}
use Rattle.wb_cells.proofs.Placing.{IsPlaced}

-- the words before a free segment, its own, and those after it
pub parted_free : (front : List Segment) (body : List ℕ) (back : List Segment) (spare : List ℕ) →
    words_of 0 (front ++ free body ∷ back) NO_PLACE ++ spare ≡
    words_of 0 front (total front) ++ ((16 + 4 * length body) ∷ 0 ∷ first_free (total front + (16 + 4 * length body)) back NO_PLACE ∷ 0
    ∷ (body ++ (words_of (total front + (16 + 4 * length body)) back NO_PLACE ++ spare)))
parted_free front body back spare =
    let next = total front + (16 + 4 * length body) in
    let rest = words_of next back NO_PLACE in
    let link = first_free next back NO_PLACE in
    ap (λ ws. ws ++ spare) (rw (zero-add (total front)) at (words_of-append front (free body ∷ back) 0 NO_PLACE))
    ∙ append_assoc (words_of 0 front (total front)) ((16 + 4 * length body) ∷ 0 ∷ link ∷ 0 ∷ (body ++ rest)) spare
    ∙ ap (λ ws. words_of 0 front (total front) ++ ((16 + 4 * length body) ∷ 0 ∷ link ∷ 0 ∷ ws)) (append_assoc body rest spare)

pub starts_of-free : (body : List ℕ) (back : List Segment) (m : ℕ) → m ≡ suc (length body / 4) → starts_of (free body ∷ back) ≡ replicate m false ++ starts_of back
starts_of-free body back m e = rw e

module _ (words : List ℕ) (starts : List Bool) (top first : ℕ) (laid : IsLaid words starts top first) (place bytes : ℕ) (rounded : bytes % 16 ≡ 0) (least : 16 ≤ bytes)
    (room : IsRoom place bytes laid.segments) where
  abbrev size : ℕ
  size = 16 + 4 * length room.body

  abbrev next : ℕ
  next = total room.front + size

  abbrev link : ℕ
  link = first_free next room.back NO_PLACE

  abbrev below : List ℕ
  below = words_of 0 room.front (total room.front)

  abbrev above : List ℕ
  above = words_of next room.back NO_PLACE ++ laid.spare

  abbrev own : List ℕ
  own = size ∷ 0 ∷ link ∷ 0 ∷ room.body

  whole_all : AreWhole (room.front ++ free room.body ∷ room.back)
  whole_all = subst (λ ys. AreWhole ys) room.is laid.whole

  whole_low : AreWhole room.front
  whole_low = whole_front room.front (free room.body ∷ room.back) whole_all

  whole_high : AreWhole (free room.body ∷ room.back)
  whole_high = whole_back room.front (free room.body ∷ room.back) whole_all

  total_all : total laid.segments ≡ next + total room.back
  total_all = ap total room.is ∙ total-append room.front (free room.body ∷ room.back) ∙ omega arith

  low_below : total room.front < NO_PLACE
  low_below = omega (arith, below_none words starts top first laid, total_all)

  spelled_own : words ≡ below ++ (own ++ above)
  spelled_own = laid.spelled ∙ ap (λ ys. words_of 0 ys NO_PLACE ++ laid.spare) room.is ∙ parted_free room.front room.body room.back laid.spare

  pub placed_rounded : place % 16 ≡ 0
  placed_rounded = rw room.here (total-whole room.front whole_low)

  length-low : length below ≡ place / 16 * 4
  length-low = omega (arith, length-words_of room.front 0 (total room.front), room.here, placed_rounded)

  size_word : slice_index words (place / 16 * 4) ≡ size
  size_word = ap (λ ws. get_or ws (place / 16 * 4) 0) spelled_own ∙ get_or_at below size (0 ∷ link ∷ 0 ∷ (room.body ++ above)) 0 (place / 16 * 4) length-low

  link_word : slice_index words (place / 16 * 4 + 2) ≡ link
  link_word =
      ap (λ ws. get_or ws (place / 16 * 4 + 2) 0) spelled_own ∙ ap (λ n. get_or (below ++ (own ++ above)) (n + 2) 0) (sym length-low)
      ∙ get_or-append-add below (own ++ above) 2 0

  length_words : length words ≡ length below + (4 + length room.body + length above)
  length_words = ap length spelled_own ∙ length-append below (own ++ above) ∙ omega (arith, length-append room.body above)

  pub openable : IsOpenable words place bytes
  openable = record {
    within = record {
      least = rw size_word (omega arith);
      end = rw size_word (omega (arith, length_words, length-low, room.here, placed_rounded));
      bounded = laid.bounded;
    };
    fits = rw size_word room.fits;
    placed = placed_rounded;
    whole = rw size_word (omega (arith, whole_high.0));
  }

  linked_low : first ≡ first_free 0 room.front (total room.front)
  linked_low =
      laid.linked ∙ ap (λ ys. first_free 0 ys NO_PLACE) room.is ∙ first_free-append room.front (free room.body ∷ room.back) 0 NO_PLACE
      ∙ ap (λ n. first_free 0 room.front n) (zero-add (total room.front))

  marked_own : starts ≡ starts_of room.front ++ (starts_of (free room.body ∷ room.back) ++ replicate laid.unset false)
  marked_own =
      laid.marked ∙ ap (λ ys. starts_of ys ++ replicate laid.unset false) room.is
      ∙ ap (λ bs. bs ++ replicate laid.unset false) (starts_of-append room.front (free room.body ∷ room.back))
      ∙ append_assoc (starts_of room.front) (starts_of (free room.body ∷ room.back)) (replicate laid.unset false)

  row_own : row_from 0 laid.segments ≡ row_from 0 room.front ++ row_from next room.back
  row_own = ap (row_from 0) room.is ∙ row_from-append room.front (free room.body ∷ room.back) 0 ∙ ap (λ n. row_from 0 room.front ++ row_from (n + size) room.back) (zero-add (total room.front))

  merged_own : AreMerged (room.front ++ free room.body ∷ room.back)
  merged_own = subst (λ ys. AreMerged ys) room.is laid.merged

  relinked : (ws rest : List ℕ) (to : ℕ) → ws ≡ below ++ rest → linked_words ws (last_free 0 room.front NO_PLACE) to ≡ words_of 0 room.front to ++ rest
  relinked ws rest to is =
      ap (λ l. linked_words l (last_free 0 room.front NO_PLACE) to) is ∙ linked_words-front room.front (total room.front) to rest whole_low low_below

  relinked_first : (to : ℕ) → linked_first first (last_free 0 room.front NO_PLACE) to ≡ first_free 0 room.front to
  relinked_first to = ap (λ f. linked_first f (last_free 0 room.front NO_PLACE) to) linked_low ∙ linked_first-front room.front (total room.front) to whole_low low_below

  -- nothing is left of it
  placed_whole : (words' : List ℕ) (first' : ℕ) → size ≡ bytes →
      words' ≡ linked_words (parted_words words place bytes) (last_free 0 room.front NO_PLACE) (next_past words place bytes) →
      first' ≡ linked_first first (last_free 0 room.front NO_PLACE) (next_past words place bytes) → IsPlaced words' starts top first' place bytes laid.segments
  placed_whole words' first' all written linked =
      let none : nat_eq (slice_index words (place / 16 * 4) - bytes) 0 ≡ true = eq-eqb _ 0 (omega (arith, size_word, all)) in
      let same : parted_words words place bytes ≡ words = rw none refl in
      let past : next_past words place bytes ≡ link = rw none link_word in
      let at : place + bytes ≡ next = omega (arith, room.here, all) in
      record {
        front = room.front;
        back = room.back;
        spare = laid.spare;
        junk = own;
        unset = laid.unset;
        here = room.here;
        long = omega (arith, all);
        spelled = rw at (written ∙ rw (same, past) (relinked words (own ++ above) link spelled_own));
        linked = rw at (linked ∙ rw past (relinked_first link));
        ends = laid.ends ∙ total_all ∙ ap (λ n. n + total room.back) (sym at);
        marked = marked_own ∙ ap (λ bs. starts_of room.front ++ (bs ++ replicate laid.unset false)) (starts_of-free room.body room.back (bytes / 16) (omega (arith, all)))
            ∙ ap (λ bs. starts_of room.front ++ bs) (append_assoc (replicate (bytes / 16) false) (starts_of room.back) (replicate laid.unset false));
        whole_below = whole_low;
        whole_above = whole_high.1;
        merged = λ kind level number body. merged_both room.front (free room.body ∷ room.back) (live kind level number body ∷ room.back) (λ b. absurd b) (λ m. m.1) merged_own;
        row = rw at row_own;
      }

  -- what is left of it is a free segment
  placed_part : (words' : List ℕ) (first' : ℕ) → bytes < size →
      words' ≡ linked_words (parted_words words place bytes) (last_free 0 room.front NO_PLACE) (next_past words place bytes) →
      first' ≡ linked_first first (last_free 0 room.front NO_PLACE) (next_past words place bytes) → IsPlaced words' starts top first' place bytes laid.segments
  placed_part words' first' less written linked =
      let rest = size - bytes in
      let some : nat_eq (slice_index words (place / 16 * 4) - bytes) 0 ≡ false = ne_eqb _ 0 (λ e. omega (arith, e, size_word, less)) in
      let taken = take (bytes / 4) own in
      let kept = drop (bytes / 4) own in
      let body = drop 4 kept in
      let head = rest ∷ 0 ∷ link ∷ 0 ∷ [] in
      let fits : bytes / 4 ≤ length own = omega (arith, less) in
      let taken_long : length taken ≡ bytes / 4 = length-take-le (bytes / 4) own fits in
      let kept_long : length kept ≡ length own - bytes / 4 = length-drop (bytes / 4) own in
      let body_long : length body ≡ length kept - 4 = length-drop 4 kept in
      let body_size : 16 + 4 * length body ≡ rest = omega (arith, body_long, kept_long, less, rounded, whole_high.0) in
      let index : length below + length taken ≡ (place + bytes) / 16 * 4 = omega (arith, taken_long, length-low, placed_rounded, rounded) in
      let parts : words ≡ below ++ (taken ++ (kept ++ above)) =
      spelled_own ∙ ap (λ ws. below ++ (ws ++ above)) (sym (take-append-drop (bytes / 4) own)) ∙ ap (λ ws. below ++ ws) (append_assoc taken kept above) in
      let part : parted_words words place bytes ≡ below ++ (taken ++ ((head ++ body) ++ above)) =
      rw (some, size_word, link_word)
      (ap (λ ws. replace_range ws ((place + bytes) / 16 * 4) ((place + bytes) / 16 * 4 + 4) head) parts
      ∙ replace_range-inside below taken kept above head ((place + bytes) / 16 * 4) 4 index (omega (arith, kept_long, less, rounded, whole_high.0))) in
      let past : next_past words place bytes ≡ place + bytes = rw some refl in
      let at : place + bytes + (16 + 4 * length body) ≡ next = omega (arith, room.here, body_size, less) in
      let tail : words_of (place + bytes) (free body ∷ room.back) NO_PLACE ++ laid.spare ≡ (head ++ body) ++ above =
      rw (at, body_size) (ap (λ ws. rest ∷ 0 ∷ link ∷ 0 ∷ ws) (append_assoc body (words_of next room.back NO_PLACE) laid.spare)) in
      record {
        front = room.front;
        back = free body ∷ room.back;
        spare = laid.spare;
        junk = taken;
        unset = laid.unset;
        here = room.here;
        long = omega (arith, taken_long, rounded);
        spelled = written ∙ rw past (relinked (parted_words words place bytes) (taken ++ ((head ++ body) ++ above)) (place + bytes) part)
            ∙ ap (λ ws. words_of 0 room.front (place + bytes) ++ (taken ++ ws)) (sym tail);
        linked = linked ∙ rw past (relinked_first (place + bytes));
        ends = laid.ends ∙ total_all ∙ omega (arith, at);
        marked = marked_own
            ∙ ap (λ bs. starts_of room.front ++ (bs ++ replicate laid.unset false))
            (starts_of-free room.body room.back (bytes / 16 + suc (length body / 4)) (omega (arith, body_size, less, rounded, whole_high.0))
            ∙ ap (λ bs. bs ++ starts_of room.back) (sym (replicate-append-replicate (bytes / 16) (suc (length body / 4)) false))
            ∙ append_assoc (replicate (bytes / 16) false) (replicate (suc (length body / 4)) false) (starts_of room.back))
            ∙ ap (λ bs. starts_of room.front ++ bs) (append_assoc (replicate (bytes / 16) false) (starts_of (free body ∷ room.back)) (replicate laid.unset false));
        whole_below = whole_low;
        whole_above = (omega (arith, body_size, less, rounded, whole_high.0), whole_high.1);
        merged = λ kind level number body'. merged_both room.front (free room.body ∷ room.back) (live kind level number body' ∷ free body ∷ room.back) (λ b. absurd b) (λ m. (room.begins, m.1)) merged_own;
        row = row_own ∙ ap (λ n. row_from 0 room.front ++ row_from n room.back) (sym at);
      }

  pub placed_in : (words' : List ℕ) (ends : Ends) → IsOpened words words' first top place bytes (last_free 0 room.front NO_PLACE) ends →
      IsPlaced words' starts ends.top ends.first place bytes laid.segments
  placed_in words' ends opened = go (cases_lt bytes size)
    where
      all : IsPlaced words' starts top (linked_first first (last_free 0 room.front NO_PLACE) (next_past words place bytes)) place bytes laid.segments →
          IsPlaced words' starts ends.top ends.first place bytes laid.segments
      all p = subst (λ e. IsPlaced words' starts e.top e.first place bytes laid.segments) (sym opened.now) p

      go : (bytes < size) ⊎ (size ≤ bytes) → IsPlaced words' starts ends.top ends.first place bytes laid.segments
      go (inl less) = all (placed_part words' _ less opened.written refl)
      go (inr le) = all (placed_whole words' _ (omega (arith, le, room.fits)) opened.written refl)
