-- A hole that is closed: a free segment, or nothing if no live one follows it.
use Rattle.std.proofs.Common.{◌≡◌, ◌≢◌, ℕ, ◌+◌, ◌-◌, ◌*◌, ◌/◌, ◌%◌, ◌≤◌, ◌⊎◌, inl, inr, List, [], ◌∷◌, ◌++◌, length, Bool, true, false, not, drop, replicate, refl, sym, ◌∙◌, ap, subst, arith, zero-add, append_assoc, AllPairs}
use Rattle.std.specs.Prelude.{nat_eq}
use Rattle.std.specs.List.{replace_range}
use Rattle.std.proofs.lemmas.List.{append-nil, length-drop, replicate-append-replicate}
use Rattle.std.proofs.lemmas.List.Kept.{AllPairs-filter}
use Rattle.std.proofs.lemmas.Bool.{eq-eqb, ne_eqb, cases_eq}
use Rattle.wb_chunk.specs.declared.TheConstants.{MOST_WORDS}
use Rattle.wb_heap_model.specs.declared.heap.Ptr.{Ptr}
use Rattle.wb_heap_model.specs.Row.{Cell, headers, is_at, without}
use Rattle.wb_heap_model.specs.Spelling.{spelled}
use Rattle.wb_heap_model.proofs.Rows.{headers-without}
use Rattle.wb_cells.specs.FreeList.{NO_PLACE, linked_words, linked_first}
use Rattle.wb_cells.specs.declared.free_list.Hole.{Hole}
use Rattle.wb_cells.specs.Holes.{closed_words, closed_ends}
use Rattle.wb_cells.specs.Inside.{IsLaid}
use Rattle.wb_cells.specs.Segments.{Segment, live, free, total, first_free, words_of, row_from, starts_of, AreWhole, BeginsLive}
use Rattle.wb_cells.proofs.Words.{replace_range-inside}
use Rattle.wb_cells.proofs.Laying.{total-append, first_free-append, words_of-append, row_from-append, starts_of-append, length-words_of, total-whole, whole_both, spelled_is}
use Rattle.wb_cells.proofs.Hollow.{linked_words-front, linked_first-front}
use Rattle.wb_cells.proofs.Opening.{parted_free, starts_of-free}
use Rattle.wb_cells.proofs.Rooms.{merged_both}
use Rattle.wb_cells.proofs.Giving.{IsHollow}

empty : (ws : List ℕ) → length ws ≡ 0 → ws ≡ []
empty [] e = refl
empty (w ∷ ws) e = absurd (omega (arith, e))

begins_total : (xs : List Segment) → BeginsLive xs → 16 ≤ total xs
begins_total [] b = absurd b
begins_total (live kind level number body ∷ xs) b = omega arith
begins_total (free body ∷ xs) b = absurd b

-- what a closed hole leaves
pub record IsClosed (words : List ℕ) (bits : List Bool) (top first : ℕ) (cells : List (Cell (List ℕ))) (count : ℕ) : Type 0 where
  pub laid : length words ≡ count → AllPairs (λ g h. g.number ≢ h.number) (headers cells) → count ≤ 4 * length bits → count % 4 ≡ 0 → count ≤ MOST_WORDS →
      IsLaid words bits top first
  pub row : spelled words top ≡ cells

pub numbered-without : (p : Ptr) (row : List (Cell (List ℕ))) → AllPairs (λ g h. g.number ≢ h.number) (headers row) → AllPairs (λ g h. g.number ≢ h.number) (headers (without p row))
numbered-without p row apart =
    subst (λ hs. AllPairs (λ g h. g.number ≢ h.number) hs) (sym (headers-without p row)) (AllPairs-filter (λ g h. g.number ≢ h.number) (λ h. not (is_at p h)) (headers row) apart)

module _ (words : List ℕ) (bits : List Bool) (top first : ℕ) (cells : List (Cell (List ℕ))) (start end before next : ℕ)
    (hole : IsHollow words bits top first cells start end before next) (count : ℕ) where
  relinked : (ws rest : List ℕ) (to : ℕ) → ws ≡ words_of 0 hole.low hole.from ++ rest → linked_words ws before to ≡ words_of 0 hole.low to ++ rest
  relinked ws rest to is = rw (hole.last, is) (linked_words-front hole.low hole.from to rest hole.whole_low hole.below)

  relinked_first : (to : ℕ) → linked_first first before to ≡ first_free 0 hole.low to
  relinked_first to = rw (hole.last, hole.linked) (linked_first-front hole.low hole.from to hole.whole_low hole.below)

  -- no live cell follows
  closed_top : hole.high ≡ [] → IsClosed (linked_words words before NO_PLACE) bits start (linked_first first before NO_PLACE) cells count
  closed_top none =
      let words_now : linked_words words before NO_PLACE ≡ words_of 0 hole.low NO_PLACE ++ (hole.junk ++ hole.spare) =
      relinked words (hole.junk ++ (words_of end hole.high NO_PLACE ++ hole.spare)) NO_PLACE hole.spelled
      ∙ ap (λ z. words_of 0 hole.low NO_PLACE ++ (hole.junk ++ (words_of end z NO_PLACE ++ hole.spare))) none in
      let row : row_from 0 hole.low ≡ cells =
      sym (hole.row ∙ ap (λ z. row_from 0 hole.low ++ row_from end z) none ∙ append-nil (row_from 0 hole.low)) in
      record {
        laid = λ same apart covered four bounded. record {
          segments = hole.low;
          spare = hole.junk ++ hole.spare;
          unset = length hole.junk / 4 + hole.unset;
          spelled = words_now;
          marked = hole.marked ∙ ap (λ z. starts_of hole.low ++ (replicate (length hole.junk / 4) false ++ (starts_of z ++ replicate hole.unset false))) none
              ∙ ap (λ bs. starts_of hole.low ++ bs) (replicate-append-replicate (length hole.junk / 4) hole.unset false);
          ends = hole.here;
          linked = relinked_first NO_PLACE;
          whole = hole.whole_low;
          merged = hole.merged_low;
          numbered = subst (λ r. AllPairs (λ g h. g.number ≢ h.number) (headers r)) (sym row) apart;
          covered = rw same covered;
          rounded = rw same four;
          bounded = rw same bounded;
        };
        row = spelled_is (linked_words words before NO_PLACE) (hole.junk ++ hole.spare) hole.low start words_now hole.here hole.whole_low ∙ row;
      }

  -- nothing is left of it
  closed_none : start ≡ end → BeginsLive hole.high → IsClosed (linked_words words before next) bits top (linked_first first before next) cells count
  closed_none same begins =
      let all = hole.low ++ hole.high in
      let bare : hole.junk ≡ [] = empty hole.junk (omega (arith, same, hole.long)) in
      let at : 0 + total hole.low ≡ end = omega (arith, hole.here, same) in
      let words_now : linked_words words before next ≡ words_of 0 all NO_PLACE ++ hole.spare =
      relinked words (hole.junk ++ (words_of end hole.high NO_PLACE ++ hole.spare)) next hole.spelled
      ∙ rw (bare, hole.link) (sym (ap (λ ws. ws ++ hole.spare) (words_of-append hole.low hole.high 0 NO_PLACE ∙ ap (λ n. words_of 0 hole.low (first_free n hole.high NO_PLACE) ++ words_of n hole.high NO_PLACE) at)
      ∙ append_assoc (words_of 0 hole.low (first_free end hole.high NO_PLACE)) (words_of end hole.high NO_PLACE) hole.spare)) in
      let ends : top ≡ total all = hole.ends ∙ sym (total-append hole.low hole.high ∙ omega (arith, at)) in
      let row : row_from 0 all ≡ cells = row_from-append hole.low hole.high 0 ∙ ap (λ n. row_from 0 hole.low ++ row_from n hole.high) at ∙ sym hole.row in
      record {
        laid = λ count_now apart covered four bounded. record {
          segments = all;
          spare = hole.spare;
          unset = hole.unset;
          spelled = words_now;
          marked = hole.marked
              ∙ ap (λ ws. starts_of hole.low ++ (replicate (length ws / 4) false ++ (starts_of hole.high ++ replicate hole.unset false))) bare
              ∙ sym (append_assoc (starts_of hole.low) (starts_of hole.high) (replicate hole.unset false))
              ∙ ap (λ bs. bs ++ replicate hole.unset false) (sym (starts_of-append hole.low hole.high));
          ends = ends;
          linked = relinked_first next ∙ ap (first_free 0 hole.low) (hole.link ∙ ap (λ n. first_free n hole.high NO_PLACE) (sym at)) ∙ sym (first_free-append hole.low hole.high 0 NO_PLACE);
          whole = whole_both hole.low hole.high hole.whole_low hole.whole_high;
          merged = merged_both hole.low (free [] ∷ hole.high) hole.high (λ b. absurd b) (λ m. m.1) (hole.closed [] hole.high begins hole.merged_high);
          numbered = subst (λ r. AllPairs (λ g h. g.number ≢ h.number) (headers r)) (sym row) apart;
          covered = rw count_now covered;
          rounded = rw count_now four;
          bounded = rw count_now bounded;
        };
        row = spelled_is (linked_words words before next) hole.spare all top words_now ends (whole_both hole.low hole.high hole.whole_low hole.whole_high) ∙ row;
      }

  module _ (some : start ≢ end) where
    least : 4 ≤ length hole.junk
    least = omega (arith, hole.long, hole.rounded, some)

    abbrev left : List ℕ
    left = drop 4 hole.junk

    abbrev after : List Segment
    after = hole.low ++ free left ∷ hole.high

    abbrev written : List ℕ
    written = linked_words (replace_range words (start / 16 * 4) (start / 16 * 4 + 4) ((end - start) ∷ 0 ∷ next ∷ 0 ∷ [])) before start

    left_long : 4 + length left ≡ length hole.junk
    left_long = omega (arith, length-drop 4 hole.junk, least)

    size_left : 16 + 4 * length left ≡ end - start
    size_left = omega (arith, left_long, hole.long)

    end_left : total hole.low + (16 + 4 * length left) ≡ end
    end_left = omega (arith, left_long, hole.long, hole.here)

    words_after : written ≡ words_of 0 after NO_PLACE ++ hole.spare
    words_after =
        let rest = words_of end hole.high NO_PLACE ++ hole.spare in
        let head = (end - start) ∷ 0 ∷ next ∷ 0 ∷ [] in
        let index : length (words_of 0 hole.low hole.from) + 0 ≡ start / 16 * 4 = omega (arith, length-words_of hole.low 0 hole.from, hole.here, total-whole hole.low hole.whole_low) in
        let put : replace_range words (start / 16 * 4) (start / 16 * 4 + 4) head ≡ words_of 0 hole.low hole.from ++ ((head ++ left) ++ rest) =
        ap (λ ws. replace_range ws (start / 16 * 4) (start / 16 * 4 + 4) head) hole.spelled
        ∙ replace_range-inside (words_of 0 hole.low hole.from) [] hole.junk rest head (start / 16 * 4) 4 index least in
        relinked (replace_range words (start / 16 * 4) (start / 16 * 4 + 4) head) ((head ++ left) ++ rest) start put
        ∙ sym (parted_free hole.low left hole.high hole.spare ∙ rw (end_left, size_left, ← hole.here, ← hole.link) refl)

    -- a live cell follows
    closed_free : BeginsLive hole.high → IsClosed written bits top (linked_first first before start) cells count
    closed_free begins =
        let ends : top ≡ total after = hole.ends ∙ sym (total-append hole.low (free left ∷ hole.high) ∙ omega (arith, end_left)) in
        let whole : AreWhole after = whole_both hole.low (free left ∷ hole.high) hole.whole_low (omega (arith, left_long, hole.rounded), hole.whole_high) in
        let row : row_from 0 after ≡ cells =
        row_from-append hole.low (free left ∷ hole.high) 0 ∙ ap (λ n. row_from 0 hole.low ++ row_from n hole.high) (omega (arith, end_left)) ∙ sym hole.row in
        record {
          laid = λ same apart covered four bounded. record {
            segments = after;
            spare = hole.spare;
            unset = hole.unset;
            spelled = words_after;
            marked = hole.marked
                ∙ ap (λ bs. starts_of hole.low ++ bs) (sym (append_assoc (replicate (length hole.junk / 4) false) (starts_of hole.high) (replicate hole.unset false))
                ∙ ap (λ bs. bs ++ replicate hole.unset false) (sym (starts_of-free left hole.high (length hole.junk / 4) (omega (arith, left_long)))))
                ∙ sym (append_assoc (starts_of hole.low) (starts_of (free left ∷ hole.high)) (replicate hole.unset false))
                ∙ ap (λ bs. bs ++ replicate hole.unset false) (sym (starts_of-append hole.low (free left ∷ hole.high)));
            ends = ends;
            linked = relinked_first start ∙ ap (first_free 0 hole.low) (hole.here ∙ sym (zero-add _)) ∙ sym (first_free-append hole.low (free left ∷ hole.high) 0 NO_PLACE);
            whole = whole;
            merged = hole.closed left hole.high begins hole.merged_high;
            numbered = subst (λ r. AllPairs (λ g h. g.number ≢ h.number) (headers r)) (sym row) apart;
            covered = rw same covered;
            rounded = rw same four;
            bounded = rw same bounded;
          };
          row = spelled_is written hole.spare after top words_after ends whole ∙ row;
        }

-- the words and ends as the code leaves them
pub closed_hole : (words : List ℕ) (bits : List Bool) (top first : ℕ) (cells : List (Cell (List ℕ))) (count : ℕ) (h : Hole) →
    IsHollow words bits top first cells h.start h.end h.before h.next →
    IsClosed (closed_words words top h) bits (closed_ends first top h).top (closed_ends first top h).first cells count
closed_hole words bits top first cells count h hole = go hole.begins (cases_eq h.start h.end)
  where
    go : (hole.high ≡ []) ⊎ BeginsLive hole.high → (h.start ≡ h.end) ⊎ (h.start ≡ h.end → ⊥) →
        IsClosed (closed_words words top h) bits (closed_ends first top h).top (closed_ends first top h).first cells count
    go (inl none) _ =
        let e : nat_eq h.end top ≡ true = eq-eqb h.end top (omega (arith, hole.ends, ap total none)) in
        rw e (closed_top words bits top first cells h.start h.end h.before h.next hole count none)
    go (inr begins) (inl same) =
        let e : nat_eq h.end top ≡ false = ne_eqb h.end top (λ q. omega (arith, q, hole.ends, begins_total hole.high begins)) in
        let s : nat_eq h.start h.end ≡ true = eq-eqb h.start h.end same in
        rw (e, s) (closed_none words bits top first cells h.start h.end h.before h.next hole count same begins)
    go (inr begins) (inr some) =
        let e : nat_eq h.end top ≡ false = ne_eqb h.end top (λ q. omega (arith, q, hole.ends, begins_total hole.high begins)) in
        let s : nat_eq h.start h.end ≡ false = ne_eqb h.start h.end some in
        rw (e, s) (closed_free words bits top first cells h.start h.end h.before h.next hole count some begins)

-- the same where no live cell follows, whatever the start
pub closed_above : (words : List ℕ) (bits : List Bool) (top first : ℕ) (cells : List (Cell (List ℕ))) (count : ℕ) (h : Hole) →
    (hole : IsHollow words bits h.start first cells h.start h.start h.before NO_PLACE) → hole.high ≡ [] → h.end ≡ top →
    IsClosed (closed_words words top h) bits (closed_ends first top h).top (closed_ends first top h).first cells count
closed_above words bits top first cells count h hole none same =
    let e : nat_eq h.end top ≡ true = eq-eqb h.end top same in
    rw e (closed_top words bits h.start first cells h.start h.start h.before NO_PLACE hole count none)
