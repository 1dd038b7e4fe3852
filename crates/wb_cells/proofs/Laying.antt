-- Segments end to end: their words, rows and bits, and what a split of the list says of them.
use Rattle.std.proofs.Common.{◌≡◌, ℕ, zero, suc, ◌+◌, ◌-◌, ◌*◌, ◌/◌, ◌%◌, ◌^◌, ◌<◌, ◌≤◌, List, [], ◌∷◌, ◌++◌, length, slice_index, Bool, true, false, Some, take, drop, refl, ◌∙◌, ap, arith, add_assoc, add-zero, zero-add, append_assoc, length-append}
use Rattle.std.specs.Prelude.{nat_lt, nat_le, nat_eq}
use Rattle.std.proofs.lemmas.List.{length-replicate, take_at, drop_at}
use Rattle.std.proofs.lemmas.Bool.{lt-ltb, le-leb, le-ltb, ne_eqb}
use Rattle.wb_heap_model.specs.declared.heap.Kind.{Kind}
use Rattle.wb_heap_model.specs.declared.heap.Kind.TheVariants.{Raw, Object, Text, Cleanup}
use Rattle.wb_heap_model.specs.Row.{headers, top_from}
use Rattle.wb_heap_model.specs.Spelling.{kind_of, cell_of, with_cell_if, spelled_from, spelled}
use Rattle.wb_cells.specs.FreeList.{NO_PLACE}
use Rattle.wb_cells.specs.Inside.{IsLaid}
use Rattle.wb_cells.specs.Segments.{Segment, live, free, state_of, total, first_free, words_of, cell_from, row_from, starts_of, AreWhole, AreMerged}

pub total-append : (xs ys : List Segment) → total (xs ++ ys) ≡ total xs + total ys
total-append [] ys = omega arith
total-append (s ∷ xs) ys = omega (arith, total-append xs ys)

pub first_free-append : (xs ys : List Segment) (at last : ℕ) → first_free at (xs ++ ys) last ≡ first_free at xs (first_free (at + total xs) ys last)
first_free-append [] ys at last = rw (add-zero at)
first_free-append (live kind level number body ∷ xs) ys at last =
    rw (add_assoc at (16 + 4 * length body) (total xs)) at (first_free-append xs ys (at + (16 + 4 * length body)) last)
first_free-append (free body ∷ xs) ys at last = refl

pub words_of-append : (xs ys : List Segment) (at last : ℕ) →
    words_of at (xs ++ ys) last ≡ words_of at xs (first_free (at + total xs) ys last) ++ words_of (at + total xs) ys last
words_of-append [] ys at last = rw (add-zero at)
words_of-append (live kind level number body ∷ xs) ys at last =
    let rest = rw (add_assoc at (16 + 4 * length body) (total xs)) at (words_of-append xs ys (at + (16 + 4 * length body)) last) in
    rw (rest, ← append_assoc)
words_of-append (free body ∷ xs) ys at last =
    let rest = rw (add_assoc at (16 + 4 * length body) (total xs)) at (words_of-append xs ys (at + (16 + 4 * length body)) last) in
    let next = rw (add_assoc at (16 + 4 * length body) (total xs)) at (first_free-append xs ys (at + (16 + 4 * length body)) last) in
    rw (rest, next, ← append_assoc)

pub row_from-append : (xs ys : List Segment) (at : ℕ) → row_from at (xs ++ ys) ≡ row_from at xs ++ row_from (at + total xs) ys
row_from-append [] ys at = rw (add-zero at)
row_from-append (live kind level number body ∷ xs) ys at =
    ap (λ r. cell_from at kind level number body ∷ r) (rw (add_assoc at (16 + 4 * length body) (total xs)) at (row_from-append xs ys (at + (16 + 4 * length body))))
row_from-append (free body ∷ xs) ys at = rw (add_assoc at (16 + 4 * length body) (total xs)) at (row_from-append xs ys (at + (16 + 4 * length body)))

pub starts_of-append : (xs ys : List Segment) → starts_of (xs ++ ys) ≡ starts_of xs ++ starts_of ys
starts_of-append [] ys = refl
starts_of-append (live kind level number body ∷ xs) ys = rw (starts_of-append xs ys, ← append_assoc)
starts_of-append (free body ∷ xs) ys = rw (starts_of-append xs ys, ← append_assoc)

pub length-words_of : (xs : List Segment) (at last : ℕ) → 4 * length (words_of at xs last) ≡ total xs
length-words_of [] at last = refl
length-words_of (live kind level number body ∷ xs) at last =
    rw length-append (omega (arith, length-words_of xs (at + (16 + 4 * length body)) last))
length-words_of (free body ∷ xs) at last =
    rw length-append (omega (arith, length-words_of xs (at + (16 + 4 * length body)) last))

pub length-starts_of : (xs : List Segment) → AreWhole xs → 16 * length (starts_of xs) ≡ total xs
length-starts_of [] w = refl
length-starts_of (live kind level number body ∷ xs) w =
    rw (length-append, length-replicate) (omega (arith, length-starts_of xs w.3, w.0))
length-starts_of (free body ∷ xs) w =
    rw (length-append, length-replicate) (omega (arith, length-starts_of xs w.1, w.0))

-- the state word of a kind is read as that kind
pub kind_of-state_of : (kind : Kind) → state_of kind < 65552 → kind_of (state_of kind) ≡ Some kind
kind_of-state_of Raw lt = refl
kind_of-state_of Text lt = refl
kind_of-state_of Cleanup lt = refl
kind_of-state_of (Object class) lt =
    let raw : nat_eq (16 + class) 1 ≡ false = ne_eqb _ _ (λ e. omega (arith, e)) in
    let text : nat_eq (16 + class) 2 ≡ false = ne_eqb _ _ (λ e. omega (arith, e)) in
    let cleanup : nat_eq (16 + class) 3 ≡ false = ne_eqb _ _ (λ e. omega (arith, e)) in
    let least : nat_le 16 (16 + class) ≡ true = le-leb 16 (16 + class) (omega arith) in
    let most : nat_lt (16 + class) (16 + 2 ^ 16) ≡ true = lt-ltb (16 + class) (16 + 2 ^ 16) (omega (arith, lt)) in
    let same : 16 + class - 16 ≡ class = omega arith in
    rw (raw, text, cleanup, least, most, same)

spelled_from-stops : (n at top : ℕ) (ws : List ℕ) → nat_lt at top ≡ false → spelled_from (suc n) top at ws ≡ []
spelled_from-stops n at top ws done = rw (done, spelled_from)

spelled_from-goes : (n at top : ℕ) (ws : List ℕ) → nat_lt at top ≡ true →
    spelled_from (suc n) top at ws ≡ with_cell_if (cell_of at ws) (spelled_from n top (at + slice_index ws 0) (drop (slice_index ws 0 / 4) ws))
spelled_from-goes n at top ws on = rw (on, spelled_from)

-- what follows a segment's words
rest_of : (a b c d : ℕ) (body rest spare : List ℕ) → drop ((16 + 4 * length body) / 4) (a ∷ b ∷ c ∷ d ∷ ((body ++ rest) ++ spare)) ≡ rest ++ spare
rest_of a b c d body rest spare =
    let four : (16 + 4 * length body) / 4 ≡ suc (suc (suc (suc (length body)))) = omega arith in
    rw (four, append_assoc) (drop_at body (rest ++ spare) (length body) refl)

content_of : (body rest spare : List ℕ) → take ((16 + 4 * length body) / 4 - 4) ((body ++ rest) ++ spare) ≡ body
content_of body rest spare =
    let four : (16 + 4 * length body) / 4 - 4 ≡ length body = omega arith in
    rw (four, append_assoc) (take_at body (rest ++ spare) (length body) refl)

-- the words spell the live cells
pub spelled_from-words_of : (xs : List Segment) (n at last top : ℕ) (spare : List ℕ) → length xs ≤ n → top ≡ at + total xs → AreWhole xs →
    spelled_from n top at (words_of at xs last ++ spare) ≡ row_from at xs
spelled_from-words_of [] zero at last top spare le ends whole = refl
spelled_from-words_of [] (suc n) at last top spare le ends whole = spelled_from-stops n at top spare (le-ltb at top (omega arith))
spelled_from-words_of (s ∷ xs) zero at last top spare le ends whole = absurd (omega arith)
spelled_from-words_of (live kind level number body ∷ xs) (suc n) at last top spare le ends whole =
    let next : ℕ = at + (16 + 4 * length body) in
    let rest = words_of next xs last in
    spelled_from-goes n at top ((16 + 4 * length body) ∷ state_of kind ∷ level ∷ number ∷ ((body ++ rest) ++ spare)) (lt-ltb at top (omega arith))
    ∙ rw (kind_of-state_of kind whole.2, content_of body rest spare, rest_of (16 + 4 * length body) (state_of kind) level number body rest spare)
    (ap (λ r. cell_from at kind level number body ∷ r) (spelled_from-words_of xs n next last top spare (omega arith) (omega arith) whole.3))
spelled_from-words_of (free body ∷ xs) (suc n) at last top spare le ends whole =
    let next : ℕ = at + (16 + 4 * length body) in
    let rest = words_of next xs last in
    spelled_from-goes n at top ((16 + 4 * length body) ∷ 0 ∷ first_free next xs last ∷ 0 ∷ ((body ++ rest) ++ spare)) (lt-ltb at top (omega arith))
    ∙ rw (rest_of (16 + 4 * length body) 0 (first_free next xs last) 0 body rest spare)
    (spelled_from-words_of xs n next last top spare (omega arith) (omega arith) whole.1)

length-segments : (xs : List Segment) → length xs ≤ total xs / 16
length-segments [] = omega arith
length-segments (s ∷ xs) = omega (arith, length-segments xs)

pub spelled_is : (words spare : List ℕ) (xs : List Segment) (top : ℕ) → words ≡ words_of 0 xs NO_PLACE ++ spare → top ≡ total xs → AreWhole xs →
    spelled words top ≡ row_from 0 xs
spelled_is words spare xs top is ends whole =
    let enough : length xs ≤ length words =
    omega (arith, length-segments xs, ap length is, length-append (words_of 0 xs NO_PLACE) spare, length-words_of xs 0 NO_PLACE) in
    ap (λ ws. spelled_from (length words) top 0 ws) is ∙ spelled_from-words_of xs (length words) 0 NO_PLACE top spare enough (ends ∙ omega arith) whole

pub spelled-laid : (words : List ℕ) (starts : List Bool) (top first : ℕ) (laid : IsLaid words starts top first) → spelled words top ≡ row_from 0 laid.segments
spelled-laid words starts top first laid = spelled_is words laid.spare laid.segments top laid.spelled laid.ends laid.whole

-- the last live cell ends where the segments do
pub top_from-row : (xs : List Segment) (at : ℕ) → AreMerged xs → top_from at (headers (row_from at xs)) ≡ at + total xs
top_from-row [] at m = omega arith
top_from-row (live kind level number body ∷ xs) at m = top_from-row xs (at + (16 + 4 * length body)) m ∙ omega arith
top_from-row (free body ∷ []) at m = absurd m.0
top_from-row (free body ∷ free body' ∷ xs) at m = absurd m.0
top_from-row (free body ∷ live kind level number body' ∷ xs) at m =
    top_from-row xs (at + (16 + 4 * length body) + (16 + 4 * length body')) m.1 ∙ omega arith

pub whole_front : (xs ys : List Segment) → AreWhole (xs ++ ys) → AreWhole xs
whole_front [] ys w = tt
whole_front (live kind level number body ∷ xs) ys w = (w.0, w.1, w.2, whole_front xs ys w.3)
whole_front (free body ∷ xs) ys w = (w.0, whole_front xs ys w.1)

pub whole_back : (xs ys : List Segment) → AreWhole (xs ++ ys) → AreWhole ys
whole_back [] ys w = w
whole_back (live kind level number body ∷ xs) ys w = whole_back xs ys w.3
whole_back (free body ∷ xs) ys w = whole_back xs ys w.1

pub whole_both : (xs ys : List Segment) → AreWhole xs → AreWhole ys → AreWhole (xs ++ ys)
whole_both [] ys w v = v
whole_both (live kind level number body ∷ xs) ys w v = (w.0, w.1, w.2, whole_both xs ys w.3 v)
whole_both (free body ∷ xs) ys w v = (w.0, whole_both xs ys w.1 v)

-- places are multiples of 16
pub total-whole : (xs : List Segment) → AreWhole xs → total xs % 16 ≡ 0
total-whole xs w = omega (arith, length-starts_of xs w)

-- the words from a segment on
pub words_from : (front xs : List Segment) (last i : ℕ) (spare : List ℕ) → 4 * i ≡ total front →
    drop i (words_of 0 (front ++ xs) last ++ spare) ≡ words_of (total front) xs last ++ spare
words_from front xs last i spare here =
    let next = first_free (0 + total front) xs last in
    let split : words_of 0 (front ++ xs) last ++ spare ≡ words_of 0 front next ++ (words_of (0 + total front) xs last ++ spare) =
    ap (λ ws. ws ++ spare) (words_of-append front xs 0 last) ∙ append_assoc (words_of 0 front next) (words_of (0 + total front) xs last) spare in
    ap (drop i) split
    ∙ drop_at (words_of 0 front next) (words_of (0 + total front) xs last ++ spare) i (omega (arith, length-words_of front 0 next))
    ∙ rw (zero-add (total front))
