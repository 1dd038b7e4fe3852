-- Another payload of the same length in one live cell.
use Rattle.std.proofs.Common.{◌≡◌, ◌≢◌, ℕ, suc, ◌+◌, ◌-◌, ◌*◌, ◌/◌, ◌%◌, ◌<◌, ◌≤◌, ◌⊎◌, inl, inr, List, [], ◌∷◌, ◌++◌, length, slice_set, get_or, Bool, true, false, take, drop, replicate, Some, None, is_some, refl, sym, ◌∙◌, ap, subst, arith, add_assoc, add-zero, zero-add, append_assoc, length-append, AllPairs}
use Rattle.std.specs.Prelude.{nat_eq, slice_range}
use Rattle.std.specs.List.{replace_range}
use Rattle.std.proofs.Math.ListN.{set}
use Rattle.std.proofs.lemmas.List.{get_or-append-add, set-append_right, get_or_append_left, set-append_left, map-append, length-drop, length-take-le}
use Rattle.std.proofs.lemmas.Bool.{eq-eqb, ne_eqb, cond-true, false≢true}
use Rattle.wb_heap_model.specs.declared.heap.Ptr.{Ptr}
use Rattle.wb_heap_model.specs.declared.heap.Kind.{Kind}
use Rattle.wb_heap_model.specs.Row.{Cell, headers, cell_at, changed}
use Rattle.wb_heap_model.specs.CellRow.{CellRow, payload_of, content_or_nil, with_payload}
use Rattle.wb_heap_model.specs.Spelling.{spelled}
use Rattle.wb_cells.specs.FreeList.{NO_PLACE}
use Rattle.wb_cells.specs.Inside.{cells_in, IsLaid}
use Rattle.wb_cells.specs.Segments.{Segment, live, free, state_of, total, first_free, words_of, cell_from, row_from, starts_of, AreWhole, BeginsLive, AreMerged}
use Rattle.wb_cells.proofs.Words.{replace_range-inside, slice_range-inside}
use Rattle.wb_cells.proofs.Laying.{total-append, first_free-append, words_of-append, row_from-append, starts_of-append, length-words_of, total-whole, whole_front, whole_back, whole_both, spelled_is, spelled-laid}
use Rattle.wb_cells.proofs.Finding.{IsNamed, named_or, cell_at-split}

begins_swap : (front : List Segment) (kind kind' : Kind) (level level' number number' : ℕ) (body body' : List ℕ) (back : List Segment) →
    BeginsLive (front ++ live kind level number body ∷ back) → BeginsLive (front ++ live kind' level' number' body' ∷ back)
begins_swap [] kind kind' level level' number number' body body' back b = tt
begins_swap (live _ _ _ _ ∷ front) kind kind' level level' number number' body body' back b = tt
begins_swap (free _ ∷ front) kind kind' level level' number number' body body' back b = absurd b

-- one live segment for another
pub merged_swap : (front : List Segment) (kind kind' : Kind) (level level' number number' : ℕ) (body body' : List ℕ) (back : List Segment) →
    AreMerged (front ++ live kind level number body ∷ back) → AreMerged (front ++ live kind' level' number' body' ∷ back)
merged_swap [] kind kind' level level' number number' body body' back m = m
merged_swap (live _ _ _ _ ∷ front) kind kind' level level' number number' body body' back m = merged_swap front kind kind' level level' number number' body body' back m
merged_swap (free _ ∷ front) kind kind' level level' number number' body body' back m =
    (begins_swap front kind kind' level level' number number' body body' back m.0, merged_swap front kind kind' level level' number number' body body' back m.1)

changed-split : (p : Ptr) (front : List Segment) (kind : Kind) (level : ℕ) (body body' : List ℕ) (back : List Segment) (at : ℕ) → p.place ≡ at + total front →
    length body' ≡ length body →
    changed p (λ _. body') (row_from at (front ++ live kind level p.number body ∷ back)) ≡ row_from at (front ++ live kind level p.number body' ∷ back)
changed-split p [] kind level body body' back at here same =
    let place : nat_eq p.place at ≡ true = eq-eqb p.place at (here ∙ add-zero at) in
    let number : nat_eq p.number p.number ≡ true = eq-eqb p.number p.number refl in
    rw (place, number, same)
changed-split p (free body'' ∷ front) kind level body body' back at here same =
    changed-split p front kind level body body' back (at + (16 + 4 * length body'')) (here ∙ sym (add_assoc at (16 + 4 * length body'') (total front))) same
changed-split p (live kind'' level'' number'' body'' ∷ front) kind level body body' back at here same =
    rw (ne_eqb p.place at (λ e. omega (arith, e, here)))
    (ap (λ r. cell_from at kind'' level'' number'' body'' ∷ r)
    (changed-split p front kind level body body' back (at + (16 + 4 * length body'')) (here ∙ sym (add_assoc at (16 + 4 * length body'') (total front))) same))

-- the words before a live cell, its own, and those after it
module _ (spare : List ℕ) (front : List Segment) (kind : Kind) (level number : ℕ) (body : List ℕ) (back : List Segment) where
  abbrev pub past : List ℕ
  past = words_of (total front + (16 + 4 * length body)) back NO_PLACE ++ spare

  abbrev pub next : ℕ
  next = first_free (total front + (16 + 4 * length body)) back NO_PLACE

  pub parted : words_of 0 (front ++ live kind level number body ∷ back) NO_PLACE ++ spare ≡
      words_of 0 front next ++ ((16 + 4 * length body) ∷ state_of kind ∷ level ∷ number ∷ (body ++ past))
  parted =
      let rest = words_of (total front + (16 + 4 * length body)) back NO_PLACE in
      ap (λ ws. ws ++ spare) (rw (zero-add (total front)) at (words_of-append front (live kind level number body ∷ back) 0 NO_PLACE))
      ∙ append_assoc (words_of 0 front next) ((16 + 4 * length body) ∷ state_of kind ∷ level ∷ number ∷ (body ++ rest)) spare
      ∙ ap (λ ws. words_of 0 front next ++ ((16 + 4 * length body) ∷ state_of kind ∷ level ∷ number ∷ ws)) (append_assoc body rest spare)

-- what is known of a pointer that names a cell
pub record IsCell (p : Ptr) (words : List ℕ) (segments : List Segment) (spare : List ℕ) : Type 0 where
  pub front : List Segment
  pub kind : Kind
  pub level : ℕ
  pub body : List ℕ
  pub back : List Segment
  pub is : segments ≡ front ++ live kind level p.number body ∷ back
  pub here : p.place ≡ total front
  pub rounded : total front % 16 ≡ 0
  pub whole : length body % 4 ≡ 0
  pub payload : payload_of p (row_from 0 segments) ≡ body
  pub spelled : words ≡ words_of 0 front (next spare front kind level p.number body back)
      ++ ((16 + 4 * length body) ∷ state_of kind ∷ level ∷ p.number ∷ (body ++ past spare front kind level p.number body back))

pub named_cell : (words : List ℕ) (starts : List Bool) (top first : ℕ) (laid : IsLaid words starts top first) (p : Ptr) →
    cell_at p (row_from 0 laid.segments) ≢ None → IsCell p words laid.segments laid.spare
named_cell words starts top first laid p some = go (named_or p laid.segments 0)
  where
    go : (cell_at p (row_from 0 laid.segments) ≡ None) ⊎ IsNamed p 0 laid.segments → IsCell p words laid.segments laid.spare
    go (inl none) = absurd (some none)
    go (inr s) =
        let w : AreWhole (s.front ++ live s.kind s.level p.number s.body ∷ s.back) = subst (λ ys. AreWhole ys) s.is laid.whole in
        record {
          front = s.front;
          kind = s.kind;
          level = s.level;
          body = s.body;
          back = s.back;
          is = s.is;
          here = s.here ∙ zero-add _;
          rounded = total-whole s.front (whole_front s.front _ w);
          whole = (whole_back s.front (live s.kind s.level p.number s.body ∷ s.back) w).0;
          payload = ap (λ ys. payload_of p (row_from 0 ys)) s.is
              ∙ ap content_or_nil (cell_at-split p s.front s.kind s.level p.number s.body s.back 0 s.here
              ∙ cond-true (nat_eq p.number p.number) (Some (cell_from p.place s.kind s.level p.number s.body)) None (eq-eqb p.number p.number refl));
          spelled = laid.spelled ∙ ap (λ ys. words_of 0 ys NO_PLACE ++ laid.spare) s.is ∙ parted laid.spare s.front s.kind s.level p.number s.body s.back;
        }

pub payload_some : (p : Ptr) (row : List (Cell (List ℕ))) (i : ℕ) → i < length (payload_of p row) → cell_at p row ≢ None
payload_some p row i lt none = let e = ap (λ o. length (content_or_nil o)) none in omega (arith, e, lt)

module _ (p : Ptr) (words : List ℕ) (segments : List Segment) (spare : List ℕ) (cell : IsCell p words segments spare) where
  abbrev pub before : List ℕ
  before = words_of 0 cell.front (next spare cell.front cell.kind cell.level p.number cell.body cell.back)

  abbrev pub after : List ℕ
  after = past spare cell.front cell.kind cell.level p.number cell.body cell.back

  pub length-before : length before ≡ p.place / 16 * 4
  length-before = omega (arith, length-words_of cell.front 0 (next spare cell.front cell.kind cell.level p.number cell.body cell.back), cell.here, cell.rounded)

  pub payload_within : p.place / 16 * 4 + 4 + length cell.body ≤ length words
  payload_within =
      let e : length words ≡ length before + (4 + (length cell.body + length after)) =
      ap length cell.spelled ∙ length-append before _ ∙ ap (λ n. length before + suc (suc (suc (suc n)))) (length-append cell.body after) ∙ omega arith in
      omega (arith, e, length-before)

  pub word_of-payload : (i : ℕ) → i < length cell.body → get_or words (p.place / 16 * 4 + 4 + i) 0 ≡ get_or cell.body i 0
  word_of-payload i lt =
      let index : p.place / 16 * 4 + 4 + i ≡ length before + suc (suc (suc (suc i))) = omega (arith, length-before) in
      rw (index, cell.spelled) (get_or-append-add before _ (suc (suc (suc (suc i)))) 0 ∙ get_or_append_left cell.body after 0 i lt)

  -- the words with another payload of that length
  abbrev pub Holds : List ℕ → List ℕ → Type 0
  Holds words' body' = words' ≡ before ++ ((16 + 4 * length cell.body) ∷ state_of cell.kind ∷ cell.level ∷ p.number ∷ (body' ++ after))

  pub set_holds : (i v : ℕ) → i < length cell.body → Holds (slice_set words (p.place / 16 * 4 + 4 + i) v) (slice_set cell.body i v)
  set_holds i v lt =
      let n = length before in
      let index : p.place / 16 * 4 + 4 + i ≡ n + suc (suc (suc (suc i))) = omega (arith, length-before) in
      let left : n + suc (suc (suc (suc i))) - n ≡ suc (suc (suc (suc i))) = omega arith in
      let rest = (16 + 4 * length cell.body) ∷ state_of cell.kind ∷ cell.level ∷ p.number ∷ (cell.body ++ after) in
      ap (λ j. slice_set words j v) index
      ∙ ap (λ ws. slice_set ws (n + suc (suc (suc (suc i)))) v) cell.spelled
      ∙ set-append_right before rest n (n + suc (suc (suc (suc i)))) v refl (omega arith)
      ∙ ap (λ j. before ++ slice_set rest j v) left
      ∙ ap (λ ws. before ++ ((16 + 4 * length cell.body) ∷ state_of cell.kind ∷ cell.level ∷ p.number ∷ ws)) (set-append_left cell.body after i v lt)

-- a payload changed, and the words' meaning with it
module _ (words : List ℕ) (starts : List Bool) (top first : ℕ) (laid : IsLaid words starts top first) (p : Ptr) (cell : IsCell p words laid.segments laid.spare)
    (words' body' : List ℕ) (same : length body' ≡ length cell.body) (holds : Holds p words laid.segments laid.spare cell words' body') where
  abbrev segments' : List Segment
  segments' = cell.front ++ live cell.kind cell.level p.number body' ∷ cell.back

  abbrev segments : List Segment
  segments = cell.front ++ live cell.kind cell.level p.number cell.body ∷ cell.back

  spelled' : words' ≡ words_of 0 segments' NO_PLACE ++ laid.spare
  spelled' = holds ∙ sym (rw same at (parted laid.spare cell.front cell.kind cell.level p.number body' cell.back))

  total' : total segments' ≡ total segments
  total' = total-append cell.front _ ∙ ap (λ n. total cell.front + (16 + 4 * n + total cell.back)) same ∙ sym (total-append cell.front _)

  first_free' : first_free 0 segments' NO_PLACE ≡ first_free 0 segments NO_PLACE
  first_free' =
      first_free-append cell.front _ 0 NO_PLACE
      ∙ ap (λ n. first_free 0 cell.front (first_free (0 + total cell.front + (16 + 4 * n)) cell.back NO_PLACE)) same
      ∙ sym (first_free-append cell.front _ 0 NO_PLACE)

  starts' : starts_of segments' ≡ starts_of segments
  starts' =
      starts_of-append cell.front _
      ∙ ap (λ n. starts_of cell.front ++ true ∷ (replicate (n / 4) false ++ starts_of cell.back)) same
      ∙ sym (starts_of-append cell.front _)

  headers' : headers (row_from 0 segments') ≡ headers (row_from 0 segments)
  headers' =
      ap headers (row_from-append cell.front _ 0) ∙ map-append (λ c. c.head) (row_from 0 cell.front) _
      ∙ ap (λ n. headers (row_from 0 cell.front) ++ record { place = 0 + total cell.front; length = 16 + 4 * n; kind = cell.kind; level = cell.level; number = p.number }
      ∷ headers (row_from (0 + total cell.front + (16 + 4 * n)) cell.back)) same
      ∙ sym (ap headers (row_from-append cell.front _ 0) ∙ map-append (λ c. c.head) (row_from 0 cell.front) _)

  pub length-changed : length words' ≡ length words
  length-changed =
      ap length holds ∙ length-append _ _ ∙ ap (λ n. length (before p words laid.segments laid.spare cell) + suc (suc (suc (suc n)))) (length-append body' _ ∙ ap (λ n. n + length (after p words laid.segments laid.spare cell)) same ∙ sym (length-append cell.body _))
      ∙ sym (ap length cell.spelled ∙ length-append _ _)

  whole' : AreWhole segments'
  whole' =
      let w : AreWhole segments = subst (λ ys. AreWhole ys) cell.is laid.whole in
      let v = whole_back cell.front (live cell.kind cell.level p.number cell.body ∷ cell.back) w in
      whole_both cell.front (live cell.kind cell.level p.number body' ∷ cell.back) (whole_front cell.front _ w) (rw same v.0, v.1, v.2, v.3)

  pub laid_changed : IsLaid words' starts top first
  laid_changed = record {
    segments = segments';
    spare = laid.spare;
    unset = laid.unset;
    spelled = spelled';
    marked = laid.marked ∙ ap (λ bs. bs ++ replicate laid.unset false) (ap starts_of cell.is ∙ sym starts');
    ends = laid.ends ∙ ap total cell.is ∙ sym total';
    linked = laid.linked ∙ ap (λ ys. first_free 0 ys NO_PLACE) cell.is ∙ sym first_free';
    whole = whole';
    merged = merged_swap cell.front cell.kind cell.kind cell.level cell.level p.number p.number cell.body body' cell.back (subst (λ ys. AreMerged ys) cell.is laid.merged);
    numbered = subst (λ hs. AllPairs (λ g h. g.number ≢ h.number) hs) (sym headers') (subst (λ ys. AllPairs (λ g h. g.number ≢ h.number) (headers (row_from 0 ys))) cell.is laid.numbered);
    covered = rw length-changed laid.covered;
    rounded = rw length-changed laid.rounded;
    bounded = rw length-changed laid.bounded;
  }

  pub spelled-changed : spelled words' top ≡ with_payload p body' (spelled words top)
  spelled-changed =
      spelled_is words' laid.spare segments' top spelled' (laid.ends ∙ ap total cell.is ∙ sym total') whole'
      ∙ sym (changed-split p cell.front cell.kind cell.level cell.body body' cell.back 0 (cell.here ∙ sym (zero-add _)) same)
      ∙ ap (λ ys. with_payload p body' (row_from 0 ys)) (sym cell.is)
      ∙ ap (with_payload p body') (sym (spelled-laid words starts top first laid))

-- what contracts see once a payload was changed
pub view_changed : (words : List ℕ) (starts : List Bool) (top first : ℕ) (laid : IsLaid words starts top first) (p : Ptr) (cell : IsCell p words laid.segments laid.spare)
    (words' : List ℕ) (f : List ℕ → List ℕ) → length (f cell.body) ≡ length cell.body → Holds p words laid.segments laid.spare cell words' (f cell.body) →
    (now : CellRow) → cells_in words top ≡ now → payload_of p now.row ≡ cell.body →
    cells_in words' top ≡ record now { row = with_payload p (f (payload_of p now.row)) now.row }
view_changed words starts top first laid p cell words' f same holds now is payload =
    let row : spelled words' top ≡ with_payload p (f (payload_of p now.row)) now.row =
    spelled-changed words starts top first laid p cell words' (f cell.body) same holds
    ∙ ap (λ v. with_payload p (f cell.body) v.row) is
    ∙ ap (λ b. with_payload p (f b) now.row) (sym payload) in
    let held : 4 * length words' ≡ now.held =
    ap (λ n. 4 * n) (length-changed words starts top first laid p cell words' (f cell.body) same holds) ∙ ap (λ v. v.held) is in
    λ i. record { row = row i; held = held i }

pub record IsValid (p : Ptr) (row : List (Cell (List ℕ))) (words : List ℕ) (segments : List Segment) (spare : List ℕ) : Type 0 where
  pub cell : IsCell p words segments spare
  pub payload : payload_of p row ≡ cell.body

-- a pointer that names a cell
pub valid : (words : List ℕ) (starts : List Bool) (top first : ℕ) (laid : IsLaid words starts top first) (p : Ptr) (row : List (Cell (List ℕ))) →
    spelled words top ≡ row → cell_at p row ≢ None → IsValid p row words laid.segments laid.spare
valid words starts top first laid p row is some =
    let same = sym is ∙ spelled-laid words starts top first laid in
    let cell = named_cell words starts top first laid p (subst (λ r. cell_at p r ≢ None) same some) in
    record { cell = cell; payload = ap (payload_of p) same ∙ cell.payload }

pub record IsReached (p : Ptr) (i : ℕ) (row : List (Cell (List ℕ))) (words : List ℕ) (segments : List Segment) (spare : List ℕ) : Type 0 where
  pub cell : IsCell p words segments spare
  pub within : i < length cell.body
  pub payload : payload_of p row ≡ cell.body

-- an index within a payload
pub reached : (words : List ℕ) (starts : List Bool) (top first : ℕ) (laid : IsLaid words starts top first) (p : Ptr) (i : ℕ) (row : List (Cell (List ℕ))) →
    spelled words top ≡ row → i < length (payload_of p row) → IsReached p i row words laid.segments laid.spare
reached words starts top first laid p i row is lt =
    let v = valid words starts top first laid p row is (payload_some p row i lt) in
    record { cell = v.cell; within = subst (λ b. i < length b) v.payload lt; payload = v.payload }

pub some_cell : (p : Ptr) (row : List (Cell (List ℕ))) → is_some (cell_at p row) ≡ true → cell_at p row ≢ None
some_cell p row some none = false≢true (sym (ap (λ o. is_some o) none) ∙ some)

-- the first words of one payload over those of another
module _ (words : List ℕ) (segments : List Segment) (spare : List ℕ) (p q : Ptr) (source : IsCell p words segments spare) (target : IsCell q words segments spare)
    (n : ℕ) (fits_source : n ≤ length source.body) (fits_target : n ≤ length target.body) where
  abbrev head_of : List ℕ
  head_of = (16 + 4 * length target.body) ∷ state_of target.kind ∷ target.level ∷ q.number ∷ []

  pub slice_copied : slice_range words (p.place / 16 * 4 + 4) (p.place / 16 * 4 + 4 + n) ≡ take n source.body
  slice_copied =
      let head = (16 + 4 * length source.body) ∷ state_of source.kind ∷ source.level ∷ p.number ∷ [] in
      ap (λ ws. slice_range ws (p.place / 16 * 4 + 4) (p.place / 16 * 4 + 4 + n)) source.spelled
      ∙ slice_range-inside (before p words segments spare source) head source.body (after p words segments spare source) (p.place / 16 * 4 + 4) n
      (omega (arith, length-before p words segments spare source)) fits_source

  pub length-copied : length (take n source.body ++ drop n target.body) ≡ length target.body
  length-copied = rw (length-append, length-take-le n source.body fits_source, length-drop) (omega arith)

  pub copy_holds : Holds q words segments spare target
      (replace_range words (q.place / 16 * 4 + 4) (q.place / 16 * 4 + 4 + n) (slice_range words (p.place / 16 * 4 + 4) (p.place / 16 * 4 + 4 + n)))
      (take n source.body ++ drop n target.body)
  copy_holds =
      ap (replace_range words (q.place / 16 * 4 + 4) (q.place / 16 * 4 + 4 + n)) slice_copied
      ∙ ap (λ ws. replace_range ws (q.place / 16 * 4 + 4) (q.place / 16 * 4 + 4 + n) (take n source.body)) target.spelled
      ∙ replace_range-inside (before q words segments spare target) head_of target.body (after q words segments spare target) (take n source.body) (q.place / 16 * 4 + 4) n
      (omega (arith, length-before q words segments spare target)) fits_target
