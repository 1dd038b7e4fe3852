-- Another level in the header of one live cell.
use Rattle.std.proofs.Common.{◌≡◌, ◌≢◌, ℕ, suc, ◌+◌, ◌-◌, ◌*◌, ◌/◌, ◌<◌, List, [], ◌∷◌, ◌++◌, length, slice_set, get_or, Bool, true, false, cond, map, replicate, refl, sym, ◌∙◌, ap, subst, arith, add_assoc, add-zero, zero-add, AllPairs}
use Rattle.std.specs.Prelude.{nat_eq}
use Rattle.std.proofs.lemmas.List.{set-append_right, get_or-map, length-map}
use Rattle.std.proofs.lemmas.Bool.{eq-eqb, ne_eqb}
use Rattle.wb_heap_model.specs.declared.heap.Header.{Header}
use Rattle.wb_heap_model.specs.declared.heap.Ptr.{Ptr}
use Rattle.wb_heap_model.specs.declared.heap.Kind.{Kind}
use Rattle.wb_heap_model.specs.Row.{Cell, headers, is_at}
use Rattle.wb_heap_model.specs.CellRow.{CellRow, with_level}
use Rattle.wb_heap_model.specs.Spelling.{spelled}
use Rattle.wb_cells.specs.FreeList.{NO_PLACE}
use Rattle.wb_cells.specs.Inside.{cells_in, IsLaid}
use Rattle.wb_cells.specs.Segments.{Segment, live, free, state_of, total, first_free, words_of, cell_from, row_from, starts_of, AreWhole, AreMerged}
use Rattle.wb_cells.proofs.Laying.{total-append, first_free-append, starts_of-append, whole_front, whole_back, whole_both, spelled_is, spelled-laid}
use Rattle.wb_cells.proofs.Changing.{IsCell, before, after, length-before, parted, merged_swap}

-- no two cells have one number where the numbers are the same ones
pub apart-same : (hs hs' : List Header) → map (λ h. h.number) hs ≡ map (λ h. h.number) hs' →
    AllPairs (λ g h. g.number ≢ h.number) hs → AllPairs (λ g h. g.number ≢ h.number) hs'
apart-same hs hs' same apart i j d lt end =
    let count : length hs ≡ length hs' = sym (length-map hs (λ h. h.number)) ∙ ap length same ∙ length-map hs' (λ h. h.number) in
    let inside : j < length hs = omega (arith, count, end) in
    let one : (k : ℕ) → k < length hs → (get_or hs k d).number ≡ (get_or hs' k d).number =
    λ k in_hs. sym (get_or-map (λ h. h.number) hs k d 0 in_hs) ∙ ap (λ ns. get_or ns k 0) same ∙ get_or-map (λ h. h.number) hs' k d 0 (omega (arith, count, in_hs)) in
    λ e. apart i j d lt inside (one i (omega (arith, lt, inside)) ∙ e ∙ sym (one j inside))

numbers-level : (p : Ptr) (level : ℕ) (row : List (Cell (List ℕ))) → map (λ h. h.number) (headers row) ≡ map (λ h. h.number) (headers (with_level p level row))
numbers-level p level [] = refl
numbers-level p level (c ∷ cs) = go (is_at p c.head) (numbers-level p level cs)
  where
    go : (b : Bool) → map (λ h. h.number) (headers cs) ≡ map (λ h. h.number) (headers (with_level p level cs)) →
        c.head.number ∷ map (λ h. h.number) (headers cs) ≡
        map (λ h. h.number) (headers (cond b (record c { head = record c.head { level = level } } ∷ cs) (c ∷ with_level p level cs)))
    go true rest = refl
    go false rest = ap (λ ns. c.head.number ∷ ns) rest

with_level-split : (p : Ptr) (front : List Segment) (kind : Kind) (level level' : ℕ) (body : List ℕ) (back : List Segment) (at : ℕ) → p.place ≡ at + total front →
    with_level p level' (row_from at (front ++ live kind level p.number body ∷ back)) ≡ row_from at (front ++ live kind level' p.number body ∷ back)
with_level-split p [] kind level level' body back at here =
    let place : nat_eq p.place at ≡ true = eq-eqb p.place at (here ∙ add-zero at) in
    let number : nat_eq p.number p.number ≡ true = eq-eqb p.number p.number refl in
    rw (place, number)
with_level-split p (free body' ∷ front) kind level level' body back at here =
    with_level-split p front kind level level' body back (at + (16 + 4 * length body')) (here ∙ sym (add_assoc at (16 + 4 * length body') (total front)))
with_level-split p (live kind' level'' number' body' ∷ front) kind level level' body back at here =
    rw (ne_eqb p.place at (λ e. omega (arith, e, here)))
    (ap (λ r. cell_from at kind' level'' number' body' ∷ r)
    (with_level-split p front kind level level' body back (at + (16 + 4 * length body')) (here ∙ sym (add_assoc at (16 + 4 * length body') (total front)))))

-- the level word written, and the words' meaning with it
module _ (words : List ℕ) (starts : List Bool) (top first : ℕ) (laid : IsLaid words starts top first) (p : Ptr) (cell : IsCell p words laid.segments laid.spare) (level : ℕ) where
  abbrev below : List ℕ
  below = before p words laid.segments laid.spare cell

  abbrev above : List ℕ
  above = after p words laid.segments laid.spare cell

  abbrev segments : List Segment
  segments = cell.front ++ live cell.kind cell.level p.number cell.body ∷ cell.back

  abbrev segments' : List Segment
  segments' = cell.front ++ live cell.kind level p.number cell.body ∷ cell.back

  abbrev words' : List ℕ
  words' = slice_set words (p.place / 16 * 4 + 2) level

  holds : words' ≡ below ++ ((16 + 4 * length cell.body) ∷ state_of cell.kind ∷ level ∷ p.number ∷ (cell.body ++ above))
  holds =
      let n = length below in
      let index : p.place / 16 * 4 + 2 ≡ n + suc (suc 0) = omega (arith, length-before p words laid.segments laid.spare cell) in
      let left : n + suc (suc 0) - n ≡ suc (suc 0) = omega arith in
      let rest = (16 + 4 * length cell.body) ∷ state_of cell.kind ∷ cell.level ∷ p.number ∷ (cell.body ++ above) in
      ap (λ j. slice_set words j level) index
      ∙ ap (λ ws. slice_set ws (n + suc (suc 0)) level) cell.spelled
      ∙ set-append_right below rest n (n + suc (suc 0)) level refl (omega arith)
      ∙ ap (λ j. below ++ slice_set rest j level) left

  spelled' : words' ≡ words_of 0 segments' NO_PLACE ++ laid.spare
  spelled' = holds ∙ sym (parted laid.spare cell.front cell.kind level p.number cell.body cell.back)

  total' : total segments' ≡ total segments
  total' = total-append cell.front _ ∙ sym (total-append cell.front _)

  first_free' : first_free 0 segments' NO_PLACE ≡ first_free 0 segments NO_PLACE
  first_free' = first_free-append cell.front _ 0 NO_PLACE ∙ sym (first_free-append cell.front _ 0 NO_PLACE)

  starts' : starts_of segments' ≡ starts_of segments
  starts' = starts_of-append cell.front _ ∙ sym (starts_of-append cell.front _)

  row' : row_from 0 segments' ≡ with_level p level (row_from 0 laid.segments)
  row' =
      sym (ap (λ ys. with_level p level (row_from 0 ys)) cell.is
      ∙ with_level-split p cell.front cell.kind cell.level level cell.body cell.back 0 (cell.here ∙ sym (zero-add _)))

  whole' : AreWhole segments'
  whole' =
      let w : AreWhole segments = subst (λ ys. AreWhole ys) cell.is laid.whole in
      let v = whole_back cell.front (live cell.kind cell.level p.number cell.body ∷ cell.back) w in
      whole_both cell.front (live cell.kind level p.number cell.body ∷ cell.back) (whole_front cell.front _ w) v

  pub laid_level : length words' ≡ length words → IsLaid words' starts top first
  laid_level count = record {
    segments = segments';
    spare = laid.spare;
    unset = laid.unset;
    spelled = spelled';
    marked = laid.marked ∙ ap (λ bs. bs ++ replicate laid.unset false) (ap starts_of cell.is ∙ sym starts');
    ends = laid.ends ∙ ap total cell.is ∙ sym total';
    linked = laid.linked ∙ ap (λ ys. first_free 0 ys NO_PLACE) cell.is ∙ sym first_free';
    whole = whole';
    merged = merged_swap cell.front cell.kind cell.kind cell.level level p.number p.number cell.body cell.body cell.back (subst (λ ys. AreMerged ys) cell.is laid.merged);
    numbered = subst (λ r. AllPairs (λ g h. g.number ≢ h.number) (headers r)) (sym row') (apart-same _ _ (numbers-level p level (row_from 0 laid.segments)) laid.numbered);
    covered = rw count laid.covered;
    rounded = rw count laid.rounded;
    bounded = rw count laid.bounded;
  }

  pub view_level : length words' ≡ length words → (now : CellRow) → cells_in words top ≡ now → cells_in words' top ≡ record now { row = with_level p level now.row }
  view_level count now is =
      let row : spelled words' top ≡ with_level p level now.row =
      spelled_is words' laid.spare segments' top spelled' (laid.ends ∙ ap total cell.is ∙ sym total') whole' ∙ row'
      ∙ ap (with_level p level) (sym (spelled-laid words starts top first laid) ∙ ap (λ v. v.row) is) in
      let held : 4 * length words' ≡ now.held = ap (λ n. 4 * n) count ∙ ap (λ v. v.held) is in
      λ i. record { row = row i; held = held i }
