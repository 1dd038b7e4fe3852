-- The index stays right where words change that are none of a free cell's, and where there are more of them.
use Rattle.std.proofs.Common.{◌≡◌, ℕ, ◌+◌, ◌-◌, ◌*◌, ◌/◌, ◌%◌, ◌≤◌, List, [], ◌∷◌, ◌++◌, length, slice_set, Bool, true, false, cond, replicate, refl, sym, ◌∙◌, ap, arith, length-append}
use Rattle.std.proofs.lemmas.List.{length-replicate}
use Rattle.wb_chunk.specs.declared.TheConstants.{MOST_WORDS}
use Rattle.wb_heap_model.specs.declared.heap.Ptr.{Ptr}
use Rattle.wb_heap_model.specs.Row.{Cell, headers, end_of, is_at}
use Rattle.wb_heap_model.specs.CellRow.{with_level}
use Rattle.wb_heap_model.specs.Spelling.{spelled}
use Rattle.wb_heap_model.proofs.Rows.{headers-changed}
use Rattle.wb_cells.specs.FreeList.{NO_PLACE}
use Rattle.wb_cells.specs.Inside.{cells_in, IsIndexed}
use Rattle.wb_cells.specs.RowGaps.{one_at, gap_from, AreGapsOf}
use Rattle.wb_cells.proofs.Laying.{spelled_is}
use Rattle.wb_cells.proofs.Growing.{laid_empty, laid_grown, laid_marked, spelled-grown}
use Rattle.wb_cells.proofs.Changing.{IsCell, Holds, length-changed, laid_changed, spelled-changed}
use Rattle.wb_cells.proofs.Levels.{laid_level, view_level}
use Rattle.wb_cells.proofs.Spans.{slice_index-zeros}

-- rows with one list of headers have one list of free cells
pub listed_same : (row row' : List (Cell (List ℕ))) (gaps : List ℕ) → headers row' ≡ headers row → AreGapsOf row gaps → AreGapsOf row' gaps
listed_same row row' gaps same are k = are k ∙ ap (λ hs. gap_from 0 hs k) (sym same)

-- a payload changed
pub indexed_changed : (words : List ℕ) (starts : List Bool) (gaps : List ℕ) (top first : ℕ) (is : IsIndexed words starts gaps top first) (p : Ptr)
    (cell : IsCell p words is.laid.segments is.laid.spare) (words' body' : List ℕ) → length body' ≡ length cell.body →
    Holds p words is.laid.segments is.laid.spare cell words' body' → IsIndexed words' starts gaps top first
indexed_changed words starts gaps top first is p cell words' body' same holds =
    let row = spelled-changed words starts top first is.laid p cell words' body' same holds in
    record {
      laid = laid_changed words starts top first is.laid p cell words' body' same holds;
      listed = listed_same (spelled words top) (spelled words' top) gaps (ap headers row ∙ headers-changed p (λ _. body') (spelled words top)) is.listed;
      room = rw (length-changed words starts top first is.laid p cell words' body' same holds) is.room;
    }

-- a level changed
gap_from-level : (p : Ptr) (level : ℕ) (row : List (Cell (List ℕ))) (at k : ℕ) → gap_from at (headers (with_level p level row)) k ≡ gap_from at (headers row) k
gap_from-level p level [] at k = refl
gap_from-level p level (c ∷ cs) at k = go (is_at p c.head) (gap_from-level p level cs (end_of c.head) k)
  where
    go : (b : Bool) → gap_from (end_of c.head) (headers (with_level p level cs)) k ≡ gap_from (end_of c.head) (headers cs) k →
        gap_from at (headers (cond b (record c { head = record c.head { level = level } } ∷ cs) (c ∷ with_level p level cs))) k ≡ gap_from at (headers (c ∷ cs)) k
    go true rest = refl
    go false rest = ap (λ n. one_at at (c.head.place - at) k + n) rest

pub indexed_level : (words : List ℕ) (starts : List Bool) (gaps : List ℕ) (top first : ℕ) (is : IsIndexed words starts gaps top first) (p : Ptr)
    (cell : IsCell p words is.laid.segments is.laid.spare) (level : ℕ) → length (slice_set words (p.place / 16 * 4 + 2) level) ≡ length words →
    IsIndexed (slice_set words (p.place / 16 * 4 + 2) level) starts gaps top first
indexed_level words starts gaps top first is p cell level count =
    let row : spelled (slice_set words (p.place / 16 * 4 + 2) level) top ≡ with_level p level (spelled words top) =
    ap (λ v. v.row) (view_level words starts top first is.laid p cell level count (cells_in words top) refl) in
    record {
      laid = laid_level words starts top first is.laid p cell level count;
      listed = λ k. is.listed k ∙ sym (ap (λ r. gap_from 0 (headers r) k) row ∙ gap_from-level p level (spelled words top) 0 k);
      room = rw count is.room;
    }

-- no words
pub indexed_empty : IsIndexed [] [] [] 0 NO_PLACE
indexed_empty = record {
  laid = laid_empty;
  listed = λ k. ap (λ r. gap_from 0 (headers r) k) (sym (spelled_is [] [] [] 0 refl refl tt));
  room = omega arith;
}

module _ (words : List ℕ) (starts : List Bool) (gaps : List ℕ) (top first : ℕ) (is : IsIndexed words starts gaps top first) where
  -- more bits
  pub indexed_marked : (k : ℕ) → IsIndexed words (starts ++ replicate k false) gaps top first
  indexed_marked k = record { laid = laid_marked words starts top first k is.laid; listed = is.listed; room = is.room }

  -- more bits and lengths
  pub indexed_listed : (k n : ℕ) → IsIndexed words (starts ++ replicate k false) (gaps ++ replicate n 0) top first
  indexed_listed k n = record {
    laid = laid_marked words starts top first k is.laid;
    listed = λ j. slice_index-zeros gaps n j ∙ is.listed j;
    room = omega (arith, is.room, length-append gaps (replicate n 0));
  }

  -- and more words
  pub indexed_grown : (more : List ℕ) (k n : ℕ) → length words + length more ≤ 4 * (length starts + k) → (length words + length more) % 4 ≡ 0 →
      length words + length more ≤ MOST_WORDS → length words + length more ≤ 4 * (length gaps + n) →
      IsIndexed (words ++ more) (starts ++ replicate k false) (gaps ++ replicate n 0) top first
  indexed_grown more k n covered four bounded room = record {
    laid = laid_grown words starts top first is.laid more k covered four bounded;
    listed = λ j. slice_index-zeros gaps n j ∙ is.listed j ∙ ap (λ r. gap_from 0 (headers r) j) (sym (spelled-grown words starts top first is.laid more k));
    room = omega (arith, room, length-append words more, length-append gaps (replicate n 0), length-replicate {A = ℕ} n 0);
  }
