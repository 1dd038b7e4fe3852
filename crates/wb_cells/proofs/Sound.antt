-- Segments are a row.
use Rattle.std.proofs.Common.{◌≡◌, ℕ, ◌+◌, ◌*◌, ◌%◌, ◌≤◌, List, [], ◌∷◌, length, Bool, refl, sym, ap, subst, arith, length-append, All}
use Rattle.std.proofs.lemmas.List.Elements.{All-nil, All-cons}
use Rattle.wb_heap_model.specs.Row.{Cell, IsRow, IsSpacedFrom, headers, top_of, usable_of}
use Rattle.wb_heap_model.specs.CellRow.{CellRow, IsSoundCells}
use Rattle.wb_cells.specs.FreeList.{NO_PLACE}
use Rattle.wb_cells.specs.Inside.{IsLaid, cells_in}
use Rattle.wb_cells.specs.Segments.{Segment, live, free, words_of, cell_from, row_from, AreWhole}
use Rattle.wb_cells.proofs.Laying.{spelled-laid, top_from-row, length-words_of}

spaced-row : (xs : List Segment) (at low : ℕ) → low ≤ at → at % 16 ≡ 0 → AreWhole xs → IsSpacedFrom low (headers (row_from at xs))
spaced-row [] at low le rounded w = tt
spaced-row (free body ∷ xs) at low le rounded w = spaced-row xs (at + (16 + 4 * length body)) low (omega (arith, le)) (omega (arith, rounded, w.0)) w.1
spaced-row (live kind level number body ∷ xs) at low le rounded w =
    let next = at + (16 + 4 * length body) in
    (le, rounded, omega (arith, w.0), omega arith, w.1, spaced-row xs next next (omega arith) (omega (arith, rounded, w.0)) w.3)

filled-row : (xs : List Segment) (at : ℕ) → All (λ c. 4 * length c.content ≡ usable_of c.head) (row_from at xs)
filled-row [] at = All-nil (λ (c : Cell (List ℕ)). 4 * length c.content ≡ usable_of c.head)
filled-row (free body ∷ xs) at = filled-row xs (at + (16 + 4 * length body))
filled-row (live kind level number body ∷ xs) at =
    All-cons (λ (c : Cell (List ℕ)). 4 * length c.content ≡ usable_of c.head) (cell_from at kind level number body) (row_from (at + (16 + 4 * length body)) xs)
    (omega arith) (filled-row xs (at + (16 + 4 * length body)))

pub sound_laid : (words : List ℕ) (starts : List Bool) (top first : ℕ) → IsLaid words starts top first → IsSoundCells (cells_in words top)
sound_laid words starts top first laid =
    let xs = laid.segments in
    let row = sym (spelled-laid words starts top first laid) in
    let high : top_of (headers (row_from 0 xs)) ≤ 4 * length words =
    omega (arith, top_from-row xs 0 laid.merged, ap length laid.spelled, length-append (words_of 0 xs NO_PLACE) laid.spare, length-words_of xs 0 NO_PLACE) in
    record {
      row = subst (λ r. IsRow (headers r)) row (record { spaced = spaced-row xs 0 0 (omega arith) refl laid.whole; numbered = laid.numbered });
      filled = subst (λ r. All (λ c. 4 * length c.content ≡ usable_of c.head) r) row (filled-row xs 0);
      within = subst (λ r. top_of (headers r) ≤ 4 * length words) row high;
      rounded = omega (arith, laid.rounded);
      bounded = omega (arith, laid.bounded);
    }

-- the same of the value that contracts see
pub sound_now : (words : List ℕ) (starts : List Bool) (top first : ℕ) → IsLaid words starts top first → (now : CellRow) → cells_in words top ≡ now → IsSoundCells now
sound_now words starts top first laid now is = subst (λ v. IsSoundCells v) is (sound_laid words starts top first laid)
