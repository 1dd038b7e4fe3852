-- A cell that a pointer names, as the row has it and as its first word says.
use Rattle.std.proofs.Common.{◌≡◌, ℕ, ◌+◌, ◌*◌, ◌/◌, ◌≤◌, List, [], ◌∷◌, length, slice_index, get_or, Bool, true, false, cond, Some, None, option_map, find, refl, sym, ◌∙◌, ap, subst, arith, zero-add}
use Rattle.std.specs.Prelude.{nat_eq}
use Rattle.std.proofs.lemmas.List.{get_or_at}
use Rattle.std.proofs.lemmas.Bool.{eq-eqb, cond-true}
use Rattle.wb_heap_model.specs.declared.heap.Header.{Header}
use Rattle.wb_heap_model.specs.declared.heap.Ptr.{Ptr}
use Rattle.wb_heap_model.specs.Row.{IsSpacedFrom, headers, end_of, is_at, cell_at}
use Rattle.wb_heap_model.specs.Spelling.{spelled}
use Rattle.wb_heap_model.proofs.Rows.{head-cell_at}
use Rattle.wb_cells.specs.Inside.{IsLaid}
use Rattle.wb_cells.specs.Segments.{Segment, cell_from, row_from}
use Rattle.wb_cells.proofs.Laying.{spelled-laid}
use Rattle.wb_cells.proofs.Finding.{cell_at-split}
use Rattle.wb_cells.proofs.Changing.{IsCell, before, length-before}

-- a cell that is found is from the row's start on, and is no shorter than its header
pub found_from : (p : Ptr) (hs : List Header) (at : ℕ) (h : Header) → IsSpacedFrom at hs → find (is_at p) hs ≡ Some h → (at ≤ h.place) × (16 ≤ h.length)
found_from p [] at h s found = absurd cc
found_from p (g ∷ hs) at h s found = go (is_at p g) found (found_from p hs (end_of g) h s.5)
  where
    go : (b : Bool) → cond b (Some g) (find (is_at p) hs) ≡ Some h → (find (is_at p) hs ≡ Some h → (end_of g ≤ h.place) × (16 ≤ h.length)) → (at ≤ h.place) × (16 ≤ h.length)
    go true e rest = let same : g ≡ h = cc in subst (λ k. (at ≤ k.place) × (16 ≤ k.length)) same (s.0, s.3)
    go false e rest = let r = rest e in (omega (arith, r.0, s.0), r.1)

pub length_word : (p : Ptr) (words : List ℕ) (segments : List Segment) (spare : List ℕ) (cell : IsCell p words segments spare) →
    slice_index words (p.place / 16 * 4) ≡ 16 + 4 * length cell.body
length_word p words segments spare cell =
    ap (λ ws. get_or ws (p.place / 16 * 4) 0) cell.spelled
    ∙ get_or_at (before p words segments spare cell) (16 + 4 * length cell.body) _ 0 (p.place / 16 * 4) (length-before p words segments spare cell)

-- the header of a cell that a pointer names
pub found_cell : (words : List ℕ) (starts : List Bool) (top first : ℕ) (laid : IsLaid words starts top first) (p : Ptr) (cell : IsCell p words laid.segments laid.spare) →
    find (is_at p) (headers (spelled words top)) ≡ Some (cell_from p.place cell.kind cell.level p.number cell.body).head
found_cell words starts top first laid p cell =
    let at : cell_at p (spelled words top) ≡ Some (cell_from p.place cell.kind cell.level p.number cell.body) =
    ap (cell_at p) (spelled-laid words starts top first laid) ∙ ap (λ ys. cell_at p (row_from 0 ys)) cell.is
    ∙ cell_at-split p cell.front cell.kind cell.level p.number cell.body cell.back 0 (cell.here ∙ sym (zero-add _))
    ∙ cond-true (nat_eq p.number p.number) (Some (cell_from p.place cell.kind cell.level p.number cell.body)) None (eq-eqb p.number p.number refl) in
    sym (head-cell_at p (spelled words top)) ∙ ap (option_map (λ c. c.head)) at
