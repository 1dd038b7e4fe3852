-- Another payload of the same length in one cell.
use Rattle.std.proofs.Common.{◌≡◌, ℕ, suc, ◌*◌, Bool, true, false, cond, List, [], ◌∷◌, length, All, Some, arith, ap, ◌∙◌}
use Rattle.std.proofs.lemmas.List.Elements.{All-cons, All-nil}
use Rattle.wb_heap_model.specs.declared.heap.Ptr.{Ptr}
use Rattle.wb_heap_model.specs.CellRow.{content_or_nil, payload_of, with_payload}
use Rattle.wb_heap_model.specs.LimitedHeap.{IsFilled}
use Rattle.wb_heap_model.specs.Row.{Cell, is_at, cell_at}

pub filled-changed : (p : Ptr) (words : List ℕ) (row : List (Cell (List ℕ))) → length words ≡ length (payload_of p row) → All IsFilled row →
    All IsFilled (with_payload p words row)
filled-changed p words [] same all = All-nil _
filled-changed p words (c ∷ cs) same all = by (is_at p c.head) same (filled-changed p words cs)
  where
    following : All IsFilled cs
    following k x lt = all (suc k) x (omega arith)

    by : (b : Bool) → length words ≡ length (content_or_nil (cond b (Some c) (cell_at p cs))) →
        (length words ≡ length (payload_of p cs) → All IsFilled cs → All IsFilled (with_payload p words cs)) →
        All IsFilled (cond b (record c { content = words } ∷ cs) (c ∷ with_payload p words cs))
    by true e rest = All-cons IsFilled (record c { content = words }) cs (ap (λ n. 4 * n) e ∙ all 0 c (omega arith)) following
    by false e rest = All-cons IsFilled c (with_payload p words cs) (all 0 c (omega arith)) (rest e following)
