-- The leaks of a row, gathered from cell to cell.
use Rattle.std.proofs.Common.{◌≡◌, ℕ, true, false, not, List, [], ◌∷◌, ◌++◌, map, ap, ◌∙◌, sym, cond, None, append_assoc, append-nil}
use Rattle.wb_heap_model.specs.declared.heap.Header.{Header}
use Rattle.wb_heap_model.specs.declared.reported.Leak.{Leak}
use Rattle.wb_heap_model.specs.Row.{end_of}
use Rattle.wb_heap_model.specs.Heap.{is_cleanup, cells_of_all_levels}
use Rattle.wb_heap_model.specs.Reported.{leak_of}
use Rattle.wb_heap_model.specs.LimitedHeap.{next_live_of}
use Rattle.wb_heap_model.proofs.Onward.{onward, onward_none, IsNextCell}

-- the leaks of a row
abbrev pub leaks_of : List Header → List Leak
leaks_of row = map leak_of (cells_of_all_levels row)

leaks_more : (h : Header) (row : List Header) → not (is_cleanup h.kind) ≡ true → leaks_of (h ∷ row) ≡ leak_of h ∷ leaks_of row
leaks_more h row e = ap (λ b. map leak_of (cond b (h ∷ cells_of_all_levels row) (cells_of_all_levels row))) e

leaks_less : (h : Header) (row : List Header) → not (is_cleanup h.kind) ≡ false → leaks_of (h ∷ row) ≡ leaks_of row
leaks_less h row e = ap (λ b. map leak_of (cond b (h ∷ cells_of_all_levels row) (cells_of_all_levels row))) e

-- one more leak
pub leaks_on : (row : List Header) (from : ℕ) (h : Header) (leaks more : List Leak) → IsNextCell from h row → not (is_cleanup h.kind) ≡ true →
    more ≡ leaks ++ leak_of h ∷ [] → leaks ++ leaks_of (onward from row) ≡ leaks_of row → more ++ leaks_of (onward (end_of h) row) ≡ leaks_of row
leaks_on row from h leaks more next counts is so_far =
    ap (λ l. l ++ leaks_of (onward (end_of h) row)) is ∙ append_assoc leaks (leak_of h ∷ []) (leaks_of (onward (end_of h) row))
    ∙ ap (λ l. leaks ++ l) (sym (ap leaks_of next.there ∙ leaks_more h (onward (end_of h) row) counts)) ∙ so_far

-- the cleanup stack's cell
pub leaks_past : (row : List Header) (from : ℕ) (h : Header) (leaks : List Leak) → IsNextCell from h row → not (is_cleanup h.kind) ≡ false →
    leaks ++ leaks_of (onward from row) ≡ leaks_of row → leaks ++ leaks_of (onward (end_of h) row) ≡ leaks_of row
leaks_past row from h leaks next counts so_far =
    ap (λ l. leaks ++ l) (sym (ap leaks_of next.there ∙ leaks_less h (onward (end_of h) row) counts)) ∙ so_far

-- the end
pub leaks_whole : (row : List Header) (from : ℕ) (leaks : List Leak) → next_live_of from row ≡ None → leaks ++ leaks_of (onward from row) ≡ leaks_of row → leaks ≡ leaks_of row
leaks_whole row from leaks none so_far = sym (ap (λ r. leaks ++ leaks_of r) (onward_none from row none) ∙ append-nil leaks) ∙ so_far
