-- Where a request goes, and what a pointer names.
use Rattle.std.proofs.Common.{◌≡◌, ℕ, suc, ◌+◌, ◌*◌, ◌⊎◌, inl, inr, Bool, true, false, cond, List, [], ◌∷◌, length, All, Some, IfSome, option_map, refl, sym, arith}
use Rattle.std.specs.Prelude.{nat_le, Any}
use Rattle.wb_heap_model.specs.declared.heap.Header.{Header}
use Rattle.wb_heap_model.specs.declared.heap.Ptr.{Ptr}
use Rattle.wb_heap_model.specs.CellRow.{IsGap, content_or_nil, payload_of}
use Rattle.wb_heap_model.specs.LimitedHeap.{LimitedHeap, IsCellLength, IsSoundHeap, IsFilled, place_in}
use Rattle.wb_heap_model.specs.Row.{Cell, headers, end_of, usable_of, is_at, cell_at, place_from}
use Rattle.wb_heap_model.proofs.LimitedHeaps.{place_in-least}

-- the place of a request is where it is looked for, or right after a cell
place_from-begins : (row : List Header) (at length : ℕ) → (place_from at row length ≡ at) ⊎ Any (λ h. end_of h ≡ place_from at row length) row
place_from-begins [] at length = inl refl
place_from-begins (h ∷ hs) at length = by (nat_le (at + length) h.place) (place_from-begins hs (end_of h) length)
  where
    by : (b : Bool) → (place_from (end_of h) hs length ≡ end_of h) ⊎ Any (λ g. end_of g ≡ place_from (end_of h) hs length) hs →
        (cond b at (place_from (end_of h) hs length) ≡ at) ⊎ Any (λ g. end_of g ≡ cond b at (place_from (end_of h) hs length)) (h ∷ hs)
    by true rest = inl refl
    by false (inl here) = inr (0, h, omega arith, refl, sym here)
    by false (inr (k, g, lt, is, there)) = inr (suc k, g, omega (arith, lt), is, there)

pub place_in-gap : (heap : LimitedHeap) (length : ℕ) → IsCellLength length → IsSoundHeap heap → IsGap (headers heap.row) (place_in heap length) length
place_in-gap heap length long is =
    record { begins = place_from-begins (headers heap.row) 0 length; free = (place_in-least heap length long is).free }

-- a payload has a word for each four bytes of the usable length
pub payload-filled : (p : Ptr) (row : List (Cell (List ℕ))) → All IsFilled row →
    IfSome (option_map (λ c. c.head) (cell_at p row)) (λ h. 4 * length (payload_of p row) ≡ usable_of h)
payload-filled p [] all = tt
payload-filled p (c ∷ cs) all = by (is_at p c.head) (payload-filled p cs (λ k d lt. all (suc k) d (omega arith)))
  where
    by : (b : Bool) → IfSome (option_map (λ d. d.head) (cell_at p cs)) (λ h. 4 * length (payload_of p cs) ≡ usable_of h) →
        IfSome (option_map (λ d. d.head) (cond b (Some c) (cell_at p cs))) (λ h. 4 * length (content_or_nil (cond b (Some c) (cell_at p cs))) ≡ usable_of h)
    by true rest = all 0 c (omega arith)
    by false rest = rest
