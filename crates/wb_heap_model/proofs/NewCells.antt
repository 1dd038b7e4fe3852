-- A cell that was put into a row is found by its own pointer.
use Rattle.std.proofs.Common.{◌≡◌, ◌≢◌, ℕ, suc, ◌<◌, Bool, true, false, cond, List, [], ◌∷◌, length, Some, None, AllPairs, refl, sym, ap, ◌∙◌, arith, get_or}
use Rattle.std.specs.Prelude.{nat_lt}
use Rattle.wb_heap_model.specs.declared.heap.Header.{Header}
use Rattle.wb_heap_model.specs.Row.{Cell, headers, pointer_to, cell_at, inserted}
use Rattle.wb_heap_model.proofs.Reallocations.{at-own, not_at-number}

-- where a new cell is
record IsPlaced (c : Cell (List ℕ)) (row : List (Cell (List ℕ))) : Type 0 where
  at : ℕ
  within : at < length (headers row)
  here : (x : Header) → get_or (headers row) at x ≡ c.head

placed : (c : Cell (List ℕ)) (row : List (Cell (List ℕ))) → IsPlaced c (inserted c row)
placed c [] = record { at = 0; within = omega arith; here = λ x. refl }
placed c (d ∷ ds) = by (nat_lt c.head.place d.head.place) (placed c ds)
  where
    by : (b : Bool) → IsPlaced c (inserted c ds) → IsPlaced c (cond b (c ∷ d ∷ ds) (d ∷ inserted c ds))
    by true rest = record { at = 0; within = omega arith; here = λ x. refl }
    by false rest = record { at = suc rest.at; within = omega (arith, rest.within); here = rest.here }

pub found-inserted : (c : Cell (List ℕ)) (row : List (Cell (List ℕ))) → AllPairs (λ g h. g.number ≢ h.number) (headers (inserted c row)) →
    cell_at (pointer_to c.head) (inserted c row) ≡ Some c
found-inserted c [] apart = ap (λ b. cond b (Some c) None) (at-own c.head)
found-inserted c (d ∷ ds) apart = by (nat_lt c.head.place d.head.place) apart (found-inserted c ds)
  where
    by : (b : Bool) → AllPairs (λ g h. g.number ≢ h.number) (headers (cond b (c ∷ d ∷ ds) (d ∷ inserted c ds))) →
        (AllPairs (λ g h. g.number ≢ h.number) (headers (inserted c ds)) → cell_at (pointer_to c.head) (inserted c ds) ≡ Some c) →
        cell_at (pointer_to c.head) (cond b (c ∷ d ∷ ds) (d ∷ inserted c ds)) ≡ Some c
    by true all rest = ap (λ b. cond b (Some c) (cell_at (pointer_to c.head) (d ∷ ds))) (at-own c.head)
    by false all rest =
        let here = placed c ds in
        let differs : d.head.number ≢ c.head.number =
        λ e. all 0 (suc here.at) d.head (omega arith) (omega (arith, here.within)) (e ∙ sym (ap (λ (h : Header). h.number) (here.here d.head))) in
        ap (λ b. cond b (Some d) (cell_at (pointer_to c.head) (inserted c ds))) (not_at-number (pointer_to c.head) d.head differs)
        ∙ rest (λ i j x lt end. all (suc i) (suc j) x (omega (arith, lt)) (omega (arith, end)))
