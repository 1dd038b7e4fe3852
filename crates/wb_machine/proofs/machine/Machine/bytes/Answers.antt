use Rattle.std.proofs.Common.{◌≡◌, ℕ, suc, List, [], ◌∷◌, Bool, true, false, cond, refl, sym, ap, subst, arith}
use Rattle.std.specs.Prelude.{Option, None, Some, option_map, Any, IfSome}
use Rattle.wb_heap_model.specs.declared.heap.Header.{Header}
use Rattle.wb_heap_model.specs.declared.heap.Ptr.{Ptr}
use Rattle.wb_heap_model.specs.Row.{Cell, cell_at, headers, is_at, usable_of}
use Rattle.wb_machine.specs.Effects.{pointer_read}
use Rattle.wb_machine.specs.Seen.{Seen}
use Rattle.wb_machine.proofs.machine.Machine.bytes.Goals as goal

-- so many bytes of some cell can be used
abbrev HasUsable : List Header → ℕ → Type 0
HasUsable hs n = Any (λ h. usable_of h ≡ n) hs

-- the cell that a pointer names is one of the row
usable-found : (p : Ptr) (row : List (Cell (List ℕ))) → IfSome (option_map (λ c. usable_of c.head) (cell_at p row)) (HasUsable (headers row))
usable-found p [] = tt
usable-found p (c ∷ cs) = by (is_at p c.head) (cell_at p cs) (usable-found p cs)
  where
    by : (b : Bool) (rest : Option (Cell (List ℕ))) → IfSome (option_map (λ d. usable_of d.head) rest) (HasUsable (headers cs)) →
        IfSome (option_map (λ d. usable_of d.head) (cond b (Some c) rest)) (HasUsable (headers (c ∷ cs)))
    by true rest is = (0, c.head, omega arith, refl, refl)
    by false None is = tt
    by false (Some d) (k, h, lt, e, same) = (suc k, h, omega (arith, lt), e, same)

pub returns : goal.returns
returns c =
    let m = c.self.inside in
    let row = m.state.debug.heap.row in
    subst (λ (live : List Header). IfSome c.usable.result (HasUsable live)) (ap (λ (s : Seen). s.live) c.self.view_is)
    (subst (λ r. IfSome r (HasUsable (headers row))) (sym c.usable.ensures) (usable-found (pointer_read m.script.now m.state c.args.pointer) row))
