use Rattle.std.proofs.Common.{◌≡◌, ◌≤◌, ◌++◌, ℕ, List, length, take, drop, arith, length-append, length-drop, ap, sym, subst}
use Rattle.std.proofs.lemmas.List.{length-take-le}
use Rattle.wb_heap_model.specs.CellRow.{payload_of}
use Rattle.wb_rheap.proofs.HeapFields.{changed-kept}
use Rattle.wb_rheap.proofs.heap.Heap.copy_payload.Goals as goal

copied-length : (n : ℕ) (from to : List ℕ) → n ≤ length from → n ≤ length to → length (take n from ++ drop n to) ≡ length to
copied-length n from to source target =
    omega (arith, length-append (take n from) (drop n to), length-drop n to, length-take-le n from source)

pub invariant_of-self : goal.invariant_of-self
invariant_of-self c =
    let row = ap (λ h. h.row) c.self.view_is in
    changed-kept c.self.inside c.copy_payload.new.self c.args.to _ c.copy_payload.ensures.copied
    (copied-length c.args.n (payload_of c.args.from c.self.inside.cells.row) (payload_of c.args.to c.self.inside.cells.row)
    (subst (λ r. c.args.n ≤ length (payload_of c.args.from r)) (sym row) c.requires.source)
    (subst (λ r. c.args.n ≤ length (payload_of c.args.to r)) (sym row) c.requires.target)) c.self.invariant

pub returns-clause-sound : goal.returns-clause-sound
returns-clause-sound c = (invariant_of-self c).sound
