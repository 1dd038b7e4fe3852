use Rattle.std.proofs.Common.{List, sym, subst}
use Rattle.wb_heap_model.specs.declared.reported.Leak.{Leak}
use Rattle.wb_machine.specs.RunState.{RunState}
use Rattle.wb_machine.specs.Whole.{IsMachine}
use Rattle.wb_machine.proofs.turns.Copies.{same_control}
use Rattle.wb_machine.proofs.machine.Machine.try_copy_over.Goals as goal

-- a machine of equal parts keeps what the other does
pub invariant_of-result : goal.invariant_of-result
invariant_of-result c =
    let m = c.self.inside in
    let x = c.in_ok-try_copy.field-0 in
    let is = c.in_ok-try_copy.ensures in
    subst (λ (st : RunState). IsMachine (record m { control = x; state = st; leaks = c.in_ok-try_copy-2.field-0 })) (sym c.in_ok-try_copy_over.ensures)
    (subst (λ (ls : List Leak). IsMachine (record m { control = x; leaks = ls })) (sym c.in_ok-try_copy-2.ensures)
    (same_control m x is.pieces is.ending is.line c.self.invariant))
