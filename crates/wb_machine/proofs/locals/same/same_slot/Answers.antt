use Rattle.std.proofs.Common.{[], sym, subst}
use Rattle.wb_meaning.specs.State.{number}
use Rattle.wb_renaming.specs.SameButNumbers.{IsSameValue, IsSameView, same_pointer, same_number, same_buffer, same_view}
use Rattle.wb_machine.specs.declared.locals.Slot.{Slot}
use Rattle.wb_machine.specs.LocalValues.{value_of}
use Rattle.wb_machine.proofs.likeness.GrownMaps.{by-both}
use Rattle.wb_machine.proofs.locals.same.same_slot.Goals as goal

pub returns-in-Pointer-Pointer-clause-same : goal.returns-in-Pointer-Pointer-clause-same
returns-in-Pointer-Pointer-clause-same c e =
    by-both (λ (x y : Slot). IsSameValue c.relate_pointers.new.self.names (value_of x) (value_of y)) c.in-Pointer-Pointer.is-0 c.in-Pointer-Pointer.is-1
    (same_pointer (c.relate_pointers.ensures.same e))

pub returns-in-Number-Number-clause-same : goal.returns-in-Number-Number-clause-same
returns-in-Number-Number-clause-same c e =
    let names = c.args.names.now.names in
    let w = c.in-Number-Number in
    by-both (λ (x y : Slot). IsSameValue names (value_of x) (value_of y)) w.is-0 w.is-1
    (subst (λ z. IsSameValue names (number w.number) (number z)) (sym (c.same_number.ensures e)) (same_number w.number))

pub returns-in-View-View-clause-same : goal.returns-in-View-View-clause-same
returns-in-View-View-clause-same c e =
    let names = c.same_view.new.names.names in
    by-both (λ (x y : Slot). IsSameValue names (value_of x) (value_of y)) c.in-View-View.is-0 c.in-View-View.is-1
    (same_view (by-both (IsSameView names) (sym c.view.ensures.view) (sym c.view-in-View-View.ensures.view) (c.same_view.ensures.same e)))

pub returns-in-NoBuffer-NoBuffer-clause-same : goal.returns-in-NoBuffer-NoBuffer-clause-same
returns-in-NoBuffer-NoBuffer-clause-same c e =
    by-both (λ (x y : Slot). IsSameValue c.args.names.now.names (value_of x) (value_of y)) c.in-NoBuffer-NoBuffer.is-0 c.in-NoBuffer-NoBuffer.is-1 (same_buffer 0 [])
