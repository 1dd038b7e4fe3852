use Rattle.std.proofs.Common.{◌∷◌, ◌-◌, length, refl, ap, ◌∙◌, sym, arith, rules, w32, FitsSigned}
use Rattle.std.proofs.lemmas.Int.{to_z-of_z}
use Rattle.wb_heap_model.specs.declared.heap.TheConstants.Panic.{ITEMS_LEFT}
use Rattle.wb_meaning.specs.Statements.{destroy_items}
use Rattle.wb_meaning.specs.Rest.{doing, catching, caught}
use Rattle.wb_machine.specs.declared.pieces.Ending.TheVariants.{Panics}
use Rattle.wb_machine.specs.Flow.{context_of, pending_in, rest_from, rest_under}
use Rattle.wb_machine.proofs.turns.Unwinding.{trap_goes_on, trap_items_left, trap_left, trap_returns}
use Rattle.wb_machine.proofs.kept.SlotsKept.{stored_room, stop_room, leave_room, room_stays}
use Rattle.wb_machine.proofs.control.Control.unwind_trap.Goals as goal

pub returns-in-GoesOn-clause-kept : goal.returns-in-GoesOn-clause-kept
returns-in-GoesOn-clause-kept c script r budget within =
    let pieces = c.args.self.now.pieces.items in
    let h = c.args.state.now in
    let at = context_of c.args.at in
    ap (λ e. rest_from script budget r e pieces c.set.new.self) c.in-GoesOn.is
    ∙ trap_goes_on script budget r pieces at c.args.local c.args.entry h c.set.new.self (sym c.items.ensures.items ∙ c.if-items-entry.true) c.set.ensures
    ∙ sym (ap (λ e. rest_under script budget r e (catching at c.args.local c.args.entry ∷ pending_in h.callers pieces) h) c.in-GoesOn.is)

pub returns-in-GoesOn-2-clause-kept : goal.returns-in-GoesOn-2-clause-kept
returns-in-GoesOn-2-clause-kept c script r budget within =
    let pieces = c.args.self.now.pieces.items in
    let h = c.args.state.now in
    let at = context_of c.args.at in
    trap_items_left script budget r pieces at c.args.local c.args.entry h (λ e. c.if-items-entry.false (c.items.ensures.items ∙ e))
    ∙ sym (ap (λ e. rest_under script budget r e (catching at c.args.local c.args.entry ∷ pending_in h.callers pieces) h) c.in-GoesOn-2.is)

pub returns-in_ok-destroy_to-in-Leaves-clause-kept : goal.returns-in_ok-destroy_to-in-Leaves-clause-kept
returns-in_ok-destroy_to-in-Leaves-clause-kept c script r budget within =
    let pieces = c.args.self.now.pieces.items in
    let new = c.destroy_to.new.self.pieces.items in
    let h = c.args.state.now in
    let at = context_of c.args.at in
    let fits : FitsSigned w32 c.in-Leaves.code = search rules in
    let done = c.in_ok-destroy_to-in-Leaves.ensures in
    ap (λ e. rest_from script budget r e new h) done.ending
    ∙ trap_left script budget r pieces at c.args.local c.args.entry c.in-Leaves.code new h
    (done.pieces h.callers ∙ ap (λ z. doing at (destroy_items (length h.items - c.args.entry)) ∷ caught c.args.local z ∷ pending_in h.callers pieces) (to_z-of_z w32 c.in-Leaves.code fits))
    ∙ sym (ap (λ e. rest_under script budget r e (catching at c.args.local c.args.entry ∷ pending_in h.callers pieces) h) c.in-Leaves.is)

pub returns-in_ok-destroy_to-in-Leaves-clause-sound : goal.returns-in_ok-destroy_to-in-Leaves-clause-sound
returns-in_ok-destroy_to-in-Leaves-clause-sound c script = c.in_ok-destroy_to-in-Leaves.ensures.sound script tt

pub returns-in-Returns-clause-kept : goal.returns-in-Returns-clause-kept
returns-in-Returns-clause-kept c script r budget within =
    let pieces = c.args.self.now.pieces.items in
    let h = c.args.state.now in
    let at = context_of c.args.at in
    ap (λ e. rest_from script budget r e pieces h) c.in-Returns.is
    ∙ trap_returns script budget r pieces at c.args.local c.args.entry c.in-Returns.field-0 h
    ∙ sym (ap (λ e. rest_under script budget r e (catching at c.args.local c.args.entry ∷ pending_in h.callers pieces) h) c.in-Returns.is)

pub returns-in-GoesOn-clause-room : goal.returns-in-GoesOn-clause-room
returns-in-GoesOn-clause-room c had room =
    stored_room c.args.self.now.ending c.args.self.now.pieces.items c.args.state.now c.set.new.self c.args.local _ c.set.ensures room

pub returns-in-GoesOn-2-clause-room : goal.returns-in-GoesOn-2-clause-room
returns-in-GoesOn-2-clause-room c had room = stop_room (Panics ITEMS_LEFT) c.args.self.now.pieces.items c.args.state.now refl

pub returns-in_ok-destroy_to-in-Leaves-clause-room : goal.returns-in_ok-destroy_to-in-Leaves-clause-room
returns-in_ok-destroy_to-in-Leaves-clause-room c had room =
    let done = c.in_ok-destroy_to-in-Leaves.ensures in
    leave_room c.args.self.now.ending c.destroy_to.new.self.ending c.args.entry c.args.self.now.pieces.items c.destroy_to.new.self.pieces.items c.args.state.now c.requires done.ending had
    (omega (arith, done.slots)) done.first room

pub returns-in-Returns-clause-room : goal.returns-in-Returns-clause-room
returns-in-Returns-clause-room c had room =
    room_stays c.args.self.now.ending c.args.self.now.pieces.items c.args.state.now c.args.state.now (omega arith) refl room
