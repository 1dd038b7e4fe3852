use Rattle.std.proofs.Common.{◌∷◌, ◌-◌, length, refl, ap, ◌∙◌, sym, arith, rules, w32, FitsSigned}
use Rattle.std.proofs.lemmas.Int.{to_z-of_z}
use Rattle.wb_heap_model.specs.declared.heap.TheConstants.Panic.{ITEMS_LEFT}
use Rattle.wb_meaning.specs.Statements.{destroy_items}
use Rattle.wb_meaning.specs.Rest.{doing, main_catching, main_caught}
use Rattle.wb_machine.specs.declared.pieces.Ending.TheVariants.{GoesOn, Panics}
use Rattle.wb_machine.specs.Flow.{in_main_frame, pending_in, rest_from, rest_under}
use Rattle.wb_machine.proofs.turns.Unwinding.{main_ends, main_items_left, main_left}
use Rattle.wb_machine.proofs.kept.SlotsKept.{stop_room, leave_room, main_room}
use Rattle.wb_machine.proofs.control.Control.unwind_main.Goals as goal

pub returns-in_ok-destroy_to-in-Leaves-clause-kept : goal.returns-in_ok-destroy_to-in-Leaves-clause-kept
returns-in_ok-destroy_to-in-Leaves-clause-kept c script r budget within =
    let pieces = c.args.self.now.pieces.items in
    let new = c.destroy_to.new.self.pieces.items in
    let h = c.args.state.now in
    let fits : FitsSigned w32 c.in-Leaves.code = search rules in
    let done = c.in_ok-destroy_to-in-Leaves.ensures in
    ap (λ e. rest_from script budget r e new h) done.ending
    ∙ main_left script budget r pieces c.in-Leaves.code _ new h (omega arith)
    (done.pieces h.callers ∙ ap (λ z. doing in_main_frame (destroy_items (length h.items - 0)) ∷ main_caught z ∷ pending_in h.callers pieces) (to_z-of_z w32 c.in-Leaves.code fits))
    ∙ sym (ap (λ e. rest_under script budget r e (main_catching in_main_frame ∷ pending_in h.callers pieces) h) c.in-Leaves.is)

pub returns-in_ok-destroy_to-in-Leaves-clause-sound : goal.returns-in_ok-destroy_to-in-Leaves-clause-sound
returns-in_ok-destroy_to-in-Leaves-clause-sound c script = c.in_ok-destroy_to-in-Leaves.ensures.sound script tt

pub returns-in_default-clause-kept : goal.returns-in_default-clause-kept
returns-in_default-clause-kept c script r budget within =
    main_ends script budget r c.args.self.now.pieces.items c.args.self.now.ending c.args.state.now c.requires c.in_default.not-Leaves (omega (arith, c.items.ensures.items, c.if-items-eq0.true))

pub returns-in_default-2-clause-kept : goal.returns-in_default-2-clause-kept
returns-in_default-2-clause-kept c script r budget within =
    main_items_left script budget r c.args.self.now.pieces.items c.args.self.now.ending c.args.state.now c.requires c.in_default-2.not-Leaves (λ e. c.if-items-eq0.false (c.items.ensures.items ∙ e))

pub returns-in_ok-destroy_to-in-Leaves-clause-room : goal.returns-in_ok-destroy_to-in-Leaves-clause-room
returns-in_ok-destroy_to-in-Leaves-clause-room c room going =
    let done = c.in_ok-destroy_to-in-Leaves.ensures in
    let r = room c.requires in
    leave_room c.args.self.now.ending c.destroy_to.new.self.ending 0 c.args.self.now.pieces.items c.destroy_to.new.self.pieces.items c.args.state.now c.requires done.ending (omega (arith, r.some))
    (omega (arith, done.slots)) done.first room going

pub returns-in_default-clause-room : goal.returns-in_default-clause-room
returns-in_default-clause-room c room =
    main_room c.args.self.now.ending GoesOn c.args.self.now.pieces.items c.args.state.now c.requires (omega (arith, c.items.ensures.items, c.if-items-eq0.true)) room

pub returns-in_default-2-clause-room : goal.returns-in_default-2-clause-room
returns-in_default-2-clause-room c room = stop_room (Panics ITEMS_LEFT) c.args.self.now.pieces.items c.args.state.now refl
