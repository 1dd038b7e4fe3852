use Rattle.std.proofs.Common.{◌∷◌, refl, ap, ◌∙◌, sym, arith}
use Rattle.wb_machine.specs.Flow.{context_of, pending_of, callers_under, pending_in, needs_step, rest_under}
use Rattle.wb_machine.proofs.turns.Unwinding.{fallen_code, fallen_turns, fallen_items, fallen_object}
use Rattle.wb_machine.proofs.kept.SlotsKept.{room_stays}
use Rattle.wb_machine.proofs.control.Control.unwind.Goals as goal

pub returns-in-Code-clause-kept : goal.returns-in-Code-clause-kept
returns-in-Code-clause-kept c script r budget within =
    let pieces = c.args.self.now.pieces.items in
    let ending = c.args.self.now.ending in
    let h = c.args.state.now in
    fallen_code script budget r pieces (context_of c.in-Code.field-0) c.in-Code.field-1.now ending h c.requires.stop within (λ e. sym (ap needs_step c.in-Code.is) ∙ c.requires.done e)
    ∙ sym (ap (λ p. rest_under script budget r ending (pending_of h.callers p ∷ pending_in (callers_under h.callers p) pieces) h) c.in-Code.is)

pub returns-in-Turns-clause-kept : goal.returns-in-Turns-clause-kept
returns-in-Turns-clause-kept c script r budget within =
    let pieces = c.args.self.now.pieces.items in
    let ending = c.args.self.now.ending in
    let h = c.args.state.now in
    fallen_turns script budget r pieces (context_of c.in-Turns.field-0) c.in-Turns.field-1 c.in-Turns.field-2.now ending h c.requires.stop within (λ e. sym (ap needs_step c.in-Turns.is) ∙ c.requires.done e)
    ∙ sym (ap (λ p. rest_under script budget r ending (pending_of h.callers p ∷ pending_in (callers_under h.callers p) pieces) h) c.in-Turns.is)

pub returns-in-Items-clause-kept : goal.returns-in-Items-clause-kept
returns-in-Items-clause-kept c script r budget within =
    let pieces = c.args.self.now.pieces.items in
    let ending = c.args.self.now.ending in
    let h = c.args.state.now in
    fallen_items script budget r pieces (context_of c.in-Items.field-0) c.in-Items.field-1 ending h c.requires.stop within (λ e. sym (ap needs_step c.in-Items.is) ∙ c.requires.done e)
    ∙ sym (ap (λ p. rest_under script budget r ending (pending_of h.callers p ∷ pending_in (callers_under h.callers p) pieces) h) c.in-Items.is)

pub returns-in-Object-clause-kept : goal.returns-in-Object-clause-kept
returns-in-Object-clause-kept c script r budget within =
    let pieces = c.args.self.now.pieces.items in
    let ending = c.args.self.now.ending in
    let h = c.args.state.now in
    fallen_object script budget r pieces (context_of c.in-Object.field-0) c.in-Object.field-1 ending h c.requires.stop (λ e. sym (ap needs_step c.in-Object.is) ∙ c.requires.done e)
    ∙ sym (ap (λ p. rest_under script budget r ending (pending_of h.callers p ∷ pending_in (callers_under h.callers p) pieces) h) c.in-Object.is)

pub returns-in-Code-clause-room : goal.returns-in-Code-clause-room
returns-in-Code-clause-room c had room =
    room_stays c.args.self.now.ending c.args.self.now.pieces.items c.args.state.now c.args.state.now (omega arith) refl room

pub returns-in-Turns-clause-room : goal.returns-in-Turns-clause-room
returns-in-Turns-clause-room c had room =
    room_stays c.args.self.now.ending c.args.self.now.pieces.items c.args.state.now c.args.state.now (omega arith) refl room

pub returns-in-Items-clause-room : goal.returns-in-Items-clause-room
returns-in-Items-clause-room c had room =
    room_stays c.args.self.now.ending c.args.self.now.pieces.items c.args.state.now c.args.state.now (omega arith) refl room

pub returns-in-Object-clause-room : goal.returns-in-Object-clause-room
returns-in-Object-clause-room c had room =
    room_stays c.args.self.now.ending c.args.self.now.pieces.items c.args.state.now c.args.state.now (omega arith) refl room
