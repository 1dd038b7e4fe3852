use Rattle.std.proofs.Common.{◌∷◌, refl, ap, ◌∙◌, sym, arith, rules, w32, FitsSigned}
use Rattle.std.proofs.lemmas.Int.{to_z-of_z}
use Rattle.wb_meaning.specs.State.{number}
use Rattle.wb_meaning.specs.Rest.{caught}
use Rattle.wb_machine.specs.Effects.{stored}
use Rattle.wb_machine.specs.Flow.{pending_in, rest_from, rest_under}
use Rattle.wb_machine.proofs.turns.Unwinding.{caught_goes_on, caught_passes}
use Rattle.wb_machine.proofs.kept.SlotsKept.{stored_room, room_stays}
use Rattle.wb_machine.proofs.control.Control.unwind_caught.Goals as goal

pub returns-in-GoesOn-clause-kept : goal.returns-in-GoesOn-clause-kept
returns-in-GoesOn-clause-kept c script r budget =
    let pieces = c.args.self.now.pieces.items in
    let h = c.args.state.now in
    let fits : FitsSigned w32 c.args.code = search rules in
    ap (λ e. rest_from script budget r e pieces c.set.new.self) c.in-GoesOn.is
    ∙ caught_goes_on script budget r pieces c.args.local c.args.code h c.set.new.self (c.set.ensures ∙ ap (λ z. stored h c.args.local (number z)) (to_z-of_z w32 c.args.code fits))
    ∙ sym (ap (λ e. rest_under script budget r e (caught c.args.local c.args.code ∷ pending_in h.callers pieces) h) c.in-GoesOn.is)

pub returns-in_default-clause-kept : goal.returns-in_default-clause-kept
returns-in_default-clause-kept c script r budget =
    caught_passes script budget r c.args.self.now.pieces.items c.args.local c.args.code c.args.self.now.ending c.args.state.now c.requires c.in_default.not-GoesOn

pub returns-in-GoesOn-clause-room : goal.returns-in-GoesOn-clause-room
returns-in-GoesOn-clause-room c room =
    stored_room c.args.self.now.ending c.args.self.now.pieces.items c.args.state.now c.set.new.self c.args.local _ c.set.ensures room

pub returns-in_default-clause-room : goal.returns-in_default-clause-room
returns-in_default-clause-room c room =
    room_stays c.args.self.now.ending c.args.self.now.pieces.items c.args.state.now c.args.state.now (omega arith) refl room
