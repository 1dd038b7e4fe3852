use Rattle.std.proofs.Common.{◌∷◌, refl, ap, ◌∙◌, sym, arith, rules, w32, FitsSigned}
use Rattle.std.proofs.lemmas.Int.{to_z-of_z}
use Rattle.wb_machine.specs.declared.pieces.Ending.TheVariants.{Leaves}
use Rattle.wb_meaning.specs.Rest.{main_caught}
use Rattle.wb_machine.specs.SlotInvariant.{after_leave}
use Rattle.wb_machine.specs.Flow.{pending_in, rest_from, rest_under}
use Rattle.wb_machine.proofs.turns.Unwinding.{main_caught_goes_on, main_caught_passes}
use Rattle.wb_machine.proofs.kept.SlotsKept.{passed_room, room_stays}
use Rattle.wb_machine.proofs.control.Control.unwind_main_caught.Goals as goal

pub returns-in-GoesOn-clause-kept : goal.returns-in-GoesOn-clause-kept
returns-in-GoesOn-clause-kept c script r budget h =
    let pieces = c.args.self.now.pieces.items in
    let fits : FitsSigned w32 c.args.code = search rules in
    ap (λ z. rest_from script budget r (Leaves z) pieces h) (to_z-of_z w32 c.args.code fits)
    ∙ main_caught_goes_on script budget r pieces c.args.code h
    ∙ sym (ap (λ e. rest_under script budget r e (main_caught c.args.code ∷ pending_in h.callers pieces) h) c.in-GoesOn.is)

pub returns-in_default-clause-kept : goal.returns-in_default-clause-kept
returns-in_default-clause-kept c script r budget h =
    main_caught_passes script budget r c.args.self.now.pieces.items c.args.code c.args.self.now.ending h c.requires c.in_default.not-GoesOn

pub returns-in-GoesOn-clause-room : goal.returns-in-GoesOn-clause-room
returns-in-GoesOn-clause-room c h room =
    passed_room c.args.self.now.ending (Leaves c.args.code) c.args.self.now.pieces.items h h (ap after_leave c.in-GoesOn.is) c.requires (omega arith) refl room

pub returns-in_default-clause-room : goal.returns-in_default-clause-room
returns-in_default-clause-room c h room = room_stays c.args.self.now.ending c.args.self.now.pieces.items h h (omega arith) refl room
