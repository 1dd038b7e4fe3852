use Rattle.std.proofs.Common.{◌≡◌, ◌∷◌, length, take, drop, ap, ◌∙◌, sym, arith, Some}
use Rattle.wb_machine.specs.RunState.{RunState}
use Rattle.wb_machine.specs.SlotInvariant.{after_leave}
use Rattle.wb_meaning.specs.Rest.{calling}
use Rattle.wb_machine.specs.Flow.{frame_with, afterwards, pending_in, rest_from, rest_under}
use Rattle.wb_machine.proofs.turns.Unwinding.{result_by, call_left, call_ends}
use Rattle.wb_machine.proofs.control.Control.unwind_call.Goals.{in-GoesOn, in-Returns}
use Rattle.wb_machine.proofs.kept.SlotsKept.{back_room, passed_room}
use Rattle.wb_machine.proofs.control.Control.unwind_call.Goals as goal

pub returns-in-Leaves-clause-kept : goal.returns-in-Leaves-clause-kept
returns-in-Leaves-clause-kept c script r budget =
    let pieces = c.args.self.now.pieces.items in
    let h = c.args.state.now in
    let base = c.args.base in
    ap (λ e. rest_from script budget r e pieces c.end_call.new.self) c.in-Leaves.is
    ∙ call_left script budget r pieces base c.args.this c.args.after c.in-Leaves.field-0 h c.end_call.new.self c.end_call.ensures
    ∙ sym (ap (λ e. rest_under script budget r e (calling (frame_with c.args.this (drop base h.callers)) (afterwards c.args.after) ∷ pending_in (take base h.callers) pieces) h) c.in-Leaves.is)

pub returns-clause-kept : goal.returns-clause-kept
returns-clause-kept c script r budget =
    let from : result_by c.args.self.now.ending ≡ Some c.match-self.result = elim c.match-self.branch [
      | in-GoesOn w ↦ ap result_by w.in-GoesOn.is ∙ ap (λ p. Some p) (sym w.result-is)
      | in-Returns w ↦ ap result_by w.in-Returns.is ∙ ap (λ p. Some p) (sym w.result-is)
    ] in
    call_ends script budget r c.args.self.now.pieces.items c.args.base c.args.this c.args.after c.args.self.now.ending c.follow-self.result c.match-self.result c.args.state.now
    c.end_call.new.self c.follow-self.new.state from c.end_call.ensures c.follow-self.ensures.followed

pub returns-in-Leaves-clause-room : goal.returns-in-Leaves-clause-room
returns-in-Leaves-clause-room c room =
    back_room c.args.self.now.ending c.args.self.now.pieces.items c.args.state.now c.end_call.new.self c.args.this c.args.base c.end_call.ensures room

pub returns-clause-room : goal.returns-clause-room
returns-clause-room c room =
    let h = c.args.state.now in
    let ending = c.args.self.now.ending in
    let quiet = c.follow-self.ensures.quiet in
    let plain : after_leave ending ≡ 0 = elim c.match-self.branch [
      | in-GoesOn w ↦ ap after_leave w.in-GoesOn.is
      | in-Returns w ↦ ap after_leave w.in-Returns.is
    ] in
    passed_room ending c.follow-self.result c.args.self.now.pieces.items h c.follow-self.new.state plain c.requires
    (omega (arith, quiet.items, ap (λ (x : RunState). length x.items) c.end_call.ensures)) (quiet.slots ∙ ap (λ (x : RunState). x.slots) c.end_call.ensures) room
