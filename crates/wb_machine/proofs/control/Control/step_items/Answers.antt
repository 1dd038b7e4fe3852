use Rattle.std.proofs.Common.{◌-◌, refl, ap, ◌∙◌, sym, arith}
use Rattle.wb_heap_model.specs.declared.heap.TheConstants.Panic.{POP_BELOW_TRAP}
use Rattle.wb_heap_model.specs.Pointers.{newest}
use Rattle.wb_meaning.specs.Statements.{destroyed_item}
use Rattle.wb_meaning.specs.Meaning.{meaning_of}
use Rattle.wb_machine.specs.declared.pieces.Ending.TheVariants.{Panics}
use Rattle.wb_machine.specs.declared.pieces.PendingPiece.TheVariants.{Items}
use Rattle.wb_machine.specs.RunState.{RunState, state_of}
use Rattle.wb_machine.specs.Bodies.{without_newest}
use Rattle.wb_machine.specs.Flow.{context_of, rest_from, rest_after}
use Rattle.wb_machine.proofs.effects.Outcomes.{on_ok_then, on_ok_anyhow}
use Rattle.wb_machine.proofs.kept.WholeCells.{taken_whole}
use Rattle.wb_machine.proofs.turns.Steps.{pending_pushed, rest_destroyed, rest_undestroyed}
use Rattle.wb_machine.proofs.turns.Scripts.{sound_pushed}
use Rattle.wb_machine.proofs.kept.SlotsKept.{taken_free, quiet_room, stop_room}
use Rattle.wb_machine.proofs.control.Control.step_items.Goals as goal

pub returns-in-Some-clause-kept : goal.returns-in-Some-clause-kept
returns-in-Some-clause-kept c =
    on_ok_then c.begin_item.result c.begin_item.ensures.kept (λ kept r budget within.
    let script = c.args.script.now in
    let h = c.args.state.now in
    let at = context_of c.args.at in
    let n = c.args.left - 1 in
    let old = c.args.self.now.pieces.items in
    let mid = c.push.new.self.pieces.items in
    let taken = c.take_newest.ensures.taken ∙ ap without_newest c.tick.ensures in
    rest_destroyed script budget r at c.args.left n c.in-Some.item old mid c.begin_item.new.self.pieces.items c.begin_item.new.self.ending h c.begin_item.new.state
    (pending_pushed h.callers old mid (Items c.args.at n) c.in_ok-push.ensures.pieces) (omega (arith, c.requires.left)) within
    (sym (ap (λ (x : RunState). newest x.items) c.tick.ensures) ∙ sym c.take_newest.ensures.item ∙ c.in-Some.is)
    (kept r budget ∙ ap (λ (x : RunState). rest_after script budget r (destroyed_item script (meaning_of script budget) at c.in-Some.item (state_of script x)) mid x) taken))

pub returns-in-Some-clause-sound : goal.returns-in-Some-clause-sound
returns-in-Some-clause-sound c =
    on_ok_then c.begin_item.result c.begin_item.ensures.sound (λ sound below.
    sound (sound_pushed c.args.script.now c.args.self.now.pieces.items c.push.new.self.pieces.items (Items c.args.at (c.args.left - 1)) c.in_ok-push.ensures.pieces below tt))

pub returns-in-None-clause-kept : goal.returns-in-None-clause-kept
returns-in-None-clause-kept c r budget within =
    let script = c.args.script.now in
    let h = c.args.state.now in
    let old = c.args.self.now.pieces.items in
    let new = c.push.new.self.pieces.items in
    let none = sym (ap (λ (x : RunState). newest x.items) c.tick.ensures) ∙ sym c.take_newest.ensures.item ∙ c.in-None.is in
    ap (λ (x : RunState). rest_from script budget r (Panics POP_BELOW_TRAP) new x) (c.take_newest.ensures.taken ∙ ap without_newest c.tick.ensures)
    ∙ rest_undestroyed script budget r (context_of c.args.at) c.args.left (c.args.left - 1) old new h (omega (arith, c.requires.left)) within none

pub returns-in-None-clause-sound : goal.returns-in-None-clause-sound
returns-in-None-clause-sound c below =
    sound_pushed c.args.script.now c.args.self.now.pieces.items c.push.new.self.pieces.items (Items c.args.at (c.args.left - 1)) c.in_ok-push.ensures.pieces below tt

pub returns-in-Some-clause-whole : goal.returns-in-Some-clause-whole
returns-in-Some-clause-whole c =
    let script = c.args.script.now in
    on_ok_anyhow c.begin_item.result (λ whole.
    c.begin_item.ensures.quiet.whole script (taken_whole script c.args.state.now c.tick.new.self c.take_newest.new.self c.tick.ensures c.take_newest.ensures.taken whole))

pub returns-in-None-clause-whole : goal.returns-in-None-clause-whole
returns-in-None-clause-whole c = taken_whole c.args.script.now c.args.state.now c.tick.new.self c.take_newest.new.self c.tick.ensures c.take_newest.ensures.taken

pub returns-in-Some-clause-room : goal.returns-in-Some-clause-room
returns-in-Some-clause-room c =
    let mid = c.push.new.self.pieces.items in
    on_ok_then c.begin_item.result c.begin_item.ensures.slots (λ slots.
    quiet_room c.begin_item.new.self.ending mid c.begin_item.new.self.pieces.items c.take_newest.new.self c.begin_item.new.state
    (taken_free c.args.self.now.pieces.items mid c.args.state.now c.tick.new.self c.take_newest.new.self c.tick.ensures c.take_newest.ensures.taken (omega (arith, c.in_ok-push.ensures.slots)) c.requires.free)
    slots c.begin_item.ensures.quiet)

pub returns-in-None-clause-room : goal.returns-in-None-clause-room
returns-in-None-clause-room c = stop_room (Panics POP_BELOW_TRAP) c.push.new.self.pieces.items c.take_newest.new.self refl
