use Rattle.std.proofs.Common.{ap, ◌∙◌, sym, subst, refl, arith}
use Rattle.std.specs.List.{list_all}
use Rattle.wb_machine.specs.LocalValues.{is_small}
use Rattle.wb_machine.specs.declared.pieces.Ending.TheVariants.{NoCleanup}
use Rattle.wb_machine.specs.declared.pieces.PendingPiece.TheVariants.{Code}
use Rattle.wb_machine.specs.declared.pieces.TheConstants.{IN_MAIN}
use Rattle.wb_heap_model.specs.Debug.{Debug}
use Rattle.wb_machine.specs.Flow.{AreOwn}
use Rattle.wb_machine.specs.ObjectInvariant.{AreWhole}
use Rattle.wb_machine.specs.SlotInvariant.{slots_for_all}
use Rattle.wb_machine.specs.RunState.{main_of, with_debug}
use Rattle.wb_machine.specs.Effects.{entered, first_made, started_by}
use Rattle.wb_machine.proofs.turns.FirstTurn.{granted_enters, granted_goes, refused_ends, refused_stays, run_begun, begun_pieces}
use Rattle.wb_machine.proofs.kept.WholeCells.{started_whole}
use Rattle.wb_machine.proofs.turns.Scripts.{main_there, procedure_locals, procedure_statements, sound_begun}
use Rattle.wb_machine.proofs.kept.SlotsKept.{begun_room, stop_room}
use Rattle.wb_machine.proofs.control.Control.begin.Goals as goal

pub procedure_at-main-requires : goal.procedure_at-main-requires
procedure_at-main-requires c = main_there c.args.script.now c.requires.script

pub enter-requires-clause-locals : goal.enter-requires-clause-locals
enter-requires-clause-locals c =
    let script = c.args.script.now in
    ap (list_all is_small) (c.as_slice.ensures ∙ ap (λ b. b.locals) c.procedure_at-main.ensures) ∙ procedure_locals script c.requires.script script.main (main_there script c.requires.script)

pub returns-then-not-branch-clause-kept : goal.returns-then-not-branch-clause-kept
returns-then-not-branch-clause-kept c r budget f =
    let h = c.args.state.now in
    let script = c.args.script.now in
    let after = with_debug h (first_made h).debug in
    let refused = sym c.in_ok-start.ensures.granted ∙ c.if-not-branch.true in
    run_begun r script budget h c.start.new.self NoCleanup (main_of script).statements c.args.self.now.pieces.items c.requires.first.start
    (sym (refused_ends after (main_of script).locals (first_made h).gave refused c.in_ok-start.ensures.uncut))
    (c.in_ok-start.ensures.started ∙ refused_stays after (main_of script).locals (first_made h).gave refused) f refl (λ e callers. cc)

pub returns-clause-kept : goal.returns-clause-kept
returns-clause-kept c r budget f =
    let h = c.args.state.now in
    let script = c.args.script.now in
    let locals = (main_of script).locals in
    let after = with_debug h (first_made h).debug in
    let granted = sym c.in_ok-start.ensures.granted ∙ c.if-not-branch.false in
    run_begun r script budget h c.enter.new.self c.push-2.new.self.ending c.as_slice-2.result.now c.push-2.new.self.pieces.items c.requires.first.start
    (c.in_ok-push-2.ensures.ending ∙ c.in_ok-push.ensures.ending ∙ c.requires.first.goes_on ∙ sym (granted_goes after locals (first_made h).gave granted))
    (c.in_ok-enter.ensures.entered ∙ ap (λ x. entered x c.as_slice.result.now) c.in_ok-start.ensures.started
    ∙ ap (entered (started_by after (first_made h).gave)) (c.as_slice.ensures ∙ ap (λ b. b.locals) c.procedure_at-main.ensures) ∙ granted_enters after locals (first_made h).gave granted)
    f (c.as_slice-2.ensures ∙ ap (λ b. b.statements) c.procedure_at-main.ensures)
    (λ e callers. begun_pieces callers c.args.self.now.pieces.items c.push.new.self.pieces.items c.push-2.new.self.pieces.items (Code IN_MAIN c.as_slice-2.result) c.requires.first.nothing
    c.in_ok-push.ensures.pieces c.in_ok-push-2.ensures.pieces)

pub returns-clause-sound : goal.returns-clause-sound
returns-clause-sound c =
    let script = c.args.script.now in
    sound_begun script c.args.self.now.pieces.items c.push.new.self.pieces.items c.push-2.new.self.pieces.items (Code IN_MAIN c.as_slice-2.result) c.requires.first.nothing
    c.in_ok-push.ensures.pieces c.in_ok-push-2.ensures.pieces
    (subst (AreOwn script) (sym (c.as_slice-2.ensures ∙ ap (λ b. b.statements) c.procedure_at-main.ensures)) (procedure_statements script c.requires.script script.main (main_there script c.requires.script)))

pub returns-then-not-branch-clause-whole : goal.returns-then-not-branch-clause-whole
returns-then-not-branch-clause-whole c = started_whole c.args.script.now c.args.state.now c.start.new.self c.requires.first.start c.in_ok-start.ensures.started

pub returns-clause-whole : goal.returns-clause-whole
returns-clause-whole c =
    let script = c.args.script.now in
    subst (λ (d : Debug). AreWhole script d.heap.row) (sym c.enter.ensures.debug) (started_whole script c.args.state.now c.start.new.self c.requires.first.start c.in_ok-start.ensures.started)

pub returns-then-not-branch-clause-room : goal.returns-then-not-branch-clause-room
returns-then-not-branch-clause-room c = stop_room NoCleanup c.args.self.now.pieces.items c.start.new.self refl

pub returns-clause-room : goal.returns-clause-room
returns-clause-room c =
    begun_room c.push-2.new.self.ending c.push-2.new.self.pieces.items c.args.state.now c.start.new.self c.enter.new.self c.as_slice.result.now c.requires.first.start c.in_ok-start.ensures.started
    c.in_ok-enter.ensures.entered (omega (arith, c.in_ok-push-2.ensures.slots, c.in_ok-push.ensures.slots, ap slots_for_all c.requires.first.nothing))
