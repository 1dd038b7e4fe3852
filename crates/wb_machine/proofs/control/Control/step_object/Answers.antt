use Rattle.std.proofs.Common.{List, IsTrue, [], refl, ap, ◌∙◌, sym, subst, arith}
use Rattle.std.specs.List.{list_all}
use Rattle.wb_tree.specs.declared.script.Local.{Local}
use Rattle.wb_machine.specs.LocalValues.{is_small}
use Rattle.std.specs.Prelude.{unwrap_or}
use Rattle.wb_meaning.specs.Rest.{releases}
use Rattle.wb_tree.specs.Bodies.{class_at, no_body}
use Rattle.wb_machine.specs.declared.pieces.Ending.TheVariants.{Panics}
use Rattle.wb_machine.specs.RunState.{RunState}
use Rattle.wb_machine.specs.Bodies.{class_read}
use Rattle.wb_machine.specs.Effects.{stepped}
use Rattle.wb_machine.specs.Flow.{context_of, AreOwn, rest_from, rest_of_body}
use Rattle.wb_machine.proofs.effects.Outcomes.{on_ok_then, on_ok_anyhow}
use Rattle.wb_machine.proofs.kept.WholeCells.{stepped_whole}
use Rattle.wb_machine.proofs.turns.Heads.{destroy_as_body, destroy_refused}
use Rattle.wb_machine.proofs.turns.Steps.{rest_unmade}
use Rattle.wb_machine.proofs.turns.Scripts.{destroy_own}
use Rattle.wb_machine.proofs.kept.SlotsKept.{stepped_free, quiet_room, stop_room}
use Rattle.wb_machine.proofs.control.Control.step_object.Goals as goal

pub returns-in-Ok-clause-kept : goal.returns-in-Ok-clause-kept
returns-in-Ok-clause-kept c =
    on_ok_then c.begin_body.result c.begin_body.ensures.kept (λ kept r budget within.
    let script = c.args.script.now in
    let h = c.args.state.now in
    let at = context_of c.args.at in
    let p = c.args.ptr in
    let old = c.args.self.now.pieces.items in
    let body = unwrap_or (class_at script c.in-Ok.class).destroy no_body in
    rest_unmade script budget r at p old c.begin_body.new.self.pieces.items c.begin_body.new.self.ending h c.begin_body.new.state within
    (kept r budget body (record { locals = c.destroy_at-body.ensures.locals; statements = c.destroy_at-body.ensures.statements })
    ∙ ap (λ (x : RunState). rest_of_body script budget r at p [] body (releases p) old x) c.tick.ensures
    ∙ destroy_as_body script budget r at p c.in-Ok.class old (stepped h) (sym c.in-Ok.is ∙ c.class.ensures ∙ ap (λ (x : RunState). class_read x p) c.tick.ensures)))

pub returns-in-Ok-clause-sound : goal.returns-in-Ok-clause-sound
returns-in-Ok-clause-sound c =
    let script = c.args.script.now in
    on_ok_then c.begin_body.result c.begin_body.ensures.sound (λ sound below.
    sound script (subst (AreOwn script) (sym c.destroy_at-body.ensures.statements) (destroy_own script c.requires.script c.in-Ok.class).0) below)

pub returns-in-Err-clause-kept : goal.returns-in-Err-clause-kept
returns-in-Err-clause-kept c r budget within =
    let script = c.args.script.now in
    let h = c.args.state.now in
    let at = context_of c.args.at in
    let old = c.args.self.now.pieces.items in
    rest_unmade script budget r at c.args.ptr old old (Panics c.in-Err.panic) h c.tick.new.self within
    (ap (λ (x : RunState). rest_from script budget r (Panics c.in-Err.panic) old x) c.tick.ensures
    ∙ destroy_refused script budget r at c.args.ptr c.in-Err.panic old (stepped h) (sym c.in-Err.is ∙ c.class.ensures ∙ ap (λ (x : RunState). class_read x c.args.ptr) c.tick.ensures))

pub begin_body-requires-clause-locals : goal.begin_body-requires-clause-locals
begin_body-requires-clause-locals c =
    subst (λ (locals : List Local). IsTrue (list_all is_small locals)) (sym c.destroy_at-body.ensures.locals) (destroy_own c.args.script.now c.requires.script c.in-Ok.class).1

pub returns-in-Ok-clause-whole : goal.returns-in-Ok-clause-whole
returns-in-Ok-clause-whole c =
    let script = c.args.script.now in
    on_ok_anyhow c.begin_body.result (λ whole. c.begin_body.ensures.quiet.whole script (stepped_whole script c.args.state.now c.tick.new.self c.tick.ensures whole))

pub returns-in-Err-clause-whole : goal.returns-in-Err-clause-whole
returns-in-Err-clause-whole c = stepped_whole c.args.script.now c.args.state.now c.tick.new.self c.tick.ensures

pub returns-in-Ok-clause-room : goal.returns-in-Ok-clause-room
returns-in-Ok-clause-room c =
    let old = c.args.self.now.pieces.items in
    on_ok_then c.begin_body.result c.begin_body.ensures.slots (λ slots.
    quiet_room c.begin_body.new.self.ending old c.begin_body.new.self.pieces.items c.tick.new.self c.begin_body.new.state
    (stepped_free old old c.args.state.now c.tick.new.self c.tick.ensures (omega arith) c.requires.free) slots c.begin_body.ensures.quiet)

pub returns-in-Err-clause-room : goal.returns-in-Err-clause-room
returns-in-Err-clause-room c = stop_room (Panics c.in-Err.panic) c.args.self.now.pieces.items c.tick.new.self refl
