use Rattle.std.proofs.Common.{List, IsTrue, [], ap, ◌∙◌, sym, subst}
use Rattle.std.specs.List.{list_all}
use Rattle.wb_tree.specs.declared.script.Local.{Local}
use Rattle.wb_machine.specs.LocalValues.{is_small}
use Rattle.std.specs.Prelude.{unwrap_or}
use Rattle.wb_heap_model.specs.declared.heap.Ptr.{Ptr}
use Rattle.wb_meaning.specs.Rest.{nothing_more}
use Rattle.wb_tree.specs.Bodies.{class_at, no_body}
use Rattle.wb_machine.specs.Bodies.{class_read}
use Rattle.wb_machine.specs.Flow.{context_of, AreOwn, rest_of_body}
use Rattle.wb_machine.proofs.effects.Outcomes.{on_ok_then}
use Rattle.wb_machine.proofs.turns.Heads.{construct_as_body, construct_refused}
use Rattle.wb_machine.proofs.turns.Scripts.{construct_own}
use Rattle.wb_machine.proofs.control.Control.begin_construct.Goals as goal

pub returns-in-Ok-clause-kept : goal.returns-in-Ok-clause-kept
returns-in-Ok-clause-kept c =
    on_ok_then c.begin_body.result c.begin_body.ensures.kept (λ kept r budget ok.
    let script = c.args.script.now in
    let h = c.args.state.now in
    let old = c.args.self.now.pieces.items in
    let body = unwrap_or (class_at script c.in-Ok.class).construct no_body in
    kept r budget body (record { locals = c.construct_at-body.ensures.locals; statements = c.construct_at-body.ensures.statements })
    ∙ ap (λ (p : Ptr). rest_of_body script budget r (context_of c.args.at) p [] body nothing_more old h) c.pointer-this.ensures
    ∙ construct_as_body script budget r (context_of c.args.at) c.args.object.now c.in-Ok.class old h ok (sym c.in-Ok.is ∙ c.class.ensures ∙ ap (class_read h) c.pointer-this.ensures))

pub returns-in-Ok-clause-sound : goal.returns-in-Ok-clause-sound
returns-in-Ok-clause-sound c =
    let script = c.args.script.now in
    on_ok_then c.begin_body.result c.begin_body.ensures.sound (λ sound below.
    sound script (subst (AreOwn script) (sym c.construct_at-body.ensures.statements) (construct_own script c.requires.script c.in-Ok.class).0) below)

pub returns-in-Err-clause-kept : goal.returns-in-Err-clause-kept
returns-in-Err-clause-kept c r budget ok =
    let script = c.args.script.now in
    let h = c.args.state.now in
    construct_refused script budget r (context_of c.args.at) c.args.object.now c.in-Err.panic c.args.self.now.pieces.items h ok (sym c.in-Err.is ∙ c.class.ensures ∙ ap (class_read h) c.pointer-this.ensures)

pub begin_body-requires-clause-locals : goal.begin_body-requires-clause-locals
begin_body-requires-clause-locals c =
    subst (λ (locals : List Local). IsTrue (list_all is_small locals)) (sym c.construct_at-body.ensures.locals) (construct_own c.args.script.now c.requires.script c.in-Ok.class).1
