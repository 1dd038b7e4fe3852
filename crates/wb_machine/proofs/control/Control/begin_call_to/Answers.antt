use Rattle.std.proofs.Common.{ap, ◌∙◌, sym, subst}
use Rattle.std.specs.List.{list_all}
use Rattle.wb_tree.specs.declared.script.Body.{Body}
use Rattle.wb_tree.specs.Bodies.{procedure_at}
use Rattle.wb_machine.specs.LocalValues.{is_small}
use Rattle.wb_machine.specs.Flow.{context_of, AreOwn}
use Rattle.wb_machine.proofs.effects.Outcomes.{on_ok_then}
use Rattle.wb_machine.proofs.turns.Heads.{call_to_as_body}
use Rattle.wb_machine.proofs.turns.Scripts.{procedure_locals, procedure_statements}
use Rattle.wb_machine.proofs.control.Control.begin_call_to.Goals as goal

pub begin_body-requires-clause-locals : goal.begin_body-requires-clause-locals
begin_body-requires-clause-locals c =
    ap (list_all is_small) (c.content_of-body.ensures.locals ∙ ap (λ (b : Body). b.locals) c.procedure_at.ensures) ∙ procedure_locals c.args.script.now c.requires.script c.args.index c.requires.there

pub returns-clause-kept : goal.returns-clause-kept
returns-clause-kept c =
    on_ok_then c.begin_body.result c.begin_body.ensures.kept (λ kept r budget fine.
    let script = c.args.script.now in
    kept r budget (procedure_at script c.args.index)
    (record { locals = c.content_of-body.ensures.locals ∙ ap (λ (b : Body). b.locals) c.procedure_at.ensures; statements = c.content_of-body.ensures.statements ∙ ap (λ (b : Body). b.statements) c.procedure_at.ensures })
    ∙ call_to_as_body script budget r (context_of c.args.at) c.args.target c.args.index c.args.arguments.now c.args.self.now.pieces.items c.args.state.now fine)

pub returns-clause-sound : goal.returns-clause-sound
returns-clause-sound c =
    let script = c.args.script.now in
    on_ok_then c.begin_body.result c.begin_body.ensures.sound (λ sound below.
    sound script (subst (AreOwn script) (sym (c.content_of-body.ensures.statements ∙ ap (λ (b : Body). b.statements) c.procedure_at.ensures)) (procedure_statements script c.requires.script c.args.index c.requires.there)) below)
