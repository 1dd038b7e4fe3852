use Rattle.std.proofs.Common.{List, ◌∷◌, ◌+◌, take, drop, ap, ◌∙◌}
use Rattle.wb_tree.specs.declared.script.Local.{Local}
use Rattle.wb_tree.specs.declared.script.StatementAt.{StatementAt}
use Rattle.wb_heap_model.specs.declared.heap.Ptr.{Ptr}
use Rattle.wb_meaning.specs.Statements.{all}
use Rattle.wb_meaning.specs.Rest.{Pending, doing, calling}
use Rattle.wb_machine.specs.declared.pieces.PendingPiece.TheVariants.{Code, Call}
use Rattle.wb_machine.specs.Effects.{framed_with}
use Rattle.wb_machine.specs.LocalValues.{values_of_arguments}
use Rattle.wb_machine.specs.Flow.{context_of, afterwards, frame_with, pending_in, rest_from}
use Rattle.wb_machine.proofs.turns.Heads.{body_rest, body_refused}
use Rattle.wb_machine.proofs.turns.Scripts.{sound_pushed}
use Rattle.wb_machine.proofs.turns.Steps.{pending_pushed}
use Rattle.wb_machine.proofs.control.Control.begin_body.Goals as goal

pub returns-then-at-ge-MOST_FRAMES-clause-kept : goal.returns-then-at-ge-MOST_FRAMES-clause-kept
returns-then-at-ge-MOST_FRAMES-clause-kept c r budget body is =
    let script = c.args.script.now in
    body_refused script budget r (context_of c.args.at) c.args.this (values_of_arguments script c.args.state.now c.args.call_arguments) body (afterwards c.args.after) c.args.self.now.pieces.items c.args.state.now
    c.if-at-ge-MOST_FRAMES.true

pub returns-clause-kept : goal.returns-clause-kept
returns-clause-kept c r budget body is =
    let script = c.args.script.now in
    let h = c.args.state.now in
    let g = c.call.new.self in
    let base = c.in_ok-base.base in
    let given = values_of_arguments script h c.args.call_arguments in
    let old = c.args.self.now.pieces.items in
    let mid = c.push.new.self.pieces.items in
    let new = c.push-2.new.self.pieces.items in
    let inside = record c.args.at { depth = c.args.at.depth + 1 } in
    ap (λ e. rest_from script budget r e new g) (c.in_ok-push-2.ensures.ending ∙ c.in_ok-push.ensures.ending ∙ c.requires.going)
    ∙ body_rest script budget r (context_of c.args.at) c.args.this given body (afterwards c.args.after) base old new h g
    c.if-at-ge-MOST_FRAMES.false c.in_ok-base.ensures.caller (c.in_ok-base.ensures.called ∙ ap (λ (ls : List Local). framed_with h c.args.this given ls) is.locals)
    (pending_pushed g.callers mid new (Code inside c.args.body.statements) c.in_ok-push-2.ensures.pieces
    ∙ ap (λ (ps : List Pending). doing (context_of inside) (all c.args.body.statements.now) ∷ ps) (pending_pushed g.callers old mid (Call base c.this-caller.result c.args.after) c.in_ok-push.ensures.pieces)
    ∙ ap (λ (ss : List StatementAt). doing (context_of inside) (all ss) ∷ calling (frame_with c.this-caller.result (drop base g.callers)) (afterwards c.args.after) ∷ pending_in (take base g.callers) old) is.statements
    ∙ ap (λ (p : Ptr). doing (context_of inside) (all body.statements) ∷ calling (frame_with p (drop base g.callers)) (afterwards c.args.after) ∷ pending_in (take base g.callers) old) c.this-caller.ensures)

pub returns-clause-sound : goal.returns-clause-sound
returns-clause-sound c script own below =
    let inside = record c.args.at { depth = c.args.at.depth + 1 } in
    sound_pushed script c.push.new.self.pieces.items c.push-2.new.self.pieces.items (Code inside c.args.body.statements) c.in_ok-push-2.ensures.pieces
    (sound_pushed script c.args.self.now.pieces.items c.push.new.self.pieces.items (Call c.in_ok-base.base c.this-caller.result c.args.after) c.in_ok-push.ensures.pieces below tt) own
