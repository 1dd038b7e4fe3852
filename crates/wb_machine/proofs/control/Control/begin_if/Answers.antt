use Rattle.std.proofs.Common.{◌≡◌, ap, ◌∙◌, sym, subst, arith}
use Rattle.std.proofs.lemmas.Grind.{common_steps}
use Rattle.std.proofs.lemmas.Bool.Decides.{nat_tests}
use Rattle.std.proofs.lemmas.List.{nil_from_length}
use Rattle.wb_meaning.specs.Statements.{choice}
use Rattle.wb_machine.specs.declared.pieces.PendingPiece.TheVariants.{Code}
use Rattle.wb_machine.specs.Effects.{condition_read}
use Rattle.wb_machine.specs.Flow.{context_of, AreOwn, rest_from}
use Rattle.wb_machine.proofs.turns.Heads.{chosen_rest, nothing_chosen}
use Rattle.wb_machine.proofs.turns.Steps.{pending_pushed}
use Rattle.wb_machine.proofs.turns.Scripts.{sound_pushed}
use Rattle.wb_machine.proofs.control.Control.begin_if.Goals.{then-holds, else-holds}
use Rattle.wb_machine.proofs.control.Control.begin_if.Goals as goal

pub returns-then-is_empty-clause-kept : goal.returns-then-is_empty-clause-kept
returns-then-is_empty-clause-kept c r budget ok =
    let script = c.args.script.now in
    let h = c.args.state.now in
    let old = c.args.self.now.pieces.items in
    let first = c.args.first.now in
    let other = c.args.other.now in
    let chosen : c.if-holds.part.now ≡ choice (condition_read script h c.args.condition.now) first other = elim c.if-holds.branch [
      | then-holds w ↦ ap (λ x. x.now) w.part-is ∙ sym (ap (λ b. choice b first other) (sym c.holds.ensures ∙ w.if-holds.true))
      | else-holds w ↦ ap (λ x. x.now) w.part-is ∙ sym (ap (λ b. choice b first other) (sym c.holds.ensures ∙ w.if-holds.false))
    ] in
    ap (λ e. rest_from script budget r e old h) c.requires
    ∙ nothing_chosen script budget r (context_of c.args.at) c.args.condition.now first other c.if-holds.part.now old h
    (nil_from_length c.if-holds.part.now (grind (arith, common_steps, nat_tests, c.if-is_empty.ensures))) chosen ok

pub returns-clause-kept : goal.returns-clause-kept
returns-clause-kept c r budget ok =
    let script = c.args.script.now in
    let h = c.args.state.now in
    let new = c.push.new.self.pieces.items in
    let first = c.args.first.now in
    let other = c.args.other.now in
    let chosen : c.if-holds.part.now ≡ choice (condition_read script h c.args.condition.now) first other = elim c.if-holds.branch [
      | then-holds w ↦ ap (λ x. x.now) w.part-is ∙ sym (ap (λ b. choice b first other) (sym c.holds.ensures ∙ w.if-holds.true))
      | else-holds w ↦ ap (λ x. x.now) w.part-is ∙ sym (ap (λ b. choice b first other) (sym c.holds.ensures ∙ w.if-holds.false))
    ] in
    ap (λ e. rest_from script budget r e new h) (c.in_ok-push.ensures.ending ∙ c.requires)
    ∙ chosen_rest script budget r (context_of c.args.at) c.args.condition.now first other c.if-holds.part.now c.args.self.now.pieces.items new h
    (pending_pushed h.callers c.args.self.now.pieces.items new (Code c.args.at c.if-holds.part) c.in_ok-push.ensures.pieces) chosen ok

pub returns-clause-sound : goal.returns-clause-sound
returns-clause-sound c script first other below =
    sound_pushed script c.args.self.now.pieces.items c.push.new.self.pieces.items (Code c.args.at c.if-holds.part) c.in_ok-push.ensures.pieces below (elim c.if-holds.branch [
      | then-holds w ↦ subst (λ x. AreOwn script x.now) (sym w.part-is) first
      | else-holds w ↦ subst (λ x. AreOwn script x.now) (sym w.part-is) other
    ])
