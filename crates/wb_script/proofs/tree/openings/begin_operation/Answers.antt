use Rattle.std.proofs.Common.{◌≡◌, ◌∙◌, ◌++◌, List, None, ap, subst, sym}
use Rattle.wb_tree.specs.declared.script.Parameter.{Parameter}
use Rattle.wb_tree.specs.declared.script_lines.Form.TheVariants.{Line}
use Rattle.wb_tree.specs.declared.script_lines.LineKind.TheVariants as line_kind
use Rattle.wb_tree.specs.Spellings.{its_parameters}
use Rattle.wb_script.specs.declared.tree.whole.Owner.TheVariants as of
use Rattle.wb_script.specs.Growing.{Grows, declared_in_space, in_body, is_operation_head, new_body, outside}
use Rattle.wb_script.proofs.building.ItemGrowth.{operation_grows}
use Rattle.wb_script.proofs.tree.openings.begin_operation.Goals as goal

pub returns : goal.returns
returns c =
    let whole = c.args.whole.now in
    let pushed : c.push.new.self ≡ its_parameters = c.in_ok-push.ensures.pushed ∙ ap (λ (l : List Parameter). l ++ its_parameters) c.new-parameters.ensures in
    let head = ap (λ i. is_operation_head i c.args.operands.now) (sym c.len.ensures) ∙ sym c.if-not-begins_operation.ensures in
    subst (λ p. Grows (declared_in_space c.args.space) c.args.number (Line line_kind.Op c.args.operands.now) (outside whole) (in_body whole (of.Operation c.args.number) p)) (sym (c.in_ok-body.ensures ∙ ap (new_body None) pushed))
    (operation_grows (declared_in_space c.args.space) c.args.number whole c.requires.sound.stands c.requires.below.stands c.args.operands.now (sym c.if-not-has_room.ensures) head)
