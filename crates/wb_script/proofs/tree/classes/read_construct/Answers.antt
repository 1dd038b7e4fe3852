use Rattle.std.proofs.Common.{[], sym, subst, ◌∙◌}
use Rattle.wb_tree.specs.declared.script_lines.Form.TheVariants.{Line}
use Rattle.wb_tree.specs.declared.script_lines.LineKind.TheVariants as line_kind
use Rattle.wb_script.specs.declared.tree.classes.ClassLine.TheVariants as says
use Rattle.wb_script.specs.Growing.{Grows, building_after, declared_in_space, in_class}
use Rattle.wb_script.proofs.building.FittingHeads.{absent}
use Rattle.wb_script.proofs.building.ClassGrowth.{constructor_grows}
use Rattle.wb_script.proofs.lists.Tests.{nothing}
use Rattle.wb_script.proofs.tree.classes.read_construct.Goals as goal

pub returns : goal.returns
returns c =
    let declared = declared_in_space c.args.space in
    let class = c.args.class.now in
    let before = in_class c.args.whole.now class in
    let first = absent class.construct (sym c.is_some.ensures ∙ c.if-is_some.false) in
    let second = absent class.destroy (sym c.is_some-else-is_some.ensures ∙ c.if-is_some-2.false) in
    let grown = constructor_grows declared c.args.number c.args.whole.now class c.requires.sound.stands c.requires.below.stands first second in
    subst (λ o. Grows declared c.args.number (Line line_kind.Constructor o) before (building_after c.args.whole.now class (says.Constructor c.in_ok-body.body))) (sym (nothing c.args.operands.now c.if-not-is_empty.ensures))
    (subst (λ p. Grows declared c.args.number (Line line_kind.Constructor []) before (building_after c.args.whole.now class (says.Constructor p))) (sym c.in_ok-body.ensures) grown)
