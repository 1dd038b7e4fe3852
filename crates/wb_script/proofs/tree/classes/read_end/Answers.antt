use Rattle.std.proofs.Common.{sym, subst}
use Rattle.wb_tree.specs.declared.script_lines.Form.TheVariants.{Line}
use Rattle.wb_tree.specs.declared.script_lines.LineKind.TheVariants as line_kind
use Rattle.wb_script.specs.Growing.{Grows, declared_in_space, in_class, outside, with_class}
use Rattle.wb_script.proofs.building.ClassGrowth.{end_grows}
use Rattle.wb_script.proofs.lists.Tests.{nothing}
use Rattle.wb_script.proofs.tree.classes.read_end.Goals as goal

pub returns-then-is_empty : goal.returns-then-is_empty
returns-then-is_empty c =
    let declared = declared_in_space c.args.space in
    let whole = c.args.whole.now in
    let class = c.args.class.now in
    subst (λ o. Grows declared c.args.number (Line line_kind.End o) (in_class whole class) (outside (with_class whole class))) (sym (nothing c.args.operands.now c.if-is_empty.ensures))
    (end_grows declared c.args.number whole class c.requires.sound.stands c.requires.below.stands)
