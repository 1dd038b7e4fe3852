use Rattle.std.proofs.Common.{sym, subst}
use Rattle.std.specs.Prelude.{IfOk}
use Rattle.wb_tree.specs.declared.script_lines.Form.TheVariants.{Line}
use Rattle.wb_script.specs.Growing.{GrowsWhereFit, declared_in_space, in_class}
use Rattle.wb_script.proofs.tree.add_line.Goals as goal

pub returns-in-InClass : goal.returns-in-InClass
returns-in-InClass c =
    let declared = declared_in_space c.args.space in
    let line = Line c.args.line_kind c.args.operands.now in
    subst (λ s. IfOk c.add_to_class.result (GrowsWhereFit declared c.args.number line (record { whole = c.args.building.whole; stage = s }))) (sym c.in-InClass.is)
    (subst (λ k. IfOk c.add_to_class.result (GrowsWhereFit declared c.args.number line (in_class c.args.building.whole k))) c.in-InClass.class-is c.add_to_class.ensures)
