use Rattle.std.proofs.Common.{sym, subst}
use Rattle.wb_tree.specs.declared.script_lines.Form.TheVariants.{Line}
use Rattle.wb_script.specs.Growing.{SaysWhereFit, declared_in_space}
use Rattle.wb_script.proofs.building.OpenPlaces.{no_part}
use Rattle.wb_script.proofs.tree.classes.read_class_line.Goals as goal

pub returns-in-End : goal.returns-in-End
returns-in-End c =
    subst (λ k. SaysWhereFit (declared_in_space c.args.space) c.args.number (Line k c.args.operands.now) c.args.whole.now c.args.class.now c.read_end.result) (sym c.in-End.is)
    c.read_end.ensures

pub returns-in_default : goal.returns-in_default
returns-in_default c = λ counts are fit. no_part c.args.class.now c.args.line_kind c.in_default.not-Field c.in_default.not-ClassField c.in_default.not-Constructor c.in_default.not-Destructor c.in_default.not-End
