use Rattle.std.proofs.Common.{sym, subst}
use Rattle.std.specs.Prelude.{IfOk}
use Rattle.wb_tree.specs.declared.script_lines.Form.TheVariants.{Line}
use Rattle.wb_tree.specs.declared.script_lines.LineKind.{LineKind}
use Rattle.wb_script.specs.declared.tree.bodies.BodyProgress.TheVariants.{Inside}
use Rattle.wb_script.specs.Growing.{AddsWhereFit, declared_in_space, if_added}
use Rattle.wb_script.proofs.building.BodyMisfits.{opens_item}
use Rattle.wb_script.proofs.building.Nests.{no_body_inside}
use Rattle.wb_script.proofs.tree.bodies.add_inside_body.Goals as goal

pub returns-in-Class : goal.returns-in-Class
returns-in-Class c = λ before fit. no_body_inside c.args.body.now.block_stack.blocks c.args.body.now.block_stack.statements _ (opens_item c.args.line_kind c.in-Class.is)

pub returns-in-Else : goal.returns-in-Else
returns-in-Else c =
    subst (λ (k : LineKind). IfOk c.add_else.result (λ added. AddsWhereFit (declared_in_space c.args.space) c.args.number (Line k c.args.operands.now) c.args.body.now (if_added added (Inside c.add_else.new.body)))) (sym c.in-Else.is) c.add_else.ensures

pub returns-in-End : goal.returns-in-End
returns-in-End c =
    subst (λ (k : LineKind). IfOk c.add_end.result (λ added. AddsWhereFit (declared_in_space c.args.space) c.args.number (Line k c.args.operands.now) c.args.body.now (if_added added (Inside c.add_end.new.body)))) (sym c.in-End.is) c.add_end.ensures
