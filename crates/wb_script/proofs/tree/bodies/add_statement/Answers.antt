use Rattle.std.proofs.Common.{sym, subst}
use Rattle.wb_tree.specs.declared.script_lines.Form.TheVariants.{Line}
use Rattle.wb_script.specs.declared.tree.bodies.OpenBody.{OpenBody}
use Rattle.wb_script.specs.declared.tree.bodies.BodyProgress.TheVariants.{Inside}
use Rattle.wb_script.specs.Building.{line_kinds_of_blocks}
use Rattle.wb_script.specs.Growing.{Adds, declared_in_space, scope_in_body}
use Rattle.wb_script.specs.Stated.{IsStatedWhereFit}
use Rattle.wb_script.proofs.building.Additions.{stated_adds}
use Rattle.wb_script.proofs.building.BodyMisfits.{unstated}
use Rattle.wb_script.proofs.tree.bodies.add_statement.Goals as goal

pub returns-in_ok-push_statement-in-Some : goal.returns-in_ok-push_statement-in-Some
returns-in_ok-push_statement-in-Some c =
    let declared = declared_in_space c.args.space in
    let p = c.args.body.now in
    let one = subst (IsStatedWhereFit declared (scope_in_body declared p) (line_kinds_of_blocks p.block_stack.blocks) c.args.line_kind c.args.operands.now) c.in-Some.is c.in_ok-statement.ensures in
    subst (λ (next : OpenBody). Adds declared c.args.number (Line c.args.line_kind c.args.operands.now) p (Inside next)) (sym c.in_ok-push_statement-in-Some.ensures)
    (stated_adds declared c.args.number p c.args.line_kind c.args.operands.now c.in-Some.statement c.requires.sound c.requires.plain one)

pub returns-in-None : goal.returns-in-None
returns-in-None c = λ before fit.
    let declared = declared_in_space c.args.space in
    let p = c.args.body.now in
    let none = subst (IsStatedWhereFit declared (scope_in_body declared p) (line_kinds_of_blocks p.block_stack.blocks) c.args.line_kind c.args.operands.now) c.in-None.is c.in_ok-statement.ensures in
    unstated declared p c.args.line_kind c.args.operands.now before none fit
