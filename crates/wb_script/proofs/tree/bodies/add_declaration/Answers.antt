use Rattle.std.proofs.Common.{sym, subst}
use Rattle.wb_tree.specs.declared.script_lines.Form.TheVariants.{Line}
use Rattle.wb_script.specs.declared.tree.bodies.BodyProgress.TheVariants.{Inside}
use Rattle.wb_script.specs.Growing.{Adds, declared_in_space}
use Rattle.wb_script.proofs.building.Additions.{declared_adds}
use Rattle.wb_script.proofs.tree.bodies.add_declaration.Goals as goal

pub returns-in_ok-push_local-in-Some : goal.returns-in_ok-push_local-in-Some
returns-in_ok-push_local-in-Some c =
    subst (λ p. Adds (declared_in_space c.args.space) c.args.number (Line c.args.line_kind c.args.operands.now) c.args.body.now (Inside p)) (sym c.in_ok-push_local-in-Some.ensures)
    (declared_adds (declared_in_space c.args.space) c.args.number c.args.body.now c.args.line_kind c.args.operands.now c.in-Some.local c.requires.sound c.requires.declares c.in-Some.ensures)
