use Rattle.std.proofs.Common.{◌≡◌, sym, ap, subst}
use Rattle.std.specs.Prelude.{IfOk}
use Rattle.wb_tree.specs.declared.script_lines.Form.TheVariants.{Line}
use Rattle.wb_language.specs.Trees.{Indexed}
use Rattle.wb_script.specs.declared.checks.resolved_lines.ResolvedLine.{ResolvedLine}
use Rattle.wb_script.specs.declared.tree.whole.Stage.{Stage}
use Rattle.wb_script.specs.declared.tree.whole.Stage.TheVariants.{InBody}
use Rattle.wb_script.specs.ResolvedLines.{form_of}
use Rattle.wb_script.specs.Growing.{Grows, GrowsWhereFit, IsBelowWhere, IsSoundWhere, declared_in_space, if_added, in_body}
use Rattle.wb_script.proofs.building.Growth.{result_grows, skip_grows}
use Rattle.wb_script.proofs.tree.add_next.Goals as goal

pub returns-in-Skip : goal.returns-in-Skip
returns-in-Skip c =
    subst (λ (l : ResolvedLine). Grows (declared_in_space c.args.space) c.args.number (form_of l) c.args.building.now c.args.building.now) (sym c.in-Skip.is)
    (skip_grows (declared_in_space c.args.space) c.args.number c.args.building.now c.requires.sound c.requires.below)

pub returns-then-not-closes_body : goal.returns-then-not-closes_body
returns-then-not-closes_body c =
    let declared = declared_in_space c.args.space in
    let number = c.args.number in
    let whole = c.args.building.now.whole in
    let owner = c.in-InBody.field-0 in
    let p = c.in-InBody.body in
    let line_kind = c.in-Line.line_kind in
    let operands = c.in-Line.operands.now in
    let next = c.add_inside_body.new.body in
    let result = c.add_inside_body.result in
    let stage_is : c.args.building.now.stage ≡ InBody owner p = cc in
    let line_is : form_of c.args.line ≡ Line line_kind operands = ap form_of c.in-Line.is in
    let sound = subst (IsSoundWhere declared whole) stage_is c.requires.sound.stands in
    let below = subst (IsBelowWhere number whole) stage_is c.requires.below.stands in
    let grows = result_grows declared number line_kind operands whole owner p sound below result next c.add_inside_body.ensures in
    subst (λ (l : Indexed). IfOk result (λ added. GrowsWhereFit declared number l c.args.building.now (if_added added (in_body whole owner next)))) (sym line_is)
    (subst (λ (s : Stage). IfOk result (λ added. GrowsWhereFit declared number (Line line_kind operands) (record { whole = whole; stage = s }) (if_added added (in_body whole owner next)))) (sym stage_is) grows)
