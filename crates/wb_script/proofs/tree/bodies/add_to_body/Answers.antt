use Rattle.std.proofs.Common.{◌≡◌, ◌<◌, [], Bool, length, sym, subst}
use Rattle.std.specs.Prelude.{MatchBool}
use Rattle.wb_tree.specs.declared.script_lines.Form.TheVariants.{Line}
use Rattle.wb_tree.specs.declared.script_lines.LineKind.{LineKind}
use Rattle.wb_tree.specs.declared.script_lines.LineKind.TheVariants as kind
use Rattle.wb_script.specs.Growing.{AddsWhereFit, declared_in_space}
use Rattle.wb_script.proofs.tree.bodies.add_to_body.Goals as goal

pub returns-then-closes_body : goal.returns-then-closes_body
returns-then-closes_body c =
    let blocks = c.args.body.block_stack.blocks in
    let closed = subst (λ (r : Bool). MatchBool r ((c.args.line_kind ≡ kind.End) × (blocks ≡ [])) (c.args.line_kind ≡ kind.End → 0 < length blocks)) c.if-closes_body.true c.closes_body.ensures in
    subst (λ (k : LineKind). AddsWhereFit (declared_in_space c.args.space) c.args.number (Line k c.args.operands.now) c.args.body c.end_body.result) (sym closed.0) c.end_body.ensures
