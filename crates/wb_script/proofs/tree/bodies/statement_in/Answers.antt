use Rattle.std.proofs.Common.{List, ℕ, subst}
use Rattle.std.specs.Prelude.{IfOk}
use Rattle.wb_tree.specs.Sound.{Scope}
use Rattle.wb_script.specs.declared.tree.blocks.OpenBlock.{OpenBlock}
use Rattle.wb_script.specs.Building.{line_kinds_of_blocks}
use Rattle.wb_script.specs.Growing.{declared_in_space, scope_in_body}
use Rattle.wb_script.specs.BytesOf.{declared_by}
use Rattle.wb_script.specs.Stated.{IsStatedWhereFit, scope_in}
use Rattle.wb_script.proofs.tree.bodies.statement_in.Goals as goal

pub returns : goal.returns
returns c =
    let items = c.args.space.items.now in
    let declared = declared_in_space c.args.space in
    let here = c.scope_of-here in
    let blocks = c.as_slice-blocks.result.now in
    let result = c.plain_statement.result in
    let counted = subst (λ (n : ℕ). IfOk result (IsStatedWhereFit (declared_by n items) (scope_in here.result) (line_kinds_of_blocks blocks) c.args.line_kind c.args.operands.now)) here.ensures.literals c.plain_statement.ensures in
    let scoped = subst (λ (s : Scope). IfOk result (IsStatedWhereFit declared s (line_kinds_of_blocks blocks) c.args.line_kind c.args.operands.now)) here.ensures.scope counted in
    subst (λ (l : List OpenBlock). IfOk result (IsStatedWhereFit declared (scope_in_body declared c.args.body.now) (line_kinds_of_blocks l) c.args.line_kind c.args.operands.now)) c.as_slice-blocks.ensures scoped
