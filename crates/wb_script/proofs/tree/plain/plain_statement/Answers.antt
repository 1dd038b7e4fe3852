use Rattle.std.proofs.Common.{refl, sym, subst}
use Rattle.wb_tree.specs.declared.script_lines.LineKind.TheVariants as line_kind
use Rattle.wb_script.specs.Building.{line_kinds_of_blocks}
use Rattle.wb_script.specs.BytesOf.{declared_by}
use Rattle.wb_script.specs.Stated.{IsStatedWhereFit, scope_in}
use Rattle.wb_script.proofs.building.PassedArguments.{stands_inside}
use Rattle.wb_script.proofs.tree.plain.plain_statement.Goals as goal

pub returns-in-Construct : goal.returns-in-Construct
returns-in-Construct c =
    let declared = declared_by c.args.here.now.literals c.args.items.now in
    let blocks = line_kinds_of_blocks c.args.blocks.now in
    subst (λ k. IsStatedWhereFit declared (scope_in c.args.here.now) blocks k c.args.operands.now c.construct.result) (sym c.in-Construct.is)
    (stands_inside declared (scope_in c.args.here.now) blocks line_kind.Construct c.args.operands.now c.construct.result refl (c.construct.ensures declared refl))

pub returns-in-Delete : goal.returns-in-Delete
returns-in-Delete c =
    let declared = declared_by c.args.here.now.literals c.args.items.now in
    let blocks = line_kinds_of_blocks c.args.blocks.now in
    subst (λ k. IsStatedWhereFit declared (scope_in c.args.here.now) blocks k c.args.operands.now c.delete.result) (sym c.in-Delete.is)
    (stands_inside declared (scope_in c.args.here.now) blocks line_kind.Delete c.args.operands.now c.delete.result refl (c.delete.ensures declared refl))
