use Rattle.std.proofs.Common.{sym, subst}
use Rattle.wb_tree.specs.declared.script_lines.LineKind.TheVariants as line_kind
use Rattle.wb_tree.specs.declared.script_lines.Referent.TheVariants as referent
use Rattle.wb_tree.specs.declared.script_lines.Operand.TheVariants.{Name}
use Rattle.wb_tree.specs.declared.script.Statement.TheVariants.{PushOperation}
use Rattle.wb_script.specs.BytesOf.{declared_by}
use Rattle.wb_script.specs.Stated.{IsOneLine, scope_in}
use Rattle.wb_script.proofs.building.PassedArguments.{two_items}
use Rattle.wb_script.proofs.building.ClosedBlocks.{push_operation_line}
use Rattle.wb_script.proofs.tree.plain.push_operation.Goals as goal

pub returns-in_ok-index-in-len2 : goal.returns-in_ok-index-in-len2
returns-in_ok-index-in-len2 c = λ trapped.
    let declared = declared_by c.args.here.now.literals c.args.items.now in
    let pointer = c.in_ok-pointer-in-len2.ensures in
    let operation = c.in_ok-index-in-len2.ensures c.args.here.now.literals in
    let is = two_items c.args.operands.now (Name (referent.Declared 0)) c.in-len2.len_at_least c.in-len2.len_below in
    subst (λ l. IsOneLine declared (scope_in c.args.here.now) trapped line_kind.PushOp l (PushOperation c.in_ok-pointer-in-len2.pointer c.in_ok-index-in-len2.index)) (sym is)
    (push_operation_line declared (scope_in c.args.here.now) trapped _ _ c.in_ok-pointer-in-len2.pointer c.in_ok-index-in-len2.index pointer.0 pointer.1 operation.0 operation.1)
