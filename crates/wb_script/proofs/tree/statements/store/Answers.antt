use Rattle.std.proofs.Common.{sym, subst}
use Rattle.wb_tree.specs.declared.script_lines.LineKind.TheVariants as line_kind
use Rattle.wb_tree.specs.declared.script_lines.OperandPlace.TheVariants as operand_place
use Rattle.wb_script.specs.Stated.{IsStatementOf, scope_in}
use Rattle.wb_script.proofs.tree.statements.store.Goals as goal

pub returns-in_err-pointer : goal.returns-in_err-pointer
returns-in_err-pointer c = subst (IsStatementOf c.args.here.now line_kind.Store c.args.operands.now) (sym c.from_residual.ensures) (c.in_err-pointer.ensures c.args.here.now.literals (scope_in c.args.here.now) operand_place.Pointer operand_place.Value operand_place.Value)
