use Rattle.std.proofs.Common.{sym, subst}
use Rattle.wb_tree.specs.declared.script_lines.LineKind.TheVariants as line_kind
use Rattle.wb_tree.specs.declared.script_lines.OperandPlace.TheVariants as operand_place
use Rattle.wb_script.specs.Stated.{IsStatementOf, scope_in}
use Rattle.wb_script.proofs.tree.text_statements.right.Goals as goal

pub returns-in_err-view : goal.returns-in_err-view
returns-in_err-view c = subst (IsStatementOf c.args.here.now line_kind.Right c.args.operands.now) (sym c.from_residual.ensures) (c.in_err-view.ensures c.args.here.now.literals (scope_in c.args.here.now) operand_place.ViewName operand_place.Readable operand_place.Value)
