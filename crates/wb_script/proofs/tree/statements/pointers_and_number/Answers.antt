use Rattle.std.proofs.Common.{sym, subst}
use Rattle.wb_tree.specs.declared.script_lines.OperandPlace.TheVariants as operand_place
use Rattle.wb_script.specs.Stated.{IsTripleSpelled, scope_in}
use Rattle.wb_script.proofs.tree.statements.pointers_and_number.Goals as goal

pub returns-in_err-target : goal.returns-in_err-target
returns-in_err-target c = subst (IsTripleSpelled c.args.here.now c.args.operands.now) (sym c.from_residual.ensures) (c.in_err-target.ensures c.args.here.now.literals (scope_in c.args.here.now) operand_place.Written operand_place.Pointer operand_place.Value)
