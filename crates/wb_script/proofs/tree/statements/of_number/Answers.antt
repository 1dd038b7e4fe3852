use Rattle.std.proofs.Common.{sym, subst}
use Rattle.wb_script.specs.Stated.{IsStatementOf, alone_in, scope_in}
use Rattle.wb_script.proofs.names.OneOperand.{no_number}
use Rattle.wb_script.proofs.tree.statements.of_number.Goals as goal

pub returns-in_err-number : goal.returns-in_err-number
returns-in_err-number c =
    subst (IsStatementOf c.args.here.now c.args.line_kind c.args.operands.now) (sym c.from_residual.ensures)
    (no_number (alone_in c.args.here.now) (scope_in c.args.here.now) c.args.line_kind c.args.operands.now c.requires c.in_err-number.ensures)
