use Rattle.std.proofs.Common.{sym, subst}
use Rattle.wb_script.specs.Stated.{IsStatementOf, alone_in, scope_in}
use Rattle.wb_script.proofs.names.OneOperand.{no_pointer}
use Rattle.wb_script.proofs.tree.statements.of_pointer.Goals as goal

pub returns-in_err-pointer : goal.returns-in_err-pointer
returns-in_err-pointer c =
    subst (IsStatementOf c.args.here.now c.args.line_kind c.args.operands.now) (sym c.from_residual.ensures)
    (no_pointer (alone_in c.args.here.now) (scope_in c.args.here.now) c.args.line_kind c.args.operands.now c.requires c.in_err-pointer.ensures)
