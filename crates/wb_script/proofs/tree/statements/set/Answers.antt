use Rattle.std.proofs.Common.{sym, subst, arith}
use Rattle.std.proofs.lemmas.Bool.Decides.{nat_tests}
use Rattle.wb_tree.specs.declared.script_lines.LineKind.TheVariants as line_kind
use Rattle.wb_tree.specs.declared.script_lines.Referent.TheVariants as referent
use Rattle.wb_tree.specs.declared.script_lines.Operand.TheVariants.{Name}
use Rattle.wb_script.specs.Stated.{IsStatementOf, alone_in, scope_in}
use Rattle.wb_script.proofs.names.OneOperand.{no_sides}
use Rattle.wb_script.proofs.building.PassedArguments.{two_items}
use Rattle.wb_script.proofs.tree.statements.set.Goals as goal
use Rattle.wb_script.proofs.tree.statements.set.Goals.{in_default-via-then-operands-lt2, in_default-via-else-operands-lt2+else-operands-lt3}

pub returns-in-len2 : goal.returns-in-len2
returns-in-len2 c = subst (λ l. IsStatementOf c.args.here.now line_kind.Set l c.set_local.result) (sym (two_items c.args.operands.now (Name (referent.Declared 0)) c.in-len2.len_at_least c.in-len2.len_below)) c.set_local.ensures

pub returns-in_default : goal.returns-in_default
returns-in_default c =
    elim c.in_default.branch [
      | in_default-via-then-operands-lt2 w ↦ no_sides (alone_in c.args.here.now) (scope_in c.args.here.now) c.args.operands.now (λ e. grind (arith, nat_tests, e))
      | in_default-via-else-operands-lt2+else-operands-lt3 w ↦ no_sides (alone_in c.args.here.now) (scope_in c.args.here.now) c.args.operands.now (λ e. grind (arith, nat_tests, e))
    ]
