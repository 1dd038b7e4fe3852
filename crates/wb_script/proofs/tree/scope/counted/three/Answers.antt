use Rattle.std.proofs.Common.{[], ◌∷◌, arith}
use Rattle.std.proofs.lemmas.Grind.{common_steps}
use Rattle.std.proofs.lemmas.Bool.Decides.{nat_tests}
use Rattle.wb_script.proofs.names.FitLemmas.{counts_differ}
use Rattle.wb_script.proofs.tree.scope.counted.three.Goals as goal
use Rattle.wb_script.proofs.tree.scope.counted.three.Goals.{in_default-via-then-operands-lt3, in_default-via-else-operands-lt3+else-operands-lt4}

pub returns-in_default : goal.returns-in_default
returns-in_default c = λ literals scope first second third.
    elim c.in_default.branch [
      | in_default-via-then-operands-lt3 w ↦ counts_differ literals scope (first ∷ second ∷ third ∷ []) c.args.operands.now (λ e. grind (arith, common_steps, nat_tests, e))
      | in_default-via-else-operands-lt3+else-operands-lt4 w ↦ counts_differ literals scope (first ∷ second ∷ third ∷ []) c.args.operands.now (λ e. grind (arith, common_steps, nat_tests, e))
    ]
