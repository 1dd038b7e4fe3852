use Rattle.std.proofs.Common.{sym, ap, ◌∙◌, ◌++◌, ◌∷◌, [], take}
use Rattle.std.proofs.lemmas.List.{take_more}
use Rattle.wb_script.specs.Growing.{are_parameters, is_parameter_operand, parameters_of_operands}
use Rattle.wb_script.proofs.building.HeadParameters.{taken_more, all_more}
use Rattle.wb_script.proofs.lists.Tests.{one_fails}
use Rattle.wb_script.proofs.tree.openings.parameters.Goals as goal

pub returns-in-None : goal.returns-in-None
returns-in-None c = one_fails (is_parameter_operand c.args.classes) c.args.operands.now c.loop-operand.operand-index _ c.loop-operand-test.true c.in-None.ensures

pub loop-operand-preserved : goal.loop-operand-preserved
loop-operand-preserved c =
    let front = take c.loop-operand.operand-index c.args.operands.now in
    let more = take_more c.args.operands.now c.loop-operand.operand-index _ c.loop-operand-test.true in
    record {
      found =
          c.in_ok-push-in-Some.ensures.pushed
          ∙ ap (λ l. l ++ c.in-Some.one ∷ []) c.loop-operand.invariant.found
          ∙ ap (λ l. parameters_of_operands front ++ l) (sym c.in-Some.ensures.1)
          ∙ sym (taken_more front _)
          ∙ ap parameters_of_operands (sym more);
      all = ap (are_parameters c.args.classes) more ∙ all_more c.args.classes front _ c.loop-operand.invariant.all c.in-Some.ensures.0;
    }
