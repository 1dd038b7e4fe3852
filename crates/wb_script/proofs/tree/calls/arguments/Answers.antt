use Rattle.std.proofs.Common.{◌≡◌, ◌<◌, ◌∙◌, sym, ap, subst, ◌+◌, length, length-append, get_or, take, map, Some, ◌∷◌, [], ◌++◌, IsTrue, arith}
use Rattle.std.proofs.lemmas.List.{take_more}
use Rattle.wb_tree.specs.Sound.{is_passed, are_passed}
use Rattle.wb_language.specs.Trees.{all_spelled}
use Rattle.wb_tree.specs.Spellings.{argument_operand}
use Rattle.wb_script.specs.Stated.{bytes_of_parameter, scope_in}
use Rattle.wb_script.proofs.building.PassedArguments.{spelled_more, passed_more, arguments_differ, one_differs}
use Rattle.wb_script.proofs.tree.calls.arguments.Goals as goal

pub returns-in_default : goal.returns-in_default
returns-in_default c = λ items.
    arguments_differ (bytes_of_parameter items) c.args.here.now.literals (scope_in c.args.here.now) c.args.parameters.now c.args.operands.now
    (λ e. omega (arith, e, c.in_default.ensures.lookup.3, c.len.ensures, c.loop-operand.invariant.count, c.loop-operand-test.true))

pub returns-in-None : goal.returns-in-None
returns-in-None c = λ items.
    let at : c.len.result ≡ c.loop-operand.operand-index = c.len.ensures ∙ c.loop-operand.invariant.count in
    one_differs (bytes_of_parameter items) c.args.here.now.literals (scope_in c.args.here.now) c.args.parameters.now c.args.operands.now c.loop-operand.operand-index c.in-Some.parameter.now _
    (omega (arith, at, c.in-Some.ensures.lookup.3.0)) c.loop-operand-test.true (c.in-Some.ensures.lookup.1 ∙ ap (λ i. get_or c.args.parameters.now i c.in-Some.parameter.now) at) (c.in-None.ensures items)

pub loop-operand-preserved : goal.loop-operand-preserved
loop-operand-preserved c =
    let at : c.len.result ≡ c.loop-operand.operand-index = c.len.ensures ∙ c.loop-operand.invariant.count in
    let below : c.loop-operand.operand-index < length c.args.parameters.now = omega (arith, at, c.in-Some.ensures.lookup.3.0) in
    let pushed : c.push.new.self ≡ c.loop-operand.given ++ c.in-Some-argument.one ∷ [] = c.in_ok-push-in-Some-argument.ensures.pushed in
    record {
      count = ap length pushed ∙ length-append c.loop-operand.given (c.in-Some-argument.one ∷ []) ∙ ap (λ n. n + 1) c.loop-operand.invariant.count;
      within = omega (arith, below);
      spelled =
          ap (λ l. all_spelled (map argument_operand l)) pushed
          ∙ spelled_more c.loop-operand.given c.in-Some-argument.one (take c.loop-operand.operand-index c.args.operands.now) _ c.loop-operand.invariant.spelled (c.in-Some-argument.ensures []).0
          ∙ ap Some (sym (take_more c.args.operands.now c.loop-operand.operand-index _ c.loop-operand-test.true));
      passed = λ items.
          subst (λ l. IsTrue (are_passed (scope_in c.args.here.now) (map (bytes_of_parameter items) l) c.push.new.self)) (sym (take_more c.args.parameters.now c.loop-operand.operand-index c.in-Some.parameter.now below))
          (subst (λ l. IsTrue (are_passed (scope_in c.args.here.now) (map (bytes_of_parameter items) (take c.loop-operand.operand-index c.args.parameters.now ++ get_or c.args.parameters.now c.loop-operand.operand-index c.in-Some.parameter.now ∷ [])) l)) (sym pushed)
          (passed_more (bytes_of_parameter items) (scope_in c.args.here.now) (take c.loop-operand.operand-index c.args.parameters.now) c.loop-operand.given _ c.in-Some-argument.one (c.loop-operand.invariant.passed items)
          (subst (λ p. IsTrue (is_passed (scope_in c.args.here.now) (bytes_of_parameter items p) c.in-Some-argument.one)) (c.in-Some.ensures.lookup.1 ∙ ap (λ i. get_or c.args.parameters.now i c.in-Some.parameter.now) at) (c.in-Some-argument.ensures items).1)));
    }

pub returns-else-len-parameters : goal.returns-else-len-parameters
returns-else-len-parameters c = λ items.
    arguments_differ (bytes_of_parameter items) c.args.here.now.literals (scope_in c.args.here.now) c.args.parameters.now c.args.operands.now
    (λ e. c.if-len-parameters.false (omega (arith, e, c.len-2.ensures, c.loop-operand.invariant.count, c.loop-operand-test.false)))
