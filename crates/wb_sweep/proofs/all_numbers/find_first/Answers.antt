-- Proof: find_first. The run of the first bad number is made once more.
use Rattle.std.proofs.Common.{rules, ◌≡◌, Some, ap, ◌∙◌}
use Rattle.wb_heap_model.specs.declared.heap.Rule.{Rule}
use Rattle.wb_runs.specs.AllNumbers.{first_bad}
use Rattle.wb_meaning.specs.Run.{run}
use Rattle.wb_runs.specs.Sweeps.{rule_for}
use Rattle.wb_sweep.proofs.all_numbers.find_first.Goals as goal

pub returns : goal.returns
returns c =
    let number = c.in-Some.number in
    let first : first_bad c.args.ends.now ≡ Some number = search rules in
    let rule = c.rule-rule.ensures ∙ ap rule_for c.at.ensures in
    (number, first, c.at-at.ensures, c.in_ok-result.ensures.ran ∙ ap (λ (r : Rule). run c.args.script.now r c.args.conditions.budget c.args.conditions.shape) rule)
