-- Proof: last_under. The copy that has gone on to its end is still of the same run.
use Rattle.std.proofs.Common.{◌≡◌, ℕ, length, ap, ◌∙◌}
use Rattle.wb_heap_model.specs.declared.heap.Rule.{Rule}
use Rattle.wb_heap_model.specs.declared.heap.Shape.{Shape}
use Rattle.wb_machine.specs.Seen.{Seen}
use Rattle.wb_machine.specs.Turns.{IsSameRun}
use Rattle.wb_meaning.specs.declared.run.RunResult.{RunResult}
use Rattle.wb_tree.specs.declared.script.Script.{Script}
use Rattle.wb_meaning.specs.Run.{run}
use Rattle.wb_sweep.proofs.sets.last_under.Goals as goal

same-run : (old new : Seen) → IsSameRun old new → run new.script new.rule new.budget new.shape ≡ run old.script old.rule old.budget old.shape
same-run old new same =
    ap (λ (s : Script). run s new.rule new.budget new.shape) same.script
    ∙ ap (λ (r : Rule). run old.script r new.budget new.shape) same.rule
    ∙ ap (λ (b : ℕ). run old.script old.rule b new.shape) same.budget
    ∙ ap (λ (h : Shape). run old.script old.rule old.budget h) same.shape

pub returns : goal.returns
returns c =
    let lead = c.args.lead.now in
    c.attempts-last.ensures.all c.in_ok-take_all_turns.ensures.over c.in_ok-take_all_turns.ensures.well
    ∙ ap (λ (r : RunResult). length r.trace)
    (same-run c.in_ok-fork.fork c.take_all_turns.new.self c.take_all_turns.ensures.same
    ∙ ap (λ (s : Seen). run s.script s.rule s.budget s.shape) c.in_ok-fork.ensures
    ∙ ap (λ (r : Rule). run lead.script r lead.budget lead.shape) c.in_ok-rule.ensures)
