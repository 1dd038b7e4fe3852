use Rattle.std.proofs.Common.{◌≤◌, ◌+◌, false, length, ap, sym, subst, ◌∙◌}
use Rattle.wb_meaning.specs.declared.run.RunResult.{RunResult}
use Rattle.wb_meaning.specs.Run.{whole_run}
use Rattle.wb_meaning.proofs.AccountLemmas.{whole-attempts}
use Rattle.wb_machine.proofs.machine.Machine.result.Goals as goal

pub returns-clause-run_result : goal.returns-clause-run_result
returns-clause-run_result c =
    let s = c.args.self in
    c.into_finished.ensures.run_result ∙ ap (λ b. (whole_run b s.script s.rule s.budget s.shape).result) c.requires.lines

pub returns-clause-attempts : goal.returns-clause-attempts
returns-clause-attempts c =
    let s = c.args.self in
    ap (λ (x : RunResult). length x.trace) (returns-clause-run_result c) ∙ sym (whole-attempts false s.script s.rule s.budget s.shape)
    ∙ sym (ap (λ b. (whole_run b s.script s.rule s.budget s.shape).attempts) c.requires.lines) ∙ c.into_finished.ensures.attempts

pub returns-clause-few : goal.returns-clause-few
returns-clause-few c = subst (λ n. n ≤ c.args.self.budget + 1) (sym (returns-clause-attempts c)) c.into_finished.ensures.few
