use Rattle.std.proofs.Common.{◌≤◌, ◌+◌, ap, ◌∙◌, sym, subst}
use Rattle.wb_meaning.specs.Run.{WholeRun}
use Rattle.wb_meaning.proofs.AccountLemmas.{whole-attempts}
use Rattle.wb_machine.specs.Seen.{Seen}
use Rattle.wb_machine.proofs.whole_runs.OverRuns.{few_attempts, run_over}
use Rattle.wb_machine.proofs.machine.Machine.attempts.Goals as goal

-- what a run that is over has come to tells how many attempts it made
pub returns-clause-all : goal.returns-clause-all
returns-clause-all c over well =
    let s = c.args.self.now in
    c.attempts.ensures ∙ ap (λ (x : WholeRun). x.attempts) (run_over c.self.inside s c.self.view_is c.self.invariant over well)
    ∙ whole-attempts s.keeps_rises s.script s.rule s.budget s.shape

pub returns-clause-few : goal.returns-clause-few
returns-clause-few c well =
    subst (λ n. n ≤ c.args.self.now.budget + 1) (sym (c.attempts.ensures ∙ ap (λ (x : Seen). x.attempts) c.self.view_is))
    (few_attempts c.self.inside c.args.self.now c.self.view_is c.self.invariant well)
