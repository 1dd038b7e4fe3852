-- Proof: judge. The run that goes on, and a fork that is kept, are of the same as the forks.
use Rattle.wb_lengths.proofs.forks.Forks.judge.Goals as goal

pub returns-then-attempts : goal.returns-then-attempts
returns-then-attempts c script budget shape are before after = c.refuse_instead.ensures script budget shape are before

pub returns-then-run-before : goal.returns-then-run-before
returns-then-run-before c script budget shape are before after = (c.push.ensures script budget shape are before, after)
