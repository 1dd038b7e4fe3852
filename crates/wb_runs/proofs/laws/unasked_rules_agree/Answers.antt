use Rattle.wb_runs.proofs.SameRuns.{same_run, past_the_last}
use Rattle.wb_runs.proofs.laws.unasked_rules_agree.Goals as goal

pub returns : goal.returns
returns c = record { rules = same_run; failures = past_the_last }
