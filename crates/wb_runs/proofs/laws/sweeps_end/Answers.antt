use Rattle.wb_runs.proofs.SweepLemmas.{least-some, least-none}
use Rattle.wb_runs.proofs.laws.sweeps_end.Goals as goal

pub returns : goal.returns
returns c = record { some = least-some; none = least-none }
