use Rattle.wb_runs.proofs.SizeLemmas.{limit_refuses_first, refused_at-none, limits_have_table, long_enough}
use Rattle.wb_meaning.proofs.TraceLemmas.{required-within}
use Rattle.wb_runs.proofs.laws.limits_refuse.Goals as goal

pub returns : goal.returns
returns c = record { first = limit_refuses_first; none = refused_at-none; table = limits_have_table; enough = long_enough; within = required-within }
