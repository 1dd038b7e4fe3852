use Rattle.wb_runs.proofs.PairLemmas.{all-made-fine, first-past, second-past}
use Rattle.wb_runs.proofs.PairSearch.{least-pair-none, least-pair-some}
use Rattle.wb_runs.proofs.sweep_laws.pairs_end.Goals as goal

pub returns : goal.returns
returns c = record { second = second-past; first = first-past; all = all-made-fine; some = least-pair-some; none = least-pair-none }
