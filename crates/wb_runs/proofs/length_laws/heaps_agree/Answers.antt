use Rattle.wb_runs.proofs.LengthLemmas.{heap-uncut, heap-within, heaps-same}
use Rattle.wb_runs.proofs.length_laws.heaps_agree.Goals as goal

pub returns : goal.returns
returns c = record { uncut = heap-uncut; within = heap-within; same = heaps-same }
