-- Proof: run_whole. The forks that are left were there before.
use Rattle.wb_lengths.proofs.ForkLemmas.{keeps-same}
use Rattle.wb_lengths.proofs.heap_runs.HeapRuns.run_whole.Goals as goal

pub returns-in-Some-clause-forks : goal.returns-in-Some-clause-forks
returns-in-Some-clause-forks g c script budget shape are =
    let taken = keeps-same c.args.self.now.forks c.take_heap-spare.new.self c.take_heap-spare.ensures script budget shape are in
    let put = keeps-same c.take_heap-spare.new.self c.put_heap.new.self c.put_heap.ensures script budget shape taken in
    c.learn.ensures script budget shape put

pub returns-clause-forks : goal.returns-clause-forks
returns-clause-forks g c = keeps-same c.args.self.now.forks c.take_heap-spare.new.self c.take_heap-spare.ensures
