-- Proof: make_attempt. The copy and the run are of the same as the run before the attempt.
use Rattle.std.proofs.lemmas.List.Elements.{All-same}
use Rattle.wb_lengths.specs.Forks.{IsOf}
use Rattle.wb_lengths.proofs.ForkLemmas.{of-same}
use Rattle.wb_lengths.proofs.forks.Forks.make_attempt.Goals as goal

pub returns : goal.returns
returns c script budget shape are is =
    c.judge.ensures script budget shape
    (All-same (IsOf script budget shape) c.take_heap-spare.new.self.runs.items c.args.self.now.runs.items c.take_heap-spare.ensures are)
    (of-same script budget shape c.args.run.now c.in_ok-before.before c.in_ok-before.ensures is)
    (of-same script budget shape c.args.run.now c.step.new.self c.step.ensures is)
