-- Proof: put_first. The new fork is of the same as the others.
use Rattle.std.proofs.Common.{is_ok}
use Rattle.wb_lengths.specs.Forks.{IsOf}
use Rattle.wb_lengths.proofs.ForkLemmas.{all-put_first}
use Rattle.wb_lengths.proofs.forks.Forks.put_first.Goals as goal

pub returns : goal.returns
returns c script budget shape are is =
    all-put_first (IsOf script budget shape) c.args.self.now.runs.items c.push_front.new.self.items c.args.run (is_ok c.push_front.result) c.push_front.ensures.items are is
