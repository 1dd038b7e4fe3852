-- Proof: add. The new fork is of the same as the others.
use Rattle.std.proofs.Common.{is_ok}
use Rattle.wb_lengths.specs.Forks.{IsOf}
use Rattle.wb_lengths.proofs.ForkLemmas.{all-added}
use Rattle.wb_lengths.proofs.forks.Forks.add.Goals as goal

pub returns : goal.returns
returns c script budget shape are is =
    all-added (IsOf script budget shape) c.args.self.now.runs.items c.push_back.new.self.items c.args.run (is_ok c.push_back.result) c.push_back.ensures.items are is
