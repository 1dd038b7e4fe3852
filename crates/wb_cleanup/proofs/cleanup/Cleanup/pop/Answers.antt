use Rattle.std.proofs.Common.{refl, arith}
use Rattle.wb_cleanup.proofs.StackInHeap.{popped}
use Rattle.wb_cleanup.proofs.cleanup.Cleanup.pop.Goals as goal

pub returns-clause-popped : goal.returns-clause-popped
returns-clause-popped c = popped c.args.self.now _ c.args.n refl refl (omega arith) refl
