use Rattle.std.proofs.Common.{refl, sym, ◌∙◌, arith}
use Rattle.wb_cleanup.proofs.StackInHeap.{popped, newest-within}
use Rattle.wb_cleanup.proofs.cleanup.Cleanup.pop_expected.Goals as goal

pub returns-clause-popped : goal.returns-clause-popped
returns-clause-popped c =
    let within = newest-within c.args.floor c.args.self.now c.args.heap.now c.in-Some.item c.requires (sym c.newest_above.ensures ∙ c.in-Some.is) in
    popped c.args.self.now _ 1 refl refl (omega (arith, within)) refl
