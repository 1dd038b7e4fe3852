use Rattle.std.proofs.Common.{refl, sym, ◌∙◌, arith}
use Rattle.wb_cleanup.proofs.StackInHeap.{popped, newest-within}
use Rattle.wb_cleanup.proofs.cleanup.Cleanup.take_top.Goals as goal

pub returns-clause-taken : goal.returns-clause-taken
returns-clause-taken c =
    let within = newest-within c.args.floor c.args.self.now c.args.heap.now c.in_ok-item.item c.requires (sym c.newest_above.ensures ∙ c.in_ok-item.was) in
    popped c.args.self.now _ 1 refl refl (omega (arith, within)) refl
