use Rattle.std.proofs.Common.{Some, ap, sym, ◌∙◌, arith}
use Rattle.wb_cleanup.proofs.SlotWords.{same-item}
use Rattle.wb_cleanup.proofs.StackInHeap.{newest-is, stack-room}
use Rattle.wb_cleanup.proofs.cleanup.Cleanup.newest_above.Goals as goal

pub read-requires : goal.read-requires
read-requires c =
    let d = c.args.heap.now in
    let room = stack-room c.args.self.now d c.requires in
    let last = newest-is c.args.floor c.args.self.now d c.requires c.if-self-floor.false in
    record {
      within = omega (arith, room, c.if-self-floor.false, c.requires.counted, c.requires.cell.spells.fits);
      bounded = omega (arith, room, c.requires.bounded);
      item = last.item;
      is_item = last.is_item;
      spells = last.spells;
    }

pub returns : goal.returns
returns c =
    let last = newest-is c.args.floor c.args.self.now c.args.heap.now c.requires c.if-self-floor.false in
    ap Some (same-item c.read.result last.item (c.read.ensures ∙ last.spells)) ∙ sym last.found
