use Rattle.std.proofs.Common.{sym}
use Rattle.wb_debug.proofs.DebugFields.{kept-sound, released-kept}
use Rattle.wb_debug.proofs.debug_heap.DebugHeap.release.Goals as goal

pub returns-then-ptr-eq0-clause-sound : goal.returns-then-ptr-eq0-clause-sound
returns-then-ptr-eq0-clause-sound c = kept-sound c.self.inside c.self.invariant

pub returns-in_default-clause-sound : goal.returns-in_default-clause-sound
returns-in_default-clause-sound c = kept-sound c.self.inside c.self.invariant

pub invariant_of-self-2 : goal.invariant_of-self-2
invariant_of-self-2 c =
    released-kept c.self.inside c.free_cell.new.self c.args.ptr c.in-Some.cell c.release.new.self (sym c.in-Some.ensures.header) c.free_cell.ensures.freed
    c.free_cell.ensures.sound c.release.ensures c.self.invariant

pub returns-clause-sound : goal.returns-clause-sound
returns-clause-sound c = kept-sound _ (invariant_of-self-2 c)
