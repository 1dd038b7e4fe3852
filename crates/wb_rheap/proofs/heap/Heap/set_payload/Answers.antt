use Rattle.std.proofs.lemmas.List.{length-set}
use Rattle.wb_rheap.proofs.HeapFields.{changed-kept}
use Rattle.wb_rheap.proofs.heap.Heap.set_payload.Goals as goal

pub invariant_of-self : goal.invariant_of-self
invariant_of-self c = changed-kept c.self.inside c.set_payload.new.self c.args.ptr _ c.set_payload.ensures.changed (length-set _ _ _) c.self.invariant

pub returns-clause-sound : goal.returns-clause-sound
returns-clause-sound c = (invariant_of-self c).sound
