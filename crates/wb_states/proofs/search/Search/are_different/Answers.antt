-- States in order are all different.
use Rattle.std.proofs.Common.{arith}
use Rattle.wb_states.proofs.ManyLemmas.{are-many}
use Rattle.wb_states.proofs.search.Search.are_different.Goals as goal

pub returns : goal.returns
returns c so =
    are-many c.args.self.now c.args.failures c.requires.sound c.requires.many (λ i state less at. c.loop-at.invariant i state (omega arith) at)
