-- What the theorem says of closed states.
use Rattle.std.proofs.Common.{arith}
use Rattle.std.proofs.lemmas.Bool.{ltb-true}
use Rattle.wb_states.specs.States.{ground_of}
use Rattle.wb_states.proofs.ClosedLemmas.{closed-fine}
use Rattle.wb_states.proofs.search.Search.is_closed.Goals as goal

pub returns-clause-fine : goal.returns-clause-fine
returns-clause-fine c = λ some.
    closed-fine (ground_of c.args.self.now) c.args.self.now c.args.most.now c.args.bound.now c.requires.sound
    (record { some = omega (arith, ltb-true 0 c.len.result some); each = λ i state less at. c.loop-at.invariant i state (omega arith) at })
