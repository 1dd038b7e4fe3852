use Rattle.std.proofs.Common.{◌+◌, ◌*◌, arith}
use Rattle.wb_hbuf.proofs.Granted.{made-empty}
use Rattle.wb_hbuf.proofs.hbuf.make.Goals as goal

pub returns-clause-empty : goal.returns-clause-empty
returns-clause-empty c =
    made-empty c.args.heap.now c.attempt_alloc.new.self (4 + 2 * c.args.n) c.attempt_alloc.result (omega arith) c.attempt_alloc.ensures.gave c.attempt_alloc.ensures.made
    c.attempt_alloc.ensures.sound
