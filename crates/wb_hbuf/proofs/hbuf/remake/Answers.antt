use Rattle.wb_hbuf.proofs.Granted.{remade}
use Rattle.wb_hbuf.proofs.hbuf.remake.Goals as goal

pub returns-clause-kept : goal.returns-clause-kept
returns-clause-kept c =
    remade c.args.ptr c.args.heap.now c.attempt_realloc.new.self c.args.n c.attempt_realloc.result c.requires.text c.requires.fits c.attempt_realloc.ensures.gave
    c.attempt_realloc.ensures.made c.attempt_realloc.ensures.sound
