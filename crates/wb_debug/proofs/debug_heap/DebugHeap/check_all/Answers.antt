use Rattle.std.proofs.lemmas.Result.{err_from_is_err_and}
use Rattle.wb_debug.specs.Debug.{debug_of}
use Rattle.wb_debug.proofs.Closing.{check_all-refused}
use Rattle.wb_debug.proofs.debug_heap.DebugHeap.check_all.Goals as goal

pub returns-in_err-expect-clause-refused : goal.returns-in_err-expect-clause-refused
returns-in_err-expect-clause-refused c =
    let p = err_from_is_err_and c.from_residual.result c.from_residual.ensures.1 in
    rw (p.1, p.2) (check_all-refused (debug_of c.self.inside) c.args.self.now c.args.n _ c.self.view_is c.in_err-expect.ensures.refused)
