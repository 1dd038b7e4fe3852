use Rattle.std.proofs.Common.{◌≡◌, ap, sym, ◌/◌, ◌%◌, subst, arith}
use Rattle.std.proofs.Math.Nat.{mul-mod_left}
use Rattle.wb_heap_model.specs.Space.{space_below, bound_below}
use Rattle.wb_heap_model.proofs.LimitedHeaps.{shape_is, committed_by-is}
use Rattle.wb_rheap.proofs.room.hold_for.Goals as goal

pub reserve-requires-clause-rounded : goal.reserve-requires-clause-rounded
reserve-requires-clause-rounded c =
    let shape = shape_is c.args.shape c.requires.shape in
    subst (λ n. n % 16 ≡ 0) (sym c.committed_for-bytes.ensures)
    (committed_by-is (space_below (bound_below c.args.limit) c.args.shape) c.args.committed c.args.end (omega (arith, shape.step_least)) shape.step_aligned
    (mul-mod_left (c.args.limit / 16) 16) c.requires.aligned c.requires.within (omega (arith, c.if-limit-end.false, c.requires.rounded))).aligned

pub returns-then-bytes-committed-clause-held : goal.returns-then-bytes-committed-clause-held
returns-then-bytes-committed-clause-held c =
    ap (λ n. record c.args.cells.now { held = n }) (omega (arith, c.requires.covered, c.if-bytes-committed.true))
