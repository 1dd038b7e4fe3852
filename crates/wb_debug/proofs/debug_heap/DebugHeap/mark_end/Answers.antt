use Rattle.std.proofs.Common.{subst, sym}
use Rattle.std.proofs.lemmas.Result.{err_from_is_err_and}
use Rattle.wb_heap_model.specs.Debug.{IsSoundDebug}
use Rattle.wb_heap_model.specs.LimitedHeap.{LimitedHeap}
use Rattle.wb_heap_model.specs.Row.{headers}
use Rattle.wb_debug.specs.Debug.{debug_of}
use Rattle.wb_debug.specs.Tally.{IsTally}
use Rattle.wb_debug.proofs.DebugFields.{kept-sound}
use Rattle.wb_debug.proofs.Closing.{mark_end-checks, lowered-kept}
use Rattle.wb_debug.proofs.debug_heap.DebugHeap.mark_end.Goals as goal

pub returns-then-level-eq0-clause-sound : goal.returns-then-level-eq0-clause-sound
returns-then-level-eq0-clause-sound c = subst IsSoundDebug c.self.view_is (kept-sound c.self.inside c.self.invariant)

pub returns-in_err-from-clause-refused : goal.returns-in_err-from-clause-refused
returns-in_err-from-clause-refused c =
    let p = err_from_is_err_and c.from_residual.result c.from_residual.ensures.1 in
    rw (p.1, p.2) (mark_end-checks (debug_of c.self.inside) c.args.self.now c.args.n _ c.self.view_is c.if-level-eq0.false c.in_err-from.ensures.refused)

pub returns-in_err-from-clause-sound : goal.returns-in_err-from-clause-sound
returns-in_err-from-clause-sound c = subst IsSoundDebug c.self.view_is (kept-sound c.self.inside c.self.invariant)

-- what is counted of the lowered cells
pub count_anew-requires : goal.count_anew-requires
count_anew-requires c =
    subst (λ (h : LimitedHeap). IsTally c.lower-2.new.self (headers h.row)) (sym c.lower.ensures.lowered) (c.lower-2.ensures c.self.inside.heap.row c.self.invariant.tallied)

pub invariant_of-self : goal.invariant_of-self
invariant_of-self c = lowered-kept c.self.inside c.lower.new.heap _ _ c.count_anew.new.tally c.lower.ensures.lowered c.lower.ensures.sound c.count_anew.ensures c.self.invariant

pub returns-clause-sound : goal.returns-clause-sound
returns-clause-sound c = kept-sound _ (invariant_of-self c)
