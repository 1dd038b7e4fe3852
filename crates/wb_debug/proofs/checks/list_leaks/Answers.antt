use Rattle.std.proofs.Common.{◌≡◌, ◌++◌, ap, ◌∙◌, sym, subst, List}
use Rattle.wb_heap_model.specs.declared.reported.Leak.{Leak}
use Rattle.wb_heap_model.specs.Row.{headers, end_of}
use Rattle.wb_heap_model.proofs.Onward.{onward, onward_zero, onward_next, onward_fewer}
use Rattle.wb_debug.proofs.Leaks.{leaks_of, leaks_on, leaks_past, leaks_whole}
use Rattle.wb_debug.proofs.checks.list_leaks.Goals.{then-has_level+in_ok-push, else-has_level}
use Rattle.wb_debug.proofs.checks.list_leaks.Goals as goal

pub loop-cell-init : goal.loop-cell-init
loop-cell-init c =
    let row = headers c.args.heap.now.row in
    ap (λ l. l ++ leaks_of (onward 0 row)) c.new-leaks.ensures ∙ ap leaks_of (onward_zero row)

pub loop-cell-smaller : goal.loop-cell-smaller
loop-cell-smaller c =
    let row = headers c.args.heap.now.row in
    let next = onward_next c.loop-cell.from 0 c.in-Some.cell row c.next_live.ensures.sound.row.spaced (sym c.in-Some.ensures.first) in
    rw c.end-from.ensures (onward_fewer row c.loop-cell.from c.in-Some.cell next)

pub loop-cell-preserved : goal.loop-cell-preserved
loop-cell-preserved c =
    let row = headers c.args.heap.now.row in
    let next = onward_next c.loop-cell.from 0 c.in-Some.cell row c.next_live.ensures.sound.row.spaced (sym c.in-Some.ensures.first) in
    rw c.end-from.ensures (elim c.if-has_level.branch [
      | then-has_level+in_ok-push w ↦ leaks_on row c.loop-cell.from c.in-Some.cell c.loop-cell.leaks c.if-has_level.leaks next (sym c.has_level.ensures ∙ w.if-has_level.true) (w.leaks-is ∙ w.in_ok-push.ensures.pushed) c.loop-cell.invariant
      | else-has_level w ↦
          let P : List Leak → Type 0 = λ l. l ++ leaks_of (onward (end_of c.in-Some.cell) row) ≡ leaks_of row in
          subst P (sym w.leaks-is) (leaks_past row c.loop-cell.from c.in-Some.cell c.loop-cell.leaks next (sym c.has_level.ensures ∙ w.if-has_level.false) c.loop-cell.invariant)
    ])

pub returns : goal.returns
returns c = leaks_whole (headers c.args.heap.now.row) c.loop-cell.from c.loop-cell.leaks (sym c.next_live.ensures.first ∙ c.in_default.is) c.loop-cell.invariant
