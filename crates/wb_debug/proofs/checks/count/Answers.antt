use Rattle.std.proofs.Common.{◌≡◌, ◌∙◌, ap, length, sym, arith}
use Rattle.wb_heap_model.specs.Row.{headers}
use Rattle.wb_heap_model.proofs.LimitedHeaps.{top_of-committed}
use Rattle.wb_heap_model.proofs.Onward.{onward_zero, onward_next, onward_fewer}
use Rattle.wb_debug.specs.Levels.{is_counted}
use Rattle.wb_debug.specs.Tally.{number}
use Rattle.wb_debug.proofs.Counting.{onward-end, onward-number, row-within}
use Rattle.wb_debug.proofs.Tallies.{number-within, ones}
use Rattle.wb_debug.proofs.checks.count.Goals.{then-is_counted, else-is_counted}
use Rattle.wb_debug.proofs.checks.count.Goals as goal

pub loop-cell-init : goal.loop-cell-init
loop-cell-init c = omega (arith, ap (number (is_counted c.args.levels)) (onward_zero (headers c.args.heap.now.row)))

pub overflow_add-found : goal.overflow_add-found
overflow_add-found c =
    let sound = c.next_live.ensures.sound in
    omega (
      arith,
      c.loop-cell.invariant,
      number-within (is_counted c.args.levels) (headers c.args.heap.now.row),
      row-within (headers c.args.heap.now.row) 0 sound.row.spaced,
      top_of-committed c.args.heap.now sound,
      sound.bound,
      sound.limit,
    )

pub loop-cell-smaller : goal.loop-cell-smaller
loop-cell-smaller c =
    let row = headers c.args.heap.now.row in
    let next = onward_next c.loop-cell.from 0 c.in-Some.cell row c.next_live.ensures.sound.row.spaced (sym c.in-Some.ensures.first) in
    rw c.end-from.ensures (onward_fewer row c.loop-cell.from c.in-Some.cell next)

pub loop-cell-preserved : goal.loop-cell-preserved
loop-cell-preserved c =
    let row = headers c.args.heap.now.row in
    let cell = c.in-Some.cell in
    let test = is_counted c.args.levels in
    let next = onward_next c.loop-cell.from 0 cell row c.next_live.ensures.sound.row.spaced (sym c.in-Some.ensures.first) in
    let fewer = onward-number test row c.loop-cell.from cell next in
    rw c.end-from.ensures (elim c.if-is_counted.branch [
      | then-is_counted w ↦
          let one : ones (test cell) ≡ 1 = ap ones (sym c.is_counted.ensures ∙ w.if-is_counted.true) in
          omega (arith, fewer, one, w.found-is, c.loop-cell.invariant)
      | else-is_counted w ↦
          let none : ones (test cell) ≡ 0 = ap ones (sym c.is_counted.ensures ∙ w.if-is_counted.false) in
          omega (arith, fewer, none, w.found-is, c.loop-cell.invariant)
    ])

pub returns : goal.returns
returns c =
    omega (arith, c.loop-cell.invariant, ap length (onward-end (is_counted c.args.levels) (headers c.args.heap.now.row) c.loop-cell.from (sym c.next_live.ensures.first ∙ c.in_default.is)))
