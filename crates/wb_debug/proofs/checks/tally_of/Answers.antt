use Rattle.std.proofs.Common.{◌∙◌, sym, arith}
use Rattle.wb_heap_model.specs.Row.{headers}
use Rattle.wb_heap_model.proofs.LimitedHeaps.{top_of-committed}
use Rattle.wb_heap_model.proofs.Onward.{onward_next, onward_fewer}
use Rattle.wb_debug.proofs.Counting.{counted-all, counted-first, counted-more, counted-within, row-within}
use Rattle.wb_debug.proofs.checks.tally_of.Goals as goal

pub loop-cell-init : goal.loop-cell-init
loop-cell-init c = counted-first _ (headers c.args.heap.now.row) c.new-tally.ensures

pub grant-requires : goal.grant-requires
grant-requires c =
    let sound = c.next_live.ensures.sound in
    record {
      room = omega (
        arith,
        counted-within _ _ (headers c.args.heap.now.row) c.loop-cell.invariant,
        row-within (headers c.args.heap.now.row) 0 sound.row.spaced,
        top_of-committed c.args.heap.now sound,
        sound.bound,
        sound.limit,
      );
    }

pub loop-cell-smaller : goal.loop-cell-smaller
loop-cell-smaller c =
    let row = headers c.args.heap.now.row in
    let next = onward_next c.loop-cell.from 0 c.in-Some.cell row c.next_live.ensures.sound.row.spaced (sym c.in-Some.ensures.first) in
    rw c.end-from.ensures (onward_fewer row c.loop-cell.from c.in-Some.cell next)

pub loop-cell-preserved : goal.loop-cell-preserved
loop-cell-preserved c =
    let row = headers c.args.heap.now.row in
    let next = onward_next c.loop-cell.from 0 c.in-Some.cell row c.next_live.ensures.sound.row.spaced (sym c.in-Some.ensures.first) in
    rw c.end-from.ensures (counted-more _ _ c.loop-cell.from row c.in-Some.cell next c.grant.ensures c.loop-cell.invariant)

pub returns : goal.returns
returns c = counted-all _ c.loop-cell.from (headers c.args.heap.now.row) c.loop-cell.invariant (sym c.next_live.ensures.first ∙ c.in_default.is)
