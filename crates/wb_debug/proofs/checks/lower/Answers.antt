use Rattle.std.proofs.Common.{◌≡◌, ◌<◌, length, ◌∙◌, ap, sym, subst, arith}
use Rattle.wb_heap_model.specs.Row.{headers, end_of, pointer_to}
use Rattle.wb_heap_model.specs.LimitedHeap.{LimitedHeap, IsSoundHeap}
use Rattle.wb_heap_model.proofs.Onward.{onward, onward_next, onward_fewer}
use Rattle.wb_debug.specs.Levels.{is_counted}
use Rattle.wb_debug.specs.Tally.{number}
use Rattle.wb_debug.specs.declared.checks.Levels.TheVariants.{One}
use Rattle.wb_debug.proofs.Counting.{onward-counted}
use Rattle.wb_debug.proofs.Lowering.{IsLowered, next-named, lower-begin, lower-counts, lower-end, lower-next, lower-past, lower-whole, lower-fewer, past-counts}
use Rattle.wb_debug.proofs.checks.lower.Goals.{then-is_counted, else-is_counted}
use Rattle.wb_debug.proofs.checks.lower.Goals as goal

pub loop-left-init : goal.loop-left-init
loop-left-init c = record {
  sound = c.requires.sound;
  lowered = lower-begin c.args.heap.now c.args.level c.args.from c.requires.lowest;
  counts = ap length (onward-counted (is_counted (One c.args.level)) c.args.from (headers c.args.heap.now.row) c.requires.lowest) ∙ sym c.requires.number;
}

pub set_level-requires : goal.set_level-requires
set_level-requires c = rw c.pointer.ensures (next-named c.loop-left.at c.in-Some.cell c.loop-left.heap.row (sym c.next_live.ensures.first ∙ c.in-Some.is))

pub loop-left-smaller : goal.loop-left-smaller
loop-left-smaller c =
    let heap = c.loop-left.heap in
    let cell = c.in-Some.cell in
    let next = onward_next c.loop-left.at 0 cell (headers heap.row) c.next_live.ensures.sound.row.spaced (sym c.in-Some.ensures.first) in
    rw c.end-at.ensures (elim c.if-is_counted.branch [
      | then-is_counted w ↦
          subst (λ (x : LimitedHeap). length (onward (end_of cell) (headers x.row)) < length (onward c.loop-left.at (headers heap.row))) (sym w.heap-is)
          (lower-fewer c.loop-left.at cell heap w.set_level.new.self (pointer_to cell) _ (rw w.pointer.ensures at w.set_level.ensures.leveled) next)
      | else-is_counted w ↦
          subst (λ (x : LimitedHeap). length (onward (end_of cell) (headers x.row)) < length (onward c.loop-left.at (headers heap.row))) (sym w.heap-is)
          (onward_fewer (headers heap.row) c.loop-left.at cell next)
    ])

pub loop-left-preserved : goal.loop-left-preserved
loop-left-preserved c =
    let old = c.args.heap.now in
    let heap = c.loop-left.heap in
    let cell = c.in-Some.cell in
    let sound = c.next_live.ensures.sound in
    let first = sym c.in-Some.ensures.first in
    let next = onward_next c.loop-left.at 0 cell (headers heap.row) sound.row.spaced first in
    rw c.end-at.ensures (record {
      sound = elim c.if-is_counted.branch [
        | then-is_counted w ↦ subst IsSoundHeap (sym w.heap-is) w.set_level.ensures.sound
        | else-is_counted w ↦ subst IsSoundHeap (sym w.heap-is) sound
      ];
      lowered = elim c.if-is_counted.branch [
        | then-is_counted w ↦
            subst (IsLowered old c.args.level (end_of cell)) (sym w.heap-is)
            (lower-next old c.args.level c.loop-left.at cell heap w.set_level.new.self (rw w.pointer.ensures at w.set_level.ensures.leveled) sound first
            (sym c.is_counted.ensures ∙ w.if-is_counted.true) c.loop-left.invariant.lowered)
        | else-is_counted w ↦
            subst (IsLowered old c.args.level (end_of cell)) (sym w.heap-is)
            (lower-past old c.args.level c.loop-left.at cell heap sound first (sym c.is_counted.ensures ∙ w.if-is_counted.false) c.loop-left.invariant.lowered)
      ];
      counts = elim c.if-is_counted.branch [
        | then-is_counted w ↦
            subst (λ (x : LimitedHeap). number (is_counted (One c.args.level)) (onward (end_of cell) (headers x.row)) ≡ c.if-is_counted.left) (sym w.heap-is)
            (lower-counts c.args.level c.loop-left.at c.loop-left.left cell heap w.set_level.new.self (rw w.pointer.ensures at w.set_level.ensures.leveled)
            (omega (arith, c.in-Some.ensures.live.least)) next (sym c.is_counted.ensures ∙ w.if-is_counted.true) c.loop-left.invariant.counts ∙ sym w.left-is)
        | else-is_counted w ↦
            subst (λ (x : LimitedHeap). number (is_counted (One c.args.level)) (onward (end_of cell) (headers x.row)) ≡ c.if-is_counted.left) (sym w.heap-is)
            (past-counts c.args.level c.loop-left.at c.loop-left.left cell (headers heap.row) next (sym c.is_counted.ensures ∙ w.if-is_counted.false)
            c.loop-left.invariant.counts ∙ sym w.left-is)
      ];
    })

pub returns-in_default-clause-lowered : goal.returns-in_default-clause-lowered
returns-in_default-clause-lowered c =
    lower-whole c.args.heap.now c.args.level c.loop-left.at c.loop-left.heap (sym c.next_live.ensures.first ∙ c.in_default.is) c.loop-left.invariant.lowered

pub returns-clause-lowered : goal.returns-clause-lowered
returns-clause-lowered c =
    lower-end c.args.heap.now c.args.level c.loop-left.at c.loop-left.heap (omega (arith, c.loop-left.invariant.counts, c.loop-left-test.false)) c.loop-left.invariant.lowered
