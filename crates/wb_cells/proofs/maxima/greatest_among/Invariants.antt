use Rattle.std.proofs.Common.{◌≢◌, ◌≤◌, slice_index}
use Rattle.wb_cells.specs.Maxima.{IsGreatest}
use Rattle.wb_cells.proofs.maxima.greatest_among.Given as goal

abbrev pub invariant-loop-greatest : goal.invariant-loop-greatest
invariant-loop-greatest l = (l.stop ≤ l.end) × (l.greatest ≢ 0 → l.from ≤ l.stop) × IsGreatest (slice_index l.numbers) l.stop l.end l.greatest

abbrev pub decreases-loop-greatest : goal.decreases-loop-greatest
decreases-loop-greatest l = l.stop
