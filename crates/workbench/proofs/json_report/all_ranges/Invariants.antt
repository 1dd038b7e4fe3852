-- Proof: all_ranges. The pairs of the ranges so far are there.
use Rattle.std.proofs.Common.{◌≡◌, map, take}
use Rattle.serde_json.specs.View.{view}
use Rattle.workbench.specs.JsonReport.{range_pair}
use Rattle.workbench.proofs.json_report.all_ranges.Given as goal

abbrev pub invariant-loop-range : goal.invariant-loop-range
invariant-loop-range l = map view l.pairs.items ≡ map range_pair (take l.range-index l.ranges)
