-- Proof: all_pairs. The pairs of the rises so far are there.
use Rattle.std.proofs.Common.{◌≡◌, map, take}
use Rattle.serde_json.specs.View.{view}
use Rattle.workbench.specs.JsonReport.{rise_pair}
use Rattle.workbench.proofs.json_report.all_pairs.Given as goal

abbrev pub invariant-loop-rise : goal.invariant-loop-rise
invariant-loop-rise l = map view l.pairs.items ≡ map rise_pair (take l.rise-index l.rises)
