-- Proof: all_counts. The numbers so far are there.
use Rattle.std.proofs.Common.{◌≡◌, map, take}
use Rattle.serde_json.specs.View.{view}
use Rattle.workbench.specs.JsonReport.{count}
use Rattle.workbench.proofs.json_report.all_counts.Given as goal

abbrev pub invariant-loop-number : goal.invariant-loop-number
invariant-loop-number l = map view l.counts.items ≡ map count (take l.number-index l.numbers)
