-- Proof: all_told. The pairs of the numbers so far are there.
use Rattle.std.proofs.Common.{◌≡◌, map, take}
use Rattle.serde_json.specs.View.{view}
use Rattle.workbench.specs.JsonReport.{told_pair}
use Rattle.workbench.proofs.json_report.all_told.Given as goal

abbrev pub invariant-loop-told : goal.invariant-loop-told
invariant-loop-told l = map view l.pairs.items ≡ map told_pair (take l.told-index l.ends)
