-- Proof: fine_status. The ends to come say as much as all of them.
use Rattle.std.proofs.Common.{◌≡◌, drop}
use Rattle.workbench.specs.AllReport.{fine_status}
use Rattle.workbench.proofs.searches.fine_status.Given as goal

abbrev pub invariant-loop-told : goal.invariant-loop-told
invariant-loop-told l = fine_status (drop l.told-index l.ends) ≡ fine_status l.ends
