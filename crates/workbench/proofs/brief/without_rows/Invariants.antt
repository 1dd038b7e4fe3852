-- Proof: without_rows. What is kept so far and what of the lines that are left is kept are all of it.
use Rattle.std.proofs.Common.{◌≡◌, ◌++◌, length}
use Rattle.workbench.specs.Brief.{brief_text}
use Rattle.workbench.proofs.brief.without_rows.Given as goal

abbrev pub invariant-loop-rest : goal.invariant-loop-rest
invariant-loop-rest l = l.brief.items ++ brief_text l.rest ≡ brief_text l.text

abbrev pub decreases-loop-rest : goal.decreases-loop-rest
decreases-loop-rest l = length l.rest
