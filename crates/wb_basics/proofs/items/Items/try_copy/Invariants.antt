-- So far a part of the elements was copied, and the others are left.
use Rattle.std.proofs.Common.{◌≡◌, ◌++◌, length}
use Rattle.wb_basics.proofs.items.Items.try_copy.Given as goal

abbrev pub invariant-loop-rest : goal.invariant-loop-rest
invariant-loop-rest g l = l.items.items ++ l.rest ≡ l.initial.rest

abbrev pub decreases-loop-rest : goal.decreases-loop-rest
decreases-loop-rest g l = length l.rest
