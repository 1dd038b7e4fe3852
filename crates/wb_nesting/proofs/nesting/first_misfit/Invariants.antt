use Rattle.std.proofs.Common.{◌≡◌, take, reverse, Some}
use Rattle.wb_nesting.proofs.Misfits.{blocks_after}
use Rattle.wb_nesting.proofs.nesting.first_misfit.Given as goal

-- the open blocks, the innermost last
abbrev pub invariant-loop-index : goal.invariant-loop-index
invariant-loop-index l = blocks_after (take l.index l.roles) ≡ Some (reverse l.stack.items)
