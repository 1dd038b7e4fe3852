use Rattle.std.proofs.Common.{◌≡◌, drop}
use Rattle.wb_machine.specs.Alike.{pair_of}
use Rattle.wb_machine.proofs.alike.names.pair_of.Given as goal

abbrev pub invariant-loop-pair : goal.invariant-loop-pair
invariant-loop-pair l = pair_of l.here l.there (drop l.pair-index l.pairs) ≡ pair_of l.here l.there l.pairs
