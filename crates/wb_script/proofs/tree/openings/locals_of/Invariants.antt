use Rattle.std.proofs.Common.{◌≡◌, map, take}
use Rattle.wb_tree.specs.Sound.{local_of_parameter}
use Rattle.wb_script.proofs.tree.openings.locals_of.Given as goal

abbrev pub invariant-loop-parameter : goal.invariant-loop-parameter
invariant-loop-parameter l = l.locals ≡ map local_of_parameter (take l.parameter-index l.parameters)
