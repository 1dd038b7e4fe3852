use Rattle.std.proofs.Common.{◌≡◌, take, true}
use Rattle.wb_script.specs.Growing.{are_parameters, parameters_of_operands}
use Rattle.wb_script.proofs.tree.openings.parameters.Given as goal

abbrev pub invariant-loop-operand : goal.invariant-loop-operand
invariant-loop-operand l = record {
  found : l.found ≡ parameters_of_operands (take l.operand-index l.operands);
  all : are_parameters l.classes (take l.operand-index l.operands) ≡ true;
}
