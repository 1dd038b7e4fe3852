use Rattle.std.proofs.Common.{◌≡◌, drop, length}
use Rattle.wb_language.specs.LineKinds.{operand_places_with}
use Rattle.wb_language.specs.Kinds.{are_right}
use Rattle.wb_script.proofs.checks.kinds.are_right.Given as goal

abbrev pub invariant-loop-index : goal.invariant-loop-index
invariant-loop-index l =
    are_right (drop l.index (operand_places_with l.operand_places.fixed.now l.operand_places.rest (length l.operands))) (drop l.index l.operands) ≡ are_right (operand_places_with l.operand_places.fixed.now l.operand_places.rest (length l.operands)) l.operands
