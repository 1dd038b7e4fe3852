use Rattle.std.proofs.Common.{◌≡◌, ◌++◌, drop, length}
use Rattle.wb_language.specs.LineKinds.{operand_places_with}
use Rattle.wb_language.specs.Resolved.{resolved_operands}
use Rattle.wb_lines.specs.BytesOf.{bytes_of_operands}
use Rattle.wb_script.specs.BytesOf.{bytes_of_items}
use Rattle.wb_script.specs.Checks.{known_in}
use Rattle.wb_script.proofs.checks.resolved.add_operands.Given as goal

abbrev pub invariant-loop-index : goal.invariant-loop-index
invariant-loop-index l =
    l.found.items ++ resolved_operands (bytes_of_items l.items) (known_in l.known) l.line_kind (drop l.index (operand_places_with l.operand_places.fixed.now l.operand_places.rest (length l.operands))) (bytes_of_operands (drop l.index l.operands))
    ≡ l.initial.found.items ++ resolved_operands (bytes_of_items l.items) (known_in l.known) l.line_kind (operand_places_with l.operand_places.fixed.now l.operand_places.rest (length l.operands)) (bytes_of_operands l.operands)
