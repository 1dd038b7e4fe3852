use Rattle.std.proofs.Common.{◌≡◌, ◌++◌, drop}
use Rattle.std.specs.List.{flat_map}
use Rattle.wb_language.specs.Names.{literal_text}
use Rattle.wb_lines.specs.BytesOf.{bytes_of_texts, bytes_of_operands}
use Rattle.wb_script.proofs.checks.names_so_far.add_literals.Given as goal

abbrev pub invariant-loop-operand : goal.invariant-loop-operand
invariant-loop-operand l = bytes_of_texts l.literals.items ++ flat_map literal_text (bytes_of_operands (drop l.operand-index l.operands)) ≡ bytes_of_texts l.initial.literals.items ++ flat_map literal_text (bytes_of_operands l.operands)
