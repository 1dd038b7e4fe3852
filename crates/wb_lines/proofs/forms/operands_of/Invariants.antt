use Rattle.std.proofs.Common.{◌≡◌, ◌++◌, drop, length}
use Rattle.std.specs.Option.{option_map}
use Rattle.wb_language.specs.Forms.{operands_of}
use Rattle.wb_language.specs.LineKinds.{operand_places_with}
use Rattle.wb_lines.specs.BytesOf.{bytes_of_texts, bytes_of_operands}
use Rattle.wb_lines.proofs.forms.operands_of.Given as goal

abbrev pub invariant-loop-index : goal.invariant-loop-index
invariant-loop-index l = record {
  as_many : length (operand_places_with l.operand_places.fixed.now l.operand_places.rest (length l.words)) ≡ length l.words;
  so_far : option_map (λ rest. bytes_of_operands l.found.items ++ rest) (operands_of (drop l.index (operand_places_with l.operand_places.fixed.now l.operand_places.rest (length l.words))) (bytes_of_texts (drop l.index l.words)))
      ≡ operands_of (operand_places_with l.operand_places.fixed.now l.operand_places.rest (length l.words)) (bytes_of_texts l.words);
}
