use Rattle.std.proofs.Common.{◌≡◌, drop, length, map}
use Rattle.wb_language.specs.Forms.{renamed_parameter_type}
use Rattle.wb_language.specs.Kinds.{are_given}
use Rattle.wb_lines.specs.BytesOf.{bytes_of_text}
use Rattle.wb_script.proofs.checks.kinds.are_given.Given as goal

abbrev pub invariant-loop-index : goal.invariant-loop-index
invariant-loop-index l = record {
  as_many : length l.parameters ≡ length l.operands;
  so_far : are_given (map (renamed_parameter_type bytes_of_text) (drop l.index l.parameters)) (drop l.index l.operands) ≡ are_given (map (renamed_parameter_type bytes_of_text) l.parameters) l.operands;
}
