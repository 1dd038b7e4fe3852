use Rattle.std.proofs.Common.{map, ◌∙◌}
use Rattle.wb_language.specs.Forms.{renamed_parameter_type}
use Rattle.wb_language.specs.Names.{parameter_type_of}
use Rattle.wb_lines.specs.BytesOf.{bytes_of_text, bytes_of_operand}
use Rattle.wb_lines.proofs.BytesOf.{map_some}
use Rattle.wb_script.proofs.lists.ListLoops.{one_found, all_found}
use Rattle.wb_script.proofs.checks.items.parameters_among.Goals as goal

pub loop-operand-preserved : goal.loop-operand-preserved
loop-operand-preserved c =
    rw (c.in_ok-add_some.ensures, map_some (renamed_parameter_type bytes_of_text) c.loop-operand.found.items c.parameter_type_of.result, c.parameter_type_of.ensures)
    (one_found bytes_of_operand parameter_type_of c.args.operands.now c.loop-operand.operand-index _ (map (renamed_parameter_type bytes_of_text) c.loop-operand.found.items) c.loop-operand-test.true ∙ c.loop-operand.invariant)

pub returns : goal.returns
returns c = all_found bytes_of_operand parameter_type_of c.args.operands.now c.loop-operand.operand-index _ _ c.loop-operand-test.false c.loop-operand.invariant
