use Rattle.std.proofs.Common.{◌∙◌}
use Rattle.wb_language.specs.Names.{literal_text}
use Rattle.wb_lines.specs.BytesOf.{bytes_of_text, bytes_of_texts, bytes_of_operand}
use Rattle.wb_lines.proofs.BytesOf.{map_some}
use Rattle.wb_script.proofs.lists.ListLoops.{one_found, all_found}
use Rattle.wb_script.proofs.checks.names_so_far.add_literals.Goals as goal

pub loop-operand-preserved : goal.loop-operand-preserved
loop-operand-preserved c =
    rw (c.in_ok-add_some.ensures, map_some bytes_of_text c.loop-operand.literals.items c.literal_text.result, c.literal_text.ensures)
    (one_found bytes_of_operand literal_text c.args.operands.now c.loop-operand.operand-index _ (bytes_of_texts c.loop-operand.literals.items) c.loop-operand-test.true ∙ c.loop-operand.invariant)

pub returns : goal.returns
returns c = all_found bytes_of_operand literal_text c.args.operands.now c.loop-operand.operand-index _ _ c.loop-operand-test.false c.loop-operand.invariant
