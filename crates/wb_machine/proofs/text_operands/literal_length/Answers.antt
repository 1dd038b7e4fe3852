use Rattle.std.proofs.Common.{◌≤◌, arith, length, sym}
use Rattle.wb_basics.specs.declared.limits.TheConstants.{LONGEST_LITERAL}
use Rattle.wb_machine.proofs.turns.Scripts.{literal_short}
use Rattle.wb_machine.proofs.text_operands.literal_length.Goals as goal

pub overflow_cast-result : goal.overflow_cast-result
overflow_cast-result c =
    let short : length c.in-Some.chars.now ≤ LONGEST_LITERAL = literal_short c.args.script.now c.requires c.args.index c.in-Some.chars.now (sym c.in-Some.ensures) in
    omega (arith, short, c.len.ensures)

pub returns-in-Some-clause-most : goal.returns-in-Some-clause-most
returns-in-Some-clause-most c =
    let short : length c.in-Some.chars.now ≤ LONGEST_LITERAL = literal_short c.args.script.now c.requires c.args.index c.in-Some.chars.now (sym c.in-Some.ensures) in
    omega (arith, short, c.len.ensures)
