use Rattle.std.proofs.Common.{true, false, length, sym, ap, ◌∙◌}
use Rattle.wb_language.specs.LineKinds.{operand_places_with}
use Rattle.wb_language.specs.Kinds.{are_right}
use Rattle.wb_script.proofs.names.OperandPlaces.{right_here, right_past, right_short}
use Rattle.wb_script.proofs.checks.kinds.are_right.Goals as goal

pub returns-in_default : goal.returns-in_default
returns-in_default c =
    let operands = c.args.operands.now in
    let operand_places = operand_places_with c.of-operand_places.result.fixed.now c.of-operand_places.result.rest (length operands) in
    sym (right_past operand_places operands c.loop-index.index (c.at.ensures (length operands) c.loop-index-test.true ∙ c.in_default.is))
    ∙ c.loop-index.invariant ∙ ap (λ l. are_right l operands) (c.of-operand_places.ensures (length operands))

pub returns-then-not-is_right : goal.returns-then-not-is_right
returns-then-not-is_right c =
    let operands = c.args.operands.now in
    let operand_places = operand_places_with c.of-operand_places.result.fixed.now c.of-operand_places.result.rest (length operands) in
    let here = right_here operand_places operands c.loop-index.index _ c.in-Some.operand_place false c.loop-index-test.true (c.at.ensures (length operands) c.loop-index-test.true ∙ c.in-Some.is) (sym c.is_right.ensures ∙ c.if-not-is_right.true) in
    sym here
    ∙ c.loop-index.invariant ∙ ap (λ l. are_right l operands) (c.of-operand_places.ensures (length operands))

pub loop-index-preserved : goal.loop-index-preserved
loop-index-preserved c =
    let operands = c.args.operands.now in
    let operand_places = operand_places_with c.of-operand_places.result.fixed.now c.of-operand_places.result.rest (length operands) in
    let here = right_here operand_places operands c.loop-index.index _ c.in-Some.operand_place true c.loop-index-test.true (c.at.ensures (length operands) c.loop-index-test.true ∙ c.in-Some.is) (sym c.is_right.ensures ∙ c.if-not-is_right.false) in
    sym here ∙ c.loop-index.invariant

pub returns : goal.returns
returns c =
    let operands = c.args.operands.now in
    let operand_places = operand_places_with c.of-operand_places.result.fixed.now c.of-operand_places.result.rest (length operands) in
    sym (right_short operand_places operands c.loop-index.index c.loop-index-test.false)
    ∙ c.loop-index.invariant ∙ ap (λ l. are_right l operands) (c.of-operand_places.ensures (length operands))
