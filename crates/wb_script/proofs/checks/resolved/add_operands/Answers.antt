use Rattle.std.proofs.Common.{◌++◌, ◌+◌, ◌∷◌, [], List, length, drop, sym, ap, ◌∙◌, append-nil, append_assoc}
use Rattle.wb_language.specs.LineKinds.{operand_places_with}
use Rattle.wb_language.specs.Resolved.{resolved_operands}
use Rattle.wb_tree.specs.declared.script_lines.Referent.{Referent}
use Rattle.wb_tree.specs.declared.script_lines.Operand.{Operand}
use Rattle.wb_script.specs.Checks.{known_in}
use Rattle.wb_lines.specs.BytesOf.{bytes_of_operand, bytes_of_operands}
use Rattle.wb_script.specs.BytesOf.{bytes_of_items}
use Rattle.wb_script.proofs.names.OperandPlaces.{resolved_here, resolved_past, resolved_short}
use Rattle.wb_script.proofs.checks.resolved.add_operands.Goals as goal

pub returns-in_default : goal.returns-in_default
returns-in_default c =
    let operands = c.args.operands.now in
    let items = bytes_of_items c.args.items.now in
    let known = known_in c.args.known.now in
    let operand_places = operand_places_with c.of-operand_places.result.fixed.now c.of-operand_places.result.rest (length operands) in
    let past = resolved_past bytes_of_operand items known c.args.line_kind operand_places operands c.loop-index.index (c.at.ensures (length operands) c.loop-index-test.true ∙ c.in_default.is) in
    let found = c.loop-index.found.items in
    sym (ap (λ (l : List (Operand Referent)). found ++ l) past ∙ append-nil found)
    ∙ c.loop-index.invariant ∙ ap (λ l. c.args.found.now.items ++ resolved_operands items known c.args.line_kind l (bytes_of_operands operands)) (c.of-operand_places.ensures (length operands))

pub loop-index-preserved : goal.loop-index-preserved
loop-index-preserved c =
    let operands = c.args.operands.now in
    let items = bytes_of_items c.args.items.now in
    let known = known_in c.args.known.now in
    let operand_places = operand_places_with c.of-operand_places.result.fixed.now c.of-operand_places.result.rest (length operands) in
    let found = c.loop-index.found.items in
    let later = resolved_operands items known c.args.line_kind (drop (c.loop-index.index + 1) operand_places) (bytes_of_operands (drop (c.loop-index.index + 1) operands)) in
    let here = resolved_here bytes_of_operand items known c.args.line_kind operand_places operands c.loop-index.index _ c.in-Some.operand_place c.resolved_operand.result c.loop-index-test.true (c.at.ensures (length operands) c.loop-index-test.true ∙ c.in-Some.is) c.resolved_operand.ensures in
    ap (λ f. f ++ later) c.in_ok-add.ensures
    ∙ append_assoc found (c.resolved_operand.result ∷ []) later
    ∙ sym (ap (λ (l : List (Operand Referent)). found ++ l) here)
    ∙ c.loop-index.invariant

pub returns : goal.returns
returns c =
    let operands = c.args.operands.now in
    let items = bytes_of_items c.args.items.now in
    let known = known_in c.args.known.now in
    let operand_places = operand_places_with c.of-operand_places.result.fixed.now c.of-operand_places.result.rest (length operands) in
    let past = resolved_short bytes_of_operand items known c.args.line_kind operand_places operands c.loop-index.index c.loop-index-test.false in
    let found = c.loop-index.found.items in
    sym (ap (λ (l : List (Operand Referent)). found ++ l) past ∙ append-nil found)
    ∙ c.loop-index.invariant ∙ ap (λ l. c.args.found.now.items ++ resolved_operands items known c.args.line_kind l (bytes_of_operands operands)) (c.of-operand_places.ensures (length operands))
