use Rattle.std.proofs.Common.{◌≡◌, ◌∙◌, sym, ap, length, arith, append-nil}
use Rattle.std.specs.Option.{option_map}
use Rattle.std.proofs.lemmas.List.{drop_all, length-map, map-append}
use Rattle.std.proofs.lemmas.Bool.Decides.{nat_tests}
use Rattle.wb_language.specs.LineKinds.{operand_places_with}
use Rattle.wb_lines.specs.BytesOf.{bytes_of_text, bytes_of_texts, bytes_of_operand, bytes_of_operands}
use Rattle.wb_lines.proofs.OperandPlaces.{as_many, operand_here, no_operand_here}
use Rattle.wb_lines.proofs.forms.operands_of.Goals as goal

pub returns-then-not-admit-clause-operands : goal.returns-then-not-admit-clause-operands
returns-then-not-admit-clause-operands c =
    let operand_places = operand_places_with c.args.operand_places.fixed.now c.args.operand_places.rest (length c.args.words.now) in
    let differ : length operand_places ≡ length c.args.words.now → ⊥ = λ e. grind (arith, nat_tests, e, c.admit.ensures, c.if-not-admit.true) in
    sym (as_many operand_places (bytes_of_texts c.args.words.now) (λ e. differ (e ∙ length-map c.args.words.now bytes_of_text)))

pub returns-in-None-clause-operands : goal.returns-in-None-clause-operands
returns-in-None-clause-operands c =
    let words = c.args.words.now in
    let operand_places = operand_places_with c.args.operand_places.fixed.now c.args.operand_places.rest (length words) in
    let is = c.operand_at.ensures (length words) c.loop-index-test.true ∙ ap (option_map bytes_of_operand) c.in-None.is in
    sym (no_operand_here operand_places words c.loop-index.invariant.as_many c.loop-index.index _ c.loop-index-test.true (bytes_of_operands c.loop-index.found.items) is) ∙ c.loop-index.invariant.so_far

pub loop-index-preserved : goal.loop-index-preserved
loop-index-preserved c =
    let words = c.args.words.now in
    let operand_places = operand_places_with c.args.operand_places.fixed.now c.args.operand_places.rest (length words) in
    let found = c.loop-index.found.items in
    let is = c.operand_at.ensures (length words) c.loop-index-test.true ∙ ap (option_map bytes_of_operand) c.in-Some.is in
    record {
      as_many = c.loop-index.invariant.as_many;
      so_far =
          rw (c.in_ok-add-in-Some.ensures, map-append bytes_of_operand found)
          (operand_here operand_places words c.loop-index.invariant.as_many c.loop-index.index _ c.loop-index-test.true (bytes_of_operands found) (bytes_of_operand c.in-Some.operand) is ∙ c.loop-index.invariant.so_far);
    }

pub returns-clause-operands : goal.returns-clause-operands
returns-clause-operands c =
    let operand_places = operand_places_with c.args.operand_places.fixed.now c.args.operand_places.rest (length c.args.words.now) in
    let done = drop_all c.loop-index.index operand_places (omega (arith, c.loop-index.invariant.as_many, c.loop-index-test.false)) in
    rw (drop_all c.loop-index.index c.args.words.now c.loop-index-test.false, done, append-nil (bytes_of_operands c.loop-index.found.items)) at c.loop-index.invariant.so_far
