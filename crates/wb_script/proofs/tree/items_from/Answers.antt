use Rattle.std.proofs.Common.{◌∙◌, sym, ap, subst, map, take, append-nil, ◌++◌, ◌+◌, IsTrue}
use Rattle.wb_language.specs.Forms.{role_of_form}
use Rattle.wb_language.specs.Trees.{all_lines, counted, counted_from}
use Rattle.wb_script.specs.Building.{Counts, counts_of, fits}
use Rattle.wb_script.specs.Growing.{AreCounts, AreCountsWhere, GrowsWhereFit, building_places, declared_in_space, if_added, items_in_order, stage_lines}
use Rattle.wb_script.specs.ResolvedLines.{form_of}
use Rattle.wb_script.specs.declared.checks.resolved_lines.Row.TheVariants as row
use Rattle.wb_nesting.specs.Machine.{after_line}
use Rattle.wb_nesting.proofs.Misfits.{blocks_after, none_open}
use Rattle.wb_script.proofs.building.OpenPlaces.{never_in_body, never_in_class, unknown_stuck}
use Rattle.wb_script.proofs.building.Steps.{counted_more, line_step, never_none, line_fits, counts_more}
use Rattle.wb_script.proofs.names.LinesOfRows.{all_taken, enough_left, later_left, line_here, line_within}
use Rattle.wb_script.proofs.tree.items_from.Goals as goal

pub split-requires : goal.split-requires
split-requires c = enough_left _ _ _ _ c.loop-row.invariant.left row.Skip c.loop-row-test.true

pub add_next-requires-clause-known : goal.add_next-requires-clause-known
add_next-requires-clause-known c = λ is.
    let left = c.loop-row.invariant.left in
    let line = form_of c.split.result.0 in
    let within = line_within _ _ _ _ left row.Skip c.loop-row-test.true in
    let here = line_here _ _ _ _ left row.Skip c.loop-row-test.true line c.split.ensures.line in
    let places = building_places c.loop-row.building in
    never_none c.args.lines.now _ c.requires.grammar
    (line_step c.args.lines.now c.loop-row.row-index line _ within here c.loop-row.invariant.places ∙ ap (λ l. after_line places (role_of_form l)) is ∙ unknown_stuck places)

pub unreachable-requires : goal.unreachable-requires
unreachable-requires c =
    let left = c.loop-row.invariant.left in
    let line = form_of c.split.result.0 in
    let within = line_within _ _ _ _ left row.Skip c.loop-row-test.true in
    let here = line_here _ _ _ _ left row.Skip c.loop-row-test.true line c.split.ensures.line in
    let declared = declared_in_space c.args.space in
    let before = counts_of (take c.loop-row.row-index c.args.lines.now) in
    let fit : IsTrue (fits declared before line) = line_fits declared c.args.lines.now c.loop-row.row-index line c.requires.fit within here in
    let stuck = subst (λ added. GrowsWhereFit declared (c.loop-row.number + 1) line c.loop-row.building (if_added added c.add_next.new.building)) c.if-not-branch.true c.in_ok-add_next.ensures in
    never_none c.args.lines.now _ c.requires.grammar
    (line_step c.args.lines.now c.loop-row.row-index line _ within here c.loop-row.invariant.places ∙ stuck before c.loop-row.invariant.counts fit)

pub loop-row-preserved : goal.loop-row-preserved
loop-row-preserved c =
    let left = c.loop-row.invariant.left in
    let line = form_of c.split.result.0 in
    let lines = c.args.lines.now in
    let index = c.loop-row.row-index in
    let within = line_within _ _ _ _ left row.Skip c.loop-row-test.true in
    let here = line_here _ _ _ _ left row.Skip c.loop-row-test.true line c.split.ensures.line in
    let declared = declared_in_space c.args.space in
    let grown = subst (λ added. GrowsWhereFit declared (c.loop-row.number + 1) line c.loop-row.building (if_added added c.add_next.new.building)) c.if-not-branch.false c.in_ok-add_next.ensures in
    record {
      left = later_left _ _ _ _ left row.Skip c.loop-row-test.true c.split.result.1.now c.split.ensures.others;
      number = ap (λ n. n + 1) c.loop-row.invariant.number;
      lines = grown.lines ∙ ap (λ l. l ++ counted (c.loop-row.number + 1) line) c.loop-row.invariant.lines ∙ ap (λ n. counted_from 1 (take index lines) ++ counted (n + 1) line) c.loop-row.invariant.number ∙ sym (counted_more lines index line within here);
      places = line_step lines index line _ within here c.loop-row.invariant.places ∙ grown.places;
      counts = subst (AreCounts c.add_next.new.building) (sym (counts_more lines index line within here)) (grown.counts (counts_of (take index lines)) c.loop-row.invariant.counts);
      sound = grown.sound;
      below = grown.below;
    }

pub unreachable-requires-in-InClass : goal.unreachable-requires-in-InClass
unreachable-requires-in-InClass c =
    let whole = all_taken _ _ _ _ c.loop-row.invariant.left c.loop-row-test.false in
    let none = none_open (map role_of_form c.args.lines.now) _ c.requires.grammar (ap (λ l. blocks_after (map role_of_form l)) (sym whole) ∙ c.loop-row.invariant.places) in
    never_in_class c.loop-row.building c.in-InClass._class c.in-InClass.is none

pub unreachable-requires-in-InBody : goal.unreachable-requires-in-InBody
unreachable-requires-in-InBody c =
    let whole = all_taken _ _ _ _ c.loop-row.invariant.left c.loop-row-test.false in
    let none = none_open (map role_of_form c.args.lines.now) _ c.requires.grammar (ap (λ l. blocks_after (map role_of_form l)) (sym whole) ∙ c.loop-row.invariant.places) in
    never_in_body c.loop-row.building c.in-InBody._owner c.in-InBody._body c.in-InBody.is none

pub returns-clause-lines : goal.returns-clause-lines
returns-clause-lines c =
    let b = c.loop-row.building.whole in
    let whole = all_taken _ _ _ _ c.loop-row.invariant.left c.loop-row-test.false in
    sym (append-nil (all_lines (items_in_order b)))
    ∙ ap (λ s. all_lines (items_in_order b) ++ stage_lines b s) (sym c.in-Outside.is)
    ∙ c.loop-row.invariant.lines ∙ ap (counted_from 1) whole

pub returns-clause-fields : goal.returns-clause-fields
returns-clause-fields c =
    let whole = all_taken _ _ _ _ c.loop-row.invariant.left c.loop-row-test.false in
    let counts = subst (λ s. AreCountsWhere c.loop-row.building.whole s (counts_of (take c.loop-row.row-index c.args.lines.now))) c.in-Outside.is c.loop-row.invariant.counts in
    sym (ap (λ (k : Counts). k.classes) counts) ∙ ap (λ l. (counts_of l).classes) whole

pub returns-clause-signatures : goal.returns-clause-signatures
returns-clause-signatures c =
    let whole = all_taken _ _ _ _ c.loop-row.invariant.left c.loop-row-test.false in
    let counts = subst (λ s. AreCountsWhere c.loop-row.building.whole s (counts_of (take c.loop-row.row-index c.args.lines.now))) c.in-Outside.is c.loop-row.invariant.counts in
    sym (ap (λ (k : Counts). k.procedures) counts) ∙ ap (λ l. (counts_of l).procedures) whole

pub returns-clause-operations : goal.returns-clause-operations
returns-clause-operations c =
    let whole = all_taken _ _ _ _ c.loop-row.invariant.left c.loop-row-test.false in
    let counts = subst (λ s. AreCountsWhere c.loop-row.building.whole s (counts_of (take c.loop-row.row-index c.args.lines.now))) c.in-Outside.is c.loop-row.invariant.counts in
    sym (ap (λ (k : Counts). k.operations) counts) ∙ ap (λ l. (counts_of l).operations) whole
