use Rattle.std.proofs.Common.{◌≡◌, List, ℕ, None, true, false, length, sym, ap, subst, ◌∙◌}
use Rattle.wb_tree.specs.declared.script_lines.Form.TheVariants.{Line}
use Rattle.wb_tree.specs.declared.script_lines.LineKind.TheVariants as line_kind
use Rattle.wb_script.specs.declared.tree.whole.Owner.TheVariants as of
use Rattle.wb_script.specs.Growing.{AreParametersOf, Grows, declared_in_space, in_body, is_procedure_head, new_body, outside}
use Rattle.wb_script.proofs.building.FittingHeads.{fit_procedure, procedure_index}
use Rattle.wb_script.proofs.building.ItemGrowth.{procedure_grows}
use Rattle.wb_script.proofs.lists.Tests.{not_both}
use Rattle.wb_script.proofs.tree.openings.begin_procedure.Goals as goal

pub returns-in_ok-body-in-Some : goal.returns-in_ok-body-in-Some
returns-in_ok-body-in-Some c =
    let declared = declared_in_space c.args.space in
    let whole = c.args.whole.now in
    let operands = c.args.operands.now in
    let fields = c.args.space.fields.now in
    let told = subst (AreParametersOf (length fields) c.len-index.result operands) c.in-Some.is c.in_ok-parameters.ensures in
    let head : is_procedure_head (length declared.fields) (length whole.procedures) operands ≡ true =
    ap (λ (l : List ℕ). is_procedure_head (length l) (length whole.procedures) operands) (sym c.args.space.counted) ∙ ap (λ i. is_procedure_head (length fields) i operands) (sym c.len-index.ensures) ∙ told.0 in
    subst (λ p. Grows declared c.args.number (Line line_kind.Proc operands) (outside whole) (in_body whole (of.Procedure c.args.number) p)) (sym (c.in_ok-body-in-Some.ensures ∙ ap (new_body None) told.1))
    (procedure_grows declared c.args.number whole c.requires.sound.stands c.requires.below.stands operands (sym c.if-not-has_room.ensures) head)

pub returns-in-None : goal.returns-in-None
returns-in-None c = λ counts are fit.
    let declared = declared_in_space c.args.space in
    let operands = c.args.operands.now in
    let fields = c.args.space.fields.now in
    let none = subst (AreParametersOf (length fields) c.len-index.result operands) c.in-None.is c.in_ok-parameters.ensures in
    let head : is_procedure_head (length declared.fields) (length counts.procedures) operands ≡ true = (fit_procedure declared counts operands fit).1 in
    let other : is_procedure_head (length declared.fields) (length counts.procedures) operands ≡ false =
    ap (λ i. is_procedure_head (length declared.fields) i operands) (procedure_index c.args.whole.now counts are ∙ sym c.len-index.ensures)
    ∙ ap (λ (l : List ℕ). is_procedure_head (length l) c.len-index.result operands) (sym c.args.space.counted) ∙ none in
    not_both _ other head
