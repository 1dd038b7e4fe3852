use Rattle.std.proofs.Common.{◌≡◌, List, ℕ, IsTrue, true, false, length, sym, ap, subst, ◌∙◌, arith}
use Rattle.std.specs.Prelude.{is_some}
use Rattle.wb_tree.specs.Sound.{is_class_among}
use Rattle.wb_language.specs.Trees.{field_line}
use Rattle.wb_script.specs.Building.{declares, scope_at}
use Rattle.wb_script.specs.Growing.{declared_in_space}
use Rattle.wb_script.proofs.building.FittingHeads.{absent, field_index, fit_field}
use Rattle.wb_script.proofs.building.ClassGrowth.{field_grows}
use Rattle.wb_script.proofs.tree.classes.read_field.Goals as goal

pub returns-then-len : goal.returns-then-len
returns-then-len c = λ counts are fit.
    let it = fit_field (declared_in_space c.args.space) counts c.args.line_kind c.args.operands.now c.requires.field fit in
    absurd (omega (arith, it.room, field_index c.args.whole.now c.args.class.now counts are, c.len.ensures, c.if-len.true))

pub returns-in-Some : goal.returns-in-Some
returns-in-Some c =
    let class = c.args.class.now in
    let first = absent class.construct (sym c.is_some.ensures ∙ c.if-is_some.false) in
    let second = absent class.destroy (sym c.is_some-else-is_some.ensures ∙ c.if-is_some-2.false) in
    let line = ap (λ n. field_line n c.in-Some.field) (sym c.len-2.ensures) ∙ c.in-Some.ensures.line in
    let fine = subst (λ (l : List ℕ). IsTrue (is_class_among (length l) c.in-Some.field)) c.args.space.counted c.in-Some.ensures.sound in
    field_grows (declared_in_space c.args.space) c.args.number c.args.whole.now class c.requires.sound.stands c.requires.below.stands c.args.line_kind c.args.operands.now c.in-Some.field c.requires.field first second (omega (arith, c.len.ensures, c.if-len.false)) line fine

pub returns-in-None : goal.returns-in-None
returns-in-None c = λ counts are fit.
    let declared = declared_in_space c.args.space in
    let it = fit_field declared counts c.args.line_kind c.args.operands.now c.requires.field fit in
    let next = subst (λ n. IsTrue (declares n c.args.operands.now)) (field_index c.args.whole.now c.args.class.now counts are ∙ sym c.len-2.ensures) it.next in
    let some : is_some c.declared_field.result ≡ true = c.declared_field.ensures.found declared (scope_at declared counts) (sym c.args.space.counted) c.requires.field it.operand_places next in
    let clash : false ≡ true = sym (ap is_some c.in-None.is) ∙ some in
    absurd cc
