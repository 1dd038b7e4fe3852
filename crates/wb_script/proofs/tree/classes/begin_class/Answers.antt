use Rattle.std.proofs.Common.{◌≡◌, ◌∷◌, [], None, IsTrue, true, false, sym, ap, subst, ◌∙◌, arith}
use Rattle.std.specs.Prelude.{is_some}
use Rattle.wb_script.specs.Building.{declares, scope_at}
use Rattle.wb_script.specs.Growing.{Grows, declared_in_space, in_class, outside}
use Rattle.wb_tree.specs.declared.script_lines.Form.TheVariants.{Line}
use Rattle.wb_tree.specs.declared.script_lines.LineKind.TheVariants as line_kind
use Rattle.wb_tree.specs.declared.script_lines.Referent.TheVariants as referent
use Rattle.wb_tree.specs.declared.script_lines.Operand.TheVariants.{Name, Size}
use Rattle.wb_script.proofs.building.ItemGrowth.{class_grows}
use Rattle.wb_script.proofs.building.FittingHeads.{class_index, fit_class}
use Rattle.wb_script.proofs.tree.classes.begin_class.Goals as goal

pub returns-in-None : goal.returns-in-None
returns-in-None c = λ counts are fit.
    let declared = declared_in_space c.args.space in
    let operands = c.args.operands.now in
    let it = fit_class declared counts operands fit in
    let next = subst (λ n. IsTrue (declares n operands)) (class_index c.args.whole.now counts are ∙ sym c.len-2.ensures) it.next in
    let some : is_some c.extra_of.result ≡ true = c.extra_of.ensures.found declared.literals (scope_at declared counts) it.operand_places next it.small in
    let clash : false ≡ true = sym (ap is_some c.in-None.is) ∙ some in
    absurd cc

pub returns-in-Some : goal.returns-in-Some
returns-in-Some c =
    let is = c.in-Some.ensures.extra.0 ∙ ap (λ n. Name (referent.Declared n) ∷ Size c.in-Some.extra ∷ []) c.len-2.ensures in
    let grown = class_grows (declared_in_space c.args.space) c.args.number c.args.whole.now c.requires.sound.stands c.requires.below.stands c.args.operands.now c.in-Some.extra is c.in-Some.ensures.extra.1 (omega (arith, c.len.ensures, c.if-len.false)) in
    subst
    (λ l. Grows (declared_in_space c.args.space) c.args.number (Line line_kind.Class c.args.operands.now) (outside c.args.whole.now) (in_class c.args.whole.now (record { line = c.args.number; extra = c.in-Some.extra; fields = l; construct = None; destroy = None })))
    (sym c.new.ensures) grown
