use Rattle.std.proofs.Common.{IsTrue, ◌++◌, sym, ap, subst, ◌∙◌, Some}
use Rattle.wb_tree.specs.declared.script_lines.Form.TheVariants.{Line}
use Rattle.wb_language.specs.LineKinds.{role_of}
use Rattle.wb_script.specs.declared.tree.bodies.BodyProgress.TheVariants.{Inside}
use Rattle.wb_script.specs.Building.{fits, block_stack_places}
use Rattle.wb_script.specs.Growing.{AddsWhereFit, Grows, counts_owned, declared_in_space, in_body, owner_places}
use Rattle.wb_script.proofs.building.Growth.{done_grows, inside_grows, same_step}
use Rattle.wb_script.proofs.building.OpenPlaces.{inner_stuck}
use Rattle.wb_script.proofs.tree.add_inside.Goals as goal

pub returns-in-None : goal.returns-in-None
returns-in-None c = λ counts are fit.
    let declared = declared_in_space c.args.space in
    let line = Line c.args.line_kind c.args.operands.now in
    let around = owner_places c.args.owner in
    let none = subst (AddsWhereFit declared c.args.number line c.args.current) c.in-None.is c.in_ok-add_to_body.ensures in
    let fit_here = subst (λ n. IsTrue (fits declared n line)) are fit in
    same_step c.args.line_kind (block_stack_places c.args.current.block_stack ++ around)
    ∙ inner_stuck c.args.current.block_stack around (role_of c.args.line_kind) (none (counts_owned c.args.whole c.args.owner c.args.current.parameters counts) fit_here)

pub returns-in-Some-Inside : goal.returns-in-Some-Inside
returns-in-Some-Inside c =
    let declared = declared_in_space c.args.space in
    let line = Line c.args.line_kind c.args.operands.now in
    let told = subst (AddsWhereFit declared c.args.number line c.args.current) (c.in-Some-Inside.is ∙ ap Some (c.in-Some-Inside.field-0-is ∙ ap Inside c.in-Some-Inside.next-is)) c.in_ok-add_to_body.ensures in
    inside_grows declared c.args.number c.args.line_kind c.args.operands.now c.args.whole c.args.owner c.args.current c.requires.sound.stands c.requires.below.stands c.in-Some-Inside.next told

pub returns-in_ok-finish_body-in-Some-Done : goal.returns-in_ok-finish_body-in-Some-Done
returns-in_ok-finish_body-in-Some-Done c =
    let declared = declared_in_space c.args.space in
    let line = Line c.args.line_kind c.args.operands.now in
    let told = subst (AddsWhereFit declared c.args.number line c.args.current) (c.in-Some-Done.is ∙ ap Some c.in-Some-Done.field-0-is) c.in_ok-add_to_body.ensures in
    subst (Grows declared c.args.number line (in_body c.args.whole c.args.owner c.args.current)) (sym c.in_ok-finish_body-in-Some-Done.ensures)
    (done_grows declared c.args.number c.args.line_kind c.args.operands.now c.args.whole c.args.owner c.args.current c.requires.sound.stands c.requires.below.stands c.in-Some-Done.parameters c.in-Some-Done.body told)
