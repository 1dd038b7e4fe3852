use Rattle.std.proofs.Common.{◌≡◌, false, sym, subst, ℕ, Bool, IsTrue, arith}
use Rattle.wb_tree.specs.declared.script_lines.Form.TheVariants.{Line}
use Rattle.wb_tree.specs.Sound.{Scope}
use Rattle.wb_script.specs.declared.tree.bodies.BodyProgress.TheVariants.{Inside}
use Rattle.wb_script.specs.Building.{is_head}
use Rattle.wb_script.specs.Fitting.{operands_fit}
use Rattle.wb_script.specs.Growing.{Adds, declared_in_space}
use Rattle.wb_script.specs.Stated.{alone_in}
use Rattle.wb_script.proofs.building.Additions.{entered_adds, late_by_depth}
use Rattle.wb_script.proofs.building.BodyMisfits.{unbegun}
use Rattle.wb_script.proofs.tree.bodies.begin_block.Goals as goal

pub returns-then-len : goal.returns-then-len
returns-then-len c = λ before fit. late_by_depth (declared_in_space c.args.space) c.args.body.now c.args.line_kind c.args.operands.now before c.requires.block (omega (arith, c.len.ensures, c.if-len.true)) fit

pub returns-in_ok-enter_block-in-Some : goal.returns-in_ok-enter_block-in-Some
returns-in_ok-enter_block-in-Some c =
    let declared = declared_in_space c.args.space in
    let p = c.args.body.now in
    let begun = c.in-Some.ensures in
    let head_sound = subst (λ (s : Scope). (depth : ℕ) (trapped : Bool) → IsTrue (is_head declared s depth trapped c.in-Some.head)) c.scope_of-here.ensures.scope (begun.sound declared) in
    subst (λ n. Adds declared c.args.number (Line c.args.line_kind c.args.operands.now) p (Inside (record p { block_stack = n }))) (sym c.in_ok-enter_block-in-Some.ensures)
    (entered_adds declared c.args.number p c.args.line_kind c.args.operands.now c.in-Some.head c.requires.sound (omega (arith, c.len.ensures, c.if-len.false)) begun.line begun.line_kind_of begun.first head_sound)

pub returns-in-None : goal.returns-in-None
returns-in-None c = λ before fit.
    let here = c.scope_of-here.result in
    unbegun (alone_in here) (declared_in_space c.args.space) c.args.body.now c.args.line_kind c.args.operands.now before (sym c.scope_of-here.ensures.literals) c.requires.block
    (subst (λ (s : Scope). operands_fit (alone_in here) s c.args.line_kind c.args.operands.now ≡ false) c.scope_of-here.ensures.scope c.in-None.ensures) fit
