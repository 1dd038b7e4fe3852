use Rattle.std.proofs.Common.{sym, arith}
use Rattle.wb_script.specs.Growing.{declared_in_space, scope_in_body}
use Rattle.wb_script.proofs.building.Additions.{late_by_block, late_by_room, late_by_statement, takes_local}
use Rattle.wb_script.proofs.tree.bodies.next_local.Goals as goal

pub returns-then-len-gt0 : goal.returns-then-len-gt0
returns-then-len-gt0 c = λ before fit. late_by_block c.args.body.now (omega (arith, c.len.ensures, c.if-len-gt0.true))

pub returns-then-len-gt0-2 : goal.returns-then-len-gt0-2
returns-then-len-gt0-2 c = λ before fit. late_by_statement c.args.body.now (omega (arith, c.len-2.ensures, c.if-len-gt0-2.true))

pub returns-then-len : goal.returns-then-len
returns-then-len c = λ before fit. late_by_room (declared_in_space c.args.space) c.args.body.now c.args.line_kind c.args.operands.now before c.requires (omega (arith, c.len-3.ensures, c.if-len.true)) fit

pub returns : goal.returns
returns c =
    let declared = declared_in_space c.args.space in
    let body = c.args.body.now in
    let counted = c.args.space.counted in
    let it = c.declared_local.ensures in
    takes_local declared body c.args.line_kind c.args.operands.now c.len-4.result c.args.space.fields.now c.declared_local.result c.len-4.ensures counted (omega (arith, c.len.ensures, c.if-len-gt0.false)) (omega (arith, c.len-2.ensures, c.if-len-gt0-2.false))
    (omega (arith, c.len-3.ensures, c.if-len.false)) c.requires it.line it.local it.sound (it.found declared (scope_in_body declared body) (sym counted) c.requires)
