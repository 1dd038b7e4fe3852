use Rattle.std.proofs.Common.{sym, subst}
use Rattle.std.proofs.lemmas.Bool.{eqb-true}
use Rattle.wb_machine.specs.declared.pieces.PendingPiece.TheVariants.{Items, Object, Call}
use Rattle.wb_machine.specs.SamePieces as pieces
use Rattle.wb_machine.specs.SamePieces.{IsSamePiece}
use Rattle.wb_machine.proofs.likeness.GrownMaps.{by-both}
use Rattle.wb_machine.proofs.likeness.PiecesAlike.{trap-itself}
use Rattle.wb_machine.proofs.control.same.same_piece.Goals as goal

pub returns-then-same_context-clause-same : goal.returns-then-same_context-clause-same
returns-then-same_context-clause-same c e =
    let names = c.args.names.now.names in
    let w = c.in-Items-Items in
    by-both (IsSamePiece names) w.is-0 w.is-1
    (subst (λ x. IsSamePiece names (Items w.at w.left) (Items x w.other_left)) (sym (c.same_context.ensures c.if-same_context.true))
    (subst (λ n. IsSamePiece names (Items w.at w.left) (Items w.at n)) (eqb-true w.left w.other_left e) (pieces.same_items w.at w.left)))

pub returns-then-same_context-2-clause-same : goal.returns-then-same_context-2-clause-same
returns-then-same_context-2-clause-same c e =
    let names = c.relate_pointers.new.self.names in
    let w = c.in-Object-Object in
    by-both (IsSamePiece names) w.is-0 w.is-1
    (subst (λ x. IsSamePiece names (Object w.at w.ptr) (Object x w.other_ptr)) (sym (c.same_context-in-Object-Object.ensures c.if-same_context-2.true))
    (pieces.same_object w.at (c.relate_pointers.ensures.same e)))

pub returns-then-base-other-clause-same : goal.returns-then-base-other-clause-same
returns-then-base-other-clause-same c e =
    let names = c.same_caller.new.names.names in
    let w = c.in-Call-Call in
    by-both (IsSamePiece names) w.is-0 w.is-1
    (subst (λ n. IsSamePiece names (Call w.base w.this w.after) (Call n w.other_this w.other_after)) c.if-base-other.true
    (pieces.same_call w.base (c.same_caller.ensures.this e) (c.same_caller.ensures.after e)))

pub returns-in_default-clause-same : goal.returns-in_default-clause-same
returns-in_default-clause-same c e =
    let names = c.args.names.now.names in
    subst (λ x. IsSamePiece names c.args.piece x) (sym (c.same_trap.ensures.same e)) (trap-itself c.args.piece (c.same_trap.ensures.trap e))
