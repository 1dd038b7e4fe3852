use Rattle.std.proofs.Common.{sym, subst}
use Rattle.wb_machine.specs.declared.pieces.PendingPiece.TheVariants.{Code, Turns}
use Rattle.wb_machine.specs.SamePieces as pieces
use Rattle.wb_machine.specs.SamePieces.{IsSamePiece}
use Rattle.wb_machine.proofs.likeness.GrownMaps.{by-both}
use Rattle.wb_machine.proofs.control.same.same_code.Goals as goal

pub returns-then-same_context : goal.returns-then-same_context
returns-then-same_context c e names =
    let w = c.in-Code-Code in
    by-both (IsSamePiece names) w.is-0 w.is-1
    (subst (λ x. IsSamePiece names (Code w.at w.statements) (Code x w.others)) (sym (c.same_context.ensures c.if-same_context.true)) (pieces.same_code w.at (c.same_statements.ensures e)))

pub returns-then-same_turns : goal.returns-then-same_turns
returns-then-same_turns c e names =
    let w = c.in-Turns-Turns in
    by-both (IsSamePiece names) w.is-0 w.is-1
    (subst (λ x. IsSamePiece names (Turns w.at w.left w.body) (Turns x w.other_left w.others)) (sym (c.same_turns.ensures.at c.if-same_turns.true))
    (subst (λ n. IsSamePiece names (Turns w.at w.left w.body) (Turns w.at n w.others)) (sym (c.same_turns.ensures.left c.if-same_turns.true))
    (pieces.same_turns w.at w.left (c.same_statements-then-same_turns.ensures e))))
