use Rattle.std.proofs.Common.{arith}
use Rattle.std.proofs.lemmas.List.{drop_all}
use Rattle.wb_renaming.specs.SameButNumbers.{AllBeside, none_beside, one_beside}
use Rattle.wb_machine.specs.SamePieces.{IsSamePiece}
use Rattle.wb_machine.proofs.likeness.GrownMaps.{by-both, grown-twice}
use Rattle.wb_machine.proofs.likeness.PiecesAlike.{piece-later}
use Rattle.wb_machine.proofs.control.same.same_pieces.Goals as goal

pub loop-i-preserved : goal.loop-i-preserved
loop-i-preserved c = record {
  lead = λ more f rest.
      c.loop-i.invariant.lead more (λ a b r. f a b (c.same_piece.ensures.grown.pairs a b r))
      (by-both (AllBeside (IsSamePiece more)) c.piece_at-piece.ensures c.piece_at-other.ensures (one_beside (piece-later f (c.same_piece.ensures.same c.if-not-same_piece.false)) rest));
  grown = grown-twice c.loop-i.invariant.grown c.same_piece.ensures.grown;
}

pub returns-clause-same : goal.returns-clause-same
returns-clause-same c e =
    c.loop-i.invariant.lead c.loop-i.names.names (λ a b r. r)
    (by-both (AllBeside (IsSamePiece c.loop-i.names.names)) (drop_all c.loop-i.i c.args.pieces.now (omega (arith, c.loop-i-test.false)))
    (drop_all c.loop-i.i c.args.others.now (omega (arith, c.loop-i-test.false, c.if-others-count.false))) none_beside)
