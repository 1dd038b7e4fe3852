use Rattle.std.proofs.Common.{drop}
use Rattle.wb_renaming.specs.SameButNumbers.{AllBeside}
use Rattle.wb_machine.specs.Alike.{IsGrown}
use Rattle.wb_machine.specs.SamePieces.{IsSamePiece}
use Rattle.wb_machine.proofs.likeness.GrownMaps.{LeadsTo}
use Rattle.wb_machine.proofs.control.same.same_pieces.Given as goal

abbrev pub invariant-loop-i : goal.invariant-loop-i
invariant-loop-i l = record {
  lead : LeadsTo (λ more. AllBeside (IsSamePiece more) (drop l.i l.pieces) (drop l.i l.others))
      (λ more. AllBeside (IsSamePiece more) l.pieces l.others) l.names.names;
  grown : IsGrown l.initial.names l.names;
}
