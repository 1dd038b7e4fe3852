use Rattle.std.proofs.Common.{sym}
use Rattle.wb_renaming.specs.SameButNumbers.{AllBeside}
use Rattle.wb_machine.specs.SamePieces.{IsSamePiece}
use Rattle.wb_machine.proofs.likeness.GrownMaps.{by-both}
use Rattle.wb_machine.proofs.likeness.PiecesAlike.{pending-alike}
use Rattle.wb_machine.proofs.control.Control.is_like.Goals as goal

pub returns-clause-same : goal.returns-clause-same
returns-clause-same c e =
    pending-alike (by-both (AllBeside (IsSamePiece c.same_pieces.new.names.names)) (sym c.as_slice.ensures.value) (sym c.as_slice-2.ensures.value) (c.same_pieces.ensures.same e))
