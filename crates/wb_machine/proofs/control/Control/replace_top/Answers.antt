use Rattle.std.proofs.Common.{◌-◌, refl, arith, slice_set}
use Rattle.wb_machine.proofs.turns.Tops.{top_changed}
use Rattle.wb_machine.proofs.control.Control.replace_top.Goals as goal

pub returns-clause-pieces : goal.returns-clause-pieces
returns-clause-pieces c below p is =
    let pieces = c.args.self.now.pieces in
    let n = c.len-top.result - 1 in
    top_changed below pieces.items (slice_set pieces.items n c.args.piece) p c.args.piece n (omega (arith, c.len-top.ensures, c.requires, pieces.ok.0)) refl is
