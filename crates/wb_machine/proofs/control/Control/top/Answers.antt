use Rattle.std.proofs.Common.{ℕ, ◌-◌, ◌∷◌, ◌++◌, [], take, ap, ◌∙◌, arith}
use Rattle.wb_machine.proofs.turns.Tops.{top_front, top_there}
use Rattle.wb_machine.proofs.control.Control.top.Goals as goal

pub returns-clause-top : goal.returns-clause-top
returns-clause-top c =
    let pieces = c.args.self.now.pieces in
    let some = top_there c.requires.1 pieces.items c.requires.2 c.requires.3 in
    top_front c.requires.1 pieces.items c.requires.2 c.index.result.now (c.len.result - 1) (omega (arith, c.len.ensures, pieces.ok.0, some)) c.index.ensures c.requires.3
    ∙ ap (λ (n : ℕ). take (n - 1) pieces.items ++ c.index.result.now ∷ []) c.len.ensures
