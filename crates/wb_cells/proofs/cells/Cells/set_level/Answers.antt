use Rattle.std.proofs.Common.{◌+◌, slice_set, ap, ◌∙◌, arith}
use Rattle.std.proofs.lemmas.List.{length-set}
use Rattle.wb_cells.specs.Inside.{cells_in}
use Rattle.wb_cells.proofs.Changing.{valid, some_cell, payload_within}
use Rattle.wb_cells.proofs.Levels.{view_level}
use Rattle.wb_cells.proofs.Indexed.{indexed_level}
use Rattle.wb_cells.proofs.Sound.{sound_laid}
use Rattle.wb_cells.proofs.cells.Cells.set_level.Goals as goal

pub set_word-requires : goal.set_word-requires
set_word-requires c =
    let v = valid _ _ _ _ c.self.invariant.laid c.args.ptr _ (ap (λ v. v.row) c.self.view_is) (some_cell c.args.ptr c.args.self.now.row c.requires) in
    omega (arith, payload_within _ _ _ _ v.cell, c.words_in.ensures)

pub invariant_of-self : goal.invariant_of-self
invariant_of-self c =
    let v = valid _ _ _ _ c.self.invariant.laid c.args.ptr _ (ap (λ v. v.row) c.self.view_is) (some_cell c.args.ptr c.args.self.now.row c.requires) in
    rw (c.set_word.ensures, c.words_in.ensures) (indexed_level _ _ _ _ _ c.self.invariant c.args.ptr v.cell c.args.level (length-set _ _ _))

pub returns-clause-changed : goal.returns-clause-changed
returns-clause-changed c =
    let v = valid _ _ _ _ c.self.invariant.laid c.args.ptr _ (ap (λ v. v.row) c.self.view_is) (some_cell c.args.ptr c.args.self.now.row c.requires) in
    ap (λ ws. cells_in ws c.self.inside.ends.top) (c.set_word.ensures ∙ ap (λ k. slice_set c.self.inside.words (k + 2) c.args.level) c.words_in.ensures)
    ∙ view_level _ _ _ _ c.self.invariant.laid c.args.ptr v.cell c.args.level (length-set _ _ _) c.args.self.now c.self.view_is

pub returns-clause-sound : goal.returns-clause-sound
returns-clause-sound c = sound_laid _ _ _ _ (invariant_of-self c).laid
