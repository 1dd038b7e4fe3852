use Rattle.std.proofs.Common.{slice_index, slice_set, length, sym, subst}
use Rattle.std.proofs.lemmas.List.{length-set}
use Rattle.wb_cells.specs.Maxima.{IsGreatest}
use Rattle.wb_cells.proofs.Apart.{apart_here, apart_others, greatest_either}
use Rattle.wb_cells.proofs.blocks.Blocks.greatest.Goals as goal

pub returns : goal.returns
returns c =
    let inside = c.self.inside in
    let is = c.self.invariant in
    let all = slice_set inside.ranked inside.latest inside.number in
    let either = greatest_either (slice_index inside.ranked) (slice_index all) inside.latest inside.number (apart_here inside.ranked inside.latest inside.number is)
    (apart_others inside.ranked inside.latest inside.number) is.low (length inside.ranked) c.greatest.result is.within c.greatest.ensures in
    subst (λ l. IsGreatest (slice_index l) 0 (length l) c.max.result) c.self.view_is
    (subst (λ n. IsGreatest (slice_index all) 0 n c.max.result) (sym (length-set inside.ranked inside.latest inside.number))
    (subst (IsGreatest (slice_index all) 0 (length inside.ranked)) (sym c.max.ensures) either))
