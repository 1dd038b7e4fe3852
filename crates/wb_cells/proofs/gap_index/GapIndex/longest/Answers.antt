use Rattle.std.proofs.Common.{◌*◌, length, slice_index, subst}
use Rattle.wb_cells.specs.Maxima.{IsGreatest}
use Rattle.wb_cells.proofs.Spans.{greatest_of_all, all_most, there_within}
use Rattle.wb_cells.proofs.gap_index.GapIndex.longest.Goals as goal

pub returns : goal.returns
returns c =
    let inside = c.self.inside in
    let n = length inside.blocks in
    let longest = c.greatest.result in
    let most = all_most inside.blocks longest c.greatest.ensures.most in
    let all = greatest_of_all (slice_index inside.lengths) inside.blocks longest n c.self.invariant.of_blocks most c.greatest.ensures.some in
    subst (λ l. IsGreatest (slice_index l) 0 (length l) longest) c.self.view_is (record {
      most = λ k low high. all.0 k;
      some = λ any. there_within inside.lengths (64 * n) longest any (all.1 any);
    })
