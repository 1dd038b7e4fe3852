use Rattle.std.proofs.Common.{◌*◌, length, slice_index, subst}
use Rattle.wb_cells.specs.Maxima.{IsGreatest}
use Rattle.wb_cells.proofs.Spans.{greatest_of_all, all_most, there_within}
use Rattle.wb_cells.proofs.ranked.Ranked.greatest.Goals as goal

pub returns : goal.returns
returns c =
    let inside = c.self.inside in
    let is = c.self.invariant in
    let n = length inside.spans in
    let most = all_most inside.spans inside.greatest is.of_all.most in
    let all = greatest_of_all (slice_index inside.numbers) inside.spans inside.greatest n is.of_spans most is.of_all.some in
    subst (λ l. IsGreatest (slice_index l) 0 (length l) inside.greatest) c.self.view_is (record {
      most = λ k low high. all.0 k;
      some = λ any. there_within inside.numbers (64 * n) inside.greatest any (all.1 any);
    })
