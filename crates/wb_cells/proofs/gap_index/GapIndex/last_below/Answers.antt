use Rattle.std.proofs.Common.{◌*◌, ◌/◌, slice_index, sym, ◌∙◌, subst}
use Rattle.wb_cells.specs.Maxima.{IsLast}
use Rattle.wb_cells.proofs.Spans.{last_down, last_none, none_is}
use Rattle.wb_cells.proofs.gap_index.GapIndex.last_below.Goals as goal

pub returns-in_err-block : goal.returns-in_err-block
returns-in_err-block c =
    let f = slice_index c.self.inside.lengths in
    let own = none_is c.last-own.result (sym c.is_some.ensures ∙ c.if-is_some.false) in
    let none = subst (λ o. IsLast f (c.args.at / 64 * 64) c.args.at o) own c.last-own.ensures in
    let all = last_none f c.self.inside.blocks c.args.at c.self.invariant.of_blocks none c.in_err-block.ensures in
    subst (λ l. IsLast (slice_index l) 0 c.args.at c.from_residual.result) c.self.view_is (subst (λ o. IsLast f 0 c.args.at o) (sym c.from_residual.ensures) all)

pub returns : goal.returns
returns c =
    let f = slice_index c.self.inside.lengths in
    let own = none_is c.last-own.result (sym c.is_some.ensures ∙ c.if-is_some.false) in
    let none = subst (λ o. IsLast f (c.args.at / 64 * 64) c.args.at o) own c.last-own.ensures in
    subst (λ l. IsLast (slice_index l) 0 c.args.at c.last.result) c.self.view_is
    (last_down f c.self.inside.blocks c.args.at c.in_ok-block.block c.self.invariant.of_blocks none c.in_ok-block.ensures c.last.result c.last.ensures)
