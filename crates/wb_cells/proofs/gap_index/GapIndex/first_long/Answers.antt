use Rattle.std.proofs.Common.{slice_index, sym, subst, arith}
use Rattle.wb_cells.specs.Maxima.{IsFirstLong}
use Rattle.wb_cells.proofs.Spans.{first_down, first_none, span_within}
use Rattle.wb_cells.proofs.gap_index.GapIndex.first_long.Goals as goal

pub returns-in_err-block : goal.returns-in_err-block
returns-in_err-block c =
    let inside = c.self.inside in
    let all = first_none (slice_index inside.lengths) inside.blocks c.args.bytes c.self.invariant.of_blocks c.in_err-block.ensures in
    subst (λ l. IsFirstLong (slice_index l) c.args.bytes c.from_residual.result) c.self.view_is
    (subst (λ o. IsFirstLong (slice_index inside.lengths) c.args.bytes o) (sym c.from_residual.ensures) all)

pub overflow_mul-places : goal.overflow_mul-places
overflow_mul-places c =
    let inside = c.self.inside in
    omega (arith, span_within inside.lengths inside.blocks c.in_ok-block.block c.self.invariant.of_blocks (omega (arith, c.in_ok-block.ensures.0, c.requires)), c.self.invariant.bounded)

pub overflow_add-places : goal.overflow_add-places
overflow_add-places c =
    let inside = c.self.inside in
    omega (arith, span_within inside.lengths inside.blocks c.in_ok-block.block c.self.invariant.of_blocks (omega (arith, c.in_ok-block.ensures.0, c.requires)), c.self.invariant.bounded)

pub returns : goal.returns
returns c =
    let inside = c.self.inside in
    let block = c.in_ok-block.ensures in
    let all = first_down (slice_index inside.lengths) inside.blocks c.args.bytes c.in_ok-block.block c.requires c.self.invariant.of_blocks block.0 block.1
    c.first_among.result c.first_among.ensures in
    subst (λ l. IsFirstLong (slice_index l) c.args.bytes c.first_among.result) c.self.view_is all
