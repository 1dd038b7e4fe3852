use Rattle.std.proofs.Common.{slice_index, slice_set, subst}
use Rattle.wb_cells.specs.Maxima.{IsFirstLong}
use Rattle.wb_cells.proofs.Apart.{apart_here, apart_others, first_other}
use Rattle.wb_cells.proofs.blocks.Blocks.first_long.Goals as goal

pub returns-then-self-least : goal.returns-then-self-least
returns-then-self-least c =
    let inside = c.self.inside in
    let is = c.self.invariant in
    let all = slice_set inside.ranked inside.latest inside.number in
    subst (λ l. IsFirstLong (slice_index l) c.args.least c.first_long-other.result) c.self.view_is
    (first_other (slice_index inside.ranked) (slice_index all) inside.latest inside.number (apart_here inside.ranked inside.latest inside.number is)
    (apart_others inside.ranked inside.latest inside.number) is.low c.args.least c.if-self-least.true c.first_long-other.result c.first_long-other.ensures)
