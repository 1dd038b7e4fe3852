use Rattle.std.proofs.Common.{arith}
use Rattle.wb_cells.proofs.Nearest.{none_under, round_first, round_none, round_some, within_listed}
use Rattle.wb_cells.proofs.free_list.neighbours_of.Goals as goal

pub returns-then-place-first-clause-round : goal.returns-then-place-first-clause-round
returns-then-place-first-clause-round c =
    λ low high links below above. round_first _ _ _ _ c.requires.rounded low high links (c.requires.listed _ links) below above c.if-place-first.true

pub returns-in-None-clause-round : goal.returns-in-None-clause-round
returns-in-None-clause-round c =
    λ low high links below above. round_none _ _ _ _ c.requires.rounded low high links (c.requires.listed _ links) below above c.in-None.ensures

pub prior_to-requires-clause-within : goal.prior_to-requires-clause-within
prior_to-requires-clause-within c =
    let cells = c.requires.linked.0 in
    let links = c.requires.linked.1 in
    within_listed c.args.words.now cells c.args.first c.in-Some.at links (omega (arith, c.in-Some.ensures.2, (c.requires.listed cells links).listed c.in-Some.at))

pub prior_to-requires-clause-first : goal.prior_to-requires-clause-first
prior_to-requires-clause-first c =
    let cells = c.requires.linked.0 in
    let links = c.requires.linked.1 in
    λ k lt. none_under c.args.words.now c.args.gaps.now cells c.args.first k links (c.requires.listed cells links) lt

pub link_at-requires : goal.link_at-requires
link_at-requires c =
    let cells = c.requires.linked.0 in
    let links = c.requires.linked.1 in
    within_listed c.args.words.now cells c.args.first c.in-Some.at links (omega (arith, c.in-Some.ensures.2, (c.requires.listed cells links).listed c.in-Some.at))

pub returns-in-Some-clause-round : goal.returns-in-Some-clause-round
returns-in-Some-clause-round c =
    λ low high links below above.
    rw c.link_at.ensures (round_some _ _ _ _ c.requires.rounded low high links (c.requires.listed _ links) below above c.in-Some.at c.prior_to.result c.in-Some.ensures c.prior_to.ensures)
