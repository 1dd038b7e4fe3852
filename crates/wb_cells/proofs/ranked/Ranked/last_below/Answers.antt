use Rattle.std.proofs.Common.{◌*◌, ◌/◌, slice_index, None, arith, sym, ◌∙◌, subst}
use Rattle.wb_cells.specs.Maxima.{IsLast}
use Rattle.wb_cells.proofs.Spans.{all_most, below_span, last_down, last_none, none_is}
use Rattle.wb_cells.proofs.ranked.Ranked.last_below.Goals as goal

pub returns-then-self-eq0 : goal.returns-then-self-eq0
returns-then-self-eq0 c =
    let inside = c.self.inside in
    let is = c.self.invariant in
    let most = all_most inside.spans inside.greatest is.of_all.most in
    let none : IsLast (slice_index inside.numbers) 0 c.args.at None =
    λ k low lt. omega (arith, below_span (slice_index inside.numbers) inside.spans k is.of_spans, most (k / 64), c.if-self-eq0.true) in
    subst (λ l. IsLast (slice_index l) 0 c.args.at None) c.self.view_is none

pub returns-in_err-span : goal.returns-in_err-span
returns-in_err-span c =
    let f = slice_index c.self.inside.numbers in
    let own = none_is c.last-own.result (sym c.is_some.ensures ∙ c.if-is_some.false) in
    let none = subst (λ o. IsLast f (c.args.at / 64 * 64) c.args.at o) own c.last-own.ensures in
    let all = last_none f c.self.inside.spans c.args.at c.self.invariant.of_spans none c.in_err-span.ensures in
    subst (λ l. IsLast (slice_index l) 0 c.args.at c.from_residual.result) c.self.view_is (subst (λ o. IsLast f 0 c.args.at o) (sym c.from_residual.ensures) all)

pub returns : goal.returns
returns c =
    let f = slice_index c.self.inside.numbers in
    let own = none_is c.last-own.result (sym c.is_some.ensures ∙ c.if-is_some.false) in
    let none = subst (λ o. IsLast f (c.args.at / 64 * 64) c.args.at o) own c.last-own.ensures in
    subst (λ l. IsLast (slice_index l) 0 c.args.at c.last-2.result) c.self.view_is
    (last_down f c.self.inside.spans c.args.at c.in_ok-span.span c.self.invariant.of_spans none c.in_ok-span.ensures c.last-2.result c.last-2.ensures)
