use Rattle.std.proofs.Common.{◌<◌, ℕ, slice_index, None, sym, subst, arith}
use Rattle.wb_cells.specs.Maxima.{IsFirstLong}
use Rattle.wb_cells.proofs.Spans.{first_down, first_none, all_short, span_within, all_most}
use Rattle.wb_cells.proofs.ranked.Ranked.first_long.Goals as goal

pub returns-then-self-least : goal.returns-then-self-least
returns-then-self-least c =
    let inside = c.self.inside in
    let is = c.self.invariant in
    let none : (k : ℕ) → slice_index inside.spans k < c.args.least = λ k. omega (arith, all_most inside.spans inside.greatest is.of_all.most k, c.if-self-least.true) in
    subst (λ l. IsFirstLong (slice_index l) c.args.least None) c.self.view_is (first_none (slice_index inside.numbers) inside.spans c.args.least is.of_spans none)

pub returns-in_err-span : goal.returns-in_err-span
returns-in_err-span c =
    let inside = c.self.inside in
    let is = c.self.invariant in
    let none = all_short inside.spans c.args.least c.requires (λ k low lt. c.in_err-span.ensures k low (omega (arith, lt, c.count.ensures))) in
    let all = first_none (slice_index inside.numbers) inside.spans c.args.least is.of_spans none in
    subst (λ l. IsFirstLong (slice_index l) c.args.least c.from_residual.result) c.self.view_is
    (subst (λ o. IsFirstLong (slice_index inside.numbers) c.args.least o) (sym c.from_residual.ensures) all)

pub overflow_mul-first : goal.overflow_mul-first
overflow_mul-first c =
    let inside = c.self.inside in
    omega (arith, span_within inside.numbers inside.spans c.in_ok-span.span c.self.invariant.of_spans (omega (arith, c.in_ok-span.ensures.2, c.requires)), c.self.invariant.bounded)

pub overflow_add-first : goal.overflow_add-first
overflow_add-first c =
    let inside = c.self.inside in
    omega (arith, span_within inside.numbers inside.spans c.in_ok-span.span c.self.invariant.of_spans (omega (arith, c.in_ok-span.ensures.2, c.requires)), c.self.invariant.bounded)

pub returns : goal.returns
returns c =
    let inside = c.self.inside in
    let is = c.self.invariant in
    let span = c.in_ok-span.ensures in
    let all = first_down (slice_index inside.numbers) inside.spans c.args.least c.in_ok-span.span c.requires is.of_spans span.2
    (λ i lt. span.3 i (omega arith) lt) c.first_among-2.result c.first_among-2.ensures in
    subst (λ l. IsFirstLong (slice_index l) c.args.least c.first_among-2.result) c.self.view_is all
