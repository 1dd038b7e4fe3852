use Rattle.std.proofs.Common.{max, slice_index, sym, ◌∙◌, ap, subst, refl, arith}
use Rattle.wb_cells.specs.Maxima.{IsGreatest}
use Rattle.wb_cells.proofs.Spans.{greatest_down, greatest_rest, greatest_full, greatest_empty}
use Rattle.wb_cells.proofs.maxima.greatest_among.Goals as goal

pub loop-greatest-init : goal.loop-greatest-init
loop-greatest-init c = (omega arith, λ any. absurd (any refl), greatest_empty (slice_index c.args.numbers.now) c.args.end)

pub loop-greatest-preserved : goal.loop-greatest-preserved
loop-greatest-preserved c =
    let last = c.in-Some.ensures in
    let f = slice_index c.args.numbers.now in
    let begun = c.loop-greatest.invariant in
    let down = greatest_down f c.args.from c.in-Some.at c.loop-greatest.stop c.args.end c.loop-greatest.greatest begun.0 last begun.2 in (
      omega (arith, last.1, begun.0),
      λ any. last.0,
      subst (IsGreatest f c.in-Some.at c.args.end) (sym (c.max-greatest.ensures ∙ ap (λ n. max n c.loop-greatest.greatest) c.number.ensures)) down,
    )

pub returns-in_default : goal.returns-in_default
returns-in_default c bound =
    let begun = c.loop-greatest.invariant in
    greatest_rest (slice_index c.args.numbers.now) c.args.from c.loop-greatest.stop c.args.end c.loop-greatest.greatest begun.1 c.in_default.ensures begun.2

pub returns : goal.returns
returns c bound =
    let begun = c.loop-greatest.invariant in
    greatest_full (slice_index c.args.numbers.now) c.args.from c.loop-greatest.stop c.args.end c.loop-greatest.greatest c.args.most begun.1 begun.2 bound c.loop-greatest-test.false
