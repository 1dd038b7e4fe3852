use Rattle.std.proofs.Common.{◌≡◌, slice_index, length, sym, ◌∙◌, ap, subst, arith}
use Rattle.std.proofs.lemmas.List.{get_or-set_other, length-set}
use Rattle.wb_cells.specs.Maxima.{IsGreatest}
use Rattle.wb_cells.proofs.ranked.Ranked.set.Goals as goal

-- the greatest of the span is the same
pub invariant_of-self : goal.invariant_of-self
invariant_of-self c =
    let inside = c.self.inside in
    let is = c.self.invariant in
    let count : length c.set.new.self ≡ length inside.numbers = ap length c.set.ensures ∙ length-set inside.numbers c.args.at c.args.number in
    record {
      of_spans = c.renew.ensures.renewed (slice_index inside.numbers) (sym c.number-old.ensures)
          (λ k other. sym (ap (λ l. slice_index l k) c.set.ensures ∙ get_or-set_other inside.numbers c.args.at k c.args.number 0 other)) is.of_spans;
      of_all = subst (λ l. IsGreatest (slice_index l) 0 (length l) inside.greatest) (sym c.in_default.ensures.same) is.of_all;
      room = omega (arith, is.room, count, c.renew.ensures.count);
      bounded = omega (arith, is.bounded, count);
    }

pub invariant_of-self-2 : goal.invariant_of-self-2
invariant_of-self-2 c =
    let inside = c.self.inside in
    let is = c.self.invariant in
    let count : length c.set.new.self ≡ length inside.numbers = ap length c.set.ensures ∙ length-set inside.numbers c.args.at c.args.number in
    record {
      of_spans = c.renew.ensures.renewed (slice_index inside.numbers) (sym c.number-old.ensures)
          (λ k other. sym (ap (λ l. slice_index l k) c.set.ensures ∙ get_or-set_other inside.numbers c.args.at k c.args.number 0 other)) is.of_spans;
      of_all = subst (λ n. IsGreatest (slice_index c.renew.new.spans) 0 n c.greatest_now-greatest.result) (c.count-count.ensures)
          (c.greatest_now-greatest.ensures (slice_index inside.spans) (sym c.in-Some.ensures.was) (λ j other. sym (c.renew.ensures.others j other))
          (subst (λ n. IsGreatest (slice_index inside.spans) 0 n inside.greatest) (sym (c.count-count.ensures ∙ c.renew.ensures.count)) is.of_all));
      room = omega (arith, is.room, count, c.renew.ensures.count);
      bounded = omega (arith, is.bounded, count);
    }
