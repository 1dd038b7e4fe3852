use Rattle.std.proofs.Common.{◌≡◌, ◌≢◌, ◌+◌, ◌*◌, ◌/◌, ◌<◌, ℕ, slice_index, length, refl, sym, ◌∙◌, ap, subst, arith}
use Rattle.std.proofs.lemmas.List.{get_or-set_same, get_or-set_other, length-set}
use Rattle.wb_cells.specs.Maxima.{IsGreatest}
use Rattle.wb_cells.proofs.Spans.{renewed_spans, turned, turned_back}
use Rattle.wb_cells.proofs.gap_index.GapIndex.set.Goals as goal

-- the greatest of the block is another one
pub invariant_of-self : goal.invariant_of-self
invariant_of-self c =
    let inside = c.self.inside in
    let is = c.self.invariant in
    let f = slice_index inside.lengths in
    let g = slice_index c.set.new.self in
    let at = c.args.at in
    let now = c.greatest_now-now.result in
    let others : (k : ℕ) → k ≢ at → f k ≡ g k = λ k other. sym (ap (λ l. slice_index l k) c.set.ensures ∙ get_or-set_other inside.lengths at k c.args.bytes 0 other) in
    let was : IsGreatest f (at / 64 * 64) (at / 64 * 64 + 64) c.number-was.result =
    subst (IsGreatest f (at / 64 * 64) (at / 64 * 64 + 64)) (sym c.number-was.ensures) (turned f (at / 64) _ (is.of_blocks (at / 64))) in
    let greatest : IsGreatest g (64 * (at / 64)) (64 * (at / 64) + 64) now =
    turned_back g (at / 64) now (c.greatest_now-now.ensures f (sym c.number-length.ensures) others was) in
    let count : length c.set.new.self ≡ length inside.lengths = ap length c.set.ensures ∙ length-set inside.lengths at c.args.bytes in
    let blocks : length c.set-then-now-was.new.self ≡ length inside.blocks = ap length c.set-then-now-was.ensures ∙ length-set inside.blocks (at / 64) now in
    let within : at / 64 < length inside.blocks = omega (arith, is.room, ap length c.self.view_is, c.requires) in
    let here : slice_index c.set-then-now-was.new.self (at / 64) ≡ now =
    ap (λ l. slice_index l (at / 64)) c.set-then-now-was.ensures ∙ get_or-set_same inside.blocks (at / 64) now 0 within in
    record {
      of_blocks = renewed_spans f g inside.blocks c.set-then-now-was.new.self at is.of_blocks others
          (λ j other. ap (λ l. slice_index l j) c.set-then-now-was.ensures ∙ get_or-set_other inside.blocks (at / 64) j now 0 other)
          (subst (IsGreatest g (64 * (at / 64)) (64 * (at / 64) + 64)) (sym here) greatest);
      room = omega (arith, is.room, count, blocks);
      bounded = omega (arith, is.bounded, count);
    }

-- or the same
pub invariant_of-self-else-now-was : goal.invariant_of-self-else-now-was
invariant_of-self-else-now-was c =
    let inside = c.self.inside in
    let is = c.self.invariant in
    let f = slice_index inside.lengths in
    let g = slice_index c.set.new.self in
    let at = c.args.at in
    let now = c.greatest_now-now.result in
    let others : (k : ℕ) → k ≢ at → f k ≡ g k = λ k other. sym (ap (λ l. slice_index l k) c.set.ensures ∙ get_or-set_other inside.lengths at k c.args.bytes 0 other) in
    let was : IsGreatest f (at / 64 * 64) (at / 64 * 64 + 64) c.number-was.result =
    subst (IsGreatest f (at / 64 * 64) (at / 64 * 64 + 64)) (sym c.number-was.ensures) (turned f (at / 64) _ (is.of_blocks (at / 64))) in
    let greatest : IsGreatest g (64 * (at / 64)) (64 * (at / 64) + 64) now =
    turned_back g (at / 64) now (c.greatest_now-now.ensures f (sym c.number-length.ensures) others was) in
    let count : length c.set.new.self ≡ length inside.lengths = ap length c.set.ensures ∙ length-set inside.lengths at c.args.bytes in
    record {
      of_blocks = renewed_spans f g inside.blocks inside.blocks at is.of_blocks others (λ j other. refl)
          (subst (IsGreatest g (64 * (at / 64)) (64 * (at / 64) + 64)) (c.if-now-was.false ∙ c.number-was.ensures) greatest);
      room = omega (arith, is.room, count);
      bounded = omega (arith, is.bounded, count);
    }
