use Rattle.std.proofs.Common.{rules, ◌+◌, ◌*◌, ◌/◌, ◌%◌, ◌^◌, ◌<◌, inl, inr, ℕ, ◌≡◌, ◌≢◌, get_or, false, length, ap, sym, subst, ◌∙◌, arith}
use Rattle.std.specs.Int.{trailing_zeros, w32}
use Rattle.std.proofs.lemmas.Bool.{cases_lt}
use Rattle.wb_cells.specs.Bits.{bits_of}
use Rattle.wb_cells.proofs.Packing.{IsFirstOn, length-bits_of, word_off, word_on}
use Rattle.wb_cells.proofs.bits.Bits.next.Goals as goal

pub word-requires : goal.word-requires
word-requires c =
    omega (arith, c.loop-at-test.true, c.count-count.ensures.count, ap length (sym c.self.view_is), length-bits_of c.self.inside.words)

pub returns-then-rest-ne0 : goal.returns-then-rest-ne0
returns-then-rest-ne0 c =
    let words = c.self.inside.words in
    let view = c.self.view_is in
    let at = c.loop-at.at in
    let count = length-bits_of words in
    let inside : at < 32 * length words = omega (arith, c.loop-at-test.true, c.count-count.ensures.count, ap length (sym view), count) in
    let fits : c.word.result < 2 ^ 32 = search rules in
    let some = subst (λ w. w / 2 ^ (at % 32) ≢ 0) c.word.ensures c.if-rest-ne0.true in
    let found = subst (λ w. IsFirstOn (bits_of words) at (at + trailing_zeros w32 (w / 2 ^ (at % 32))) (32 * length words)) (sym c.word.ensures)
    (word_on words at (subst (λ w. w < 2 ^ 32) c.word.ensures fits) some inside) in
    let same : (k : ℕ) → get_or c.args.self.now k false ≡ get_or (bits_of words) k false = λ k. ap (λ b. get_or b k false) (sym view) in (
      omega (arith, c.loop-at.invariant.0),
      omega (arith, found.within, count, ap length (sym view)),
      same (at + trailing_zeros w32 (c.word.result / 2 ^ (at % 32))) ∙ found.on,
      λ k from lt. elim (cases_lt k at) [
        | inl below ↦ c.loop-at.invariant.1 k from below
        | inr above ↦ same k ∙ found.below k above lt
      ],
    )

pub loop-at-preserved : goal.loop-at-preserved
loop-at-preserved c =
    let words = c.self.inside.words in
    let at = c.loop-at.at in
    let none = subst (λ w. w / 2 ^ (at % 32) ≡ 0) c.word.ensures c.if-rest-ne0.false in (
      omega (arith, c.loop-at.invariant.0),
      λ k from lt. elim (cases_lt k at) [
        | inl below ↦ c.loop-at.invariant.1 k from below
        | inr above ↦ ap (λ b. get_or b k false) (sym c.self.view_is) ∙ word_off words at k none above lt
      ],
    )
