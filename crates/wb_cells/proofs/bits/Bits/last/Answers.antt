use Rattle.std.proofs.Common.{◌≡◌, ◌+◌, ◌-◌, ◌*◌, ◌/◌, ◌%◌, inl, inr, ℕ, Some, None, get_or, false, length, ap, sym, subst, ◌∙◌, arith}
use Rattle.std.proofs.lemmas.Bool.{cases_lt}
use Rattle.std.proofs.lemmas.List.{get_or_past}
use Rattle.wb_cells.specs.Bits.{bits_of, IsLastIn}
use Rattle.wb_cells.proofs.Packing.{length-bits_of}
use Rattle.wb_cells.proofs.LastBits.{word_none, word_here, word_past}
use Rattle.wb_cells.proofs.bits.Bits.last.Goals as goal

pub loop-stop-init : goal.loop-stop-init
loop-stop-init c = (
  omega (arith, c.min-stop.ensures),
  omega (arith, c.min-stop.ensures, c.count.ensures.count),
  λ k low high. get_or_past c.args.self.now k false (omega (arith, low, high, c.min-stop.ensures, c.count.ensures.count)),
)

pub word-requires : goal.word-requires
word-requires c =
    omega (arith, c.loop-stop.invariant.1, c.loop-stop-test.true, ap length (sym c.self.view_is), length-bits_of c.self.inside.words)

pub returns-then-from-at : goal.returns-then-from-at
returns-then-from-at c =
    let words = c.self.inside.words in
    let view = c.self.view_is in
    let top = c.loop-stop.stop - 1 in
    let last = subst (λ w. IsLastIn w (top % 32) (Some c.in-Some.bit)) c.word.ensures c.in-Some.ensures in
    let same : (k : ℕ) → get_or c.args.self.now k false ≡ get_or (bits_of words) k false = λ k. ap (λ b. get_or b k false) (sym view) in (
      c.if-from-at.true,
      omega (arith, last.0, c.loop-stop.invariant.0, c.loop-stop-test.true),
      same (top / 32 * 32 + c.in-Some.bit) ∙ word_here words top c.in-Some.bit last,
      λ k above high. elim (cases_lt k c.loop-stop.stop) [
        | inl below ↦ same k ∙ word_past words top c.in-Some.bit last k above (omega (arith, below))
        | inr past ↦ c.loop-stop.invariant.2 k past high
      ],
    )

pub returns-else-from-at : goal.returns-else-from-at
returns-else-from-at c =
    let words = c.self.inside.words in
    let view = c.self.view_is in
    let top = c.loop-stop.stop - 1 in
    let last = subst (λ w. IsLastIn w (top % 32) (Some c.in-Some.bit)) c.word.ensures c.in-Some.ensures in
    λ k low high. elim (cases_lt k c.loop-stop.stop) [
      | inl below ↦ ap (λ b. get_or b k false) (sym view) ∙ word_past words top c.in-Some.bit last k (omega (arith, low, c.if-from-at.false)) (omega (arith, below))
      | inr past ↦ c.loop-stop.invariant.2 k past high
    ]

pub loop-stop-preserved : goal.loop-stop-preserved
loop-stop-preserved c =
    let words = c.self.inside.words in
    let view = c.self.view_is in
    let top = c.loop-stop.stop - 1 in
    let none = subst (λ w. IsLastIn w (top % 32) None) c.word.ensures c.in_default.ensures in (
      omega (arith, c.loop-stop.invariant.0),
      omega (arith, c.loop-stop.invariant.1),
      λ k low high. elim (cases_lt k c.loop-stop.stop) [
        | inl below ↦ ap (λ b. get_or b k false) (sym view) ∙ word_none words top none k low (omega (arith, below))
        | inr past ↦ c.loop-stop.invariant.2 k past high
      ],
    )
