use Rattle.std.proofs.Common.{◌≡◌, ℕ, ◌+◌, ◌-◌, ◌*◌, ◌/◌, ◌%◌, ◌++◌, ◌≤◌, ◌≢◌, [], ◌∷◌, List, length, sym, ap, subst, ◌∙◌, arith}
use Rattle.std.proofs.lemmas.List.{length-replicate, replicate_more}
use Rattle.std.specs.List.{replace_range}
use Rattle.wb_chunk.specs.Halves.{with_half, with_halves}
use Rattle.wb_chunk.proofs.MarkedWords.{zeros-replaced}
use Rattle.wb_chunk.proofs.WrittenHalves.{AreHalves, zeros, zeros-fit, with_halves-more}
use Rattle.wb_chunk.proofs.halves.zero_from_word.Goals as goal

-- whole words of zeros
pairs : (ws new : List ℕ) (i n : ℕ) → i % 2 ≡ 0 → i + n ≤ 2 * length ws → new ≡ replace_range ws (i / 2) (i / 2 + n / 2) (zeros (n / 2)) →
    new ≡ with_halves ws i (zeros (2 * (n / 2)))
pairs ws new i n even fits is =
    let start : 2 * (i / 2) ≡ i = omega arith in
    is ∙ zeros-replaced ws (i / 2) (n / 2) (omega arith) ∙ ap (λ k. with_halves ws k (zeros (2 * (n / 2)))) start

last : (ws : List ℕ) (i n k : ℕ) → i % 2 ≡ 0 → n % 2 ≢ 0 → i + n ≤ 2 * length ws → k ≡ i + n - 1 →
    with_half (with_halves ws i (zeros (2 * (n / 2)))) k 0 ≡ with_halves ws i (zeros n)
last ws i n k even odd fits here =
    let long : length (zeros (2 * (n / 2))) ≡ 2 * (n / 2) = length-replicate (2 * (n / 2)) 0 in
    let one : 2 * (n / 2) + 1 ≡ n = omega arith in
    let more : zeros (2 * (n / 2)) ++ 0 ∷ [] ≡ zeros n = replicate_more (2 * (n / 2)) 0 ∙ ap zeros one in
    with_halves-more ws i (zeros (2 * (n / 2))) k 0 (omega (arith, long, here)) (omega (arith, long)) (subst AreHalves (sym more) (zeros-fit n)) ∙ ap (with_halves ws i) more

pub returns-then-n-ne0-clause-zeros : goal.returns-then-n-ne0-clause-zeros
returns-then-n-ne0-clause-zeros c =
    c.set_half.ensures
    ∙ ap (λ ws. with_half ws (c.args.i + c.args.n - 1) 0) (pairs c.args.words.now c.zero.new.words c.args.i c.args.n c.requires.even c.requires.within c.zero.ensures.zeros)
    ∙ last c.args.words.now c.args.i c.args.n (c.args.i + c.args.n - 1) c.requires.even c.if-n-ne0.true c.requires.within (omega arith)

pub returns-else-n-ne0-clause-zeros : goal.returns-else-n-ne0-clause-zeros
returns-else-n-ne0-clause-zeros c =
    let all : 2 * (c.args.n / 2) ≡ c.args.n = omega (arith, c.if-n-ne0.false) in
    pairs c.args.words.now c.zero.new.words c.args.i c.args.n c.requires.even c.requires.within c.zero.ensures.zeros ∙ ap (λ k. with_halves c.args.words.now c.args.i (zeros k)) all
