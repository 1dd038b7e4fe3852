use Rattle.std.proofs.Common.{◌≡◌, ℕ, ◌+◌, ◌-◌, ◌*◌, ◌/◌, ◌%◌, ◌^◌, ◌≤◌, ◌<◌, ◌≢◌, suc, List, length, All, sym, ap, subst, ◌∙◌, arith}
use Rattle.wb_chunk.specs.Halves.{half_of, halves_from, with_half, with_halves}
use Rattle.wb_chunk.proofs.WrittenHalves.{AreHalves, length-halves_from, halves-fit, halves_from-more, with_halves-more}
use Rattle.wb_chunk.proofs.halves.copy_to_word.Goals as goal

last : (ws : List ℕ) (from to n : ℕ) → n % 2 ≢ 0 → to + n ≤ 2 * length ws → All (λ w. w < 2 ^ 32) ws →
    with_half (with_halves ws to (halves_from ws from (2 * (n / 2)))) (to + n - 1) (half_of ws (from + n - 1)) ≡ with_halves ws to (halves_from ws from n)
last ws from to n odd fits fit =
    let m = 2 * (n / 2) in
    let long : length (halves_from ws from (2 * (n / 2))) ≡ 2 * (n / 2) = length-halves_from ws from (2 * (n / 2)) in
    let one : suc (2 * (n / 2)) ≡ n = omega arith in
    let more = halves_from-more ws from (2 * (n / 2)) (from + n - 1) (omega arith) in
    with_halves-more ws to (halves_from ws from (2 * (n / 2))) (to + n - 1) (half_of ws (from + n - 1)) (omega (arith, long)) (omega (arith, long))
    (subst AreHalves (sym more) (halves-fit ws from (suc (2 * (n / 2))) fit))
    ∙ ap (with_halves ws to) more ∙ ap (λ k. with_halves ws to (halves_from ws from k)) one

pub returns-else-n-eq0 : goal.returns-else-n-eq0
returns-else-n-eq0 c =
    let ws = c.args.words.now in
    let start : 2 * (c.args.to / 2) ≡ c.args.to = omega (arith, c.requires.even) in
    c.set_half.ensures
    ∙ ap (λ us. with_half us (c.args.to + c.args.n - 1) c.half-last.result) (c.copy_pairs-else-n-eq0.ensures ∙ ap (λ k. with_halves ws k (halves_from ws c.args.from (2 * (c.args.n / 2)))) start)
    ∙ ap (λ v. with_half (with_halves ws c.args.to (halves_from ws c.args.from (2 * (c.args.n / 2)))) (c.args.to + c.args.n - 1) v) c.half-last.ensures
    ∙ last ws c.args.from c.args.to c.args.n c.if-n-eq0.false c.requires.target c.requires.fit
