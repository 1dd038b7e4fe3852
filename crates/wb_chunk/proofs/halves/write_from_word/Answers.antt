use Rattle.std.proofs.Common.{◌≡◌, ℕ, ◌+◌, ◌-◌, ◌*◌, ◌/◌, ◌%◌, ◌^◌, ◌++◌, ◌≤◌, ◌<◌, ◌⊎◌, suc, [], ◌∷◌, List, length, take, get_or, sym, ap, subst, ◌∙◌, arith}
use Rattle.std.proofs.lemmas.List.{length-take-le, take_all, take_more, get_or-take, get_or_default}
use Rattle.wb_chunk.specs.Halves.{with_half, with_halves}
use Rattle.wb_chunk.proofs.WrittenHalves.{AreHalves, set-pairs, with_halves-more}
use Rattle.wb_chunk.proofs.halves.write_from_word.Goals as goal

fitting : (hs : List ℕ) → ((j : ℕ) → get_or hs j 0 < 2 ^ 16) → AreHalves hs
fitting hs each j d lt = omega (arith, get_or_default hs j d 0 lt, each j)

-- all pairs
pairs : (old new hs : List ℕ) (i k : ℕ) → i % 2 ≡ 0 → k ≡ length hs / 2 → i + length hs ≤ 2 * length old → length new ≡ length old → AreHalves hs →
    ((j : ℕ) → j < k → get_or new (i / 2 + j) 0 ≡ get_or hs (2 * j) 0 + get_or hs (suc (2 * j)) 0 * 2 ^ 16) →
    ((j : ℕ) → (j < i / 2) ⊎ (i / 2 + k ≤ j) → get_or new j 0 ≡ get_or old j 0) → new ≡ with_halves old i (take (2 * k) hs)
pairs old new hs i k even count fits same all inside outside =
    let start : 2 * (i / 2) ≡ i = omega arith in
    set-pairs old new (i / 2) k (take (2 * k) hs) (length-take-le (2 * k) hs (omega arith)) (omega arith) front same
    (λ j lt. inside j lt ∙ sym (word j lt)) outside
    ∙ ap (λ n. with_halves old n (take (2 * k) hs)) start
  where
    front : AreHalves (take (2 * k) hs)
    front j d lt =
        let short : length (take (2 * k) hs) ≡ 2 * k = length-take-le (2 * k) hs (omega arith) in
        subst (λ u. u < 2 ^ 16) (sym (get_or-take (2 * k) hs j d (omega (arith, short)))) (all j d (omega (arith, short)))

    word : (j : ℕ) → j < k → get_or (take (2 * k) hs) (2 * j) 0 + get_or (take (2 * k) hs) (suc (2 * j)) 0 * 2 ^ 16 ≡ get_or hs (2 * j) 0 + get_or hs (suc (2 * j)) 0 * 2 ^ 16
    word j lt = omega (arith, get_or-take (2 * k) hs (2 * j) 0 (omega arith), get_or-take (2 * k) hs (suc (2 * j)) 0 (omega arith))

pub returns-then-n-ne0 : goal.returns-then-n-ne0
returns-then-n-ne0 c =
    let old = c.args.words.now in
    let hs = c.args.halves.now in
    let k = c.loop-k.k in
    let count : k ≡ length hs / 2 = omega (arith, c.loop-k-test.false, c.loop-k.auto.k-end) in
    let all : AreHalves hs = fitting hs (λ j. let f = c.type_inv.halves j in f.fits) in
    let short : length (take (2 * k) hs) ≡ 2 * k = length-take-le (2 * k) hs (omega (arith, count)) in
    let whole : take (2 * k + 1) hs ≡ hs = take_all (2 * k + 1) hs (omega (arith, count)) in
    let more : take (2 * k) hs ++ get_or hs (length hs - 1) 0 ∷ [] ≡ hs =
    (let e : length hs - 1 ≡ 2 * k = omega (arith, count, c.if-n-ne0.true) in ap (λ j. take (2 * k) hs ++ get_or hs j 0 ∷ []) e)
    ∙ sym (take_more hs (2 * k) 0 (omega (arith, count, c.if-n-ne0.true))) ∙ whole in
    c.set_half.ensures
    ∙ ap (λ ws. with_half ws (c.args.i + length hs - 1) (get_or hs (length hs - 1) 0))
    (pairs old c.loop-k.words hs c.args.i k c.requires.even count c.requires.within c.loop-k.auto.words all c.loop-k.invariant.inside c.loop-k.invariant.outside)
    ∙ with_halves-more old c.args.i (take (2 * k) hs) (c.args.i + length hs - 1) (get_or hs (length hs - 1) 0)
    (omega (arith, short, count, c.if-n-ne0.true)) (omega (arith, short, count, c.if-n-ne0.true, c.requires.within)) (subst AreHalves (sym more) all)
    ∙ ap (with_halves old c.args.i) more

pub returns-else-n-ne0 : goal.returns-else-n-ne0
returns-else-n-ne0 c =
    let old = c.args.words.now in
    let hs = c.args.halves.now in
    let k = c.loop-k.k in
    let count : k ≡ length hs / 2 = omega (arith, c.loop-k-test.false, c.loop-k.auto.k-end) in
    let all : AreHalves hs = fitting hs (λ j. let f = c.type_inv.halves j in f.fits) in
    pairs old c.loop-k.words hs c.args.i k c.requires.even count c.requires.within c.loop-k.auto.words all c.loop-k.invariant.inside c.loop-k.invariant.outside
    ∙ ap (with_halves old c.args.i) (take_all (2 * k) hs (omega (arith, count, c.if-n-ne0.false)))
