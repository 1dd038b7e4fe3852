-- Which words are known to be 0 once some were written.
use Rattle.std.proofs.Common.{◌≡◌, ◌≢◌, ℕ, suc, ◌+◌, ◌-◌, ◌*◌, ◌/◌, ◌%◌, ◌^◌, ◌<◌, ◌≤◌, ◌⊎◌, inl, inr, min, max, List, [], ◌∷◌, ◌++◌, Bool, true, false, cond, length, take, drop, set, refl, sym, ap, ◌∙◌, arith, get_or}
use Rattle.std.proofs.lemmas.Bool.{cases_lt, cases_eq}
use Rattle.std.proofs.lemmas.List.{append_assoc, drop-drop, ext_get_or, get_or_past, get_or-append_right, get_or_append_left, get_or-take, get_or-drop, length-append, take_all, get_or-set_same, get_or-set_other, get_or-replicate, length-replicate, length-take-le, length-drop}
use Rattle.std.specs.Prelude.{nat_eq}
use Rattle.std.proofs.Math.Seq.{take-add}
use Rattle.std.specs.List.{replace_range}
use Rattle.wb_chunk.specs.Halves.{with_half, with_halves}
use Rattle.wb_chunk.specs.Marks.{AreMarked, AreUnmarked, MarksToo}
use Rattle.wb_chunk.proofs.WrittenHalves.{length-with_half, length-written, words-in, words-out, zeros, zeros-written}

-- a range of words was written, and its blocks are marked
pub marked-range : (old new : List ℕ) (marks more : List Bool) (first end : ℕ) → AreMarked marks old → MarksToo marks more first end →
    ((k : ℕ) → (k < first) ⊎ (end ≤ k) → get_or new k 0 ≡ get_or old k 0) → AreMarked more new
marked-range old new marks more first end are too others k off = let away = too k off in others k away.1 ∙ are k away.0

-- words that none of the halves lies in
pub halves-elsewhere : (ws : List ℕ) (i : ℕ) (vs : List ℕ) (k : ℕ) → (k < i / 2) ⊎ (i + length vs ≤ 2 * k) → get_or (with_halves ws i vs) k 0 ≡ get_or ws k 0
halves-elsewhere ws i [] k away = refl
halves-elsewhere ws i (v ∷ vs) k away =
    get_or-set_other (with_halves ws (suc i) vs) (i / 2) k _ 0 (apart away) ∙ halves-elsewhere ws (suc i) vs k (nearer away)
  where
    apart : (k < i / 2) ⊎ (i + suc (length vs) ≤ 2 * k) → k ≢ i / 2
    apart (inl lt) e = omega (arith, e, lt)
    apart (inr le) e = omega (arith, e, le)

    nearer : (k < i / 2) ⊎ (i + suc (length vs) ≤ 2 * k) → (k < suc i / 2) ⊎ (suc i + length vs ≤ 2 * k)
    nearer (inl lt) = inl (omega arith)
    nearer (inr le) = inr (omega (arith, le))

-- a range of words is zeros
replaced : (ws ys : List ℕ) (i n : ℕ) → replace_range ws i (i + n) ys ≡ take i ws ++ (ys ++ drop n (drop i ws))
replaced ws ys i n = append_assoc (take i ws) ys (drop (i + n) ws) ∙ ap (λ zs. take i ws ++ (ys ++ zs)) (sym (drop-drop n i ws))

pub range_zeroed : (old new : List ℕ) (i n : ℕ) → length new ≡ length old → i + n ≤ length old → ((k : ℕ) → i ≤ k → k < i + n → get_or new k 0 ≡ 0) →
    ((k : ℕ) → (k < i) ⊎ (i + n ≤ k) → get_or new k 0 ≡ get_or old k 0) → new ≡ replace_range old i (i + n) (zeros n)
range_zeroed old new i n same fits inside outside =
    ext_get_or 0 new (take i old ++ (zeros n ++ drop n (drop i old))) (same ∙ sym (length-written old (zeros n) i n fits long)) (λ k _. at k (cases_lt k i) (cases_lt k (i + n)))
    ∙ sym (replaced old (zeros n) i n)
  where
    long : length (zeros n) ≡ n
    long = length-replicate n 0

    at : (k : ℕ) → (k < i) ⊎ (i ≤ k) → (k < i + n) ⊎ (i + n ≤ k) → get_or new k 0 ≡ get_or (take i old ++ (zeros n ++ drop n (drop i old))) k 0
    at k (inl lt) _ = outside k (inl lt) ∙ sym (words-out old (zeros n) i n k (omega (arith, fits)) long (inl lt))
    at k (inr ge) (inl lt) =
        let here : i + (k - i) ≡ k = omega arith in
        inside k ge lt ∙ sym (ap (λ j. get_or (take i old ++ (zeros n ++ drop n (drop i old))) j 0) (sym here)
        ∙ words-in old (zeros n) (drop n (drop i old)) i (k - i) (omega (arith, fits)) (omega (arith, long)) ∙ get_or-replicate n (k - i) 0 0 (omega arith))
    at k (inr ge) (inr past) = outside k (inr past) ∙ sym (words-out old (zeros n) i n k (omega (arith, fits)) long (inr past))

pub zeros-replaced : (ws : List ℕ) (t m : ℕ) → t + m ≤ length ws → replace_range ws t (t + m) (zeros m) ≡ with_halves ws (2 * t) (zeros (2 * m))
zeros-replaced ws t m fits = replaced ws (zeros m) t m ∙ zeros-written ws (zeros m) t m fits refl

-- what filling a part of the words with zeros leaves
filled-in : (ws ys : List ℕ) (first last k : ℕ) → last ≤ length ws → ys ≡ zeros (length (take (last - first) (drop first ws))) → first ≤ k → k < last →
    get_or (take first ws ++ (ys ++ drop (last - first) (drop first ws))) k 0 ≡ 0
filled-in ws ys first last k fits is ge lt =
    let here : first + (k - first) ≡ k = omega arith in
    let long : length (take (last - first) (drop first ws)) ≡ last - first = length-take-le (last - first) (drop first ws) (omega (arith, length-drop first ws)) in
    let all : ys ≡ zeros (last - first) = is ∙ ap zeros long in
    ap (λ j. get_or (take first ws ++ (ys ++ drop (last - first) (drop first ws))) j 0) (sym here)
    ∙ words-in ws ys (drop (last - first) (drop first ws)) first (k - first) (omega arith) (omega (arith, ap length all, length-replicate {A = ℕ} (last - first) 0))
    ∙ ap (λ zs. get_or zs (k - first) 0) all ∙ get_or-replicate (last - first) (k - first) 0 0 (omega arith)

filled-out : (ws ys : List ℕ) (first last k : ℕ) → first ≤ last → last ≤ length ws → ys ≡ zeros (length (take (last - first) (drop first ws))) → (k < first) ⊎ (last ≤ k) →
    get_or (take first ws ++ (ys ++ drop (last - first) (drop first ws))) k 0 ≡ get_or ws k 0
filled-out ws ys first last k le fits is away = words-out ws ys first (last - first) k (omega arith) long (past away)
  where
    long : length ys ≡ last - first
    long = ap length is ∙ length-replicate {A = ℕ} _ 0 ∙ length-take-le (last - first) (drop first ws) (omega (arith, length-drop first ws))

    past : (k < first) ⊎ (last ≤ k) → (k < first) ⊎ (first + (last - first) ≤ k)
    past (inl lt) = inl lt
    past (inr ge) = inr (omega arith)

-- so many blocks of a range are done, and the others are as they were
pub record AreDone (old ws : List ℕ) (marks : List Bool) (i end block : ℕ) : Type 0 where
  pub zeroed : (k : ℕ) → i ≤ k → k < end → k < block * 256 → get_or ws k 0 ≡ 0
  pub others : (k : ℕ) → (k < i) ⊎ (end ≤ k) → get_or ws k 0 ≡ get_or old k 0
  pub marked : AreMarked marks ws

-- blocks without a mark need nothing
pub blocks-left : (old ws : List ℕ) (marks : List Bool) (i end block next : ℕ) → AreDone old ws marks i end block → AreUnmarked marks block next → AreDone old ws marks i end next
blocks-left old ws marks i end block next done off = record {
  zeroed = λ k ge lt within. at k ge lt within (cases_lt k (block * 256));
  others = done.others;
  marked = done.marked;
}
  where
    at : (k : ℕ) → i ≤ k → k < end → k < next * 256 → (k < block * 256) ⊎ (block * 256 ≤ k) → get_or ws k 0 ≡ 0
    at k ge lt within (inl before) = done.zeroed k ge lt before
    at k ge lt within (inr here) = done.marked k (off (k / 256) (omega (arith, here)) (omega (arith, within)))

-- the part of a block that lies in the range is filled; where that is the whole block, it needs its mark no longer
pub block-filled : (old ws ys : List ℕ) (marks : List Bool) (i end block first last : ℕ) (mark : Bool) → AreDone old ws marks i end block →
    first ≡ max i (block * 256) → last ≡ min end (block * 256 + 256) → first ≤ last → end ≤ length ws → length ws ≤ 256 * length marks → i / 256 ≤ block → block * 256 < end →
    ys ≡ zeros (length (take (last - first) (drop first ws))) → (mark ≡ false → 256 ≤ last - first) →
    AreDone old (take first ws ++ (ys ++ drop (last - first) (drop first ws))) (set marks block mark) i end (block + 1)
block-filled old ws ys marks i end block first last mark done begins ends le fits covered from before is whole = record {
  zeroed = λ k ge lt within. zeroed k ge lt within (cases_lt k (block * 256));
  others = λ k away. filled-out ws ys first last k le (omega (arith, ends, fits)) is (further k away) ∙ done.others k away;
  marked = λ k. marked k (cases_eq (k / 256) block);
}
  where
    new : List ℕ
    new = take first ws ++ (ys ++ drop (last - first) (drop first ws))

    further : (k : ℕ) → (k < i) ⊎ (end ≤ k) → (k < first) ⊎ (last ≤ k)
    further k (inl lt) = inl (omega (arith, begins, lt))
    further k (inr ge) = inr (omega (arith, ends, ge))

    zeroed : (k : ℕ) → i ≤ k → k < end → k < (block + 1) * 256 → (k < block * 256) ⊎ (block * 256 ≤ k) → get_or new k 0 ≡ 0
    zeroed k ge lt within (inl less) = filled-out ws ys first last k le (omega (arith, ends, fits)) is (inl (omega (arith, begins, less))) ∙ done.zeroed k ge lt less
    zeroed k ge lt within (inr here) = filled-in ws ys first last k (omega (arith, ends, fits)) is (omega (arith, begins, ge, here)) (omega (arith, ends, lt, within))

    marked : (k : ℕ) → (k / 256 ≡ block) ⊎ (k / 256 ≡ block → ⊥) → get_or (set marks block mark) (k / 256) false ≡ false → get_or new k 0 ≡ 0
    marked k (inl e) off =
        let clear : mark ≡ false = sym (ap (λ j. get_or (set marks block mark) j false) e ∙ get_or-set_same marks block mark false (omega (arith, covered, fits, before))) ∙ off in
        let wide : 256 ≤ last - first = whole clear in
        filled-in ws ys first last k (omega (arith, ends, fits)) is (omega (arith, begins, ends, wide, e)) (omega (arith, begins, ends, wide, e))
    marked k (inr ne) off =
        let away : (k < first) ⊎ (last ≤ k) = aside (cases_lt k (block * 256)) in
        filled-out ws ys first last k le (omega (arith, ends, fits)) is away ∙ done.marked k (sym (get_or-set_other marks block (k / 256) mark false ne) ∙ off)
      where
        aside : (k < block * 256) ⊎ (block * 256 ≤ k) → (k < first) ⊎ (last ≤ k)
        aside (inl less) = inl (omega (arith, begins, less))
        aside (inr more) = let past : block * 256 + 256 ≤ k = omega (arith, more, ne) in inr (omega (arith, ends, past))

-- a half that is 0 needs no mark
pub marked_zero_half : (ws : List ℕ) (marks : List Bool) (i : ℕ) → AreMarked marks ws → AreMarked marks (with_half ws i 0)
marked_zero_half ws marks i are k off = at (cases_eq k (i / 2)) (cases_lt k (length ws))
  where
    was : get_or ws k 0 ≡ 0
    was = are k off

    by : (b : Bool) → k ≡ i / 2 → cond b (get_or ws (i / 2) 0 / 2 ^ 16 * 2 ^ 16 + 0) (0 * 2 ^ 16 + get_or ws (i / 2) 0 % 2 ^ 16) ≡ 0
    by true e = let zero : get_or ws (i / 2) 0 ≡ 0 = ap (λ j. get_or ws j 0) (sym e) ∙ was in omega (arith, zero)
    by false e = let zero : get_or ws (i / 2) 0 ≡ 0 = ap (λ j. get_or ws j 0) (sym e) ∙ was in omega (arith, zero)

    at : (k ≡ i / 2) ⊎ (k ≡ i / 2 → ⊥) → (k < length ws) ⊎ (length ws ≤ k) → get_or (with_half ws i 0) k 0 ≡ 0
    at (inl e) (inl lt) = ap (λ j. get_or (with_half ws i 0) j 0) e ∙ get_or-set_same ws (i / 2) _ 0 (omega (arith, e, lt)) ∙ by (nat_eq (i % 2) 0) e
    at (inl e) (inr past) = get_or_past (with_half ws i 0) k 0 (omega (arith, length-with_half ws i 0, past))
    at (inr ne) _ = get_or-set_other ws (i / 2) k _ 0 ne ∙ was

-- zeros after the words need no marks, as long as those of the words stay
pub marked_longer : (ws : List ℕ) (n : ℕ) (marks more : List Bool) → AreMarked marks ws → ((j : ℕ) → j * 256 < length ws → get_or more j false ≡ get_or marks j false) →
    AreMarked more (ws ++ zeros n)
marked_longer ws n marks more are same k off = at (cases_lt k (length ws)) (cases_lt k (length ws + n))
  where
    at : (k < length ws) ⊎ (length ws ≤ k) → (k < length ws + n) ⊎ (length ws + n ≤ k) → get_or (ws ++ zeros n) k 0 ≡ 0
    at (inl lt) _ = get_or_append_left ws (zeros n) 0 k lt ∙ are k (sym (same (k / 256) (omega arith)) ∙ off)
    at (inr ge) (inl lt) = get_or-append_right ws (zeros n) (length ws) k 0 refl ge ∙ get_or-replicate n (k - length ws) 0 0 (omega arith)
    at (inr ge) (inr past) = get_or_past (ws ++ zeros n) k 0 (omega (arith, length-append ws (zeros n), length-replicate {A = ℕ} n 0, past))

-- the words of one more block
pub next-block : (ws : List ℕ) (first last : ℕ) → last ≡ min (length ws) (first + 256) → first ≤ length ws → take first ws ++ take (last - first) (drop first ws) ≡ take (first + 256) ws
next-block ws first last ends fits =
    sym (take-add first (last - first) ws) ∙ at (cases_lt (length ws) (first + 256))
  where
    at : (length ws < first + 256) ⊎ (first + 256 ≤ length ws) → take (first + (last - first)) ws ≡ take (first + 256) ws
    at (inl short) = take_all (first + (last - first)) ws (omega (arith, ends, short, fits)) ∙ sym (take_all (first + 256) ws (omega (arith, short)))
    at (inr long) = let e : first + (last - first) ≡ first + 256 = omega (arith, ends, long) in ap (λ j. take j ws) e

-- those of a block without a mark
pub block-of-zeros : (ws : List ℕ) (marks : List Bool) (block last : ℕ) → AreMarked marks ws → get_or marks block false ≡ false → block * 256 ≤ last → last ≤ block * 256 + 256 → last ≤ length ws →
    zeros (last - block * 256) ≡ take (last - block * 256) (drop (block * 256) ws)
block-of-zeros ws marks block last are off le near fits =
    ext_get_or 0 (zeros (last - block * 256)) (take (last - block * 256) (drop (block * 256) ws)) (all ∙ sym long) (λ j lt. each j (omega (arith, all, lt)))
  where
    all : length (zeros (last - block * 256)) ≡ last - block * 256
    all = length-replicate (last - block * 256) 0

    long : length (take (last - block * 256) (drop (block * 256) ws)) ≡ last - block * 256
    long = length-take-le (last - block * 256) (drop (block * 256) ws) (omega (arith, length-drop (block * 256) ws))

    each : (j : ℕ) → j < last - block * 256 → get_or (zeros (last - block * 256)) j 0 ≡ get_or (take (last - block * 256) (drop (block * 256) ws)) j 0
    each j lt =
        let here : (block * 256 + j) / 256 ≡ block = omega arith in
        get_or-replicate (last - block * 256) j 0 0 lt
        ∙ sym (get_or-take (last - block * 256) (drop (block * 256) ws) j 0 lt ∙ get_or-drop (block * 256) ws j 0 ∙ are (block * 256 + j) (ap (λ b. get_or marks b false) here ∙ off))

-- the words of so many blocks are those of another list, and the marks are right
pub record AreCopied (source ws : List ℕ) (marks : List Bool) (block : ℕ) : Type 0 where
  pub same : (k : ℕ) → k < block * 256 → get_or ws k 0 ≡ get_or source k 0
  pub marked : AreMarked marks ws

-- so are those of one more block, which has the other list's mark
pub block-copied : (source ws new : List ℕ) (marks others : List Bool) (block : ℕ) → AreCopied source ws marks block → AreMarked others source → block < length marks →
    ((k : ℕ) → k / 256 ≡ block → get_or new k 0 ≡ get_or source k 0) → ((k : ℕ) → k / 256 ≢ block → get_or new k 0 ≡ get_or ws k 0) →
    AreCopied source new (set marks block (get_or others block false)) (block + 1)
block-copied source ws new marks others block done are lt inside outside = record {
  same = λ k within. same k within (cases_eq (k / 256) block);
  marked = λ k off. marked k off (cases_eq (k / 256) block);
}
  where
    same : (k : ℕ) → k < (block + 1) * 256 → (k / 256 ≡ block) ⊎ (k / 256 ≡ block → ⊥) → get_or new k 0 ≡ get_or source k 0
    same k within (inl e) = inside k e
    same k within (inr ne) = outside k ne ∙ done.same k (omega (arith, within, ne))

    marked : (k : ℕ) → get_or (set marks block (get_or others block false)) (k / 256) false ≡ false → (k / 256 ≡ block) ⊎ (k / 256 ≡ block → ⊥) → get_or new k 0 ≡ 0
    marked k off (inl e) =
        let clear : get_or others block false ≡ false =
        sym (ap (λ j. get_or (set marks block (get_or others block false)) j false) e ∙ get_or-set_same marks block (get_or others block false) false lt) ∙ off in
        inside k e ∙ are k (ap (λ j. get_or others j false) e ∙ clear)
    marked k off (inr ne) = outside k ne ∙ done.marked k (sym (get_or-set_other marks block (k / 256) _ false ne) ∙ off)

-- where neither list has a mark, nothing is done
pub blocks-same : (source ws : List ℕ) (marks others : List Bool) (block next : ℕ) → AreCopied source ws marks block → AreMarked others source →
    AreUnmarked marks block next → AreUnmarked others block next → AreCopied source ws marks next
blocks-same source ws marks others block next done are off clear = record {
  same = λ k within. same k within (cases_lt k (block * 256));
  marked = done.marked;
}
  where
    same : (k : ℕ) → k < next * 256 → (k < block * 256) ⊎ (block * 256 ≤ k) → get_or ws k 0 ≡ get_or source k 0
    same k within (inl before) = done.same k before
    same k within (inr here) =
        done.marked k (off (k / 256) (omega (arith, here)) (omega (arith, within))) ∙ sym (are k (clear (k / 256) (omega (arith, here)) (omega (arith, within))))

-- else the words of the block are put there
pub block-put : (source ws ys : List ℕ) (marks others : List Bool) (block last : ℕ) → AreCopied source ws marks block → AreMarked others source → block < length marks →
    length source ≡ length ws → last ≡ min (length source) (block * 256 + 256) → block * 256 ≤ last → ys ≡ take (last - block * 256) (drop (block * 256) source) →
    AreCopied source (take (block * 256) ws ++ (ys ++ drop (last - block * 256) (drop (block * 256) ws))) (set marks block (get_or others block false)) (block + 1)
block-put source ws ys marks others block last done are lt long ends le is =
    block-copied source ws new marks others block done are lt (λ k e. inside k e (cases_lt k last)) (λ k ne. outside k ne (cases_lt k (block * 256)))
  where
    new : List ℕ
    new = take (block * 256) ws ++ (ys ++ drop (last - block * 256) (drop (block * 256) ws))

    count : length ys ≡ last - block * 256
    count = ap length is ∙ length-take-le (last - block * 256) (drop (block * 256) source) (omega (arith, ends, length-drop (block * 256) source))

    inside : (k : ℕ) → k / 256 ≡ block → (k < last) ⊎ (last ≤ k) → get_or new k 0 ≡ get_or source k 0
    inside k e (inl less) =
        let here : block * 256 + (k - block * 256) ≡ k = omega (arith, e) in
        ap (λ j. get_or new j 0) (sym here)
        ∙ words-in ws ys (drop (last - block * 256) (drop (block * 256) ws)) (block * 256) (k - block * 256) (omega (arith, long, ends, le)) (omega (arith, count, less, e))
        ∙ ap (λ zs. get_or zs (k - block * 256) 0) is
        ∙ get_or-take (last - block * 256) (drop (block * 256) source) (k - block * 256) 0 (omega (arith, less, e))
        ∙ get_or-drop (block * 256) source (k - block * 256) 0 ∙ ap (λ j. get_or source j 0) here
    inside k e (inr past) =
        let following : length source ≤ k = omega (arith, ends, past, e) in
        words-out ws ys (block * 256) (last - block * 256) k (omega (arith, long, ends, le)) count (inr (omega (arith, past)))
        ∙ get_or_past ws k 0 (omega (arith, following, long)) ∙ sym (get_or_past source k 0 following)

    outside : (k : ℕ) → k / 256 ≢ block → (k < block * 256) ⊎ (block * 256 ≤ k) → get_or new k 0 ≡ get_or ws k 0
    outside k ne (inl less) = words-out ws ys (block * 256) (last - block * 256) k (omega (arith, long, ends, le)) count (inl less)
    outside k ne (inr ge) =
        let past : block * 256 + 256 ≤ k = omega (arith, ge, ne) in
        words-out ws ys (block * 256) (last - block * 256) k (omega (arith, long, ends, le)) count (inr (omega (arith, ends, past)))

-- with all blocks the words are those of the other list
pub all-copied : (source ws : List ℕ) (marks : List Bool) (block : ℕ) → AreCopied source ws marks block → length source ≡ length ws → length source ≤ block * 256 → ws ≡ source
all-copied source ws marks block done long all = ext_get_or 0 ws source (sym long) (λ k lt. done.same k (omega (arith, lt, long, all)))
