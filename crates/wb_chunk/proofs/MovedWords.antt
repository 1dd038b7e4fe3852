-- Runs of words that were moved one after another.
use Rattle.std.proofs.Common.{◌≡◌, ℕ, ◌+◌, ◌-◌, ◌<◌, ◌≤◌, ◌⊎◌, inl, inr, Bool, false, List, ◌++◌, length, take, drop, slice_range, refl, sym, ap, subst, ◌∙◌, arith, get_or}
use Rattle.std.proofs.lemmas.Bool.{cases_lt}
use Rattle.std.proofs.lemmas.List.{append_assoc, drop-drop, ext_get_or, get_or-append_right, get_or_append_left, get_or-take, get_or-drop, length-take-le, length-drop}
use Rattle.std.specs.List.{replace_range}
use Rattle.wb_chunk.specs.Halves.{AreMoved, word_of}
use Rattle.wb_chunk.proofs.WrittenHalves.{length-written, words-in, words-out}

-- nothing was moved yet
pub none-moved : (shifted : Bool) (ws : List ℕ) (from to : ℕ) → AreMoved shifted ws ws from to 0
none-moved shifted ws from to = record { inside = λ k lt. absurd (omega (arith, lt)); outside = λ k away. refl }

-- the words of a part, which none of what was written before is read for
moved-part : (shifted : Bool) (old mid new : List ℕ) (from to from' to' n m : ℕ) → AreMoved shifted old mid from to n → AreMoved shifted mid new from' to' m →
    ((k : ℕ) → k < m → (from' + k + 1 < to) ⊎ (to + n ≤ from' + k)) →
    (k : ℕ) → k < m → get_or new (to' + k) 0 ≡ word_of shifted (get_or old (from' + k) 0) (get_or old (from' + k + 1) 0)
moved-part shifted old mid new from to from' to' n m before are apart k lt =
    are.inside k lt ∙ ap (λ w. word_of shifted w (get_or mid (from' + k + 1) 0)) (before.outside (from' + k) (here (apart k lt)))
    ∙ ap (λ w. word_of shifted (get_or old (from' + k) 0) w) (before.outside (from' + k + 1) (after (apart k lt)))
  where
    here : (from' + k + 1 < to) ⊎ (to + n ≤ from' + k) → (from' + k < to) ⊎ (to + n ≤ from' + k)
    here (inl less) = inl (omega (arith, less))
    here (inr more) = inr more

    after : (from' + k + 1 < to) ⊎ (to + n ≤ from' + k) → (from' + k + 1 < to) ⊎ (to + n ≤ from' + k + 1)
    after (inl less) = inl less
    after (inr more) = inr (omega (arith, more))

-- more words after those that were moved to a place that is no later
pub moved-after : (shifted : Bool) (old mid new : List ℕ) (from to from' to' n m all : ℕ) → to ≤ from → from' ≡ from + n → to' ≡ to + n → all ≡ n + m →
    AreMoved shifted old mid from to n → AreMoved shifted mid new from' to' m → AreMoved shifted old new from to all
moved-after shifted old mid new from to from' to' n m all order source target sum before are = record {
  inside = λ k lt. inside k lt (cases_lt k n);
  outside = λ k away. are.outside k (past k away) ∙ before.outside k (aside k away);
}
  where
    inside : (k : ℕ) → k < all → (k < n) ⊎ (n ≤ k) → get_or new (to + k) 0 ≡ word_of shifted (get_or old (from + k) 0) (get_or old (from + k + 1) 0)
    inside k lt (inl less) = are.outside (to + k) (inl (omega (arith, less, target))) ∙ before.inside k less
    inside k lt (inr more) =
        let t : to' + (k - n) ≡ to + k = omega (arith, more, target) in
        let f : from' + (k - n) ≡ from + k = omega (arith, more, source) in
        subst (λ j. get_or new j 0 ≡ word_of shifted (get_or old (from + k) 0) (get_or old (from + k + 1) 0)) t
        (subst (λ j. get_or new (to' + (k - n)) 0 ≡ word_of shifted (get_or old j 0) (get_or old (j + 1) 0)) f
        (moved-part shifted old mid new from to from' to' n m before are (λ j _. inr (omega (arith, order, source))) (k - n) (omega (arith, lt, more, sum))))

    past : (k : ℕ) → (k < to) ⊎ (to + all ≤ k) → (k < to') ⊎ (to' + m ≤ k)
    past k (inl less) = inl (omega (arith, less, target))
    past k (inr more) = inr (omega (arith, more, target, sum))

    aside : (k : ℕ) → (k < to) ⊎ (to + all ≤ k) → (k < to) ⊎ (to + n ≤ k)
    aside k (inl less) = inl less
    aside k (inr more) = inr (omega (arith, more, sum))

-- more words before those that were moved to a later place
pub moved-before : (shifted : Bool) (old mid new : List ℕ) (from to from' to' n m all : ℕ) → from < to → from ≡ from' + m → to ≡ to' + m → all ≡ m + n →
    AreMoved shifted old mid from to n → AreMoved shifted mid new from' to' m → AreMoved shifted old new from' to' all
moved-before shifted old mid new from to from' to' n m all order source target sum before are = record {
  inside = λ k lt. inside k lt (cases_lt k m);
  outside = λ k away. are.outside k (past k away) ∙ before.outside k (aside k away);
}
  where
    inside : (k : ℕ) → k < all → (k < m) ⊎ (m ≤ k) → get_or new (to' + k) 0 ≡ word_of shifted (get_or old (from' + k) 0) (get_or old (from' + k + 1) 0)
    inside k lt (inl less) = moved-part shifted old mid new from to from' to' n m before are (λ j lt. inl (omega (arith, order, lt, source, target))) k less
    inside k lt (inr more) =
        let t : to + (k - m) ≡ to' + k = omega (arith, more, target) in
        let f : from + (k - m) ≡ from' + k = omega (arith, more, source) in
        are.outside (to' + k) (inr (omega (arith, more)))
        ∙ subst (λ j. get_or mid j 0 ≡ word_of shifted (get_or old (from' + k) 0) (get_or old (from' + k + 1) 0)) t
        (subst (λ j. get_or mid (to + (k - m)) 0 ≡ word_of shifted (get_or old j 0) (get_or old (j + 1) 0)) f (before.inside (k - m) (omega (arith, lt, more, sum))))

    past : (k : ℕ) → (k < to') ⊎ (to' + all ≤ k) → (k < to') ⊎ (to' + m ≤ k)
    past k (inl less) = inl less
    past k (inr more) = inr (omega (arith, more, sum))

    aside : (k : ℕ) → (k < to') ⊎ (to' + all ≤ k) → (k < to) ⊎ (to + n ≤ k)
    aside k (inl less) = inl (omega (arith, less, target))
    aside k (inr more) = inr (omega (arith, more, target, sum))

-- words that were copied into the part before them
pub copied-before : (old front back ys : List ℕ) (from to n m : ℕ) → front ≡ take from old → back ≡ drop from old → m ≡ n → to + n ≤ from → from + n ≤ length old → ys ≡ take n back →
    AreMoved false old ((take to front ++ (ys ++ drop m (drop to front))) ++ back) from to n
copied-before old front back ys from to n m first second same apart source is = record {
  inside = λ k lt. left (to + k) (omega (arith, lt, apart)) ∙ words-in front ys (drop m (drop to front)) to k (omega (arith, long, apart)) (omega (arith, lt, all))
      ∙ ap (λ zs. get_or zs k 0) is ∙ get_or-take n back k 0 lt ∙ ap (λ zs. get_or zs k 0) second ∙ get_or-drop from old k 0;
  outside = λ k away. outside k away (cases_lt k from);
}
  where
    long : length front ≡ from
    long = ap length first ∙ length-take-le from old (omega (arith, source))

    all : length ys ≡ m
    all = ap length is ∙ length-take-le n back (omega (arith, ap length second, length-drop from old, source)) ∙ sym same

    whole : length (take to front ++ (ys ++ drop m (drop to front))) ≡ from
    whole = length-written front ys to m (omega (arith, same, apart, long)) all ∙ long

    left : (k : ℕ) → k < from → get_or ((take to front ++ (ys ++ drop m (drop to front))) ++ back) k 0 ≡ get_or (take to front ++ (ys ++ drop m (drop to front))) k 0
    left k lt = get_or_append_left (take to front ++ (ys ++ drop m (drop to front))) back 0 k (omega (arith, lt, whole))

    shorter : (k : ℕ) → (k < to) ⊎ (to + n ≤ k) → (k < to) ⊎ (to + m ≤ k)
    shorter k (inl less) = inl less
    shorter k (inr more) = inr (omega (arith, more, same))

    outside : (k : ℕ) → (k < to) ⊎ (to + n ≤ k) → (k < from) ⊎ (from ≤ k) → get_or ((take to front ++ (ys ++ drop m (drop to front))) ++ back) k 0 ≡ get_or old k 0
    outside k away (inl less) =
        left k less ∙ words-out front ys to m k (omega (arith, long, apart)) all (shorter k away) ∙ ap (λ zs. get_or zs k 0) first ∙ get_or-take from old k 0 less
    outside k away (inr more) =
        let here : from + (k - from) ≡ k = omega (arith, more) in
        get_or-append_right (take to front ++ (ys ++ drop m (drop to front))) back from k 0 whole more ∙ ap (λ zs. get_or zs (k - from) 0) second
        ∙ get_or-drop from old (k - from) 0 ∙ ap (λ j. get_or old j 0) here

-- words that were moved as they are, as one part of the list
pub moved_range : (old new : List ℕ) (from to n : ℕ) → length new ≡ length old → from + n ≤ length old → to + n ≤ length old → AreMoved false old new from to n →
    new ≡ replace_range old to (to + n) (slice_range old from (from + n))
moved_range old new from to n same source target are =
    ext_get_or 0 new (take to old ++ (part ++ drop n (drop to old))) (same ∙ sym (length-written old part to n target long)) (λ k _. at k (cases_lt k to) (cases_lt k (to + n)))
    ∙ sym (append_assoc (take to old) part (drop (to + n) old) ∙ ap (λ zs. take to old ++ (part ++ zs)) (sym (drop-drop n to old)))
  where
    part : List ℕ
    part = slice_range old from (from + n)

    all : from + n - from ≡ n
    all = omega arith

    long : length part ≡ n
    long = length-take-le (from + n - from) (drop from old) (omega (arith, length-drop from old, source)) ∙ all

    at : (k : ℕ) → (k < to) ⊎ (to ≤ k) → (k < to + n) ⊎ (to + n ≤ k) → get_or new k 0 ≡ get_or (take to old ++ (part ++ drop n (drop to old))) k 0
    at k (inl lt) _ = are.outside k (inl lt) ∙ sym (words-out old part to n k (omega (arith, target)) long (inl lt))
    at k (inr ge) (inl lt) =
        let here : to + (k - to) ≡ k = omega (arith, ge) in
        ap (λ j. get_or new j 0) (sym here) ∙ are.inside (k - to) (omega (arith, ge, lt))
        ∙ sym (ap (λ j. get_or (take to old ++ (part ++ drop n (drop to old))) j 0) (sym here)
        ∙ words-in old part (drop n (drop to old)) to (k - to) (omega (arith, target)) (omega (arith, long, ge, lt))
        ∙ get_or-take (from + n - from) (drop from old) (k - to) 0 (omega (arith, ge, lt)) ∙ get_or-drop from old (k - to) 0)
    at k (inr ge) (inr past) = are.outside k (inr past) ∙ sym (words-out old part to n k (omega (arith, target)) long (inr past))
