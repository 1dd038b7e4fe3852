-- What reads of halves find once halves were written.
use Rattle.std.proofs.Common.{◌≡◌, ◌≢◌, ℕ, zero, suc, ◌+◌, ◌-◌, ◌*◌, ◌/◌, ◌%◌, ◌^◌, ◌<◌, ◌≤◌, ◌⊎◌, inl, inr, List, [], ◌∷◌, ◌++◌, Bool, true, false, cond, length, take, drop, set, replicate, refl, sym, ap, subst, ◌∙◌, arith, get_or, All}
use Rattle.std.specs.Prelude.{nat_eq}
use Rattle.std.proofs.lemmas.Bool.{cases_lt, cases_eq}
use Rattle.std.proofs.lemmas.List.{ext_get_or, get_or-set_same, get_or-set_other, get_or-append_right, get_or_append_left, get_or-replicate, get_or-take, get_or-drop, get_or_past, length-set, length-append, length-replicate, length-take-le, length-drop, length_push, get_or_push}
use Rattle.wb_chunk.specs.Halves.{half_of, halves_from, with_half, with_halves, AreMoved}

-- a half has 16 bits
abbrev pub AreHalves : List ℕ → Type 0
AreHalves vs = All (λ v. v < 2 ^ 16) vs

index-low : (j : ℕ) → 2 * j / 2 ≡ j
index-low j = omega arith

side-low : (j : ℕ) → 2 * j % 2 ≡ 0
side-low j = omega arith

index-high : (j : ℕ) → suc (2 * j) / 2 ≡ j
index-high j = omega arith

side-high : (j : ℕ) → suc (2 * j) % 2 ≡ 1
side-high j = omega arith

pub low : (ws : List ℕ) (j : ℕ) → half_of ws (2 * j) ≡ get_or ws j 0 % 2 ^ 16
low ws j = rw (index-low j, side-low j)

pub high : (ws : List ℕ) (j : ℕ) → half_of ws (suc (2 * j)) ≡ get_or ws j 0 / 2 ^ 16
high ws j = rw (index-high j, side-high j)

set-low : (ws : List ℕ) (j v : ℕ) → with_half ws (2 * j) v ≡ set ws j (get_or ws j 0 / 2 ^ 16 * 2 ^ 16 + v)
set-low ws j v = rw (index-low j, side-low j)

set-high : (ws : List ℕ) (j v : ℕ) → with_half ws (suc (2 * j)) v ≡ set ws j (v * 2 ^ 16 + get_or ws j 0 % 2 ^ 16)
set-high ws j v = rw (index-high j, side-high j)

by_side : (P : ℕ → Type 0) → ((j : ℕ) → P (2 * j)) → ((j : ℕ) → P (suc (2 * j))) → (k : ℕ) → P k
by_side P even odd k = go (cases_eq (k % 2) 0)
  where
    go : (k % 2 ≡ 0) ⊎ (k % 2 ≡ 0 → ⊥) → P k
    go (inl e) = let is : 2 * (k / 2) ≡ k = omega arith in subst P is (even (k / 2))
    go (inr e) = let is : suc (2 * (k / 2)) ≡ k = omega arith in subst P is (odd (k / 2))

-- lists of as many words with the same halves
pub same_words : (a b : List ℕ) → length a ≡ length b → ((k : ℕ) → k < 2 * length a → half_of a k ≡ half_of b k) → a ≡ b
same_words a b same each = ext_get_or 0 a b same word
  where
    word : (j : ℕ) → j < length a → get_or a j 0 ≡ get_or b j 0
    word j lt =
        let l : get_or a j 0 % 2 ^ 16 ≡ get_or b j 0 % 2 ^ 16 = sym (low a j) ∙ each (2 * j) (omega arith) ∙ low b j in
        let h : get_or a j 0 / 2 ^ 16 ≡ get_or b j 0 / 2 ^ 16 = sym (high a j) ∙ each (suc (2 * j)) (omega arith) ∙ high b j in
        omega arith

pub length-with_half : (ws : List ℕ) (i v : ℕ) → length (with_half ws i v) ≡ length ws
length-with_half ws i v = length-set ws (i / 2) _

pub length-with_halves : (ws : List ℕ) (i : ℕ) (vs : List ℕ) → length (with_halves ws i vs) ≡ length ws
length-with_halves ws i [] = refl
length-with_halves ws i (v ∷ vs) = length-with_half (with_halves ws (suc i) vs) i v ∙ length-with_halves ws (suc i) vs

pub half-set : (ws : List ℕ) (i v : ℕ) → i < 2 * length ws → v < 2 ^ 16 → half_of (with_half ws i v) i ≡ v
half-set ws i v = by_side (λ i. i < 2 * length ws → v < 2 ^ 16 → half_of (with_half ws i v) i ≡ v) even odd i
  where
    even : (j : ℕ) → 2 * j < 2 * length ws → v < 2 ^ 16 → half_of (with_half ws (2 * j) v) (2 * j) ≡ v
    even j lt unit =
        low (with_half ws (2 * j) v) j
        ∙ ap (λ us. get_or us j 0 % 2 ^ 16) (set-low ws j v)
        ∙ ap (λ w. w % 2 ^ 16) (get_or-set_same ws j (get_or ws j 0 / 2 ^ 16 * 2 ^ 16 + v) 0 (omega arith))
        ∙ omega arith

    odd : (j : ℕ) → suc (2 * j) < 2 * length ws → v < 2 ^ 16 → half_of (with_half ws (suc (2 * j)) v) (suc (2 * j)) ≡ v
    odd j lt unit =
        high (with_half ws (suc (2 * j)) v) j
        ∙ ap (λ us. get_or us j 0 / 2 ^ 16) (set-high ws j v)
        ∙ ap (λ w. w / 2 ^ 16) (get_or-set_same ws j (v * 2 ^ 16 + get_or ws j 0 % 2 ^ 16) 0 (omega arith))
        ∙ omega arith

pub half-other : (ws : List ℕ) (i v k : ℕ) → i < 2 * length ws → v < 2 ^ 16 → k ≢ i → half_of (with_half ws i v) k ≡ half_of ws k
half-other ws i v k lt unit = by_side (λ i. i < 2 * length ws → k ≢ i → half_of (with_half ws i v) k ≡ half_of ws k) even odd i lt
  where
    even : (j : ℕ) → 2 * j < 2 * length ws → k ≢ 2 * j → half_of (with_half ws (2 * j) v) k ≡ half_of ws k
    even j lt = by_side (λ k. k ≢ 2 * j → half_of (with_half ws (2 * j) v) k ≡ half_of ws k)
        (λ m ne. low (with_half ws (2 * j) v) m ∙ ap (λ us. get_or us m 0 % 2 ^ 16) (set-low ws j v)
        ∙ ap (λ w. w % 2 ^ 16) (get_or-set_other ws j m (get_or ws j 0 / 2 ^ 16 * 2 ^ 16 + v) 0 (λ e. ne (ap (λ n. 2 * n) e))) ∙ sym (low ws m))
        (λ m _. high (with_half ws (2 * j) v) m ∙ ap (λ us. get_or us m 0 / 2 ^ 16) (set-low ws j v) ∙ beside m (cases_eq m j) ∙ sym (high ws m)) k
      where
        beside : (m : ℕ) → (m ≡ j) ⊎ (m ≡ j → ⊥) → get_or (set ws j (get_or ws j 0 / 2 ^ 16 * 2 ^ 16 + v)) m 0 / 2 ^ 16 ≡ get_or ws m 0 / 2 ^ 16
        beside m (inl e) =
            let same : get_or (set ws j (get_or ws j 0 / 2 ^ 16 * 2 ^ 16 + v)) j 0 ≡ get_or ws j 0 / 2 ^ 16 * 2 ^ 16 + v = get_or-set_same ws j _ 0 (omega arith) in
            rw e (ap (λ w. w / 2 ^ 16) same ∙ omega arith)
        beside m (inr e) = ap (λ w. w / 2 ^ 16) (get_or-set_other ws j m (get_or ws j 0 / 2 ^ 16 * 2 ^ 16 + v) 0 e)

    odd : (j : ℕ) → suc (2 * j) < 2 * length ws → k ≢ suc (2 * j) → half_of (with_half ws (suc (2 * j)) v) k ≡ half_of ws k
    odd j lt = by_side (λ k. k ≢ suc (2 * j) → half_of (with_half ws (suc (2 * j)) v) k ≡ half_of ws k)
        (λ m _. low (with_half ws (suc (2 * j)) v) m ∙ ap (λ us. get_or us m 0 % 2 ^ 16) (set-high ws j v) ∙ beside m (cases_eq m j) ∙ sym (low ws m))
        (λ m ne. high (with_half ws (suc (2 * j)) v) m ∙ ap (λ us. get_or us m 0 / 2 ^ 16) (set-high ws j v)
        ∙ ap (λ w. w / 2 ^ 16) (get_or-set_other ws j m (v * 2 ^ 16 + get_or ws j 0 % 2 ^ 16) 0 (λ e. ne (ap (λ n. suc (2 * n)) e))) ∙ sym (high ws m)) k
      where
        beside : (m : ℕ) → (m ≡ j) ⊎ (m ≡ j → ⊥) → get_or (set ws j (v * 2 ^ 16 + get_or ws j 0 % 2 ^ 16)) m 0 % 2 ^ 16 ≡ get_or ws m 0 % 2 ^ 16
        beside m (inl e) =
            let same : get_or (set ws j (v * 2 ^ 16 + get_or ws j 0 % 2 ^ 16)) j 0 ≡ v * 2 ^ 16 + get_or ws j 0 % 2 ^ 16 = get_or-set_same ws j _ 0 (omega arith) in
            rw e (ap (λ w. w % 2 ^ 16) same ∙ omega arith)
        beside m (inr e) = ap (λ w. w % 2 ^ 16) (get_or-set_other ws j m (v * 2 ^ 16 + get_or ws j 0 % 2 ^ 16) 0 e)

-- halves outside those written stay
pub halves-out : (ws : List ℕ) (i : ℕ) (vs : List ℕ) (k : ℕ) → i + length vs ≤ 2 * length ws → AreHalves vs → (k < i) ⊎ (i + length vs ≤ k) →
    half_of (with_halves ws i vs) k ≡ half_of ws k
halves-out ws i [] k fits all away = refl
halves-out ws i (v ∷ vs) k fits all away =
    let unit : v < 2 ^ 16 = all 0 v (omega arith) in
    half-other (with_halves ws (suc i) vs) i v k (omega (arith, length-with_halves ws (suc i) vs)) unit (apart away)
    ∙ halves-out ws (suc i) vs k (omega arith) (λ j d lt. all (suc j) d (omega arith)) (further away)
  where
    apart : (k < i) ⊎ (i + suc (length vs) ≤ k) → k ≢ i
    apart (inl lt) e = omega (arith, e, lt)
    apart (inr le) e = omega (arith, e, le)

    further : (k < i) ⊎ (i + suc (length vs) ≤ k) → (k < suc i) ⊎ (suc i + length vs ≤ k)
    further (inl lt) = inl (omega arith)
    further (inr le) = inr (omega arith)

-- and those written are read back
pub halves-in : (ws : List ℕ) (i : ℕ) (vs : List ℕ) (j : ℕ) → i + length vs ≤ 2 * length ws → AreHalves vs → j < length vs →
    half_of (with_halves ws i vs) (i + j) ≡ get_or vs j 0
halves-in ws i [] j fits all lt = absurd (omega arith)
halves-in ws i (v ∷ vs) zero fits all lt =
    let unit : v < 2 ^ 16 = all 0 v (omega arith) in
    let here : i + 0 ≡ i = omega arith in
    ap (half_of (with_halves ws i (v ∷ vs))) here ∙ half-set (with_halves ws (suc i) vs) i v (omega (arith, length-with_halves ws (suc i) vs)) unit
halves-in ws i (v ∷ vs) (suc j) fits all lt =
    let unit : v < 2 ^ 16 = all 0 v (omega arith) in
    let here : i + suc j ≡ suc i + j = omega arith in
    ap (half_of (with_halves ws i (v ∷ vs))) here
    ∙ half-other (with_halves ws (suc i) vs) i v (suc i + j) (omega (arith, length-with_halves ws (suc i) vs)) unit (λ e. omega (arith, e))
    ∙ halves-in ws (suc i) vs j (omega arith) (λ k d less. all (suc k) d (omega arith)) (omega arith)

-- words whose halves are these, and the old ones elsewhere
pub set-by_halves : (old new : List ℕ) (i : ℕ) (vs : List ℕ) → length new ≡ length old → i + length vs ≤ 2 * length old → AreHalves vs →
    ((j : ℕ) → j < length vs → half_of new (i + j) ≡ get_or vs j 0) →
    ((k : ℕ) → (k < i) ⊎ (i + length vs ≤ k) → half_of new k ≡ half_of old k) → new ≡ with_halves old i vs
set-by_halves old new i vs same fits all inside outside =
    same_words new (with_halves old i vs) (same ∙ sym (length-with_halves old i vs)) (λ k _. at k (cases_lt k i) (cases_lt k (i + length vs)))
  where
    at : (k : ℕ) → (k < i) ⊎ (i ≤ k) → (k < i + length vs) ⊎ (i + length vs ≤ k) → half_of new k ≡ half_of (with_halves old i vs) k
    at k (inl lt) _ = outside k (inl lt) ∙ sym (halves-out old i vs k fits all (inl lt))
    at k (inr ge) (inl lt) =
        let here : i + (k - i) ≡ k = omega arith in
        subst (λ n. half_of new n ≡ half_of (with_halves old i vs) n) here
        (inside (k - i) (omega arith) ∙ sym (halves-in old i vs (k - i) fits all (omega arith)))
    at k (inr ge) (inr past) = outside k (inr past) ∙ sym (halves-out old i vs k fits all (inr past))

-- one more half after them
pub with_halves-more : (ws : List ℕ) (i : ℕ) (vs : List ℕ) (k v : ℕ) → k ≡ i + length vs → i + length vs < 2 * length ws → AreHalves (vs ++ v ∷ []) →
    with_half (with_halves ws i vs) k v ≡ with_halves ws i (vs ++ v ∷ [])
with_halves-more ws i vs k v here fits all =
    set-by_halves ws (with_half (with_halves ws i vs) k v) i (vs ++ v ∷ []) (length-with_half (with_halves ws i vs) k v ∙ length-with_halves ws i vs)
    (omega (arith, length_push vs v)) all (λ j lt. inside j (cases_lt j (length vs)) lt) outside
  where
    long : length (with_halves ws i vs) ≡ length ws
    long = length-with_halves ws i vs

    front : AreHalves vs
    front j d lt = subst (λ u. u < 2 ^ 16) (get_or_append_left vs (v ∷ []) d j lt) (all j d (omega (arith, length_push vs v)))

    unit : v < 2 ^ 16
    unit = subst (λ u. u < 2 ^ 16) (get_or_push vs v 0 (length vs) refl) (all (length vs) 0 (omega (arith, length_push vs v)))

    inside : (j : ℕ) → (j < length vs) ⊎ (length vs ≤ j) → j < length (vs ++ v ∷ []) → half_of (with_half (with_halves ws i vs) k v) (i + j) ≡ get_or (vs ++ v ∷ []) j 0
    inside j (inl lt) _ =
        half-other (with_halves ws i vs) k v (i + j) (omega (arith, long, here)) unit (λ e. omega (arith, e, here))
        ∙ halves-in ws i vs j (omega arith) front lt ∙ sym (get_or_append_left vs (v ∷ []) 0 j lt)
    inside j (inr ge) lt =
        let last : j ≡ length vs = omega (arith, length_push vs v) in
        let there : i + j ≡ k = omega (arith, here) in
        ap (half_of (with_half (with_halves ws i vs) k v)) there
        ∙ half-set (with_halves ws i vs) k v (omega (arith, long, here)) unit
        ∙ sym (ap (λ n. get_or (vs ++ v ∷ []) n 0) last ∙ get_or_push vs v 0 (length vs) refl)

    outside : (n : ℕ) → (n < i) ⊎ (i + length (vs ++ v ∷ []) ≤ n) → half_of (with_half (with_halves ws i vs) k v) n ≡ half_of ws n
    outside n away =
        half-other (with_halves ws i vs) k v n (omega (arith, long, here)) unit (apart away) ∙ halves-out ws i vs n (omega arith) front (nearer away)
      where
        apart : (n < i) ⊎ (i + length (vs ++ v ∷ []) ≤ n) → n ≢ k
        apart (inl lt) e = omega (arith, e, lt, here)
        apart (inr le) e = omega (arith, e, le, here, length_push vs v)

        nearer : (n < i) ⊎ (i + length (vs ++ v ∷ []) ≤ n) → (n < i) ⊎ (i + length vs ≤ n)
        nearer (inl lt) = inl lt
        nearer (inr le) = inr (omega (arith, le, length_push vs v))

-- whole words of two halves each
pub set-pairs : (old new : List ℕ) (t m : ℕ) (vs : List ℕ) → length vs ≡ 2 * m → t + m ≤ length old → AreHalves vs → length new ≡ length old →
    ((j : ℕ) → j < m → get_or new (t + j) 0 ≡ get_or vs (2 * j) 0 + get_or vs (suc (2 * j)) 0 * 2 ^ 16) →
    ((j : ℕ) → (j < t) ⊎ (t + m ≤ j) → get_or new j 0 ≡ get_or old j 0) → new ≡ with_halves old (2 * t) vs
set-pairs old new t m vs long fits all same inside outside =
    set-by_halves old new (2 * t) vs same (omega (arith, long)) all
    (by_side (λ k. k < length vs → half_of new (2 * t + k) ≡ get_or vs k 0) even odd)
    (by_side (λ k. (k < 2 * t) ⊎ (2 * t + length vs ≤ k) → half_of new k ≡ half_of old k)
    (λ j away. low new j ∙ ap (λ w. w % 2 ^ 16) (outside j (low-away j away)) ∙ sym (low old j))
    (λ j away. high new j ∙ ap (λ w. w / 2 ^ 16) (outside j (high-away j away)) ∙ sym (high old j)))
  where
    even : (j : ℕ) → 2 * j < length vs → half_of new (2 * t + 2 * j) ≡ get_or vs (2 * j) 0
    even j lt =
        let here : 2 * t + 2 * j ≡ 2 * (t + j) = omega arith in
        let unit : get_or vs (2 * j) 0 < 2 ^ 16 = all (2 * j) 0 lt in
        ap (half_of new) here ∙ low new (t + j) ∙ ap (λ w. w % 2 ^ 16) (inside j (omega (arith, long))) ∙ omega arith

    odd : (j : ℕ) → suc (2 * j) < length vs → half_of new (2 * t + suc (2 * j)) ≡ get_or vs (suc (2 * j)) 0
    odd j lt =
        let here : 2 * t + suc (2 * j) ≡ suc (2 * (t + j)) = omega arith in
        let unit : get_or vs (2 * j) 0 < 2 ^ 16 = all (2 * j) 0 (omega arith) in
        ap (half_of new) here ∙ high new (t + j) ∙ ap (λ w. w / 2 ^ 16) (inside j (omega (arith, long))) ∙ omega arith

    low-away : (j : ℕ) → (2 * j < 2 * t) ⊎ (2 * t + length vs ≤ 2 * j) → (j < t) ⊎ (t + m ≤ j)
    low-away j (inl lt) = inl (omega arith)
    low-away j (inr le) = inr (omega (arith, long))

    high-away : (j : ℕ) → (suc (2 * j) < 2 * t) ⊎ (2 * t + length vs ≤ suc (2 * j)) → (j < t) ⊎ (t + m ≤ j)
    high-away j (inl lt) = inl (omega arith)
    high-away j (inr le) = inr (omega (arith, long))

-- halves that are read
pub length-halves_from : (ws : List ℕ) (i n : ℕ) → length (halves_from ws i n) ≡ n
length-halves_from ws i zero = refl
length-halves_from ws i (suc n) = ap suc (length-halves_from ws (suc i) n)

pub get_or-halves_from : (ws : List ℕ) (i n j : ℕ) → j < n → get_or (halves_from ws i n) j 0 ≡ half_of ws (i + j)
get_or-halves_from ws i zero j lt = absurd (omega arith)
get_or-halves_from ws i (suc n) zero lt = let here : i ≡ i + 0 = omega arith in ap (half_of ws) here
get_or-halves_from ws i (suc n) (suc j) lt =
    let here : suc i + j ≡ i + suc j = omega arith in get_or-halves_from ws (suc i) n j (omega arith) ∙ ap (half_of ws) here

-- each fits 16 bits where the words fit 32
pub half-fits : (ws : List ℕ) (i : ℕ) → All (λ w. w < 2 ^ 32) ws → half_of ws i < 2 ^ 16
half-fits ws i fit = by (nat_eq (i % 2) 0)
  where
    word : get_or ws (i / 2) 0 < 2 ^ 32
    word = at (cases_lt (i / 2) (length ws))
      where
        at : (i / 2 < length ws) ⊎ (length ws ≤ i / 2) → get_or ws (i / 2) 0 < 2 ^ 32
        at (inl lt) = fit (i / 2) 0 lt
        at (inr past) = omega (arith, get_or_past ws (i / 2) 0 past)

    by : (b : Bool) → cond b (get_or ws (i / 2) 0 % 2 ^ 16) (get_or ws (i / 2) 0 / 2 ^ 16) < 2 ^ 16
    by true = omega arith
    by false = omega (arith, word)

pub halves-fit : (ws : List ℕ) (i n : ℕ) → All (λ w. w < 2 ^ 32) ws → AreHalves (halves_from ws i n)
halves-fit ws i zero fit k d lt = absurd (omega arith)
halves-fit ws i (suc n) fit zero d lt = half-fits ws i fit
halves-fit ws i (suc n) fit (suc k) d lt = halves-fit ws (suc i) n fit k d (omega arith)

pub halves_from-more : (ws : List ℕ) (i n k : ℕ) → k ≡ i + n → halves_from ws i n ++ half_of ws k ∷ [] ≡ halves_from ws i (suc n)
halves_from-more ws i zero k here = let e : k ≡ i = omega (arith, here) in ap (λ j. half_of ws j ∷ []) e
halves_from-more ws i (suc n) k here = ap (λ hs. half_of ws i ∷ hs) (halves_from-more ws (suc i) n k (omega (arith, here)))

-- a part of the words was written
pub words-in : (xs ys zs : List ℕ) (a j : ℕ) → a ≤ length xs → j < length ys → get_or (take a xs ++ (ys ++ zs)) (a + j) 0 ≡ get_or ys j 0
words-in xs ys zs a j le lt =
    let e : a + j - a ≡ j = omega arith in
    get_or-append_right (take a xs) (ys ++ zs) a (a + j) 0 (length-take-le a xs le) (omega arith) ∙ ap (λ n. get_or (ys ++ zs) n 0) e
    ∙ get_or_append_left ys zs 0 j lt

pub words-out : (xs ys : List ℕ) (a k j : ℕ) → a ≤ length xs → length ys ≡ k → (j < a) ⊎ (a + k ≤ j) →
    get_or (take a xs ++ (ys ++ drop k (drop a xs))) j 0 ≡ get_or xs j 0
words-out xs ys a k j le long (inl lt) =
    get_or_append_left (take a xs) (ys ++ drop k (drop a xs)) 0 j (omega (arith, length-take-le a xs le)) ∙ get_or-take a xs j 0 lt
words-out xs ys a k j le long (inr past) =
    let e : a + (k + (j - a - k)) ≡ j = omega arith in
    get_or-append_right (take a xs) (ys ++ drop k (drop a xs)) a j 0 (length-take-le a xs le) (omega arith)
    ∙ get_or-append_right ys (drop k (drop a xs)) k (j - a) 0 long (omega arith)
    ∙ get_or-drop k (drop a xs) (j - a - k) 0 ∙ get_or-drop a xs (k + (j - a - k)) 0 ∙ ap (λ n. get_or xs n 0) e

pub length-written : (xs ys : List ℕ) (a k : ℕ) → a + k ≤ length xs → length ys ≡ k → length (take a xs ++ (ys ++ drop k (drop a xs))) ≡ length xs
length-written xs ys a k le long =
    omega (arith, length-append (take a xs) (ys ++ drop k (drop a xs)), length-append ys (drop k (drop a xs)), length-take-le a xs (omega arith), length-drop k (drop a xs), length-drop a xs, long)

-- zeros from the beginning of a word
abbrev pub zeros : ℕ → List ℕ
zeros n = replicate n 0

pub zeros-fit : (n : ℕ) → AreHalves (zeros n)
zeros-fit n k d lt =
    let same : get_or (zeros n) k d ≡ 0 = get_or-replicate n k 0 d (omega (arith, length-replicate {A = ℕ} n 0)) in
    omega (arith, same)

pub zeros-written : (ws ys : List ℕ) (t m : ℕ) → t + m ≤ length ws → ys ≡ zeros m →
    take t ws ++ (ys ++ drop m (drop t ws)) ≡ with_halves ws (2 * t) (zeros (2 * m))
zeros-written ws ys t m fits is =
    set-pairs ws (take t ws ++ (ys ++ drop m (drop t ws))) t m (zeros (2 * m)) (length-replicate (2 * m) 0) fits (zeros-fit (2 * m)) (length-written ws ys t m fits long) inside
    (λ j away. words-out ws ys t m j (omega arith) long away)
  where
    long : length ys ≡ m
    long = ap length is ∙ length-replicate m 0

    inside : (j : ℕ) → j < m → get_or (take t ws ++ (ys ++ drop m (drop t ws))) (t + j) 0 ≡
        get_or (zeros (2 * m)) (2 * j) 0 + get_or (zeros (2 * m)) (suc (2 * j)) 0 * 2 ^ 16
    inside j lt =
        let first : get_or (zeros (2 * m)) (2 * j) 0 ≡ 0 = get_or-replicate (2 * m) (2 * j) 0 0 (omega arith) in
        let second : get_or (zeros (2 * m)) (suc (2 * j)) 0 ≡ 0 = get_or-replicate (2 * m) (suc (2 * j)) 0 0 (omega arith) in
        let read : get_or (take t ws ++ (ys ++ drop m (drop t ws))) (t + j) 0 ≡ 0 =
        words-in ws ys (drop m (drop t ws)) t j (omega arith) (omega (arith, long)) ∙ ap (λ us. get_or us j 0) is ∙ get_or-replicate m j 0 0 lt in
        omega (arith, first, second, read)

-- words that were moved
pub pairs-moved : (old new : List ℕ) (s t m : ℕ) → length new ≡ length old → t + m ≤ length old → All (λ w. w < 2 ^ 32) old → AreMoved false old new s t m →
    new ≡ with_halves old (2 * t) (halves_from old (2 * s) (2 * m))
pairs-moved old new s t m same fits fit are =
    set-pairs old new t m (halves_from old (2 * s) (2 * m)) (length-halves_from old (2 * s) (2 * m)) fits (halves-fit old (2 * s) (2 * m) fit) same word are.outside
  where
    word : (j : ℕ) → j < m → get_or new (t + j) 0 ≡ get_or (halves_from old (2 * s) (2 * m)) (2 * j) 0 + get_or (halves_from old (2 * s) (2 * m)) (suc (2 * j)) 0 * 2 ^ 16
    word j lt =
        let e : 2 * s + 2 * j ≡ 2 * (s + j) = omega arith in
        let f : 2 * s + suc (2 * j) ≡ suc (2 * (s + j)) = omega arith in
        let l = get_or-halves_from old (2 * s) (2 * m) (2 * j) (omega arith) ∙ ap (half_of old) e ∙ low old (s + j) in
        let h = get_or-halves_from old (2 * s) (2 * m) (suc (2 * j)) (omega arith) ∙ ap (half_of old) f ∙ high old (s + j) in
        omega (arith, are.inside j lt, l, h)

-- words that were shifted by a half
pub pairs-shifted : (old new : List ℕ) (s t m : ℕ) → length new ≡ length old → t + m ≤ length old → All (λ w. w < 2 ^ 32) old → AreMoved true old new s t m →
    new ≡ with_halves old (2 * t) (halves_from old (suc (2 * s)) (2 * m))
pairs-shifted old new s t m same fits fit are =
    set-pairs old new t m (halves_from old (suc (2 * s)) (2 * m)) (length-halves_from old (suc (2 * s)) (2 * m)) fits (halves-fit old (suc (2 * s)) (2 * m) fit) same word are.outside
  where
    word : (j : ℕ) → j < m →
        get_or new (t + j) 0 ≡ get_or (halves_from old (suc (2 * s)) (2 * m)) (2 * j) 0 + get_or (halves_from old (suc (2 * s)) (2 * m)) (suc (2 * j)) 0 * 2 ^ 16
    word j lt =
        let e : suc (2 * s) + 2 * j ≡ suc (2 * (s + j)) = omega arith in
        let f : suc (2 * s) + suc (2 * j) ≡ 2 * (s + j + 1) = omega arith in
        let l = get_or-halves_from old (suc (2 * s)) (2 * m) (2 * j) (omega arith) ∙ ap (half_of old) e ∙ high old (s + j) in
        let h = get_or-halves_from old (suc (2 * s)) (2 * m) (suc (2 * j)) (omega arith) ∙ ap (half_of old) f ∙ low old (s + j + 1) in
        omega (arith, are.inside j lt, l, h)
