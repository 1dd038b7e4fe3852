-- Halves of words are units, and units are put into a list one after another.
use Rattle.std.proofs.Common.{◌≡◌, ℕ, zero, suc, ◌+◌, ◌-◌, ◌*◌, ◌/◌, ◌%◌, ◌^◌, ◌<◌, ◌≤◌, ◌⊎◌, inl, inr, min, List, [], ◌∷◌, ◌++◌, Bool, true, false, cond, length, take, drop, set, replicate, refl, sym, ap, ◌∙◌, arith, get_or, append_assoc}
use Rattle.std.specs.Prelude.{nat_eq}
use Rattle.std.proofs.lemmas.List.{length-take, length-take-le, length-drop, length-append, drop_more, drop-drop, drop_at, drop_min, drop-take, take_at, take_min, take-take, take_more, set_at, get_or_append_left, get_or-append_right, get_or-take, get_or-drop, get_or_past, ext_get_or, append-nil, take-append-drop, get_or-replicate, length-replicate}
use Rattle.std.proofs.lemmas.List.Elements.{All-append, All-drop, All-take}
use Rattle.std.proofs.lemmas.Bool.{cases_lt}
use Rattle.wb_chunk.specs.Halves.{half_of, halves_from, with_half, with_halves}
use Rattle.wb_chunk.proofs.WrittenHalves.{length-halves_from, get_or-halves_from}
use Rattle.wb_heap_model.specs.Spelling.{halves}
use Rattle.wb_heap_model.specs.Texts.{AreUnits, exactly, units_of_part}
use Rattle.wb_heap_model.specs.TextCells.{joined}
use Rattle.wb_heap_model.proofs.TextCells.{IsUnit, length-exactly}
use Rattle.wb_hbuf.specs.Drafts.{put}

following-two : (i : ℕ) → suc (suc i) / 2 ≡ suc (i / 2)
following-two i = omega arith

same-side : (i : ℕ) → suc (suc i) % 2 ≡ i % 2
same-side i = omega arith

-- a half of the words is one of the halves
pub half-is : (ws : List ℕ) (i : ℕ) → half_of ws i ≡ get_or (halves ws) i 0
half-is [] i = by (nat_eq (i % 2) 0)
  where
    by : (b : Bool) → cond b (0 % 2 ^ 16) (0 / 2 ^ 16) ≡ 0
    by true = refl
    by false = refl
half-is (w ∷ ws) zero = refl
half-is (w ∷ ws) (suc zero) = refl
half-is (w ∷ ws) (suc (suc i)) = rw (following-two i, same-side i) (half-is ws i)

-- a half after the length word
pub half-following : (w : ℕ) (ws : List ℕ) (i k : ℕ) → k ≡ suc (suc i) → half_of (w ∷ ws) k ≡ get_or (halves ws) i 0
half-following w ws i k e = ap (half_of (w ∷ ws)) e ∙ half-is (w ∷ ws) (suc (suc i))

with_half-following : (w : ℕ) (ws : List ℕ) (i v : ℕ) → with_half (w ∷ ws) (suc (suc i)) v ≡ w ∷ with_half ws i v
with_half-following w ws i v = rw (following-two i, same-side i)

with_half-is : (us : List ℕ) (i v : ℕ) → length us % 2 ≡ 0 → AreUnits us → i < length us → with_half (joined us) i v ≡ joined (set us i v)
with_half-is [] i v even all lt = absurd (omega (arith, lt))
with_half-is (a ∷ []) i v even all lt = absurd (omega (arith, even))
with_half-is (a ∷ b ∷ us) zero v even all lt =
    let unit : IsUnit a = all 0 a (omega arith) in
    let e : (a + b * 2 ^ 16) / 2 ^ 16 * 2 ^ 16 + v ≡ v + b * 2 ^ 16 = omega arith in
    ap (λ w. w ∷ joined us) e
with_half-is (a ∷ b ∷ us) (suc zero) v even all lt =
    let unit : IsUnit a = all 0 a (omega arith) in
    let e : v * 2 ^ 16 + (a + b * 2 ^ 16) % 2 ^ 16 ≡ a + v * 2 ^ 16 = omega arith in
    ap (λ w. w ∷ joined us) e
with_half-is (a ∷ b ∷ us) (suc (suc i)) v even all lt =
    with_half-following (a + b * 2 ^ 16) (joined us) i v
    ∙ ap (λ ws. (a + b * 2 ^ 16) ∷ ws) (with_half-is us i v (omega (arith, even)) (λ k d less. all (suc (suc k)) d (omega (arith, less))) (omega (arith, lt)))

-- a unit is set after the length word
pub set-following : (w : ℕ) (us : List ℕ) (i k v : ℕ) → k ≡ suc (suc i) → length us % 2 ≡ 0 → AreUnits us → i < length us →
    with_half (w ∷ joined us) k v ≡ w ∷ joined (set us i v)
set-following w us i k v e even all lt =
    ap (λ j. with_half (w ∷ joined us) j v) e ∙ with_half-following w (joined us) i v ∙ ap (λ ws. w ∷ ws) (with_half-is us i v even all lt)

-- units that are put somewhere
pub put-none : (at : ℕ) (all : List ℕ) → put at [] all ≡ all
put-none at all = ap (λ us. us ++ drop (at + 0) all) (append-nil (take at all)) ∙ ap (λ k. take at all ++ drop k all) (let e : at + 0 ≡ at = omega arith in e) ∙ take-append-drop at all

pub length-put : (at : ℕ) (us all : List ℕ) → at + length us ≤ length all → length (put at us all) ≡ length all
length-put at us all fits =
    omega (arith, length-append (take at all ++ us) (drop (at + length us) all), length-append (take at all) us, length-take-le at all (omega (arith, fits)), length-drop (at + length us) all)

pub units-put : (at : ℕ) (us all : List ℕ) → AreUnits us → AreUnits all → AreUnits (put at us all)
units-put at us all new old = All-append IsUnit (take at all ++ us) (drop (at + length us) all) (All-append IsUnit (take at all) us (All-take IsUnit at all old) new) (All-drop IsUnit (at + length us) all old)

-- some after others
pub put-put : (at k : ℕ) (us vs all : List ℕ) → k ≡ at + length us → at + length us ≤ length all → put k vs (put at us all) ≡ put at (us ++ vs) all
put-put at k us vs all here fits =
    let front : length (take at all ++ us) ≡ k = omega (arith, length-append (take at all) us, length-take-le at all (omega (arith, fits)), here) in
    let rest = drop (at + length us) all in
    let ends : at + length us + length vs ≡ at + length (us ++ vs) = omega (arith, length-append us vs) in
    let following : drop (k + length vs) (put at us all) ≡ drop (at + length (us ++ vs)) all =
    sym (drop-drop (length vs) k (put at us all)) ∙ ap (drop (length vs)) (drop_at (take at all ++ us) rest k front)
    ∙ drop-drop (length vs) (at + length us) all ∙ ap (λ n. drop n all) ends in
    ap (λ ts. ts ++ vs ++ drop (k + length vs) (put at us all)) (take_at (take at all ++ us) rest k front)
    ∙ ap (λ ts. take at all ++ us ++ vs ++ ts) following
    ∙ ap (λ ts. ts ++ drop (at + length (us ++ vs)) all) (append_assoc (take at all) us vs)

-- one before them
put-before : (at v : ℕ) (vs us : List ℕ) → at + suc (length vs) ≤ length us → set (put (suc at) vs us) at v ≡ put at (v ∷ vs) us
put-before at v vs us fits =
    let one : suc at ≡ at + 1 = omega arith in
    let x = get_or us at 0 in
    let rest = drop (suc at + length vs) us in
    let ends : suc at + length vs ≡ at + suc (length vs) = omega arith in
    let front : take (suc at) us ≡ take at us ++ x ∷ [] = ap (λ n. take n us) one ∙ take_more us at 0 (omega (arith, fits)) in
    ap (λ ts. set (ts ++ vs ++ rest) at v) front
    ∙ ap (λ ts. set ts at v) (ap (λ ts. ts ++ rest) (append_assoc (take at us) (x ∷ []) vs) ∙ append_assoc (take at us) (x ∷ vs) rest)
    ∙ set_at (take at us) x (vs ++ rest) v at (length-take-le at us (omega (arith, fits)))
    ∙ sym (append_assoc (take at us) (v ∷ vs) rest)
    ∙ ap (λ n. take at us ++ v ∷ vs ++ drop n us) ends

-- a run of units is written after the length word
pub put-following : (w : ℕ) (us : List ℕ) (at k : ℕ) (vs : List ℕ) → k ≡ suc (suc at) → length us % 2 ≡ 0 → AreUnits us → AreUnits vs → at + length vs ≤ length us →
    with_halves (w ∷ joined us) k vs ≡ w ∷ joined (put at vs us)
put-following w us at k [] here even all new fits = ap (λ vs. w ∷ joined vs) (sym (put-none at us))
put-following w us at k (v ∷ vs) here even all new fits =
    let rest : AreUnits vs = λ j d lt. new (suc j) d (omega (arith, lt)) in
    let long : length (put (suc at) vs us) ≡ length us = length-put (suc at) vs us (omega (arith, fits)) in
    ap (λ ws. with_half ws k v) (put-following w us (suc at) (suc k) vs (omega (arith, here)) even all rest (omega (arith, fits)))
    ∙ set-following w (put (suc at) vs us) at k v here (ap (λ n. n % 2) long ∙ even) (units-put (suc at) vs us rest all) (omega (arith, long, fits))
    ∙ ap (λ ts. w ∷ joined ts) (put-before at v vs us fits)

-- and one that is read there
half-there : (ws : List ℕ) (i k : ℕ) → k ≡ suc (suc i) → half_of ws k ≡ get_or (halves (drop 1 ws)) i 0
half-there [] i k e = half-is [] k
half-there (w ∷ ws) i k e = half-following w ws i k e

pub run-following : (ws : List ℕ) (i k n : ℕ) → k ≡ suc (suc i) → i + n ≤ length (halves (drop 1 ws)) → halves_from ws k n ≡ take n (drop i (halves (drop 1 ws)))
run-following ws i k n here fits = ext_get_or 0 _ _ (length-halves_from ws k n ∙ sym short) each
  where
    short : length (take n (drop i (halves (drop 1 ws)))) ≡ n
    short = length-take-le n (drop i (halves (drop 1 ws))) (omega (arith, length-drop i (halves (drop 1 ws)), fits))

    each : (j : ℕ) → j < length (halves_from ws k n) → get_or (halves_from ws k n) j 0 ≡ get_or (take n (drop i (halves (drop 1 ws)))) j 0
    each j less =
        let lt : j < n = omega (arith, less, length-halves_from ws k n) in
        get_or-halves_from ws k n j lt ∙ half-there ws (i + j) (k + j) (omega (arith, here))
        ∙ sym (get_or-take n (drop i (halves (drop 1 ws))) j 0 lt ∙ get_or-drop i (halves (drop 1 ws)) j 0)

-- one more of them
pub put-more : (at : ℕ) (us all : List ℕ) (i k v : ℕ) → k ≡ at + i → i < length us → at + length us ≤ length all → v ≡ get_or us i 0 →
    set (put at (take i us) all) k v ≡ put at (take (i + 1) us) all
put-more at us all i k v here lt fits is =
    let short : length (take i us) ≡ i = length-take-le i us (omega arith) in
    let longer : length (take (i + 1) us) ≡ i + 1 = length-take-le (i + 1) us (omega arith) in
    let front : length (take at all ++ take i us) ≡ at + i = omega (arith, length-append (take at all) (take i us), length-take-le at all (omega (arith, fits)), short) in
    let rest : drop (at + length (take i us)) all ≡ get_or all (at + i) 0 ∷ drop (at + i + 1) all =
    ap (λ n. drop (at + n) all) short ∙ drop_more all (at + i) 0 (omega (arith, fits, lt)) in
    let next : at + i + 1 ≡ at + length (take (i + 1) us) = omega (arith, longer) in
    ap (λ ws. set (take at all ++ take i us ++ ws) k v) rest
    ∙ set_at (take at all ++ take i us) (get_or all (at + i) 0) (drop (at + i + 1) all) v k (front ∙ sym here)
    ∙ ap (λ n. take at all ++ take i us ++ v ∷ drop n all) next
    ∙ ap (λ x. take at all ++ take i us ++ x ∷ drop (at + length (take (i + 1) us)) all) is
    ∙ sym (append_assoc (take at all ++ take i us) (get_or us i 0 ∷ []) (drop (at + length (take (i + 1) us)) all))
    ∙ ap (λ ws. ws ++ drop (at + length (take (i + 1) us)) all) (append_assoc (take at all) (take i us) (get_or us i 0 ∷ []) ∙ ap (λ ws. take at all ++ ws) (sym (take_more us i 0 lt)))

-- what is before and after them stays
pub get_or-put_before : (at : ℕ) (us all : List ℕ) (k : ℕ) → at ≤ length all → k < at → get_or (put at us all) k 0 ≡ get_or all k 0
get_or-put_before at us all k le lt =
    let front : length (take at all) ≡ at = length-take-le at all le in
    ap (λ ws. get_or ws k 0) (append_assoc (take at all) us (drop (at + length us) all))
    ∙ get_or_append_left (take at all) (us ++ drop (at + length us) all) 0 k (omega (arith, front)) ∙ get_or-take at all k 0 lt

pub get_or-put_after : (at : ℕ) (us all : List ℕ) (k : ℕ) → at ≤ length all → at + length us ≤ k → get_or (put at us all) k 0 ≡ get_or all k 0
get_or-put_after at us all k le ge =
    let front : length (take at all ++ us) ≡ at + length us = omega (arith, length-append (take at all) us, length-take-le at all le) in
    let same : at + length us + (k - (at + length us)) ≡ k = omega arith in
    get_or-append_right (take at all ++ us) (drop (at + length us) all) (at + length us) k 0 front ge
    ∙ get_or-drop (at + length us) all (k - (at + length us)) 0 ∙ ap (λ n. get_or all n 0) same

pub get_or-put_within : (at : ℕ) (us all : List ℕ) (k : ℕ) → at ≤ length all → at ≤ k → k < at + length us → get_or (put at us all) k 0 ≡ get_or us (k - at) 0
get_or-put_within at us all k le ge lt =
    let front : length (take at all) ≡ at = length-take-le at all le in
    ap (λ ws. get_or ws k 0) (append_assoc (take at all) us (drop (at + length us) all))
    ∙ get_or-append_right (take at all) (us ++ drop (at + length us) all) at k 0 front ge
    ∙ get_or_append_left us (drop (at + length us) all) 0 (k - at) (omega arith)

-- a list that is cut or filled up
pub get_or-exactly : (n : ℕ) (t : List ℕ) (k : ℕ) → k < n → get_or (exactly n t) k 0 ≡ get_or t k 0
get_or-exactly n t k lt = by (cases_lt k (length t))
  where
    front : length (take n t) ≡ min n (length t)
    front = length-take n t

    by : (k < length t) ⊎ (length t ≤ k) → get_or (exactly n t) k 0 ≡ get_or t k 0
    by (inl within) = get_or_append_left (take n t) (replicate (n - length t) 0) 0 k (omega (arith, front, within, lt)) ∙ get_or-take n t k 0 lt
    by (inr past) =
        get_or-append_right (take n t) (replicate (n - length t) 0) (length t) k 0 (omega (arith, front, past, lt)) past
        ∙ get_or-replicate (n - length t) (k - length t) 0 0 (omega (arith, past, lt)) ∙ sym (get_or_past t k 0 past)

pub get_or-filled : (n : ℕ) (t : List ℕ) (k : ℕ) → length t ≤ k → get_or (exactly n t) k 0 ≡ 0
get_or-filled n t k past = by (cases_lt k n)
  where
    by : (k < n) ⊎ (n ≤ k) → get_or (exactly n t) k 0 ≡ 0
    by (inl lt) = get_or-exactly n t k lt ∙ get_or_past t k 0 past
    by (inr ge) = get_or_past (exactly n t) k 0 (omega (arith, length-exactly n t, ge))

-- a unit of a part
pub get_or-part : (base : List ℕ) (from count i : ℕ) → i < count → get_or (units_of_part base from count) i 0 ≡ get_or base (from + i) 0
get_or-part base from count i lt = get_or-exactly count (drop from base) i lt ∙ get_or-drop from base i 0

-- a part of a text: what is there of it, and zeros
pub part-is : (base : List ℕ) (from count start there : ℕ) → start ≡ min from (length base) → there ≡ min count (length base - start) →
    units_of_part base from count ≡ take there (drop start base) ++ replicate (count - there) 0
part-is base from count start there begins long =
    let same : drop start base ≡ drop from base = ap (λ n. drop n base) begins ∙ drop_min from base in
    let left : length (drop start base) ≡ length base - start = length-drop start base in
    let n : there ≡ min count (length (drop start base)) = long ∙ ap (min count) (sym left) in
    let rest : count - length (drop start base) ≡ count - there = omega (arith, n) in
    ap (exactly count) (sym same)
    ∙ ap (λ us. us ++ replicate (count - length (drop start base)) 0) (sym (take_min count (drop start base)) ∙ ap (λ k. take k (drop start base)) (sym n))
    ∙ ap (λ k. take there (drop start base) ++ replicate k 0) rest

-- a part within the front of a list
pub part-within : (all : List ℕ) (len start there : ℕ) → start + there ≤ len → take there (drop start (take len all)) ≡ take there (drop start all)
part-within all len start there fits =
    let e : start + (len - start) ≡ len = omega arith in
    ap (λ n. take there (drop start (take n all))) (sym e) ∙ ap (take there) (drop-take start (len - start) all) ∙ take-take there (len - start) (drop start all) (omega (arith, fits))

-- the units once a text was cut or grew to a number of them: what is past it is zero
pub settled : (n len : ℕ) (t all : List ℕ) → length t ≡ n → n ≤ length all → len ≤ length all → take n all ≡ t →
    ((k : ℕ) → n + (len - n) ≤ k → get_or all k 0 ≡ 0) → put n (replicate (len - n) 0) all ≡ exactly (length all) t
settled n len t all same fits within front following =
    ext_get_or 0 _ _ (length-put n (replicate (len - n) 0) all (omega (arith, filled, fits, within)) ∙ sym (length-exactly (length all) t)) each
  where
    filled : length (replicate {A = ℕ} (len - n) 0) ≡ len - n
    filled = length-replicate (len - n) 0

    short : (k : ℕ) → k < n → get_or all k 0 ≡ get_or t k 0
    short k lt = sym (get_or-take n all k 0 lt) ∙ ap (λ ws. get_or ws k 0) front

    by : (k : ℕ) → k < length all → (k < n) ⊎ (n ≤ k) → (k < n + (len - n)) ⊎ (n + (len - n) ≤ k) →
        get_or (put n (replicate (len - n) 0) all) k 0 ≡ get_or (exactly (length all) t) k 0
    by k less (inl lt) _ = get_or-put_before n (replicate (len - n) 0) all k fits lt ∙ short k lt ∙ sym (get_or-exactly (length all) t k less)
    by k less (inr ge) (inl lt) =
        get_or-put_within n (replicate (len - n) 0) all k fits ge (omega (arith, filled, lt)) ∙ get_or-replicate (len - n) (k - n) 0 0 (omega (arith, lt, ge))
        ∙ sym (get_or-filled (length all) t k (omega (arith, same, ge)))
    by k less (inr ge) (inr past) =
        get_or-put_after n (replicate (len - n) 0) all k fits (omega (arith, filled, past)) ∙ following k past
        ∙ sym (get_or-filled (length all) t k (omega (arith, same, ge)))

    each : (k : ℕ) → k < length (put n (replicate (len - n) 0) all) → get_or (put n (replicate (len - n) 0) all) k 0 ≡ get_or (exactly (length all) t) k 0
    each k less =
        by k (omega (arith, less, length-put n (replicate (len - n) 0) all (omega (arith, filled, fits, within)))) (cases_lt k n) (cases_lt k (n + (len - n)))
