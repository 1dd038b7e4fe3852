-- Words of texts: units are joined and parted, and a text is read from its words.
use Rattle.std.proofs.Common.{◌≡◌, ℕ, zero, suc, ◌+◌, ◌-◌, ◌*◌, ◌/◌, ◌%◌, ◌^◌, ◌<◌, ◌≤◌, List, [], ◌∷◌, ◌++◌, length, take, replicate, slice_index, refl, sym, ap, subst, ◌∙◌, arith}
use Rattle.std.proofs.lemmas.List.{length-take, length-append, length-replicate, take_all, take_at}
use Rattle.std.proofs.lemmas.List.Elements.{All-nil, All-append, All-take, All-replicate}
use Rattle.wb_heap_model.specs.CellRow.{resized_words}
use Rattle.wb_heap_model.specs.Texts.{AreUnits, exactly}
use Rattle.wb_heap_model.specs.Spelling.{halves}
use Rattle.wb_heap_model.specs.TextCells.{joined, room_in, text_words, units_after, text_in, IsText}

-- a unit has 16 bits
abbrev pub IsUnit : ℕ → Type 0
IsUnit u = u < 2 ^ 16

abbrev pub zeros : ℕ → List ℕ
zeros n = replicate n 0

pub joined-halves : (ws : List ℕ) → joined (halves ws) ≡ ws
joined-halves [] = refl
joined-halves (w ∷ ws) =
    let e : w % 2 ^ 16 + w / 2 ^ 16 * 2 ^ 16 ≡ w = omega arith in
    ap (λ v. v ∷ joined (halves ws)) e ∙ ap (λ vs. w ∷ vs) (joined-halves ws)

pub halves-joined : (us : List ℕ) → length us % 2 ≡ 0 → AreUnits us → halves (joined us) ≡ us
halves-joined [] even all = refl
halves-joined (a ∷ []) even all = absurd (omega arith)
halves-joined (a ∷ b ∷ us) even all =
    let here : IsUnit a = all 0 a (omega arith) in
    let low : (a + b * 2 ^ 16) % 2 ^ 16 ≡ a = omega arith in
    let high : (a + b * 2 ^ 16) / 2 ^ 16 ≡ b = omega arith in
    let rest = halves-joined us (omega arith) (λ k d lt. all (suc (suc k)) d (omega arith)) in
    ap (λ v. v ∷ (a + b * 2 ^ 16) / 2 ^ 16 ∷ halves (joined us)) low ∙ ap (λ v. a ∷ v ∷ halves (joined us)) high ∙ ap (λ vs. a ∷ b ∷ vs) rest

pub length-halves : (ws : List ℕ) → length (halves ws) ≡ 2 * length ws
length-halves [] = refl
length-halves (w ∷ ws) = omega (arith, length-halves ws)

pub length-joined : (us : List ℕ) → length us % 2 ≡ 0 → 2 * length (joined us) ≡ length us
length-joined [] even = refl
length-joined (a ∷ []) even = absurd (omega arith)
length-joined (a ∷ b ∷ us) even = omega (arith, length-joined us (omega arith))

pub joined-zeros : (n : ℕ) → joined (zeros (2 * n)) ≡ zeros n
joined-zeros zero = refl
joined-zeros (suc n) =
    let e : 2 * suc n ≡ suc (suc (2 * n)) = omega arith in
    ap (λ m. joined (zeros m)) e ∙ ap (λ ws. 0 ∷ ws) (joined-zeros n)

pub length-exactly : (n : ℕ) (t : List ℕ) → length (exactly n t) ≡ n
length-exactly n t =
    let filler : List ℕ = zeros (n - length t) in
    let filled : length filler ≡ n - length t = length-replicate (n - length t) 0 in
    omega (arith, length-append (take n t) filler, length-take n t)

-- a text that fits is filled up alone
pub exactly-longer : (n : ℕ) (t : List ℕ) → length t ≤ n → exactly n t ≡ t ++ zeros (n - length t)
exactly-longer n t le = ap (λ s. s ++ zeros (n - length t)) (take_all n t le)

pub take-exactly : (n : ℕ) (t : List ℕ) → length t ≤ n → take (length t) (exactly n t) ≡ t
take-exactly n t le = ap (take (length t)) (exactly-longer n t le) ∙ take_at t (zeros (n - length t)) (length t) refl

pub IsUnit-exactly : (n : ℕ) (t : List ℕ) → AreUnits t → AreUnits (exactly n t)
IsUnit-exactly n t all =
    All-append IsUnit (take n t) (zeros (n - length t)) (All-take IsUnit n t all) (All-replicate IsUnit (n - length t) 0 (omega arith))

pub room-even : (n : ℕ) → room_in n % 2 ≡ 0
room-even n = omega arith

pub IsUnit-shorter : (n : ℕ) (t : List ℕ) → length t ≤ n → AreUnits (exactly n t) → AreUnits t
IsUnit-shorter n t le all = subst AreUnits (take-exactly n t le) (All-take IsUnit (length t) (exactly n t) all)

pub halves-exactly : (n : ℕ) (t : List ℕ) → AreUnits t → halves (joined (exactly (room_in n) t)) ≡ exactly (room_in n) t
halves-exactly n t all =
    halves-joined (exactly (room_in n) t) (ap (λ m. m % 2) (length-exactly (room_in n) t) ∙ room-even n) (IsUnit-exactly (room_in n) t all)

pub length-text_words : (n : ℕ) (t : List ℕ) → 1 ≤ n → length (text_words n t) ≡ n
length-text_words n t some =
    let m = room_in n in
    let even : length (exactly m t) % 2 ≡ 0 = ap (λ k. k % 2) (length-exactly m t) ∙ room-even n in
    omega (arith, length-joined (exactly m t) even, length-exactly m t)

pub text_in-words : (n : ℕ) (t : List ℕ) → length t ≤ room_in n → AreUnits t → text_in (text_words n t) ≡ t
text_in-words n t fits all = ap (take (length t)) (halves-exactly n t all) ∙ take-exactly (room_in n) t fits

pub text-is : (n : ℕ) (t : List ℕ) → 1 ≤ n → length t ≤ room_in n → AreUnits t → IsText (text_words n t) t
text-is n t some fits all =
    let same = length-text_words n t some in
    record {
      words = ap (λ m. text_words m t) (sym same);
      fits = omega (arith, same, fits);
      units = all;
    }

-- what is known of the words of a text
pub record IsRead (ws t : List ℕ) : Type 0 where
  pub some : 1 ≤ length ws
  pub length-is : slice_index ws 0 ≡ length t
  pub text : text_in ws ≡ t
  pub following : units_after ws ≡ exactly (room_in (length ws)) t

pub text-read : (ws t : List ℕ) → IsText ws t → IsRead ws t
text-read ws t is = record {
  some = omega (arith, ap length is.words);
  length-is = ap (λ vs. slice_index vs 0) is.words;
  text = ap text_in is.words ∙ text_in-words (length ws) t is.fits is.units;
  following = ap units_after is.words ∙ halves-exactly (length ws) t is.units;
}

-- a new cell reads as the empty text
pub zeros-text : (n : ℕ) → 1 ≤ n → IsText (zeros n) []
zeros-text n some =
    let e : n ≡ suc (n - 1) = omega arith in
    let left : room_in n - 0 ≡ 2 * (n - 1) = omega arith in
    let same : text_words n [] ≡ zeros n =
    ap (λ us. 0 ∷ joined us) (exactly-longer (room_in n) [] (omega arith)) ∙ ap (λ m. 0 ∷ joined (zeros m)) left
    ∙ ap (λ ws. 0 ∷ ws) (joined-zeros (n - 1)) ∙ ap zeros (sym e) in
    subst (λ ws. IsText ws []) same (text-is n [] some (omega arith) (All-nil IsUnit))

-- words cut or filled up with zeros
resized-zeros : (n k : ℕ) → take k (zeros n) ++ zeros (k - n) ≡ zeros k
resized-zeros n zero = let e : 0 - n ≡ 0 = omega arith in ap zeros e
resized-zeros zero (suc k) = let e : suc k - 0 ≡ suc k = omega arith in ap zeros e
resized-zeros (suc n) (suc k) =
    let e : suc k - suc n ≡ k - n = omega arith in
    ap (λ m. 0 ∷ (take k (zeros n) ++ zeros m)) e ∙ ap (λ ws. 0 ∷ ws) (resized-zeros n k)

resized-joined : (t : List ℕ) (a b n k : ℕ) → length t + a ≡ 2 * n → length t + b ≡ 2 * k →
    take k (joined (t ++ zeros a)) ++ zeros (k - n) ≡ joined (t ++ zeros b)
resized-joined [] a b n k old new =
    let from : a ≡ 2 * n = omega (arith, old) in
    let to : b ≡ 2 * k = omega (arith, new) in
    ap (λ m. take k (joined (zeros m)) ++ zeros (k - n)) from ∙ ap (λ ws. take k ws ++ zeros (k - n)) (joined-zeros n)
    ∙ resized-zeros n k ∙ sym (joined-zeros k) ∙ ap (λ m. joined (zeros m)) (sym to)
resized-joined (x ∷ []) zero b n k old new = absurd (omega (arith, old))
resized-joined (x ∷ []) (suc a) zero n k old new = absurd (omega (arith, new))
resized-joined (x ∷ []) (suc a) (suc b) zero k old new = absurd (omega (arith, old))
resized-joined (x ∷ []) (suc a) (suc b) (suc n) zero old new = absurd (omega (arith, new))
resized-joined (x ∷ []) (suc a) (suc b) (suc n) (suc k) old new =
    let e : suc k - suc n ≡ k - n = omega arith in
    ap (λ m. (x + 0) ∷ (take k (joined (zeros a)) ++ zeros m)) e
    ∙ ap (λ ws. (x + 0) ∷ ws) (resized-joined [] a b n k (omega (arith, old)) (omega (arith, new)))
resized-joined (x ∷ y ∷ t) a b zero k old new = absurd (omega (arith, old))
resized-joined (x ∷ y ∷ t) a b (suc n) zero old new = absurd (omega (arith, new))
resized-joined (x ∷ y ∷ t) a b (suc n) (suc k) old new =
    let e : suc k - suc n ≡ k - n = omega arith in
    ap (λ m. (x + y * 2 ^ 16) ∷ (take k (joined (t ++ zeros a)) ++ zeros m)) e
    ∙ ap (λ ws. (x + y * 2 ^ 16) ∷ ws) (resized-joined t a b n k (omega (arith, old)) (omega (arith, new)))

-- a cell of another length holds the same text
pub resized-text : (to : ℕ) (ws t : List ℕ) → IsText ws t → 1 ≤ to / 4 - 4 → length t ≤ room_in (to / 4 - 4) →
    IsText (resized_words to ws) t
resized-text to ws t is some fits =
    let k = to / 4 - 4 in
    let n = length ws in
    let read = text-read ws t is in
    let less : k - n ≡ (k - 1) - (n - 1) = omega (arith, read.some, some) in
    let here : k ≡ suc (k - 1) = omega (arith, some) in
    let old : length t + (room_in n - length t) ≡ 2 * (n - 1) = omega (arith, is.fits) in
    let new : length t + (room_in k - length t) ≡ 2 * (k - 1) = omega (arith, fits) in
    let cut : take k (text_words n t) ++ zeros (k - n) ≡ text_words k t =
    ap (λ m. take m (text_words n t) ++ zeros (k - n)) here
    ∙ ap (λ m. length t ∷ (take (k - 1) (joined (exactly (room_in n) t)) ++ zeros m)) less
    ∙ ap (λ us. length t ∷ (take (k - 1) (joined us) ++ zeros ((k - 1) - (n - 1)))) (exactly-longer (room_in n) t is.fits)
    ∙ ap (λ vs. length t ∷ vs) (resized-joined t (room_in n - length t) (room_in k - length t) (n - 1) (k - 1) old new)
    ∙ ap (λ us. length t ∷ joined us) (sym (exactly-longer (room_in k) t fits)) in
    subst (λ vs. IsText vs t) (sym (ap (λ vs. take k vs ++ zeros (k - n)) is.words ∙ cut)) (text-is k t some fits is.units)
