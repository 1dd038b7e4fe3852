-- One field among the words of an object: it is read as it is, and a write changes it and nothing else.
use Rattle.std.proofs.Common.{◌≡◌, ℕ, zero, suc, ◌+◌, ◌-◌, ◌*◌, ◌<◌, ◌≤◌, List, [], ◌∷◌, ◌++◌, length, take, drop, slice_index, Some, refl, sym, ap, ◌∙◌, arith}
use Rattle.std.specs.Prelude.{slice_get, slice_set, unwrap_or}
use Rattle.std.proofs.lemmas.List.{length-set}
use Rattle.wb_heap_model.specs.declared.heap.Ptr.{Ptr}
use Rattle.wb_heap_model.specs.Pointers.{null}
use Rattle.wb_heap_model.specs.Spelling.{pointers, fields_in}
use Rattle.wb_heap_model.specs.ObjectCells.{pointer_words, object_words, IsObject}
use Rattle.wb_heap_model.proofs.TextCells.{exactly-longer, zeros}
use Rattle.wb_objects.specs.Objects.{field_in, with_field}

-- two words, one after the other
pub pair-written : (at a b : ℕ) (ws : List ℕ) → at + 2 ≤ length ws → slice_set (slice_set ws at a) (suc at) b ≡ take at ws ++ a ∷ b ∷ drop (suc (suc at)) ws
pair-written at a b [] within = absurd (omega (arith, within))
pair-written at a b (c ∷ []) within = absurd (omega (arith, within))
pair-written zero a b (c ∷ d ∷ ws) within = refl
pair-written (suc at) a b (c ∷ d ∷ ws) within = ap (λ vs. c ∷ vs) (pair-written at a b (d ∷ ws) (omega (arith, within)))

-- a pointer is read where its words are
pointer-read : (i at : ℕ) (ws : List ℕ) → at ≡ 2 * i → at + 2 ≤ length ws →
    slice_get (pointers ws) i ≡ Some (record { place = slice_index ws at; number = slice_index ws (suc at) })
pointer-read i at [] e within = absurd (omega (arith, within))
pointer-read i at (a ∷ []) e within = absurd (omega (arith, within))
pointer-read zero zero (a ∷ b ∷ ws) e within = refl
pointer-read zero (suc at) (a ∷ b ∷ ws) e within = absurd (omega (arith, e))
pointer-read (suc i) zero (a ∷ b ∷ ws) e within = absurd (omega (arith, e))
pointer-read (suc i) (suc zero) (a ∷ b ∷ ws) e within = absurd (omega (arith, e))
pointer-read (suc i) (suc (suc at)) (a ∷ b ∷ ws) e within = pointer-read i at ws (omega (arith, e)) (omega (arith, within))

-- a pointer that is written is one among the others
pointer-written : (i at : ℕ) (p : Ptr) (ws : List ℕ) → at ≡ 2 * i → at + 2 ≤ length ws →
    pointers (slice_set (slice_set ws at p.place) (suc at) p.number) ≡ slice_set (pointers ws) i p
pointer-written i at p [] e within = absurd (omega (arith, within))
pointer-written i at p (a ∷ []) e within = absurd (omega (arith, within))
pointer-written zero zero p (a ∷ b ∷ ws) e within = refl
pointer-written zero (suc at) p (a ∷ b ∷ ws) e within = absurd (omega (arith, e))
pointer-written (suc i) zero p (a ∷ b ∷ ws) e within = absurd (omega (arith, e))
pointer-written (suc i) (suc zero) p (a ∷ b ∷ ws) e within = absurd (omega (arith, e))
pointer-written (suc i) (suc (suc at)) p (a ∷ b ∷ ws) e within =
    ap (λ ps. record { place = a; number = b } ∷ ps) (pointer-written i at p ws (omega (arith, e)) (omega (arith, within)))

-- the same in the words of pointers
words-written : (fields : List Ptr) (i at : ℕ) (p : Ptr) (rest : List ℕ) → at ≡ 2 * i → i < length fields →
    slice_set (slice_set (pointer_words fields ++ rest) at p.place) (suc at) p.number ≡ pointer_words (slice_set fields i p) ++ rest
words-written [] i at p rest e within = absurd (omega (arith, within))
words-written (q ∷ qs) zero zero p rest e within = refl
words-written (q ∷ qs) zero (suc at) p rest e within = absurd (omega (arith, e))
words-written (q ∷ qs) (suc i) zero p rest e within = absurd (omega (arith, e))
words-written (q ∷ qs) (suc i) (suc zero) p rest e within = absurd (omega (arith, e))
words-written (q ∷ qs) (suc i) (suc (suc at)) p rest e within =
    ap (λ ws. q.place ∷ q.number ∷ ws) (words-written qs i at p rest (omega (arith, e)) (omega (arith, within)))

taken-set : {A : Type 0} (n : ℕ) (xs : List A) (i : ℕ) (x : A) → take n (slice_set xs i x) ≡ slice_set (take n xs) i x
taken-set zero xs i x = refl
taken-set (suc n) [] i x = refl
taken-set (suc n) (y ∷ ys) zero x = refl
taken-set (suc n) (y ∷ ys) (suc i) x = ap (λ zs. y ∷ zs) (taken-set n ys i x)

-- a field is read from its two words
pub field-read : (i at : ℕ) (ws : List ℕ) → at ≡ 2 + 2 * i → at + 2 ≤ length ws →
    field_in i ws ≡ record { place = slice_index ws at; number = slice_index ws (suc at) }
field-read i at [] e within = absurd (omega (arith, within))
field-read i at (a ∷ []) e within = absurd (omega (arith, within))
field-read i zero (a ∷ b ∷ ws) e within = absurd (omega (arith, e))
field-read i (suc zero) (a ∷ b ∷ ws) e within = absurd (omega (arith, e))
field-read i (suc (suc at)) (a ∷ b ∷ ws) e within =
    ap (λ o. unwrap_or o null) (pointer-read i at ws (omega (arith, e)) (omega (arith, within)))

-- it is among the fields, however many they are
taken-get : {A : Type 0} (n i : ℕ) (xs : List A) → i < n → slice_get (take n xs) i ≡ slice_get xs i
taken-get zero i xs lt = absurd (omega (arith, lt))
taken-get (suc n) i [] lt = refl
taken-get (suc n) zero (x ∷ xs) lt = refl
taken-get (suc n) (suc i) (x ∷ xs) lt = taken-get n i xs (omega (arith, lt))

pub field-among : (count i : ℕ) (ws : List ℕ) → i < count → 4 + 2 * i ≤ length ws → slice_get (fields_in count ws) i ≡ Some (field_in i ws)
field-among count i [] lt within = absurd (omega (arith, within))
field-among count i (a ∷ []) lt within = absurd (omega (arith, within))
field-among count i (a ∷ b ∷ ws) lt within =
    let there = pointer-read i (2 * i) ws refl (omega (arith, within)) in
    taken-get count i (pointers ws) lt ∙ there ∙ ap (λ o. Some (unwrap_or o null)) (sym there)

-- and written to its words
pub field-written : (i at : ℕ) (p : Ptr) (ws : List ℕ) → at ≡ 2 + 2 * i → at + 2 ≤ length ws →
    slice_set (slice_set ws at p.place) (suc at) p.number ≡ with_field i p ws
field-written i at p ws e within =
    let following : suc (suc at) ≡ 4 + 2 * i = omega (arith, e) in
    pair-written at p.place p.number ws within ∙ ap (λ n. take n ws ++ p.place ∷ p.number ∷ drop (suc (suc at)) ws) e
    ∙ ap (λ n. take (2 + 2 * i) ws ++ p.place ∷ p.number ∷ drop n ws) following

-- the fields are then those from before but for this one, however many they are
pub fields-written : (count i : ℕ) (p : Ptr) (ws : List ℕ) → 4 + 2 * i ≤ length ws → fields_in count (with_field i p ws) ≡ slice_set (fields_in count ws) i p
fields-written count i p [] within = absurd (omega (arith, within))
fields-written count i p (a ∷ []) within = absurd (omega (arith, within))
fields-written count i p (a ∷ b ∷ ws) within =
    let at : ℕ = suc (suc (2 * i)) in
    let written : slice_set (slice_set (a ∷ b ∷ ws) at p.place) (suc at) p.number ≡ with_field i p (a ∷ b ∷ ws) =
    field-written i at p (a ∷ b ∷ ws) (omega arith) (omega (arith, within)) in
    ap (fields_in count) (sym written) ∙ ap (take count) (pointer-written i (2 * i) p ws refl (omega (arith, within))) ∙ taken-set count (pointers ws) i p

length-with_field : (i : ℕ) (p : Ptr) (ws : List ℕ) → 4 + 2 * i ≤ length ws → length (with_field i p ws) ≡ length ws
length-with_field i p ws within =
    let at : ℕ = 2 + 2 * i in
    ap length (sym (field-written i at p ws refl (omega (arith, within))))
    ∙ length-set (slice_set ws at p.place) (suc at) p.number ∙ length-set ws at p.place

length-pointer_words : (ps : List Ptr) → length (pointer_words ps) ≡ 2 * length ps
length-pointer_words [] = refl
length-pointer_words (p ∷ ps) = omega (arith, length-pointer_words ps)

-- the words of an object, with nothing cut
pub object-filled : (n class : ℕ) (fields : List Ptr) → 2 + 2 * length fields ≤ n → object_words n class fields ≡ class ∷ 0 ∷ (pointer_words fields ++ zeros (n - (2 + 2 * length fields)))
object-filled n class fields fits =
    let long : length (class ∷ 0 ∷ pointer_words fields) ≡ 2 + 2 * length fields = omega (arith, length-pointer_words fields) in
    exactly-longer n (class ∷ 0 ∷ pointer_words fields) (omega (arith, long, fits)) ∙ ap (λ m. class ∷ 0 ∷ (pointer_words fields ++ zeros (n - m))) long

-- an object with another pointer in a field is an object
pub object-written : (class i : ℕ) (p : Ptr) (ws : List ℕ) (fields : List Ptr) → i < length fields → IsObject class ws fields → IsObject class (with_field i p ws) (slice_set fields i p)
object-written class i p ws fields within is =
    let n = length ws in
    let rest = zeros (n - (2 + 2 * length fields)) in
    let at : ℕ = suc (suc (2 * i)) in
    let room : 4 + 2 * i ≤ length ws = omega (arith, within, is.fits) in
    let same : length (slice_set fields i p) ≡ length fields = length-set fields i p in
    let long : length (with_field i p ws) ≡ n = length-with_field i p ws room in
    let filled : ws ≡ class ∷ 0 ∷ (pointer_words fields ++ rest) = is.words ∙ object-filled n class fields is.fits in
    let written : with_field i p ws ≡ class ∷ 0 ∷ (pointer_words (slice_set fields i p) ++ rest) =
    sym (field-written i at p ws (omega arith) (omega (arith, room))) ∙ ap (λ vs. slice_set (slice_set vs at p.place) (suc at) p.number) filled
    ∙ ap (λ vs. class ∷ 0 ∷ vs) (words-written fields i (2 * i) p rest refl within) in
    record {
      words = written ∙ ap (λ m. class ∷ 0 ∷ (pointer_words (slice_set fields i p) ++ zeros (n - (2 + 2 * m)))) (sym same)
          ∙ sym (object-filled n class (slice_set fields i p) (omega (arith, same, is.fits))) ∙ ap (λ m. object_words m class (slice_set fields i p)) (sym long);
      fits = omega (arith, same, long, is.fits);
    }
