-- Slots among words: what is written into one and read from it, and the words of items with one more or some fewer.
use Rattle.std.proofs.Common.{◌≡◌, ℕ, zero, suc, ◌+◌, ◌*◌, ◌≤◌, List, [], ◌∷◌, ◌++◌, length, take, drop, slice_index, slice_set, slice_get, Some, refl, sym, ap, ◌∙◌, arith, append_assoc, length-append}
use Rattle.std.proofs.Math.Seq.{take-append-add}
use Rattle.std.proofs.lemmas.List.{length-take-le, length-drop, take-take, take_at, drop-drop, drop-take, drop_at}
use Rattle.std.proofs.Math.Numerals.{unary_clauses}
use Rattle.wb_heap_model.specs.declared.heap.Ptr.{Ptr}
use Rattle.wb_heap_model.specs.declared.heap.Item.{Item}
use Rattle.wb_heap_model.specs.declared.heap.Item.TheVariants.{Free, Delete, Call}
use Rattle.wb_heap_model.specs.CleanupCells.{slot_words, items_words}
use Rattle.wb_cleanup.specs.Slots.{with_words, words_of_slot}

-- four words that are written one after another
pub set-four : (ws : List ℕ) (i a b c d : ℕ) → i + 4 ≤ length ws →
    slice_set (slice_set (slice_set (slice_set ws i a) (i + 1) b) (i + 2) c) (i + 3) d ≡ with_words i (a ∷ b ∷ c ∷ d ∷ []) ws
set-four [] i a b c d le = absurd (omega (arith, le))
set-four (w ∷ ws) (suc i) a b c d le =
    let rest = simp unary_clauses at (set-four ws i a b c d (omega (arith, le))) in
    simp unary_clauses (ap (λ vs. w ∷ vs) rest)
set-four (w ∷ x ∷ y ∷ z ∷ ws) zero a b c d le = refl
set-four (w ∷ x ∷ y ∷ []) zero a b c d le = absurd (omega (arith, le))
set-four (w ∷ x ∷ []) zero a b c d le = absurd (omega (arith, le))
set-four (w ∷ []) zero a b c d le = absurd (omega (arith, le))

-- four words that are read
pub read-four : (ws : List ℕ) (i : ℕ) → i + 4 ≤ length ws →
    take 4 (drop i ws) ≡ slice_index ws i ∷ slice_index ws (i + 1) ∷ slice_index ws (i + 2) ∷ slice_index ws (i + 3) ∷ []
read-four [] i le = absurd (omega (arith, le))
read-four (w ∷ ws) (suc i) le =
    let rest = simp unary_clauses at (read-four ws i (omega (arith, le))) in
    simp unary_clauses rest
read-four (w ∷ x ∷ y ∷ z ∷ ws) zero le = refl
read-four (w ∷ x ∷ y ∷ []) zero le = absurd (omega (arith, le))
read-four (w ∷ x ∷ []) zero le = absurd (omega (arith, le))
read-four (w ∷ []) zero le = absurd (omega (arith, le))

pub length-slot_words : (item : Item) → length (slot_words item) ≡ 4
length-slot_words (Free p) = refl
length-slot_words (Delete p) = refl
length-slot_words (Call p operation) = refl

same-pointer : (p q : Ptr) → p.place ≡ q.place → p.number ≡ q.number → p ≡ q
same-pointer p q place number = ap (λ n. record { place = n; number = p.number }) place ∙ ap (λ n. record { place = q.place; number = n }) number

-- no two items have the same words
pub same-item : (a b : Item) → slot_words a ≡ slot_words b → a ≡ b
same-item (Free p) (Free q) e = ap Free (same-pointer p q (ap (λ ws. slice_index ws 1) e) (ap (λ ws. slice_index ws 2) e))
same-item (Delete p) (Delete q) e = ap Delete (same-pointer p q (ap (λ ws. slice_index ws 1) e) (ap (λ ws. slice_index ws 2) e))
same-item (Call p m) (Call q n) e =
    ap (λ r. Call r m) (same-pointer p q (ap (λ ws. slice_index ws 1) e) (ap (λ ws. slice_index ws 2) e)) ∙ ap (Call q) (ap (λ ws. slice_index ws 3) e)
same-item (Free p) (Delete q) e = absurd (omega (arith, ap (λ ws. slice_index ws 0) e))
same-item (Free p) (Call q n) e = absurd (omega (arith, ap (λ ws. slice_index ws 0) e))
same-item (Delete p) (Free q) e = absurd (omega (arith, ap (λ ws. slice_index ws 0) e))
same-item (Delete p) (Call q n) e = absurd (omega (arith, ap (λ ws. slice_index ws 0) e))
same-item (Call p m) (Free q) e = absurd (omega (arith, ap (λ ws. slice_index ws 0) e))
same-item (Call p m) (Delete q) e = absurd (omega (arith, ap (λ ws. slice_index ws 0) e))

pub length-items_words : (items : List Item) → length (items_words items) ≡ 4 * length items
length-items_words [] = refl
length-items_words (item ∷ items) =
    omega (arith, length-append (slot_words item) (items_words items), length-slot_words item, length-items_words items)

-- one item more
pub words-more : (items : List Item) (item : Item) → items_words (items ++ item ∷ []) ≡ items_words items ++ slot_words item
words-more [] (Free p) = refl
words-more [] (Delete p) = refl
words-more [] (Call p operation) = refl
words-more (first ∷ items) item =
    ap (λ ws. slot_words first ++ ws) (words-more items item) ∙ sym (append_assoc (slot_words first) (items_words items) (slot_words item))

-- the words of items in front of others are those of the first one, and then the rest's
split-take : (item : Item) (n : ℕ) (ws rest : List ℕ) → take (4 * suc n) ws ≡ slot_words item ++ rest → take 4 ws ≡ slot_words item × (take (4 * n) (drop 4 ws) ≡ rest)
split-take item n ws rest e =
    let four : 4 * suc n ≡ 4 + 4 * n = omega arith in
    let whole : take (4 + 4 * n) ws ≡ slot_words item ++ rest = ap (λ m. take m ws) (sym four) ∙ e in (
      sym (take-take 4 (4 + 4 * n) ws (omega arith)) ∙ ap (take 4) whole ∙ take_at (slot_words item) rest 4 (length-slot_words item),
      sym (drop-take 4 (4 * n) ws) ∙ ap (drop 4) whole ∙ drop_at (slot_words item) rest 4 (length-slot_words item),
    )

-- the slot of each item spells it
pub slot-spells : (items : List Item) (k : ℕ) (item : Item) (ws : List ℕ) → take (4 * length items) ws ≡ items_words items → slice_get items k ≡ Some item →
    words_of_slot k ws ≡ slot_words item
slot-spells [] k item ws e found = cc
slot-spells (first ∷ items) zero item ws e found =
    let same : first ≡ item = cc in
    (split-take first (length items) ws (items_words items) e).0 ∙ ap slot_words same
slot-spells (first ∷ items) (suc k) item ws e found =
    let four : 4 * suc k ≡ 4 + 4 * k = omega arith in
    ap (λ m. take 4 (drop m ws)) four ∙ ap (take 4) (sym (drop-drop (4 * k) 4 ws))
    ∙ slot-spells items k item (drop 4 ws) (split-take first (length items) ws (items_words items) e).1 found

-- the words of the first items
words-first : (items : List Item) (m : ℕ) → m ≤ length items → take (4 * m) (items_words items) ≡ items_words (take m items)
words-first items zero le = refl
words-first [] (suc m) le = absurd (omega (arith, le))
words-first (item ∷ items) (suc m) le =
    let four : 4 * suc m ≡ 4 + 4 * m = omega arith in
    let front : 4 ≡ length (slot_words item) = sym (length-slot_words item) in
    ap (λ n. take n (slot_words item ++ items_words items)) (four ∙ ap (λ n. n + 4 * m) front)
    ∙ take-append-add (slot_words item) (items_words items) (4 * m)
    ∙ ap (λ ws. slot_words item ++ ws) (words-first items m (omega (arith, le)))

pub words-fewer : (items : List Item) (m : ℕ) (ws : List ℕ) → m ≤ length items → take (4 * length items) ws ≡ items_words items → take (4 * m) ws ≡ items_words (take m items)
words-fewer items m ws le e =
    sym (take-take (4 * m) (4 * length items) ws (omega (arith, le))) ∙ ap (take (4 * m)) e ∙ words-first items m le

-- an item that was written after others
pub words-put : (items : List Item) (item : Item) (ws : List ℕ) → 4 * (length items + 1) ≤ length ws → take (4 * length items) ws ≡ items_words items →
    take (4 * (length items + 1)) (with_words (4 * length items) (slot_words item) ws) ≡ items_words (items ++ item ∷ [])
words-put items item ws fits e =
    let n = 4 * length items in
    let new = slot_words item in
    let following = drop (n + length new) ws in
    let front : length (take n ws) ≡ n = length-take-le n ws (omega (arith, fits)) in
    let counted : length (take n ws ++ new) ≡ 4 * (length items + 1) = omega (arith, length-append (take n ws) new, front, length-slot_words item) in
    take_at (take n ws ++ new) following (4 * (length items + 1)) counted
    ∙ ap (λ vs. vs ++ new) e ∙ sym (words-more items item)

pub length-with_words : (at : ℕ) (new ws : List ℕ) → at + length new ≤ length ws → length (with_words at new ws) ≡ length ws
length-with_words at new ws le =
    omega (
      arith,
      length-append (take at ws ++ new) (drop (at + length new) ws),
      length-append (take at ws) new,
      length-take-le at ws (omega (arith, le)),
      length-drop (at + length new) ws,
    )
