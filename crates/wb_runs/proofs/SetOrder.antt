-- The order of sets: what it comes to where they are compared number by number, and that it is a strict order in which any two differ.
use Rattle.std.proofs.Common.{◌≡◌, ℕ, ◌<◌, ◌⊎◌, inl, inr, arith, Bool, true, false, List, [], ◌∷◌, length, refl, sym, ◌∙◌, ap}
use Rattle.std.specs.Prelude.{◌||◌, ◌&&◌, nat_eq, nat_lt}
use Rattle.std.proofs.lemmas.Bool.{cases_order, eq-eqb, eqb-true, false_from_ne_true, lt-ltb, ltb-true, or_left, or_right, true≢false}
use Rattle.wb_runs.specs.Sets.{has_lesser_number, set_comes_before}

either : (a b c : Bool) → (a || (b && c)) ≡ true → (a ≡ true) ⊎ ((b ≡ true) × (c ≡ true))
either true b c e = inl refl
either false true c e = inr (refl, e)
either false false c e = cc

-- ---- number by number

-- the first number is the lesser, or both are the same and a later one is
pub lesser-first : (m n : ℕ) (ms ns : List ℕ) → has_lesser_number (m ∷ ms) (n ∷ ns) ≡ true → (m < n) ⊎ ((m ≡ n) × (has_lesser_number ms ns ≡ true))
lesser-first m n ms ns e = elim (either (nat_lt m n) (nat_eq m n) (has_lesser_number ms ns) e) [
  | inl lt ↦ inl (ltb-true m n lt)
  | inr both ↦ inr (eqb-true m n both.0, both.1)
]

-- no set of as few numbers is lesser
pub none-is-lesser : (other : List ℕ) → has_lesser_number other [] ≡ true → ⊥
none-is-lesser [] e = cc
none-is-lesser (m ∷ ms) e = cc

pub lesser-by-first : (m n : ℕ) (ms ns : List ℕ) → m < n → has_lesser_number (m ∷ ms) (n ∷ ns) ≡ true
lesser-by-first m n ms ns lt = or_left (nat_lt m n) (nat_eq m n && has_lesser_number ms ns) (lt-ltb m n lt)

pub lesser-by-later : (m n : ℕ) (ms ns : List ℕ) → m ≡ n → has_lesser_number ms ns ≡ true → has_lesser_number (m ∷ ms) (n ∷ ns) ≡ true
lesser-by-later m n ms ns same later =
    or_right (nat_lt m n) (nat_eq m n && has_lesser_number ms ns) (ap (λ t. t && has_lesser_number ms ns) (eq-eqb m n same) ∙ later)

lesser-on : (a b c : List ℕ) → has_lesser_number a b ≡ true → has_lesser_number b c ≡ true → has_lesser_number a c ≡ true
lesser-on [] b c e f = cc
lesser-on (l ∷ ls) [] c e f = cc
lesser-on (l ∷ ls) (m ∷ ms) [] e f = cc
lesser-on (l ∷ ls) (m ∷ ms) (n ∷ ns) e f = by (lesser-first l m ls ms e) (lesser-first m n ms ns f) (lesser-on ls ms ns)
  where
    by : (l < m) ⊎ ((l ≡ m) × (has_lesser_number ls ms ≡ true)) → (m < n) ⊎ ((m ≡ n) × (has_lesser_number ms ns ≡ true)) →
        (has_lesser_number ls ms ≡ true → has_lesser_number ms ns ≡ true → has_lesser_number ls ns ≡ true) → has_lesser_number (l ∷ ls) (n ∷ ns) ≡ true
    by (inl lt) (inl more) rest = lesser-by-first l n ls ns (omega (arith, lt, more))
    by (inl lt) (inr is) rest = lesser-by-first l n ls ns (omega (arith, lt, is.0))
    by (inr is) (inl more) rest = lesser-by-first l n ls ns (omega (arith, is.0, more))
    by (inr is) (inr too) rest = lesser-by-later l n ls ns (is.0 ∙ too.0) (rest is.1 too.1)

lesser-itself : (a : List ℕ) → has_lesser_number a a ≡ true → ⊥
lesser-itself [] e = cc
lesser-itself (m ∷ ms) e = by (lesser-first m m ms ms e) (lesser-itself ms)
  where
    by : (m < m) ⊎ ((m ≡ m) × (has_lesser_number ms ms ≡ true)) → (has_lesser_number ms ms ≡ true → ⊥) → ⊥
    by (inl lt) rest = omega (arith, lt)
    by (inr is) rest = rest is.1

-- of two that have as many numbers, and neither of which has a lesser one, each is the other
neither-lesser : (a b : List ℕ) → length a ≡ length b → (has_lesser_number a b ≡ true → ⊥) → (has_lesser_number b a ≡ true → ⊥) → a ≡ b
neither-lesser [] [] e f g = refl
neither-lesser [] (n ∷ ns) e f g = absurd (omega (arith, e))
neither-lesser (m ∷ ms) [] e f g = absurd (omega (arith, e))
neither-lesser (m ∷ ms) (n ∷ ns) e f g = by (cases_order m n) (neither-lesser ms ns (omega (arith, e)))
  where
    by : (m ≡ n) ⊎ ((m < n) ⊎ (n < m)) → ((has_lesser_number ms ns ≡ true → ⊥) → (has_lesser_number ns ms ≡ true → ⊥) → ms ≡ ns) → (m ∷ ms) ≡ (n ∷ ns)
    by (inr (inl lt)) rest = absurd (f (lesser-by-first m n ms ns lt))
    by (inr (inr gt)) rest = absurd (g (lesser-by-first n m ns ms gt))
    by (inl same) rest =
        ap (λ k. k ∷ ms) same
        ∙ ap (λ ks. n ∷ ks) (rest (λ less. f (lesser-by-later m n ms ns same less)) (λ more. g (lesser-by-later n m ns ms (sym same) more)))

-- ---- sets

-- one of two sets has fewer numbers, or both have as many and a number of it is the lesser
pub before-by : (other numbers : List ℕ) → set_comes_before other numbers ≡ true →
    (length other < length numbers) ⊎ ((length other ≡ length numbers) × (has_lesser_number other numbers ≡ true))
before-by other numbers e = elim (either (nat_lt (length other) (length numbers)) (nat_eq (length other) (length numbers)) (has_lesser_number other numbers) e) [
  | inl lt ↦ inl (ltb-true (length other) (length numbers) lt)
  | inr both ↦ inr (eqb-true (length other) (length numbers) both.0, both.1)
]

pub fewer-before : (other numbers : List ℕ) → length other < length numbers → set_comes_before other numbers ≡ true
fewer-before other numbers lt =
    or_left (nat_lt (length other) (length numbers)) (nat_eq (length other) (length numbers) && has_lesser_number other numbers)
    (lt-ltb (length other) (length numbers) lt)

pub lesser-before : (other numbers : List ℕ) → length other ≡ length numbers → has_lesser_number other numbers ≡ true → set_comes_before other numbers ≡ true
lesser-before other numbers same lesser =
    or_right (nat_lt (length other) (length numbers)) (nat_eq (length other) (length numbers) && has_lesser_number other numbers)
    (ap (λ t. t && has_lesser_number other numbers) (eq-eqb (length other) (length numbers) same) ∙ lesser)

pub set-before-later : (a b c : List ℕ) → set_comes_before a b ≡ true → set_comes_before b c ≡ true → set_comes_before a c ≡ true
set-before-later a b c e f = by (before-by a b e) (before-by b c f)
  where
    by : (length a < length b) ⊎ ((length a ≡ length b) × (has_lesser_number a b ≡ true)) →
        (length b < length c) ⊎ ((length b ≡ length c) × (has_lesser_number b c ≡ true)) → set_comes_before a c ≡ true
    by (inl lt) (inl more) = fewer-before a c (omega (arith, lt, more))
    by (inl lt) (inr is) = fewer-before a c (omega (arith, lt, is.0))
    by (inr is) (inl more) = fewer-before a c (omega (arith, is.0, more))
    by (inr is) (inr too) = lesser-before a c (is.0 ∙ too.0) (lesser-on a b c is.1 too.1)

pub before-itself : (a : List ℕ) → set_comes_before a a ≡ true → ⊥
before-itself a e = by (before-by a a e)
  where
    by : (length a < length a) ⊎ ((length a ≡ length a) × (has_lesser_number a a ≡ true)) → ⊥
    by (inl lt) = omega (arith, lt)
    by (inr is) = lesser-itself a is.1

-- of two one at most comes before the other
pub set-not-after : (a b : List ℕ) → set_comes_before a b ≡ true → set_comes_before b a ≡ false
set-not-after a b e = false_from_ne_true (set_comes_before b a) (λ f. before-itself a (set-before-later a b a e f))

-- those of which neither comes before the other are the same
pub set-in-order : (a b : List ℕ) → set_comes_before a b ≡ false → set_comes_before b a ≡ false → a ≡ b
set-in-order a b e f = by (cases_order (length a) (length b))
  where
    not_before : set_comes_before a b ≡ true → ⊥
    not_before is = true≢false (sym is ∙ e)

    not_after : set_comes_before b a ≡ true → ⊥
    not_after is = true≢false (sym is ∙ f)

    by : (length a ≡ length b) ⊎ ((length a < length b) ⊎ (length b < length a)) → a ≡ b
    by (inl same) = neither-lesser a b same (λ less. not_before (lesser-before a b same less)) (λ more. not_after (lesser-before b a (sym same) more))
    by (inr (inl lt)) = absurd (not_before (fewer-before a b lt))
    by (inr (inr gt)) = absurd (not_after (fewer-before b a gt))

-- what comes before a set comes before one that doesn't
pub set-through : (a middle b : List ℕ) → set_comes_before a middle ≡ true → set_comes_before b middle ≡ false → set_comes_before a b ≡ true
set-through a middle b e f = by (set_comes_before a b) refl (set_comes_before b a) refl
  where
    by : (t : Bool) → set_comes_before a b ≡ t → (u : Bool) → set_comes_before b a ≡ u → set_comes_before a b ≡ true
    by true g u h = g
    by false g true h = absurd (true≢false (sym (set-before-later b a middle h e) ∙ f))
    by false g false h =
        let same = set-in-order a b g h in absurd (true≢false (sym e ∙ ap (λ s. set_comes_before s middle) same ∙ f))
