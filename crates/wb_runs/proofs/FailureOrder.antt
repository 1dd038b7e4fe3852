-- The order of failures: what of two such as one sweep tries comes before what, and what follows of a third.
use Rattle.std.proofs.Common.{◌≡◌, ℕ, ◌<◌, ◌⊎◌, inl, inr, arith, nat_lt, true, false, refl, sym, ◌∙◌, ap}
use Rattle.std.proofs.lemmas.Bool.{cases_order, false_from_ne_true, false≢true, le-ltb, lt-ltb, ltb-false, ltb-true, true≢false}
use Rattle.wb_runs.specs.declared.failures.Failing.{Failing}
use Rattle.wb_runs.specs.declared.failures.Failing.TheVariants.{Number, Every, Pair, From}
use Rattle.wb_runs.specs.declared.failures.Failures.{Failures}
use Rattle.wb_runs.specs.declared.failures.Failures.TheVariants as kinds
use Rattle.wb_runs.specs.declared.part.Part.{Part}
use Rattle.wb_runs.specs.Pairs.{ComesBefore}
use Rattle.wb_runs.specs.Parts.{comes_before, IsTried}
use Rattle.wb_runs.proofs.PartAnswers.{before_pair, pair_before}

-- both are rates, or the first numbers of failures that persist, or each is a number or a pair
abbrev pub AreAlike : Failing → Failing → Type 0
AreAlike (Every m) (Every n) = Unit {0}
AreAlike (From m) (From n) = Unit {0}
AreAlike (Number m) (Number n) = Unit {0}
AreAlike (Number m) (Pair i j) = Unit {0}
AreAlike (Pair a b) (Number n) = Unit {0}
AreAlike (Pair a b) (Pair i j) = Unit {0}
AreAlike _ _ = ⊥

pub tried-alike : (failures : Failures) (part next : Part) (last : ℕ) (at other : Failing) → IsTried failures part last at → IsTried failures next last other →
    AreAlike at other
tried-alike kinds.Single part next last (Number m) (Number n) is too = tt
tried-alike kinds.Single part next last (Number m) other is too = absurd too
tried-alike kinds.Single part next last at other is too = absurd is
tried-alike kinds.Every part next last (Every m) (Every n) is too = tt
tried-alike kinds.Every part next last (Every m) other is too = absurd too
tried-alike kinds.Every part next last at other is too = absurd is
tried-alike kinds.Pairs part next last (Number m) (Number n) is too = tt
tried-alike kinds.Pairs part next last (Number m) (Pair i j) is too = tt
tried-alike kinds.Pairs part next last (Number m) other is too = absurd too
tried-alike kinds.Pairs part next last (Pair a b) (Number n) is too = tt
tried-alike kinds.Pairs part next last (Pair a b) (Pair i j) is too = tt
tried-alike kinds.Pairs part next last (Pair a b) other is too = absurd too
tried-alike kinds.Pairs part next last at other is too = absurd is
tried-alike kinds.Persistent part next last (From m) (From n) is too = tt
tried-alike kinds.Persistent part next last (From m) other is too = absurd too
tried-alike kinds.Persistent part next last at other is too = absurd is

-- ---- numbers and pairs

-- of three pairs the first comes before the second, and the third doesn't
pair_through : (a b i j k l : ℕ) → ComesBefore a b i j → (ComesBefore k l i j → ⊥) → ComesBefore a b k l
pair_through a b i j k l before isnt = by before (cases_order a k) (cases_order b l) (cases_order i k) (cases_order j l)
  where
    by : ComesBefore a b i j → (a ≡ k) ⊎ ((a < k) ⊎ (k < a)) → (b ≡ l) ⊎ ((b < l) ⊎ (l < b)) → (i ≡ k) ⊎ ((i < k) ⊎ (k < i)) → (j ≡ l) ⊎ ((j < l) ⊎ (l < j)) →
        ComesBefore a b k l
    by before first second (inr (inr less)) fourth = absurd (isnt (inl less))
    by (inl less) first second (inl e) fourth = inl (omega (arith, less, e))
    by (inl less) first second (inr (inl more)) fourth = inl (omega (arith, less, more))
    by (inr is) first second (inr (inl more)) fourth = inl (omega (arith, is.0, more))
    by (inr is) first second (inl e) (inr (inr less)) = absurd (isnt (inr (sym e, less)))
    by (inr is) first second (inl e) (inl f) = inr (omega (arith, is.0, e), omega (arith, is.1, f))
    by (inr is) first second (inl e) (inr (inl more)) = inr (omega (arith, is.0, e), omega (arith, is.1, more))

pair_after : (a b i j : ℕ) → ComesBefore a b i j → ComesBefore i j a b → ⊥
pair_after a b i j (inl less) (inl more) = omega (arith, less, more)
pair_after a b i j (inl less) (inr is) = omega (arith, less, is.0)
pair_after a b i j (inr is) (inl more) = omega (arith, is.0, more)
pair_after a b i j (inr is) (inr too) = omega (arith, is.1, too.1)

number_through : (a b c : ℕ) → comes_before (Number a) (Number b) ≡ true → comes_before (Number c) (Number b) ≡ false → comes_before (Number a) (Number c) ≡ true
number_through a b c e f = let less = ltb-true a b e in let most = ltb-false c b f in lt-ltb a c (omega (arith, less, most))

-- ---- failures

-- what comes before a failure comes before one that doesn't
pub through : (at middle other : Failing) → AreAlike at other → comes_before at middle ≡ true → comes_before other middle ≡ false → comes_before at other ≡ true
through (Number a) (Number b) (Number c) alike e f = number_through a b c e f
through (Number a) (Pair i j) (Number c) alike e f = absurd (true≢false f)
through (Number a) middle (Number c) alike e f = absurd (false≢true e)
through (Number a) middle (Pair k l) alike e f = refl
through (Every a) (Every b) (Every c) alike e f = number_through a b c e f
through (Every a) middle (Every c) alike e f = absurd (false≢true e)
through (From a) (From b) (From c) alike e f = number_through a b c e f
through (From a) middle (From c) alike e f = absurd (false≢true e)
through (Pair a b) (Pair i j) (Pair k l) alike e f =
    pair_before a b k l (pair_through a b i j k l (before_pair a b i j e) (λ before. false≢true (sym f ∙ pair_before k l i j before)))
through (Pair a b) (Pair i j) (Number c) alike e f = absurd (true≢false f)
through (Pair a b) middle (Pair k l) alike e f = absurd (false≢true e)
through (Pair a b) middle (Number c) alike e f = absurd (false≢true e)
through at middle other alike e f = absurd alike

-- of two one at most comes before the other
pub not-after : (at other : Failing) → comes_before at other ≡ true → comes_before other at ≡ false
not-after (Number m) (Number n) e = let less = ltb-true m n e in le-ltb n m (omega (arith, less))
not-after (Every m) (Every n) e = let less = ltb-true m n e in le-ltb n m (omega (arith, less))
not-after (From m) (From n) e = let less = ltb-true m n e in le-ltb n m (omega (arith, less))
not-after (Number m) (Pair i j) e = refl
not-after (Pair a b) (Pair i j) e =
    false_from_ne_true (comes_before (Pair i j) (Pair a b)) (λ f. pair_after a b i j (before_pair a b i j e) (before_pair i j a b f))
not-after at other e = absurd (false≢true e)

same_number : (m n : ℕ) → nat_lt m n ≡ false → nat_lt n m ≡ false → m ≡ n
same_number m n e f = let most = ltb-false m n e in let least = ltb-false n m f in omega (arith, most, least)

same_pair : (a b i j : ℕ) → comes_before (Pair a b) (Pair i j) ≡ false → comes_before (Pair i j) (Pair a b) ≡ false → Pair a b ≡ Pair i j
same_pair a b i j e f = by (cases_order a i) (cases_order b j)
  where
    not_less : ComesBefore a b i j → ⊥
    not_less before = true≢false (sym (pair_before a b i j before) ∙ e)

    not_more : ComesBefore i j a b → ⊥
    not_more before = true≢false (sym (pair_before i j a b before) ∙ f)

    by : (a ≡ i) ⊎ ((a < i) ⊎ (i < a)) → (b ≡ j) ⊎ ((b < j) ⊎ (j < b)) → Pair a b ≡ Pair i j
    by (inr (inl less)) second = absurd (not_less (inl less))
    by (inr (inr more)) second = absurd (not_more (inl more))
    by (inl same) (inr (inl less)) = absurd (not_less (inr (same, less)))
    by (inl same) (inr (inr more)) = absurd (not_more (inr (sym same, more)))
    by (inl same) (inl too) = ap (λ n. Pair n b) same ∙ ap (Pair i) too

-- those of which neither comes before the other are the same
pub in-order : (at other : Failing) → AreAlike at other → comes_before at other ≡ false → comes_before other at ≡ false → at ≡ other
in-order (Number m) (Number n) alike e f = ap Number (same_number m n e f)
in-order (Every m) (Every n) alike e f = ap Every (same_number m n e f)
in-order (From m) (From n) alike e f = ap From (same_number m n e f)
in-order (Number m) (Pair i j) alike e f = absurd (true≢false e)
in-order (Pair a b) (Number n) alike e f = absurd (true≢false f)
in-order (Pair a b) (Pair i j) alike e f = same_pair a b i j e f
in-order at other alike e f = absurd alike

-- what comes before a failure comes before those after it
pub before-later : (at middle other : Failing) → AreAlike at other → comes_before at middle ≡ true → comes_before middle other ≡ true → comes_before at other ≡ true
before-later at middle other alike e f = through at middle other alike e (not-after middle other f)
