-- What comes no later than a set and an attempt comes no later with the same further numbers, and is within each bound that the other is within.
use Rattle.std.proofs.Common.{◌≡◌, ℕ, ◌+◌, ◌<◌, ◌≤◌, ◌⊎◌, inl, inr, arith, true, List, [], ◌∷◌, ◌++◌, length, refl, sym, ◌∙◌, ap, subst}
use Rattle.std.proofs.lemmas.Bool.{cases_lt}
use Rattle.std.proofs.lemmas.List.{length-append, length-map}
use Rattle.wb_runs.specs.Sets.{has_lesser_number, set_comes_before}
use Rattle.wb_runs.proofs.SetOrder.{before-by, fewer-before, lesser-before, lesser-by-first, lesser-by-later, lesser-first, set-before-later}
use Rattle.wb_states.specs.declared.closed.Bound.{Bound}
use Rattle.wb_states.specs.declared.closed.Bound.TheVariants.{All, AtMost, Before}
use Rattle.wb_states.specs.Closed.{IsWithin}
use Rattle.wb_states.specs.Ground.{past, IsNoLater}

-- ---- number by number

lesser-append : (set other xs ys : List ℕ) → length set ≡ length other → has_lesser_number set other ≡ true → has_lesser_number (set ++ xs) (other ++ ys) ≡ true
lesser-append [] other xs ys same less = cc
lesser-append (m ∷ ms) [] xs ys same less = absurd (omega (arith, same))
lesser-append (m ∷ ms) (n ∷ ns) xs ys same less = by (lesser-first m n ms ns less) (lesser-append ms ns xs ys (omega (arith, same)))
  where
    by : (m < n) ⊎ ((m ≡ n) × (has_lesser_number ms ns ≡ true)) → (has_lesser_number ms ns ≡ true → has_lesser_number (ms ++ xs) (ns ++ ys) ≡ true) →
        has_lesser_number (m ∷ ms ++ xs) (n ∷ ns ++ ys) ≡ true
    by (inl lt) rest = lesser-by-first m n (ms ++ xs) (ns ++ ys) lt
    by (inr is) rest = lesser-by-later m n (ms ++ xs) (ns ++ ys) is.0 (rest is.1)

lesser-later : (set xs ys : List ℕ) → has_lesser_number xs ys ≡ true → has_lesser_number (set ++ xs) (set ++ ys) ≡ true
lesser-later [] xs ys less = less
lesser-later (m ∷ ms) xs ys less = lesser-by-later m m (ms ++ xs) (ms ++ ys) refl (lesser-later ms xs ys less)

-- ---- sets

abbrev pub IsSameOrBefore : List ℕ → List ℕ → Type 0
IsSameOrBefore set other = (set ≡ other) ⊎ (set_comes_before set other ≡ true)

whole-length : (set : List ℕ) (attempts : ℕ) (more : List ℕ) → length (set ++ past attempts more) ≡ length set + length more
whole-length set attempts more = length-append set (past attempts more) ∙ ap (λ n. length set + n) (length-map more (λ n. attempts + n))

module _ (set : List ℕ) (attempts : ℕ) (other : List ℕ) (later : ℕ) where
  -- of one set with the same further numbers, counted on from two attempts
  counted-on : set ≡ other → attempts < later → (more : List ℕ) → IsSameOrBefore (set ++ past attempts more) (other ++ past later more)
  counted-on same lt [] = inl (ap (λ s. s ++ []) same)
  counted-on same lt (n ∷ ns) = inr (subst (λ s. set_comes_before (set ++ past attempts (n ∷ ns)) (s ++ past later (n ∷ ns)) ≡ true) same before)
    where
      first : has_lesser_number (past attempts (n ∷ ns)) (past later (n ∷ ns)) ≡ true
      first = lesser-by-first (attempts + n) (later + n) (past attempts ns) (past later ns) (omega (arith, lt))

      before : set_comes_before (set ++ past attempts (n ∷ ns)) (set ++ past later (n ∷ ns)) ≡ true
      before =
          lesser-before (set ++ past attempts (n ∷ ns)) (set ++ past later (n ∷ ns))
          (whole-length set attempts (n ∷ ns) ∙ sym (whole-length set later (n ∷ ns)))
          (lesser-later set (past attempts (n ∷ ns)) (past later (n ∷ ns)) first)

  pub no-later : IsNoLater set attempts other later → (more : List ℕ) → IsSameOrBefore (set ++ past attempts more) (other ++ past later more)
  no-later (inl fewer) more =
      inr (fewer-before (set ++ past attempts more) (other ++ past later more) (omega (arith, fewer, whole-length set attempts more, whole-length other later more)))
  no-later (inr (same, inl less)) more =
      inr (lesser-before (set ++ past attempts more) (other ++ past later more) (omega (arith, same, whole-length set attempts more, whole-length other later more))
      (lesser-append set other (past attempts more) (past later more) same less))
  no-later (inr (same, inr (is, le))) more = by (cases_lt attempts later)
    where
      by : (attempts < later) ⊎ (later ≤ attempts) → IsSameOrBefore (set ++ past attempts more) (other ++ past later more)
      by (inl lt) = counted-on is lt more
      by (inr ge) =
          let one : attempts ≡ later = omega (arith, le, ge) in
          inl (ap (λ s. s ++ past attempts more) is ∙ ap (λ n. other ++ past n more) one)

-- ---- bounds

pub within-too : (bound : Bound) (set other : List ℕ) → IsSameOrBefore set other → IsWithin bound other → IsWithin bound set
within-too All set other (inl same) within = tt
within-too All set other (inr before) within = tt
within-too (AtMost most) set other (inl same) within = omega (arith, ap (λ s. length s) same, within)
within-too (AtMost most) set other (inr before) within = by (before-by set other before)
  where
    by : (length set < length other) ⊎ ((length set ≡ length other) × (has_lesser_number set other ≡ true)) → length set ≤ most
    by (inl fewer) = omega (arith, fewer, within)
    by (inr is) = omega (arith, is.0, within)
within-too (Before end) set other (inl same) within = ap (λ s. set_comes_before s end) same ∙ within
within-too (Before end) set other (inr before) within = set-before-later set other end before within
