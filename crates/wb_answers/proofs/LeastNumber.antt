-- Of so many numbers from one on, one is the least that has a property, or none has it, where it is decided of each once the lesser ones lack it.
use Rattle.std.proofs.Common.{◌≡◌, ℕ, zero, suc, ◌+◌, ◌<◌, ◌≤◌, ◌⊎◌, inl, inr, arith, subst}
use Rattle.std.proofs.lemmas.Bool.{cases_lt}

-- the numbers from one on that are less than a bound
abbrev pub AllFrom : (ℕ → Type 0) → ℕ → ℕ → Type 0
AllFrom Lacks from bound = (n : ℕ) → from ≤ n → n < bound → Lacks n

-- one of these numbers has the property, and the lesser ones lack it
pub record LeastFrom (Has Lacks : ℕ → Type 0) (from bound : ℕ) : Type 0 where
  pub number : ℕ
  pub begins : from ≤ number
  pub within : number < bound
  pub has : Has number
  pub lesser : AllFrom Lacks from number

pub least-or-none : (Has Lacks : ℕ → Type 0) (from count : ℕ) →
    ((n : ℕ) → from ≤ n → n < from + count → AllFrom Lacks from n → Has n ⊎ Lacks n) →
    LeastFrom Has Lacks from (from + count) ⊎ AllFrom Lacks from (from + count)
least-or-none Has Lacks from zero decide = inr (λ n ge lt. absurd (omega (arith, ge, lt)))
least-or-none Has Lacks from (suc count) decide =
    elim (least-or-none Has Lacks from count (λ n ge lt. decide n ge (omega (arith, lt)))) [
      | inl is ↦ inl (record { number = is.number; begins = is.begins; within = omega (arith, is.within); has = is.has; lesser = is.lesser })
      | inr none ↦ elim (decide (from + count) (omega arith) (omega arith) none) [
        | inl has ↦ inl (record { number = from + count; begins = omega arith; within = omega arith; has = has; lesser = none })
        | inr lacks ↦ inr (λ n ge lt. elim (cases_lt n (from + count)) [
          | inl less ↦ none n ge less
          | inr here ↦ let same : from + count ≡ n = omega (arith, lt, here) in subst Lacks same lacks
        ])
      ]
    ]
