-- The failures of a sweep are no limits, and say the same as failure 0 of the attempts before.
use Rattle.std.proofs.Common.{◌≡◌, ℕ, ◌+◌, ◌%◌, ◌<◌, ◌≤◌, false, refl, ap, ◌∙◌, sym, arith, None, cond}
use Rattle.std.specs.Prelude.{nat_eq, nat_le}
use Rattle.std.proofs.Math.Nat.{mod-eq_of_lt}
use Rattle.std.proofs.lemmas.Bool.{lt-leb, ne_eqb}
use Rattle.wb_runs.specs.declared.failures.Failures.{Failures}
use Rattle.wb_runs.specs.declared.failures.Failures.TheVariants.{Single, Every, Pairs, Persistent}
use Rattle.wb_heap_model.specs.declared.heap.Rule.TheVariants.{Number}
use Rattle.wb_heap_model.specs.SameRules.{IsNoLimit, SameSoFar}
use Rattle.wb_heap_model.specs.Rules.{refusal_of}
use Rattle.wb_runs.specs.Sweeps.{rule_of}
use Rattle.wb_heap_model.proofs.RuleLemmas.{unsimulated-open}

pub failures-no_limit : (failures : Failures) (n : ℕ) → IsNoLimit (rule_of failures n)
failures-no_limit Single n = refl
failures-no_limit Every n = refl
failures-no_limit Pairs n = refl
failures-no_limit Persistent n = refl

zero-alone : (number end : ℕ) → 1 ≤ number → refusal_of (Number 0) number end ≡ None
zero-alone number end first = unsimulated-open (Number 0) number end refl (ne_eqb 0 number (λ z. omega (arith, z, first)))

later-alone : (n number end : ℕ) → number < n → refusal_of (Number n) number end ≡ None
later-alone n number end before = unsimulated-open (Number n) number end refl (ne_eqb n number (λ z. omega (arith, z, before)))

-- failure 0 refuses none of the attempts, which count from 1
pub zero-refuses_none : (failures : Failures) (number end : ℕ) → 1 ≤ number → refusal_of (rule_of failures 0) number end ≡ None
zero-refuses_none Single number end first = zero-alone number end first
zero-refuses_none Every number end first = refl
zero-refuses_none Pairs number end first = zero-alone number end first
zero-refuses_none Persistent number end first = refl

positive : (n number : ℕ) → number < n → nat_eq n 0 ≡ false
positive n number before = ne_eqb n 0 (λ z. omega (arith, z, before))

-- and no failure refuses an attempt with a lesser number
pub later-refuses_none : (failures : Failures) (n number end : ℕ) → 1 ≤ number → number < n → refusal_of (rule_of failures n) number end ≡ None
later-refuses_none Single n number end first before = later-alone n number end before
later-refuses_none Pairs n number end first before = later-alone n number end before
later-refuses_none Persistent n number end first before =
    unsimulated-open (rule_of Persistent n) number end refl (ap (λ b. cond b false (nat_le n number)) (positive n number before) ∙ lt-leb n number before)
later-refuses_none Every n number end first before =
    unsimulated-open (rule_of Every n) number end refl (ap (λ b. cond b false (nat_eq (number % n) 0)) (positive n number before) ∙ undivided)
  where
    undivided : nat_eq (number % n) 0 ≡ false
    undivided = ne_eqb (number % n) 0 (λ z. omega (arith, z, mod-eq_of_lt before, first))

pub failures-fit : (failures : Failures) (attempts : ℕ) → SameSoFar (rule_of failures (attempts + 1)) (rule_of failures 0) attempts
failures-fit failures attempts = record {
  no_limit = failures-no_limit failures (attempts + 1);
  own_no_limit = failures-no_limit failures 0;
  same = λ number end first made.
      later-refuses_none failures (attempts + 1) number end first (omega arith) ∙ sym (zero-refuses_none failures number end first);
}
