-- Which attempts a setting of the script's own refuses.
use Rattle.std.proofs.Common.{◌≡◌, ◌≢◌, ℕ, zero, suc, ◌+◌, ◌-◌, ◌%◌, ◌≤◌, ◌<◌, true, false, refl, ap, ◌∙◌, sym, arith, ◌⊎◌, inl, inr}
use Rattle.std.specs.Prelude.{nat_eq}
use Rattle.std.proofs.Math.Nat.{add-mod_right, mod_self, mod-eq_of_lt}
use Rattle.std.proofs.lemmas.Bool.{eq-eqb, ne_eqb}
use Rattle.std.proofs.lemmas.Bool.Decides.{eqb_tells}
use Rattle.wb_heap_model.specs.Rules.{never, next, each, is_due, after_attempts}

-- two tests for equal numbers that hold alike
pub same_test : (a b c d : ℕ) → (a ≡ b → c ≡ d) → (c ≡ d → a ≡ b) → nat_eq a b ≡ nat_eq c d
same_test a b c d there back = by (eqb_tells a b)
  where
    by : ((nat_eq a b ≡ true) × (a ≡ b)) ⊎ ((nat_eq a b ≡ false) × (a ≢ b)) → nat_eq a b ≡ nat_eq c d
    by (inl (holds, e)) = holds ∙ sym (eq-eqb c d (there e))
    by (inr (fails, n)) = fails ∙ sym (ne_eqb c d (λ e. n (back e)))

-- once there is none, none comes
never_due : (n : ℕ) → is_due (after_attempts n never) ≡ false
never_due zero = refl
never_due (suc n) = never_due n

pub next_due : (k n : ℕ) → is_due (after_attempts n (next k)) ≡ nat_eq k (n + 1)
next_due k zero = refl
next_due zero (suc n) = never_due n ∙ sym (ne_eqb 0 (suc n + 1) (λ e. omega (arith, e)))
next_due (suc zero) (suc n) = never_due n ∙ sym (ne_eqb 1 (suc n + 1) (λ e. omega (arith, e)))
next_due (suc (suc k)) (suc n) = next_due (suc k) n ∙ same_test (suc k) (n + 1) (suc (suc k)) (suc n + 1) (λ e. omega (arith, e)) (λ e. omega (arith, e))

-- a remainder below its divisor is 0 only where the number is
small_mod : (m k : ℕ) → 1 ≤ m → m < k → nat_eq (m % k) 0 ≡ false
small_mod m k low high = ne_eqb (m % k) 0 (λ e. omega (arith, low, mod-eq_of_lt high, e))

-- with a number of attempts left until the next that is refused
each_due_from : (k left n : ℕ) → 1 ≤ left → left ≤ k → is_due (after_attempts n (each k left)) ≡ nat_eq ((n + 1 + (k - left)) % k) 0
each_due_from k zero n low high = absurd (omega (arith, low))
each_due_from k (suc zero) zero low high =
    let m : 0 + 1 + (k - 1) ≡ k = omega (arith, high) in
    sym (ap (λ m. nat_eq (m % k) 0) m ∙ eq-eqb (k % k) 0 (mod_self k))
each_due_from k (suc (suc left)) zero low high = ne_eqb (suc (suc left)) 1 (λ e. omega (arith, e)) ∙ sym (small_mod (0 + 1 + (k - suc (suc left))) k (omega arith) (omega (arith, high)))
each_due_from k (suc zero) (suc n) low high =
    let m : suc n + 1 + (k - 1) ≡ n + 1 + k = omega (arith, high) in
    let z : n + 1 + (k - k) ≡ n + 1 = omega arith in
    each_due_from k k n high (omega arith)
    ∙ ap (λ m. nat_eq (m % k) 0) z ∙ sym (ap (λ m. nat_eq (m % k) 0) m ∙ ap (λ m. nat_eq m 0) (add-mod_right (n + 1) k))
each_due_from k (suc (suc left)) (suc n) low high =
    let m : n + 1 + (k - suc left) ≡ suc n + 1 + (k - suc (suc left)) = omega (arith, high) in
    each_due_from k (suc left) n (omega arith) (omega (arith, high)) ∙ ap (λ m. nat_eq (m % k) 0) m

pub each_due : (k n : ℕ) → 1 ≤ k → is_due (after_attempts n (each k k)) ≡ nat_eq ((n + 1) % k) 0
each_due k n least =
    let m : n + 1 + (k - k) ≡ n + 1 = omega arith in
    each_due_from k k n least (omega arith) ∙ ap (λ m. nat_eq (m % k) 0) m
