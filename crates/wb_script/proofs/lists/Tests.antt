-- Tests that hold together, and of all elements of a list.
use Rattle.std.proofs.Common.{◌≡◌, ◌==◌, refl, ap, ℕ, zero, suc, ◌<◌, ◌≤◌, List, [], ◌∷◌, length, get_or, Bool, true, false, ◌&&◌, nat_le, nat_lt, arith}
use Rattle.std.specs.List.{list_all}
use Rattle.std.proofs.lemmas.Bool.Decides.{nat_tests}

pub parts : (a b : Bool) → (a && b) ≡ true → (a ≡ true) × (b ≡ true)
parts true b e = (refl, e)
parts false b e = let clash : ⊥ = cc in absurd clash

pub together : (a b : Bool) → a ≡ true → b ≡ true → (a && b) ≡ true
together true b e f = f
together false b e f = cc

pub not_both : {X : Type 0} → (b : Bool) → b ≡ false → b ≡ true → X
not_both true e f = let clash : ⊥ = cc in absurd clash
not_both false e f = let clash : ⊥ = cc in absurd clash

-- where one fails, not all pass
pub one_fails : {A : Type 0} (p : A → Bool) (xs : List A) (i : ℕ) (d : A) → i < length xs → p (get_or xs i d) ≡ false → list_all p xs ≡ false
one_fails p [] i d lt fails = absurd (omega arith)
one_fails p (x ∷ xs) zero d lt fails = ap (λ b. b && list_all p xs) fails
one_fails p (x ∷ xs) (suc i) d lt fails = later (p x) (one_fails p xs i d (omega arith) fails)
  where
    later : (a : Bool) → list_all p xs ≡ false → (a && list_all p xs) ≡ false
    later true e = e
    later false e = refl

pub below_of : (a b : ℕ) → nat_lt a b ≡ true → a < b
below_of a b is = grind (arith, nat_tests)

pub below_test : (a b : ℕ) → a < b → nat_lt a b ≡ true
below_test a b lt = grind (arith, nat_tests)

pub within_of : (a b : ℕ) → nat_le a b ≡ true → a ≤ b
within_of a b is = grind (arith, nat_tests)

pub within_test : (a b : ℕ) → a ≤ b → nat_le a b ≡ true
within_test a b le = grind (arith, nat_tests)

pub nothing : {X : Type 0} (l : List X) → true ≡ (length l == 0) → l ≡ []
nothing [] e = refl
nothing (x ∷ l) e = absurd (some (length l) e)
  where
    some : (n : ℕ) → true ≡ (suc n == 0) → ⊥
    some n e = grind (arith, nat_tests)
