-- The map of two runs that were one run up to an attempt.
use Rattle.std.proofs.Common.{◌≡◌, ℕ, zero, suc, ◌≤◌, ◌⊎◌, ◌↔◌, inl, inr, Bool, true, false, [], ◌∷◌, ◌++◌, refl, sym, ◌∙◌, arith}
use Rattle.std.specs.Prelude.{nat_lt}
use Rattle.std.proofs.lemmas.Bool.{ltb-true, ltb-false}
use Rattle.wb_renaming.specs.SameButNumbers.{Names, Renames, IsRenaming, up_to, AreAddedSince, since_fork}

in_either : (xs ys : Names) (a b : ℕ) → Renames (xs ++ ys) a b → Renames xs a b ⊎ Renames ys a b
in_either [] ys a b r = inr r
in_either (n ∷ xs) ys a b (inl here) = inl (inl here)
in_either (n ∷ xs) ys a b (inr later) = by (in_either xs ys a b later)
  where
    by : Renames xs a b ⊎ Renames ys a b → Renames (n ∷ xs) a b ⊎ Renames ys a b
    by (inl r) = inl (inr r)
    by (inr r) = inr r

beyond : (xs ys : Names) (a b : ℕ) → Renames ys a b → Renames (xs ++ ys) a b
beyond [] ys a b r = r
beyond (n ∷ xs) ys a b r = inr (beyond xs ys a b r)

shared-same : (n a b : ℕ) → Renames (up_to n) a b → (a ≡ b) × (a ≤ n)
shared-same zero a b (inl here) =
    let one : a ≡ 0 = here.0 in
    let other : b ≡ 0 = here.1 in
    (omega arith, omega arith)
shared-same zero a b (inr none) = absurd none
shared-same (suc n) a b (inl here) =
    let one : a ≡ suc n = here.0 in
    let other : b ≡ suc n = here.1 in
    (omega arith, omega arith)
shared-same (suc n) a b (inr later) = let is = shared-same n a b later in (is.0, omega (arith, is.1))

pub shared-named : (n a b : ℕ) → a ≡ b → a ≤ n → Renames (up_to n) a b
shared-named zero a b e le = inl (omega arith, omega arith)
shared-named (suc n) a b e le = by (nat_lt n a) refl (λ below. shared-named n a b e below)
  where
    by : (last : Bool) → nat_lt n a ≡ last → (a ≤ n → Renames (up_to n) a b) → Renames (up_to (suc n)) a b
    by true lt rest = let above = ltb-true n a lt in inl (omega (arith, above), omega (arith, above))
    by false lt rest = inr (rest (ltb-false n a lt))

pub shared-are : (since a b : ℕ) → Renames (up_to since) a b ↔ ((a ≡ b) × (a ≤ since))
shared-are since a b = (shared-same since a b, λ both. shared-named since a b both.0 both.1)

pub forked-renaming : (since made other_made : ℕ) (added : Names) → AreAddedSince since added made other_made → IsRenaming (since_fork since added made other_made)
forked-renaming since made other_made added are = record {
  null = beyond added (up_to since) 0 0 (shared-named since 0 0 refl (omega arith));
  once = λ a b c r s. once a b c (in_either added (up_to since) a b r) (in_either added (up_to since) a c s);
  apart = λ a b c r s. apart a b c (in_either added (up_to since) a c r) (in_either added (up_to since) b c s);
  made_before = λ a b r. before a b (in_either added (up_to since) a b r);
}
  where
    once : (a b c : ℕ) → Renames added a b ⊎ Renames (up_to since) a b → Renames added a c ⊎ Renames (up_to since) a c → b ≡ c
    once a b c (inl r) (inl s) = are.once a b c r s
    once a b c (inl r) (inr s) = let late = are.later a b r in let old = shared-same since a c s in absurd (omega (arith, late.0, old.1))
    once a b c (inr r) (inl s) = let late = are.later a c s in let old = shared-same since a b r in absurd (omega (arith, late.0, old.1))
    once a b c (inr r) (inr s) = sym (shared-same since a b r).0 ∙ (shared-same since a c s).0

    apart : (a b c : ℕ) → Renames added a c ⊎ Renames (up_to since) a c → Renames added b c ⊎ Renames (up_to since) b c → a ≡ b
    apart a b c (inl r) (inl s) = are.apart a b c r s
    apart a b c (inl r) (inr s) = let late = are.later a c r in let old = shared-same since b c s in absurd (omega (arith, late.1, old.0, old.1))
    apart a b c (inr r) (inl s) = let late = are.later b c s in let old = shared-same since a c r in absurd (omega (arith, late.1, old.0, old.1))
    apart a b c (inr r) (inr s) = (shared-same since a c r).0 ∙ sym (shared-same since b c s).0

    before : (a b : ℕ) → Renames added a b ⊎ Renames (up_to since) a b → (a ≤ made) × (b ≤ other_made)
    before a b (inl r) = are.made_before a b r
    before a b (inr r) =
        let old = shared-same since a b r in
        let shared = are.shared in
        (omega (arith, old.1, shared.0), omega (arith, old.0, old.1, shared.1))
