-- The piece on top: the last one.
use Rattle.std.proofs.Common.{◌≡◌, ℕ, ◌+◌, ◌≤◌, List, [], ◌∷◌, ◌++◌, length, take, refl, ap, sym, ◌∙◌, arith, get_or}
use Rattle.std.proofs.Math.ListN.{set}
use Rattle.std.proofs.Math.Seq.{get_or-append_seam, set-append_seam, take-append_seam}
use Rattle.std.proofs.lemmas.List.{length-append}

-- the place of the last
last_place : {A : Type 0} → (below xs : List A) (p : A) (n : ℕ) → xs ≡ below ++ p ∷ [] → n + 1 ≡ length xs → n ≡ length below
last_place {A} below xs p n is at = omega (arith, at, ap length is, length-append below (p ∷ []))

pub top_read : {A : Type 0} → (below xs : List A) (p q : A) (n : ℕ) → n + 1 ≡ length xs → q ≡ get_or xs n q → xs ≡ below ++ p ∷ [] → q ≡ p
top_read {A} below xs p q n at reads is =
    reads ∙ ap (λ (ys : List A). get_or ys n q) is ∙ ap (λ (k : ℕ). get_or (below ++ p ∷ []) k q) (last_place below xs p n is at) ∙ get_or-append_seam below p [] q

pub top_changed : {A : Type 0} → (below xs ys : List A) (p q : A) (n : ℕ) → n + 1 ≡ length xs → ys ≡ set xs n q → xs ≡ below ++ p ∷ [] → ys ≡ below ++ q ∷ []
top_changed {A} below xs ys p q n at changed is =
    changed ∙ ap (λ (zs : List A). set zs n q) is ∙ ap (λ (k : ℕ). set (below ++ p ∷ []) k q) (last_place below xs p n is at) ∙ set-append_seam below p [] q

pub top_dropped : {A : Type 0} → (below xs ys : List A) (p : A) (n : ℕ) → n + 1 ≡ length xs → ys ≡ take n xs → xs ≡ below ++ p ∷ [] → ys ≡ below
top_dropped {A} below xs ys p n at dropped is =
    dropped ∙ ap (λ (zs : List A). take n zs) is ∙ ap (λ (k : ℕ). take k (below ++ p ∷ [])) (last_place below xs p n is at) ∙ take-append_seam below (p ∷ [])

pub top_front : {A : Type 0} → (below xs : List A) (p q : A) (n : ℕ) → n + 1 ≡ length xs → q ≡ get_or xs n q → xs ≡ below ++ p ∷ [] → xs ≡ take n xs ++ q ∷ []
top_front {A} below xs p q n at reads is =
    is ∙ ap (λ (ys : List A). ys ++ p ∷ []) (sym (top_dropped below xs (take n xs) p n at refl is)) ∙ ap (λ (x : A). take n xs ++ x ∷ []) (sym (top_read below xs p q n at reads is))

pub top_there : {A : Type 0} → (below xs : List A) (p : A) → xs ≡ below ++ p ∷ [] → 1 ≤ length xs
top_there {A} below xs p is = omega (arith, ap length is, length-append below (p ∷ []))
