-- Folds over the first elements of a list.
use Rattle.std.proofs.Common.{◌≡◌, refl, ap, ◌∙◌, ℕ, zero, suc, ◌+◌, ◌<◌, List, [], ◌∷◌, length, take, fold, get_or, add-one, arith}

next : {X A : Type 0} (f : A → X → A) (a : A) (xs : List X) (i : ℕ) (d : X) → i < length xs → fold f a (take (suc i) xs) ≡ f (fold f a (take i xs)) (get_or xs i d)
next f a [] i d within = let clash : ⊥ = omega arith in absurd clash
next f a (x ∷ xs) zero d within = refl
next f a (x ∷ xs) (suc i) d within = next f (f a x) xs i d (omega arith)

-- with one more element
pub fold_next : {X A : Type 0} (f : A → X → A) (a : A) (xs : List X) (i : ℕ) (d : X) → i < length xs → fold f a (take (i + 1) xs) ≡ f (fold f a (take i xs)) (get_or xs i d)
fold_next f a xs i d within = ap (λ n. fold f a (take n xs)) (add-one i) ∙ next f a xs i d within
