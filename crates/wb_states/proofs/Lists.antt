-- Elements of a list with one more at its end.
use Rattle.std.proofs.Common.{◌≡◌, ℕ, zero, suc, ◌<◌, arith, List, [], ◌∷◌, ◌++◌, length, map, Some, refl, ap, ◌⊎◌, inl, inr}
use Rattle.std.specs.Prelude.{slice_get}
use Rattle.std.proofs.lemmas.Option.{slice_get_cases}

-- those of the list stay where they are
pub get-appended : {A : Type 0} (xs ys : List A) (i : ℕ) (x : A) → slice_get xs i ≡ Some x → slice_get (xs ++ ys) i ≡ Some x
get-appended [] ys i x e = cc
get-appended (y ∷ xs) ys zero x e = e
get-appended (y ∷ xs) ys (suc i) x e = get-appended xs ys i x e

pub get-last : {A : Type 0} (xs : List A) (x : A) → slice_get (xs ++ x ∷ []) (length xs) ≡ Some x
get-last [] x = refl
get-last (y ∷ xs) x = get-last xs x

-- an element is one of the list, or the last
pub get-either : {A : Type 0} (xs : List A) (x y : A) (i : ℕ) → slice_get (xs ++ x ∷ []) i ≡ Some y →
    (slice_get xs i ≡ Some y) ⊎ ((i ≡ length xs) × (y ≡ x))
get-either [] x y zero e = inr (refl, cc)
get-either [] x y (suc i) e = cc
get-either (z ∷ xs) x y zero e = inl e
get-either (z ∷ xs) x y (suc i) e = elim (get-either xs x y i e) [
  | inl is ↦ inl is
  | inr is ↦ inr (ap suc is.0, is.1)
]

-- there is an element before the end
pub get-some : {A : Type 0} (xs : List A) (i : ℕ) → i < length xs → (x : A) × (slice_get xs i ≡ Some x)
get-some xs i lt = elim (slice_get_cases xs i).1 [
  | inl is ↦ (is.0, is.2)
  | inr past ↦ absurd (omega (arith, lt, past.0))
]

-- an element of a list that is made of another is that of an element there
pub get-mapped : {A B : Type 0} (f : A → B) (xs : List A) (i : ℕ) (y : B) → slice_get (map f xs) i ≡ Some y → (x : A) × (slice_get xs i ≡ Some x) × (y ≡ f x)
get-mapped f [] i y e = cc
get-mapped f (x ∷ xs) zero y e = (x, refl, cc)
get-mapped f (x ∷ xs) (suc i) y e = get-mapped f xs i y e
