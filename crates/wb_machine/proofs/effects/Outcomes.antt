-- Small facts of results and of what is popped.
use Rattle.std.proofs.Common.{Result, Ok, Err, IfOk, OnOk, Option, Some, None, IsSome, List, [], ◌∷◌, ◌++◌, ◌≡◌, ◌+◌, ◌-◌, ◌<◌, ◌≤◌, ℕ, length, take, drop, refl, ap, ◌∙◌, sym, arith}
use Rattle.std.specs.Prelude.{option_to_list, get_or}

-- what an Ok leads to
pub if_ok_then : {X Y : Type 0} (r : Result X Y) (P R : X → Type 0) → IfOk r P → ((x : X) → P x → R x) → IfOk r R
if_ok_then (Ok x) P R p f = f x p
if_ok_then (Err e) P R p f = tt

pub on_ok_then : {X Y : Type 0} {P Q : Type 0} (r : Result X Y) → OnOk r P → (P → Q) → OnOk r Q
on_ok_then (Ok x) p f = f p
on_ok_then (Err e) p f = tt

-- what holds anyhow
pub on_ok_anyhow : {X Y : Type 0} {P : Type 0} (r : Result X Y) → P → OnOk r P
on_ok_anyhow (Ok x) p = p
on_ok_anyhow (Err e) p = tt

-- what was popped was the last
pub popped : {X : Type 0} (old new : List X) (o : Option X) → old ≡ new ++ option_to_list o → IsSome o → (x : X) × (old ≡ new ++ x ∷ [])
popped old new (Some x) e is = (x, e)
popped old new None e is = cc

pub popped_fewer : {X : Type 0} (n m : ℕ) (o : Option X) → m + length (option_to_list o) ≡ n → IsSome o → m < n
popped_fewer n m (Some x) e is = omega (arith, e)
popped_fewer n m None e is = cc

take_all : {X : Type 0} (xs : List X) → take (length xs) xs ≡ xs
take_all [] = refl
take_all (x ∷ xs) = ap (λ ys. x ∷ ys) (take_all xs)

-- a list with an element is that element and the rest
pub split_first : {X : Type 0} (xs : List X) (x : X) → x ≡ get_or xs 0 x → 1 ≤ length xs → xs ≡ x ∷ take (length xs - 1) (drop 1 xs)
split_first [] x is some = absurd (omega (arith, some))
split_first (y ∷ ys) x is some =
    let rest : length ys ≡ length (y ∷ ys) - 1 = omega arith in
    ap (λ z. z ∷ ys) (sym is) ∙ ap (λ zs. x ∷ zs) (sym (take_all ys) ∙ ap (λ n. take n ys) rest)
