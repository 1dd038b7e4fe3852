-- What holds of a result's value from what is known of it.
use Rattle.std.proofs.Common.{◌≡◌, subst, Option, Some, None, Result, Ok, Err, IfOk, IfSome}

pub map_ok : {A E : Type 0} {P Q : A → Type 0} (r : Result A E) → ((a : A) → P a → Q a) → IfOk r P → IfOk r Q
map_ok (Ok a) f is = f a is
map_ok (Err e) f is = is

pub map_some : {A : Type 0} {P Q : A → Type 0} (o : Option A) → ((a : A) → P a → Q a) → IfSome o P → IfSome o Q
map_some (Some a) f is = f a is
map_some None f is = is

-- what holds of the value of one that is there
pub some_is : {A : Type 0} (P : A → Type 0) (o : Option A) (a : A) → o ≡ Some a → IfSome o P → P a
some_is P o a e is = subst (λ x. IfSome x P) e is
