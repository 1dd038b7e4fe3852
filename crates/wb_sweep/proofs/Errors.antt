-- What holds of a result's error, from what is known of it.
use Rattle.std.proofs.Common.{◌≡◌, Result, Err, IfErr, subst}

pub of_err : {A E : Type 0} (P : E → Type 0) (r : Result A E) (e : E) → r ≡ Err e → IfErr r P → P e
of_err P r e is told = subst (λ q. IfErr q P) is told
