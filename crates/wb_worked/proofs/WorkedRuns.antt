-- What runs under sets come to, by computing.
use Rattle.std.proofs.Common.{refl, arith}
use Rattle.wb_worked.specs.Shorthands.{everything}
use Rattle.wb_worked.specs.WorkedRuns.{NoneFails, OneFails, TwoFail, ThreeFail, FirstFails, UnmadeAlone, UnmadeAfterAnother, OneIsNumber, TwoArePair, PersistentIsSet, LimitIsSet, NumbersAscend}

pub none-fails : NoneFails
unfolding everything
none-fails = refl

pub one-fails : OneFails
unfolding everything
one-fails = refl

pub two-fail : TwoFail
unfolding everything
two-fail = refl

pub three-fail : ThreeFail
unfolding everything
three-fail = refl

pub first-fails : FirstFails
unfolding everything
first-fails = refl

pub unmade-alone : UnmadeAlone
unfolding everything
unmade-alone = refl

pub unmade-after-another : UnmadeAfterAnother
unfolding everything
unmade-after-another = refl

pub one-is-number : OneIsNumber
unfolding everything
one-is-number = refl

pub two-are-pair : TwoArePair
unfolding everything
two-are-pair = refl

pub persistent-is-set : PersistentIsSet
unfolding everything
persistent-is-set = refl

pub limit-is-set : LimitIsSet
unfolding everything
limit-is-set = refl

pub numbers-ascend : NumbersAscend
numbers-ascend =
    ((omega arith, (omega arith, (omega arith, tt))), (λ is. omega (arith, is.0)), (λ is. omega (arith, is.1.0)), (λ is. omega (arith, is.1.0)))
