-- The order of sets, by computing.
use Rattle.std.proofs.Common.{refl}
use Rattle.wb_worked.specs.WorkedOrder.{EmptyFirst, OneNumber, FirstOfTwo, SecondOfTwo, FirstOfThree, SecondOfThree, ThirdOfThree, OneBeforeTwo, TwoBeforeThree, NotBeforeItself, NoNumberTells}

pub empty-first : EmptyFirst
empty-first = (refl, refl)

pub one-number : OneNumber
one-number = (refl, refl)

pub first-of-two : FirstOfTwo
first-of-two = (refl, refl)

pub second-of-two : SecondOfTwo
second-of-two = (refl, refl)

pub first-of-three : FirstOfThree
first-of-three = (refl, refl)

pub second-of-three : SecondOfThree
second-of-three = (refl, refl)

pub third-of-three : ThirdOfThree
third-of-three = (refl, refl)

pub one-before-two : OneBeforeTwo
one-before-two = (refl, refl)

pub two-before-three : TwoBeforeThree
two-before-three = (refl, refl)

pub not-before-itself : NotBeforeItself
not-before-itself = refl

pub no-number-tells : NoNumberTells
no-number-tells = (refl, refl, (refl, refl))
