-- What sweeps over sets find, by computing.
use Rattle.std.proofs.Common.{◌≡◌, arith, refl, true, false, [], ◌∷◌, length}
use Rattle.std.proofs.lemmas.Bool.{false≢true, lt-ltb}
use Rattle.wb_runs.specs.Sets.{AreSetsFine, AreSetsFineBefore}
use Rattle.wb_worked.specs.Shorthands.{everything}
use Rattle.wb_worked.specs.WorkedScripts.{three_tries, two_tries_each, heap, from_to}
use Rattle.wb_worked.specs.WorkedSweeps.{ThreeIsLeast, ThreeAreMade, LesserIsFine, LargerIsFine, TwoShowNothing, ThreeShowIt, NoneBelow, FoundAtThree, NoPairAtThree, NonePast, FoundAtTwo, NoPairAtTwo, FoundFromThree, ShorterIsLess, WholeFindsShorter}
use Rattle.wb_worked.proofs.FineSets.{any_set, any-begins, at_most, few-begin, few-fine, fine-in-part, lesser_than, lesser-begin, lesser-fine}

-- ---- the least bad set

lesser-of-three : AreSetsFineBefore three_tries 10000 heap (3 ∷ 4 ∷ 5 ∷ [])
unfolding everything
lesser-of-three = lesser-fine three_tries 10000 heap 4 (3 ∷ 4 ∷ 5 ∷ []) refl

pub three-is-least : ThreeIsLeast
unfolding everything
three-is-least = record { set = (omega arith, (omega arith, (omega arith, tt))); bad = refl; least = lesser-of-three; run_is = refl }

pub three-are-made : ThreeAreMade
unfolding everything
three-are-made = (omega arith, (omega arith, (omega arith, tt)))

pub lesser-is-fine : LesserIsFine
unfolding everything
lesser-is-fine = (refl, (omega arith, (omega arith, (omega arith, tt))), refl)

pub larger-is-fine : LargerIsFine
unfolding everything
larger-is-fine = refl

two-fine : AreSetsFine three_tries 10000 heap 2
unfolding everything
two-fine = few-fine three_tries 10000 heap 2 refl

pub two-show-nothing : TwoShowNothing
unfolding everything
two-show-nothing = (two-fine, refl)

pub three-show-it : ThreeShowIt
unfolding everything
three-show-it fine =
    let wrong : false ≡ true = fine (3 ∷ 4 ∷ 5 ∷ []) (omega arith, (omega arith, (omega arith, tt))) (omega arith) in false≢true wrong

-- ---- parts of `three_tries`

pub none-below : NoneBelow
unfolding everything
none-below = record {
  uncut = refl;
  fine = λ numbers is. fine-in-part three_tries 10000 heap any_set any-begins 5 (from_to 0 2) 3 refl refl numbers is refl;
}

pub none-past : NonePast
unfolding everything
none-past = record {
  uncut = refl;
  fine = λ numbers is. fine-in-part three_tries 10000 heap any_set any-begins 5 (from_to 4 9) 3 refl refl numbers is refl;
}

pub no-pair-at-three : NoPairAtThree
unfolding everything
no-pair-at-three = record {
  uncut = refl;
  fine = λ numbers is few.
      fine-in-part three_tries 10000 heap (at_most 2) (few-begin 2) 2 (from_to 3 3) 3 refl refl numbers is (lt-ltb (length numbers) 3 (omega (arith, few)));
}

pub found-at-three : FoundAtThree
unfolding everything
found-at-three = record {
  uncut = refl;
  tried = record {
    set = (omega arith, (omega arith, (omega arith, tt)));
    least = record { from = omega arith; to = omega arith; made = omega arith };
  };
  few = omega arith;
  bad = refl;
  least = λ other is before.
      fine-in-part three_tries 10000 heap (lesser_than (3 ∷ 4 ∷ 5 ∷ [])) (lesser-begin (3 ∷ 4 ∷ 5 ∷ [])) 2 (from_to 3 3) 3 refl refl other is before;
  run_is = refl;
}

-- ---- parts of `two_tries_each`

pub found-at-two : FoundAtTwo
unfolding everything
found-at-two = record {
  uncut = refl;
  tried = record {
    set = (omega arith, (omega arith, (omega arith, tt)));
    least = record { from = omega arith; to = omega arith; made = omega arith };
  };
  few = omega arith;
  bad = refl;
  least = λ other is before.
      fine-in-part two_tries_each 10000 heap (lesser_than (2 ∷ 4 ∷ 5 ∷ [])) (lesser-begin (2 ∷ 4 ∷ 5 ∷ [])) 3 (from_to 2 2) 3 refl refl other is before;
  run_is = refl;
}

pub no-pair-at-two : NoPairAtTwo
unfolding everything
no-pair-at-two = record {
  uncut = refl;
  fine = λ numbers is few.
      fine-in-part two_tries_each 10000 heap (at_most 2) (few-begin 2) 2 (from_to 2 2) 3 refl refl numbers is (lt-ltb (length numbers) 3 (omega (arith, few)));
}

pub found-from-three : FoundFromThree
unfolding everything
found-from-three = record {
  uncut = refl;
  tried = record {
    set = (omega arith, (omega arith, tt));
    least = record { from = omega arith; to = omega arith; made = omega arith };
  };
  few = omega arith;
  bad = refl;
  least = λ other is before.
      fine-in-part two_tries_each 10000 heap (lesser_than (3 ∷ 4 ∷ [])) (lesser-begin (3 ∷ 4 ∷ [])) 2 (from_to 3 9) 3 refl refl other is before;
  run_is = refl;
}

pub shorter-is-less : ShorterIsLess
shorter-is-less = refl

lesser-of-two : AreSetsFineBefore two_tries_each 10000 heap (3 ∷ 4 ∷ [])
unfolding everything
lesser-of-two = lesser-fine two_tries_each 10000 heap 3 (3 ∷ 4 ∷ []) refl

pub whole-finds-shorter : WholeFindsShorter
unfolding everything
whole-finds-shorter = record { set = (omega arith, (omega arith, tt)); bad = refl; least = lesser-of-two; run_is = refl }
