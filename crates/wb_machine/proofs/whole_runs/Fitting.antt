-- A rule that fits says the same as the machine's own of the attempts made so far.
use Rattle.std.proofs.Common.{◌≡◌, ℕ, ◌+◌, ◌≤◌, Bool, true, false, refl, ap, inl, inr, arith}
use Rattle.std.specs.Prelude.{if◌then◌else◌, Some, List}
use Rattle.wb_heap_model.specs.declared.heap.Answer.TheVariants.{Simulated}
use Rattle.wb_heap_model.specs.declared.heap.Rule.{Rule}
use Rattle.wb_machine.specs.declared.pieces.Ending.{Ending}
use Rattle.wb_machine.specs.declared.pieces.Ending.TheVariants.{GoesOn, Returns, Leaves, Panics, Cut, NoCleanup}
use Rattle.wb_machine.specs.declared.pieces.PendingPiece.{PendingPiece}
use Rattle.wb_machine.specs.Flow.{is_stop, is_over}
use Rattle.wb_heap_model.specs.SameRules.{Fits}
use Rattle.wb_heap_model.specs.Rules.{unless_refused, answer_to, Request}
use Rattle.wb_heap_model.specs.Space.{limit_under}
use Rattle.wb_heap_model.proofs.RuleLemmas.{same-limit}

-- both leave the heap the same length
pub fits-limit : (r own : Rule) (ended : Bool) (attempts : ℕ) → Fits r own ended attempts → limit_under r ≡ limit_under own
fits-limit r own ended attempts (inl e) = ap limit_under e
fits-limit r own ended attempts (inr f) = same-limit r own attempts f.1

-- and answer alike
pub fits-answer : (r own : Rule) (ended : Bool) (attempts n : ℕ) (t : Request) → Fits r own ended attempts → 1 ≤ n → n ≤ attempts →
    answer_to r n t ≡ answer_to own n t
fits-answer r own ended attempts n t (inl e) first made = ap (λ q. answer_to q n t) e
fits-answer r own ended attempts n t (inr f) first made =
    let end = t.place + t.length in
    ap (λ o. if t.due then Some Simulated else unless_refused o end) (f.1.same n end first made)

-- a rule that fits a run that has ended is its own
pub fits-ended : (r own : Rule) (attempts : ℕ) → Fits r own true attempts → r ≡ own
fits-ended r own attempts (inl e) = e
fits-ended r own attempts (inr f) = cc

-- a rule that fits a later point of a run fits an earlier one
pub fits-before : (r own : Rule) (ended later : Bool) (n m : ℕ) → (later ≡ false → ended ≡ false) → n ≤ m → Fits r own later m → Fits r own ended n
fits-before r own ended later n m stays le (inl e) = inl e
fits-before r own ended later n m stays le (inr f) =
    inr (
      stays f.0,
      record {
        no_limit = f.1.no_limit;
        own_no_limit = f.1.own_no_limit;
        same = λ number end first made. f.1.same number end first (omega (arith, made, le));
      },
    )

-- where more is to do, nothing has stopped the run
pub going_on : (ending : Ending) (pieces : List PendingPiece) → is_over ending pieces ≡ false → is_stop ending ≡ false
going_on GoesOn pieces e = refl
going_on (Returns p) pieces e = refl
going_on (Leaves code) pieces e = refl
going_on (Panics p) pieces e = cc
going_on (Cut why) pieces e = cc
going_on NoCleanup pieces e = cc
