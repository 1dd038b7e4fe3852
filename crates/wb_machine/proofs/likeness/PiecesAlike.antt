-- Pieces that are the same but for numbers are so as pending pieces of the definitions.
use Rattle.std.proofs.Common.{◌≡◌, ℕ, zero, suc, true, List, drop, reverse, sym, subst}
use mathlib.Core.List.{reverse_aux}
use Rattle.wb_meaning.specs.Statements.{all, turns}
use Rattle.wb_tree.specs.declared.script.StatementAt.{StatementAt}
use Rattle.wb_meaning.specs.Rest.{doing}
use Rattle.wb_renaming.specs.SameButNumbers as numbers
use Rattle.wb_renaming.specs.SameButNumbers.{Names, AllBeside, none_beside, one_beside, IsSameValue, IsSamePending, IsSameAfterwards}
use Rattle.wb_renaming.proofs.SameNumbers.{Extends, take-beside, pointer-later}
use Rattle.wb_machine.specs.declared.pieces.After.{After}
use Rattle.wb_machine.specs.declared.pieces.PendingPiece.{PendingPiece}
use Rattle.wb_machine.specs.declared.pieces.PendingPiece.TheVariants.{Code, Turns, Items, Object, Trap, Caught, MainTrap, MainCaught, Call}
use Rattle.wb_machine.specs.Flow.{context_of, afterwards, in_main_frame, pending_of, callers_under, pending_from}
use Rattle.wb_machine.specs.RunState.{Values}
use Rattle.wb_machine.specs.SamePieces.{IsSameAfter, same_nothing, same_gives, same_releases, IsSamePiece, same_code, same_turns, same_items, same_object, same_trap, same_caught, same_main_trap, same_main_caught, same_call, is_of_trap, ArePendingAlike}

pub drop-beside : {A B : Type 0} {R : A → B → Type 0} (n : ℕ) {xs : List A} {ys : List B} → AllBeside R xs ys → AllBeside R (drop n xs) (drop n ys)
drop-beside zero s = s
drop-beside (suc n) none_beside = none_beside
drop-beside (suc n) (one_beside r rest) = drop-beside n rest

onto-beside : {A B : Type 0} {R : A → B → Type 0} {xs more : List A} {ys others : List B} → AllBeside R xs ys → AllBeside R more others →
    AllBeside R (reverse_aux xs more) (reverse_aux ys others)
onto-beside none_beside rest = rest
onto-beside (one_beside r later) rest = onto-beside later (one_beside r rest)

pub reverse-beside : {A B : Type 0} {R : A → B → Type 0} {xs : List A} {ys : List B} → AllBeside R xs ys → AllBeside R (reverse xs) (reverse ys)
reverse-beside s = onto-beside s none_beside

module _ {names : Names} where
  after-alike : {a b : After} → IsSameAfter names a b → IsSameAfterwards names (afterwards a) (afterwards b)
  after-alike same_nothing = numbers.same_nothing_more
  after-alike (same_gives x) = numbers.same_gives_to x
  after-alike (same_releases s) = numbers.same_releases s

  piece-alike : {callers others : Values} {p q : PendingPiece} → AllBeside (IsSameValue names) callers others → IsSamePiece names p q →
      IsSamePending names (pending_of callers p) (pending_of others q)
  piece-alike all_same (same_code at {s = s} {t = t} e) =
      subst (λ (ts : List StatementAt). IsSamePending names (doing (context_of at) (all s.now)) (doing (context_of at) (all ts))) (sym e)
      (numbers.same_doing (context_of at) (numbers.same_statements s.now))
  piece-alike all_same (same_turns at left {s = s} {t = t} e) =
      subst (λ (ts : List StatementAt). IsSamePending names (doing (context_of at) (turns left s.now)) (doing (context_of at) (turns left ts))) (sym e)
      (numbers.same_doing (context_of at) (numbers.same_turns left s.now))
  piece-alike all_same (same_items at left) = numbers.same_doing (context_of at) (numbers.same_items left)
  piece-alike all_same (same_object at s) = numbers.same_doing (context_of at) (numbers.same_object s)
  piece-alike all_same (same_trap at x entry) = numbers.same_catching (context_of at) x entry
  piece-alike all_same (same_caught x code) = numbers.same_caught x code
  piece-alike all_same same_main_trap = numbers.same_main_catching in_main_frame
  piece-alike all_same (same_main_caught code) = numbers.same_main_caught code
  piece-alike all_same (same_call base s a) =
      numbers.same_calling (record { this = s; locals = drop-beside base all_same }) (after-alike a)

  under-alike : {callers others : Values} {p q : PendingPiece} → AllBeside (IsSameValue names) callers others → IsSamePiece names p q →
      AllBeside (IsSameValue names) (callers_under callers p) (callers_under others q)
  under-alike all_same (same_code at e) = all_same
  under-alike all_same (same_turns at left e) = all_same
  under-alike all_same (same_items at left) = all_same
  under-alike all_same (same_object at s) = all_same
  under-alike all_same (same_trap at x entry) = all_same
  under-alike all_same (same_caught x code) = all_same
  under-alike all_same same_main_trap = all_same
  under-alike all_same (same_main_caught code) = all_same
  under-alike all_same (same_call base s a) = take-beside base all_same

  from-alike : {callers others : Values} {ps qs : List PendingPiece} → AllBeside (IsSameValue names) callers others → AllBeside (IsSamePiece names) ps qs →
      AllBeside (IsSamePending names) (pending_from callers ps) (pending_from others qs)
  from-alike all_same none_beside = none_beside
  from-alike all_same (one_beside s rest) = one_beside (piece-alike all_same s) (from-alike (under-alike all_same s) rest)

  -- one of a TRAP is the same as itself
  pub trap-itself : (p : PendingPiece) → is_of_trap p ≡ true → IsSamePiece names p p
  trap-itself (Code at s) e = cc
  trap-itself (Turns at left s) e = cc
  trap-itself (Items at left) e = cc
  trap-itself (Object at p) e = cc
  trap-itself (Trap at x entry) e = same_trap at x entry
  trap-itself (Caught x code) e = same_caught x code
  trap-itself MainTrap e = same_main_trap
  trap-itself (MainCaught code) e = same_main_caught code
  trap-itself (Call base this after) e = cc

  pub pending-alike : {ps qs : List PendingPiece} → AllBeside (IsSamePiece names) ps qs → ArePendingAlike names ps qs
  pending-alike s callers others all_same = from-alike all_same (reverse-beside s)

-- the same under a map with more pairs
module _ {names more : Names} (x : Extends names more) where
  after-later : {a b : After} → IsSameAfter names a b → IsSameAfter more a b
  after-later same_nothing = same_nothing
  after-later (same_gives i) = same_gives i
  after-later (same_releases s) = same_releases (pointer-later x s)

  pub piece-later : {p q : PendingPiece} → IsSamePiece names p q → IsSamePiece more p q
  piece-later (same_code at e) = same_code at e
  piece-later (same_turns at left e) = same_turns at left e
  piece-later (same_items at left) = same_items at left
  piece-later (same_object at s) = same_object at (pointer-later x s)
  piece-later (same_trap at i entry) = same_trap at i entry
  piece-later (same_caught i code) = same_caught i code
  piece-later same_main_trap = same_main_trap
  piece-later (same_main_caught code) = same_main_caught code
  piece-later (same_call base s a) = same_call base (pointer-later x s) (after-later a)
