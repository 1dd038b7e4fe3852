-- What a body that cannot leave comes to, and with it each destruction: it goes on or stops the run, and asks for no attempt.
use Rattle.std.proofs.Common.{◌≡◌, refl, sym, subst, ap, ◌∙◌, ℕ, zero, suc, ◌-◌, ◌≤◌, arith, List, [], ◌∷◌, Bool, true, IsTrue, Option, Some, None, length, take, unwrap_or, slice_get, length-take-le, take-take, take_all}
use Rattle.std.specs.List.{list_all}
use Rattle.wb_heap_model.specs.declared.heap.Ptr.{Ptr}
use Rattle.wb_heap_model.specs.declared.heap.Item.{Item}
use Rattle.wb_heap_model.specs.declared.heap.Item.TheVariants as I
use Rattle.wb_tree.specs.declared.script.Script.{Script}
use Rattle.wb_tree.specs.declared.script.Body.{Body}
use Rattle.wb_tree.specs.declared.script.Class.{Class}
use Rattle.wb_tree.specs.declared.script.Operation.{Operation}
use Rattle.wb_tree.specs.declared.script.Statement.TheViews.{out-Statement}
use Rattle.wb_meaning.specs.State.{State}
use Rattle.wb_meaning.specs.Statements.{all, turns, destroy_items, destroy_object, Context, Meaning, plain, destroyed_item}
use Rattle.wb_tree.specs.Bodies.{no_body, operation_at, class_at}
use Rattle.wb_meaning.specs.Meaning.{piece, meaning_within, meaning_of}
use Rattle.wb_tree.specs.Quiet.{is_quiet, is_quiet_body, is_quiet_if_there, is_quiet_statement, are_quiet}
use Rattle.wb_meaning.specs.Destructions.{GoesOnWith}
use Rattle.wb_meaning.proofs.QuietWays.{both, then_do-goes, with_some-goes, with_class-goes, release-goes, begun-goes, GoesOn, in_frame-goes, destroyed_object-goes}
use Rattle.wb_meaning.proofs.EachStatement.{statement-goes}

-- what a list has in place of an element it doesn't have passes as well as its elements
element_passes : {A : Type 0} (test : A → Bool) (xs : List A) (i : ℕ) (other : A) → list_all test xs ≡ true → test other ≡ true → test (unwrap_or (slice_get xs i) other) ≡ true
element_passes test [] i other pass fine = fine
element_passes test (x ∷ xs) zero other pass fine = (both (test x) (list_all test xs) pass).0
element_passes test (x ∷ xs) (suc i) other pass fine = element_passes test xs i other (both (test x) (list_all test xs) pass).1 fine

body_quiet : (o : Option Body) → IsTrue (is_quiet_if_there o) → IsTrue (is_quiet_body (unwrap_or o no_body))
body_quiet (Some body) quiet = quiet
body_quiet None quiet = refl

-- what is dropped after the newest item
dropped : (items : List Item) (n : ℕ) → take (length (take (length items - 1) items) - n) (take (length items - 1) items) ≡ take (length items - suc n) items
dropped items n =
    let le : length items - 1 ≤ length items = omega arith in
    let long : length (take (length items - 1) items) ≡ length items - 1 = length-take-le (length items - 1) items le in
    let less : (length items - 1) - n ≤ length items - 1 = omega arith in
    let same : (length items - 1) - n ≡ length items - suc n = omega arith in
    ap (λ m. take (m - n) (take (length items - 1) items)) long
    ∙ take-take ((length items - 1) - n) (length items - 1) items less
    ∙ ap (λ m. take m items) same

module _ (script : Script) (quiet : IsTrue (is_quiet script)) where
  operations_quiet : (op : ℕ) → IsTrue (is_quiet_body (operation_at script op))
  operations_quiet op =
      element_passes (λ o. is_quiet_body o.body) script.operations op (record { line = 0; body = no_body })
      (both (list_all (λ (c : Class). is_quiet_if_there c.destroy) script.classes) (list_all (λ (o : Operation). is_quiet_body o.body) script.operations) quiet).1 refl

  destructors_quiet : (class : ℕ) → IsTrue (is_quiet_body (unwrap_or (class_at script class).destroy no_body))
  destructors_quiet class =
      body_quiet (class_at script class).destroy
      (element_passes (λ c. is_quiet_if_there c.destroy) script.classes class (record { line = 0; extra = 0; fields = []; construct = None; destroy = None })
      (both (list_all (λ (c : Class). is_quiet_if_there c.destroy) script.classes) (list_all (λ (o : Operation). is_quiet_body o.body) script.operations) quiet).0 refl)

  module _ (budget : ℕ) (rec : Meaning) (goes : GoesOn rec) where
    destroyed_item-goes : (at : Context) (item : Item) (st : State) → GoesOnWith st.items (destroyed_item script rec at item st)
    unfolding destroyed_item plain
    destroyed_item-goes at (I.Free p) st = release-goes st.items _ _ refl
    destroyed_item-goes at (I.Delete p) st = destroyed_object-goes rec goes _ at p st
    destroyed_item-goes at (I.Call p op) st = in_frame-goes rec goes st.items _ _ _ _ _ _ (operations_quiet op) (λ after is. is)

    piece-goes : GoesOn (piece script budget rec)
    unfolding piece plain
    piece-goes at (all []) st is = refl
    piece-goes at (all (s ∷ rest)) st (zero, is) = let clash : ⊥ = cc in absurd clash
    piece-goes at (all (s ∷ rest)) st (suc depth, is) =
        let (here, more) = both (is_quiet_statement (are_quiet depth) (out-Statement s.statement)) (are_quiet (suc depth) rest) is in
        begun-goes st.items _ _ _ (then_do-goes st.items st.items _ _ (statement-goes rec goes script depth at (out-Statement s.statement) _ here)
        (λ after same. subst (λ items. GoesOnWith items (rec at (all rest) after)) same (goes at (all rest) after (suc depth, more))))
    piece-goes at (turns zero body) st is = refl
    piece-goes at (turns (suc n) body) st is =
        begun-goes st.items _ _ _ (then_do-goes st.items st.items _ _ (goes at (all body) _ is)
        (λ after same. subst (λ items. GoesOnWith items (rec at (turns n body) after)) same (goes at (turns n body) after is)))
    piece-goes at (destroy_items zero) st is = sym (take_all (length st.items - 0) st.items (omega arith))
    piece-goes at (destroy_items (suc n)) st is =
        let left = take (length st.items - 1) st.items in
        let following = take (length st.items - suc n) st.items in
        begun-goes following _ _ _ (with_some-goes following _ _ _ _ (λ item.
        then_do-goes following left _ _ (destroyed_item-goes at item _)
        (λ after same. subst (λ items. GoesOnWith items (rec at (destroy_items n) after)) (ap (λ items. take (length items - n) items) same ∙ dropped st.items n) (goes at (destroy_items n) after tt))))
    piece-goes at (destroy_object p) st is =
        begun-goes st.items _ _ _ (with_class-goes st.items _ _ _ (λ class.
        in_frame-goes rec goes st.items _ _ _ _ _ _ (destructors_quiet class) (λ after same. release-goes st.items _ _ same)))

  meaning-goes : (budget n : ℕ) → GoesOn (meaning_within script budget n)
  unfolding meaning_within
  meaning-goes budget zero at p st is = tt
  meaning-goes budget (suc n) at p st is = piece-goes budget (meaning_within script budget n) (meaning-goes budget n) at p st is

pub items_destroyed : (script : Script) (budget : ℕ) (at : Context) (n : ℕ) (st : State) → IsTrue (is_quiet script) → GoesOnWith (take (length st.items - n) st.items) (meaning_of script budget at (destroy_items n) st)
unfolding meaning_of
items_destroyed script budget at n st quiet = meaning-goes script quiet budget (suc budget) at (destroy_items n) st tt

pub object_destroyed : (script : Script) (budget : ℕ) (at : Context) (p : Ptr) (st : State) → IsTrue (is_quiet script) → GoesOnWith st.items (meaning_of script budget at (destroy_object p) st)
unfolding meaning_of
object_destroyed script budget at p st quiet = meaning-goes script quiet budget (suc budget) at (destroy_object p) st tt
