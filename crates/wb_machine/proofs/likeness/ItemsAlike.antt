-- Items of two cleanup stacks, compared from the newest on.
use Rattle.std.proofs.Common.{◌≡◌, ℕ, zero, suc, ◌+◌, ◌-◌, ◌≤◌, ◌<◌, Bool, true, false, List, [], ◌∷◌, ◌++◌, length, take, refl, ap, sym, subst, cond, arith, Some, None}
use Rattle.std.specs.Prelude.{nat_le, slice_get, slice_index_or}
use Rattle.std.proofs.lemmas.Bool.{leb-true, leb-false}
use Rattle.wb_heap_model.specs.declared.heap.Item.{Item}
use Rattle.wb_heap_model.specs.Pointers.{newest}
use Rattle.wb_renaming.specs.SameButNumbers.{Names, AllBeside, none_beside, one_beside, IsSameItem}
use Rattle.wb_renaming.proofs.SameNumbers.{Extends, append-beside, item-later}
use Rattle.wb_cleanup.specs.Stacks.{newest_above, all_but}
use Rattle.wb_machine.proofs.likeness.GrownMaps.{LeadsTo}

last-of : {A : Type 0} (i : ℕ) (xs : List A) (x : A) → slice_get xs i ≡ Some x → length xs ≡ i + 1 → xs ≡ take i xs ++ x ∷ []
last-of i [] x e l = cc
last-of zero (y ∷ []) x e l = let same : y ≡ x = cc in ap (λ z. z ∷ []) same
last-of zero (y ∷ z ∷ ys) x e l = absurd (omega (arith, l))
last-of (suc i) (y ∷ ys) x e l = ap (λ r. y ∷ r) (last-of i ys x e (omega (arith, l)))

none-past : {A : Type 0} (i : ℕ) (xs : List A) → slice_get xs i ≡ None → length xs ≤ i
none-past i [] e = omega arith
none-past zero (y ∷ ys) e = cc
none-past (suc i) (y ∷ ys) e = omega (arith, none-past i ys e)

pub index-of : {A : Type 0} (i : ℕ) (xs : List A) (x d : A) → slice_get xs i ≡ Some x → slice_index_or xs i d ≡ x
index-of i [] x d e = cc
index-of zero (y ∷ ys) x d e = cc
index-of (suc i) (y ∷ ys) x d e = index-of i ys x d e

pub none-there : {A : Type 0} (xs : List A) → length xs < 1 → xs ≡ []
none-there [] l = refl
none-there (x ∷ xs) l = absurd (omega (arith, l))

pub newest-last : (items : List Item) (x : Item) → newest_above 0 items ≡ Some x → items ≡ all_but 1 items ++ x ∷ []
newest-last items x e = by (nat_le (0 + 1) (length items)) refl e
  where
    by : (b : Bool) → nat_le (0 + 1) (length items) ≡ b → cond b (newest items) None ≡ Some x → items ≡ all_but 1 items ++ x ∷ []
    by true t e = let some = leb-true (0 + 1) (length items) t in last-of (length items - 1) items x e (omega (arith, some))
    by false t e = cc

pub newest-none : (items : List Item) → newest_above 0 items ≡ None → items ≡ []
newest-none items e = by (nat_le (0 + 1) (length items)) refl e
  where
    by : (b : Bool) → nat_le (0 + 1) (length items) ≡ b → cond b (newest items) None ≡ None → items ≡ []
    by true t e =
        let some = leb-true (0 + 1) (length items) t in
        let past = none-past (length items - 1) items e in
        absurd (omega (arith, some, past))
    by false t e = let none = leb-false (0 + 1) (length items) t in none-there items (omega (arith, none))

-- one more item of each
pub items-next : (is js rest other_rest : List Item) (x y : Item) (whole : Names → Type 0) (names grown : Names) → is ≡ rest ++ x ∷ [] → js ≡ other_rest ++ y ∷ [] →
    Extends names grown → IsSameItem grown x y →
    LeadsTo (λ more. AllBeside (IsSameItem more) is js) whole names → LeadsTo (λ more. AllBeside (IsSameItem more) rest other_rest) whole grown
items-next is js rest other_rest x y whole names grown e g f same lead more h left =
    lead more (λ a b r. h a b (f a b r))
    (subst (λ xs. AllBeside (IsSameItem more) xs js) (sym e)
    (subst (λ ys. AllBeside (IsSameItem more) (rest ++ x ∷ []) ys) (sym g) (append-beside left (one_beside (item-later h same) none_beside))))

pub items-done : (is js : List Item) (whole : Names → Type 0) (names : Names) → is ≡ [] → js ≡ [] →
    LeadsTo (λ more. AllBeside (IsSameItem more) is js) whole names → whole names
items-done is js whole names e g lead =
    lead names (λ a b r. r)
    (subst (λ xs. AllBeside (IsSameItem names) xs js) (sym e) (subst (λ ys. AllBeside (IsSameItem names) [] ys) (sym g) none_beside))
