-- Which classes, procedures and operations are in an order of all: those of the three lists, whichever order it is. So they tell the lists.
use Rattle.std.proofs.Common.{◌≡◌, ◌⊎◌, inl, inr, refl, sym, ap, subst, ◌∙◌, ℕ, zero, suc, ◌+◌, List, [], ◌∷◌, map, Some, Bool, true, false, nat_lt, add-zero, zero-add, arith}
use Rattle.std.specs.Prelude.{if◌then◌else◌, fold, slice_get}
use Rattle.wb_tree.specs.declared.script.Class.{Class}
use Rattle.wb_tree.specs.declared.script.Procedure.{Procedure}
use Rattle.wb_tree.specs.declared.script.Operation.{Operation}
use Rattle.wb_language.specs.Trees.{Lines, each_from, in_place, in_order}
use Rattle.wb_script.proofs.one_script.ReadBack.{Item, IndexedItem}

-- the number of the first line of an item
abbrev pub line_of : Item → ℕ
line_of (Item.class c) = c.line
line_of (Item.procedure p) = p.line
line_of (Item.operation o) = o.line

abbrev pub line_of_indexed : IndexedItem → ℕ
line_of_indexed t = line_of t.item

-- the order of items, by the numbers of their first lines
abbrev placed : IndexedItem → List IndexedItem → List IndexedItem
placed t [] = t ∷ []
placed t (o ∷ os) = if nat_lt (line_of_indexed o) (line_of_indexed t) then (o ∷ placed t os) else (t ∷ o ∷ os)

abbrev pub ordered : List IndexedItem → List IndexedItem → List IndexedItem
ordered ts os = fold (λ found t. placed t found) os ts

-- their lines are in the same order
module _ (lines : IndexedItem → Lines) (its_number : (t : IndexedItem) → (lines t).number ≡ line_of_indexed t) where
  lines_placed : (t : IndexedItem) (os : List IndexedItem) → map lines (placed t os) ≡ in_place (lines t) (map lines os)
  lines_placed t [] = refl
  lines_placed t (o ∷ os) =
      on (nat_lt (line_of_indexed o) (line_of_indexed t)) (lines_placed t os) ∙ ap (λ n. if nat_lt n (line_of_indexed t) then (lines o ∷ in_place (lines t) (map lines os)) else (lines t ∷ lines o ∷ map lines os)) (sym (its_number o))
      ∙ ap (λ n. if nat_lt (lines o).number n then (lines o ∷ in_place (lines t) (map lines os)) else (lines t ∷ lines o ∷ map lines os)) (sym (its_number t))
    where
      on : (b : Bool) → map lines (placed t os) ≡ in_place (lines t) (map lines os) → map lines (if b then (o ∷ placed t os) else (t ∷ o ∷ os)) ≡ (if b then (lines o ∷ in_place (lines t) (map lines os)) else (lines t ∷ lines o ∷ map lines os))
      on true later = ap (λ l. lines o ∷ l) later
      on false later = refl

  pub lines_ordered : (ts os : List IndexedItem) → map lines (ordered ts os) ≡ in_order (map lines ts) (map lines os)
  lines_ordered [] os = refl
  lines_ordered (t ∷ ts) os = lines_ordered ts (placed t os) ∙ ap (in_order (map lines ts)) (lines_placed t os)

-- an item is one of these
abbrev Among : IndexedItem → List IndexedItem → Type 0
Among t [] = ⊥
Among t (o ∷ os) = (o ≡ t) ⊎ Among t os

out_of_placed : (t s : IndexedItem) (os : List IndexedItem) → Among t (placed s os) → (s ≡ t) ⊎ Among t os
out_of_placed t s [] is = is
out_of_placed t s (o ∷ os) is = on (nat_lt (line_of_indexed o) (line_of_indexed s)) (out_of_placed t s os) is
  where
    following : (s ≡ t) ⊎ Among t os → (s ≡ t) ⊎ ((o ≡ t) ⊎ Among t os)
    following (inl e) = inl e
    following (inr later) = inr (inr later)

    on : (b : Bool) → (Among t (placed s os) → (s ≡ t) ⊎ Among t os) → Among t (if b then (o ∷ placed s os) else (s ∷ o ∷ os)) → (s ≡ t) ⊎ ((o ≡ t) ⊎ Among t os)
    on true rest (inl e) = inr (inl e)
    on true rest (inr later) = following (rest later)
    on false rest found = found

into_placed : (t s : IndexedItem) (os : List IndexedItem) → (s ≡ t) ⊎ Among t os → Among t (placed s os)
into_placed t s [] is = is
into_placed t s (o ∷ os) is = on (nat_lt (line_of_indexed o) (line_of_indexed s)) (into_placed t s os) is
  where
    on : (b : Bool) → ((s ≡ t) ⊎ Among t os → Among t (placed s os)) → (s ≡ t) ⊎ ((o ≡ t) ⊎ Among t os) → Among t (if b then (o ∷ placed s os) else (s ∷ o ∷ os))
    on true rest (inl e) = inr (rest (inl e))
    on true rest (inr (inl e)) = inl e
    on true rest (inr (inr later)) = inr (rest (inr later))
    on false rest found = found

out_of_ordered : (t : IndexedItem) (ts os : List IndexedItem) → Among t (ordered ts os) → Among t ts ⊎ Among t os
out_of_ordered t [] os is = inr is
out_of_ordered t (s ∷ ts) os is = on (out_of_ordered t ts (placed s os) is)
  where
    from_second : (s ≡ t) ⊎ Among t os → ((s ≡ t) ⊎ Among t ts) ⊎ Among t os
    from_second (inl e) = inl (inl e)
    from_second (inr later) = inr later

    on : Among t ts ⊎ Among t (placed s os) → ((s ≡ t) ⊎ Among t ts) ⊎ Among t os
    on (inl later) = inl (inr later)
    on (inr found) = from_second (out_of_placed t s os found)

into_ordered : (t : IndexedItem) (ts os : List IndexedItem) → Among t ts ⊎ Among t os → Among t (ordered ts os)
into_ordered t [] os (inl none) = absurd none
into_ordered t [] os (inr is) = is
into_ordered t (s ∷ ts) os (inl (inl e)) = into_ordered t ts (placed s os) (inr (into_placed t s os (inl e)))
into_ordered t (s ∷ ts) os (inl (inr later)) = into_ordered t ts (placed s os) (inl later)
into_ordered t (s ∷ ts) os (inr is) = into_ordered t ts (placed s os) (inr (into_placed t s os (inr is)))

-- each of a list, with its index
abbrev pub indexed_from : {A : Type 0} → (ℕ → A → IndexedItem) → ℕ → List A → List IndexedItem
indexed_from tell index [] = []
indexed_from tell index (a ∷ xs) = tell index a ∷ indexed_from tell (suc index) xs

module _ {A : Type 0} (tell : ℕ → A → IndexedItem) where
  pub lines_of_each_indexed : (lines : IndexedItem → Lines) (lines_of : ℕ → A → Lines) → ((i : ℕ) (a : A) → lines_of i a ≡ lines (tell i a)) → (index : ℕ) (xs : List A) → each_from lines_of index xs ≡ map lines (indexed_from tell index xs)
  lines_of_each_indexed lines lines_of same index [] = refl
  lines_of_each_indexed lines lines_of same index (a ∷ xs) = ap (λ l. l ∷ each_from lines_of (suc index) xs) (same index a) ∙ ap (λ l. lines (tell index a) ∷ l) (lines_of_each_indexed lines lines_of same (suc index) xs)

  into_indexed : (index k : ℕ) (xs : List A) (a : A) → slice_get xs k ≡ Some a → Among (tell (index + k) a) (indexed_from tell index xs)
  into_indexed index k [] a is = let clash : ⊥ = cc in absurd clash
  into_indexed index zero (b ∷ xs) a is = let same : b ≡ a = cc in inl (ap (tell index) same ∙ ap (λ i. tell i a) (sym (add-zero index)))
  into_indexed index (suc k) (b ∷ xs) a is =
      let moved : suc index + k ≡ index + suc k = omega arith in
      inr (subst (λ i. Among (tell i a) (indexed_from tell (suc index) xs)) moved (into_indexed (suc index) k xs a is))

  indexed_here : (k : ℕ) (xs : List A) (a : A) → slice_get xs k ≡ Some a → Among (tell k a) (indexed_from tell 0 xs)
  indexed_here k xs a is = subst (λ i. Among (tell i a) (indexed_from tell 0 xs)) (zero-add k) (into_indexed 0 k xs a is)

  out_of_indexed : (index : ℕ) (xs : List A) (t : IndexedItem) → Among t (indexed_from tell index xs) → (k : ℕ) × (a : A) × (slice_get xs k ≡ Some a) × (tell (index + k) a ≡ t)
  out_of_indexed index [] t is = absurd is
  out_of_indexed index (b ∷ xs) t (inl e) = (0, b, refl, ap (λ i. tell i b) (add-zero index) ∙ e)
  out_of_indexed index (b ∷ xs) t (inr later) =
      let (k, a, here, is) = out_of_indexed (suc index) xs t later in
      let moved : index + suc k ≡ suc index + k = omega arith in
      (suc k, a, here, ap (λ i. tell i a) moved ∙ is)

-- lists with the same elements at the same indexes are the same
same_lists : {A : Type 0} (xs bs : List A) → ((k : ℕ) (a : A) → slice_get xs k ≡ Some a → slice_get bs k ≡ Some a) → ((k : ℕ) (b : A) → slice_get bs k ≡ Some b → slice_get xs k ≡ Some b) → xs ≡ bs
same_lists [] [] there back = refl
same_lists [] (b ∷ bs) there back = let e = back 0 b refl in let clash : ⊥ = cc in absurd clash
same_lists (a ∷ xs) [] there back = let e = there 0 a refl in let clash : ⊥ = cc in absurd clash
same_lists (a ∷ xs) (b ∷ bs) there back =
    let e = there 0 a refl in
    let same : b ≡ a = cc in
    ap (λ l. a ∷ l) (same_lists xs bs (λ k. there (suc k)) (λ k. back (suc k))) ∙ ap (λ x. x ∷ bs) (sym same)

abbrev pub indexed_class : ℕ → Class → IndexedItem
indexed_class index c = record { index = index; item = Item.class c }

abbrev pub indexed_procedure : ℕ → Procedure → IndexedItem
indexed_procedure index p = record { index = index; item = Item.procedure p }

abbrev pub indexed_operation : ℕ → Operation → IndexedItem
indexed_operation index o = record { index = index; item = Item.operation o }

-- the items of a script
pub record Items : Type 0 where
  pub classes : List Class
  pub procedures : List Procedure
  pub operations : List Operation

abbrev indexed_bodies : Items → List IndexedItem
indexed_bodies items = ordered (indexed_from indexed_procedure 0 items.procedures) (indexed_from indexed_operation 0 items.operations)

abbrev pub all_indexed : Items → List IndexedItem
all_indexed items = ordered (indexed_from indexed_class 0 items.classes) (indexed_bodies items)

-- an item of the order is one of a kind
data IsOf (items : Items) (t : IndexedItem) : Type 0 where
  class : Among t (indexed_from indexed_class 0 items.classes) → IsOf items t
  procedure : Among t (indexed_from indexed_procedure 0 items.procedures) → IsOf items t
  operation : Among t (indexed_from indexed_operation 0 items.operations) → IsOf items t

out_of_all : (items : Items) (t : IndexedItem) → Among t (all_indexed items) → IsOf items t
out_of_all items t is = on (out_of_ordered t (indexed_from indexed_class 0 items.classes) (indexed_bodies items) is)
  where
    bodies : Among t (indexed_from indexed_procedure 0 items.procedures) ⊎ Among t (indexed_from indexed_operation 0 items.operations) → IsOf items t
    bodies (inl found) = IsOf.procedure found
    bodies (inr found) = IsOf.operation found

    on : Among t (indexed_from indexed_class 0 items.classes) ⊎ Among t (indexed_bodies items) → IsOf items t
    on (inl found) = IsOf.class found
    on (inr found) = bodies (out_of_ordered t (indexed_from indexed_procedure 0 items.procedures) (indexed_from indexed_operation 0 items.operations) found)

into_all : (items : Items) (t : IndexedItem) → IsOf items t → Among t (all_indexed items)
into_all items t (IsOf.class found) = into_ordered t (indexed_from indexed_class 0 items.classes) (indexed_bodies items) (inl found)
into_all items t (IsOf.procedure found) =
    into_ordered t (indexed_from indexed_class 0 items.classes) (indexed_bodies items)
    (inr (into_ordered t (indexed_from indexed_procedure 0 items.procedures) (indexed_from indexed_operation 0 items.operations) (inl found)))
into_all items t (IsOf.operation found) =
    into_ordered t (indexed_from indexed_class 0 items.classes) (indexed_bodies items)
    (inr (into_ordered t (indexed_from indexed_procedure 0 items.procedures) (indexed_from indexed_operation 0 items.operations) (inr found)))

-- What tells an item of one kind tells none of another, and tells one item.
abbrev is_class : Item → Bool
is_class (Item.class c) = true
is_class _ = false

abbrev is_procedure : Item → Bool
is_procedure (Item.procedure p) = true
is_procedure _ = false

classes_there : (items others : Items) → all_indexed items ≡ all_indexed others → (k : ℕ) (c : Class) → slice_get items.classes k ≡ Some c → slice_get others.classes k ≡ Some c
classes_there items others same k c is =
    let t = indexed_class k c in
    on (out_of_all others t (subst (Among t) same (into_all items t (IsOf.class (indexed_here indexed_class k items.classes c is)))))
  where
    on : IsOf others (indexed_class k c) → slice_get others.classes k ≡ Some c
    on (IsOf.class found) =
        let (j, d, at, e) = out_of_indexed indexed_class 0 others.classes (indexed_class k c) found in
        let index : j ≡ k = sym (zero-add j) ∙ ap (λ (t : IndexedItem). t.index) e in
        subst (λ n. slice_get others.classes n ≡ Some c) index (at ∙ ap (λ (t : IndexedItem). Some (class_of t.item)) e)
      where
        class_of : Item → Class
        class_of (Item.class d) = d
        class_of _ = c
    on (IsOf.procedure found) =
        let (j, p, at, e) = out_of_indexed indexed_procedure 0 others.procedures (indexed_class k c) found in
        let clash : false ≡ true = ap (λ (t : IndexedItem). is_class t.item) e in
        absurd (let never : ⊥ = cc in never)
    on (IsOf.operation found) =
        let (j, o, at, e) = out_of_indexed indexed_operation 0 others.operations (indexed_class k c) found in
        let clash : false ≡ true = ap (λ (t : IndexedItem). is_class t.item) e in
        absurd (let never : ⊥ = cc in never)

procedures_there : (items others : Items) → all_indexed items ≡ all_indexed others → (k : ℕ) (p : Procedure) → slice_get items.procedures k ≡ Some p → slice_get others.procedures k ≡ Some p
procedures_there items others same k p is =
    let t = indexed_procedure k p in
    on (out_of_all others t (subst (Among t) same (into_all items t (IsOf.procedure (indexed_here indexed_procedure k items.procedures p is)))))
  where
    on : IsOf others (indexed_procedure k p) → slice_get others.procedures k ≡ Some p
    on (IsOf.procedure found) =
        let (j, q, at, e) = out_of_indexed indexed_procedure 0 others.procedures (indexed_procedure k p) found in
        let index : j ≡ k = sym (zero-add j) ∙ ap (λ (t : IndexedItem). t.index) e in
        subst (λ n. slice_get others.procedures n ≡ Some p) index (at ∙ ap (λ (t : IndexedItem). Some (procedure_of t.item)) e)
      where
        procedure_of : Item → Procedure
        procedure_of (Item.procedure q) = q
        procedure_of _ = p
    on (IsOf.class found) =
        let (j, c, at, e) = out_of_indexed indexed_class 0 others.classes (indexed_procedure k p) found in
        let clash : true ≡ false = ap (λ (t : IndexedItem). is_class t.item) e in
        absurd (let never : ⊥ = cc in never)
    on (IsOf.operation found) =
        let (j, o, at, e) = out_of_indexed indexed_operation 0 others.operations (indexed_procedure k p) found in
        let clash : false ≡ true = ap (λ (t : IndexedItem). is_procedure t.item) e in
        absurd (let never : ⊥ = cc in never)

operations_there : (items others : Items) → all_indexed items ≡ all_indexed others → (k : ℕ) (o : Operation) → slice_get items.operations k ≡ Some o → slice_get others.operations k ≡ Some o
operations_there items others same k o is =
    let t = indexed_operation k o in
    on (out_of_all others t (subst (Among t) same (into_all items t (IsOf.operation (indexed_here indexed_operation k items.operations o is)))))
  where
    on : IsOf others (indexed_operation k o) → slice_get others.operations k ≡ Some o
    on (IsOf.operation found) =
        let (j, q, at, e) = out_of_indexed indexed_operation 0 others.operations (indexed_operation k o) found in
        let index : j ≡ k = sym (zero-add j) ∙ ap (λ (t : IndexedItem). t.index) e in
        subst (λ n. slice_get others.operations n ≡ Some o) index (at ∙ ap (λ (t : IndexedItem). Some (operation_of t.item)) e)
      where
        operation_of : Item → Operation
        operation_of (Item.operation q) = q
        operation_of _ = o
    on (IsOf.class found) =
        let (j, c, at, e) = out_of_indexed indexed_class 0 others.classes (indexed_operation k o) found in
        let clash : true ≡ false = ap (λ (t : IndexedItem). is_class t.item) e in
        absurd (let never : ⊥ = cc in never)
    on (IsOf.procedure found) =
        let (j, p, at, e) = out_of_indexed indexed_procedure 0 others.procedures (indexed_operation k o) found in
        let clash : true ≡ false = ap (λ (t : IndexedItem). is_procedure t.item) e in
        absurd (let never : ⊥ = cc in never)

-- so the order tells the lists
pub one_list_each : (items others : Items) → all_indexed items ≡ all_indexed others → items ≡ others
one_list_each items others same =
    let back = sym same in
    let classes = same_lists items.classes others.classes (classes_there items others same) (classes_there others items back) in
    let procedures = same_lists items.procedures others.procedures (procedures_there items others same) (procedures_there others items back) in
    let operations = same_lists items.operations others.operations (operations_there items others same) (operations_there others items back) in
    ap (λ l. record items { classes = l }) classes ∙ ap (λ l. record items { classes = others.classes; procedures = l }) procedures ∙ ap (λ l. record others { operations = l }) operations
