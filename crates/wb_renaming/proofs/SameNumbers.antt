-- Pointers, headers, contents and lists that are the same but for numbers, and what doesn't depend on the numbers.
use Rattle.std.proofs.Common.{◌≡◌, ℕ, zero, suc, ◌+◌, ◌≤◌, Bool, true, false, ◌&&◌, List, ◌++◌, length, take, inl, inr, refl, sym, ◌∙◌, ap, subst, arith, cond, filter, Option, Some, None}
use Rattle.std.specs.Prelude.{nat_eq, slice_get, slice_set, unwrap_or}
use Rattle.wb_heap_model.specs.declared.heap.Header.{Header}
use Rattle.wb_heap_model.specs.declared.heap.Item.{Item}
use Rattle.wb_heap_model.specs.declared.heap.Ptr.{Ptr}
use Rattle.wb_heap_model.specs.declared.text.Base.{Base}
use Rattle.wb_heap_model.specs.declared.text.View.{View}
use Rattle.wb_heap_model.specs.Heap.{Heap}
use Rattle.wb_heap_model.specs.Row.{Cell, is_at}
use Rattle.wb_heap_model.specs.Contents.{Content}
use Rattle.wb_meaning.specs.State.{Value, Frame, State}
use Rattle.wb_meaning.specs.Statements.{Todo}
use Rattle.wb_heap_model.specs.Pointers.{is_null, is_same_pointer}
use Rattle.wb_meaning.specs.Rest.{Afterwards, Pending}
use Rattle.wb_renaming.specs.SameButNumbers.{Names, Renames, Renaming, IsRenaming, one_more, AllBeside, none_beside, one_beside, IsSamePointer, IsSameHeader, IsSameContent, same_words, same_fields, same_units, same_none, IsSameCell, IsSameHeap, IsSameItem, same_free, same_delete, same_call, IsSameBase, same_nothing, same_literal, same_local, same_cell, IsSameView, IsSameValue, same_pointer, same_number, same_buffer, same_view, IsSameFrame, IsSameState, IsSameTodo, same_statements, same_turns, same_items, same_object, IsSameAfterwards, same_nothing_more, same_gives_to, same_releases, IsSamePending, same_doing, same_catching, same_caught, same_calling, same_main_catching, same_main_caught}
use Rattle.wb_heap_model.proofs.Settings.{same_test}

pub ap_two : {A B C : Type 0} (f : A → B → C) {a b : A} {x y : B} → a ≡ b → x ≡ y → f a x ≡ f b y
ap_two f {a = a} {b = b} {x = x} {y = y} p q = ap (λ z. f z x) p ∙ ap (λ z. f b z) q

-- a choice by tests that hold alike
pub cond-beside : {A B : Type 0} (R : A → B → Type 0) (b c : Bool) (x y : A) (z u : B) → c ≡ b → R x z → R y u → R (cond b x y) (cond c z u)
cond-beside R true true x y z u e one other = one
cond-beside R false false x y z u e one other = other
cond-beside R true false x y z u e one other = cc
cond-beside R false true x y z u e one other = cc

-- a new number is new to both runs
pub one_more-renaming : (w : Renaming) → IsRenaming w → IsRenaming (one_more w)
one_more-renaming w is = record { null = inr is.null; once = once; apart = apart; made_before = before }
  where
    once : (a b c : ℕ) → Renames (one_more w).names a b → Renames (one_more w).names a c → b ≡ c
    once a b c (inl p) (inl q) = p.1 ∙ sym q.1
    once a b c (inl p) (inr q) = let new : a ≡ w.made + 1 = p.0 in let old = is.made_before a c q in absurd (omega (arith, old.0))
    once a b c (inr p) (inl q) = let new : a ≡ w.made + 1 = q.0 in let old = is.made_before a b p in absurd (omega (arith, old.0))
    once a b c (inr p) (inr q) = is.once a b c p q

    apart : (a b c : ℕ) → Renames (one_more w).names a c → Renames (one_more w).names b c → a ≡ b
    apart a b c (inl p) (inl q) = p.0 ∙ sym q.0
    apart a b c (inl p) (inr q) = let new : c ≡ w.other_made + 1 = p.1 in let old = is.made_before b c q in absurd (omega (arith, old.1))
    apart a b c (inr p) (inl q) = let new : c ≡ w.other_made + 1 = q.1 in let old = is.made_before a c p in absurd (omega (arith, old.1))
    apart a b c (inr p) (inr q) = is.apart a b c p q

    before : (a b : ℕ) → Renames (one_more w).names a b → (a ≤ w.made + 1) × (b ≤ w.other_made + 1)
    before a b (inl p) =
        let one : a ≡ w.made + 1 = p.0 in
        let other : b ≡ w.other_made + 1 = p.1 in
        (omega arith, omega arith)
    before a b (inr p) = let m = is.made_before a b p in (omega (arith, m.0), omega (arith, m.1))

-- the new number itself
pub new-renamed : (w : Renaming) → Renames (one_more w).names (w.made + 1) (w.other_made + 1)
new-renamed w = inl (refl, refl)

-- numbers are equal where those that stand for them are
pub number-test : {w : Renaming} → IsRenaming w → (a b x y : ℕ) → Renames w.names a x → Renames w.names b y → nat_eq x y ≡ nat_eq a b
number-test {w = w} is a b x y r s =
    same_test x y a b (λ e. is.apart a b y (subst (λ z. Renames w.names a z) e r) s) (λ e. is.once b x y (subst (λ z. Renames w.names z x) e r) s)

pub null-test : {w : Renaming} {p q : Ptr} → IsRenaming w → IsSamePointer w.names p q → is_null q ≡ is_null p
null-test {p = p} {q = q} is s = number-test is p.number 0 q.number 0 s.number is.null

pub pointer-test : {w : Renaming} {p q x y : Ptr} → IsRenaming w → IsSamePointer w.names p x → IsSamePointer w.names q y → is_same_pointer x y ≡ is_same_pointer p q
pointer-test {p = p} {q = q} {x = x} {y = y} is s t =
    ap_two ◌&&◌ (ap_two nat_eq s.place t.place) (number-test is p.number q.number x.number y.number s.number t.number)

pub at-test : {w : Renaming} {p q : Ptr} {h g : Header} → IsRenaming w → IsSamePointer w.names p q → IsSameHeader w.names h g → is_at q g ≡ is_at p h
at-test {p = p} {q = q} {h = h} {g = g} is s t =
    ap_two ◌&&◌ (ap_two nat_eq s.place t.place) (number-test is p.number h.number q.number g.number s.number t.number)

-- two lists, one by one
module _ {A B : Type 0} where
  pub all-weaker : {R S : A → B → Type 0} {xs : List A} {ys : List B} → ((x : A) (y : B) → R x y → S x y) → AllBeside R xs ys → AllBeside S xs ys
  all-weaker f none_beside = none_beside
  all-weaker f (one_beside r rest) = one_beside (f _ _ r) (all-weaker f rest)

  pub length-beside : {R : A → B → Type 0} {xs : List A} {ys : List B} → AllBeside R xs ys → length ys ≡ length xs
  length-beside none_beside = refl
  length-beside (one_beside r rest) = ap suc (length-beside rest)

  pub append-beside : {R : A → B → Type 0} {xs xs' : List A} {ys ys' : List B} → AllBeside R xs ys → AllBeside R xs' ys' → AllBeside R (xs ++ xs') (ys ++ ys')
  append-beside none_beside more = more
  append-beside (one_beside r rest) more = one_beside r (append-beside rest more)

  pub take-beside : {R : A → B → Type 0} (n : ℕ) {xs : List A} {ys : List B} → AllBeside R xs ys → AllBeside R (take n xs) (take n ys)
  take-beside zero all = none_beside
  take-beside (suc n) none_beside = none_beside
  take-beside (suc n) (one_beside r rest) = one_beside r (take-beside n rest)

  pub set-beside : {R : A → B → Type 0} (i : ℕ) (x : A) (y : B) {xs : List A} {ys : List B} → R x y → AllBeside R xs ys → AllBeside R (slice_set xs i x) (slice_set ys i y)
  set-beside i x y new none_beside = none_beside
  set-beside zero x y new (one_beside r rest) = one_beside new rest
  set-beside (suc i) x y new (one_beside r rest) = one_beside r (set-beside i x y new rest)

-- a choice in a list by tests that hold alike
pub filter-beside : {A B : Type 0} {R : A → B → Type 0} {xs : List A} {ys : List B} (f : A → Bool) (g : B → Bool) → ((x : A) (y : B) → R x y → g y ≡ f x) →
    AllBeside R xs ys → AllBeside R (filter f xs) (filter g ys)
filter-beside f g same none_beside = none_beside
filter-beside {R = R} f g same (one_beside r rest) =
    cond-beside (AllBeside R) _ _ _ _ _ _ (same _ _ r) (one_beside r (filter-beside f g same rest)) (filter-beside f g same rest)

-- two values, or none in either
pub data BothSome {A B : Type 0} (R : A → B → Type 0) : Option A → Option B → Type 0 where
  neither : BothSome R None None
  both_some : {x : A} {y : B} → R x y → BothSome R (Some x) (Some y)

module _ {A B : Type 0} where
  pub get-beside : {R : A → B → Type 0} {xs : List A} {ys : List B} (i : ℕ) → AllBeside R xs ys → BothSome R (slice_get xs i) (slice_get ys i)
  get-beside i none_beside = neither
  get-beside zero (one_beside r rest) = both_some r
  get-beside (suc i) (one_beside r rest) = get-beside i rest

  pub unwrap-beside : {R : A → B → Type 0} {o : Option A} {q : Option B} (x : A) (y : B) → R x y → BothSome R o q → R (unwrap_or o x) (unwrap_or q y)
  unwrap-beside x y r neither = r
  unwrap-beside x y r (both_some s) = s

-- a map that has the pairs of another
abbrev pub Extends : Names → Names → Type 0
Extends names more = (a b : ℕ) → Renames names a b → Renames more a b

module _ {names more : Names} (x : Extends names more) where
  pub pointer-later : {p q : Ptr} → IsSamePointer names p q → IsSamePointer more p q
  pointer-later {p = p} {q = q} s = record { place = s.place; number = x p.number q.number s.number }

  pub header-later : {h g : Header} → IsSameHeader names h g → IsSameHeader more h g
  header-later {h = h} {g = g} s =
      record { place = s.place; length = s.length; kind = s.kind; level = s.level; number = x h.number g.number s.number }

  pub content-later : {c d : Content} → IsSameContent names c d → IsSameContent more c d
  content-later (same_words ws) = same_words ws
  content-later (same_fields s) = same_fields (all-weaker (λ p q r. pointer-later r) s)
  content-later (same_units us) = same_units us
  content-later same_none = same_none

  pub cell-later : {c d : Cell Content} → IsSameCell names c d → IsSameCell more c d
  cell-later s = record { head = header-later s.head; content = content-later s.content }

  pub row-later : {xs ys : List (Cell Content)} → AllBeside (IsSameCell names) xs ys → AllBeside (IsSameCell more) xs ys
  row-later all = all-weaker (λ c d r. cell-later r) all

  pub heap-later : {h g : Heap Content} → IsSameHeap names h g → IsSameHeap more h g
  heap-later s = record { row = row-later s.row; level = s.level; setting = s.setting; placement = s.placement }

  pub item-later : {i j : Item} → IsSameItem names i j → IsSameItem more i j
  item-later (same_free s) = same_free (pointer-later s)
  item-later (same_delete s) = same_delete (pointer-later s)
  item-later (same_call operation s) = same_call operation (pointer-later s)

  pub base-later : {b c : Base} → IsSameBase names b c → IsSameBase more b c
  base-later same_nothing = same_nothing
  base-later (same_literal i) = same_literal i
  base-later (same_local i) = same_local i
  base-later (same_cell s) = same_cell (pointer-later s)

  pub view-later : {v u : View} → IsSameView names v u → IsSameView more v u
  view-later s = record { base = base-later s.base; position = s.position; length = s.length }

  pub value-later : {v u : Value} → IsSameValue names v u → IsSameValue more v u
  value-later (same_pointer s) = same_pointer (pointer-later s)
  value-later (same_number z) = same_number z
  value-later (same_buffer max us) = same_buffer max us
  value-later (same_view s) = same_view (view-later s)

  pub frame-later : {f g : Frame} → IsSameFrame names f g → IsSameFrame more f g
  frame-later s = record { this = pointer-later s.this; locals = all-weaker (λ v u r. value-later r) s.locals }

  pub state-later : {st other : State} → IsSameState names st other → IsSameState more st other
  state-later s = record {
    heap = heap-later s.heap;
    cleanup = pointer-later s.cleanup;
    items = all-weaker (λ i j r. item-later r) s.items;
    slots = s.slots;
    frame = frame-later s.frame;
  }

  pub todo-later : {p q : Todo} → IsSameTodo names p q → IsSameTodo more p q
  todo-later (same_statements statements) = same_statements statements
  todo-later (same_turns n body) = same_turns n body
  todo-later (same_items n) = same_items n
  todo-later (same_object s) = same_object (pointer-later s)

  pub afterwards-later : {a b : Afterwards} → IsSameAfterwards names a b → IsSameAfterwards more a b
  afterwards-later same_nothing_more = same_nothing_more
  afterwards-later (same_gives_to i) = same_gives_to i
  afterwards-later (same_releases s) = same_releases (pointer-later s)

  pub pending-later : {p q : Pending} → IsSamePending names p q → IsSamePending more p q
  pending-later (same_doing at s) = same_doing at (todo-later s)
  pending-later (same_catching at i entry) = same_catching at i entry
  pending-later (same_caught i code) = same_caught i code
  pending-later (same_calling f a) = same_calling (frame-later f) (afterwards-later a)
  pending-later (same_main_catching at) = same_main_catching at
  pending-later (same_main_caught code) = same_main_caught code
