-- Two tiny states that are the same but for numbers, and states that aren't: what the relation asks of each part.
use Rattle.std.proofs.Common.{◌≡◌, ℕ, ◌+◌, false, [], ◌∷◌, List, inl, inr, refl, arith}
use Rattle.std.specs.Prelude.{pos}
use Rattle.wb_heap_model.specs.declared.heap.Kind.TheVariants.{Raw, Cleanup}
use Rattle.wb_heap_model.specs.declared.heap.Ptr.{Ptr}
use Rattle.wb_heap_model.specs.Placement.{first_fit}
use Rattle.wb_heap_model.specs.Row.{Cell}
use Rattle.wb_heap_model.specs.Rules.{never}
use Rattle.wb_heap_model.specs.Contents.{Content, words, none}
use Rattle.wb_meaning.specs.State.{pointer, State}
use Rattle.wb_heap_model.specs.Pointers.{null}
use Rattle.wb_renaming.specs.SameButNumbers.{Names, Renames, Renaming, IsRenaming, AllBeside, none_beside, one_beside, IsSamePointer, same_words, same_none, IsSameValue, same_pointer, IsSameState}

-- the cleanup stack's cell, and a Raw cell after it with this number and level
abbrev cells : ℕ → ℕ → List (Cell Content)
cells number level =
    record { head = record { place = 0; length = 144; kind = Cleanup; level = 0; number = 1 }; content = none }
    ∷ record { head = record { place = 144; length = 32; kind = Raw; level = level; number = number }; content = words (pos 7 ∷ pos 0 ∷ []) }
    ∷ []

-- a script's state with these cells and one variable, which points to the place of the second with a number
abbrev state : ℕ → ℕ → ℕ → State
state number level held = record {
  heap = record { row = cells number level; level = 1; setting = never; placement = first_fit false };
  cleanup = record { place = 0; number = 1 };
  items = [];
  slots = 8;
  frame = record { this = null; locals = pointer (record { place = 144; number = held }) ∷ [] };
  lines = [];
  steps = 0;
}

-- after five attempts in the one run and three in the other
abbrev fork : Renaming
fork = record { names = (0, 0) ∷ (1, 1) ∷ (5, 3) ∷ []; made = 5; other_made = 3 }

-- the second cell was granted by the fifth attempt of the one, and by the third of the other
same_but_for_the_number : IsSameState fork.names (state 5 0 5) (state 3 0 3)
same_but_for_the_number = record {
  heap = record {
    row = one_beside (record { head = record { place = refl; length = refl; kind = refl; level = refl; number = inr (inl (refl, refl)) }; content = same_none })
        (one_beside (record { head = record { place = refl; length = refl; kind = refl; level = refl; number = inr (inr (inl (refl, refl))) }; content = same_words _ }) none_beside);
    level = refl;
    setting = refl;
    placement = refl;
  };
  cleanup = record { place = refl; number = inr (inl (refl, refl)) };
  items = none_beside;
  slots = refl;
  frame = record {
    this = record { place = refl; number = inl (refl, refl) };
    locals = one_beside (same_pointer (record { place = refl; number = inr (inr (inl (refl, refl))) })) none_beside;
  };
}

first_of : {A B : Type 0} {R : A → B → Type 0} {x : A} {y : B} {xs : List A} {ys : List B} → AllBeside R (x ∷ xs) (y ∷ ys) → R x y
first_of (one_beside r rest) = r

rest_of : {A B : Type 0} {R : A → B → Type 0} {x : A} {y : B} {xs : List A} {ys : List B} → AllBeside R (x ∷ xs) (y ∷ ys) → AllBeside R xs ys
rest_of (one_beside r rest) = rest

held_pointer : {names : Names} {p q : Ptr} → IsSameValue names (pointer p) (pointer q) → IsSamePointer names p q
held_pointer (same_pointer s) = s

-- a pointer to a live cell isn't beside one to a cell that was there before, whatever the map
stale_is_not_live : (w : Renaming) → IsRenaming w → IsSameState w.names (state 5 0 5) (state 3 0 2) → ⊥
stale_is_not_live w is s =
    let live : Renames w.names 5 3 = (first_of (rest_of s.heap.row)).head.number in
    let held : Renames w.names 5 2 = (held_pointer (first_of s.frame.locals)).number in
    let same : ◌≡◌ {A = ℕ} 3 2 = is.once 5 3 2 live held in
    absurd (omega arith)

-- nor a null pointer beside one that isn't null
null_is_null : (w : Renaming) → IsRenaming w → IsSameState w.names (state 5 0 0) (state 3 0 2) → ⊥
null_is_null w is s =
    let held : Renames w.names 0 2 = (held_pointer (first_of s.frame.locals)).number in
    let same : ◌≡◌ {A = ℕ} 0 2 = is.once 0 0 2 is.null held in
    absurd (omega arith)

-- a cell of another level isn't the same: a check would count it elsewhere
levels_count : (w : Renaming) → IsSameState w.names (state 5 0 5) (state 3 1 3) → ⊥
levels_count w s =
    let same : ◌≡◌ {A = ℕ} 1 0 = (first_of (rest_of s.heap.row)).head.level in
    absurd (omega arith)

-- a number still to come is in no map: the attempt that gets it would bring a stale pointer to life in one of the two alone
future_is_unnamed : (w : Renaming) → IsRenaming w → Renames w.names 2 (w.other_made + 1) → ⊥
future_is_unnamed w is r = let before = is.made_before 2 (w.other_made + 1) r in absurd (omega (arith, before.1))
