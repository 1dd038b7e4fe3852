-- Items in the words of slots: what is written is read, and words that are no item's are read as none.
use Rattle.std.proofs.Common.{◌≡◌, ℕ, suc, ◌*◌, ◌^◌, List, [], ◌∷◌, ◌++◌, All, length, drop, Some, None, option_map, true, refl, sym, ap, ◌∙◌, arith}
use Rattle.std.specs.Prelude.{nat_lt}
use Rattle.std.proofs.lemmas.Bool.{lt-ltb}
use Rattle.std.proofs.lemmas.List.{take-append-drop}
use Rattle.std.proofs.lemmas.Option.{same_Some}
use Rattle.wb_heap_model.specs.declared.heap.Ptr.{Ptr}
use Rattle.wb_heap_model.specs.declared.heap.Item.{Item}
use Rattle.wb_heap_model.specs.declared.heap.Item.TheVariants.{Free, Delete, Call}
use Rattle.wb_heap_model.specs.CleanupCells.{items_words, IsItem, IsCleanup, items_in}

-- the words of items are read as these items, whatever follows
pub items-read : (items : List Item) (rest : List ℕ) → All IsItem items → items_in (length items) (items_words items ++ rest) ≡ Some items
items-read [] rest all = refl
items-read (Free p ∷ items) rest all =
    ap (option_map (λ is. Free p ∷ is)) (items-read items rest (λ k item lt. all (suc k) item (omega arith)))
items-read (Delete p ∷ items) rest all =
    ap (option_map (λ is. Delete p ∷ is)) (items-read items rest (λ k item lt. all (suc k) item (omega arith)))
items-read (Call p operation ∷ items) rest all =
    let short : nat_lt operation (2 ^ 16) ≡ true = lt-ltb operation (2 ^ 16) (all 0 (Call p operation) (omega arith)) in
    rw short (ap (option_map (λ is. Call p operation ∷ is)) (items-read items rest (λ k item lt. all (suc k) item (omega arith))))

-- so is the cell of the cleanup stack
pub cleanup-read : (slots : ℕ) (ws : List ℕ) (items : List Item) → IsCleanup slots ws items → items_in (length items) ws ≡ Some items
cleanup-read slots ws items is =
    let n = 4 * length items in
    ap (items_in (length items)) (sym (take-append-drop n ws) ∙ ap (λ vs. vs ++ drop n ws) is.words)
    ∙ items-read items (drop n ws) is.are_items

-- words spell one list of items of a length at most
pub same-items : (slots : ℕ) (ws : List ℕ) (a b : List Item) → length a ≡ length b → IsCleanup slots ws a → IsCleanup slots ws b → a ≡ b
same-items slots ws a b n x y =
    same_Some a b (sym (cleanup-read slots ws a x) ∙ ap (λ k. items_in k ws) n ∙ cleanup-read slots ws b y)

abbrev at : ℕ → ℕ → Ptr
at place number = record { place = place; number = number }

freed_item : items_in 1 (1 ∷ 144 ∷ 2 ∷ 0 ∷ []) ≡ Some (Free (at 144 2) ∷ [])
freed_item = refl

items_and_an_unused_slot : items_in 2 (2 ∷ 144 ∷ 2 ∷ 0 ∷ 3 ∷ 176 ∷ 4 ∷ 1 ∷ 9 ∷ 9 ∷ 9 ∷ 9 ∷ []) ≡ Some (Delete (at 144 2) ∷ Call (at 176 4) 1 ∷ [])
items_and_an_unused_slot = refl

operation_of_an_item_without_one : items_in 1 (1 ∷ 144 ∷ 2 ∷ 5 ∷ []) ≡ None
operation_of_an_item_without_one = refl

operation_of_an_object : items_in 1 (2 ∷ 144 ∷ 2 ∷ 1 ∷ []) ≡ None
operation_of_an_object = refl

operation_past_16_bits : items_in 1 (3 ∷ 144 ∷ 2 ∷ 65536 ∷ []) ≡ None
operation_past_16_bits = refl

slot_of_zeros : items_in 1 (0 ∷ 0 ∷ 0 ∷ 0 ∷ []) ≡ None
slot_of_zeros = refl

slot_of_an_unknown_item : items_in 1 (4 ∷ 144 ∷ 2 ∷ 0 ∷ []) ≡ None
slot_of_an_unknown_item = refl

slot_past_the_end : items_in 2 (1 ∷ 144 ∷ 2 ∷ 0 ∷ []) ≡ None
slot_past_the_end = refl
