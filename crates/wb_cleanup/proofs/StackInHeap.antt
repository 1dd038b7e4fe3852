-- The stack in a heap: what its words are read as, and what a change of them or of its cell leaves.
use Rattle.std.proofs.Common.{◌≡◌, ℕ, zero, suc, ◌+◌, ◌-◌, ◌*◌, ◌<◌, ◌≤◌, List, [], ◌∷◌, ◌++◌, All, length, take, slice_get, Some, None, Bool, true, false, cond, refl, sym, ap, subst, ◌∙◌, arith, length-append}
use Rattle.std.specs.Prelude.{unwrap_or}
use Rattle.std.proofs.lemmas.Bool.{le-leb, leb-true}
use Rattle.std.proofs.lemmas.List.{length-take-le}
use Rattle.std.proofs.lemmas.List.Elements.{All-append, All-cons, All-nil, All-take}
use Rattle.wb_basics.specs.declared.limits.TheConstants.{CEILING}
use Rattle.wb_heap_model.specs.declared.heap.Item.{Item}
use Rattle.wb_heap_model.specs.Row.{cell_at}
use Rattle.wb_heap_model.specs.CellRow.{content_or_nil, payload_of}
use Rattle.wb_heap_model.specs.CleanupCells.{slot_words, IsItem, IsCleanup, IsCleanupAt, items_in}
use Rattle.wb_heap_model.specs.Debug.{Debug, debug_changed}
use Rattle.wb_heap_model.specs.Pointers.{newest}
use Rattle.wb_heap_model.proofs.CleanupCells.{cleanup-read}
use Rattle.wb_heap_model.proofs.TextCellsHeap.{found-changed}
use Rattle.wb_cleanup.specs.declared.cleanup.Cleanup.{Cleanup}
use Rattle.wb_cleanup.specs.Slots.{with_words, words_of_slot}
use Rattle.wb_cleanup.specs.Stacks.{has_above, newest_above, IsStack, IsPopped, cell_of, slots_of, count_of, items_of, all_but}
use Rattle.wb_cleanup.proofs.SlotWords.{length-slot_words, length-with_words, slot-spells, words-fewer, words-put}

-- the stack is in the heap with these items
pub record Stands (stack : Cleanup) (items : List Item) (d : Debug) : Type 0 where
  pub is : IsStack stack d
  pub items_are : items_of stack d ≡ items

pub stands : (stack : Cleanup) (items : List Item) (d : Debug) → IsCleanupAt (cell_of stack) (slots_of stack) items d → count_of stack ≡ length items →
    16 * (slots_of stack + 1) ≤ CEILING → Stands stack items d
stands stack items d at counted bounded =
    let words : payload_of (cell_of stack) d.heap.row ≡ at.cell.content = ap content_or_nil at.found in
    let read : items_of stack d ≡ items =
    ap (λ ws. unwrap_or (items_in (count_of stack) ws) []) words ∙ ap (λ n. unwrap_or (items_in n at.cell.content) []) counted
    ∙ ap (λ o. unwrap_or o []) (cleanup-read (slots_of stack) at.cell.content items at.spells) in
    record {
      is = record {
        cell = subst (λ is. IsCleanupAt (cell_of stack) (slots_of stack) is d) (sym read) at;
        counted = counted ∙ ap length (sym read);
        bounded = bounded;
      };
      items_are = read;
    }

-- it is in every heap with the same cell
pub stack-kept : (stack : Cleanup) (d e : Debug) → cell_at (cell_of stack) e.heap.row ≡ cell_at (cell_of stack) d.heap.row → IsStack stack d →
    Stands stack (items_of stack d) e
stack-kept stack d e same is =
    stands stack (items_of stack d) e
    (record { cell = is.cell.cell; found = same ∙ is.cell.found; kind = is.cell.kind; usable = is.cell.usable; whole = is.cell.whole; spells = is.cell.spells })
    is.counted is.bounded

-- the words of its cell are four for each slot
pub stack-room : (stack : Cleanup) (d : Debug) → IsStack stack d → length (payload_of (cell_of stack) d.heap.row) ≡ 4 * slots_of stack
stack-room stack d is = ap (λ o. length (content_or_nil o)) is.cell.found ∙ is.cell.spells.room

-- other words in its cell that spell other items
pub stack-changed : (old new : Cleanup) (d e : Debug) (ws : List ℕ) (items : List Item) → IsStack old d → e ≡ debug_changed d (cell_of old) ws →
    cell_of new ≡ cell_of old → slots_of new ≡ slots_of old → count_of new ≡ length items → IsCleanup (slots_of old) ws items → Stands new items e
stack-changed old new d e ws items is changed cell slots counted spells =
    stands new items e
    (subst (λ p. IsCleanupAt p (slots_of new) items e) (sym cell)
    (subst (λ n. IsCleanupAt (cell_of old) n items e) (sym slots)
    (record {
      cell = record is.cell.cell { content = ws };
      found = ap (λ (x : Debug). cell_at (cell_of old) x.heap.row) changed ∙ found-changed (cell_of old) ws d.heap.row is.cell.cell is.cell.found;
      kind = is.cell.kind;
      usable = is.cell.usable;
      whole = is.cell.whole;
      spells = spells;
    }))) counted (omega (arith, slots, is.bounded))

-- fewer items
pub stack-fewer : (old new : Cleanup) (d : Debug) (n : ℕ) → IsStack old d → cell_of new ≡ cell_of old → slots_of new ≡ slots_of old → n ≤ count_of old →
    count_of new ≡ count_of old - n → Stands new (all_but n (items_of old d)) d
stack-fewer old new d n is cell slots within counted =
    let items = items_of old d in
    let m = length items - n in
    let most : m ≤ length items = omega arith in
    let left : length (take m items) ≡ m = length-take-le m items most in
    stands new (take m items) d
    (subst (λ p. IsCleanupAt p (slots_of new) (take m items) d) (sym cell)
    (subst (λ k. IsCleanupAt (cell_of old) k (take m items) d) (sym slots)
    (record {
      cell = is.cell.cell;
      found = is.cell.found;
      kind = is.cell.kind;
      usable = is.cell.usable;
      whole = is.cell.whole;
      spells = record {
        words = ap (λ k. take (4 * k) is.cell.cell.content) left ∙ words-fewer items m is.cell.cell.content most is.cell.spells.words;
        room = is.cell.spells.room;
        fits = omega (arith, left, most, is.cell.spells.fits);
        are_items = All-take IsItem m items is.cell.spells.are_items;
      };
    }))) (omega (arith, counted, is.counted, left)) (omega (arith, slots, is.bounded))

pub popped : (old new : Cleanup) (n : ℕ) → cell_of new ≡ cell_of old → slots_of new ≡ slots_of old → n ≤ count_of old → count_of new ≡ count_of old - n → IsPopped n old new
popped old new n cell slots within counted = record {
  cell = cell;
  slots = slots;
  within = within;
  count = counted;
  stands = λ d is. (stack-fewer old new d n is cell slots within counted).is;
  items = λ d is. (stack-fewer old new d n is cell slots within counted).items_are;
}

-- one item more, in the next slot
pub stack-more : (old new : Cleanup) (d e : Debug) (item : Item) → IsStack old d → IsItem item → count_of old < slots_of old →
    e ≡ debug_changed d (cell_of old) (with_words (4 * count_of old) (slot_words item) (payload_of (cell_of old) d.heap.row)) →
    cell_of new ≡ cell_of old → slots_of new ≡ slots_of old → count_of new ≡ count_of old + 1 → Stands new (items_of old d ++ item ∷ []) e
stack-more old new d e item is is-item room changed cell slots counted =
    let items = items_of old d in
    let ws = is.cell.cell.content in
    let payload : payload_of (cell_of old) d.heap.row ≡ ws = ap content_or_nil is.cell.found in
    let more : length (items ++ item ∷ []) ≡ length items + 1 = length-append items (item ∷ []) in
    let fits : 4 * (length items + 1) ≤ length ws = omega (arith, is.cell.spells.room, is.counted, room) in
    let written : e ≡ debug_changed d (cell_of old) (with_words (4 * length items) (slot_words item) ws) =
    changed ∙ ap (λ us. debug_changed d (cell_of old) (with_words (4 * count_of old) (slot_words item) us)) payload
    ∙ ap (λ k. debug_changed d (cell_of old) (with_words (4 * k) (slot_words item) ws)) is.counted in
    stack-changed old new d e (with_words (4 * length items) (slot_words item) ws) (items ++ item ∷ []) is written cell slots
    (omega (arith, counted, is.counted, more))
    (record {
      words = ap (λ k. take (4 * k) (with_words (4 * length items) (slot_words item) ws)) more ∙ words-put items item ws fits is.cell.spells.words;
      room = length-with_words (4 * length items) (slot_words item) ws (omega (arith, length-slot_words item, fits)) ∙ is.cell.spells.room;
      fits = omega (arith, more, is.counted, room);
      are_items = All-append IsItem items (item ∷ []) is.cell.spells.are_items (All-cons IsItem item [] is-item (All-nil IsItem));
    })

-- the last slot that is used spells the newest item
pub newest-slot : (stack : Cleanup) (d : Debug) (item : Item) (k : ℕ) → IsStack stack d → newest (items_of stack d) ≡ Some item → k ≡ count_of stack - 1 →
    words_of_slot k (payload_of (cell_of stack) d.heap.row) ≡ slot_words item
newest-slot stack d item k is found last =
    let items = items_of stack d in
    let here : k ≡ length items - 1 = omega (arith, last, is.counted) in
    ap (λ ws. words_of_slot k ws) (ap content_or_nil is.cell.found)
    ∙ ap (λ j. words_of_slot j is.cell.cell.content) here
    ∙ slot-spells items (length items - 1) item is.cell.cell.content is.cell.spells.words found

-- an item that is above a floor
pub record IsNewest (floor : ℕ) (stack : Cleanup) (d : Debug) : Type 0 where
  pub item : Item
  pub found : newest_above floor (items_of stack d) ≡ Some item
  pub spells : words_of_slot (count_of stack - 1) (payload_of (cell_of stack) d.heap.row) ≡ slot_words item
  pub is_item : IsItem item

-- a list has an element at each place
element : (items : List Item) (k : ℕ) → k < length items → (item : Item) × (slice_get items k ≡ Some item)
element [] k lt = absurd (omega (arith, lt))
element (item ∷ items) zero lt = (item, refl)
element (item ∷ items) (suc k) lt = element items k (omega (arith, lt))

at-element : (items : List Item) (k : ℕ) (item : Item) → All IsItem items → slice_get items k ≡ Some item → IsItem item
at-element [] k item all found = cc
at-element (first ∷ items) zero item all found =
    let same : first ≡ item = cc in
    subst IsItem same (all 0 first (omega arith))
at-element (first ∷ items) (suc k) item all found = at-element items k item (λ j x lt. all (suc j) x (omega (arith, lt))) found

pub newest-is : (floor : ℕ) (stack : Cleanup) (d : Debug) → IsStack stack d → floor < count_of stack → IsNewest floor stack d
newest-is floor stack d is above =
    let items = items_of stack d in
    let last = element items (length items - 1) (omega (arith, above, is.counted)) in
    let enough : has_above floor 1 items ≡ true = le-leb (floor + 1) (length items) (omega (arith, above, is.counted)) in
    record {
      item = last.0;
      found = ap (λ b. cond b (newest items) None) enough ∙ last.1;
      spells = newest-slot stack d last.0 (count_of stack - 1) is last.1 refl;
      is_item = at-element items (length items - 1) last.0 is.cell.spells.are_items last.1;
    }

-- where one is above a floor there is one
pub newest-within : (floor : ℕ) (stack : Cleanup) (d : Debug) (item : Item) → IsStack stack d → newest_above floor (items_of stack d) ≡ Some item → floor < count_of stack
newest-within floor stack d item is found = by (has_above floor 1 (items_of stack d)) refl found
  where
    by : (b : Bool) → has_above floor 1 (items_of stack d) ≡ b → cond b (newest (items_of stack d)) None ≡ Some item → floor < count_of stack
    by true enough found = omega (arith, leb-true (floor + 1) (length (items_of stack d)) enough, is.counted)
    by false enough found = cc
