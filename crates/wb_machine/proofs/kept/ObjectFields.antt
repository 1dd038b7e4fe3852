-- Fields among the words of cells: those that aren't there, what is read, and what is left of a row once one is written.
use Rattle.std.proofs.Common.{◌≡◌, ℕ, zero, suc, ◌+◌, ◌*◌, ◌<◌, Bool, true, false, cond, List, [], ◌∷◌, length, take, Option, Some, None, Ok, Err, refl, sym, ap, ◌∙◌, arith}
use Rattle.std.specs.Prelude.{nat_le, ◌&&◌, slice_get, slice_set, unwrap_or}
use Rattle.std.proofs.lemmas.Bool.{leb-true, leb-false, eq-eqb}
use Rattle.wb_heap_model.specs.declared.heap.TheConstants.Panic.{WRONG_KIND}
use Rattle.wb_heap_model.specs.declared.heap.Ptr.{Ptr}
use Rattle.wb_heap_model.specs.declared.heap.Kind.{Kind}
use Rattle.wb_heap_model.specs.declared.heap.Kind.TheVariants.{Raw, Object, Text, Cleanup}
use Rattle.wb_tree.specs.declared.script.Script.{Script}
use Rattle.wb_heap_model.specs.Row.{Cell, is_at, cell_at, changed}
use Rattle.wb_heap_model.specs.CellRow.{content_or_nil, payload_of, with_payload}
use Rattle.wb_heap_model.specs.Contents.{fields}
use Rattle.wb_heap_model.specs.Pointers.{null}
use Rattle.wb_meaning.specs.Operands.{set_field}
use Rattle.wb_heap_model.specs.Spelling.{pointers, fields_in, read_as}
use Rattle.wb_heap_model.specs.Debug.{Debug, with_row, debug_changed}
use Rattle.wb_heap_model.proofs.TextCellsHeap.{changed-same}
use Rattle.wb_objects.specs.Objects.{class_of_cell, is_of_class, words_of_cell, words_found, with_field, field_changed}
use Rattle.wb_objects.proofs.Fields.{fields-written}
use Rattle.wb_machine.specs.PointerOperands.{field_among, is_object, words_with_field, row_with_field}
use Rattle.wb_machine.specs.RunState.{RunState, field_count, read_cell, read_row, with_debug}

pointers_short : (ws : List ℕ) (i : ℕ) → length ws < 2 + 2 * i → slice_get (pointers ws) i ≡ None
pointers_short [] i few = refl
pointers_short (a ∷ []) i few = refl
pointers_short (a ∷ b ∷ ws) zero few = absurd (omega (arith, few))
pointers_short (a ∷ b ∷ ws) (suc i) few = pointers_short ws i (omega (arith, few))

taken_none : (n : ℕ) (ps : List Ptr) (i : ℕ) → slice_get ps i ≡ None → slice_get (take n ps) i ≡ None
taken_none zero ps i e = refl
taken_none (suc n) [] i e = refl
taken_none (suc n) (p ∷ ps) zero e = cc
taken_none (suc n) (p ∷ ps) (suc i) e = taken_none n ps i e

-- words that have no room for a field hold none
field_past : (count i : ℕ) (ws : List ℕ) → length ws < 4 + 2 * i → slice_get (fields_in count ws) i ≡ None
field_past count i [] few = taken_none count [] i refl
field_past count i (a ∷ []) few = taken_none count [] i refl
field_past count i (a ∷ b ∷ ws) few = taken_none count (pointers ws) i (pointers_short ws i (omega (arith, few)))

set_none : (ps : List Ptr) (i : ℕ) (q : Ptr) → slice_get ps i ≡ None → slice_set ps i q ≡ ps
set_none [] i q e = refl
set_none (p ∷ ps) zero q e = cc
set_none (p ∷ ps) (suc i) q e = ap (λ rest. p ∷ rest) (set_none ps i q e)

-- so it reads as null
pub field_absent : (count i class : ℕ) (p : Ptr) (d : Debug) → nat_le (4 + 2 * i) (length (payload_of p d.heap.row)) ≡ false → null ≡ field_among count i (words_found d p class)
field_absent count i class p d few = by (cell_at p d.heap.row) few
  where
    by : (o : Option (Cell (List ℕ))) → nat_le (4 + 2 * i) (length (content_or_nil o)) ≡ false → null ≡ field_among count i (words_of_cell class o)
    by None few = refl
    by (Some c) few = of (is_of_class class c.head.kind)
      where
        of : (b : Bool) → null ≡ field_among count i (cond b (Ok c.content) (Err WRONG_KIND))
        of true = sym (ap (λ o. unwrap_or o null) (field_past count i c.content (leb-false (4 + 2 * i) (length c.content) few)))
        of false = refl

-- the cell of an object whose class is known
pub object_there : (o : Option (Cell (List ℕ))) (class : ℕ) → class_of_cell o ≡ Ok class → (c : Cell (List ℕ)) × (o ≡ Some c) × (c.head.kind ≡ Object class)
object_there None class e = cc
object_there (Some c) class e = (c, refl, by c.head.kind e)
  where
    by : (kind : Kind) → class_of_cell (Some (record c { head = record c.head { kind = kind } })) ≡ Ok class → kind ≡ Object class
    by (Object k) e = cc
    by Raw e = cc
    by Text e = cc
    by Cleanup e = cc

-- what is read of a cell whose field was written
content_stored : (script : Script) (i : ℕ) (q : Ptr) (c : Cell (List ℕ)) →
    read_as (field_count script) c.head.kind (words_with_field i q (Some c)) ≡ set_field i q (read_as (field_count script) c.head.kind c.content)
content_stored script i q c = by c.head.kind
  where
    room : (class : ℕ) (b : Bool) → nat_le (4 + 2 * i) (length c.content) ≡ b →
        fields (fields_in (field_count script class) (cond b (with_field i q c.content) c.content)) ≡ fields (slice_set (fields_in (field_count script class) c.content) i q)
    room class true e = ap fields (fields-written (field_count script class) i q c.content (leb-true (4 + 2 * i) (length c.content) e))
    room class false e =
        ap fields (sym (set_none (fields_in (field_count script class) c.content) i q (field_past (field_count script class) i c.content (leb-false (4 + 2 * i) (length c.content) e))))

    by : (kind : Kind) →
        read_as (field_count script) kind (cond (is_object kind && nat_le (4 + 2 * i) (length c.content)) (with_field i q c.content) c.content)
        ≡ set_field i q (read_as (field_count script) kind c.content)
    by (Object class) = room class (nat_le (4 + 2 * i) (length c.content)) refl
    by Raw = refl
    by Text = refl
    by Cleanup = refl

-- a row whose field was written reads as the definitions write it
pub read_row_with_field : (script : Script) (p : Ptr) (i : ℕ) (q : Ptr) (row : List (Cell (List ℕ))) →
    read_row script (row_with_field p i q row) ≡ changed p (set_field i q) (read_row script row)
read_row_with_field script p i q [] = refl
read_row_with_field script p i q (d ∷ ds) = go (is_at p d.head) (read_row_with_field script p i q ds)
  where
    go : (b : Bool) → read_row script (with_payload p (words_with_field i q (cell_at p ds)) ds) ≡ changed p (set_field i q) (read_row script ds) →
        read_row script (cond b (record d { content = words_with_field i q (cond b (Some d) (cell_at p ds)) } ∷ ds) (d ∷ with_payload p (words_with_field i q (cond b (Some d) (cell_at p ds))) ds))
        ≡ cond b (record (read_cell script d) { content = set_field i q (read_cell script d).content } ∷ read_row script ds) (read_cell script d ∷ changed p (set_field i q) (read_row script ds))
    go true rest = ap (λ content. record { head = d.head; content = content } ∷ read_row script ds) (content_stored script i q d)
    go false rest = ap (λ r. read_cell script d ∷ r) rest

-- a field that was put into an object of a class
pub field_put : (d e : Debug) (p q : Ptr) (class i : ℕ) (c : Cell (List ℕ)) → cell_at p d.heap.row ≡ Some c → c.head.kind ≡ Object class →
    e ≡ field_changed d p i q (words_found d p class) → e ≡ debug_changed d p (with_field i q (payload_of p d.heap.row))
field_put d e p q class i c found kind changed =
    let of : is_of_class class c.head.kind ≡ true = ap (is_of_class class) kind ∙ eq-eqb class class refl in
    changed ∙ ap (λ o. field_changed d p i q (words_of_cell class o)) found ∙ ap (λ b. field_changed d p i q (cond b (Ok c.content) (Err WRONG_KIND))) of
    ∙ ap (λ o. debug_changed d p (with_field i q (content_or_nil o))) (sym found)

-- words that stay leave a row as it is
pub row_stays : (h : RunState) (p : Ptr) (i : ℕ) (q : Ptr) → words_with_field i q (cell_at p h.debug.heap.row) ≡ payload_of p h.debug.heap.row →
    h ≡ with_debug h (with_row h.debug (row_with_field p i q h.debug.heap.row))
row_stays h p i q same =
    ap (λ (row : List (Cell (List ℕ))). with_debug h (with_row h.debug row)) (sym (ap (λ ws. with_payload p ws h.debug.heap.row) same ∙ changed-same p h.debug.heap.row))

-- they do where there is no room for the field
pub no_room : (i : ℕ) (q : Ptr) (o : Option (Cell (List ℕ))) → nat_le (4 + 2 * i) (length (content_or_nil o)) ≡ false → words_with_field i q o ≡ content_or_nil o
no_room i q None few = refl
no_room i q (Some c) few = by (is_object c.head.kind) (nat_le (4 + 2 * i) (length c.content)) few
  where
    by : (a b : Bool) → b ≡ false → cond (a && b) (with_field i q c.content) c.content ≡ c.content
    by true true few = cc
    by true false few = refl
    by false b few = refl

-- and where the cell is no object
pub no_object : (i : ℕ) (q : Ptr) (o : Option (Cell (List ℕ))) → ((class : ℕ) → class_of_cell o ≡ Ok class → ⊥) → words_with_field i q o ≡ content_or_nil o
no_object i q None other = refl
no_object i q (Some c) other = by c.head.kind other
  where
    by : (kind : Kind) → ((class : ℕ) → class_of_cell (Some (record c { head = record c.head { kind = kind } })) ≡ Ok class → ⊥) →
        cond (is_object kind && nat_le (4 + 2 * i) (length c.content)) (with_field i q c.content) c.content ≡ c.content
    by (Object k) other = absurd (other k refl)
    by Raw other = refl
    by Text other = refl
    by Cleanup other = refl
