-- The object that a pointer names: what is read of it, and the heap once a field of it was written.
use Rattle.std.proofs.Common.{◌≡◌, ℕ, suc, ◌+◌, ◌*◌, ◌<◌, ◌≤◌, Bool, true, false, cond, List, length, slice_index, Option, Some, None, Result, Ok, Err, refl, sym, ap, subst, ◌∙◌, arith, add-one}
use Rattle.std.specs.Prelude.{IfOk, slice_get, slice_set}
use Rattle.std.proofs.lemmas.Bool.{eq-eqb}
use Rattle.std.proofs.lemmas.List.{length-set}
use Rattle.wb_heap_model.specs.declared.heap.TheConstants.Panic.{WRONG_KIND}
use Rattle.wb_heap_model.specs.declared.heap.Ptr.{Ptr}
use Rattle.wb_heap_model.specs.declared.heap.Panic.{Panic}
use Rattle.wb_heap_model.specs.Row.{Cell, cell_at}
use Rattle.wb_heap_model.specs.CellRow.{content_or_nil, payload_of}
use Rattle.wb_heap_model.specs.Spelling.{fields_in}
use Rattle.wb_heap_model.specs.Texts.{answer_of}
use Rattle.wb_heap_model.specs.Debug.{Debug, with_row, debug_changed}
use Rattle.wb_heap_model.specs.ObjectCells.{IsObject, IsObjectAt}
use Rattle.wb_heap_model.proofs.TextCellsHeap.{found-changed, changed-twice}
use Rattle.wb_objects.specs.Objects.{is_of_class, words_of_cell, words_found, HasField, field_in, field_of, with_field, field_changed}
use Rattle.wb_objects.proofs.Fields.{field-read, field-among, field-written, fields-written, object-written}

-- the cell that a pointer names is an object of the class
pub record IsFound (d : Debug) (p : Ptr) (class : ℕ) : Type 0 where
  pub cell : Cell (List ℕ)
  pub found : cell_at p d.heap.row ≡ Some cell
  pub words : words_found d p class ≡ Ok cell.content

-- so it is where nothing is refused
pub expected : (d : Debug) (p : Ptr) (class : ℕ) → Ok tt ≡ answer_of (words_found d p class) → IsFound d p class
expected d p class fine = by (cell_at p d.heap.row) refl fine
  where
    by : (o : Option (Cell (List ℕ))) → cell_at p d.heap.row ≡ o → Ok tt ≡ answer_of (words_of_cell class o) → IsFound d p class
    by None e fine = cc
    by (Some c) e fine = is (is_of_class class c.head.kind) refl fine
      where
        is : (b : Bool) → is_of_class class c.head.kind ≡ b → Ok tt ≡ answer_of (cond b (Ok c.content) (Err WRONG_KIND)) → IsFound d p class
        is true of fine = record {
          cell = c;
          found = e;
          words = ap (words_of_cell class) e ∙ ap (λ b. cond b (Ok c.content) (Err WRONG_KIND)) of;
        }
        is false of fine = cc

-- its words have room for a field
pub has-room : (d : Debug) (p : Ptr) (class i : ℕ) (is : IsFound d p class) → HasField d p class i → 4 + 2 * i ≤ length is.cell.content
has-room d p class i is has = subst (λ r. IfOk r (λ ws. 4 + 2 * i ≤ length ws)) is.words has

-- an object has words for each of its fields
pub object-has : (d : Debug) (p : Ptr) (class count i : ℕ) → IsObjectAt p class count d → i < count → HasField d p class i
object-has d p class count i is within =
    let ws = is.cell.content in
    let of : is_of_class class is.cell.head.kind ≡ true = ap (is_of_class class) is.kind ∙ eq-eqb class class refl in
    let words : words_found d p class ≡ Ok ws = ap (words_of_cell class) is.found ∙ ap (λ b. cond b (Ok ws) (Err WRONG_KIND)) of in
    subst (λ r. IfOk r (λ vs. 4 + 2 * i ≤ length vs)) (sym words) (omega (arith, is.object.fits, is.counted, within))

-- the field is read from its two words
pub field-found : (d : Debug) (p : Ptr) (class i at place number : ℕ) → Ok tt ≡ answer_of (words_found d p class) → HasField d p class i → at ≡ 2 + 2 * i →
    place ≡ slice_index (payload_of p d.heap.row) at → number ≡ slice_index (payload_of p d.heap.row) (at + 1) →
    Ok (record { place = place; number = number }) ≡ field_of i (words_found d p class)
field-found d p class i at place number fine has where_is place_is number_is =
    let is = expected d p class fine in
    let ws = is.cell.content in
    let room = has-room d p class i is has in
    let payload : payload_of p d.heap.row ≡ ws = ap content_or_nil is.found in
    let first : place ≡ slice_index ws at = place_is ∙ ap (λ vs. slice_index vs at) payload in
    let second : number ≡ slice_index ws (suc at) = number_is ∙ ap (λ vs. slice_index vs (at + 1)) payload ∙ ap (slice_index ws) (add-one at) in
    ap (λ n. Ok (record { place = n; number = number })) first ∙ ap (λ n. Ok (record { place = slice_index ws at; number = n })) second
    ∙ ap Ok (sym (field-read i at ws where_is (omega (arith, where_is, room)))) ∙ ap (field_of i) (sym is.words)

-- and is among the fields, however many they are
pub field-of-object : (d : Debug) (p to : Ptr) (class i : ℕ) → Ok tt ≡ answer_of (words_found d p class) → HasField d p class i → Ok to ≡ field_of i (words_found d p class) →
    (count : ℕ) → i < count → slice_get (fields_in count (payload_of p d.heap.row)) i ≡ Some to
field-of-object d p to class i fine has read count within =
    let is = expected d p class fine in
    let ws = is.cell.content in
    let payload : payload_of p d.heap.row ≡ ws = ap content_or_nil is.found in
    let same : to ≡ field_in i ws = given (read ∙ ap (field_of i) is.words) in
    ap (λ vs. slice_get (fields_in count vs) i) payload ∙ field-among count i ws within (has-room d p class i is has) ∙ ap Some (sym same)
  where
    given : {p q : Ptr} → (◌≡◌ {A = Result Ptr Panic} (Ok p) (Ok q)) → p ≡ q
    given e = cc

-- another payload of a cell is as it was written
pub payload-changed : (p : Ptr) (ws : List ℕ) (d e : Debug) (c : Cell (List ℕ)) → cell_at p d.heap.row ≡ Some c → e ≡ debug_changed d p ws → payload_of p e.heap.row ≡ ws
payload-changed p ws d e c found changed =
    ap (λ (x : Debug). payload_of p x.heap.row) changed ∙ ap content_or_nil (found-changed p ws d.heap.row c found)

-- once its place was written, there is room for its number
pub second-word : (d e : Debug) (p : Ptr) (class i at place : ℕ) → Ok tt ≡ answer_of (words_found d p class) → HasField d p class i → at ≡ 2 + 2 * i →
    e ≡ debug_changed d p (slice_set (payload_of p d.heap.row) at place) → at + 1 < length (payload_of p e.heap.row)
second-word d e p class i at place fine has where_is changed =
    let is = expected d p class fine in
    let words : List ℕ = slice_set (payload_of p d.heap.row) at place in
    let now : payload_of p e.heap.row ≡ words = payload-changed p words d e is.cell is.found changed in
    omega (
      arith,
      where_is,
      has-room d p class i is has,
      ap length now,
      length-set (payload_of p d.heap.row) at place,
      ap (λ o. length (content_or_nil o)) is.found,
    )

-- the two words of a field are written one after the other
pub field-set : (d e f : Debug) (p q : Ptr) (class i at : ℕ) → Ok tt ≡ answer_of (words_found d p class) → HasField d p class i → at ≡ 2 + 2 * i →
    e ≡ debug_changed d p (slice_set (payload_of p d.heap.row) at q.place) → f ≡ debug_changed e p (slice_set (payload_of p e.heap.row) (at + 1) q.number) →
    f ≡ field_changed d p i q (words_found d p class)
field-set d e f p q class i at fine has where_is once twice =
    let is = expected d p class fine in
    let ws = is.cell.content in
    let room = has-room d p class i is has in
    let payload : payload_of p d.heap.row ≡ ws = ap content_or_nil is.found in
    let first : List ℕ = slice_set ws at q.place in
    let begun : e ≡ debug_changed d p first = once ∙ ap (λ vs. debug_changed d p (slice_set vs at q.place)) payload in
    let between : payload_of p e.heap.row ≡ first = payload-changed p first d e is.cell is.found begun in
    let written : slice_set first (suc at) q.number ≡ with_field i q ws = field-written i at q ws where_is (omega (arith, where_is, room)) in
    twice ∙ ap (λ vs. debug_changed e p (slice_set vs (at + 1) q.number)) between ∙ ap (λ n. debug_changed e p (slice_set first n q.number)) (add-one at)
    ∙ ap (debug_changed e p) written ∙ ap (λ x. debug_changed x p (with_field i q ws)) begun
    ∙ ap (with_row d) (changed-twice p (with_field i q ws) first d.heap.row) ∙ ap (field_changed d p i q) (sym is.words)

-- the fields are then those from before but for this one
pub fields-set : (d e : Debug) (p q : Ptr) (class i : ℕ) → Ok tt ≡ answer_of (words_found d p class) → HasField d p class i → e ≡ field_changed d p i q (words_found d p class) →
    (count : ℕ) → fields_in count (payload_of p e.heap.row) ≡ slice_set (fields_in count (payload_of p d.heap.row)) i q
fields-set d e p q class i fine has changed count =
    let is = expected d p class fine in
    let ws = is.cell.content in
    let payload : payload_of p d.heap.row ≡ ws = ap content_or_nil is.found in
    let now : payload_of p e.heap.row ≡ with_field i q ws = payload-changed p (with_field i q ws) d e is.cell is.found (changed ∙ ap (field_changed d p i q) is.words) in
    ap (fields_in count) now ∙ fields-written count i q ws (has-room d p class i is has) ∙ ap (λ vs. slice_set (fields_in count vs) i q) (sym payload)

-- and what was an object is one
pub object-set : (d e : Debug) (p q : Ptr) (class i : ℕ) → Ok tt ≡ answer_of (words_found d p class) → HasField d p class i → e ≡ field_changed d p i q (words_found d p class) →
    (count : ℕ) → IsObjectAt p class count d → i < count → IsObjectAt p class count e
object-set d e p q class i fine has changed count object within =
    let is = expected d p class fine in
    let held = object.cell.content in
    let fields = fields_in count held in
    let words = with_field i q held in
    let inside : i < length fields = omega (arith, object.counted, within) in
    let read : fields_in count words ≡ slice_set fields i q = fields-written count i q held (omega (arith, object.object.fits, inside)) in
    let same : is.cell ≡ object.cell = one (sym is.found ∙ object.found) in
    let row : e ≡ debug_changed d p words = changed ∙ ap (field_changed d p i q) is.words ∙ ap (λ (x : Cell (List ℕ)). debug_changed d p (with_field i q x.content)) same in
    record {
      cell = record object.cell { content = words };
      found = ap (λ (x : Debug). cell_at p x.heap.row) row ∙ found-changed p words d.heap.row object.cell object.found;
      kind = object.kind;
      object = subst (IsObject class words) (sym read) (object-written class i q held fields inside object.object);
      counted = ap length read ∙ length-set fields i q ∙ object.counted;
    }
  where
    one : {c e : Cell (List ℕ)} → Some c ≡ Some e → c ≡ e
    one e = cc
