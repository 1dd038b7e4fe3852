-- A cell that is granted for an object, and whose class is written, is that object with null fields.
use Rattle.std.proofs.Common.{◌≡◌, ◌≢◌, ℕ, zero, suc, ◌+◌, ◌-◌, ◌*◌, ◌/◌, ◌<◌, ◌≤◌, Bool, true, false, cond, List, [], ◌∷◌, ◌++◌, length, replicate, Option, Some, None, All, AllPairs, refl, sym, ap, subst, ◌∙◌, arith}
use Rattle.std.specs.Prelude.{nat_lt, slice_get, slice_set, unwrap_or}
use Rattle.std.proofs.lemmas.List.{length-replicate, length-set}
use Rattle.wb_heap_model.specs.declared.heap.Ptr.{Ptr}
use Rattle.wb_heap_model.specs.declared.heap.Header.{Header}
use Rattle.wb_heap_model.specs.declared.heap.Kind.TheVariants.{Object}
use Rattle.wb_heap_model.specs.declared.heap.Answer.{Answer}
use Rattle.wb_heap_model.specs.declared.heap.Answer.TheVariants as answer
use Rattle.wb_heap_model.specs.declared.heap.Gave.{Gave}
use Rattle.wb_heap_model.specs.declared.heap.Gave.TheVariants.{Granted}
use Rattle.wb_tree.specs.declared.script.Class.{Class}
use Rattle.wb_tree.specs.declared.script.Script.{Script}
use Rattle.wb_heap_model.specs.Row.{Cell, headers, pointer_to, cell_at, inserted, cell_length}
use Rattle.wb_heap_model.specs.CellRow.{content_or_nil, payload_of, with_payload}
use Rattle.wb_heap_model.specs.Rules.{Request}
use Rattle.wb_heap_model.specs.Heap.{alloc_request, new_cell, after_alloc}
use Rattle.wb_heap_model.specs.LimitedHeap.{zero_words}
use Rattle.wb_heap_model.specs.Pointers.{null}
use Rattle.wb_tree.specs.Bodies.{payload_of_object, class_at}
use Rattle.wb_heap_model.specs.Spelling.{fields_in}
use Rattle.wb_heap_model.specs.ObjectCells.{pointer_words, object_words, IsObject, IsObjectAt}
use Rattle.wb_heap_model.specs.Debug.{Debug, IsSoundDebug, made_by, answer_in, number_of_next, alloc_made, debug_changed, with_row}
use Rattle.wb_heap_model.proofs.TextCells.{zeros}
use Rattle.wb_heap_model.proofs.ObjectCells.{object-read}
use Rattle.wb_heap_model.proofs.Reallocations.{at-own, cell_at-inserted, changed-inserted}
use Rattle.wb_heap_model.proofs.TextCellsHeap.{found-changed}
use Rattle.wb_objects.specs.Objects.{new_words, object_made, IsNewObject}
use Rattle.wb_objects.proofs.Fields.{object-filled}

-- the words of null pointers are zeros, and zeros after zeros are more of them
null-words : (n k : ℕ) → pointer_words (replicate n null) ++ zeros k ≡ zeros (2 * n + k)
null-words zero k = ap zeros (omega arith)
null-words (suc n) k =
    let more : 2 * suc n + k ≡ suc (suc (2 * n + k)) = omega arith in
    ap (λ ws. 0 ∷ 0 ∷ ws) (null-words n k) ∙ ap zeros (sym more)

-- zeros with a class in the first word are those of a new object
new-words : (n class count : ℕ) → 2 + 2 * count ≤ n → slice_set (zeros n) 0 class ≡ object_words n class (replicate count null)
new-words n class count fits =
    let fields = replicate count null in
    let same : length fields ≡ count = length-replicate count null in
    let rest : ℕ = n - (2 + 2 * length fields) in
    let whole : n ≡ suc (suc (2 * count + rest)) = omega (arith, same, fits) in
    ap (λ m. slice_set (zeros m) 0 class) whole ∙ ap (λ ws. class ∷ 0 ∷ ws) (sym (null-words count rest))
    ∙ sym (object-filled n class fields (omega (arith, same, fits)))

-- they are an object's whose fields are null, however long its cell
pub new-object : (cell class count : ℕ) → 2 + 2 * count ≤ cell / 4 - 4 → IsObject class (new_words cell class count) (replicate count null)
new-object cell class count fits =
    let n : ℕ = cell / 4 - 4 in
    let fields = replicate count null in
    let same : length fields ≡ count = length-replicate count null in
    let written : object_words n class fields ≡ slice_set (zeros n) 0 class = sym (new-words n class count fits) in
    let long : length (object_words n class fields) ≡ n = ap length written ∙ length-set (zeros n) 0 class ∙ length-replicate n 0 in
    record { words = ap (λ m. object_words m class fields) (sym long); fits = omega (arith, same, long, fits) }

-- and read as such
pub new-fields : (cell class count : ℕ) → 2 + 2 * count ≤ cell / 4 - 4 → fields_in count (new_words cell class count) ≡ replicate count null
new-fields cell class count fits =
    let words = new_words cell class count in
    let same : length (replicate count null) ≡ count = length-replicate count null in
    ap (λ m. fields_in m words) (sym same) ∙ (object-read class words (replicate count null) (new-object cell class count fits)).fields-are

-- what holds of all cells holds of one that was inserted
all-inserted : (P : Header → Type 0) (c : Cell (List ℕ)) (row : List (Cell (List ℕ))) → All P (headers (inserted c row)) → P c.head
all-inserted P c [] all = all 0 c.head (omega arith)
all-inserted P c (d ∷ ds) all = by (nat_lt c.head.place d.head.place) all (all-inserted P c ds)
  where
    by : (b : Bool) → All P (headers (cond b (c ∷ d ∷ ds) (d ∷ inserted c ds))) → (All P (headers (inserted c ds)) → P c.head) → P c.head
    by true all rest = all 0 c.head (omega arith)
    by false all rest = rest (λ k h lt. all (suc k) h (omega (arith, lt)))

-- and no other has its number
others-inserted : (c : Cell (List ℕ)) (row : List (Cell (List ℕ))) → AllPairs (λ g h. g.number ≢ h.number) (headers (inserted c row)) →
    All (λ h. h.number ≢ c.head.number) (headers row)
others-inserted c [] apart = λ k h lt. absurd (omega (arith, lt))
others-inserted c (d ∷ ds) apart = by (nat_lt c.head.place d.head.place) apart (others-inserted c ds)
  where
    by : (b : Bool) → AllPairs (λ g h. g.number ≢ h.number) (headers (cond b (c ∷ d ∷ ds) (d ∷ inserted c ds))) →
        (AllPairs (λ g h. g.number ≢ h.number) (headers (inserted c ds)) → All (λ h. h.number ≢ c.head.number) (headers ds)) →
        All (λ h. h.number ≢ c.head.number) (headers (d ∷ ds))
    by true all rest k h lt = λ same. all 0 (suc k) h (omega arith) (omega (arith, lt)) (sym same)
    by false all rest zero h lt =
        all-inserted (λ g. d.head.number ≢ g.number) c ds (λ j g lt. all 0 (suc j) g (omega arith) (omega (arith, lt)))
    by false all rest (suc k) h lt =
        rest (λ i j g lt end. all (suc i) (suc j) g (omega (arith, lt)) (omega (arith, end))) k h (omega (arith, lt))

-- what an attempt for an object of a class gave, whose index isn't written yet
pub record IsGranted (d new : Debug) (index : ℕ) (class : Class) (p : Ptr) : Type 0 where
  pub cell : Cell (List ℕ)
  pub is : cell ≡ new_cell d.heap (number_of_next d) (alloc_request d.heap (payload_of_object class)) (Object index) (zero_words (cell_length (payload_of_object class)))
  pub named : p ≡ pointer_to cell.head
  pub answered : answer_in d (alloc_request d.heap (payload_of_object class)) ≡ Some answer.Granted
  pub made : new ≡ (alloc_made d (payload_of_object class) (Object index)).debug
  pub row : new.heap.row ≡ inserted cell d.heap.row
  pub others : All (λ h. h.number ≢ cell.head.number) (headers d.heap.row)

attempted : (d new : Debug) (index : ℕ) (class : Class) (p : Ptr) → Granted p ≡ (alloc_made d (payload_of_object class) (Object index)).gave →
    new ≡ (alloc_made d (payload_of_object class) (Object index)).debug → IsSoundDebug new → IsGranted d new index class p
attempted d new index class p given made sound = by (answer_in d t) refl given made
  where
    t : Request
    t = alloc_request d.heap (payload_of_object class)

    c : Cell (List ℕ)
    c = new_cell d.heap (number_of_next d) t (Object index) (zero_words t.length)

    by : (o : Option Answer) → answer_in d t ≡ o → Granted p ≡ (made_by d t (after_alloc d.heap t (Object index) (zero_words t.length)) o).gave →
        new ≡ (made_by d t (after_alloc d.heap t (Object index) (zero_words t.length)) o).debug → IsGranted d new index class p
    by None e g n = cc
    by (Some answer.Granted) e g n =
        let row : new.heap.row ≡ inserted c d.heap.row = ap (λ (x : Debug). x.heap.row) n in
        record {
          cell = c;
          is = refl;
          named = cc;
          answered = e;
          made = made;
          row = row;
          others = others-inserted c d.heap.row (subst (λ r. AllPairs (λ g h. g.number ≢ h.number) (headers r)) row sound.row.numbered);
        }
    by (Some answer.Simulated) e g n = cc
    by (Some answer.Refused) e g n = cc

-- what a script holds for a class that it doesn't have
abbrev no_class : Class
no_class = record { line = 0; extra = 0; fields = []; construct = None; destroy = None }

-- an attempt for so many bytes as an object of a script's class asks for
pub granted : (d new : Debug) (script : Script) (index at bytes : ℕ) (class : Class) (gave : Gave) (p : Ptr) → Some class ≡ slice_get script.classes at → at ≡ index →
    bytes ≡ payload_of_object class → gave ≡ (alloc_made d bytes (Object index)).gave → gave ≡ Granted p → new ≡ (alloc_made d bytes (Object index)).debug → IsSoundDebug new →
    IsGranted d new index (class_at script index) p
granted d new script index at bytes class gave p there same asked given is made sound =
    let found : class ≡ class_at script index =
    ap (λ o. unwrap_or o no_class) there ∙ ap (λ n. unwrap_or (slice_get script.classes n) no_class) same in
    let all : bytes ≡ payload_of_object (class_at script index) = asked ∙ ap payload_of_object found in
    attempted d new index (class_at script index) p (sym is ∙ given ∙ ap (λ n. (alloc_made d n (Object index)).gave) all)
    (made ∙ ap (λ n. (alloc_made d n (Object index)).debug) all) sound

-- the cell is found by the pointer that was given
found-granted : (d new : Debug) (index : ℕ) (class : Class) (p : Ptr) (is : IsGranted d new index class p) → cell_at p new.heap.row ≡ Some is.cell
found-granted d new index class p is =
    ap (λ q. cell_at q new.heap.row) is.named ∙ ap (cell_at (pointer_to is.cell.head)) is.row
    ∙ cell_at-inserted (pointer_to is.cell.head) is.cell d.heap.row (at-own is.cell.head) is.others

-- its words are zeros
payload-granted : (d new : Debug) (index : ℕ) (class : Class) (p : Ptr) → IsGranted d new index class p →
    payload_of p new.heap.row ≡ zeros (cell_length (payload_of_object class) / 4 - 4)
payload-granted d new index class p is = ap content_or_nil (found-granted d new index class p is) ∙ ap (λ (c : Cell (List ℕ)). c.content) is.is

-- there is one for the class
pub class-word : (d new : Debug) (index : ℕ) (class : Class) (p : Ptr) → IsGranted d new index class p → 0 < length (payload_of p new.heap.row)
class-word d new index class p is =
    let n : ℕ = cell_length (payload_of_object class) / 4 - 4 in
    let words : payload_of p new.heap.row ≡ zeros n = payload-granted d new index class p is in
    omega (arith, ap length words, length-replicate n (◌+◌ 0 0))

-- once its class was written, the attempt is that for an object
module _ (d new e : Debug) (index word : ℕ) (class : Class) (p : Ptr) (is : IsGranted d new index class p) (same_word : word ≡ index)
    (written : e ≡ debug_changed new p (slice_set (payload_of p new.heap.row) 0 word)) where
  abbrev n : ℕ
  n = cell_length (payload_of_object class) / 4 - 4

  abbrev count : ℕ
  count = length class.fields

  abbrev t : Request
  t = alloc_request d.heap (payload_of_object class)

  abbrev words : List ℕ
  words = new_words (cell_length (payload_of_object class)) index count

  abbrev object : Cell (List ℕ)
  object = new_cell d.heap (number_of_next d) t (Object index) words

  fits : 2 + 2 * count ≤ n
  fits = omega arith

  put : e ≡ debug_changed new p words
  put = written ∙ ap (λ k. debug_changed new p (slice_set (payload_of p new.heap.row) 0 k)) same_word
      ∙ ap (λ ws. debug_changed new p (slice_set ws 0 index)) (payload-granted d new index class p is) ∙ ap (debug_changed new p) (new-words n index count fits)

  placed : with_payload p words new.heap.row ≡ inserted object d.heap.row
  placed =
      ap (λ q. with_payload q words new.heap.row) is.named ∙ ap (with_payload (pointer_to is.cell.head) words) is.row
      ∙ changed-inserted (pointer_to is.cell.head) (λ _. words) is.cell d.heap.row (at-own is.cell.head) is.others
      ∙ ap (λ (c : Cell (List ℕ)). inserted (record { head = c.head; content = words }) d.heap.row) is.is

  pub object-is-made : e ≡ (object_made d index class).debug
  object-is-made =
      put ∙ ap (with_row new) placed ∙ ap (λ x. with_row x (inserted object d.heap.row)) is.made
      ∙ ap (λ o. with_row (made_by d t (after_alloc d.heap t (Object index) (zero_words t.length)) o).debug (inserted object d.heap.row)) is.answered
      ∙ ap (λ o. (made_by d t (after_alloc d.heap t (Object index) words) o).debug) (sym is.answered)

  pub object-is-new : IsNewObject e index count (Granted p)
  object-is-new =
      let found : cell_at p e.heap.row ≡ Some object =
      ap (λ (x : Debug). cell_at p x.heap.row) put
      ∙ found-changed p words new.heap.row is.cell (found-granted d new index class p is)
      ∙ ap (λ (c : Cell (List ℕ)). Some (record c { content = words })) is.is in
      let bytes : ℕ = cell_length (payload_of_object class) in
      let read : fields_in count words ≡ replicate count null = new-fields bytes index count fits in
      let names : IsObjectAt p index count e = record {
        cell = object;
        found = found;
        kind = refl;
        object = subst (IsObject index words) (sym read) (new-object bytes index count fits);
        counted = ap length read ∙ length-replicate count null;
      } in
      (names, ap (λ o. fields_in count (content_or_nil o)) found ∙ read)
