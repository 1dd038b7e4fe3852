-- One cell's words change, and what the others hold stays.
use Rattle.std.proofs.Common.{◌≡◌, ◌≢◌, ℕ, ◌≤◌, List, [], ◌∷◌, length, Bool, true, false, cond, Some, refl, sym, ap, subst, ◌∙◌, arith}
use Rattle.std.specs.Prelude.{◌&&◌}
use Rattle.std.proofs.lemmas.Bool.{eqb-true, false≢true}
use Rattle.wb_heap_model.specs.declared.heap.Ptr.{Ptr}
use Rattle.wb_heap_model.specs.declared.heap.Header.{Header}
use Rattle.wb_heap_model.specs.Row.{Cell, is_at, cell_at, inserted}
use Rattle.wb_heap_model.specs.CellRow.{content_or_nil, payload_of, with_payload}
use Rattle.wb_heap_model.specs.Texts.{AreUnits}
use Rattle.wb_heap_model.specs.Debug.{Debug, debug_changed}
use Rattle.wb_heap_model.specs.TextCells.{room_in, text_words, text_in, IsText, text_at, IsTextAt, text_changed}
use Rattle.wb_heap_model.proofs.Reallocations.{cell_at-inserted_other, not_at-number}
use Rattle.wb_heap_model.proofs.TextCells.{text-is, text-read}

module _ (p : Ptr) (words : List ℕ) where
  pub found-changed : (row : List (Cell (List ℕ))) (c : Cell (List ℕ)) → cell_at p row ≡ Some c →
      cell_at p (with_payload p words row) ≡ Some (record c { content = words })
  found-changed [] c e = cc
  found-changed (d ∷ ds) c e = by (is_at p d.head) refl e (found-changed ds c)
    where
      by : (b : Bool) → is_at p d.head ≡ b → cond b (Some d) (cell_at p ds) ≡ Some c → (cell_at p ds ≡ Some c → cell_at p (with_payload p words ds) ≡ Some (record c { content = words })) →
          cell_at p (cond b (record d { content = words } ∷ ds) (d ∷ with_payload p words ds)) ≡ Some (record c { content = words })
      by true at e rest =
          let same : d ≡ c = cc in
          ap (λ b. cond b (Some (record d { content = words })) (cell_at p ds)) at ∙ ap (λ (x : Cell (List ℕ)). Some (record x { content = words })) same
      by false at e rest = ap (λ b. cond b (Some d) (cell_at p (with_payload p words ds))) at ∙ rest e

  pub changed-twice : (first : List ℕ) (row : List (Cell (List ℕ))) → with_payload p words (with_payload p first row) ≡ with_payload p words row
  changed-twice first [] = refl
  changed-twice first (d ∷ ds) = by (is_at p d.head) refl (changed-twice first ds)
    where
      by : (b : Bool) → is_at p d.head ≡ b → with_payload p words (with_payload p first ds) ≡ with_payload p words ds →
          with_payload p words (cond b (record d { content = first } ∷ ds) (d ∷ with_payload p first ds)) ≡ cond b (record d { content = words } ∷ ds) (d ∷ with_payload p words ds)
      by true at rest = ap (λ b. cond b (record d { content = words } ∷ ds) (record d { content = first } ∷ with_payload p words ds)) at
      by false at rest =
          ap (λ b. cond b (record d { content = words } ∷ with_payload p first ds) (d ∷ with_payload p words (with_payload p first ds))) at ∙ ap (λ r. d ∷ r) rest

pub changed-same : (p : Ptr) (row : List (Cell (List ℕ))) → with_payload p (payload_of p row) row ≡ row
changed-same p [] = refl
changed-same p (d ∷ ds) = by (is_at p d.head) (changed-same p ds)
  where
    by : (b : Bool) → with_payload p (payload_of p ds) ds ≡ ds →
        cond b (record d { content = content_or_nil (cond b (Some d) (cell_at p ds)) } ∷ ds) (d ∷ with_payload p (content_or_nil (cond b (Some d) (cell_at p ds))) ds) ≡ d ∷ ds
    by true rest = refl
    by false rest = ap (λ r. d ∷ r) rest

both-true : (a b : Bool) → (a && b) ≡ true → (a ≡ true) × (b ≡ true)
both-true true b e = (refl, e)
both-true false b e = absurd (false≢true e)

same-pointer : (p q : Ptr) → p.place ≡ q.place → p.number ≡ q.number → p ≡ q
same-pointer p q place number = ap (λ n. record { place = n; number = p.number }) place ∙ ap (λ n. record { place = q.place; number = n }) number

-- no two pointers name one cell
one-pointer : (p q : Ptr) (h : Header) → is_at p h ≡ true → is_at q h ≡ true → p ≡ q
one-pointer p q h at there =
    let mine = both-true _ _ at in
    let its = both-true _ _ there in
    same-pointer p q (eqb-true _ _ mine.0 ∙ sym (eqb-true _ _ its.0)) (eqb-true _ _ mine.1 ∙ sym (eqb-true _ _ its.1))

-- another pointer's cell stays
pub found-other : (p q : Ptr) (words : List ℕ) (row : List (Cell (List ℕ))) → q ≢ p → cell_at q (with_payload p words row) ≡ cell_at q row
found-other p q words [] other = refl
found-other p q words (d ∷ ds) other = by (is_at p d.head) refl (is_at q d.head) refl (found-other p q words ds other)
  where
    by : (b : Bool) → is_at p d.head ≡ b → (a : Bool) → is_at q d.head ≡ a → cell_at q (with_payload p words ds) ≡ cell_at q ds →
        cell_at q (cond b (record d { content = words } ∷ ds) (d ∷ with_payload p words ds)) ≡ cell_at q (d ∷ ds)
    by true at true there rest = absurd (other (one-pointer q p d.head there at))
    by true at false there rest =
        ap (λ a. cond a (Some (record d { content = words })) (cell_at q ds)) there ∙ sym (ap (λ a. cond a (Some d) (cell_at q ds)) there)
    by false at a there rest = ap (λ o. cond (is_at q d.head) (Some d) o) rest

-- a cell holds another text of its words' number
pub record IsTextNow (p : Ptr) (d e : Debug) (t : List ℕ) : Type 0 where
  pub changed : e ≡ text_changed d p t
  pub text : IsTextAt p e
  pub now : text_at p e ≡ t

pub text-changed : (p : Ptr) (d e : Debug) (t : List ℕ) → IsTextAt p d → e ≡ text_changed d p t → length t ≤ room_in (length (payload_of p d.heap.row)) → AreUnits t →
    IsTextNow p d e t
text-changed p d e t is changed fits units =
    let words = text_words (length (payload_of p d.heap.row)) t in
    let payload : payload_of p d.heap.row ≡ is.cell.content = ap content_or_nil is.found in
    let read = text-read is.cell.content (text_in is.cell.content) is.text in
    let row : e.heap.row ≡ with_payload p words d.heap.row = ap (λ (x : Debug). x.heap.row) changed in
    let found : cell_at p e.heap.row ≡ Some (record is.cell { content = words }) = ap (cell_at p) row ∙ found-changed p words d.heap.row is.cell is.found in
    let made : IsText words t = text-is (length (payload_of p d.heap.row)) t (omega (arith, ap length payload, read.some)) fits units in
    let same : text_in words ≡ t = (text-read words t made).text in
    record {
      changed = changed;
      text = record { cell = record is.cell { content = words }; found = found; kind = is.kind; text = subst (λ s. IsText words s) (sym same) made };
      now = ap (λ o. text_in (content_or_nil o)) found ∙ same;
    }

-- the text of another cell stays
pub text-other : (p q : Ptr) (words : List ℕ) (d e : Debug) → q ≢ p → e ≡ debug_changed d p words → IsTextAt q d → IsTextAt q e
text-other p q words d e other changed is = record {
  cell = is.cell;
  found = ap (λ (x : Debug). cell_at q x.heap.row) changed ∙ found-other p q words d.heap.row other ∙ is.found;
  kind = is.kind;
  text = is.text;
}

-- a cell with another number beside it changes nothing of a text
pub text-beside : (q : Ptr) (d e : Debug) (c : Cell (List ℕ)) → q.number ≢ c.head.number → e.heap.row ≡ inserted c d.heap.row → IsTextAt q d → IsTextAt q e
text-beside q d e c other row is = record {
  cell = is.cell;
  found = ap (cell_at q) row ∙ cell_at-inserted_other q c d.heap.row (not_at-number q c.head (λ e. other (sym e))) ∙ is.found;
  kind = is.kind;
  text = is.text;
}
