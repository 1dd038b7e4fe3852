-- A cell that is granted for a text reads as it.
use Rattle.std.proofs.Common.{◌≡◌, ◌≢◌, ℕ, ◌+◌, ◌*◌, ◌/◌, ◌-◌, ◌≤◌, Bool, true, false, cond, List, [], length, Option, Some, None, Result, Ok, Err, AllPairs, refl, sym, ap, subst, ◌∙◌, arith}
use Rattle.std.specs.Prelude.{IfOk, IfSome, OnOk, nat_lt}
use Rattle.wb_heap_model.specs.declared.heap.Ptr.{Ptr}
use Rattle.wb_heap_model.specs.declared.heap.Kind.TheVariants.{Text}
use Rattle.wb_heap_model.specs.declared.heap.Answer.{Answer}
use Rattle.wb_heap_model.specs.declared.heap.Answer.TheVariants.{Granted, Simulated, Refused}
use Rattle.wb_heap_model.specs.declared.heap.Gave.{Gave}
use Rattle.wb_heap_model.specs.Row.{Cell, headers, pointer_to, cell_at, inserted, without, cell_length}
use Rattle.wb_heap_model.specs.CellRow.{content_or_nil, resized_words}
use Rattle.wb_heap_model.specs.Rules.{Request}
use Rattle.wb_heap_model.specs.Heap.{alloc_request, new_cell, after_alloc, realloc_request, moved, after_realloc}
use Rattle.wb_heap_model.specs.LimitedHeap.{zero_words}
use Rattle.wb_heap_model.specs.Debug.{Debug, IsSoundDebug, made_by, answer_in, number_of_next, alloc_made, longer_made, shorter_made, realloc_made}
use Rattle.wb_heap_model.specs.TextCells.{text_in, text_at, IsText, IsTextAt, IsGrantedText, IsRemadeText}
use Rattle.wb_heap_model.proofs.NewCells.{found-inserted}
use Rattle.wb_heap_model.proofs.TextCells.{text-read, zeros-text, resized-text}

granted-text : (new : Debug) (c : Cell (List ℕ)) (row : List (Cell (List ℕ))) (t : List ℕ) → new.heap.row ≡ inserted c row → IsSoundDebug new → c.head.kind ≡ Text →
    IsText c.content t → IsTextAt (pointer_to c.head) new × (text_at (pointer_to c.head) new ≡ t)
granted-text new c row t is sound kind text =
    let apart = subst (λ r. AllPairs (λ g h. g.number ≢ h.number) (headers r)) is sound.row.numbered in
    let found : cell_at (pointer_to c.head) new.heap.row ≡ Some c = ap (cell_at (pointer_to c.head)) is ∙ found-inserted c row apart in
    let same : text_in c.content ≡ t = (text-read c.content t text).text in
    let reads : IsTextAt (pointer_to c.head) new = record { cell = c; found = found; kind = kind; text = subst (λ s. IsText c.content s) (sym same) text } in
    (reads, ap (λ o. text_in (content_or_nil o)) found ∙ same)

-- an attempt for a new text
alloc-text : (d new : Debug) (bytes : ℕ) (gave : Gave) → 1 ≤ bytes → gave ≡ (alloc_made d bytes Text).gave → new ≡ (alloc_made d bytes Text).debug → IsSoundDebug new →
    IsGrantedText new [] gave
alloc-text d new bytes gave some given made sound = by (answer_in d t) given made
  where
    t : Request
    t = alloc_request d.heap bytes

    by : (o : Option Answer) → gave ≡ (made_by d (alloc_request d.heap bytes) (after_alloc d.heap (alloc_request d.heap bytes) Text (zero_words (cell_length bytes))) o).gave →
        new ≡ (made_by d (alloc_request d.heap bytes) (after_alloc d.heap (alloc_request d.heap bytes) Text (zero_words (cell_length bytes))) o).debug → IsGrantedText new [] gave
    by None g n = subst (IsGrantedText new []) (sym g) tt
    by (Some Granted) g n =
        subst (IsGrantedText new []) (sym g)
        (granted-text new (new_cell d.heap (number_of_next d) (alloc_request d.heap bytes) Text (zero_words (cell_length bytes))) d.heap.row []
        (ap (λ (x : Debug). x.heap.row) n) sound refl (zeros-text (cell_length bytes / 4 - 4) (omega arith)))
    by (Some Simulated) g n = subst (IsGrantedText new []) (sym g) tt
    by (Some Refused) g n = subst (IsGrantedText new []) (sym g) tt

pub made-empty : {E : Type 0} (d new : Debug) (bytes : ℕ) (r : Result Gave E) → 1 ≤ bytes → IfOk r (λ gave. gave ≡ (alloc_made d bytes Text).gave) →
    OnOk r (new ≡ (alloc_made d bytes Text).debug) → IsSoundDebug new → IfOk r (IsGrantedText new [])
made-empty d new bytes (Ok gave) some given made sound = alloc-text d new bytes gave some given made sound
made-empty d new bytes (Err e) some given made sound = tt

-- a reallocation for a number of units keeps the text, granted or not
module _ (p : Ptr) (d new : Debug) (is : IsTextAt p d) (n : ℕ) (fits : length (text_in is.cell.content) ≤ n) (sound : IsSoundDebug new) where
  abbrev t : List ℕ
  t = text_in is.cell.content

  abbrev c : Cell (List ℕ)
  c = is.cell

  abbrev to : ℕ
  to = cell_length (4 + 2 * n)

  abbrev asked : Request
  asked = realloc_request d.heap c.head (4 + 2 * n)

  kept : IsText (resized_words to c.content) t
  kept = resized-text to c.content t is.text (omega arith) (omega (arith, fits))

  stays : new.heap.row ≡ d.heap.row → IsTextAt p new × (text_at p new ≡ t)
  stays row =
      let found : cell_at p new.heap.row ≡ Some c = ap (cell_at p) row ∙ is.found in
      let reads : IsTextAt p new = record { cell = c; found = found; kind = is.kind; text = is.text } in
      (reads, ap (λ o. text_in (content_or_nil o)) found)

  longer-text : (gave : Gave) → gave ≡ (longer_made d c (4 + 2 * n)).gave → new ≡ (longer_made d c (4 + 2 * n)).debug → IsRemadeText new p t gave
  longer-text gave given made = by (answer_in d asked) given made
    where
      by : (o : Option Answer) → gave ≡ (made_by d asked (after_realloc d.heap asked c.head (resized_words to c.content)) o).gave →
          new ≡ (made_by d asked (after_realloc d.heap asked c.head (resized_words to c.content)) o).debug → IsRemadeText new p t gave
      by None g m = subst (IsRemadeText new p t) (sym g) (stays (ap (λ (x : Debug). x.heap.row) m))
      by (Some Granted) g m =
          subst (IsRemadeText new p t) (sym g)
          (granted-text new (record { head = moved d.heap.placement c.head (number_of_next d) asked; content = resized_words to c.content })
          (without (pointer_to c.head) d.heap.row) t (ap (λ (x : Debug). x.heap.row) m) sound is.kind kept)
      by (Some Simulated) g m = subst (IsRemadeText new p t) (sym g) (stays (ap (λ (x : Debug). x.heap.row) m))
      by (Some Refused) g m = subst (IsRemadeText new p t) (sym g) (stays (ap (λ (x : Debug). x.heap.row) m))

  shorter-text : (gave : Gave) → gave ≡ (shorter_made d c (4 + 2 * n)).gave → new ≡ (shorter_made d c (4 + 2 * n)).debug → IsRemadeText new p t gave
  shorter-text gave given made =
      subst (IsRemadeText new p t) (sym given)
      (granted-text new (record { head = record c.head { length = to }; content = resized_words to c.content })
      (without (pointer_to c.head) d.heap.row) t (ap (λ (x : Debug). x.heap.row) made) sound is.kind kept)

  realloc-text : (gave : Gave) → gave ≡ (realloc_made d c (4 + 2 * n)).gave → new ≡ (realloc_made d c (4 + 2 * n)).debug → IsRemadeText new p t gave
  realloc-text gave given made = by (nat_lt c.head.length to) given made
    where
      by : (b : Bool) → gave ≡ (cond b (longer_made d c (4 + 2 * n)) (shorter_made d c (4 + 2 * n))).gave →
          new ≡ (cond b (longer_made d c (4 + 2 * n)) (shorter_made d c (4 + 2 * n))).debug → IsRemadeText new p t gave
      by true g m = longer-text gave g m
      by false g m = shorter-text gave g m

pub remade : {E : Type 0} (p : Ptr) (d new : Debug) (n : ℕ) (r : Result Gave E) → IsTextAt p d → length (text_at p d) ≤ n →
    IfOk r (λ gave. IfSome (cell_at p d.heap.row) (λ c. gave ≡ (realloc_made d c (4 + 2 * n)).gave)) →
    OnOk r (IfSome (cell_at p d.heap.row) (λ c. new ≡ (realloc_made d c (4 + 2 * n)).debug)) → IsSoundDebug new → IfOk r (IsRemadeText new p (text_at p d))
remade p d new n (Err e) is fits given made sound = tt
remade p d new n (Ok gave) is fits given made sound =
    let same : text_at p d ≡ text_in is.cell.content = ap (λ o. text_in (content_or_nil o)) is.found in
    subst (λ t. IsRemadeText new p t gave) (sym same)
    (realloc-text p d new is n (omega (arith, ap length same, fits)) sound gave
    (subst (λ o. IfSome o (λ c. gave ≡ (realloc_made d c (4 + 2 * n)).gave)) is.found given)
    (subst (λ o. IfSome o (λ c. new ≡ (realloc_made d c (4 + 2 * n)).debug)) is.found made))
