-- Text cells hold texts, whatever is done to a row.
use Rattle.std.proofs.Common.{◌≡◌, ℕ, ◌+◌, ◌-◌, ◌*◌, ◌/◌, ◌≤◌, Bool, true, false, not, List, [], ◌∷◌, length, refl, ap, ◌∙◌, sym, subst, arith, cond, ◌<◌, ◌^◌, Option, Some, None, Result, OnOk, OnErr, IsSome, IfSome, option_map}
use Rattle.std.proofs.lemmas.Bool.{eqb-true}
use Rattle.std.specs.Prelude.{nat_eq, nat_lt, ◌&&◌, Ok, Err}
use Rattle.wb_heap_model.specs.declared.heap.TheConstants.Panic.{WRONG_KIND}
use Rattle.wb_heap_model.specs.declared.heap.Ptr.{Ptr}
use Rattle.wb_heap_model.specs.declared.heap.Header.{Header}
use Rattle.wb_heap_model.specs.declared.heap.Kind.{Kind}
use Rattle.wb_heap_model.specs.declared.heap.Panic.{Panic}
use Rattle.wb_heap_model.specs.declared.heap.Kind.TheVariants.{Raw, Object, Text, Cleanup}
use Rattle.wb_heap_model.specs.declared.heap.Answer.{Answer}
use Rattle.wb_heap_model.specs.declared.heap.Answer.TheVariants.{Granted, Simulated, Refused}
use Rattle.wb_heap_model.specs.Row.{Cell, end_of, usable_of, is_at, cell_at, without, inserted, pointer_to, cell_length}
use Rattle.wb_heap_model.specs.CellRow.{content_or_nil, payload_of, with_payload, resized_words}
use Rattle.wb_heap_model.specs.Rules.{Request}
use Rattle.wb_heap_model.specs.Heap.{alloc_request, after_alloc, realloc_request, after_realloc, new_cell, moved, is_cleanup, lower, lowered}
use Rattle.wb_heap_model.specs.LimitedHeap.{zero_words}
use Rattle.wb_heap_model.specs.Texts.{Edited, answer_of, units_of_part, max_units}
use Rattle.wb_heap_model.specs.Pointers.{is_null, is_same_pointer}
use Rattle.wb_meaning.specs.Statements.{is_raw}
use Rattle.wb_heap_model.specs.Space.{limit_under}
use Rattle.wb_meaning.specs.Reading.{is_same_base}
use Rattle.wb_heap_model.specs.Debug.{Debug, number_of_next, made_by, answer_in, alloc_made, longer_made, shorter_made, realloc_made, debug_without, with_row}
use Rattle.wb_heap_model.specs.TextCells.{IsText, text_words, text_in, text_at, IsTextAt, debug_edited, room_in, max_at, usable_or_none}
use Rattle.wb_heap_model.proofs.TextCells.{text-read, zeros-text, resized-text}
use Rattle.wb_heap_model.proofs.LimitedHeaps.{limit_under-ceiling}
use Rattle.wb_machine.specs.TextInvariant.{IsTextCell, AreTexts}
use Rattle.wb_heap_model.specs.declared.text.Base.{Base}
use Rattle.wb_heap_model.specs.declared.text.Base.TheVariants as B
use Rattle.wb_heap_model.specs.declared.text.View.{View}
use Rattle.wb_machine.specs.declared.pieces.Ending.{Ending}
use Rattle.wb_machine.specs.RunState.{RunState, with_debug}
use Rattle.wb_machine.specs.declared.state.State.TheInside.{Inside}
use Rattle.wb_machine.specs.StateView.{run_state}
use Rattle.wb_machine.specs.TextEffects.{IsWritten, ending_by}
use Rattle.wb_machine.specs.TextOperands.{is_text, text_refusal, base_refusal, base_text, window_units}

pub text_cell_at : (p : Ptr) (row : List (Cell (List ℕ))) (c : Cell (List ℕ)) → AreTexts row → cell_at p row ≡ Some c → IsTextCell c
text_cell_at p [] c texts found = cc
text_cell_at p (d ∷ ds) c texts found = by (is_at p d.head) found (text_cell_at p ds c texts.1)
  where
    by : (b : Bool) → cond b (Some d) (cell_at p ds) ≡ Some c → (cell_at p ds ≡ Some c → IsTextCell c) → IsTextCell c
    by true e rest = let same : d ≡ c = cc in subst (λ (x : Cell (List ℕ)). IsTextCell x) same texts.0
    by false e rest = rest e

pub texts_inserted : (c : Cell (List ℕ)) (row : List (Cell (List ℕ))) → IsTextCell c → AreTexts row → AreTexts (inserted c row)
texts_inserted c [] here texts = (here, tt)
texts_inserted c (d ∷ ds) here texts = by (nat_lt c.head.place d.head.place) (texts_inserted c ds here texts.1)
  where
    by : (b : Bool) → AreTexts (inserted c ds) → AreTexts (cond b (c ∷ d ∷ ds) (d ∷ inserted c ds))
    by true rest = (here, texts)
    by false rest = (texts.0, rest)

pub texts_without : (p : Ptr) (row : List (Cell (List ℕ))) → AreTexts row → AreTexts (without p row)
texts_without p [] texts = tt
texts_without p (d ∷ ds) texts = by (not (is_at p d.head)) (texts_without p ds texts.1)
  where
    by : (b : Bool) → AreTexts (without p ds) → AreTexts (cond b (d ∷ without p ds) (without p ds))
    by true rest = (texts.0, rest)
    by false rest = rest

-- another payload, of a cell that then holds a text if it is to
pub texts_changed : (p : Ptr) (ws : List ℕ) (row : List (Cell (List ℕ))) → ((c : Cell (List ℕ)) → cell_at p row ≡ Some c → c.head.kind ≡ Text → IsText ws (text_in ws)) →
    AreTexts row → AreTexts (with_payload p ws row)
texts_changed p ws [] fine texts = tt
texts_changed p ws (d ∷ ds) fine texts = by (is_at p d.head) fine (texts_changed p ws ds)
  where
    by : (b : Bool) → ((c : Cell (List ℕ)) → cond b (Some d) (cell_at p ds) ≡ Some c → c.head.kind ≡ Text → IsText ws (text_in ws)) →
        (((c : Cell (List ℕ)) → cell_at p ds ≡ Some c → c.head.kind ≡ Text → IsText ws (text_in ws)) → AreTexts ds → AreTexts (with_payload p ws ds)) →
        AreTexts (cond b (record d { content = ws } ∷ ds) (d ∷ with_payload p ws ds))
    by true fine rest = (fine d refl, texts.1)
    by false fine rest = (texts.0, rest fine texts.1)

lowered_text : (level : ℕ) (c : Cell (List ℕ)) → IsTextCell c → IsTextCell (record { head = lower level c.head; content = c.content })
lowered_text level c is = by (nat_eq c.head.level level && not (is_cleanup c.head.kind))
  where
    by : (b : Bool) → IsTextCell (record { head = cond b (record c.head { level = level - 1 }) c.head; content = c.content })
    by true = is
    by false = is

pub texts_lowered : (level : ℕ) (row : List (Cell (List ℕ))) → AreTexts row → AreTexts (lowered level row)
texts_lowered level [] texts = tt
texts_lowered level (c ∷ cs) texts = (lowered_text level c texts.0, texts_lowered level cs texts.1)

-- a cell that was granted holds the empty text if it is to hold one
fresh_text : (bytes : ℕ) → 1 ≤ bytes → IsText (zero_words (cell_length bytes)) (text_in (zero_words (cell_length bytes)))
fresh_text bytes some =
    let words = zero_words (cell_length bytes) in
    let empty : IsText words [] = zeros-text (cell_length bytes / 4 - 4) (omega (arith, some)) in
    subst (IsText words) (sym (text-read words [] empty).text) empty

pub texts_allocated : (d : Debug) (bytes : ℕ) (kind : Kind) → (kind ≡ Text → 1 ≤ bytes) → AreTexts d.heap.row → AreTexts (alloc_made d bytes kind).debug.heap.row
texts_allocated d bytes kind some texts = by (answer_in d t)
  where
    t : Request
    t = alloc_request d.heap bytes

    by : (o : Option Answer) → AreTexts (made_by d t (after_alloc d.heap t kind (zero_words t.length)) o).debug.heap.row
    by None = texts
    by (Some Granted) = texts_inserted (new_cell d.heap (number_of_next d) t kind (zero_words t.length)) d.heap.row (λ is. fresh_text bytes (some is)) texts
    by (Some Simulated) = texts
    by (Some Refused) = texts

pub texts_reallocated : (d : Debug) (c : Cell (List ℕ)) (bytes : ℕ) →
    (c.head.kind ≡ Text → IsText (resized_words (cell_length bytes) c.content) (text_in (resized_words (cell_length bytes) c.content))) →
    AreTexts d.heap.row → AreTexts (realloc_made d c bytes).debug.heap.row
texts_reallocated d c bytes fine texts = by (nat_lt c.head.length (cell_length bytes))
  where
    t : Request
    t = realloc_request d.heap c.head bytes

    answered : (o : Option Answer) → AreTexts (made_by d t (after_realloc d.heap t c.head (resized_words t.length c.content)) o).debug.heap.row
    answered None = texts
    answered (Some Granted) =
        texts_inserted (record { head = moved d.heap.placement c.head (number_of_next d) t; content = resized_words t.length c.content }) (without (pointer_to c.head) d.heap.row) fine
        (texts_without (pointer_to c.head) d.heap.row texts)
    answered (Some Simulated) = texts
    answered (Some Refused) = texts

    by : (b : Bool) → AreTexts (cond b (longer_made d c bytes) (shorter_made d c bytes)).debug.heap.row
    by true = answered (answer_in d t)
    by false =
        texts_inserted (record { head = record c.head { length = cell_length bytes }; content = resized_words (cell_length bytes) c.content }) (without (pointer_to c.head) d.heap.row) fine
        (texts_without (pointer_to c.head) d.heap.row texts)

-- a text that has room in a cell of another length
pub text_resized : (c : Cell (List ℕ)) (n : ℕ) → IsTextCell c → length (text_in c.content) ≤ n → c.head.kind ≡ Text →
    IsText (resized_words (cell_length (4 + 2 * n)) c.content) (text_in (resized_words (cell_length (4 + 2 * n)) c.content))
text_resized c n is fits kind =
    let to = cell_length (4 + 2 * n) in
    let words = resized_words to c.content in
    let made : IsText words (text_in c.content) = resized-text to c.content (text_in c.content) (is kind) (omega arith) (omega (arith, fits)) in
    subst (IsText words) (sym (text-read words (text_in c.content) made).text) made

pub texts_released : (d : Debug) (p : Ptr) → AreTexts d.heap.row → AreTexts (debug_without d p).heap.row
texts_released d p texts = by (is_null p)
  where
    by : (b : Bool) → AreTexts (cond b d (with_row d (without p d.heap.row))).heap.row
    by true = texts
    by false = texts_without p d.heap.row texts

is_text_kind : (k : Kind) → is_text k ≡ true → k ≡ Text
is_text_kind Text e = refl
is_text_kind Raw e = cc
is_text_kind (Object class) e = cc
is_text_kind Cleanup e = cc

none_only : (b : Bool) (panic : Panic) → cond b None (Some panic) ≡ None → b ≡ true
none_only true panic e = refl
none_only false panic e = cc

-- a cell that isn't refused is a text's
pub found_text : (o : Option (Cell (List ℕ))) → text_refusal o ≡ None → (c : Cell (List ℕ)) × (o ≡ Some c) × (c.head.kind ≡ Text)
found_text None e = cc
found_text (Some c) e = (c, refl, is_text_kind c.head.kind (none_only (is_text c.head.kind) WRONG_KIND e))

pub is_text_at : (p : Ptr) (d : Debug) → AreTexts d.heap.row → text_refusal (cell_at p d.heap.row) ≡ None → IsTextAt p d
is_text_at p d texts e =
    let found = found_text (cell_at p d.heap.row) e in
    record { cell = found.0; found = found.1; kind = found.2; text = text_cell_at p d.heap.row found.0 texts found.1 found.2 }

-- the words that a changed cell holds
words_now : (p : Ptr) (ws : List ℕ) (row : List (Cell (List ℕ))) (c : Cell (List ℕ)) → cell_at p (with_payload p ws row) ≡ Some c → c.content ≡ ws
words_now p ws [] c e = cc
words_now p ws (d ∷ ds) c e = by (is_at p d.head) refl e (words_now p ws ds c)
  where
    by : (b : Bool) → is_at p d.head ≡ b → cell_at p (cond b (record d { content = ws } ∷ ds) (d ∷ with_payload p ws ds)) ≡ Some c →
        (cell_at p (with_payload p ws ds) ≡ Some c → c.content ≡ ws) → c.content ≡ ws
    by true at e rest =
        let found : Some (record d { content = ws }) ≡ Some c = sym (ap (λ b. cond b (Some (record d { content = ws })) (cell_at p ds)) at) ∙ e in
        let same : record d { content = ws } ≡ c = cc in
        ap (λ (x : Cell (List ℕ)). x.content) (sym same)
    by false at e rest = rest (sym (ap (λ b. cond b (Some d) (cell_at p (with_payload p ws ds))) at) ∙ e)

-- a text that was edited
pub texts_edited : (p : Ptr) (d g : Debug) (e : Edited) → AreTexts d.heap.row → g ≡ debug_edited d p e → IsTextAt p g → AreTexts g.heap.row
texts_edited p d g (Err panic) texts is at = subst (λ (x : Debug). AreTexts x.heap.row) (sym is) texts
texts_edited p d g (Ok us) texts is at =
    subst (λ (x : Debug). AreTexts x.heap.row) (sym is) (texts_changed p words d.heap.row (λ c found kind. now) texts)
  where
    words : List ℕ
    words = text_words (length (payload_of p d.heap.row)) us

    same : at.cell.content ≡ words
    same = words_now p words d.heap.row at.cell (ap (λ (x : Debug). cell_at p x.heap.row) (sym is) ∙ at.found)

    now : IsText words (text_in words)
    now = subst (λ (x : List ℕ). IsText x (text_in x)) same at.text

-- a call on the debug heap that made of it what holds texts, or left it
pub texts_called : {X Y : Type 0} (o : Result X Y) (old made d : Debug) → AreTexts made.heap.row → AreTexts old.heap.row → OnOk o (d ≡ made) → OnErr o (d ≡ old) → AreTexts d.heap.row
texts_called (Ok x) old made d texts before ok err = subst (λ (x : Debug). AreTexts x.heap.row) (sym ok) texts
texts_called (Err e) old made d texts before ok err = subst (λ (x : Debug). AreTexts x.heap.row) (sym err) before

-- a reallocation of a Raw cell
pub texts_raw_again : {X Y : Type 0} (o : Result X Y) (old d : Debug) (found : Option (Cell (List ℕ))) (bytes : ℕ) → IsSome found → IfSome found (λ c. c.head.kind ≡ Raw) →
    OnOk o (IfSome found (λ c. d ≡ (realloc_made old c bytes).debug)) → OnErr o (d ≡ old) → AreTexts old.heap.row → AreTexts d.heap.row
texts_raw_again o old d None bytes live raw ok err texts = cc
texts_raw_again o old d (Some c) bytes live raw ok err texts =
    texts_called o old (realloc_made old c bytes).debug d (texts_reallocated old c bytes (λ is. let no : Raw ≡ Text = sym raw ∙ is in cc) texts) texts ok err

-- a reallocation of a text that has room
text_again : {X Y : Type 0} (o : Result X Y) (old d : Debug) (found : Option (Cell (List ℕ))) (c : Cell (List ℕ)) (n : ℕ) → found ≡ Some c → IsTextCell c → length (text_in c.content) ≤ n →
    OnOk o (IfSome found (λ c. d ≡ (realloc_made old c (4 + 2 * n)).debug)) → OnErr o (d ≡ old) → AreTexts old.heap.row → AreTexts d.heap.row
text_again o old d None c n at is fits ok err texts = cc
text_again o old d (Some e) c n at is fits ok err texts =
    let same : c ≡ e = cc in
    texts_called o old (realloc_made old e (4 + 2 * n)).debug d
    (texts_reallocated old e (4 + 2 * n) (text_resized e n (subst (λ (x : Cell (List ℕ)). IsTextCell x) same is) (subst (λ (x : Cell (List ℕ)). length (text_in x.content) ≤ n) same fits)) texts)
    texts ok err

pub texts_remade : {X Y : Type 0} (o : Result X Y) (old d : Debug) (p : Ptr) (n : ℕ) → IsTextAt p old → length (text_at p old) ≤ n →
    OnOk o (IfSome (cell_at p old.heap.row) (λ c. d ≡ (realloc_made old c (4 + 2 * n)).debug)) → OnErr o (d ≡ old) → AreTexts old.heap.row → AreTexts d.heap.row
texts_remade o old d p n is fits ok err texts =
    text_again o old d (cell_at p old.heap.row) is.cell n is.found (λ kind. is.text) (subst (λ (x : Option (Cell (List ℕ))). length (text_in (content_or_nil x)) ≤ n) is.found fits) ok err texts

-- another payload of a cell that a script stores words in
raw_isnt_text : (k : Kind) → is_raw k ≡ true → k ≡ Text → ⊥
raw_isnt_text Raw e is = cc
raw_isnt_text Text e is = cc
raw_isnt_text (Object class) e is = cc
raw_isnt_text Cleanup e is = cc

head_of : (o : Option (Cell (List ℕ))) (c : Cell (List ℕ)) (h : Header) → o ≡ Some c → Some h ≡ option_map (λ c. c.head) o → c.head ≡ h
head_of o c h found is =
    let e : Some h ≡ Some c.head = is ∙ ap (option_map (λ c. c.head)) found in cc

pub texts_stored : (p : Ptr) (ws : List ℕ) (row : List (Cell (List ℕ))) → IfSome (cell_at p row) (λ c. is_raw c.head.kind ≡ true) → AreTexts row → AreTexts (with_payload p ws row)
texts_stored p ws row raw texts =
    texts_changed p ws row (λ c found kind. absurd (raw_isnt_text c.head.kind (subst (λ o. IfSome o (λ c. is_raw c.head.kind ≡ true)) found raw) kind)) texts

-- the words of an object are no text's
pub texts_with_field : (p : Ptr) (ws : List ℕ) (row : List (Cell (List ℕ))) (c : Cell (List ℕ)) (class : ℕ) → cell_at p row ≡ Some c → c.head.kind ≡ Object class → AreTexts row → AreTexts (with_payload p ws row)
texts_with_field p ws row c class found kind texts =
    texts_changed p ws row (λ d at text. let same : Some d ≡ Some c = sym at ∙ found in let one : d ≡ c = cc in let no : Object class ≡ Text = sym kind ∙ sym (ap (λ (x : Cell (List ℕ)). x.head.kind) one) ∙ text in cc) texts

-- no text has more units than an int holds
pub text_small : (p : Ptr) (d : Debug) (h : Header) → IsTextAt p d → end_of h ≤ limit_under d.rule → 4 * length (payload_of p d.heap.row) ≡ usable_of h → length (text_at p d) < 2 ^ 31
text_small p d h is within filled =
    let payload : payload_of p d.heap.row ≡ is.cell.content = ap content_or_nil is.found in
    let fits = subst (λ ws. length (text_in ws) ≤ room_in (length ws)) (sym payload) is.text.fits in
    omega (arith, fits, within, filled, limit_under-ceiling d.rule)

pub max_small : (p : Ptr) (d : Debug) (h : Header) → Some h ≡ option_map (λ c. c.head) (cell_at p d.heap.row) → IsTextAt p d → end_of h ≤ limit_under d.rule → max_at p d < 2 ^ 31
max_small p d h e is within =
    let same : is.cell.head.length ≡ h.length = ap (λ (x : Header). x.length) (head_of (cell_at p d.heap.row) is.cell h is.found e) in
    let max : max_at p d ≡ max_units (is.cell.head.length - 16) = ap (λ o. max_units (usable_or_none o)) is.found in
    omega (arith, same, max, within, limit_under-ceiling d.rule)

-- the text of a base that isn't refused and is a cell
pub text_of_base : (h g : RunState) (base : Base) (p : Ptr) → h ≡ g → AreTexts h.debug.heap.row → base ≡ B.Cell p → base_refusal g base ≡ None → IsTextAt p h.debug
text_of_base h g base p same texts is fine =
    is_text_at p h.debug texts (ap (λ (x : RunState). base_refusal x (B.Cell p)) same ∙ ap (base_refusal g) (sym is) ∙ fine)

pub none_is : {X : Type 0} (o : Option X) → ((x : X) → o ≡ Some x → ⊥) → o ≡ None
none_is (Some x) never = absurd (never x refl)
none_is None never = refl

both_true : (a b : Bool) → (a && b) ≡ true → (a ≡ true) × (b ≡ true)
both_true true b e = (refl, e)
both_true false b e = cc

same_pointer : (p q : Ptr) → is_same_pointer p q ≡ true → p ≡ q
same_pointer p q e =
    let both = both_true _ _ e in
    ap (λ n. record { place = n; number = p.number }) (eqb-true _ _ both.0) ∙ ap (λ n. record { place = q.place; number = n }) (eqb-true _ _ both.1)

-- the text under a name that is the same cell's
same_text : (literals : List (List ℕ)) (h : RunState) (p : Ptr) (base : Base) → is_same_base (B.Cell p) base ≡ true → base_text literals h base ≡ text_at p h.debug
same_text literals h p (B.Cell q) e = ap (λ x. text_at x h.debug) (sym (same_pointer p q e))
same_text literals h p B.Nothing e = cc
same_text literals h p (B.Literal i) e = cc
same_text literals h p (B.Local i) e = cc

pub same_units : (literals : List (List ℕ)) (h : RunState) (p : Ptr) (v : View) → is_same_base (B.Cell p) v.base ≡ true →
    window_units literals h v ≡ units_of_part (text_at p h.debug) v.position v.length
same_units literals h p v e = ap (λ us. units_of_part us v.position v.length) (same_text literals h p v.base e)

same_ok : (us ts : List ℕ) → ◌≡◌ {A = Edited} (Ok us) (Ok ts) → us ≡ ts
same_ok us ts e = cc

read_back : (answer : Result (Unit {0}) Panic) (ts us : List ℕ) → answer ≡ answer_of (Ok us) → OnOk answer (◌≡◌ {A = Edited} (Ok us) (Ok ts)) → ts ≡ us
read_back (Ok done) ts us says now = sym (same_ok us ts now)
read_back (Err panic) ts us says now = cc

-- an edit of the text in a cell, as it was carried out
written_as : (h g : RunState) (p : Ptr) (e : Edited) (answer : Result (Unit {0}) Panic) (ending : Ending) → answer ≡ answer_of e → ending ≡ ending_by answer →
    g ≡ with_debug h (debug_edited h.debug p e) → OnOk answer (e ≡ Ok (text_at p g.debug)) → IsWritten h (B.Cell p) e ending g
written_as h g p (Err panic) answer ending says ends_so leaves now = (ends_so ∙ ap ending_by says, leaves)
written_as h g p (Ok us) answer ending says ends_so leaves now = (ends_so ∙ ap ending_by says, leaves, read_back answer (text_at p g.debug) us says now)

pub cell_written : (h g : RunState) (p : Ptr) (e f : Edited) (answer : Result (Unit {0}) Panic) (ending : Ending) → e ≡ f → answer ≡ answer_of e → ending ≡ ending_by answer →
    g ≡ with_debug h (debug_edited h.debug p e) → OnOk answer (e ≡ Ok (text_at p g.debug)) → IsWritten h (B.Cell p) f ending g
cell_written h g p e f answer ending same says ends_so leaves now =
    subst (λ (x : Edited). IsWritten h (B.Cell p) x ending g) same (written_as h g p e answer ending says ends_so leaves now)

-- the text at a pointer that isn't refused
pub text_seen_at : (p : Ptr) (s : Inside) (h : RunState) → run_state s ≡ h → AreTexts s.heap.heap.row → text_refusal (cell_at p h.debug.heap.row) ≡ None → IsTextAt p s.heap
text_seen_at p s h seen texts e = is_text_at p s.heap texts (subst (λ (x : RunState). text_refusal (cell_at p x.debug.heap.row) ≡ None) (sym seen) e)
