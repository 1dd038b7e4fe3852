-- What each edit makes of the units of a text, and so of its cell.
use Rattle.std.proofs.Common.{◌≡◌, ℕ, ◌+◌, ◌-◌, ◌<◌, ◌≤◌, ◌⊎◌, inl, inr, min, List, ◌∷◌, ◌++◌, length, take, drop, replicate, slice_index, Ok, Err, cond, refl, sym, ap, subst, ◌∙◌, arith, get_or, append_assoc, append-nil}
use Rattle.std.proofs.lemmas.Bool.{cases_lt, le-leb, lt-leb, lt-ltb, le-ltb}
use Rattle.std.proofs.lemmas.List.{length-append, length-drop, length-take-le, length-take, take_at, drop_at, take_all, drop_all, take-append-le, take-take, get_or-take, ext_get_or}
use Rattle.wb_heap_model.specs.declared.heap.TheConstants.Panic.{TOO_LONG, POSITION_OUT_OF_BOUNDS}
use Rattle.wb_heap_model.specs.declared.heap.Ptr.{Ptr}
use Rattle.wb_heap_model.specs.declared.heap.Panic.{Panic}
use Rattle.wb_heap_model.specs.CellRow.{content_or_nil, payload_of}
use Rattle.wb_heap_model.specs.Texts.{Edited, exactly, units_of_part, answer_of, at_most, insert_text, delete_text, set_length_text}
use Rattle.wb_heap_model.specs.Debug.{Debug, IsSoundDebug, debug_changed}
use Rattle.wb_heap_model.specs.TextCells.{joined, room_in, units_after, text_in, text_at, IsTextAt, debug_edited}
use Rattle.wb_heap_model.proofs.TextCells.{length-exactly}
use Rattle.wb_heap_model.proofs.TextCellsHeap.{IsTextNow, found-other}
use Rattle.wb_hbuf.specs.declared.sources.Source.{Source}
use Rattle.wb_hbuf.specs.declared.sources.Source.TheVariants.{Literal, Buffer, Cell, Own}
use Rattle.wb_hbuf.specs.Sources.{IsApart, IsForeign, source_units}
use Rattle.wb_hbuf.specs.Drafts.{IsDraft, IsEdited, put}
use Rattle.wb_hbuf.proofs.Units.{settled, get_or-put_after, get_or-exactly, get_or-filled}
use Rattle.wb_hbuf.proofs.Drafts.{text-words, text-has, draft-none, draft-length, draft-following, draft-then, draft-text}

abbrev gives : List ℕ → Edited
gives t = Ok t

-- an edit that was done
pub edit-done : (p : Ptr) (d e : Debug) (t : List ℕ) (edit : Edited) → edit ≡ Ok t → IsTextNow p d e t → IsSoundDebug e → IsEdited p d e (Ok tt) edit
edit-done p d e t edit is now sound = record {
  answer = sym (ap answer_of is);
  changed = now.changed ∙ sym (ap (debug_edited d p) is);
  text = now.text;
  now = is ∙ ap gives (sym now.now);
  sound = sound;
}

-- one that was refused
pub edit-refused : (p : Ptr) (d : Debug) (panic : Panic) (edit : Edited) → edit ≡ Err panic → IsTextAt p d → IsSoundDebug d → IsEdited p d d (Err panic) edit
edit-refused p d panic edit is text sound = record {
  answer = sym (ap answer_of is);
  changed = sym (ap (debug_edited d p) is);
  text = text;
  now = tt;
  sound = sound;
}

-- a source other than the own text reads the same once the cell is written
pub source-same : (p : Ptr) (words : List ℕ) (d e : Debug) (own own' : List ℕ) (s : Source) → e ≡ debug_changed d p words → IsApart p s → IsForeign s →
    source_units e own' s ≡ source_units d own s
source-same p words d e own own' (Literal chars from count) made apart foreign = refl
source-same p words d e own own' (Buffer buf from count) made apart foreign = refl
source-same p words d e own own' (Cell q from count) made apart foreign =
    ap (λ (x : Debug). units_of_part (text_at q x) from count) made
    ∙ ap (λ o. units_of_part (text_in (content_or_nil o)) from count) (found-other p q words d.heap.row apart)
source-same p words d e own own' (Own from count) made apart foreign = absurd foreign

module _ (p : Ptr) (d : Debug) (is : IsTextAt p d) where
  abbrev pub len : ℕ
  len = slice_index (payload_of p d.heap.row) 0

  abbrev pub all : List ℕ
  all = units_after (payload_of p d.heap.row)

  abbrev pub text : List ℕ
  text = text_at p d

  abbrev pub room : ℕ
  room = room_in (length (payload_of p d.heap.row))

  pub text-len : len ≡ length text
  text-len = (text-words p d is).length-is

  pub all-is : all ≡ exactly room text
  all-is = (text-words p d is).following

  pub all-long : length all ≡ room
  all-long = ap length all-is ∙ length-exactly room text

  pub text-fits : length text ≤ room
  text-fits = (text-words p d is).fits

  -- past the text there are zeros
  pub zeros-following : (k : ℕ) → len ≤ k → get_or all k 0 ≡ 0
  zeros-following k past = ap (λ us. get_or us k 0) all-is ∙ get_or-filled room text k (omega (arith, text-len, past))

  -- the units were put, and the length was settled
  pub edited-by : (e f : Debug) (n : ℕ) (us t : List ℕ) → IsDraft p d e len us →
      IsDraft p e f n (put n (replicate (slice_index (payload_of p e.heap.row) 0 - n) 0) (units_after (payload_of p e.heap.row))) →
      length t ≡ n → n ≤ room → take n us ≡ t → ((k : ℕ) → n + (len - n) ≤ k → get_or us k 0 ≡ 0) → IsTextNow p d f t
  edited-by e f n us t draft last long fits front following =
      let has = text-has p d is in
      let then' : IsDraft p e f n (put n (replicate (len - n) 0) us) =
      subst (λ vs. IsDraft p e f n (put n (replicate (len - n) 0) vs)) (draft-following p d e len us has draft)
      (subst (λ m. IsDraft p e f n (put n (replicate (m - n) 0) (units_after (payload_of p e.heap.row)))) (draft-length p d e len us has draft) last) in
      let filled : put n (replicate (len - n) 0) us ≡ exactly room t =
      settled n len t us long (omega (arith, draft.room, fits)) (omega (arith, draft.room, text-len, text-fits)) front following
      ∙ ap (λ m. exactly m t) draft.room in
      draft-text p d f n (put n (replicate (len - n) 0) us) t is (draft-then p d e len us has draft f n (put n (replicate (len - n) 0) us) then') (sym long) filled (omega (arith, long, fits))

  -- units in place of the text from a position on
  pub overwritten : (e f : Debug) (at n : ℕ) (us : List ℕ) → IsDraft p d e len (put at us all) →
      IsDraft p e f n (put n (replicate (slice_index (payload_of p e.heap.row) 0 - n) 0) (units_after (payload_of p e.heap.row))) →
      at + length us ≡ n → n ≤ room → at ≤ len → IsTextNow p d f (take at text ++ us)
  overwritten e f at n us draft last long fits within =
      let front-is : take at all ≡ take at text = sym (take-take at len all within) in
      let whole : length (take at text ++ us) ≡ n =
      omega (arith, length-append (take at text) us, length-take-le at text (omega (arith, text-len, within)), long) in
      edited-by e f n (put at us all) (take at text ++ us) draft last whole fits
      (ap (λ vs. take n (vs ++ us ++ drop (at + length us) all)) front-is ∙ take_at (take at text ++ us) (drop (at + length us) all) n whole)
      (λ k past. get_or-put_after at us all k (omega (arith, all-long, text-len, text-fits, within)) (omega (arith, long, past)) ∙ zeros-following k (omega (arith, past)))

  -- the units of another text are put into a gap
  pub gap-filled : (e f : Debug) (at : ℕ) (us : List ℕ) (s : Source) → IsDraft p d e len us →
      IsDraft p e f (slice_index (payload_of p e.heap.row) 0) (put at (source_units e (text_at p e) s) (units_after (payload_of p e.heap.row))) →
      IsApart p s → IsForeign s → IsDraft p d f len (put at (source_units d text s) us)
  gap-filled e f at us s draft next apart foreign =
      let has = text-has p d is in
      draft-then p d e len us has draft f len (put at (source_units d text s) us)
      (subst (λ vs. IsDraft p e f len (put at vs us)) (source-same p (len ∷ joined us) d e text (text_at p e) s draft.changed apart foreign)
      (subst (λ vs. IsDraft p e f len (put at (source_units e (text_at p e) s) vs)) (draft-following p d e len us has draft)
      (subst (λ m. IsDraft p e f m (put at (source_units e (text_at p e) s) (units_after (payload_of p e.heap.row)))) (draft-length p d e len us has draft) next)))

  -- the tail moved up, and units put into the gap
  pub inserted : (e f : Debug) (at n : ℕ) (us : List ℕ) → IsDraft p d e len (put at us (put (at + length us) (drop at text) all)) →
      IsDraft p e f n (put n (replicate (slice_index (payload_of p e.heap.row) 0 - n) 0) (units_after (payload_of p e.heap.row))) →
      len + length us ≡ n → n ≤ room → at ≤ len → IsTextNow p d f (take at text ++ us ++ drop at text)
  inserted e f at n us draft last long fits within =
      edited-by e f n (put at us moved) (take at text ++ us ++ tail) draft last whole fits front following
    where
      gap : ℕ
      gap = at + length us

      tail : List ℕ
      tail = drop at text

      moved : List ℕ
      moved = put (at + length us) (drop at text) all

      rest : List ℕ
      rest = drop (at + length us + length (drop at text)) all

      tail-long : length (drop at text) ≡ len - at
      tail-long = omega (arith, length-drop at text, text-len)

      whole : length (take at text ++ us ++ drop at text) ≡ n
      whole = omega (arith, length-append (take at text ++ us) (drop at text), length-append (take at text) us, length-take-le at text (omega (arith, text-len, within)), tail-long, long, within)

      opened : length (take (at + length us) all) ≡ at + length us
      opened = length-take-le (at + length us) all (omega (arith, all-long, long, fits, within))

      parted : put (at + length us) (drop at text) all ≡ take (at + length us) all ++ (drop at text ++ drop (at + length us + length (drop at text)) all)
      parted = append_assoc (take (at + length us) all) (drop at text) (drop (at + length us + length (drop at text)) all)

      before : take at (put (at + length us) (drop at text) all) ≡ take at text
      before =
          ap (take at) parted
          ∙ take-append-le at (take (at + length us) all) (drop at text ++ drop (at + length us + length (drop at text)) all) (omega (arith, opened))
          ∙ take-take at (at + length us) all (omega arith) ∙ sym (take-take at len all within)

      past-gap : drop (at + length us) (put (at + length us) (drop at text) all) ≡ drop at text ++ drop (at + length us + length (drop at text)) all
      past-gap =
          ap (drop (at + length us)) parted
          ∙ drop_at (take (at + length us) all) (drop at text ++ drop (at + length us + length (drop at text)) all) (at + length us) opened

      front : take n (put at us (put (at + length us) (drop at text) all)) ≡ take at text ++ us ++ drop at text
      front =
          ap (λ vs. take n (vs ++ us ++ drop (at + length us) (put (at + length us) (drop at text) all))) before
          ∙ ap (λ vs. take n (take at text ++ us ++ vs)) past-gap
          ∙ ap (take n) (sym (append_assoc (take at text ++ us) (drop at text) (drop (at + length us + length (drop at text)) all)))
          ∙ take_at (take at text ++ us ++ drop at text) (drop (at + length us + length (drop at text)) all) n whole

      moved-long : at ≤ length (put (at + length us) (drop at text) all)
      moved-long = omega (arith, ap length parted, length-append (take (at + length us) all) (drop at text ++ drop (at + length us + length (drop at text)) all), opened)

      following : (k : ℕ) → n + (len - n) ≤ k → get_or (put at us (put (at + length us) (drop at text) all)) k 0 ≡ 0
      following k past =
          get_or-put_after at us (put (at + length us) (drop at text) all) k moved-long (omega (arith, long, past, within))
          ∙ get_or-put_after (at + length us) (drop at text) all k (omega (arith, all-long, long, fits, within)) (omega (arith, long, past, within, tail-long))
          ∙ zeros-following k (omega (arith, long, past))

  -- the tail moved down over what was taken out
  pub deleted : (e f : Debug) (at count n : ℕ) (us : List ℕ) → us ≡ units_of_part text (at + count) (len - (at + count)) → IsDraft p d e len (put at us all) →
      IsDraft p e f n (put n (replicate (slice_index (payload_of p e.heap.row) 0 - n) 0) (units_after (payload_of p e.heap.row))) →
      len ≡ n + count → at + count ≤ len → IsTextNow p d f (take at text ++ drop (at + count) text)
  deleted e f at count n us part draft last long within =
      let tail-long : length (drop (at + count) text) ≡ len - (at + count) = omega (arith, length-drop (at + count) text, text-len) in
      let tail : us ≡ drop (at + count) text =
      part ∙ ap (λ k. exactly k (drop (at + count) text)) (sym tail-long) ∙ exactly-all (drop (at + count) text) in
      let us-long : length us ≡ len - (at + count) = ap length tail ∙ tail-long in
      let front-is : take at all ≡ take at text = sym (take-take at len all (omega (arith, within))) in
      let whole : length (take at text ++ drop (at + count) text) ≡ n =
      omega (arith, length-append (take at text) (drop (at + count) text), length-take-le at text (omega (arith, text-len, within)), tail-long, long, within) in
      edited-by e f n (put at us all) (take at text ++ drop (at + count) text) draft last whole (omega (arith, long, text-len, text-fits))
      (ap (λ vs. take n (vs ++ us ++ drop (at + length us) all)) front-is ∙ ap (λ vs. take n (take at text ++ vs ++ drop (at + length us) all)) tail
      ∙ take_at (take at text ++ drop (at + count) text) (drop (at + length us) all) n whole)
      (λ k past. get_or-put_after at us all k (omega (arith, all-long, text-len, text-fits, within)) (omega (arith, us-long, long, past, within)) ∙ zeros-following k (omega (arith, past)))
    where
      exactly-all : (t : List ℕ) → exactly (length t) t ≡ t
      exactly-all t =
          let none : length t - length t ≡ 0 = omega arith in
          let nothing : List ℕ = replicate 0 0 in
          ap (λ vs. vs ++ replicate (length t - length t) 0) (take_all (length t) t (omega arith)) ∙ ap (λ (k : ℕ). t ++ replicate k 0) none ∙ append-nil t

  -- another length
  pub settled-at : (f : Debug) (n : ℕ) → IsDraft p d f n (put n (replicate (len - n) 0) all) → n ≤ room → IsTextNow p d f (exactly n text)
  settled-at f n last fits =
      edited-by d f n all (exactly n text) (draft-none p d (text-has p d is)) last (length-exactly n text) fits
      (ext_get_or 0 (take n all) (exactly n text) (omega (arith, length-take-le n all (omega (arith, all-long, fits)), length-exactly n text)) each)
      (λ k past. zeros-following k (omega (arith, past)))
    where
      each : (k : ℕ) → k < length (take n all) → get_or (take n all) k 0 ≡ get_or (exactly n text) k 0
      each k less =
          let lt : k < n = omega (arith, less, length-take n all) in
          get_or-take n all k 0 lt ∙ ap (λ us. get_or us k 0) all-is ∙ get_or-exactly room text k (omega (arith, lt, fits)) ∙ sym (get_or-exactly n text k lt)

-- what the definitions say where an edit fits, and where it is refused
pub at_most-fits : (max : ℕ) (t : List ℕ) → length t ≤ max → at_most max t ≡ Ok t
at_most-fits max t le = ap (λ b. cond b (Ok t) (Err TOO_LONG)) (le-leb (length t) max le)

pub at_most-refuses : (max : ℕ) (t : List ℕ) → max < length t → at_most max t ≡ Err TOO_LONG
at_most-refuses max t lt = ap (λ b. cond b (Ok t) (Err TOO_LONG)) (lt-leb (length t) max lt)

pub insert-within : (max : ℕ) (t : List ℕ) (at : ℕ) (us : List ℕ) → at ≤ length t → insert_text max t at us ≡ at_most max (take at t ++ us ++ drop at t)
insert-within max t at us le = ap (λ b. cond b (Err POSITION_OUT_OF_BOUNDS) (at_most max (take at t ++ us ++ drop at t))) (le-ltb (length t) at le)

pub insert-past : (max : ℕ) (t : List ℕ) (at : ℕ) (us : List ℕ) → length t < at → insert_text max t at us ≡ Err POSITION_OUT_OF_BOUNDS
insert-past max t at us lt = ap (λ b. cond b (Err POSITION_OUT_OF_BOUNDS) (at_most max (take at t ++ us ++ drop at t))) (lt-ltb (length t) at lt)

pub length-inserted : (t : List ℕ) (at : ℕ) (us : List ℕ) → at ≤ length t → length (take at t ++ us ++ drop at t) ≡ length t + length us
length-inserted t at us le =
    omega (arith, length-append (take at t ++ us) (drop at t), length-append (take at t) us, length-take-le at t le, length-drop at t)

pub delete-past : (t : List ℕ) (at count : ℕ) → length t < at → delete_text t at count ≡ Err POSITION_OUT_OF_BOUNDS
delete-past t at count lt = ap (λ b. cond b (Err POSITION_OUT_OF_BOUNDS) (Ok (take at t ++ drop (at + count) t))) (lt-ltb (length t) at lt)

-- a count that runs past the end is cut
pub delete-within : (t : List ℕ) (at count cut : ℕ) → at ≤ length t → cut ≡ min count (length t - at) → delete_text t at count ≡ Ok (take at t ++ drop (at + cut) t)
delete-within t at count cut le is =
    ap (λ b. cond b (Err POSITION_OUT_OF_BOUNDS) (Ok (take at t ++ drop (at + count) t))) (le-ltb (length t) at le) ∙ ap (λ vs. gives (take at t ++ vs)) (by (cases_lt count (length t - at)))
  where
    by : (count < length t - at) ⊎ (length t - at ≤ count) → drop (at + count) t ≡ drop (at + cut) t
    by (inl lt) = let e : count ≡ cut = omega (arith, is, lt) in ap (λ k. drop (at + k) t) e
    by (inr ge) = drop_all (at + count) t (omega (arith, ge)) ∙ sym (drop_all (at + cut) t (omega (arith, is, ge, le)))

pub set_length-fits : (max : ℕ) (t : List ℕ) (n : ℕ) → n ≤ max → set_length_text max t n ≡ Ok (exactly n t)
set_length-fits max t n le = ap (λ b. cond b (Ok (exactly n t)) (Err TOO_LONG)) (le-leb n max le)

pub set_length-refuses : (max : ℕ) (t : List ℕ) (n : ℕ) → max < n → set_length_text max t n ≡ Err TOO_LONG
set_length-refuses max t n lt = ap (λ b. cond b (Ok (exactly n t)) (Err TOO_LONG)) (lt-leb n max lt)
