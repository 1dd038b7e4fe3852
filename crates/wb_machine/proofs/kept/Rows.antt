-- Reading the words of a row's cells as content goes along with what is done to rows.
use Rattle.std.proofs.Common.{◌≡◌, ℕ, ◌+◌, ◌-◌, ◌*◌, ◌/◌, ◌++◌, ◌^◌, zero, suc, ℤ, pos, negsuc, w32, FitsSigned, Bool, true, false, not, List, [], ◌∷◌, length, map, refl, ap, ◌∙◌, sym, arith, cond, Some, take, replicate}
use Rattle.std.specs.Prelude.{nat_eq, nat_lt, ◌&&◌, option_map}
use Rattle.std.specs.Int.{cast_unsigned, cast_signed}
use Rattle.std.proofs.lemmas.Int.{to_z-of_z}
use Rattle.wb_heap_model.specs.declared.heap.Ptr.{Ptr}
use Rattle.wb_heap_model.specs.declared.heap.Kind.{Kind}
use Rattle.wb_heap_model.specs.declared.heap.Kind.TheVariants.{Raw, Cleanup}
use Rattle.wb_tree.specs.declared.script.Script.{Script}
use Rattle.wb_heap_model.specs.Row.{Cell, headers, is_at, cell_at, without, inserted, changed, cell_length}
use Rattle.wb_heap_model.specs.CellRow.{with_payload, resized_words}
use Rattle.wb_heap_model.specs.Contents.{words}
use Rattle.wb_meaning.specs.Attempts.{resized}
use Rattle.wb_heap_model.specs.Heap.{is_cleanup, lower, lowered}
use Rattle.wb_heap_model.specs.declared.heap.Header.{Header}
use Rattle.wb_meaning.specs.Statements.{fresh_words}
use Rattle.wb_heap_model.specs.Spelling.{signed, read_as}
use Rattle.wb_heap_model.specs.LimitedHeap.{zero_words}
use Rattle.wb_machine.specs.RunState.{field_count, read_cell, read_row}

pub headers_read : (script : Script) (row : List (Cell (List ℕ))) → headers (read_row script row) ≡ headers row
headers_read script [] = refl
headers_read script (c ∷ cs) = ap (λ hs. c.head ∷ hs) (headers_read script cs)

pub read_inserted : (script : Script) (c : Cell (List ℕ)) (row : List (Cell (List ℕ))) →
    read_row script (inserted c row) ≡ inserted (read_cell script c) (read_row script row)
read_inserted script c [] = refl
read_inserted script c (d ∷ ds) = go (read_inserted script c ds) (nat_lt c.head.place d.head.place)
  where
    go : read_row script (inserted c ds) ≡ inserted (read_cell script c) (read_row script ds) → (b : Bool) →
        read_row script (cond b (c ∷ d ∷ ds) (d ∷ inserted c ds))
        ≡ cond b (read_cell script c ∷ read_row script (d ∷ ds)) (read_cell script d ∷ inserted (read_cell script c) (read_row script ds))
    go e true = refl
    go e false = ap (λ r. read_cell script d ∷ r) e

pub read_without : (script : Script) (p : Ptr) (row : List (Cell (List ℕ))) → read_row script (without p row) ≡ without p (read_row script row)
read_without script p [] = refl
read_without script p (c ∷ cs) = go (read_without script p cs) (not (is_at p c.head))
  where
    go : read_row script (without p cs) ≡ without p (read_row script cs) → (b : Bool) →
        read_row script (cond b (c ∷ without p cs) (without p cs))
        ≡ cond b (read_cell script c ∷ without p (read_row script cs)) (without p (read_row script cs))
    go e true = ap (λ r. read_cell script c ∷ r) e
    go e false = e

pub read_cell_at : (script : Script) (p : Ptr) (row : List (Cell (List ℕ))) →
    cell_at p (read_row script row) ≡ option_map (read_cell script) (cell_at p row)
read_cell_at script p [] = refl
read_cell_at script p (c ∷ cs) = go (read_cell_at script p cs) (is_at p c.head)
  where
    go : cell_at p (read_row script cs) ≡ option_map (read_cell script) (cell_at p cs) → (b : Bool) →
        cond b (Some (read_cell script c)) (cell_at p (read_row script cs)) ≡ option_map (read_cell script) (cond b (Some c) (cell_at p cs))
    go e true = refl
    go e false = e

signed_zeros : (n : ℕ) → map signed (replicate n 0) ≡ replicate n (pos 0)
signed_zeros zero = refl
signed_zeros (suc n) = ap (λ zs. pos 0 ∷ zs) (signed_zeros n)

-- the words of a fresh cell
pub read_fresh : (count : ℕ → ℕ) (bytes : ℕ) → read_as count Raw (zero_words (cell_length bytes)) ≡ fresh_words bytes
read_fresh count bytes =
    let n : cell_length bytes / 4 - 4 ≡ 4 * ((bytes + 15) / 16) = omega arith in
    ap (λ k. words (map signed (replicate k 0))) n ∙ ap words (signed_zeros (4 * ((bytes + 15) / 16)))

pub length_read : (script : Script) (row : List (Cell (List ℕ))) → length (read_row script row) ≡ length row
length_read script [] = refl
length_read script (c ∷ cs) = ap suc (length_read script cs)

-- another payload of a Raw cell
pub read_changed : (script : Script) (p : Ptr) (ws : List ℕ) (row : List (Cell (List ℕ))) (c : Cell (List ℕ)) → cell_at p row ≡ Some c → c.head.kind ≡ Raw →
    read_row script (with_payload p ws row) ≡ changed p (λ _. words (map signed ws)) (read_row script row)
read_changed script p ws [] c e raw = cc
read_changed script p ws (d ∷ ds) c e raw = go (is_at p d.head) e (λ e. read_changed script p ws ds c e raw)
  where
    go : (b : Bool) → cond b (Some d) (cell_at p ds) ≡ Some c →
        (cell_at p ds ≡ Some c → read_row script (with_payload p ws ds) ≡ changed p (λ _. words (map signed ws)) (read_row script ds)) →
        read_row script (cond b (record d { content = ws } ∷ ds) (d ∷ with_payload p ws ds))
        ≡ cond b (record (read_cell script d) { content = words (map signed ws) } ∷ read_row script ds)
        (read_cell script d ∷ changed p (λ _. words (map signed ws)) (read_row script ds))
    go true e rest =
        let same : d ≡ c = cc in
        ap (λ k. record { head = d.head; content = read_as (field_count script) k ws } ∷ read_row script ds) (ap (λ (x : Cell (List ℕ)). x.head.kind) same ∙ raw)
    go false e rest = ap (λ r. read_cell script d ∷ r) (rest e)

-- the words of the cleanup stack's cell aren't read
pub read_unread : (script : Script) (p : Ptr) (ws : List ℕ) (row : List (Cell (List ℕ))) → ((c : Cell (List ℕ)) → cell_at p row ≡ Some c → c.head.kind ≡ Cleanup) →
    read_row script (with_payload p ws row) ≡ read_row script row
read_unread script p ws [] own = refl
read_unread script p ws (d ∷ ds) own = go (is_at p d.head) own (read_unread script p ws ds)
  where
    go : (b : Bool) → ((c : Cell (List ℕ)) → cond b (Some d) (cell_at p ds) ≡ Some c → c.head.kind ≡ Cleanup) →
        (((c : Cell (List ℕ)) → cell_at p ds ≡ Some c → c.head.kind ≡ Cleanup) → read_row script (with_payload p ws ds) ≡ read_row script ds) →
        read_row script (cond b (record d { content = ws } ∷ ds) (d ∷ with_payload p ws ds)) ≡ read_cell script d ∷ read_row script ds
    go true own rest =
        ap (λ content. record { head = d.head; content = content } ∷ read_row script ds)
        (ap (λ k. read_as (field_count script) k ws) (own d refl) ∙ sym (ap (λ k. read_as (field_count script) k d.content) (own d refl)))
    go false own rest = ap (λ r. read_cell script d ∷ r) (rest own)

-- the signed number of a word
pub signed_is : (w : ℕ) → signed w ≡ cast_signed w32 w
signed_is w = by (nat_lt w (2 ^ 31))
  where
    by : (b : Bool) → cond b (pos w) (negsuc (2 ^ 32 - 1 - w)) ≡ cond b (pos w) (negsuc (2 ^ 32 - suc w))
    by true = refl
    by false = ap negsuc (omega arith)

-- the word of a number reads as that number
pub signed_word : (z : ℤ) → FitsSigned w32 z → signed (cast_unsigned w32 z) ≡ z
signed_word z fits = signed_is (cast_unsigned w32 z) ∙ to_z-of_z w32 z fits

signed_more : (xs ys : List ℕ) → map signed (xs ++ ys) ≡ map signed xs ++ map signed ys
signed_more [] ys = refl
signed_more (x ∷ xs) ys = ap (λ zs. signed x ∷ zs) (signed_more xs ys)

signed_fewer : (n : ℕ) (xs : List ℕ) → map signed (take n xs) ≡ take n (map signed xs)
signed_fewer zero xs = refl
signed_fewer (suc n) [] = refl
signed_fewer (suc n) (x ∷ xs) = ap (λ zs. signed x ∷ zs) (signed_fewer n xs)

signed_as_many : (xs : List ℕ) → length (map signed xs) ≡ length xs
signed_as_many [] = refl
signed_as_many (x ∷ xs) = ap suc (signed_as_many xs)

-- the words of a Raw cell of another length
pub read_resized : (count : ℕ → ℕ) (to : ℕ) (ws : List ℕ) → read_as count Raw (resized_words to ws) ≡ resized (to - 16) (read_as count Raw ws)
read_resized count to ws =
    let n : to / 4 - 4 ≡ (to - 16) / 4 = omega arith in
    let zeros : map signed (replicate (to / 4 - 4 - length ws) 0) ≡ replicate ((to - 16) / 4 - length (map signed ws)) (pos 0) =
    signed_zeros (to / 4 - 4 - length ws) ∙ ap (λ k. replicate k (pos 0)) (ap (λ k. k - length ws) n ∙ ap (λ k. (to - 16) / 4 - k) (sym (signed_as_many ws))) in
    ap words (signed_more (take (to / 4 - 4) ws) (replicate (to / 4 - 4 - length ws) 0)
    ∙ ap (λ zs. zs ++ map signed (replicate (to / 4 - 4 - length ws) 0)) (signed_fewer (to / 4 - 4) ws ∙ ap (λ k. take k (map signed ws)) n)
    ∙ ap (λ zs. take ((to - 16) / 4) (map signed ws) ++ zs) zeros)

-- the cells of a level one level lower
pub read_lowered : (script : Script) (level : ℕ) (row : List (Cell (List ℕ))) → read_row script (lowered level row) ≡ lowered level (read_row script row)
read_lowered script level [] = refl
read_lowered script level (c ∷ cs) =
    ap (λ (kind : Kind). record { head = lower level c.head; content = read_as (field_count script) kind c.content } ∷ read_row script (lowered level cs)) (same c.head)
    ∙ ap (λ r. record { head = lower level c.head; content = (read_cell script c).content } ∷ r) (read_lowered script level cs)
  where
    same : (h : Header) → (lower level h).kind ≡ h.kind
    same h = by (nat_eq h.level level && not (is_cleanup h.kind))
      where
        by : (b : Bool) → (cond b (record h { level = level - 1 }) h).kind ≡ h.kind
        by true = refl
        by false = refl
