-- A row in which one cell has another length, and the words past that cell, parted at its new end.
use Rattle.std.proofs.Common.{◌≡◌, ◌≢◌, ℕ, ◌+◌, ◌-◌, ◌*◌, ◌/◌, ◌<◌, ◌≤◌, ◌⊎◌, inl, inr, List, [], ◌∷◌, ◌++◌, length, Bool, true, false, cond, take, drop, map, replicate, refl, sym, ◌∙◌, ap, arith, add-zero, add_assoc, append_assoc, length-append, AllPairs}
use Rattle.std.specs.Prelude.{nat_eq}
use Rattle.std.specs.List.{replace_range}
use Rattle.std.proofs.lemmas.List.{append-nil, length-take, length-drop, length-replicate, take-append-drop, take_all, drop_all}
use Rattle.std.proofs.lemmas.Bool.{eq-eqb, eqb-true, ne_eqb, and_parts, cases_lt}
use Rattle.wb_heap_model.specs.declared.heap.Ptr.{Ptr}
use Rattle.wb_heap_model.specs.declared.heap.Kind.{Kind}
use Rattle.wb_heap_model.specs.Row.{Cell, headers, is_at}
use Rattle.wb_heap_model.specs.CellRow.{FitsInPlace, Clears, resized_words, resized_cell, with_length}
use Rattle.wb_cells.specs.Segments.{Segment, live, free, total, cell_from, row_from, BeginsLive}
use Rattle.wb_cells.proofs.Changing.{before}
use Rattle.wb_cells.proofs.Levels.{apart-same}

numbers-length : (p : Ptr) (to : ℕ) (row : List (Cell (List ℕ))) → map (λ h. h.number) (headers row) ≡ map (λ h. h.number) (headers (with_length p to row))
numbers-length p to [] = refl
numbers-length p to (c ∷ cs) = go (is_at p c.head) (numbers-length p to cs)
  where
    go : (b : Bool) → map (λ h. h.number) (headers cs) ≡ map (λ h. h.number) (headers (with_length p to cs)) →
        c.head.number ∷ map (λ h. h.number) (headers cs) ≡ map (λ h. h.number) (headers (cond b (resized_cell to c ∷ cs) (c ∷ with_length p to cs)))
    go true rest = refl
    go false rest = ap (λ ns. c.head.number ∷ ns) rest

pub apart-length : (p : Ptr) (to : ℕ) (row : List (Cell (List ℕ))) → AllPairs (λ g h. g.number ≢ h.number) (headers row) →
    AllPairs (λ g h. g.number ≢ h.number) (headers (with_length p to row))
apart-length p to row apart = apart-same (headers row) (headers (with_length p to row)) (numbers-length p to row) apart

pub length-resized : (to : ℕ) (body : List ℕ) → length (resized_words to body) ≡ to / 4 - 4
length-resized to body =
    length-append (take (to / 4 - 4) body) (replicate (to / 4 - 4 - length body) 0)
    ∙ rw (length-take, length-replicate) (omega arith)

pub with_length-split : (p : Ptr) (to : ℕ) (front : List Segment) (kind : Kind) (level : ℕ) (body : List ℕ) (back : List Segment) (at : ℕ) → p.place ≡ at + total front →
    16 + 4 * length (resized_words to body) ≡ to →
    with_length p to (row_from at (front ++ live kind level p.number body ∷ back)) ≡
    row_from at (front ++ live kind level p.number (resized_words to body) ∷ []) ++ row_from (at + total front + (16 + 4 * length body)) back
with_length-split p to [] kind level body back at here size =
    let place : nat_eq p.place at ≡ true = eq-eqb p.place at (here ∙ add-zero at) in
    let number : nat_eq p.number p.number ≡ true = eq-eqb p.number p.number refl in
    rw (place, number, size, add-zero at) refl
with_length-split p to (free body' ∷ front) kind level body back at here size =
    let e : at + (16 + 4 * length body') + total front ≡ at + total (free body' ∷ front) = add_assoc at (16 + 4 * length body') (total front) in
    with_length-split p to front kind level body back (at + (16 + 4 * length body')) (here ∙ sym e) size
    ∙ ap (λ n. row_from (at + (16 + 4 * length body')) (front ++ live kind level p.number (resized_words to body) ∷ []) ++ row_from (n + (16 + 4 * length body)) back) e
with_length-split p to (live kind' level' number' body' ∷ front) kind level body back at here size =
    let e : at + (16 + 4 * length body') + total front ≡ at + total (live kind' level' number' body' ∷ front) = add_assoc at (16 + 4 * length body') (total front) in
    rw (ne_eqb p.place at (λ q. omega (arith, q, here)))
    (ap (λ r. cell_from at kind' level' number' body' ∷ r)
    (with_length-split p to front kind level body back (at + (16 + 4 * length body')) (here ∙ sym e) size
    ∙ ap (λ n. row_from (at + (16 + 4 * length body')) (front ++ live kind level p.number (resized_words to body) ∷ []) ++ row_from (n + (16 + 4 * length body)) back) e))

-- words of a payload and of the room past it, parted elsewhere
pub parted_room : (body room : List ℕ) (to : ℕ) →
    body ++ (replicate (to / 4 - 4 - length body) 0 ++ drop (to / 4 - 4 - length body) room) ≡
    resized_words to body ++ (drop (to / 4 - 4) body ++ drop (to / 4 - 4 - length body) room)
parted_room body room to = go (cases_lt (to / 4 - 4) (length body))
  where
    n : ℕ
    n = to / 4 - 4

    go : (n < length body) ⊎ (length body ≤ n) → body ++ (replicate (n - length body) 0 ++ drop (n - length body) room) ≡
        (take n body ++ replicate (n - length body) 0) ++ (drop n body ++ drop (n - length body) room)
    go (inl less) =
        let none : n - length body ≡ 0 = omega (arith, less) in
        rw none (ap (λ ws. ws ++ room) (sym (take-append-drop n body)) ∙ append_assoc (take n body) (drop n body) room
        ∙ ap (λ ws. ws ++ (drop n body ++ room)) (sym (append-nil (take n body))))
    go (inr le) =
        rw (take_all n body le, drop_all n body le)
        (sym (append_assoc body (replicate (n - length body) 0) (drop (n - length body) room)))

-- the first live cell past one that grows is past its new end
pub fits_past : (p : Ptr) (to : ℕ) (xs ys : List Segment) (at : ℕ) → FitsInPlace p to (headers (row_from at (xs ++ ys))) → FitsInPlace p to (headers (row_from (at + total xs) ys))
fits_past p to [] ys at f = rw (add-zero at) f
fits_past p to (free body ∷ xs) ys at f = rw (add_assoc at (16 + 4 * length body) (total xs)) at (fits_past p to xs ys (at + (16 + 4 * length body)) f)
fits_past p to (live kind level number body ∷ xs) ys at f = rw (add_assoc at (16 + 4 * length body) (total xs)) at (fits_past p to xs ys (at + (16 + 4 * length body)) f.1)

pub fits_below : (p : Ptr) (to at : ℕ) (xs : List Segment) → BeginsLive xs → p.place < at → FitsInPlace p to (headers (row_from at xs)) → p.place + to ≤ at
fits_below p to at [] b above f = absurd b
fits_below p to at (free body ∷ xs) b above f = absurd b
fits_below p to at (live kind level number body ∷ xs) b above f = go f.0
  where
    go : Clears p to (cell_from at kind level number body).head → p.place + to ≤ at
    go (inl e) = absurd (omega (arith, eqb-true p.place at (and_parts _ _ e).0, above))
    go (inr (inl before)) = before
    go (inr (inr after)) = absurd (omega (arith, after, above))

pub length-replace_range : (xs : List ℕ) (i n : ℕ) (ys : List ℕ) → length ys ≡ n → i + n ≤ length xs → length (replace_range xs i (i + n) ys) ≡ length xs
length-replace_range xs i n ys count le =
    omega (arith, length-append (take i xs ++ ys) (drop (i + n) xs), length-append (take i xs) ys, length-take i xs, length-drop (i + n) xs, count, le)
