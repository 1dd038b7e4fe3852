-- The first live cell from a place on is at the first bit that is on from there.
use Rattle.std.proofs.Common.{◌≡◌, ℕ, suc, ◌+◌, ◌*◌, ◌/◌, ◌<◌, ◌≤◌, ◌⊎◌, inl, inr, List, [], ◌∷◌, ◌++◌, length, get_or, Bool, true, false, cond, replicate, Some, None, find, refl, sym, ◌∙◌, ap, subst, arith, zero-add, append_assoc}
use Rattle.std.specs.Prelude.{nat_le}
use Rattle.std.proofs.lemmas.List.{append-nil, map-append, get_or-append-add, get_or_append_left, get_or_past, length-replicate}
use Rattle.std.proofs.lemmas.Bool.{le-leb, leb-true, cases_lt, false≢true}
use Rattle.wb_heap_model.specs.declared.heap.Header.{Header}
use Rattle.wb_heap_model.specs.Row.{headers}
use Rattle.wb_heap_model.specs.LimitedHeap.{next_live_of}
use Rattle.wb_cells.specs.Inside.{IsLaid}
use Rattle.wb_cells.specs.Segments.{Segment, live, free, total, cell_from, row_from, starts_of, AreWhole}
use Rattle.wb_cells.proofs.Laying.{row_from-append, starts_of-append, length-starts_of, whole_front}
use Rattle.wb_cells.proofs.Finding.{IsLiveAt}

after_off : (m k : ℕ) (bits more : List Bool) → get_or ((replicate m false ++ bits) ++ more) (m + k) false ≡ get_or (bits ++ more) k false
after_off m k bits more =
    let index : m + k ≡ length (replicate m false) + k = ap (λ n. n + k) (sym (length-replicate m false)) in
    rw (append_assoc, index) (get_or-append-add (replicate m false) (bits ++ more) k false)

pub next_live_of-none : (from : ℕ) (xs : List Segment) (at : ℕ) (more : List Bool) → AreWhole xs →
    ((k : ℕ) → from ≤ at + 16 * k → get_or (starts_of xs ++ more) k false ≡ false) → next_live_of from (headers (row_from at xs)) ≡ None
next_live_of-none from [] at more w off = refl
next_live_of-none from (free body ∷ xs) at more w off =
    next_live_of-none from xs (at + (16 + 4 * length body)) more w.1
    (λ k le. sym (after_off (length body / 4) k (starts_of xs) more) ∙ off (suc (length body / 4 + k)) (omega (arith, le, w.0)))
next_live_of-none from (live kind level number body ∷ xs) at more w off =
    let rest : next_live_of from (headers (row_from (at + (16 + 4 * length body)) xs)) ≡ None =
    next_live_of-none from xs (at + (16 + 4 * length body)) more w.3
    (λ k le. sym (after_off (length body / 4) k (starts_of xs) more) ∙ off (suc (length body / 4 + k)) (omega (arith, le, w.0))) in
    go (nat_le from at) refl (off 0) rest
  where
    go : (b : Bool) → nat_le from at ≡ b → (from ≤ at + 16 * 0 → true ≡ false) → next_live_of from (headers (row_from (at + (16 + 4 * length body)) xs)) ≡ None →
        cond b (Some (cell_from at kind level number body).head) (next_live_of from (headers (row_from (at + (16 + 4 * length body)) xs))) ≡ None
    go true e off rest = absurd (false≢true (sym (off (omega (arith, leb-true from at e)))))
    go false e off rest = rest

find-append : (p : Header → Bool) (xs ys : List Header) → find p xs ≡ None → find p (xs ++ ys) ≡ find p ys
find-append p [] ys none = refl
find-append p (x ∷ xs) ys none = go (p x) none (find-append p xs ys)
  where
    go : (b : Bool) → cond b (Some x) (find p xs) ≡ None → (find p xs ≡ None → find p (xs ++ ys) ≡ find p ys) →
        cond b (Some x) (find p (xs ++ ys)) ≡ find p ys
    go true none rest = cc
    go false none rest = rest none

module _ (words : List ℕ) (starts : List Bool) (top first : ℕ) (laid : IsLaid words starts top first) (from : ℕ) where
  pub none_from : ((k : ℕ) → (from + 15) / 16 ≤ k → get_or starts k false ≡ false) → next_live_of from (headers (row_from 0 laid.segments)) ≡ None
  none_from off =
      next_live_of-none from laid.segments 0 (replicate laid.unset false) laid.whole
      (λ k le. ap (λ bs. get_or bs k false) (sym laid.marked) ∙ off k (omega (arith, le)))

  pub some_from : (k : ℕ) (at : IsLiveAt words (16 * k) laid.segments) → (from + 15) / 16 ≤ k → ((j : ℕ) → (from + 15) / 16 ≤ j → j < k → get_or starts j false ≡ false) →
      next_live_of from (headers (row_from 0 laid.segments)) ≡ Some (cell_from (16 * k) at.kind at.level at.number at.body).head
  some_from k at ge off =
      let back = live at.kind at.level at.number at.body ∷ at.back in
      let whole : AreWhole (at.front ++ back) = subst (λ ys. AreWhole ys) at.is laid.whole in
      let front = whole_front at.front back whole in
      let count : length (starts_of at.front) ≡ k = omega (arith, length-starts_of at.front front, at.here) in
      let bits : starts ≡ starts_of at.front ++ (starts_of back ++ replicate laid.unset false) =
      laid.marked ∙ ap (λ ys. starts_of ys ++ replicate laid.unset false) at.is
      ∙ ap (λ bs. bs ++ replicate laid.unset false) (starts_of-append at.front back)
      ∙ append_assoc (starts_of at.front) (starts_of back) (replicate laid.unset false) in
      let before : (j : ℕ) → from ≤ 0 + 16 * j → get_or (starts_of at.front ++ []) j false ≡ false =
      λ j le. ap (λ bs. get_or bs j false) (append-nil (starts_of at.front)) ∙ below j le (cases_lt j k) front count bits off in
      let none = next_live_of-none from at.front 0 [] front before in
      let here : nat_le from (0 + total at.front) ≡ true = le-leb from (0 + total at.front) (omega (arith, ge, at.here)) in
      ap (λ ys. next_live_of from (headers (row_from 0 ys))) at.is
      ∙ ap (λ r. next_live_of from (headers r)) (row_from-append at.front back 0)
      ∙ ap (next_live_of from) (map-append (λ c. c.head) (row_from 0 at.front) (row_from (0 + total at.front) back))
      ∙ find-append (λ h. nat_le from h.place) (headers (row_from 0 at.front)) (headers (row_from (0 + total at.front) back)) none
      ∙ ap (λ b. cond b (Some (cell_from (0 + total at.front) at.kind at.level at.number at.body).head) (next_live_of from (headers (row_from (0 + total at.front + (16 + 4 * length at.body)) at.back)))) here
      ∙ ap (λ p. Some (cell_from p at.kind at.level at.number at.body).head) (zero-add (total at.front) ∙ sym at.here)
    where
      below : (j : ℕ) → from ≤ 0 + 16 * j → (j < k) ⊎ (k ≤ j) → AreWhole at.front → length (starts_of at.front) ≡ k →
          starts ≡ starts_of at.front ++ (starts_of (live at.kind at.level at.number at.body ∷ at.back) ++ replicate laid.unset false) →
          ((j : ℕ) → (from + 15) / 16 ≤ j → j < k → get_or starts j false ≡ false) → get_or (starts_of at.front) j false ≡ false
      below j le (inl lt) front count bits off =
          sym (get_or_append_left (starts_of at.front) _ false j (omega (arith, count, lt))) ∙ ap (λ bs. get_or bs j false) (sym bits) ∙ off j (omega (arith, le)) lt
      below j le (inr ge) front count bits off = get_or_past (starts_of at.front) j false (omega (arith, count, ge))
