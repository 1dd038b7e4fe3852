-- A cell that moves: a cell of zeros is taken, words are copied to it, and the old cell goes.
use Rattle.std.proofs.Common.{◌≡◌, ◌≢◌, ℕ, ◌-◌, ◌/◌, ◌≤◌, ◌++◌, List, length, take, drop, false, All, Option, Some, None, IsSome, refl, sym, ◌∙◌, ap, subst}
use Rattle.wb_heap_model.specs.declared.heap.Header.{Header}
use Rattle.wb_heap_model.specs.declared.heap.Ptr.{Ptr}
use Rattle.wb_heap_model.specs.CellRow.{CellRow, content_or_nil, payload_of, with_payload, resized_words}
use Rattle.wb_heap_model.specs.LimitedHeap.{zero_words}
use Rattle.wb_heap_model.specs.Row.{Cell, headers, cell_at, is_at, inserted, without, pointer_to, IsSpacedFrom}
use Rattle.wb_heap_model.proofs.Reallocations.{at-own, at-number, not_at-number, found-all, found-from, found-head, cell_at-inserted, cell_at-inserted_other, changed-inserted, without-inserted, copied-resized}

-- the cell that a live pointer names
pub live-cell : (p : Ptr) (row : List (Cell (List ℕ))) → IsSome (cell_at p row) → (c : Cell (List ℕ)) × (cell_at p row ≡ Some c)
live-cell p row some = by (cell_at p row) refl some
  where
    by : (o : Option (Cell (List ℕ))) → cell_at p row ≡ o → IsSome o → (c : Cell (List ℕ)) × (cell_at p row ≡ Some c)
    by None e some = cc
    by (Some c) e some = (c, e)

-- the new cell before that
abbrev pub zeros : Header → Cell (List ℕ)
zeros moved = record { head = moved; content = zero_words moved.length }

-- the row once a number of words were copied
abbrev pub copied-over : Ptr → Ptr → ℕ → List (Cell (List ℕ)) → List (Cell (List ℕ))
copied-over p q n row = with_payload q (take n (payload_of p row) ++ drop n (payload_of q row)) row

module _ (p : Ptr) (moved : Header) (row : List (Cell (List ℕ))) (spaced : IsSpacedFrom 0 (headers row)) (live : IsSome (cell_at p row))
    (unused : All (λ h. h.number ≢ moved.number) (headers row)) where
  other : is_at p moved ≡ false
  other =
      let c = (live-cell p row live).0 in
      let found = found-head p row c (live-cell p row live).1 in
      let there = found-from p (headers row) 0 c.head spaced found in
      let new : c.head.number ≢ moved.number = found-all (λ h. h.number ≢ moved.number) p (headers row) c.head unused found in
      not_at-number p moved (λ e. new (sym (at-number p c.head there.named) ∙ sym e))

  pub old-there : cell_at p (inserted (zeros moved) row) ≡ cell_at p row
  old-there = cell_at-inserted_other p (zeros moved) row other

  pub new-there : cell_at (pointer_to moved) (inserted (zeros moved) row) ≡ Some (zeros moved)
  new-there = cell_at-inserted (pointer_to moved) (zeros moved) row (at-own moved) unused

  pub copied-is : (n : ℕ) → n ≡ length (payload_of p row) → n ≤ moved.length / 4 - 4 →
      copied-over p (pointer_to moved) n (inserted (zeros moved) row) ≡ inserted (record { head = moved; content = resized_words moved.length (payload_of p row) }) row
  copied-is n whole le =
      let words : List ℕ = take n (payload_of p (inserted (zeros moved) row)) ++ drop n (payload_of (pointer_to moved) (inserted (zeros moved) row)) in
      let are : words ≡ resized_words moved.length (payload_of p row) =
      ap (λ o. take n (content_or_nil o) ++ drop n (payload_of (pointer_to moved) (inserted (zeros moved) row))) old-there
      ∙ ap (λ o. take n (payload_of p row) ++ drop n (content_or_nil o)) new-there ∙ copied-resized moved.length n (payload_of p row) (sym whole) le in
      changed-inserted (pointer_to moved) (λ _. words) (zeros moved) row (at-own moved) unused
      ∙ ap (λ w. inserted (record { head = moved; content = w }) row) are

  pub old-left : (w : List ℕ) → IsSome (cell_at p (inserted (record { head = moved; content = w }) row))
  old-left w = subst IsSome (sym (cell_at-inserted_other p (record { head = moved; content = w }) row other)) live

  pub moved-is : (w : List ℕ) → without p (inserted (record { head = moved; content = w }) row) ≡ inserted (record { head = moved; content = w }) (without p row)
  moved-is w = without-inserted p (record { head = moved; content = w }) row 0 spaced other

-- the three steps of a move
module _ (p : Ptr) (moved : Header) (old taken copied given : CellRow) (n : ℕ) (spaced : IsSpacedFrom 0 (headers old.row)) (live : IsSome (cell_at p old.row))
    (unused : All (λ h. h.number ≢ moved.number) (headers old.row)) (taken_is : taken ≡ record old { row = inserted (zeros moved) old.row })
    (copied_is : copied ≡ record taken { row = copied-over p (pointer_to moved) n taken.row }) (whole : n ≡ length (payload_of p old.row))
    (le : n ≤ moved.length / 4 - 4) where
  pub row-copied : copied.row ≡ inserted (record { head = moved; content = resized_words moved.length (payload_of p old.row) }) old.row
  row-copied =
      ap (λ (x : CellRow). x.row) copied_is ∙ ap (λ (x : CellRow). copied-over p (pointer_to moved) n x.row) taken_is
      ∙ copied-is p moved old.row spaced live unused n whole le

  pub still-live : IsSome (cell_at p copied.row)
  still-live = subst (λ row. IsSome (cell_at p row)) (sym row-copied) (old-left p moved old.row spaced live unused (resized_words moved.length (payload_of p old.row)))

  pub moved-all : given ≡ record copied { row = without p copied.row } →
      given ≡ record { row = inserted (record { head = moved; content = resized_words moved.length (payload_of p old.row) }) (without p old.row); held = old.held }
  moved-all given_is =
      given_is ∙ ap (λ row. record { row = without p row; held = copied.held }) row-copied
      ∙ ap (λ row. record { row = row; held = copied.held }) (moved-is p moved old.row spaced live unused (resized_words moved.length (payload_of p old.row)))
      ∙ ap (λ (x : CellRow). record {
        row = inserted (record { head = moved; content = resized_words moved.length (payload_of p old.row) }) (without p old.row);
        held = x.held;
      }) copied_is
      ∙ ap (λ (x : CellRow). record {
        row = inserted (record { head = moved; content = resized_words moved.length (payload_of p old.row) }) (without p old.row);
        held = x.held;
      }) taken_is
