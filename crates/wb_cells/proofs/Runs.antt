-- Runs of halves in a payload are runs of halves in the words.
use Rattle.std.proofs.Common.{◌≡◌, ℕ, zero, suc, ◌+◌, ◌-◌, ◌*◌, ◌/◌, ◌<◌, ◌≤◌, List, [], ◌∷◌, ◌++◌, length, slice_set, get_or, refl, ap, ◌∙◌, arith}
use Rattle.std.proofs.lemmas.List.{get_or-append-add, set-append_right, get_or_append_left, set-append_left}
use Rattle.wb_chunk.specs.Halves.{half_of, halves_from, with_half, with_halves}
use Rattle.wb_chunk.proofs.WrittenHalves.{length-with_halves}
use Rattle.wb_heap_model.specs.declared.heap.Ptr.{Ptr}
use Rattle.wb_cells.specs.Segments.{Segment, state_of}
use Rattle.wb_cells.proofs.Changing.{IsCell, before, after, length-before, word_of-payload, Holds}
use Rattle.wb_cells.proofs.Halving.{mixed, half_of-at, with_half-at}

module _ (p : Ptr) (words : List ℕ) (segments : List Segment) (spare : List ℕ) (cell : IsCell p words segments spare) where
  -- where the payload begins, in words
  abbrev start : ℕ
  start = p.place / 16 * 4 + 4

  index : (j : ℕ) → start + j ≡ length (before p words segments spare cell) + suc (suc (suc (suc j)))
  index j = omega (arith, length-before p words segments spare cell)

  -- a word of whatever the payload holds by then, as it is read and written
  word_of : (words' body : List ℕ) (j : ℕ) → Holds p words segments spare cell words' body → j < length body → get_or words' (start + j) 0 ≡ get_or body j 0
  word_of words' body j holds lt =
      ap (λ k. get_or words' k 0) (index j) ∙ ap (λ ws. get_or ws (length (before p words segments spare cell) + suc (suc (suc (suc j)))) 0) holds
      ∙ get_or-append-add (before p words segments spare cell) _ (suc (suc (suc (suc j)))) 0 ∙ get_or_append_left body (after p words segments spare cell) 0 j lt

  word_set : (words' body : List ℕ) (j v : ℕ) → Holds p words segments spare cell words' body → j < length body →
      Holds p words segments spare cell (slice_set words' (start + j) v) (slice_set body j v)
  word_set words' body j v holds lt =
      let front = before p words segments spare cell in
      let n = length (before p words segments spare cell) in
      let rest = (16 + 4 * length cell.body) ∷ state_of cell.kind ∷ cell.level ∷ p.number ∷ (body ++ after p words segments spare cell) in
      let left : n + suc (suc (suc (suc j))) - n ≡ suc (suc (suc (suc j))) = omega arith in
      ap (λ k. slice_set words' k v) (index j)
      ∙ ap (λ ws. slice_set ws (n + suc (suc (suc (suc j)))) v) holds
      ∙ set-append_right front rest n (n + suc (suc (suc (suc j)))) v refl (omega arith)
      ∙ ap (λ k. front ++ slice_set rest k v) left
      ∙ ap (λ ws. front ++ ((16 + 4 * length cell.body) ∷ state_of cell.kind ∷ cell.level ∷ p.number ∷ ws)) (set-append_left body (after p words segments spare cell) j v lt)

  half_set : (words' body : List ℕ) (i v : ℕ) → Holds p words segments spare cell words' body → i < 2 * length body →
      Holds p words segments spare cell (with_half words' (2 * start + i) v) (with_half body i v)
  half_set words' body i v holds lt =
      with_half-at words' body start i v (word_of words' body (i / 2) holds (omega arith))
      ∙ word_set words' body (i / 2) (mixed (get_or body (i / 2) 0) i v) holds (omega arith)

  -- a run that is written
  pub run_holds : (i : ℕ) (vs : List ℕ) → i + length vs ≤ 2 * length cell.body →
      Holds p words segments spare cell (with_halves words (2 * start + i) vs) (with_halves cell.body i vs)
  run_holds i [] fits = cell.spelled
  run_holds i (v ∷ vs) fits =
      let next : suc (2 * start + i) ≡ 2 * start + suc i = omega arith in
      ap (λ k. with_half (with_halves words k vs) (2 * start + i) v) next
      ∙ half_set (with_halves words (2 * start + suc i) vs) (with_halves cell.body (suc i) vs) i v (run_holds (suc i) vs (omega arith))
      (omega (arith, length-with_halves cell.body (suc i) vs))

  -- and one that is read
  pub run_of : (i n : ℕ) → i + n ≤ 2 * length cell.body → halves_from words (2 * start + i) n ≡ halves_from cell.body i n
  run_of i zero fits = refl
  run_of i (suc n) fits =
      let next : suc (2 * start + i) ≡ 2 * start + suc i = omega arith in
      ap (λ k. half_of words (2 * start + i) ∷ halves_from words k n) next
      ∙ ap (λ h. h ∷ halves_from words (2 * start + suc i) n)
      (half_of-at words cell.body start i (word_of-payload p words segments spare cell (i / 2) (omega arith)))
      ∙ ap (λ hs. half_of cell.body i ∷ hs) (run_of (suc i) n (omega arith))
