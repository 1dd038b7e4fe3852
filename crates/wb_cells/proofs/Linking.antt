-- The free segments as the words link them.
use Rattle.std.proofs.Common.{◌≡◌, ℕ, suc, ◌+◌, ◌*◌, ◌/◌, ◌%◌, ◌<◌, ◌≤◌, List, [], ◌∷◌, ◌++◌, length, get_or, Bool, drop, refl, sym, ◌∙◌, ap, arith, add-zero, append_assoc, length-append}
use Rattle.std.proofs.lemmas.List.{get_or-drop, length-drop, drop-drop, drop_at}
use Rattle.wb_cells.specs.FreeList.{NO_PLACE, Gap, Links}
use Rattle.wb_cells.specs.Inside.{IsLaid}
use Rattle.wb_cells.specs.Segments.{Segment, live, free, state_of, total, first_free, words_of, AreWhole}
use Rattle.wb_cells.proofs.Laying.{length-words_of}

-- the free segments
abbrev pub gaps_from : ℕ → List Segment → List Gap
gaps_from at [] = []
gaps_from at (live kind level number body ∷ ss) = gaps_from (at + (16 + 4 * length body)) ss
gaps_from at (free body ∷ ss) = record { place = at; length = 16 + 4 * length body } ∷ gaps_from (at + (16 + 4 * length body)) ss

pub first_free-above : (xs : List Segment) (at last : ℕ) → at + total xs ≤ last → at ≤ first_free at xs last
first_free-above [] at last le = omega arith
first_free-above (live kind level number body ∷ xs) at last le = omega (arith, first_free-above xs (at + (16 + 4 * length body)) last (omega arith))
first_free-above (free body ∷ xs) at last le = omega arith

-- past one segment's words
past_words : (words : List ℕ) (at : ℕ) (a b c d : ℕ) (body rest spare : List ℕ) → at % 16 ≡ 0 → length body % 4 ≡ 0 →
    drop (at / 16 * 4) words ≡ a ∷ b ∷ c ∷ d ∷ ((body ++ rest) ++ spare) → drop ((at + (16 + 4 * length body)) / 16 * 4) words ≡ rest ++ spare
past_words words at a b c d body rest spare rounded whole is =
    let index : (at + (16 + 4 * length body)) / 16 * 4 ≡ at / 16 * 4 + suc (suc (suc (suc (length body)))) = omega (arith, rounded, whole) in
    ap (λ n. drop n words) index
    ∙ sym (drop-drop (suc (suc (suc (suc (length body))))) (at / 16 * 4) words)
    ∙ ap (drop (suc (suc (suc (suc (length body)))))) is
    ∙ ap (drop (length body)) (append_assoc body rest spare)
    ∙ drop_at body (rest ++ spare) (length body) refl

pub links_from : (words spare : List ℕ) (xs : List Segment) (at : ℕ) → at % 16 ≡ 0 → AreWhole xs → at + total xs < NO_PLACE →
    drop (at / 16 * 4) words ≡ words_of at xs NO_PLACE ++ spare → Links words (first_free at xs NO_PLACE) (gaps_from at xs)
links_from words spare [] at rounded w below is = refl
links_from words spare (live kind level number body ∷ xs) at rounded w below is =
    links_from words spare xs (at + (16 + 4 * length body)) (omega (arith, rounded, w.0)) w.3 (omega arith)
    (past_words words at (16 + 4 * length body) (state_of kind) level number body (words_of (at + (16 + 4 * length body)) xs NO_PLACE) spare rounded w.0 is)
links_from words spare (free body ∷ xs) at rounded w below is =
    let i = at / 16 * 4 in
    let next = first_free (at + (16 + 4 * length body)) xs NO_PLACE in
    let size : get_or words i 0 ≡ 16 + 4 * length body = ap (λ n. get_or words n 0) (sym (add-zero i)) ∙ sym (get_or-drop i words 0 0) ∙ ap (λ ws. get_or ws 0 0) is in
    let link : get_or words (i + 2) 0 ≡ next = sym (get_or-drop i words 2 0) ∙ ap (λ ws. get_or ws 2 0) is in
    let rest = links_from words spare xs (at + (16 + 4 * length body)) (omega (arith, rounded, w.0)) w.1 (omega arith)
    (past_words words at (16 + 4 * length body) 0 next 0 body (words_of (at + (16 + 4 * length body)) xs NO_PLACE) spare rounded w.0 is) in (
      refl,
      size,
      omega (arith, ap length is, length-drop i words),
      omega arith,
      rw link (omega (arith, first_free-above xs (at + (16 + 4 * length body)) NO_PLACE (omega arith))),
      rw link rest,
    )

module _ (words : List ℕ) (starts : List Bool) (top first : ℕ) (laid : IsLaid words starts top first) where
  pub below_none : total laid.segments < NO_PLACE
  below_none = omega (arith, laid.bounded, ap length laid.spelled, length-append (words_of 0 laid.segments NO_PLACE) laid.spare, length-words_of laid.segments 0 NO_PLACE)

  pub links_laid : Links words first (gaps_from 0 laid.segments)
  links_laid = rw laid.linked (links_from words laid.spare laid.segments 0 refl laid.whole (omega (arith, below_none)) laid.spelled)
