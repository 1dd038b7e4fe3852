-- The free cells below a place and above it, as the walk finds them and as segments have them.
use Rattle.std.proofs.Common.{◌≡◌, ℕ, ◌+◌, ◌*◌, ◌≤◌, List, [], ◌∷◌, ◌++◌, length, refl, ◌∙◌, ap, subst, arith, add_assoc, add-zero, zero-add}
use Rattle.wb_cells.specs.FreeList.{NO_PLACE, end_at, Gap, Links, AreBelow, AreFrom, IsRound, last_place, last_place_or, prior_place_or, first_place}
use Rattle.wb_cells.specs.Segments.{Segment, live, free, total, first_free, last_free}
use Rattle.wb_cells.proofs.Linking.{gaps_from}

gaps_from-append : (xs ys : List Segment) (at : ℕ) → gaps_from at (xs ++ ys) ≡ gaps_from at xs ++ gaps_from (at + total xs) ys
gaps_from-append [] ys at = rw (add-zero at)
gaps_from-append (live kind level number body ∷ xs) ys at = rw (add_assoc at (16 + 4 * length body) (total xs)) at (gaps_from-append xs ys (at + (16 + 4 * length body)))
gaps_from-append (free body ∷ xs) ys at =
    ap (λ gs. record { place = at; length = 16 + 4 * length body } ∷ gs)
    (rw (add_assoc at (16 + 4 * length body) (total xs)) at (gaps_from-append xs ys (at + (16 + 4 * length body))))

gaps_below : (xs : List Segment) (at place : ℕ) → at + total xs ≤ place → AreBelow place (gaps_from at xs)
gaps_below [] at place le = tt
gaps_below (live kind level number body ∷ xs) at place le = gaps_below xs (at + (16 + 4 * length body)) place (omega arith)
gaps_below (free body ∷ xs) at place le = (omega arith, gaps_below xs (at + (16 + 4 * length body)) place (omega arith))

gaps_above : (xs : List Segment) (at place : ℕ) → place ≤ at → AreFrom place (gaps_from at xs)
gaps_above [] at place le = tt
gaps_above (live kind level number body ∷ xs) at place le = gaps_above xs (at + (16 + 4 * length body)) place (omega arith)
gaps_above (free body ∷ xs) at place le = (le, gaps_above xs (at + (16 + 4 * length body)) place (omega arith))

last_place-gaps : (xs : List Segment) (at none : ℕ) → last_place_or (gaps_from at xs) none ≡ last_free at xs none
last_place-gaps [] at none = refl
last_place-gaps (live kind level number body ∷ xs) at none = last_place-gaps xs (at + (16 + 4 * length body)) none
last_place-gaps (free body ∷ xs) at none = last_place-gaps xs (at + (16 + 4 * length body)) at

first_place-gaps : (xs : List Segment) (at : ℕ) → first_place (gaps_from at xs) ≡ first_free at xs NO_PLACE
first_place-gaps [] at = refl
first_place-gaps (live kind level number body ∷ xs) at = first_place-gaps xs (at + (16 + 4 * length body))
first_place-gaps (free body ∷ xs) at = refl

-- the last free one but the last is the last of those before it
pub prior_place-last : (xs : List Segment) (body : List ℕ) (at prior before : ℕ) →
    prior_place_or (gaps_from at (xs ++ free body ∷ [])) prior before ≡ last_free at xs before
prior_place-last [] body at prior before = refl
prior_place-last (live kind level number body' ∷ xs) body at prior before = prior_place-last xs body (at + (16 + 4 * length body')) prior before
prior_place-last (free body' ∷ xs) body at prior before = prior_place-last xs body (at + (16 + 4 * length body')) before at

pub record AreNeighbours (words : List ℕ) (place : ℕ) (front rest : List Segment) (prior before after : ℕ) : Type 0 where
  pub second : end_at words before ≡ place → prior ≡ prior_place_or (gaps_from 0 front) NO_PLACE NO_PLACE
  pub below : before ≡ last_free 0 front NO_PLACE
  pub above : after ≡ first_free (total front) rest NO_PLACE

abbrev pub Rounds : List ℕ → ℕ → ℕ → ℕ → ℕ → ℕ → Type 0
Rounds words first place prior before after =
    (low high : List Gap) → Links words first (low ++ high) → AreBelow place low → AreFrom place high → IsRound words place low high prior before after

module _ (words : List ℕ) (first : ℕ) (front rest : List Segment) (links : Links words first (gaps_from 0 (front ++ rest))) where
  pub low_high : Links words first (gaps_from 0 front ++ gaps_from (total front) rest)
  low_high = subst (λ gs. Links words first gs) (gaps_from-append front rest 0 ∙ ap (λ n. gaps_from 0 front ++ gaps_from n rest) (zero-add (total front))) links

  pub below_front : AreBelow (total front) (gaps_from 0 front)
  below_front = gaps_below front 0 (total front) (omega arith)

  pub above_front : AreFrom (total front) (gaps_from (total front) rest)
  above_front = gaps_above rest (total front) (total front) (omega arith)

  pub neighbours : (prior before after : ℕ) → Rounds words first (total front) prior before after → AreNeighbours words (total front) front rest prior before after
  neighbours prior before after rounds =
      let r = rounds (gaps_from 0 front) (gaps_from (total front) rest) low_high below_front above_front in
      record {
        second = r.second;
        below = r.below ∙ last_place-gaps front 0 NO_PLACE;
        above = r.above ∙ first_place-gaps rest (total front);
      }

  pub last_of_low : last_place (gaps_from 0 front) ≡ last_free 0 front NO_PLACE
  last_of_low = last_place-gaps front 0 NO_PLACE
