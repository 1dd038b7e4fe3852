-- The free cells nearest to a place, as lengths by place find them.
use Rattle.std.proofs.Common.{◌≡◌, ◌≢◌, ℕ, ◌+◌, ◌*◌, ◌/◌, ◌%◌, ◌<◌, ◌≤◌, ◌⊎◌, inl, inr, List, [], ◌∷◌, ◌++◌, length, slice_index, Option, Some, None, refl, sym, ◌∙◌, ap, subst, arith}
use Rattle.std.proofs.lemmas.Bool.{cases_eq, cases_lt}
use Rattle.wb_cells.specs.FreeList.{Gap, Links, NO_PLACE, end_at, AreBelow, AreFrom, IsRound, last_place_or, prior_place_or, first_place}
use Rattle.wb_cells.specs.Maxima.{IsLast}
use Rattle.wb_cells.specs.RowGaps.{gap_of, AreSet, AreListed, IsPrior, found_or}
use Rattle.wb_cells.proofs.RowGaps.{one_here, one_off}

-- free cells that ascend from a place on
abbrev Ascend : ℕ → List Gap → Type 0
Ascend at [] = Unit {0}
Ascend at (g ∷ gs) = (at ≤ g.place) × Ascend (g.place + 1) gs

ascend_lower : (gs : List Gap) (low at : ℕ) → low ≤ at → Ascend at gs → Ascend low gs
ascend_lower [] low at le a = tt
ascend_lower (g ∷ gs) low at le a = (omega (arith, le, a.0), a.1)

ascend_links : (words : List ℕ) (gs : List Gap) (at : ℕ) → Links words at gs → Ascend at gs
ascend_links words [] at links = tt
ascend_links words (g ∷ gs) at links =
    (omega (arith, links.0), ascend_lower gs (g.place + 1) (slice_index words (g.place / 16 * 4 + 2)) (omega (arith, links.4)) (ascend_links words gs _ links.5))

ascend_front : (xs ys : List Gap) (at : ℕ) → Ascend at (xs ++ ys) → Ascend at xs
ascend_front [] ys at a = tt
ascend_front (x ∷ xs) ys at a = (a.0, ascend_front xs ys (x.place + 1) a.1)

set_front : (xs ys : List Gap) → AreSet (xs ++ ys) → AreSet xs
set_front [] ys s = tt
set_front (x ∷ xs) ys s = (s.0, s.1, set_front xs ys s.2)

-- none begins below the first
gap_of-below : (gs : List Gap) (at k : ℕ) → Ascend at gs → 16 * k < at → gap_of gs k ≡ 0
gap_of-below [] at k a lt = refl
gap_of-below (g ∷ gs) at k a lt =
    omega (arith, one_off g.place g.length k (λ e. omega (arith, e, lt, a.0)), gap_of-below gs (g.place + 1) k a.1 (omega (arith, lt, a.0)))

gap_of-from : (gs : List Gap) (place k : ℕ) → AreFrom place gs → 16 * k < place → gap_of gs k ≡ 0
gap_of-from [] place k from lt = refl
gap_of-from (g ∷ gs) place k from lt =
    omega (arith, one_off g.place g.length k (λ e. omega (arith, e, lt, from.0)), gap_of-from gs place k from.1 lt)

gap_of-append : (xs ys : List Gap) (k : ℕ) → gap_of (xs ++ ys) k ≡ gap_of xs k + gap_of ys k
gap_of-append [] ys k = omega arith
gap_of-append (x ∷ xs) ys k = omega (arith, gap_of-append xs ys k)

-- one begins where the first does
gap_of-first : (g : Gap) (gs : List Gap) → g.place % 16 ≡ 0 → g.length ≤ gap_of (g ∷ gs) (g.place / 16)
gap_of-first g gs r = omega (arith, one_here g.place g.length (g.place / 16) (omega (arith, r)))

-- the last one below an index, where some are
last_is : (gs : List Gap) (at n b none : ℕ) → Ascend at gs → AreSet gs → AreBelow (16 * n) gs → IsLast (gap_of gs) 0 n (Some b) → last_place_or gs none ≡ 16 * b
last_is [] at n b none a s below last = absurd (omega (arith, last.2))
last_is (g ∷ []) at n b none a s below last = go (cases_eq (16 * b) g.place)
  where
    go : (16 * b ≡ g.place) ⊎ (16 * b ≡ g.place → ⊥) → g.place ≡ 16 * b
    go (inl e) = sym e
    go (inr apart) = absurd (omega (arith, last.2, one_off g.place g.length b apart))
last_is (g ∷ h ∷ gs) at n b none a s below last = go (cases_eq (16 * b) g.place) (last_is (h ∷ gs) (g.place + 1) n b g.place a.1 s.2 below.1)
  where
    go : (16 * b ≡ g.place) ⊎ (16 * b ≡ g.place → ⊥) → (IsLast (gap_of (h ∷ gs)) 0 n (Some b) → last_place_or (h ∷ gs) g.place ≡ 16 * b) → last_place_or (h ∷ gs) g.place ≡ 16 * b
    go (inl e) again =
        absurd (omega (
          arith,
          last.3 (h.place / 16) (omega (arith, e, a.1.0, s.2.0)) (omega (arith, below.1.0)),
          gap_of-first h gs s.2.0,
          s.2.1,
        ))
    go (inr apart) again =
        again (last.0, last.1, omega (arith, last.2, one_off g.place g.length b apart), λ k above under. omega (arith, last.3 k above under))

last_none : (gs : List Gap) (n : ℕ) → AreSet gs → AreBelow (16 * n) gs → IsLast (gap_of gs) 0 n None → gs ≡ []
last_none [] n s below last = refl
last_none (g ∷ gs) n s below last =
    absurd (omega (arith, last (g.place / 16) (omega arith) (omega (arith, below.0)), gap_of-first g gs s.0, s.1))

-- the last one but one
prior_is : (gs : List Gap) (at n b prior before : ℕ) (found : Option ℕ) → Ascend at gs → AreSet gs → AreBelow (16 * n) gs → IsLast (gap_of gs) 0 n (Some b) →
    IsLast (gap_of gs) 0 b found → prior_place_or gs prior before ≡ found_or found before
prior_is [] at n b prior before found a s below last second = absurd (omega (arith, last.2))
prior_is (g ∷ []) at n b prior before None a s below last second = refl
prior_is (g ∷ []) at n b prior before (Some i) a s below last second = go (cases_eq (16 * b) g.place) (cases_eq (16 * i) g.place)
  where
    go : (16 * b ≡ g.place) ⊎ (16 * b ≡ g.place → ⊥) → (16 * i ≡ g.place) ⊎ (16 * i ≡ g.place → ⊥) → before ≡ 16 * i
    go (inl e) (inl f) = absurd (omega (arith, e, f, second.1))
    go (inl e) (inr apart) = absurd (omega (arith, second.2, one_off g.place g.length i apart))
    go (inr apart) _ = absurd (omega (arith, last.2, one_off g.place g.length b apart))
prior_is (g ∷ h ∷ gs) at n b prior before found a s below last second =
    go found second (λ q. prior_is (h ∷ gs) (g.place + 1) n b before g.place q a.1 s.2 below.1)
  where
    later : 16 * b ≢ g.place
    later e =
        omega (
          arith,
          last.3 (h.place / 16) (omega (arith, e, a.1.0, s.2.0)) (omega (arith, below.1.0)),
          gap_of-first h gs s.2.0,
          s.2.1,
        )

    rest : IsLast (gap_of (h ∷ gs)) 0 n (Some b)
    rest = (last.0, last.1, omega (arith, last.2, one_off g.place g.length b later), λ k above under. omega (arith, last.3 k above under))

    above_g : g.place < 16 * b
    above_g = reach (cases_lt (16 * b) (g.place + 1))
      where
        reach : (16 * b < g.place + 1) ⊎ (g.place + 1 ≤ 16 * b) → g.place < 16 * b
        reach (inl lt) = absurd (omega (arith, rest.2, gap_of-below (h ∷ gs) (g.place + 1) b a.1 lt))
        reach (inr ge) = omega (arith, ge)

    go : (f : Option ℕ) → IsLast (gap_of (g ∷ h ∷ gs)) 0 b f →
        ((q : Option ℕ) → IsLast (gap_of (h ∷ gs)) 0 n (Some b) → IsLast (gap_of (h ∷ gs)) 0 b q → prior_place_or (h ∷ gs) before g.place ≡ found_or q g.place) →
        prior_place_or (h ∷ gs) before g.place ≡ found_or f before
    go None none again = absurd (omega (arith, none (g.place / 16) (omega arith) (omega (arith, above_g, s.0)), gap_of-first g (h ∷ gs) s.0, s.1))
    go (Some i) some again = here (cases_eq (16 * i) g.place)
      where
        here : (16 * i ≡ g.place) ⊎ (16 * i ≡ g.place → ⊥) → prior_place_or (h ∷ gs) before g.place ≡ 16 * i
        here (inl e) =
            again None rest (λ k low under. none k under (cases_lt i k)) ∙ sym e
          where
            none : (k : ℕ) → k < b → (i < k) ⊎ (k ≤ i) → gap_of (h ∷ gs) k ≡ 0
            none k under (inl above) = omega (arith, some.3 k above under)
            none k under (inr le) = gap_of-below (h ∷ gs) (g.place + 1) k a.1 (omega (arith, le, e))
        here (inr apart) =
            again (Some i) rest (some.0, some.1, omega (arith, some.2, one_off g.place g.length i apart), λ k above under. omega (arith, some.3 k above under))

-- a link leads to the first free cell after it
first_of : (words : List ℕ) (gs : List Gap) (at : ℕ) → Links words at gs → at ≡ first_place gs
first_of words [] at links = links
first_of words (g ∷ gs) at links = links.0

link_past : (words : List ℕ) (g : Gap) (low high : List Gap) (at none : ℕ) → Links words at ((g ∷ low) ++ high) →
    slice_index words (last_place_or (g ∷ low) none / 16 * 4 + 2) ≡ first_place high
link_past words g [] high at none links = first_of words high _ links.5
link_past words g (h ∷ low) high at none links = link_past words h low high _ g.place links.5

-- the index lists none below the first
pub none_under : (words lengths : List ℕ) (gs : List Gap) (at k : ℕ) → Links words at gs → AreListed gs lengths → 16 * k < at → slice_index lengths k ≡ 0
none_under words lengths gs at k links listed lt = listed.listed k ∙ gap_of-below gs at k (ascend_links words gs at links) lt

-- the words at a free cell
pub within_listed : (words : List ℕ) (gs : List Gap) (at k : ℕ) → Links words at gs → 0 < gap_of gs k → 16 * k / 16 * 4 + 4 ≤ length words
within_listed words [] at k links some = absurd (omega (arith, some))
within_listed words (g ∷ gs) at k links some = go (cases_eq (16 * k) g.place) (within_listed words gs _ k links.5)
  where
    go : (16 * k ≡ g.place) ⊎ (16 * k ≡ g.place → ⊥) → (0 < gap_of gs k → 16 * k / 16 * 4 + 4 ≤ length words) → 16 * k / 16 * 4 + 4 ≤ length words
    go (inl e) again = subst (λ n. n / 16 * 4 + 4 ≤ length words) (sym e) links.2
    go (inr apart) again = again (omega (arith, some, one_off g.place g.length k apart))

module _ (words lengths : List ℕ) (first place : ℕ) (rounded : place % 16 ≡ 0) (low high : List Gap) (links : Links words first (low ++ high))
    (listed : AreListed (low ++ high) lengths) (below : AreBelow place low) (above : AreFrom place high) where
  ascends : Ascend first low
  ascends = ascend_front low high first (ascend_links words (low ++ high) first links)

  set_low : AreSet low
  set_low = set_front low high listed.set

  below_low : AreBelow (16 * (place / 16)) low
  below_low = subst (λ n. AreBelow n low) (omega (arith, rounded)) below

  -- below the place the index lists the lower ones alone
  low_length : (k : ℕ) → k < place / 16 → slice_index lengths k ≡ gap_of low k
  low_length k lt = omega (arith, listed.listed k, gap_of-append low high k, gap_of-from high place k above (omega (arith, lt)))

  low_last : (end : ℕ) (found : Option ℕ) → end ≤ place / 16 → IsLast (slice_index lengths) 0 end found → IsLast (gap_of low) 0 end found
  low_last end None le is = λ k from lt. sym (low_length k (omega (arith, lt, le))) ∙ is k from lt
  low_last end (Some b) le is =
      (is.0, is.1, omega (arith, is.2, low_length b (omega (arith, is.1, le))), λ k from lt. sym (low_length k (omega (arith, lt, le))) ∙ is.3 k from lt)

  -- the first free cell is no lower than the place
  pub round_first : place ≤ first → IsRound words place low high NO_PLACE NO_PLACE first
  round_first le = go low high links below
    where
      go : (xs ys : List Gap) → Links words first (xs ++ ys) → AreBelow place xs → IsRound words place xs ys NO_PLACE NO_PLACE first
      go [] ys l b = record { second = λ ends. refl; below = refl; above = first_of words ys first l }
      go (x ∷ xs) ys l b = absurd (omega (arith, l.0, b.0, le))

  -- none is below it
  pub round_none : IsLast (slice_index lengths) 0 (place / 16) None → IsRound words place low high NO_PLACE NO_PLACE first
  round_none is = go low (last_none low (place / 16) set_low below_low (low_last (place / 16) None (omega arith) is)) links
    where
      go : (xs : List Gap) → xs ≡ [] → Links words first (xs ++ high) → IsRound words place xs high NO_PLACE NO_PLACE first
      go [] e l = record { second = λ ends. refl; below = refl; above = first_of words high first l }
      go (x ∷ xs) e l = absurd cc

  -- one is, and perhaps another
  pub round_some : (b prior : ℕ) → IsLast (slice_index lengths) 0 (place / 16) (Some b) → (end_at words (16 * b) ≡ place → IsPrior lengths b prior) →
      IsRound words place low high prior (16 * b) (slice_index words (16 * b / 16 * 4 + 2))
  round_some b prior is second =
      let last = low_last (place / 16) (Some b) (omega arith) is in
      let here = last_is low first (place / 16) b NO_PLACE ascends set_low below_low last in
      record {
        second = λ ends.
            let it = second ends in
            it.is ∙ sym (prior_is low first (place / 16) b NO_PLACE NO_PLACE it.found ascends set_low below_low last (low_last b it.found (omega (arith, is.1)) it.last));
        below = sym here;
        above = ap (λ n. slice_index words (n / 16 * 4 + 2)) (sym here) ∙ go low links last;
      }
    where
      go : (xs : List Gap) → Links words first (xs ++ high) → IsLast (gap_of xs) 0 (place / 16) (Some b) →
          slice_index words (last_place_or xs NO_PLACE / 16 * 4 + 2) ≡ first_place high
      go [] l last = absurd (omega (arith, last.2))
      go (x ∷ xs) l last = link_past words x xs high first NO_PLACE l
