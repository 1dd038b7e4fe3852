-- A hole between segments: words that belong to none, and how it is made, widened and filled.
use Rattle.std.proofs.Common.{◌≡◌, ◌≢◌, ℕ, suc, ◌+◌, ◌*◌, ◌/◌, ◌%◌, ◌<◌, ◌≤◌, ◌⊎◌, inl, inr, List, [], ◌∷◌, ◌++◌, length, false, refl, sym, ◌∙◌, ap, arith, zero-add, append_assoc}
use Rattle.std.specs.Prelude.{nat_eq}
use Rattle.std.proofs.Math.ListN.{set}
use Rattle.std.proofs.lemmas.Bool.{ne_eqb}
use Rattle.wb_cells.specs.FreeList.{NO_PLACE, linked_words, linked_first}
use Rattle.wb_cells.specs.Segments.{Segment, live, free, state_of, total, first_free, last_free, words_of, AreWhole}

set-after : (xs ys : List ℕ) (j v : ℕ) → set (xs ++ ys) (length xs + j) v ≡ xs ++ set ys j v
set-after [] ys j v = rw (zero-add j)
set-after (x ∷ xs) ys j v =
    let e : suc (length xs) + j ≡ suc (length xs + j) = omega arith in
    rw e (ap (λ l. x ∷ l) (set-after xs ys j v))

-- a write past a payload
set-past : (body ws ws' rest : List ℕ) (i v : ℕ) → set (ws ++ rest) (i + 2) v ≡ ws' ++ rest →
    set ((body ++ ws) ++ rest) (length body + (i + 2)) v ≡ (body ++ ws') ++ rest
set-past body ws ws' rest i v is =
    ap (λ l. set l (length body + (i + 2)) v) (append_assoc body ws rest)
    ∙ set-after body (ws ++ rest) (i + 2) v ∙ ap (λ l. body ++ l) is ∙ sym (append_assoc body ws' rest)

index-past : (n i : ℕ) → 4 + n + i + 2 ≡ suc (suc (suc (suc (n + (i + 2)))))
index-past n i = omega arith

-- no segment is free
record AllLive (at : ℕ) (xs : List Segment) : Type 0 where
  last : (none : ℕ) → last_free at xs none ≡ none
  words : (n n' : ℕ) → words_of at xs n ≡ words_of at xs n'
  first : (n : ℕ) → first_free at xs n ≡ n

-- the last free segment, and its link
record LastFree (at : ℕ) (xs : List Segment) : Type 0 where
  place : ℕ
  index : ℕ
  here : at + 4 * index ≡ place
  last : (none : ℕ) → last_free at xs none ≡ place
  rounded : place % 16 ≡ 0
  within : place + 16 ≤ at + total xs
  words : (n n' : ℕ) (rest : List ℕ) → set (words_of at xs n ++ rest) (index + 2) n' ≡ words_of at xs n' ++ rest
  first : (n n' : ℕ) → first_free at xs n ≡ first_free at xs n'

last_of : (xs : List Segment) (at : ℕ) → at % 16 ≡ 0 → AreWhole xs → AllLive at xs ⊎ LastFree at xs
last_of [] at rounded w = inl (record { last = λ none. refl; words = λ n n'. refl; first = λ n. refl })
last_of (live kind level number body ∷ xs) at rounded w = go (last_of xs (at + (16 + 4 * length body)) (omega (arith, rounded, w.0)) w.3)
  where
    go : AllLive (at + (16 + 4 * length body)) xs ⊎ LastFree (at + (16 + 4 * length body)) xs →
        AllLive at (live kind level number body ∷ xs) ⊎ LastFree at (live kind level number body ∷ xs)
    go (inl a) = inl (record {
      last = a.last;
      words = λ n n'. ap (λ ws. (16 + 4 * length body) ∷ state_of kind ∷ level ∷ number ∷ (body ++ ws)) (a.words n n');
      first = a.first;
    })
    go (inr l) = inr (record {
      place = l.place;
      index = 4 + length body + l.index;
      here = omega (arith, l.here);
      last = l.last;
      rounded = l.rounded;
      within = omega (arith, l.within);
      words = λ n n' rest.
          let next = at + (16 + 4 * length body) in
          rw index-past (ap (λ ws. (16 + 4 * length body) ∷ state_of kind ∷ level ∷ number ∷ ws)
          (set-past body (words_of next xs n) (words_of next xs n') rest l.index n' (l.words n n' rest)));
      first = l.first;
    })
last_of (free body ∷ xs) at rounded w = go (last_of xs (at + (16 + 4 * length body)) (omega (arith, rounded, w.0)) w.1)
  where
    go : AllLive (at + (16 + 4 * length body)) xs ⊎ LastFree (at + (16 + 4 * length body)) xs →
        AllLive at (free body ∷ xs) ⊎ LastFree at (free body ∷ xs)
    go (inl a) = inr (record {
      place = at;
      index = 0;
      here = omega arith;
      last = λ none. a.last at;
      rounded = rounded;
      within = omega arith;
      words = λ n n' rest.
          let next = at + (16 + 4 * length body) in
          rw (a.first n', a.words n n');
      first = λ n n'. refl;
    })
    go (inr l) = inr (record {
      place = l.place;
      index = 4 + length body + l.index;
      here = omega (arith, l.here);
      last = λ none. l.last at;
      rounded = l.rounded;
      within = omega (arith, l.within);
      words = λ n n' rest.
          let next = at + (16 + 4 * length body) in
          rw (index-past, l.first n n') (ap (λ ws. (16 + 4 * length body) ∷ 0 ∷ first_free next xs n' ∷ 0 ∷ ws)
          (set-past body (words_of next xs n) (words_of next xs n') rest l.index n' (l.words n n' rest)));
      first = λ n n'. refl;
    })

-- another link for the last free one
pub linked_words-front : (front : List Segment) (from to : ℕ) (rest : List ℕ) → AreWhole front → total front < NO_PLACE →
    linked_words (words_of 0 front from ++ rest) (last_free 0 front NO_PLACE) to ≡ words_of 0 front to ++ rest
linked_words-front front from to rest w below = go (last_of front 0 refl w)
  where
    go : AllLive 0 front ⊎ LastFree 0 front → linked_words (words_of 0 front from ++ rest) (last_free 0 front NO_PLACE) to ≡ words_of 0 front to ++ rest
    go (inl a) = rw (a.last NO_PLACE) (ap (λ ws. ws ++ rest) (a.words from to))
    go (inr l) =
        let some : nat_eq l.place NO_PLACE ≡ false = ne_eqb l.place NO_PLACE (λ e. omega (arith, e, l.within, below)) in
        let index : l.place / 16 * 4 + 2 ≡ l.index + 2 = omega (arith, l.here, l.rounded) in
        rw (l.last NO_PLACE, some, index) (l.words from to rest)

pub linked_first-front : (front : List Segment) (from to : ℕ) → AreWhole front → total front < NO_PLACE →
    linked_first (first_free 0 front from) (last_free 0 front NO_PLACE) to ≡ first_free 0 front to
linked_first-front front from to w below = go (last_of front 0 refl w)
  where
    go : AllLive 0 front ⊎ LastFree 0 front → linked_first (first_free 0 front from) (last_free 0 front NO_PLACE) to ≡ first_free 0 front to
    go (inl a) = rw (a.last NO_PLACE) (sym (a.first to))
    go (inr l) =
        let some : nat_eq l.place NO_PLACE ≡ false = ne_eqb l.place NO_PLACE (λ e. omega (arith, e, l.within, below)) in
        rw (l.last NO_PLACE, some) (l.first from to)

pub link_within : (front : List Segment) → AreWhole front → last_free 0 front NO_PLACE ≢ NO_PLACE → (last_free 0 front NO_PLACE % 16 ≡ 0) × (last_free 0 front NO_PLACE + 16 ≤ total front)
link_within front w some = go (last_of front 0 refl w)
  where
    go : AllLive 0 front ⊎ LastFree 0 front → (last_free 0 front NO_PLACE % 16 ≡ 0) × (last_free 0 front NO_PLACE + 16 ≤ total front)
    go (inl a) = absurd (some (a.last NO_PLACE))
    go (inr l) = rw (l.last NO_PLACE) (l.rounded, omega (arith, l.within))
