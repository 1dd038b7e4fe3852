-- What the live cells come to once the cells of a level are of the level below.
use Rattle.std.proofs.Common.{◌≡◌, ◌≢◌, ℕ, ◌+◌, ◌-◌, ◌≤◌, Bool, true, false, not, ◌&&◌, cond, List, [], ◌∷◌, refl, sym, ◌∙◌, ap, subst, arith}
use Rattle.std.specs.Prelude.{nat_eq, nat_lt}
use Rattle.std.proofs.lemmas.Bool.{eq-eqb, ne_eqb}
use Rattle.wb_heap_model.specs.declared.heap.Header.{Header}
use Rattle.wb_heap_model.specs.Heap.{is_cleanup, lower, lowered}
use Rattle.wb_heap_model.specs.Row.{Cell, headers}
use Rattle.wb_debug.specs.declared.level_counts.Counted.{Counted}
use Rattle.wb_debug.specs.declared.checks.Levels.TheVariants.{One, All}
use Rattle.wb_debug.specs.LevelCounts.{Edits, LevelCounts, counted_at, joined, lowered_at, no_cells, with_more}
use Rattle.wb_debug.specs.Levels.{is_counted}
use Rattle.wb_debug.specs.Tally.{Tally, number, is_below, AreRight, IsTally}
use Rattle.wb_debug.proofs.Tallies.{IsRight, all-right, below-more, below-within, below-zero, more-below, more-within, number-cons, number-parts, ones, right-of, same-level}

-- the cells that pass a test, from those that were there
number-lowered : (test : Header → Bool) (level : ℕ) (row : List (Cell (List ℕ))) →
    number test (headers (lowered level row)) ≡ number (λ h. test (lower level h)) (headers row)
number-lowered test level [] = refl
number-lowered test level (c ∷ cs) =
    omega (arith, number-lowered test level cs, number-cons test (lower level c.head) (headers (lowered level cs)), number-cons (λ h. test (lower level h)) c.head (headers cs))

-- tests that pass the same cells
number-same : (f g : Header → Bool) (row : List Header) → ((h : Header) → f h ≡ g h) → number f row ≡ number g row
number-same f g [] same = refl
number-same f g (h ∷ hs) same = omega (arith, number-same f g hs same, number-cons f h hs, number-cons g h hs, ap ones (same h))

number-none : (f : Header → Bool) (row : List Header) → ((h : Header) → f h ≡ false) → number f row ≡ 0
number-none f [] none = refl
number-none f (h ∷ hs) none = omega (arith, number-none f hs none, number-cons f h hs, ap ones (none h))

-- a cell of the level
record IsLowered (level : ℕ) (h : Header) : Type 0 where
  is : h.level ≡ level
  has : not (is_cleanup h.kind) ≡ true
  lowered : lower level h ≡ record h { level = level - 1 }

of-level : (level : ℕ) (h : Header) → is_counted (One level) h ≡ true → IsLowered level h
of-level level h counts = record {
  is = same-level h.level level (first (nat_eq h.level level) (not (is_cleanup h.kind)) counts);
  has = second (nat_eq h.level level) (not (is_cleanup h.kind)) counts;
  lowered = ap (λ b. cond b (record h { level = level - 1 }) h) counts;
}
  where
    first : (a b : Bool) → a && b ≡ true → a ≡ true
    first true b e = refl
    first false b e = e

    second : (a b : Bool) → a && b ≡ true → b ≡ true
    second true b e = e
    second false b e = cc

-- any other cell
not-of-level : (level : ℕ) (h : Header) → is_counted (One level) h ≡ false → lower level h ≡ h
not-of-level level h counts = ap (λ b. cond b (record h { level = level - 1 }) h) counts

lower-place : (level : ℕ) (h : Header) → (lower level h).place ≡ h.place
lower-place level h = by (is_counted (One level) h)
  where
    by : (b : Bool) → (cond b (record h { level = level - 1 }) h).place ≡ h.place
    by true = refl
    by false = refl

lower-kind : (level : ℕ) (h : Header) → (lower level h).kind ≡ h.kind
lower-kind level h = by (is_counted (One level) h)
  where
    by : (b : Bool) → (cond b (record h { level = level - 1 }) h).kind ≡ h.kind
    by true = refl
    by false = refl

-- a cell of the level is of the one below then
then-counted : (level q : ℕ) (h : Header) → is_counted (One level) h ≡ true → is_counted (One q) (lower level h) ≡ nat_eq (level - 1) q
then-counted level q h counts =
    let is = of-level level h counts in
    ap (is_counted (One q)) is.lowered ∙ ap (λ b. nat_eq (level - 1) q && b) is.has ∙ by (nat_eq (level - 1) q)
  where
    by : (b : Bool) → b && true ≡ b
    by true = refl
    by false = refl

-- and was of no other
counted-apart : (level q : ℕ) (h : Header) → level ≢ q → is_counted (One level) h ≡ true → is_counted (One q) h ≡ false
counted-apart level q h apart counts =
    let is = of-level level h counts in
    ap (λ b. b && not (is_cleanup h.kind)) (ne_eqb h.level q (λ same. apart (sym is.is ∙ same)))

module _ (level : ℕ) (some : 1 ≤ level) where
  below-apart : level ≢ level - 1
  below-apart same = omega (arith, same)

  -- whether it is counted at a level
  at-level : (h : Header) → is_counted (One level) (lower level h) ≡ false
  at-level h = by (is_counted (One level) h) refl
    where
      by : (b : Bool) → is_counted (One level) h ≡ b → is_counted (One level) (lower level h) ≡ false
      by true e = then-counted level level h e ∙ ne_eqb (level - 1) level (λ same. below-apart (sym same))
      by false e = ap (is_counted (One level)) (not-of-level level h e) ∙ e

  at-below : (h : Header) (x : Bool) → ones (is_counted (One (level - 1)) (lower level h) && x) ≡ ones (is_counted (One (level - 1)) h && x) + ones (is_counted (One level) h && x)
  at-below h x = by (is_counted (One level) h) refl
    where
      by : (b : Bool) → is_counted (One level) h ≡ b →
          ones (is_counted (One (level - 1)) (lower level h) && x) ≡ ones (is_counted (One (level - 1)) h && x) + ones (is_counted (One level) h && x)
      by true e =
          let now : ones (is_counted (One (level - 1)) (lower level h) && x) ≡ ones x =
          ap (λ b. ones (b && x)) (then-counted level (level - 1) h e ∙ eq-eqb (level - 1) (level - 1) refl) in
          let before : ones (is_counted (One (level - 1)) h && x) ≡ 0 = ap (λ b. ones (b && x)) (counted-apart level (level - 1) h below-apart e) in
          let was : ones (is_counted (One level) h && x) ≡ ones x = ap (λ b. ones (b && x)) e in
          omega (arith, now, before, was)
      by false e =
          let now : ones (is_counted (One (level - 1)) (lower level h) && x) ≡ ones (is_counted (One (level - 1)) h && x) =
          ap (λ g. ones (is_counted (One (level - 1)) g && x)) (not-of-level level h e) in
          let was : ones (is_counted (One level) h && x) ≡ 0 = ap (λ b. ones (b && x)) e in
          omega (arith, now, was)

  at-other : (q : ℕ) (h : Header) → level ≢ q → level - 1 ≢ q → is_counted (One q) (lower level h) ≡ is_counted (One q) h
  at-other q h apart apart' = by (is_counted (One level) h) refl
    where
      by : (b : Bool) → is_counted (One level) h ≡ b → is_counted (One q) (lower level h) ≡ is_counted (One q) h
      by true e = then-counted level q h e ∙ ne_eqb (level - 1) q apart' ∙ sym (counted-apart level q h apart e)
      by false e = ap (is_counted (One q)) (not-of-level level h e)

  module _ (row : List (Cell (List ℕ))) where
    abbrev below-row : List Header
    below-row = headers (lowered level row)

    -- the cells of the level below, and those of them that are below a place
    number-below : number (is_counted (One (level - 1))) below-row ≡ number (is_counted (One (level - 1))) (headers row) + number (is_counted (One level)) (headers row)
    number-below =
        number-lowered (is_counted (One (level - 1))) level row
        ∙ number-parts (λ h. is_counted (One (level - 1)) (lower level h)) (is_counted (One (level - 1))) (is_counted (One level)) (headers row)
        (λ h. plain (is_counted (One (level - 1)) (lower level h)) (is_counted (One (level - 1)) h) (is_counted (One level) h) (at-below h true))
      where
        with-true : (b : Bool) → b && true ≡ b
        with-true true = refl
        with-true false = refl

        plain : (a b c : Bool) → ones (a && true) ≡ ones (b && true) + ones (c && true) → ones a ≡ ones b + ones c
        plain a b c e = omega (arith, e, ap ones (with-true a), ap ones (with-true b), ap ones (with-true c))

    lowest-below : (place : ℕ) → number (is_below (is_counted (One (level - 1))) place) below-row ≡
        number (is_below (is_counted (One (level - 1))) place) (headers row) + number (is_below (is_counted (One level)) place) (headers row)
    lowest-below place =
        number-lowered (is_below (is_counted (One (level - 1))) place) level row
        ∙ number-parts (λ h. is_below (is_counted (One (level - 1))) place (lower level h)) (is_below (is_counted (One (level - 1))) place)
        (is_below (is_counted (One level)) place) (headers row)
        (λ h. ap (λ p. ones (is_counted (One (level - 1)) (lower level h) && nat_lt p place)) (lower-place level h) ∙ at-below h (nat_lt h.place place))

    -- what is right of each level
    joined-right : (own ended : Counted) → IsRight own (headers row) (level - 1) → IsRight ended (headers row) level → IsRight (joined own ended) below-row (level - 1)
    joined-right own ended right above = by (nat_eq ended.count 0) refl
      where
        by : (b : Bool) → nat_eq ended.count 0 ≡ b → IsRight (cond b own (with_more own ended.count ended.lowest)) below-row (level - 1)
        by true e =
            let none : ended.count ≡ 0 = same-level ended.count 0 e in
            record {
              count = omega (arith, right.count, above.count, none, number-below);
              lowest = omega (arith, right.lowest, above.count, none, lowest-below own.lowest, below-within (is_counted (One level)) own.lowest (headers row));
            }
        by false e =
            let low = more-below (is_counted (One (level - 1))) (headers row) own ended.count ended.lowest right.count right.lowest in
            let high = below-more (is_counted (One level)) (with_more own ended.count ended.lowest).lowest ended.lowest (headers row)
            (more-within own ended.count ended.lowest) in
            record {
              count = omega (arith, right.count, above.count, number-below);
              lowest = omega (arith, low, high, above.lowest, lowest-below (with_more own ended.count ended.lowest).lowest);
            }

    ended-right : IsRight no_cells below-row level
    ended-right = record {
      count = sym (number-lowered (is_counted (One level)) level row ∙ number-none (λ h. is_counted (One level) (lower level h)) (headers row) at-level);
      lowest = below-zero (is_counted (One level)) below-row;
    }

    other-right : (cells : Counted) (q : ℕ) → level ≢ q → level - 1 ≢ q → IsRight cells (headers row) q → IsRight cells below-row q
    other-right cells q apart apart' right = record {
      count = right.count ∙ sym (number-lowered (is_counted (One q)) level row
          ∙ number-same (λ h. is_counted (One q) (lower level h)) (is_counted (One q)) (headers row) (λ h. at-other q h apart apart'));
      lowest = number-lowered (is_below (is_counted (One q)) cells.lowest) level row
          ∙ number-same (λ h. is_below (is_counted (One q)) cells.lowest (lower level h)) (is_below (is_counted (One q)) cells.lowest) (headers row)
          (λ h. ap (λ p. is_counted (One q) (lower level h) && nat_lt p cells.lowest) (lower-place level h) ∙ ap (λ b. b && nat_lt h.place cells.lowest) (at-other q h apart apart'))
          ∙ right.lowest;
    }

    lowered-right : (old new : LevelCounts) → Edits (lowered_at old.counts level) old new → AreRight old (headers row) → AreRight new below-row
    lowered-right old new edits right = all-right new below-row (λ q known. subst (λ c. IsRight c below-row q) (sym (edits.counts q known)) (here q known (nat_eq level q) refl))
      where
        -- a level that is known was known before
        was : (q : ℕ) → new.known_from ≤ q → IsRight (counted_at old.counts q) (headers row) q
        was q known = right-of old (headers row) q (omega (arith, edits.known, known)) right

        below : (q : ℕ) → new.known_from ≤ q → (b : Bool) → nat_eq level q ≡ false → nat_eq (level - 1) q ≡ b →
            IsRight (cond b (joined (counted_at old.counts q) (counted_at old.counts level)) (counted_at old.counts q)) below-row q
        below q known true other e =
            let is = same-level (level - 1) q e in
            subst (λ x. IsRight (joined (counted_at old.counts x) (counted_at old.counts level)) below-row x) is
            (joined-right (counted_at old.counts (level - 1)) (counted_at old.counts level) (was (level - 1) (omega (arith, known, is))) (was level (omega (arith, known, is))))
        below q known false other e =
            other-right (counted_at old.counts q) q (λ same. absurd (not-both (eq-eqb level q same) other)) (λ same. absurd (not-both (eq-eqb (level - 1) q same) e))
            (was q known)
          where
            not-both : {b : Bool} → b ≡ true → b ≡ false → ⊥
            not-both t f = cc

        here : (q : ℕ) → new.known_from ≤ q → (b : Bool) → nat_eq level q ≡ b →
            IsRight (cond b no_cells (cond (nat_eq (level - 1) q) (joined (counted_at old.counts q) (counted_at old.counts level)) (counted_at old.counts q))) below-row q
        here q known true e = subst (λ x. IsRight no_cells below-row x) (same-level level q e) ended-right
        here q known false e = below q known (nat_eq (level - 1) q) e refl

-- the end of a mark
pub tally-lowered : (old new : Tally) (level : ℕ) (row : List (Cell (List ℕ))) → 1 ≤ level → new.total ≡ old.total →
    Edits (lowered_at old.levels.counts level) old.levels new.levels → IsTally old (headers row) → IsTally new (headers (lowered level row))
tally-lowered old new level row some total edits tally = record {
  total = total ∙ tally.total ∙ sym (number-lowered (is_counted All) level row
      ∙ number-same (λ h. is_counted All (lower level h)) (is_counted All) (headers row) (λ h. ap (λ k. not (is_cleanup k)) (lower-kind level h)));
  levels = lowered-right level some row old.levels new.levels edits tally.levels;
}
