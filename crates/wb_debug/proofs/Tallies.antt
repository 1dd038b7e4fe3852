-- What the live cells come to stays right over what is done to them.
use Rattle.std.proofs.Common.{◌≡◌, ◌≢◌, ℕ, suc, ◌+◌, ◌-◌, ◌≤◌, min, Bool, true, false, not, ◌&&◌, cond, List, [], ◌∷◌, length, filter, Some, None, AllPairs, refl, sym, ◌∙◌, ap, subst, arith}
use Rattle.std.specs.Prelude.{nat_eq, nat_lt}
use Rattle.std.proofs.lemmas.Bool.Decides.{nat_tests}
use Rattle.wb_heap_model.specs.declared.heap.Header.{Header}
use Rattle.wb_heap_model.specs.declared.heap.Ptr.{Ptr}
use Rattle.wb_heap_model.specs.Heap.{is_cleanup}
use Rattle.wb_heap_model.specs.Row.{Cell, headers, is_at, cell_at, inserted, without}
use Rattle.wb_heap_model.proofs.Reallocations.{without-absent, others-apart}
use Rattle.wb_debug.specs.declared.level_counts.Counted.{Counted}
use Rattle.wb_debug.specs.declared.level_counts.LevelCount.{LevelCount}
use Rattle.wb_debug.specs.declared.checks.Levels.TheVariants.{One, All}
use Rattle.wb_debug.specs.LevelCounts.{Edits, LevelCounts, counted_at, known_at, one_less, set_at, with_more}
use Rattle.wb_debug.specs.Levels.{is_counted}
use Rattle.wb_debug.specs.Tally.{Tally, number, is_below, AreRight, IsTally, IsMore, IsOther}

-- how many cells that is
abbrev pub ones : Bool → ℕ
ones b = cond b 1 0

-- one cell at the head of a row
pub number-cons : (test : Header → Bool) (h : Header) (row : List Header) → number test (h ∷ row) ≡ number test row + ones (test h)
number-cons test h row = by (test h)
  where
    by : (b : Bool) → length (cond b (h ∷ filter test row) (filter test row)) ≡ length (filter test row) + ones b
    by true = omega arith
    by false = omega arith

-- a grant
pub inserted-more : (c : Cell (List ℕ)) (row : List (Cell (List ℕ))) → IsMore (headers row) (headers (inserted c row)) c.head
inserted-more c row = record { counts = λ test. go test row }
  where
    go : (test : Header → Bool) (row : List (Cell (List ℕ))) → number test (headers (inserted c row)) ≡ number test (headers row) + ones (test c.head)
    go test [] = number-cons test c.head []
    go test (d ∷ ds) = by (nat_lt c.head.place d.head.place) (go test ds)
      where
        by : (b : Bool) → number test (headers (inserted c ds)) ≡ number test (headers ds) + ones (test c.head) →
            number test (headers (cond b (c ∷ d ∷ ds) (d ∷ inserted c ds))) ≡ number test (headers (d ∷ ds)) + ones (test c.head)
        by true rest = number-cons test c.head (d.head ∷ headers ds)
        by false rest = omega (arith, rest, number-cons test d.head (headers (inserted c ds)), number-cons test d.head (headers ds))

-- a release
pub without-less : (p : Ptr) (row : List (Cell (List ℕ))) (c : Cell (List ℕ)) → AllPairs (λ g h. g.number ≢ h.number) (headers row) → cell_at p row ≡ Some c →
    IsMore (headers (without p row)) (headers row) c.head
without-less p row c apart e = record { counts = λ test. go test row apart e }
  where
    go : (test : Header → Bool) (row : List (Cell (List ℕ))) → AllPairs (λ g h. g.number ≢ h.number) (headers row) → cell_at p row ≡ Some c →
        number test (headers row) ≡ number test (headers (without p row)) + ones (test c.head)
    go test [] apart e = cc
    go test (d ∷ ds) apart e = by (is_at p d.head) refl e (go test ds (λ i j x lt end. apart (suc i) (suc j) x (omega arith) (omega arith)))
      where
        by : (b : Bool) → is_at p d.head ≡ b → cond b (Some d) (cell_at p ds) ≡ Some c →
            (cell_at p ds ≡ Some c → number test (headers ds) ≡ number test (headers (without p ds)) + ones (test c.head)) →
            number test (headers (d ∷ ds)) ≡ number test (headers (cond (not b) (d ∷ without p ds) (without p ds))) + ones (test c.head)
        by true here found rest =
            let same : d.head ≡ c.head = let is : d ≡ c = cc in ap (λ x. x.head) is in
            let gone : without p ds ≡ ds = without-absent p ds (others-apart p d ds apart here) in
            number-cons test d.head (headers ds) ∙ ap (λ h. number test (headers ds) + ones (test h)) same
            ∙ ap (λ r. number test (headers r) + ones (test c.head)) (sym gone)
        by false other found rest =
            omega (arith, rest found, number-cons test d.head (headers ds), number-cons test d.head (headers (without p ds)))

-- tests that pass fewer cells
pub number-fewer : (f g : Header → Bool) (row : List Header) → ((h : Header) → f h ≡ true → g h ≡ true) → number f row ≤ number g row
number-fewer f g [] all = omega arith
number-fewer f g (h ∷ hs) all =
    let one : ones (f h) ≤ ones (g h) = by (f h) (g h) (all h) in
    omega (arith, number-fewer f g hs all, number-cons f h hs, number-cons g h hs, one)
  where
    by : (a b : Bool) → (a ≡ true → b ≡ true) → ones a ≤ ones b
    by true true go = omega arith
    by true false go = let e = go refl in cc
    by false b go = omega arith

-- tests that part what another passes
pub number-parts : (f g k : Header → Bool) (row : List Header) → ((h : Header) → ones (f h) ≡ ones (g h) + ones (k h)) →
    number f row ≡ number g row + number k row
number-parts f g k [] all = omega arith
number-parts f g k (h ∷ hs) all = omega (arith, number-parts f g k hs all, number-cons f h hs, number-cons g h hs, number-cons k h hs, all h)

pub number-within : (test : Header → Bool) (row : List Header) → number test row ≤ length row
number-within test [] = omega arith
number-within test (h ∷ hs) =
    let one : ones (test h) ≤ 1 = by (test h) in omega (arith, number-within test hs, number-cons test h hs, one)
  where
    by : (b : Bool) → ones b ≤ 1
    by true = omega arith
    by false = omega arith

-- no cell is below place 0, and fewer are below a lower place
pub below-more : (test : Header → Bool) (a b : ℕ) (row : List Header) → a ≤ b → number (is_below test a) row ≤ number (is_below test b) row
below-more test a b row le = number-fewer (is_below test a) (is_below test b) row (λ h e. by (test h) h e)
  where
    by : (t : Bool) (h : Header) → t && nat_lt h.place a ≡ true → t && nat_lt h.place b ≡ true
    by true h e = grind (arith, nat_tests)
    by false h e = e

pub below-within : (test : Header → Bool) (a : ℕ) (row : List Header) → number (is_below test a) row ≤ number test row
below-within test a row = number-fewer (is_below test a) test row (λ h e. by (test h) (nat_lt h.place a) e)
  where
    by : (t b : Bool) → t && b ≡ true → t ≡ true
    by true b e = refl
    by false b e = e

pub below-zero : (test : Header → Bool) (row : List Header) → number (is_below test 0) row ≡ 0
below-zero test [] = refl
below-zero test (h ∷ hs) =
    let none = by (test h) in omega (arith, below-zero test hs, number-cons (is_below test 0) h hs, none)
  where
    by : (t : Bool) → ones (t && nat_lt h.place 0) ≡ 0
    by true = grind (arith, nat_tests)
    by false = refl

-- a cell that isn't below a place counts none
not-below : (test : Header → Bool) (a : ℕ) (h : Header) → a ≤ h.place → ones (is_below test a h) ≡ 0
not-below test a h le = by (test h)
  where
    by : (t : Bool) → ones (t && nat_lt h.place a) ≡ 0
    by true = grind (arith, nat_tests)
    by false = refl

more-lowest : (test : Header → Bool) (row more : List Header) (h : Header) (a : ℕ) → IsMore row more h → number (is_below test a) row ≡ 0 → a ≤ h.place →
    number (is_below test a) more ≡ 0
more-lowest test row more h a is none le = omega (arith, is.counts (is_below test a), none, not-below test a h le)

-- the lowest place of some cells and more
pub more-within : (c : Counted) (count place : ℕ) → (with_more c count place).lowest ≤ place
more-within c count place = by (nat_eq c.count 0)
  where
    by : (b : Bool) → cond b place (min c.lowest place) ≤ place
    by true = omega arith
    by false = omega arith

pub more-below : (test : Header → Bool) (row : List Header) (c : Counted) (count place : ℕ) → c.count ≡ number test row → number (is_below test c.lowest) row ≡ 0 →
    number (is_below test (with_more c count place).lowest) row ≡ 0
more-below test row c count place is none = by (nat_eq c.count 0) refl
  where
    by : (b : Bool) → nat_eq c.count 0 ≡ b → number (is_below test (cond b place (min c.lowest place))) row ≡ 0
    by true e =
        let zero : c.count ≡ 0 = grind (arith, nat_tests) in omega (arith, below-within test place row, is, zero)
    by false e = omega (arith, below-more test (min c.lowest place) c.lowest row (omega arith), none)

-- whether a cell counts that has a level
counts-at : (h : Header) (l : ℕ) (b : Bool) → not (is_cleanup h.kind) ≡ true → nat_eq h.level l ≡ b → is_counted (One l) h ≡ b
counts-at h l true has e = ap (λ x. x && not (is_cleanup h.kind)) e ∙ has
counts-at h l false has e = ap (λ x. x && not (is_cleanup h.kind)) e

-- and one that has none
no-level : (h : Header) (l : ℕ) → not (is_cleanup h.kind) ≡ false → is_counted (One l) h ≡ false
no-level h l none = ap (λ x. nat_eq h.level l && x) none ∙ by (nat_eq h.level l)
  where
    by : (b : Bool) → b && false ≡ false
    by true = refl
    by false = refl

pub same-level : (a l : ℕ) → nat_eq a l ≡ true → a ≡ l
same-level a l e = grind (arith, nat_tests)

-- a level's new cells, and those of another
sets-here : (counts : List LevelCount) (level l : ℕ) (cells : Counted) → nat_eq level l ≡ true → set_at counts level cells l ≡ cells
sets-here counts level l cells e = ap (λ b. cond b cells (counted_at counts l)) e

sets-other : (counts : List LevelCount) (level l : ℕ) (cells : Counted) → nat_eq level l ≡ false → set_at counts level cells l ≡ counted_at counts l
sets-other counts level l cells e = ap (λ b. cond b cells (counted_at counts l)) e

-- what is right of one level
pub record IsRight (cells : Counted) (row : List Header) (l : ℕ) : Type 0 where
  pub count : cells.count ≡ number (is_counted (One l)) row
  pub lowest : number (is_below (is_counted (One l)) cells.lowest) row ≡ 0

pub right-of : (levels : LevelCounts) (row : List Header) (l : ℕ) → levels.known_from ≤ l → AreRight levels row → IsRight (counted_at levels.counts l) row l
right-of levels row l known right = record { count = right.counts l known; lowest = right.lowest l known }

pub all-right : (levels : LevelCounts) (row : List Header) → ((l : ℕ) → levels.known_from ≤ l → IsRight (counted_at levels.counts l) row l) → AreRight levels row
all-right levels row each = record { counts = λ l known. (each l known).count; lowest = λ l known. (each l known).lowest }

-- a cell that isn't of the level changes nothing for it
right-past : (row more : List Header) (h : Header) (cells : Counted) (l : ℕ) → is_counted (One l) h ≡ false → IsMore row more h → IsRight cells row l → IsRight cells more l
right-past row more h cells l past is right =
    let none : ones (is_below (is_counted (One l)) cells.lowest h) ≡ 0 = ap (λ b. ones (b && nat_lt h.place cells.lowest)) past in
    record {
      count = omega (arith, right.count, is.counts (is_counted (One l)), ap (λ b. ones b) past);
      lowest = omega (arith, right.lowest, is.counts (is_below (is_counted (One l)) cells.lowest), none);
    }

right-before : (row less : List Header) (h : Header) (cells : Counted) (l : ℕ) → is_counted (One l) h ≡ false → IsMore less row h → IsRight cells row l → IsRight cells less l
right-before row less h cells l past is right = record {
  count = omega (arith, right.count, is.counts (is_counted (One l)), ap (λ b. ones b) past);
  lowest = omega (arith, right.lowest, is.counts (is_below (is_counted (One l)) cells.lowest));
}

-- a grant
pub granted-right : (old new : LevelCounts) (row more : List Header) (h : Header) → not (is_cleanup h.kind) ≡ true →
    Edits (set_at old.counts h.level (with_more (counted_at old.counts h.level) 1 h.place)) old new → IsMore row more h → AreRight old row → AreRight new more
granted-right old new row more h has edits is right = all-right new more (λ l known. by l known (nat_eq h.level l) refl)
  where
    by : (l : ℕ) → new.known_from ≤ l → (b : Bool) → nat_eq h.level l ≡ b → IsRight (counted_at new.counts l) more l
    by l known true e =
        let same = same-level h.level l e in
        let was : IsRight (counted_at old.counts h.level) row l = subst (λ q. IsRight (counted_at old.counts q) row l) (sym same) (right-of old row l (omega (arith, edits.known, known)) right) in
        let low = more-below (is_counted (One l)) row (counted_at old.counts h.level) 1 h.place was.count was.lowest in
        subst (λ c. IsRight c more l) (sym (edits.counts l known ∙ sets-here old.counts h.level l (with_more (counted_at old.counts h.level) 1 h.place) e)) (record {
          count = omega (arith, was.count, is.counts (is_counted (One l)), ap (λ b. ones b) (counts-at h l true has e));
          lowest = more-lowest (is_counted (One l)) row more h (with_more (counted_at old.counts h.level) 1 h.place).lowest is low
              (more-within (counted_at old.counts h.level) 1 h.place);
        })
    by l known false e =
        subst (λ c. IsRight c more l) (sym (edits.counts l known ∙ sets-other old.counts h.level l (with_more (counted_at old.counts h.level) 1 h.place) e))
        (right-past row more h (counted_at old.counts l) l (counts-at h l false has e) is (right-of old row l (omega (arith, edits.known, known)) right))

-- a release
pub released-right : (old new : LevelCounts) (row less : List Header) (h : Header) → not (is_cleanup h.kind) ≡ true →
    Edits (set_at old.counts h.level (one_less (counted_at old.counts h.level))) old new → IsMore less row h → AreRight old row → AreRight new less
released-right old new row less h has edits is right = all-right new less (λ l known. by l known (nat_eq h.level l) refl)
  where
    by : (l : ℕ) → new.known_from ≤ l → (b : Bool) → nat_eq h.level l ≡ b → IsRight (counted_at new.counts l) less l
    by l known true e =
        let same = same-level h.level l e in
        let was : IsRight (counted_at old.counts h.level) row l = subst (λ q. IsRight (counted_at old.counts q) row l) (sym same) (right-of old row l (omega (arith, edits.known, known)) right) in
        subst (λ c. IsRight c less l) (sym (edits.counts l known ∙ sets-here old.counts h.level l (one_less (counted_at old.counts h.level)) e)) (record {
          count = omega (arith, was.count, is.counts (is_counted (One l)), ap (λ b. ones b) (counts-at h l true has e));
          lowest = omega (arith, was.lowest, is.counts (is_below (is_counted (One l)) (counted_at old.counts h.level).lowest));
        })
    by l known false e =
        subst (λ c. IsRight c less l) (sym (edits.counts l known ∙ sets-other old.counts h.level l (one_less (counted_at old.counts h.level)) e))
        (right-before row less h (counted_at old.counts l) l (counts-at h l false has e) is (right-of old row l (omega (arith, edits.known, known)) right))

-- a cell that has another place
pub moved-right : (old new : LevelCounts) (row other : List Header) (h g : Header) → not (is_cleanup h.kind) ≡ true → g.kind ≡ h.kind → g.level ≡ h.level →
    Edits (set_at old.counts h.level (with_more (counted_at old.counts h.level) 0 g.place)) old new → IsOther row other h g → AreRight old row → AreRight new other
moved-right old new row other h g has kind level edits is right = all-right new other (λ l known. by l known (nat_eq h.level l) refl)
  where
    has' : not (is_cleanup g.kind) ≡ true
    has' = ap (λ k. not (is_cleanup k)) kind ∙ has

    by : (l : ℕ) → new.known_from ≤ l → (b : Bool) → nat_eq h.level l ≡ b → IsRight (counted_at new.counts l) other l
    by l known true e =
        let same = same-level h.level l e in
        let was : IsRight (counted_at old.counts h.level) row l = subst (λ q. IsRight (counted_at old.counts q) row l) (sym same) (right-of old row l (omega (arith, edits.known, known)) right) in
        let low = more-below (is_counted (One l)) row (counted_at old.counts h.level) 0 g.place was.count was.lowest in
        let left : number (is_below (is_counted (One l)) (with_more (counted_at old.counts h.level) 0 g.place).lowest) is.rest ≡ 0 =
        omega (arith, low, is.less.counts (is_below (is_counted (One l)) (with_more (counted_at old.counts h.level) 0 g.place).lowest)) in
        subst (λ c. IsRight c other l) (sym (edits.counts l known ∙ sets-here old.counts h.level l (with_more (counted_at old.counts h.level) 0 g.place) e)) (record {
          count = omega (
            arith,
            was.count,
            is.less.counts (is_counted (One l)),
            is.more.counts (is_counted (One l)),
            ap (λ b. ones b) (counts-at h l true has e),
            ap (λ b. ones b) (counts-at g l true has' (ap (λ q. nat_eq q l) level ∙ e)),
          );
          lowest = more-lowest (is_counted (One l)) is.rest other g (with_more (counted_at old.counts h.level) 0 g.place).lowest is.more left
              (more-within (counted_at old.counts h.level) 0 g.place);
        })
    by l known false e =
        subst (λ c. IsRight c other l) (sym (edits.counts l known ∙ sets-other old.counts h.level l (with_more (counted_at old.counts h.level) 0 g.place) e))
        (right-past is.rest other g (counted_at old.counts l) l (counts-at g l false has' (ap (λ q. nat_eq q l) level ∙ e)) is.more
        (right-before row is.rest h (counted_at old.counts l) l (counts-at h l false has e) is.less (right-of old row l (omega (arith, edits.known, known)) right)))

-- or one that is no lower, or of no level
pub stays-right : (levels : LevelCounts) (row other : List Header) (h g : Header) → g.kind ≡ h.kind → g.level ≡ h.level →
    (not (is_cleanup h.kind) ≡ true → h.place ≤ g.place) → IsOther row other h g → AreRight levels row → AreRight levels other
stays-right levels row other h g kind level high is right = all-right levels other (λ l known. by l known (is_counted (One l) h) refl)
  where
    same : (l : ℕ) → is_counted (One l) g ≡ is_counted (One l) h
    same l = ap (λ k. nat_eq g.level l && not (is_cleanup k)) kind ∙ ap (λ q. nat_eq q l && not (is_cleanup h.kind)) level

    both : (a b : Bool) → a && b ≡ true → b ≡ true
    both true b e = e
    both false b e = cc

    by : (l : ℕ) → levels.known_from ≤ l → (b : Bool) → is_counted (One l) h ≡ b → IsRight (counted_at levels.counts l) other l
    by l known true e =
        let test = is_counted (One l) in
        let a = (counted_at levels.counts l).lowest in
        let was = right-of levels row l known right in
        let here : ones (is_below test a h) ≡ 0 = omega (arith, was.lowest, is.less.counts (is_below test a)) in
        let within : a ≤ h.place = low (nat_lt h.place a) refl (sym (ap (λ b. ones (b && nat_lt h.place a)) e) ∙ here) in
        record {
          count = omega (arith, was.count, is.less.counts test, is.more.counts test, ap (λ b. ones b) (same l));
          lowest = more-lowest test is.rest other g a is.more (omega (arith, was.lowest, is.less.counts (is_below test a)))
              (omega (arith, within, high (both (nat_eq h.level l) (not (is_cleanup h.kind)) e)));
        }
      where
        low : (b : Bool) → nat_lt h.place (counted_at levels.counts l).lowest ≡ b → ones b ≡ 0 → (counted_at levels.counts l).lowest ≤ h.place
        low true t none = absurd (omega (arith, none))
        low false t none = grind (arith, nat_tests)
    by l known false e =
        right-past is.rest other g (counted_at levels.counts l) l (same l ∙ e) is.more (right-before row is.rest h (counted_at levels.counts l) l e is.less (right-of levels row l known right))

-- a grant
pub tally-granted : (old new : Tally) (row more : List Header) (h : Header) → not (is_cleanup h.kind) ≡ true → new.total ≡ old.total + 1 →
    Edits (set_at old.levels.counts h.level (with_more (counted_at old.levels.counts h.level) 1 h.place)) old.levels new.levels →
    IsMore row more h → IsTally old row → IsTally new more
tally-granted old new row more h has total edits is tally = record {
  total = omega (arith, total, tally.total, is.counts (is_counted All), ap ones has);
  levels = granted-right old.levels new.levels row more h has edits is tally.levels;
}

-- a release
pub tally-released : (old new : Tally) (row less : List Header) (h : Header) → not (is_cleanup h.kind) ≡ true → new.total ≡ old.total - 1 →
    Edits (set_at old.levels.counts h.level (one_less (counted_at old.levels.counts h.level))) old.levels new.levels →
    IsMore less row h → IsTally old row → IsTally new less
tally-released old new row less h has total edits is tally = record {
  total = omega (arith, total, tally.total, is.counts (is_counted All), ap ones has);
  levels = released-right old.levels new.levels row less h has edits is tally.levels;
}

-- a cell of no level
pub tally-past : (tally : Tally) (row more : List Header) (h : Header) → not (is_cleanup h.kind) ≡ false → IsMore row more h → IsTally tally row → IsTally tally more
tally-past tally row more h none is right = record {
  total = omega (arith, right.total, is.counts (is_counted All), ap ones none);
  levels = all-right tally.levels more (λ l known. right-past row more h (counted_at tally.levels.counts l) l (no-level h l none) is
      (right-of tally.levels row l known right.levels));
}

pub tally-before : (tally : Tally) (row less : List Header) (h : Header) → not (is_cleanup h.kind) ≡ false → IsMore less row h → IsTally tally row → IsTally tally less
tally-before tally row less h none is right = record {
  total = omega (arith, right.total, is.counts (is_counted All), ap ones none);
  levels = all-right tally.levels less (λ l known. right-before row less h (counted_at tally.levels.counts l) l (no-level h l none) is
      (right-of tally.levels row l known right.levels));
}

-- a cell for another
same-total : (row other : List Header) (h g : Header) → g.kind ≡ h.kind → IsOther row other h g → number (is_counted All) other ≡ number (is_counted All) row
same-total row other h g kind is =
    omega (arith, is.less.counts (is_counted All), is.more.counts (is_counted All), ap (λ k. ones (not (is_cleanup k))) kind)

pub tally-moved : (old new : Tally) (row other : List Header) (h g : Header) → not (is_cleanup h.kind) ≡ true → g.kind ≡ h.kind → g.level ≡ h.level →
    new.total ≡ old.total → Edits (set_at old.levels.counts h.level (with_more (counted_at old.levels.counts h.level) 0 g.place)) old.levels new.levels →
    IsOther row other h g → IsTally old row → IsTally new other
tally-moved old new row other h g has kind level total edits is tally = record {
  total = total ∙ tally.total ∙ sym (same-total row other h g kind is);
  levels = moved-right old.levels new.levels row other h g has kind level edits is tally.levels;
}

pub tally-stays : (tally : Tally) (row other : List Header) (h g : Header) → g.kind ≡ h.kind → g.level ≡ h.level →
    (not (is_cleanup h.kind) ≡ true → h.place ≤ g.place) → IsOther row other h g → IsTally tally row → IsTally tally other
tally-stays tally row other h g kind level high is right = record {
  total = right.total ∙ sym (same-total row other h g kind is);
  levels = stays-right tally.levels row other h g kind level high is right.levels;
}

-- what the tally knows of a level
pub known-right : (tally : Tally) (row : List Header) (l : ℕ) (cells : Counted) → known_at tally.levels l ≡ Some cells → IsTally tally row → IsRight cells row l
known-right tally row l cells e is = by (nat_lt l tally.levels.known_from) refl e
  where
    by : (b : Bool) → nat_lt l tally.levels.known_from ≡ b → cond b None (Some (counted_at tally.levels.counts l)) ≡ Some cells → IsRight cells row l
    by true low known = cc
    by false high known =
        let same : counted_at tally.levels.counts l ≡ cells = cc in
        let from : tally.levels.known_from ≤ l = grind (arith, nat_tests) in
        subst (λ c. IsRight c row l) same (right-of tally.levels row l from is.levels)

-- rows of as many cells of each sort come to the same
pub tally-same : (tally : Tally) (row other : List Header) → ((test : Header → Bool) → number test row ≡ number test other) → IsTally tally row → IsTally tally other
tally-same tally row other same is = record {
  total = is.total ∙ same (is_counted All);
  levels = record {
    counts = λ l known. is.levels.counts l known ∙ same (is_counted (One l));
    lowest = λ l known. sym (same (is_below (is_counted (One l)) (counted_at tally.levels.counts l).lowest)) ∙ is.levels.lowest l known;
  };
}

-- no cell
pub tally-none : IsTally (record { total = 0; levels = record { counts = []; known_from = 0 } }) []
tally-none = record { total = refl; levels = record { counts = λ l known. refl; lowest = λ l known. refl } }
