-- What is counted of a level, found by its place among the levels, and what an edit there does.
use Rattle.std.proofs.Common.{◌≡◌, ℕ, zero, suc, ◌+◌, ◌-◌, ◌<◌, ◌≤◌, ◌≢◌, ◌⊎◌, inl, inr, List, [], ◌∷◌, length, get_or, set, Result, Ok, Err, IfOk, IfErr, Bool, true, false, cond, refl, sym, ap, ◌∙◌, subst, arith}
use Rattle.std.specs.Prelude.{nat_eq}
use Rattle.std.specs.List.{insert, remove}
use Rattle.std.specs.List.Sorted.{IsSearchInRange, IsBinarySearchResult, IsNonDecreasingBy}
use Rattle.std.specs.Ordering.{nat_cmp, ordering_index}
use Rattle.std.proofs.lemmas.Cmp.{ranked}
use Rattle.std.proofs.lemmas.List.Sorted.{IsNonDecreasingBy-from_default}
use Rattle.std.proofs.lemmas.List.Edits.{length-insert, get_or-insert_below, get_or-insert_at, get_or-insert_above, length-remove, get_or-remove_below, get_or-remove_above}
use Rattle.std.proofs.lemmas.Bool.{cases_eq}
use Rattle.std.proofs.lemmas.Bool.Decides.{nat_tests}
use Rattle.std.proofs.lemmas.Grind.{common_steps}
use Rattle.wb_debug.specs.declared.level_counts.Counted.{Counted}
use Rattle.wb_debug.specs.declared.level_counts.LevelCount.{LevelCount}
use Rattle.wb_debug.specs.LevelCounts.{Edits, IsAt, IsGapFor, IsRising, LevelCounts, counted_at, joined, level_at, lowered_at, no_cells, set_at, with_more}

abbrev pub no_count : LevelCount
no_count = record { level = 0; cells = no_cells }

-- the new table has these cells at the level, and at every other level what the old one has
abbrev pub SetsOnly : List LevelCount → List LevelCount → ℕ → Counted → Type 0
SetsOnly old new level cells = (q : ℕ) → counted_at new q ≡ set_at old level cells q

-- no count before the index is of the level
abbrev pub NoneBefore : List LevelCount → ℕ → ℕ → Type 0
NoneBefore cs k i = (j : ℕ) → j < i → level_at cs j ≢ k

none_tail : (c : LevelCount) (cs : List LevelCount) (k i : ℕ) → NoneBefore (c ∷ cs) k (suc i) → NoneBefore cs k i
none_tail c cs k i none j lt = none (suc j) (omega arith)

-- a level that has no count
pub counted-absent : (cs : List LevelCount) (k : ℕ) → NoneBefore cs k (length cs) → counted_at cs k ≡ no_cells
counted-absent [] k none = refl
counted-absent (c ∷ cs) k none = grind (arith, nat_tests, none 0 (omega arith), counted-absent cs k (none_tail c cs k _ none))

-- the first count of the level is the one that is found
pub counted-present : (cs : List LevelCount) (k i : ℕ) → i < length cs → level_at cs i ≡ k → NoneBefore cs k i → counted_at cs k ≡ (get_or cs i no_count).cells
counted-present [] k i lt is none = absurd (omega (arith, lt))
counted-present (c ∷ cs) k zero lt is none = grind (arith, nat_tests, is)
counted-present (c ∷ cs) k (suc i) lt is none = grind (arith, nat_tests, none 0 (omega arith), counted-present cs k i (omega (arith, lt)) is (none_tail c cs k i none))

-- another count in its place
pub counted-set : (cs : List LevelCount) (k : ℕ) (v : Counted) (i : ℕ) → i < length cs → level_at cs i ≡ k → NoneBefore cs k i →
    SetsOnly cs (set cs i (record { level = k; cells = v })) k v
counted-set [] k v i lt is none q = absurd (omega (arith, lt))
counted-set (c ∷ cs) k v zero lt is none q = grind (arith, nat_tests, is)
counted-set (c ∷ cs) k v (suc i) lt is none q = grind (arith, nat_tests, none 0 (omega arith), counted-set cs k v i (omega (arith, lt)) is (none_tail c cs k i none) q)

-- a new count
pub counted-insert : (cs : List LevelCount) (k : ℕ) (v : Counted) (i : ℕ) → NoneBefore cs k i → SetsOnly cs (insert cs i (record { level = k; cells = v })) k v
counted-insert cs k v zero none q = refl
counted-insert [] k v (suc i) none q = refl
counted-insert (c ∷ cs) k v (suc i) none q = grind (arith, nat_tests, none 0 (omega arith), counted-insert cs k v i (none_tail c cs k i none) q)

-- no count from the index on is of the level
abbrev pub NoneFrom : List LevelCount → ℕ → ℕ → Type 0
NoneFrom cs k i = (j : ℕ) → i ≤ j → j < length cs → level_at cs j ≢ k

-- a count less
pub counted-remove : (cs : List LevelCount) (k i : ℕ) → i < length cs → level_at cs i ≡ k → NoneBefore cs k i → NoneFrom cs k (suc i) →
    SetsOnly cs (remove cs i) k no_cells
counted-remove [] k i lt is none later q = absurd (omega (arith, lt))
counted-remove (c ∷ cs) k zero lt is none later q =
    let gone = counted-absent cs k (λ j less. later (suc j) (omega arith) (omega (arith, less))) in
    grind (arith, nat_tests, is, gone)
counted-remove (c ∷ cs) k (suc i) lt is none later q =
    grind (
      arith,
      nat_tests,
      none 0 (omega arith),
      counted-remove cs k i (omega (arith, lt)) is (none_tail c cs k i none)
          (λ j le less. later (suc j) (omega (arith, le)) (omega (arith, less))) q,
    )

module _ (cs : List LevelCount) (rises : IsRising cs) (k : ℕ) where
  -- the comparisons rise along the counts, as halving asks
  comparisons_rise : IsNonDecreasingBy (λ (c : LevelCount). ordering_index (nat_cmp c.level k)) cs
  comparisons_rise = IsNonDecreasingBy-from_default (λ (c : LevelCount). ordering_index (nat_cmp c.level k)) cs no_count (λ i j le in_range.
      let up : level_at cs i ≤ level_at cs j = grind (arith, rises i j, λ (same : i ≡ j). ap (level_at cs) same) in
      grind (arith, nat_tests))

  -- halving ends at the level, or at the gap for it
  pub searched : (r : Result ℕ ℕ) → IsSearchInRange r (length cs) → IsBinarySearchResult (λ (c : LevelCount). nat_cmp c.level k) cs r →
      record { found : IfOk r (IsAt cs k); absent : IfErr r (IsGapFor cs k) }
  searched (Ok at) in_range equal = record { found = record { in_range = in_range; has_level = ranked _ k _ (sym (equal no_count)) }; absent = tt }
  searched (Err at) in_range parted = record {
    found = tt;
    absent = record {
      in_range = in_range;
      lower_before = λ j lt. ranked _ k _ (sym ((parted comparisons_rise).0 j no_count (omega arith) lt));
      higher_after = λ j le lt. ranked _ k _ (sym ((parted comparisons_rise).1 j no_count le lt));
    };
  }

module _ (cs : List LevelCount) (rises : IsRising cs) (k at : ℕ) (is : IsAt cs k at) where
  none_before : NoneBefore cs k at
  none_before j less same = omega (arith, rises j at less is.in_range, is.has_level)

  pub counted-there : counted_at cs k ≡ (get_or cs at no_count).cells
  counted-there = counted-present cs k at is.in_range is.has_level none_before

  pub sets-there : (v : Counted) → SetsOnly cs (set cs at (record { level = k; cells = v })) k v
  sets-there v = counted-set cs k v at is.in_range is.has_level none_before

  pub rises-there : (v : Counted) → IsRising (set cs at (record { level = k; cells = v }))
  rises-there v i j less within = grind (arith, common_steps, rises i j, rises i at, rises at j, is.in_range, is.has_level)

  pub sets-removed : SetsOnly cs (remove cs at) k no_cells
  sets-removed =
      counted-remove cs k at is.in_range is.has_level none_before (λ j le less same. omega (arith, rises at j (omega (arith, le)) less, is.has_level))

  pub rises-removed : IsRising (remove cs at)
  rises-removed i j less within =
      let shorter = length-remove cs at is.in_range in
      let below : (m : ℕ) → m < at → level_at (remove cs at) m ≡ level_at cs m =
      λ m before. ap (λ (c : LevelCount). c.level) (get_or-remove_below cs at no_count m before is.in_range) in
      let above : (m : ℕ) → at ≤ m → level_at (remove cs at) m ≡ level_at cs (m + 1) =
      λ m after. ap (λ (c : LevelCount). c.level) (get_or-remove_above cs at no_count m after is.in_range) in
      grind (arith, below i, below j, above i, above j, rises i j, rises i (j + 1), rises (i + 1) (j + 1))

module _ (cs : List LevelCount) (k at : ℕ) (gap : IsGapFor cs k at) where
  pub counted-nowhere : counted_at cs k ≡ no_cells
  counted-nowhere = counted-absent cs k (λ j lt same. grind (arith, gap.lower_before j, gap.higher_after j))

  pub sets-nothing : SetsOnly cs cs k no_cells
  sets-nothing q = grind (arith, nat_tests, counted-nowhere)

  pub sets-inserted : (v : Counted) → SetsOnly cs (insert cs at (record { level = k; cells = v })) k v
  sets-inserted v = counted-insert cs k v at (λ j lt same. omega (arith, gap.lower_before j lt))

  pub rises-inserted : (v : Counted) → IsRising cs → IsRising (insert cs at (record { level = k; cells = v }))
  rises-inserted v rises i j less within =
      let e : LevelCount = record { level = k; cells = v } in
      let new = insert cs at e in
      let longer = length-insert cs at e gap.in_range in
      let level = λ (c : LevelCount). c.level in
      let below : (m : ℕ) → m < at → level_at new m ≡ level_at cs m = λ m before. ap level (get_or-insert_below cs at e no_count m before gap.in_range) in
      let here : (m : ℕ) → m ≡ at → level_at new m ≡ k = λ m is. rw is (ap level (get_or-insert_at cs at e no_count gap.in_range)) in
      let above : (m : ℕ) → at < m → level_at new m ≡ level_at cs (m - 1) =
      λ m after. subst (λ q. level_at new q ≡ level_at cs (m - 1)) {x = m - 1 + 1} (omega arith) (ap level (get_or-insert_above cs at e no_count (m - 1) (omega arith) gap.in_range)) in
      grind (arith, below i, here i, above i, below j, here j, above j, rises i j, rises i (j - 1), rises (i - 1) (j - 1), gap.lower_before i, gap.higher_after (j - 1))

-- no level, or none but lower ones
pub gap_of_none : (cs : List LevelCount) (k : ℕ) → length cs ≡ 0 → IsGapFor cs k 0
gap_of_none cs k none = record {
  in_range = omega arith;
  lower_before = λ j lt. absurd (omega (arith, lt));
  higher_after = λ j le lt. absurd (omega (arith, lt, none));
}

pub gap_past : (cs : List LevelCount) (k : ℕ) → IsRising cs → length cs ≢ 0 → level_at cs (length cs - 1) < k → IsGapFor cs k (length cs)
gap_past cs k rises some lower = record {
  in_range = omega arith;
  lower_before = λ j lt. go j lt (cases_eq j (length cs - 1));
  higher_after = λ j le lt. absurd (omega (arith, le, lt));
}
  where
    go : (j : ℕ) → j < length cs → (j ≡ length cs - 1) ⊎ (j ≡ length cs - 1 → ⊥) → level_at cs j < k
    go j lt (inl last) = rw last lower
    go j lt (inr before) = omega (arith, rises j (length cs - 1) (omega (arith, lt, before)) (omega (arith, lt)), lower)

-- without the outermost count, the levels past it have what they had
pub counted-past : (cs : List LevelCount) (q : ℕ) → 1 ≤ length cs → level_at cs 0 < q → counted_at (remove cs 0) q ≡ counted_at cs q
counted-past [] q some past = absurd (omega (arith, some))
counted-past (c ∷ cs) q some past = grind (arith, nat_tests)

pub gap-past : (cs : List LevelCount) (k at : ℕ) → 1 ≤ length cs → 1 ≤ at → IsGapFor cs k at → IsGapFor (remove cs 0) k (at - 1)
gap-past [] k at some after gap = absurd (omega (arith, some))
gap-past (c ∷ cs) k at some after gap = record {
  in_range = omega (arith, gap.in_range, after);
  lower_before = λ j lt. gap.lower_before (suc j) (omega arith);
  higher_after = λ j le lt. gap.higher_after (suc j) (omega arith) (omega (arith, lt));
}

-- an edit of the table that leaves known what was known
pub edits-set : (cs new : List LevelCount) (known k : ℕ) (v : Counted) → SetsOnly cs new k v →
    Edits (set_at cs k v) (record { counts = cs; known_from = known }) (record { counts = new; known_from = known })
edits-set cs new known k v sets = record { known = omega arith; counts = λ q from. sets q }

-- one that forgets the outermost count
pub edits-past : (cs new : List LevelCount) (k at : ℕ) (v : Counted) (known later : ℕ) → 1 ≤ at → IsGapFor cs k at →
    new ≡ insert (remove cs 0) (at - 1) (record { level = k; cells = v }) → known ≤ later → level_at cs 0 < later →
    Edits (set_at cs k v) (record { counts = cs; known_from = known }) (record { counts = new; known_from = later })
edits-past cs new k at v known later after gap is fewer past =
    let some : 1 ≤ length cs = omega (arith, after, gap.in_range) in
    record {
      known = fewer;
      counts = λ q from. ap (λ t. counted_at t q) is ∙ sets-inserted (remove cs 0) k (at - 1) (gap-past cs k at some after gap) v q
          ∙ ap (λ (x : Counted). cond (nat_eq k q) v x) (counted-past cs q some (omega (arith, past, from)));
    }

-- the cells of a level under the level below: of one that isn't known, of one that has none, and of one that has some
pub lowered-unknown : (old : LevelCounts) (level : ℕ) → level < old.known_from → Edits (lowered_at old.counts level) old old
lowered-unknown old level unknown = record { known = omega arith; counts = λ q from. grind (arith, nat_tests) }

module _ (old mid : LevelCounts) (level : ℕ) (some : 1 ≤ level) (gone : Edits (set_at old.counts level no_cells) old mid) where
  pub lowered-none : (counted_at old.counts level).count ≡ 0 → Edits (lowered_at old.counts level) old mid
  lowered-none none = record { known = gone.known; counts = λ q from. grind (arith, nat_tests, gone.counts q from) }

  pub lowered-some : (new : LevelCounts) (ended : Counted) → ended ≡ counted_at old.counts level → 0 < ended.count →
      Edits (set_at mid.counts (level - 1) (with_more (counted_at mid.counts (level - 1)) ended.count ended.lowest)) mid new →
      Edits (lowered_at old.counts level) old new
  lowered-some new ended is many joins = record {
    known = omega (arith, gone.known, joins.known);
    counts = λ q from. by q from (nat_eq level q) (nat_eq (level - 1) q) refl refl;
  }
    where
      by : (q : ℕ) → new.known_from ≤ q → (b c : Bool) → nat_eq level q ≡ b → nat_eq (level - 1) q ≡ c →
          counted_at new.counts q ≡ cond b no_cells (cond c (joined (counted_at old.counts q) (counted_at old.counts level)) (counted_at old.counts q))
      by q from true c e e' = grind (arith, nat_tests, gone.counts q (omega (arith, joins.known, from)), joins.counts q from)
      by q from false true e e' = grind (arith, nat_tests, gone.counts q (omega (arith, joins.known, from)), joins.counts q from)
      by q from false false e e' = grind (arith, nat_tests, gone.counts q (omega (arith, joins.known, from)), joins.counts q from)
