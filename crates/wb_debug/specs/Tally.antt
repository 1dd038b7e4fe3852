-- What a heap's live cells come to: how many there are of all levels, and of each one, and from which place on.
use Rattle.std.specs.Prelude.{◌≡◌, ℕ, ◌+◌, ◌≤◌, List, Bool, ◌&&◌, nat_lt, cond, filter, length}
use Rattle.wb_heap_model.specs.declared.heap.Header.{Header}
use Rattle.wb_debug.specs.declared.checks.Levels.TheVariants.{One, All}
use Rattle.wb_debug.specs.LevelCounts.{LevelCounts, counted_at}
use Rattle.wb_debug.specs.Levels.{is_counted}

-- the cells of all levels, and those of each, where they are known
pub record Tally : Type 0 where
  pub total : ℕ
  pub levels : LevelCounts

-- how many cells pass a test
abbrev pub number : (Header → Bool) → List Header → ℕ
number test row = length (filter test row)

-- the cell passes the test, and is below a place
abbrev pub is_below : (Header → Bool) → ℕ → Header → Bool
is_below test place h = test h && nat_lt h.place place

-- the counts say how many cells each level has that is known, and none of them is below the place
pub record AreRight (levels : LevelCounts) (row : List Header) : Type 0 where
  pub counts : (l : ℕ) → levels.known_from ≤ l → (counted_at levels.counts l).count ≡ number (is_counted (One l)) row
  pub lowest : (l : ℕ) → levels.known_from ≤ l → number (is_below (is_counted (One l)) (counted_at levels.counts l).lowest) row ≡ 0

pub record IsTally (tally : Tally) (row : List Header) : Type 0 where
  pub total : tally.total ≡ number (is_counted All) row
  pub levels : AreRight tally.levels row

-- the same cells and one more, in whichever order
pub record IsMore (row more : List Header) (h : Header) : Type 0 where
  pub counts : (test : Header → Bool) → number test more ≡ number test row + cond (test h) 1 0

-- one cell for another
pub record IsOther (row new : List Header) (old_cell new_cell : Header) : Type 0 where
  pub rest : List Header
  pub less : IsMore rest row old_cell
  pub more : IsMore rest new new_cell
