-- Counts of levels, as contracts see them: each level once, in order.
use Rattle.std.specs.Prelude.{◌≡◌, ℕ, ◌+◌, ◌-◌, ◌<◌, ◌≤◌, List, [], ◌∷◌, Option, Some, None, length, min, if◌then◌else◌, ◌==◌, nat_lt, slice_index_or}
use Rattle.wb_debug.specs.declared.level_counts.Counted.{Counted}
use Rattle.wb_debug.specs.declared.level_counts.LevelCount.{LevelCount}

abbrev pub no_cells : Counted
no_cells = record { count = 0; lowest = 0 }

-- what is counted of a level; a level that has no count has no cell
abbrev pub counted_at : List LevelCount → ℕ → Counted
counted_at [] level = no_cells
counted_at (c ∷ cs) level = if c.level == level then c.cells else counted_at cs level

-- the level of the count at an index
abbrev pub level_at : List LevelCount → ℕ → ℕ
level_at cs i = (slice_index_or cs i (record { level = 0; cells = no_cells })).level

-- the levels rise, so that none comes twice
abbrev pub IsRising : List LevelCount → Type 0
IsRising cs = (i j : ℕ) → i < j → j < length cs → level_at cs i < level_at cs j

-- a table of levels, and the level from which on it is right
pub record LevelCounts : Type 0 where
  pub counts : List LevelCount
  pub known_from : ℕ

-- what is counted of a level, where that is known
abbrev pub known_at : LevelCounts → ℕ → Option Counted
known_at levels level = if nat_lt level levels.known_from then None else Some (counted_at levels.counts level)

-- these cells at the level, and at every other level what there is
abbrev pub set_at : List LevelCount → ℕ → Counted → ℕ → Counted
set_at counts level cells q = if level == q then cells else counted_at counts q

-- the new counts have that of each level which they know, and they know no other than the old ones did
pub record Edits (cells : ℕ → Counted) (old new : LevelCounts) : Type 0 where
  pub known : old.known_from ≤ new.known_from
  pub counts : (q : ℕ) → new.known_from ≤ q → counted_at new.counts q ≡ cells q

-- the count at the index is of the level
pub record IsAt (cs : List LevelCount) (level i : ℕ) : Type 0 where
  pub in_range : i < length cs
  pub has_level : level_at cs i ≡ level

-- the level has no count: lower levels are before the index, and higher ones from it on
pub record IsGapFor (cs : List LevelCount) (level i : ℕ) : Type 0 where
  pub in_range : i ≤ length cs
  pub lower_before : (j : ℕ) → j < i → level_at cs j < level
  pub higher_after : (j : ℕ) → i ≤ j → j < length cs → level < level_at cs j

-- the cells with some more, none of which is below a place
abbrev pub with_more : Counted → ℕ → ℕ → Counted
with_more cells count lowest =
    record { count = cells.count + count; lowest = if cells.count == 0 then lowest else min cells.lowest lowest }

abbrev pub one_less : Counted → Counted
one_less cells = record cells { count = cells.count - 1 }

-- a level's cells with those of the level above
abbrev pub joined : Counted → Counted → Counted
joined cells above = if above.count == 0 then cells else with_more cells above.count above.lowest

-- what is counted of each level once the cells of one are of the level below
abbrev pub lowered_at : List LevelCount → ℕ → ℕ → Counted
lowered_at cs level q =
    if level == q then no_cells else (if level - 1 == q then joined (counted_at cs q) (counted_at cs level) else counted_at cs q)
