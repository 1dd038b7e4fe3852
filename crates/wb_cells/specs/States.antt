-- State words.
use Rattle.std.specs.Prelude.{ℕ, ◌≤◌, ◌<◌, ◌⊎◌}

-- the word of some live cell: a class is below 2^16
pub record IsState (state : ℕ) : Type 0 where
  pub least : 1 ≤ state
  pub low : (state ≤ 3) ⊎ (16 ≤ state)
  pub high : state < 65552
