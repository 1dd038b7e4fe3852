-- That what a parse read passed the tests of values that its arguments have.
use Rattle.std.specs.Prelude.{◌≡◌, ◌⊎◌, ⊤, true, List, [], ◌∷◌}
use Rattle.std.specs.Str.{bytes_eq}
use Rattle.clap.specs.Takes.{values_pass}
use Rattle.clap.specs.Walk.{reading_by}
use Rattle.clap.specs.Words.{Row, Rule}

-- the argument is one of these
abbrev pub IsIn : Rule → List Rule → Type 0
IsIn a [] = ⊥
IsIn a (x ∷ xs) = (x ≡ a) ⊎ IsIn a xs

-- what was read for an argument passed its test, and is read as the argument says
pub record PassesBy (r : Row) (a : Rule) : Type 0 where
  pub id : bytes_eq a.id r.id ≡ true
  pub reading : r.reading ≡ reading_by a
  pub values : values_pass a r.values ≡ true

abbrev pub RowPasses : List Rule → Row → Type 0
RowPasses rules r = (a : Rule) × IsIn a rules × PassesBy r a

abbrev pub RowsPass : List Rule → List Row → Type 0
RowsPass rules [] = ⊤
RowsPass rules (r ∷ rs) = RowPasses rules r × RowsPass rules rs
