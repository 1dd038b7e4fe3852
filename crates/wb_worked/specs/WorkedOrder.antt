-- The order of sets, of one, two and three numbers.
use Rattle.std.specs.Prelude.{◌≡◌, ℕ, List, [], ◌∷◌, true, false}
use Rattle.wb_runs.specs.Sets.{has_lesser_number, set_comes_before}

-- the first of two sets comes before the second, and the second not before the first
abbrev pub AreInOrder : List ℕ → List ℕ → Type 0
AreInOrder numbers others = (set_comes_before numbers others ≡ true) × (set_comes_before others numbers ≡ false)

-- The empty set comes before all others.
abbrev pub EmptyFirst : Type 0
EmptyFirst = AreInOrder [] (1 ∷ [])

-- Of two sets of one number the lesser number comes first.
abbrev pub OneNumber : Type 0
OneNumber = AreInOrder (2 ∷ []) (3 ∷ [])

-- Of two sets of two numbers the first number decides, even where the second is greater.
abbrev pub FirstOfTwo : Type 0
FirstOfTwo = AreInOrder (2 ∷ 9 ∷ []) (3 ∷ 4 ∷ [])

-- Where the first numbers are the same, the second decides.
abbrev pub SecondOfTwo : Type 0
SecondOfTwo = AreInOrder (2 ∷ 3 ∷ []) (2 ∷ 9 ∷ [])

-- Of three numbers the first decides.
abbrev pub FirstOfThree : Type 0
FirstOfThree = AreInOrder (2 ∷ 8 ∷ 9 ∷ []) (3 ∷ 4 ∷ 5 ∷ [])

-- Where the first numbers are the same, the second decides, even where the third is greater.
abbrev pub SecondOfThree : Type 0
SecondOfThree = AreInOrder (2 ∷ 3 ∷ 9 ∷ []) (2 ∷ 4 ∷ 5 ∷ [])

-- Where the first two are the same, the third decides.
abbrev pub ThirdOfThree : Type 0
ThirdOfThree = AreInOrder (2 ∷ 3 ∷ 4 ∷ []) (2 ∷ 3 ∷ 9 ∷ [])

-- A set of one number comes before one of two, even where its number is greater.
abbrev pub OneBeforeTwo : Type 0
OneBeforeTwo = AreInOrder (9 ∷ []) (2 ∷ 3 ∷ [])

-- A set of two numbers comes before one of three, even where its numbers are greater.
abbrev pub TwoBeforeThree : Type 0
TwoBeforeThree = AreInOrder (8 ∷ 9 ∷ []) (2 ∷ 3 ∷ 4 ∷ [])

-- No set comes before itself.
abbrev pub NotBeforeItself : Type 0
NotBeforeItself = set_comes_before (2 ∷ 3 ∷ 4 ∷ []) (2 ∷ 3 ∷ 4 ∷ []) ≡ false

-- A set and one that it begins have no number where they differ, so only their lengths tell.
abbrev pub NoNumberTells : Type 0
NoNumberTells =
    (has_lesser_number (2 ∷ 3 ∷ []) (2 ∷ 3 ∷ 4 ∷ []) ≡ false)
    × (has_lesser_number (2 ∷ 3 ∷ 4 ∷ []) (2 ∷ 3 ∷ []) ≡ false)
    × AreInOrder (2 ∷ 3 ∷ []) (2 ∷ 3 ∷ 4 ∷ [])
