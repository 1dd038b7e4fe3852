-- A pass over the lines of a script, from the first to the last.
use Rattle.std.specs.Prelude.{ℕ, suc, List, [], ◌∷◌, Option, Some, None, Bool, if◌then◌else◌}
use Rattle.std.specs.Option.{option_map}

-- the index of the first line that is bad in the state after the lines before it
abbrev pub first_bad : {S L : Type 0} → (S → L → S) → (S → L → Bool) → S → List L → Option ℕ
first_bad next bad state [] = None
first_bad next bad state (line ∷ lines) =
    if bad state line then Some 0 else option_map suc (first_bad next bad (next state line) lines)

-- the index of the first element that passes
abbrev pub first_where : {X : Type 0} → (X → Bool) → List X → Option ℕ
first_where p xs = first_bad (λ state x. state) (λ state x. p x) (tt {0}) xs

-- the state after all lines
abbrev pub state_after : {S L : Type 0} → (S → L → S) → S → List L → S
state_after next state [] = state
state_after next state (line ∷ lines) = state_after next (next state line) lines

-- each line, as out makes it in the state after the lines before it
abbrev pub each_with : {S L M : Type 0} → (S → L → S) → (S → L → M) → S → List L → List M
each_with next out state [] = []
each_with next out state (line ∷ lines) = out state line ∷ each_with next out (next state line) lines
