-- Which attempts of a run are its rises, said of the lines before each.
use Rattle.std.specs.Prelude.{◌≡◌, ◌<◌, List, ◌∷◌, ◌++◌}
use Rattle.wb_heap_model.specs.declared.heap.Attempt.{Attempt}
use Rattle.wb_heap_model.specs.Rises.{end_of_line}

-- The attempt ends above 0, and above each attempt before it. One that was granted ends where its cell does, and any other at 0.
abbrev pub EndsAbove : List Attempt → Attempt → Type 0
EndsAbove before t = (0 < end_of_line t) × ((earlier later : List Attempt) (other : Attempt) → before ≡ earlier ++ other ∷ later → end_of_line other < end_of_line t)
