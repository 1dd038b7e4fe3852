-- The grants that made the heap longer than all before them; and what is kept of the attempts of a run, which is a line of each, or
-- these rises alone.
use Rattle.std.specs.Prelude.{ℕ, ◌+◌, List, [], ◌∷◌, ◌++◌, Bool, true, false, nat_lt, if◌then◌else◌, Option, Some, None, max}
use Rattle.wb_heap_model.specs.declared.heap.Answer.{Answer}
use Rattle.wb_heap_model.specs.declared.heap.Answer.TheVariants.{Granted}
use Rattle.wb_heap_model.specs.declared.heap.Attempt.{Attempt}
use Rattle.wb_heap_model.specs.declared.size.Rise.{Rise}

abbrev pub granted_end : Attempt → Answer → ℕ
granted_end t Granted = t.place + t.length
granted_end t _ = 0

abbrev pub end_of_line : Attempt → ℕ
end_of_line t = granted_end t t.answer

abbrev pub highest_end : List Attempt → ℕ
highest_end [] = 0
highest_end (t ∷ ts) = max (end_of_line t) (highest_end ts)

-- the rise that a line is, where it is one
abbrev pub rise_of : Attempt → Rise
rise_of t = record { number = t.number; top = end_of_line t }

-- the grants that made the heap longer than a length and than all before them
abbrev pub rises_above : ℕ → List Attempt → List Rise
rises_above top [] = []
rises_above top (t ∷ ts) = if nat_lt top (end_of_line t) then rise_of t ∷ rises_above (end_of_line t) ts else rises_above top ts

-- the top of the last rise; without one, a length
abbrev pub top_from : ℕ → List Rise → ℕ
top_from top [] = top
top_from top (r ∷ rs) = top_from r.top rs

-- the greatest end of a grant so far
abbrev pub top_of_rises : List Rise → ℕ
top_of_rises rs = top_from 0 rs

-- the rises once one more attempt was made
abbrev pub with_line : List Rise → Attempt → List Rise
with_line rs t = if nat_lt (top_of_rises rs) (end_of_line t) then rs ++ rise_of t ∷ [] else rs

-- the rises that are kept, where they are
abbrev pub rises_with : Option (List Rise) → Attempt → Option (List Rise)
rises_with None t = None
rises_with (Some rs) t = Some (with_line rs t)

-- and the trace, which has a line of each attempt unless the rises are kept
abbrev pub trace_with : Option (List Rise) → List Attempt → Attempt → List Attempt
trace_with None trace t = trace ++ t ∷ []
trace_with (Some rs) trace t = trace

-- what is kept before attempt 1
abbrev pub first_rises : Bool → Option (List Rise)
first_rises true = Some []
first_rises false = None
