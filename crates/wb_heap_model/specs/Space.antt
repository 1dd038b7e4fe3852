-- The committed length of a chunk: how a limit and a shape decide it, and the free runs below it.
use Rattle.std.specs.Prelude.{ℕ, ◌+◌, ◌-◌, ◌*◌, ◌/◌, ◌%◌, ◌≡◌, ◌≤◌, Option, Some, None, List, [], ◌∷◌, Bool, ◌&&◌, nat_lt, nat_le, nat_eq, if◌then◌else◌, min, max, sum}
use Rattle.wb_basics.specs.declared.limits.TheConstants.{CEILING, LARGEST_MINIMUM, SMALLEST_STEP, LARGEST_STEP}
use Rattle.wb_heap_model.specs.declared.heap.Rule.{Rule}
use Rattle.wb_heap_model.specs.declared.heap.Shape.{Shape}
use Rattle.wb_heap_model.specs.declared.heap.Header.{Header}
use Rattle.wb_heap_model.specs.Row.{end_of, IsFree, total_length}
use Rattle.wb_heap_model.specs.Rules.{limit_of, Request}
use Rattle.wb_heap_model.specs.declared.heap.Answer.{Answer}
use Rattle.wb_heap_model.specs.declared.heap.Answer.TheVariants.{Granted}

-- the shapes that a heap may have
abbrev pub is_shape : Shape → Bool
is_shape shape =
    nat_eq (shape.min % 16) 0 && nat_le shape.min LARGEST_MINIMUM && (nat_eq (shape.step % 16) 0 && (nat_le SMALLEST_STEP shape.step && nat_le shape.step LARGEST_STEP))

-- the least committed length, the greatest, and the step
pub record Space : Type 0 where
  pub least : ℕ
  pub bound : ℕ
  pub step : ℕ

-- what a shape leaves below a greatest length
abbrev pub space_below : ℕ → Shape → Space
space_below bound shape = record { least = min shape.min bound; bound = bound; step = shape.step }

-- the greatest committed length of a heap with a limit: the limit, rounded down to 16
abbrev pub bound_below : ℕ → ℕ
bound_below limit = limit / 16 * 16

-- a limit or the ceiling, whichever is less
abbrev pub below_ceiling : Option ℕ → ℕ
below_ceiling (Some l) = min l CEILING
below_ceiling None = CEILING

-- the length that a heap may reach under a rule
abbrev pub limit_under : Rule → ℕ
limit_under rule = below_ceiling (limit_of rule)

abbrev pub space_of : Rule → Shape → Space
space_of rule shape = space_below (bound_below (limit_under rule)) shape

-- a multiple of the step that is no less
abbrev pub round_up : ℕ → ℕ → ℕ
round_up n step = (n + (step - 1)) / step * step

-- the committed length once a cell with this end was granted
abbrev pub committed_by : Space → ℕ → ℕ → ℕ
committed_by space committed end = if nat_lt committed end then min (round_up end space.step) space.bound else committed

-- the committed length once a chunk with this top was compressed
abbrev pub compressed_to : Space → ℕ → ℕ → ℕ
compressed_to space committed top = min committed (max space.least (min (round_up top space.step) space.bound))

-- the lengths of the runs below a length that no cell meets, empty ones among them
abbrev pub free_runs : ℕ → List Header → ℕ → List ℕ
free_runs at [] committed = (committed - at) ∷ []
free_runs at (h ∷ hs) committed = (h.place - at) ∷ free_runs (end_of h) hs committed

abbrev pub longest : List ℕ → ℕ
longest [] = 0
longest (n ∷ ns) = max n (longest ns)

-- a number of bytes from a place on lie below a length, and no cell meets them
pub record IsFreeBelow (row : List Header) (committed place length : ℕ) : Type 0 where
  pub within : place + length ≤ committed
  pub free : IsFree row place length

-- what the runs below a length are, in words: with the cells they make up that length, the longest of them is a stretch
-- of bytes that no cell meets, and no such stretch is longer; `free_runs_are` among the laws says so
pub record AreFreeRuns (row : List Header) (committed : ℕ) (runs : List ℕ) : Type 0 where
  pub total : sum runs + total_length row ≡ committed
  pub found : (place : ℕ) × IsFreeBelow row committed place (longest runs)
  pub longest_of_all : (place length : ℕ) → IsFreeBelow row committed place length → length ≤ longest runs

abbrev pub committed_after : Space → Request → Answer → ℕ → ℕ
committed_after space t Granted committed = committed_by space committed (t.place + t.length)
committed_after space t _ committed = committed
