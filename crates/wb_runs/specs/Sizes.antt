-- What is measured of traces: what heaps of each length refuse first, and the table of the rises that tells it.
use Rattle.std.specs.Prelude.{◌≡◌, ◌≢◌, ◌⊎◌, ℕ, ◌<◌, ◌≤◌, List, [], ◌∷◌, Option, Some, None, IsSome, slice_get}
use Rattle.wb_heap_model.specs.declared.heap.Answer.{Answer}
use Rattle.wb_heap_model.specs.declared.heap.Answer.TheVariants.{Granted, Refused}
use Rattle.wb_heap_model.specs.declared.heap.Attempt.{Attempt}
use Rattle.wb_heap_model.specs.declared.heap.Rule.TheVariants.{Limit}
use Rattle.wb_heap_model.specs.declared.heap.Shape.{Shape}
use Rattle.wb_tree.specs.declared.script.Script.{Script}
use Rattle.wb_heap_model.specs.declared.size.Rise.{Rise}
use Rattle.wb_meaning.specs.Run.{run}
use Rattle.wb_heap_model.specs.Reported.{end_of_attempt}

abbrev pub refused_or_later : Attempt → Answer → Option ℕ → Option ℕ
refused_or_later t Refused later = Some t.number
refused_or_later t _ later = later

-- the number of the first line that the heap's limit refused; `None` if no line is
abbrev pub first_refusal : List Attempt → Option ℕ
first_refusal [] = None
first_refusal (t ∷ ts) = refused_or_later t t.answer (first_refusal ts)

abbrev pub NoneIsRefused : List Attempt → Type 0
NoneIsRefused trace = (k : ℕ) (t : Attempt) → slice_get trace k ≡ Some t → t.answer ≢ Refused

-- the same in words: a line with this number was refused, and none before it; `traces_are_measured` among the laws says so
pub record IsFirstRefused (trace : List Attempt) (number : ℕ) : Type 0 where
  pub at : ℕ
  pub line : Attempt
  pub there : slice_get trace at ≡ Some line
  pub numbered : line.number ≡ number
  pub refused : line.answer ≡ Refused
  pub first : (k : ℕ) (t : Attempt) → k < at → slice_get trace k ≡ Some t → t.answer ≢ Refused

-- a granted line that ends there
pub record IsEndOfGrant (trace : List Attempt) (end : ℕ) : Type 0 where
  pub at : ℕ
  pub line : Attempt
  pub there : slice_get trace at ≡ Some line
  pub granted : line.answer ≡ Granted
  pub ends : end_of_attempt line ≡ end

-- the greatest end of a granted line, in words; 0 where no line is granted
pub record IsGreatestEnd (trace : List Attempt) (end : ℕ) : Type 0 where
  pub greatest : (k : ℕ) (t : Attempt) → slice_get trace k ≡ Some t → t.answer ≡ Granted → end_of_attempt t ≤ end
  pub reached : (end ≡ 0) ⊎ IsEndOfGrant trace end

-- A table of rises holds of what each length refuses: from a length on, and below the top of the first rise, that is this
-- rise's number; so it goes on from top to top. From the last top on, which is the length required, nothing is refused.
abbrev pub IsTable : (ℕ → Option ℕ) → ℕ → ℕ → List Rise → Type 0
IsTable refused_by required from [] = (from ≡ required) × ((length : ℕ) → from ≤ length → refused_by length ≡ None)
IsTable refused_by required from (r ∷ rs) =
    (from < r.top) × ((length : ℕ) → from ≤ length → length < r.top → refused_by length ≡ Some r.number)
    × IsTable refused_by required r.top rs

-- the first attempt that a heap of a length refuses as it runs a script, whatever follows it; `None` if it refuses none
abbrev pub refused_first : Script → ℕ → Shape → ℕ → Option ℕ
refused_first script budget shape length = first_refusal (run script (Limit length) budget shape).trace

-- The length of heap that a script needs, and its table of rises: at that length and every greater one the run meets no
-- refusal of the heap, at every smaller one it meets one, and the first attempt refused is the one that the table names.
pub record IsHeapLength (script : Script) (budget : ℕ) (shape : Shape) (required : ℕ) (rises : List Rise) : Type 0 where
  pub enough : (length : ℕ) → required ≤ length → refused_first script budget shape length ≡ None
  pub short : (length : ℕ) → length < required → IsSome (refused_first script budget shape length)
  pub table : IsTable (refused_first script budget shape) required 0 rises
