-- The debug heap: cells of words with levels, the script's own setting, a rule, how many attempts were made, and their trace, or the
-- rises alone; and what each of its calls makes of it and gives.
use Rattle.std.specs.Prelude.{◌≡◌, ℕ, ◌+◌, ◌-◌, ◌%◌, ◌≤◌, List, [], Option, Some, None, is_some, All, Bool, true, false, length, nat_lt, sum, map, if◌then◌else◌}
use Rattle.wb_heap_model.specs.declared.heap.TheConstants.Panic.{BAD_CELL}
use Rattle.wb_heap_model.specs.declared.heap.Ptr.{Ptr}
use Rattle.wb_heap_model.specs.declared.heap.Header.{Header}
use Rattle.wb_heap_model.specs.declared.heap.Kind.{Kind}
use Rattle.wb_heap_model.specs.declared.heap.Rule.{Rule}
use Rattle.wb_heap_model.specs.declared.heap.Shape.{Shape}
use Rattle.wb_heap_model.specs.declared.heap.Answer.{Answer}
use Rattle.wb_heap_model.specs.declared.heap.Attempt.{Attempt}
use Rattle.wb_heap_model.specs.declared.heap.Gave.{Gave}
use Rattle.wb_heap_model.specs.declared.heap.Gave.TheVariants.{Granted, Denied, Ceiling}
use Rattle.wb_heap_model.specs.declared.heap.Panic.{Panic}
use Rattle.wb_heap_model.specs.declared.reported.Leak.{Leak}
use Rattle.wb_heap_model.specs.declared.reported.Note.{Note}
use Rattle.wb_heap_model.specs.declared.reported.Note.TheVariants as N
use Rattle.wb_heap_model.specs.declared.size.Rise.{Rise}
use Rattle.wb_heap_model.specs.Row.{Cell, IsRow, headers, cell_at, cell_length, pointer_to, end_of, without, top_of, total_length}
use Rattle.wb_heap_model.specs.CellRow.{with_payload, resized_words}
use Rattle.wb_heap_model.specs.Rules.{Setting, Request, answer_to}
use Rattle.wb_heap_model.specs.Heap.{Heap, AfterAnswer, no_cells, alloc_request, after_alloc, realloc_request, after_realloc, shortened, cells_of_level, cells_of_all_levels, checked}
use Rattle.wb_heap_model.specs.Placement.{placement_of}
use Rattle.wb_heap_model.specs.Space.{Space, space_of, limit_under, compressed_to, free_runs, longest, is_shape, committed_after}
pub use Rattle.wb_heap_model.specs.Reported.{trace_line}
use Rattle.wb_heap_model.specs.Rises.{first_rises, rises_above, rises_with, trace_with}
use Rattle.wb_heap_model.specs.LimitedHeap.{IsFilled, zero_words}
use Rattle.wb_heap_model.specs.Reported.{leak_of}
use Rattle.wb_heap_model.specs.Pointers.{is_null}

-- what contracts see of a debug heap
pub record Debug : Type 0 where
  -- the cells as words, the current level, and the script's own setting
  pub heap : Heap (List ℕ)
  pub rule : Rule
  pub shape : Shape
  pub committed : ℕ
  -- how many attempts were made
  pub attempts : ℕ
  -- their lines, or `None` if the rises are kept in their place
  pub trace : List Attempt
  pub rises : Option (List Rise)

abbrev pub row_of : Debug → List (Cell (List ℕ))
row_of d = d.heap.row

abbrev pub space_under : Debug → Space
space_under d = space_of d.rule d.shape

-- before attempt 1, of a heap that keeps a line of each attempt, or the rises alone
abbrev pub first_debug_of : Bool → Rule → Shape → Debug
first_debug_of keeps_rises rule shape = record {
  heap = no_cells (placement_of shape);
  rule = rule;
  shape = shape;
  committed = (space_of rule shape).least;
  attempts = 0;
  trace = [];
  rises = first_rises keeps_rises;
}

abbrev pub first_debug : Rule → Shape → Debug
first_debug rule shape = first_debug_of false rule shape

-- the same heap, with the rises in the trace's place
abbrev pub with_rises : Debug → Debug
with_rises d = record d { trace = []; rises = Some (rises_above 0 d.trace) }

-- whether the rises are kept in the trace's place
abbrev pub keeps_rises : Debug → Bool
keeps_rises d = is_some d.rises

-- attempts count from 1
abbrev pub number_of_next : Debug → ℕ
number_of_next d = d.attempts + 1

-- the heap after a call, and what the call gives
pub record Made : Type 0 where
  pub debug : Debug
  pub gave : Gave

-- the same of the heap with the rises in the trace's place
abbrev pub made_with_rises : Made → Made
made_with_rises made = record made { debug = with_rises made.debug }

abbrev pub gave_of : Option Ptr → Gave
gave_of (Some p) = Granted p
gave_of None = Denied

-- what an answer makes of it; without one the ceiling cuts the run, and nothing is counted
abbrev pub made_by : Debug → Request → (ℕ → Answer → AfterAnswer (List ℕ)) → Option Answer → Made
made_by d t after None = record { debug = d; gave = Ceiling }
made_by d t after (Some answer) = record {
  debug = record d {
    heap = (after (number_of_next d) answer).heap;
    committed = committed_after (space_under d) t answer d.committed;
    attempts = number_of_next d;
    trace = trace_with d.rises d.trace (trace_line (number_of_next d) t answer);
    rises = rises_with d.rises (trace_line (number_of_next d) t answer);
  };
  gave = gave_of (after (number_of_next d) answer).given;
}

-- what the setting, the rule and the ceiling answer to a request
abbrev pub answer_in : Debug → Request → Option Answer
answer_in d t = answer_to d.rule (number_of_next d) t

-- Attempt: a cell for a number of bytes, whose words are zeros
abbrev pub alloc_made : Debug → ℕ → Kind → Made
alloc_made d bytes kind =
    let t = alloc_request d.heap bytes in made_by d t (after_alloc d.heap t kind (zero_words t.length)) (answer_in d t)

-- Reallocation to a longer cell
abbrev pub longer_made : Debug → Cell (List ℕ) → ℕ → Made
longer_made d c bytes =
    let t = realloc_request d.heap c.head bytes in
    made_by d t (after_realloc d.heap t c.head (resized_words t.length c.content)) (answer_in d t)

-- and to one that isn't, which is no attempt
abbrev pub shorter_made : Debug → Cell (List ℕ) → ℕ → Made
shorter_made d c bytes = record {
  debug = record d { heap = shortened d.heap c.head (cell_length bytes) (resized_words (cell_length bytes) c.content) };
  gave = Granted (pointer_to c.head);
}

-- Reallocation of a cell to a number of bytes
abbrev pub realloc_made : Debug → Cell (List ℕ) → ℕ → Made
realloc_made d c bytes = if nat_lt c.head.length (cell_length bytes) then longer_made d c bytes else shorter_made d c bytes

abbrev pub refusal_unless_found : Option (Cell (List ℕ)) → Option Panic
refusal_unless_found None = Some BAD_CELL
refusal_unless_found (Some c) = None

-- what a release refuses: a pointer that isn't null and names no cell
abbrev pub release_refusal : Debug → Ptr → Option Panic
release_refusal d p = if is_null p then None else refusal_unless_found (cell_at p d.heap.row)

-- the heap with other cells
abbrev pub with_row : Debug → List (Cell (List ℕ)) → Debug
with_row d row = record d { heap = record d.heap { row = row } }

-- the heap once a pointer was released; null is nothing
abbrev pub debug_without : Debug → Ptr → Debug
debug_without d p = if is_null p then d else with_row d (without p d.heap.row)

-- the heap once the words of one cell were replaced
abbrev pub debug_changed : Debug → Ptr → List ℕ → Debug
debug_changed d p words = with_row d (with_payload p words d.heap.row)

-- the heap with another setting of the script's own
abbrev pub with_setting : Debug → Setting → Debug
with_setting d setting = record d { heap = record d.heap { setting = setting } }

-- what a check of the current level refuses
abbrev pub check_refusal : Debug → ℕ → Option Panic
check_refusal d n = checked (cells_of_level d.heap.level (headers d.heap.row)) n

-- what a check of all levels refuses
abbrev pub check_all_refusal : Debug → ℕ → Option Panic
check_all_refusal d n = checked (cells_of_all_levels (headers d.heap.row)) n

-- the live cells but the cleanup stack's, by place
abbrev pub leaks_of_heap : Debug → List Leak
leaks_of_heap d = map leak_of (cells_of_all_levels (headers d.heap.row))

-- the note on the live cells
abbrev pub note_of_heap : Debug → Note
note_of_heap d = N.Heap (length d.heap.row) (total_length (headers d.heap.row)) d.committed

-- the note on the free bytes
abbrev pub note_of_available : Debug → Note
note_of_available d =
    N.Available (sum (free_runs 0 (headers d.heap.row) d.committed)) (longest (free_runs 0 (headers d.heap.row) d.committed))

-- the committed length once what lies above the last cell was given up
abbrev pub compressed_in : Debug → ℕ
compressed_in d = compressed_to (space_under d) d.committed (top_of (headers d.heap.row))

abbrev pub debug_compressed : Debug → Debug
debug_compressed d = record d { committed = compressed_in d }

-- the note on a compression
abbrev pub note_of_compress : Debug → Note
note_of_compress d = N.Compress (d.committed - compressed_in d)

-- what holds of each live cell of a debug heap
pub record IsLiveIn (d : Debug) (h : Header) : Type 0 where
  pub placed : h.place % 16 ≡ 0
  pub aligned : h.length % 16 ≡ 0
  pub least : 16 ≤ h.length
  pub numbered : 1 ≤ h.number
  pub counted : h.number ≤ d.attempts
  pub within : end_of h ≤ limit_under d.rule

-- what holds of every debug heap: its cells are a row, each of an attempt that was made, their payloads fill them, and each attempt
-- has its line, unless the rises are kept
pub record IsSoundDebug (d : Debug) : Type 0 where
  pub row : IsRow (headers d.heap.row)
  pub filled : All IsFilled d.heap.row
  pub live : All (IsLiveIn d) (headers d.heap.row)
  pub attempts : keeps_rises d ≡ false → d.attempts ≡ length d.trace
  pub untraced : keeps_rises d ≡ true → d.trace ≡ []
  pub shape : is_shape d.shape ≡ true
  -- places are chosen as the shape says
  pub placed : d.heap.placement ≡ placement_of d.shape
