-- What a run reports of the heap: the line of an attempt, and a leak.
use Rattle.std.specs.Prelude.{ℕ, ◌+◌}
use Rattle.wb_heap_model.specs.declared.heap.Answer.{Answer}
use Rattle.wb_heap_model.specs.declared.heap.Attempt.{Attempt}
use Rattle.wb_heap_model.specs.Rules.{Request}
use Rattle.wb_heap_model.specs.declared.heap.Header.{Header}
use Rattle.wb_heap_model.specs.declared.reported.Leak.{Leak}

-- the line of an attempt that was answered
abbrev pub trace_line : ℕ → Request → Answer → Attempt
trace_line number t answer = record { number = number; length = t.length; place = t.place; answer = answer }

abbrev pub leak_of : Header → Leak
leak_of h = record { number = h.number; length = h.length; place = h.place }

-- where the cell of an attempt ends, or would
abbrev pub end_of_attempt : Attempt → ℕ
end_of_attempt t = t.place + t.length
