-- The part of a run that reads the rule: what is kept of its attempts, the notes and the committed length; and how a process ends
-- under a rule.
use Rattle.std.specs.Prelude.{ℕ, ◌+◌, ◌-◌, List, [], ◌∷◌, ◌++◌, Option, Some, None, sum}
use Rattle.wb_heap_model.specs.declared.heap.Rule.{Rule}
use Rattle.wb_heap_model.specs.declared.heap.Answer.{Answer}
use Rattle.wb_heap_model.specs.declared.heap.Attempt.{Attempt}
use Rattle.wb_heap_model.specs.declared.reported.Note.{Note}
use Rattle.wb_heap_model.specs.declared.reported.Note.TheVariants.{Heap, Available, Compress}
use Rattle.wb_meaning.specs.declared.run.Why.TheVariants.{Ceiling}
use Rattle.wb_heap_model.specs.declared.size.Rise.{Rise}
use Rattle.wb_heap_model.specs.Rises.{rises_with, trace_with}
use Rattle.wb_heap_model.specs.Rules.{Request, answer_to}
use Rattle.wb_heap_model.specs.Space.{Space, compressed_to, free_runs, longest, committed_after}
use Rattle.wb_meaning.specs.State.{Query, heap_note, available_note, compress_note, Way, Stop, is_cut, State, Process, ends, stops, asks, notes}
use Rattle.wb_heap_model.specs.Reported.{trace_line}

-- what the rule and the shape decide of a run
pub record Account : Type 0 where
  -- how many attempts were made
  pub attempts : ℕ
  -- their lines, or `None` if the rises are kept in their place
  pub trace : List Attempt
  pub rises : Option (List Rise)
  pub notes : List Note
  pub committed : ℕ

abbrev pub noted : Space → Query → Account → Account
noted space (heap_note count total) a = record a { notes = a.notes ++ Heap count total a.committed ∷ [] }
noted space (available_note row) a =
    let runs = free_runs 0 row a.committed in
    record a { notes = a.notes ++ Available (sum runs) (longest runs) ∷ [] }
noted space (compress_note top) a =
    let to = compressed_to space a.committed top in
    record a { notes = a.notes ++ Compress (a.committed - to) ∷ []; committed = to }

-- attempts count from 1
abbrev pub next_number : Account → ℕ
next_number a = a.attempts + 1

-- an attempt that was answered adds its line, or the rise that it is
abbrev pub recorded : Space → ℕ → Request → Answer → Account → Account
recorded space number t answer a =
    record a {
      attempts = number;
      trace = trace_with a.rises a.trace (trace_line number t answer);
      rises = rises_with a.rises (trace_line number t answer);
      committed = committed_after space t answer a.committed;
    }

pub data End : Type 0 where
  over : Way → End
  stopped : Stop → End

-- how a process ends under a rule
pub record Settled : Type 0 where
  pub end : End
  pub state : State
  pub account : Account

-- without an answer the ceiling cuts the run
abbrev pub on_answer : Option Answer → Settled → (Answer → Settled) → Settled
on_answer None cut go = cut
on_answer (Some answer) cut go = go answer

abbrev pub settled : Rule → Space → Process → Account → Settled
settled rule space (ends way st) a = record { end = over way; state = st; account = a }
settled rule space (stops stop st) a = record { end = stopped stop; state = st; account = a }
settled rule space (asks t cut go) a =
    on_answer (answer_to rule (next_number a) t) (record { end = stopped (is_cut Ceiling); state = cut; account = a })
    (λ answer. settled rule space (go (next_number a) answer) (recorded space (next_number a) t answer a))
settled rule space (notes q p) a = settled rule space p (noted space q a)
