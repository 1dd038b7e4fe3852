-- What a heap keeps of its attempts, and what one more makes of it.
use Rattle.std.specs.Prelude.{◌≡◌, ℕ, List, [], Bool, true, nat_lt, Option, Some, None}
use Rattle.wb_heap_model.specs.declared.heap.Attempt.{Attempt}
use Rattle.wb_heap_model.specs.declared.size.Rise.{Rise}
use Rattle.wb_heap_model.specs.Rises.{end_of_line, first_rises, rises_with, top_of_rises, trace_with}

-- a line of each attempt, or the rises alone
pub record Log : Type 0 where
  pub trace : List Attempt
  pub rises : Option (List Rise)

abbrev pub first_log : Bool → Log
first_log keeps_rises = record { trace = []; rises = first_rises keeps_rises }

abbrev pub logged : Log → Attempt → Log
logged log line = record { trace = trace_with log.rises log.trace line; rises = rises_with log.rises line }

-- the end of the last rise, 0 before the first
abbrev pub top_in : Option (List Rise) → ℕ
top_in None = 0
top_in (Some rs) = top_of_rises rs

-- whether an attempt adds anything: its line, or the rise that it is
abbrev pub adds_to : Option (List Rise) → Attempt → Bool
adds_to None line = true
adds_to (Some rs) line = nat_lt (top_of_rises rs) (end_of_line line)

abbrev pub adds : Log → Attempt → Bool
adds log line = adds_to log.rises line

-- what an attempt added is taken back, if it added anything
abbrev pub IsTakenBack : Log → Bool → Log → Type 0
IsTakenBack old added new = (before : Log) → (line : Attempt) → old ≡ logged before line → adds before line ≡ added → new ≡ before
