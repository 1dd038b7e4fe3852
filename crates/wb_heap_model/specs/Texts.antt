-- Texts as lists of units, with a maximum.
use Rattle.std.specs.Prelude.{ℕ, ◌+◌, ◌-◌, ◌^◌, ◌<◌, ◌≤◌, List, ◌++◌, nat_lt, nat_le, ◌||◌, if◌then◌else◌, Result, Ok, Err, length, take, drop, replicate, All, ◌/◌, map}
use Rattle.wb_heap_model.specs.declared.heap.TheConstants.Panic.{TOO_LONG, POSITION_OUT_OF_BOUNDS}
use Rattle.wb_heap_model.specs.declared.heap.Panic.{Panic}
use Rattle.wb_heap_model.specs.declared.text.View.{View}
use Rattle.wb_basics.specs.declared.limits.TheConstants.{LONGEST_PRINTED}

-- a text and the number of units that it may have
pub record Buffer : Type 0 where
  pub max : ℕ
  pub units : List ℕ

-- units are numbers of 16 bits
abbrev pub AreUnits : List ℕ → Type 0
AreUnits us = All (λ u. u < 2 ^ 16) us

-- what holds of each buffer
pub record IsBuffer (b : Buffer) : Type 0 where
  pub fits : length b.units ≤ b.max
  pub most : b.max ≤ 256
  pub are_units : AreUnits b.units

-- the units that an edit leaves, or its refusal
abbrev pub Edited : Type 0
Edited = Result (List ℕ) Panic

-- a buffer after an edit; a refusal leaves it as it was
abbrev pub edited : Buffer → Edited → Buffer
edited b (Ok us) = record b { units = us }
edited b (Err panic) = b

-- what an edit answers
abbrev pub answer_of : Edited → Result (Unit {0}) Panic
answer_of (Ok us) = Ok tt
answer_of (Err panic) = Err panic

-- USER 11 where a text is longer than its maximum
abbrev pub at_most : ℕ → List ℕ → Edited
at_most max t = if nat_le (length t) max then Ok t else Err TOO_LONG

abbrev pub insert_text : ℕ → List ℕ → ℕ → List ℕ → Edited
insert_text max t at s = if nat_lt (length t) at then Err POSITION_OUT_OF_BOUNDS else at_most max (take at t ++ s ++ drop at t)

abbrev pub delete_text : List ℕ → ℕ → ℕ → Edited
delete_text t at count = if nat_lt (length t) at then Err POSITION_OUT_OF_BOUNDS else Ok (take at t ++ drop (at + count) t)

-- cut or filled up with zeros
abbrev pub exactly : ℕ → List ℕ → List ℕ
exactly n t = take n t ++ replicate (n - length t) 0

abbrev pub set_length_text : ℕ → List ℕ → ℕ → Edited
set_length_text max t n = if nat_le n max then Ok (exactly n t) else Err TOO_LONG

-- a part of a text of this length: where it begins and how long it is
pub record Part : Type 0 where
  pub from : ℕ
  pub count : ℕ

abbrev pub left_part : ℕ → ℕ → Result Part Panic
left_part len n = if nat_le n len then Ok (record { from = 0; count = n }) else Err POSITION_OUT_OF_BOUNDS

abbrev pub right_part : ℕ → ℕ → Result Part Panic
right_part len n = if nat_le n len then Ok (record { from = len - n; count = n }) else Err POSITION_OUT_OF_BOUNDS

abbrev pub mid_part : ℕ → ℕ → ℕ → Result Part Panic
mid_part len at n = if nat_lt len at || nat_lt (len - at) n then Err POSITION_OUT_OF_BOUNDS else Ok (record { from = at; count = n })

-- a part of a view, as a view of the same base
abbrev pub view_of_part : View → Result Part Panic → Result View Panic
view_of_part v (Ok p) = Ok (record { base = v.base; position = v.position + p.from; length = p.count })
view_of_part v (Err panic) = Err panic

-- the units of a part, zeros past the end
abbrev pub units_of_part : List ℕ → ℕ → ℕ → List ℕ
units_of_part base from count = exactly count (drop from base)

-- the maximum of a text in a cell of this usable length
abbrev pub max_units : ℕ → ℕ
max_units usable = (usable - 4) / 2

abbrev pub printed_unit : ℕ → ℕ
printed_unit u = if nat_lt u 32 || nat_lt 126 u then 46 else u

-- a printed line: the first units, as many as a line has
abbrev pub printed : List ℕ → List ℕ
printed us = map printed_unit (take LONGEST_PRINTED us)
