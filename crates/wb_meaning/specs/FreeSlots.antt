-- Where a run goes on, the cleanup stack has a slot for the next item.
use Rattle.std.specs.Prelude.{ℕ, ◌<◌, length}
use Rattle.wb_heap_model.specs.declared.heap.Answer.{Answer}
use Rattle.wb_meaning.specs.State.{State, goes_on, returns, leaves, Process, ends, stops, asks, notes}

-- the cleanup stack has fewer items than slots
abbrev pub HasFreeSlot : State → Type 0
HasFreeSlot st = length st.items < st.slots

-- A fact about each state from which a process goes on: where it ends plainly or returns, and where it asks for an attempt.
-- Nothing is said of a state in which it leaves, or is stopped.
abbrev pub WhereverItGoesOn : (State → Type 0) → Process → Type 0
WhereverItGoesOn P (ends goes_on st) = P st
WhereverItGoesOn P (ends (returns p) st) = P st
WhereverItGoesOn P (ends (leaves code) st) = Unit {0}
WhereverItGoesOn P (stops stop st) = Unit {0}
WhereverItGoesOn P (asks t before go) = P before × ((number : ℕ) (answer : Answer) → WhereverItGoesOn P (go number answer))
WhereverItGoesOn P (notes q p) = WhereverItGoesOn P p
