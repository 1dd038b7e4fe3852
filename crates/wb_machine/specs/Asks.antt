-- When the next turn asks for an attempt.
use Rattle.std.specs.Prelude.{◌≡◌, ℕ, ◌+◌, ◌*◌, List, Bool, true, false, not, ◌&&◌, nat_eq, nat_lt, nat_le, if◌then◌else◌, Option, Some, None, length}
use Rattle.wb_basics.specs.declared.limits.TheConstants.{LARGEST_REQUEST, MOST_UNITS}
use Rattle.wb_heap_model.specs.declared.heap.Ptr.{Ptr}
use Rattle.wb_tree.specs.declared.script.Script.{Script}
use Rattle.wb_tree.specs.declared.script.Statement.TheOpen.{Statement-F}
use Rattle.wb_meaning.specs.State.{Process, asks, notes}
use Rattle.wb_heap_model.specs.Row.{Cell, cell_at, cell_length}
use Rattle.wb_meaning.specs.Operands.{within}
use Rattle.wb_heap_model.specs.TextCells.{text_in}
use Rattle.wb_meaning.specs.Statements.{Layer, is_raw}
use Rattle.wb_heap_model.specs.Pointers.{is_null}
use Rattle.wb_meaning.specs.Rest.{Progress, not_begun, going, has_stopped, resume}
use Rattle.wb_machine.specs.RunState.{RunState}
use Rattle.wb_machine.specs.Effects.{pointer_read, number_read}
use Rattle.wb_machine.specs.PointerOperands.{operands_refusal}
use Rattle.wb_machine.specs.TextOperands.{is_text}

-- a process asks for an attempt first of all, but for notes, its state having counted this many steps
abbrev pub asks_at : ℕ → Process → Bool
asks_at steps (asks t cut go) = nat_eq cut.steps steps
asks_at steps (notes q p) = asks_at steps p
asks_at steps _ = false

-- attempt 1 is to come, or what is left to do asks for an attempt before it counts a second step
abbrev pub asks_next : Script → ℕ → Progress → Bool
asks_next script budget (not_begun placement) = true
asks_next script budget (going ps way st) = asks_at (st.steps + 1) (resume script budget ps way st)
asks_next script budget (has_stopped stop st) = false

-- an attempt is made exactly where one is asked for, unless the ceiling cuts the run
pub record MakesAsked (asks ceiling : Bool) (before after : ℕ) : Type 0 where
  pub unasked : asks ≡ false → after ≡ before
  pub asked : asks ≡ true → ceiling ≡ false → after ≡ before + 1

abbrev pub is_some : {A : Type 0} → Option A → Bool
is_some (Some a) = true
is_some None = false

-- a cell for this many bytes is longer than one that is there
abbrev pub is_longer : Cell (List ℕ) → ℕ → Bool
is_longer c bytes = nat_lt c.head.length (cell_length bytes)

-- a Raw cell asks for an attempt where it is to be longer
abbrev pub cell_asks : ℕ → Option (Cell (List ℕ)) → Bool
cell_asks bytes None = false
cell_asks bytes (Some c) = is_raw c.head.kind && is_longer c bytes

-- a reallocation, in the range of numbers that it has; of null it is an allocation
abbrev pub realloc_asks : RunState → Ptr → Option ℕ → Bool
realloc_asks h q None = false
realloc_asks h q (Some bytes) = if is_null q then true else cell_asks bytes (cell_at q h.debug.heap.row)

-- a text asks for an attempt where it is to have room for more units than its cell holds
abbrev pub text_asks : ℕ → Option (Cell (List ℕ)) → Bool
text_asks n None = false
text_asks n (Some c) = is_text c.head.kind && (nat_le (length (text_in c.content)) n && is_longer c (4 + 2 * n))

abbrev pub realloc_text_asks : RunState → Ptr → Option ℕ → Bool
realloc_text_asks h q None = false
realloc_text_asks h q (Some n) = text_asks n (cell_at q h.debug.heap.row)

-- the cleanup stack's cell is there and is to be longer
abbrev pub growth_asks : ℕ → Option (Cell (List ℕ)) → Bool
growth_asks slots None = false
growth_asks slots (Some c) = is_longer c (16 * (slots + 4))

-- a push asks for an attempt where it fills the last slot
abbrev pub push_asks : RunState → Bool
push_asks h = nat_eq (length h.items + 1) h.slots && growth_asks h.slots (cell_at h.cleanup h.debug.heap.row)

-- a statement that is carried out from a state asks for an attempt
abbrev pub effect_asks : Script → RunState → Layer → Bool
effect_asks script h (Statement-F.Alloc p v x) = is_some (within LARGEST_REQUEST (number_read h v))
effect_asks script h (Statement-F.Realloc p q v x) = realloc_asks h (pointer_read script h q) (within LARGEST_REQUEST (number_read h v))
effect_asks script h (Statement-F.NewText p v x) = is_some (within MOST_UNITS (number_read h v))
effect_asks script h (Statement-F.ReallocText p q v) = realloc_text_asks h (pointer_read script h q) (within MOST_UNITS (number_read h v))
effect_asks script h (Statement-F.New p class x) = true
effect_asks script h (Statement-F.Push p) = push_asks h
effect_asks script h (Statement-F.PushObject p) = push_asks h
effect_asks script h (Statement-F.PushOperation p operation) = push_asks h
effect_asks script h _ = false

-- the same of one whose operands may be refused, and then it asks for nothing
abbrev pub statement_asks : Script → RunState → Layer → Bool
statement_asks script h layer = not (is_some (operands_refusal h layer)) && effect_asks script h layer
