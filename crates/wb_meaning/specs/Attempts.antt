-- The attempts of a script, up to what the rule says: allocation, reallocation, and the growth of the cleanup stack.
use Rattle.std.specs.Prelude.{ℕ, pos, ◌+◌, ◌-◌, ◌*◌, ◌/◌, [], ◌∷◌, ◌++◌, Bool, true, false, nat_eq, nat_lt, Option, Some, None, length, take, replicate}
use Rattle.wb_heap_model.specs.declared.heap.TheConstants.{KERR_NO_MEMORY}
use Rattle.wb_heap_model.specs.declared.heap.Ptr.{Ptr}
use Rattle.wb_heap_model.specs.declared.heap.Item.{Item}
use Rattle.wb_heap_model.specs.declared.heap.Kind.{Kind}
use Rattle.wb_heap_model.specs.declared.heap.Answer.{Answer}
use Rattle.wb_heap_model.specs.Row.{Cell, cell_length}
use Rattle.wb_heap_model.specs.Rules.{Request}
use Rattle.wb_heap_model.specs.Heap.{AfterAnswer, alloc_request, after_alloc, realloc_request, after_realloc, shortened}
use Rattle.wb_heap_model.specs.Contents.{Content, words}
use Rattle.wb_meaning.specs.State.{State, Process, ends, asks, goes_on, leaves, set_heap}
use Rattle.wb_meaning.specs.Operands.{with_cell}

-- an attempt that is made, the state shown where the ceiling cuts the run there, and what follows from the heap after it and
-- the pointer given
unfoldable pub attempt : Request → (ℕ → Answer → AfterAnswer Content) → State → State → (Option Ptr → State → Process) → Process
attempt t after cut st go = asks t cut (λ number answer. let next = after number answer in go next.given (set_heap st next.heap))

unfoldable pub allocate : ℕ → Kind → Content → State → (Option Ptr → State → Process) → Process
allocate bytes kind fresh st go =
    let t = alloc_request st.heap bytes in
    attempt t (after_alloc st.heap t kind fresh) st st go

-- content that is cut or filled up with zeros for a new usable length
abbrev pub resized : ℕ → Content → Content
resized usable (words ws) = words (take (usable / 4) ws ++ replicate (usable / 4 - length ws) (pos 0))
resized usable c = c

unfoldable pub reallocate_longer : Bool → Cell Content → ℕ → State → State → (Option Ptr → State → Process) → Process
reallocate_longer true c bytes cut st go =
    let t = realloc_request st.heap c.head bytes in
    attempt t (after_realloc st.heap t c.head (resized (cell_length bytes - 16) c.content)) cut st go
reallocate_longer false c bytes cut st go =
    go (Some (record { place = c.head.place; number = c.head.number }))
    (set_heap st (shortened st.heap c.head (cell_length bytes) (resized (cell_length bytes - 16) c.content)))

-- a valid cell is reallocated, with the state shown where the ceiling cuts the run there
unfoldable pub reallocate : Cell Content → ℕ → State → State → (Option Ptr → State → Process) → Process
reallocate c bytes cut st go = reallocate_longer (nat_lt c.head.length (cell_length bytes)) c bytes cut st go

-- the stack after a growth that was granted or refused
unfoldable pub after_growth : Option Ptr → State → Process
after_growth (Some p) st = ends goes_on (record st { cleanup = p; slots = st.slots + 4 })
after_growth None st = ends (leaves KERR_NO_MEMORY) st

-- a stack that is full grows; where the ceiling cuts the run there, the state is the one before the push
unfoldable pub grow_if : Bool → State → State → Process
grow_if false before st = ends goes_on st
grow_if true before st = with_cell st st.cleanup (λ c. reallocate c (16 * (st.slots + 4)) before st after_growth)

-- a push appends the item, and grows a stack that is then full
unfoldable pub push : Item → State → Process
push item st =
    let pushed = record st { items = st.items ++ item ∷ [] } in
    grow_if (nat_eq (length pushed.items) st.slots) st pushed
