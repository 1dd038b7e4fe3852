-- What attempts come to, from the state of a run on.
use Rattle.std.proofs.Common.{◌≡◌, ℕ, ◌-◌, true, false, List, refl, ap, ◌∙◌, sym, Option, Some, None}
use Rattle.wb_heap_model.specs.declared.heap.Ptr.{Ptr}
use Rattle.wb_heap_model.specs.declared.heap.Kind.{Kind}
use Rattle.wb_heap_model.specs.declared.heap.Kind.TheVariants.{Raw, Object, Text, Cleanup}
use Rattle.wb_heap_model.specs.declared.heap.Header.{Header}
use Rattle.wb_heap_model.specs.declared.heap.Rule.{Rule}
use Rattle.wb_heap_model.specs.declared.heap.Answer.{Answer}
use Rattle.wb_heap_model.specs.declared.heap.Answer.TheVariants.{Granted, Simulated, Refused}
use Rattle.wb_heap_model.specs.declared.heap.Gave.{Gave}
use Rattle.wb_heap_model.specs.declared.heap.Gave.TheVariants as G
use Rattle.wb_tree.specs.declared.script.Script.{Script}
use Rattle.wb_heap_model.specs.Placement.{place_to_grow_to, place_to_put}
use Rattle.wb_heap_model.specs.Row.{Cell, inserted, without, pointer_to, cell_length}
use Rattle.wb_heap_model.specs.Rules.{Request, answer_to}
use Rattle.wb_heap_model.specs.Heap.{Heap, AfterAnswer, attempt_counted, new_cell, moved, alloc_request, after_alloc, realloc_request, after_realloc}
use Rattle.wb_heap_model.specs.Space.{space_of, space_below, bound_below, limit_under}
use Rattle.wb_heap_model.specs.Contents.{Content}
use Rattle.wb_meaning.specs.State.{State, Way, Process, stops, is_cut, and_then, set_heap}
use Rattle.wb_meaning.specs.declared.run.Why.TheVariants.{Ceiling}
use Rattle.wb_meaning.specs.Attempts.{attempt, allocate, resized, reallocate_longer}
use Rattle.wb_meaning.specs.Account.{stopped, Settled, settled, on_answer, recorded}
use Rattle.wb_heap_model.specs.CellRow.{resized_words}
use Rattle.wb_heap_model.specs.LimitedHeap.{zero_words}
use Rattle.wb_heap_model.specs.Debug.{number_of_next, made_by, gave_of, shorter_made}
use Rattle.wb_heap_model.specs.Spelling.{read_as}
use Rattle.wb_machine.specs.RunState.{RunState, field_count, read_cell, read_row, read_heap, state_of, account_of, with_debug}
use Rattle.wb_machine.specs.Flow.{flow}
use Rattle.wb_machine.proofs.kept.Rows.{headers_read, read_inserted, read_without, read_resized}

-- what follows what an attempt gave
abbrev pub followed : Gave → (Option Ptr → State → Process) → State → Process
followed (G.Granted p) go st = go (Some p) st
followed G.Denied go st = go None st
followed G.Ceiling go st = stops (is_cut Ceiling) st

-- the same where the ceiling shows another state
abbrev pub followed_or : State → Gave → (Option Ptr → State → Process) → State → Process
followed_or cut (G.Granted p) go st = go (Some p) st
followed_or cut G.Denied go st = go None st
followed_or cut G.Ceiling go st = stops (is_cut Ceiling) cut

-- what an answer makes of words reads as what it makes of contents
pub record ReadsAs (script : Script) (after : ℕ → Answer → AfterAnswer (List ℕ)) (read : ℕ → Answer → AfterAnswer Content) : Type 0 where
  pub heap : (n : ℕ) (a : Answer) → read_heap script (after n a).heap ≡ (read n a).heap
  pub given : (n : ℕ) (a : Answer) → (after n a).given ≡ (read n a).given

-- an attempt comes to what follows its answer, whatever state the ceiling shows
pub attempted_or : (r : Rule) (script : Script) (h : RunState) (cut : State) (t : Request) (after : ℕ → Answer → AfterAnswer (List ℕ)) (read : ℕ → Answer → AfterAnswer Content)
    (go : Option Ptr → State → Process) (k : Way → State → Process) (o : Option Answer) →
    ReadsAs script after read → answer_to r (number_of_next h.debug) t ≡ o → limit_under r ≡ limit_under h.debug.rule →
    flow r (and_then (attempt t read cut (state_of script h) go) k) h
    ≡ flow r (and_then (followed_or cut (made_by h.debug t after o).gave go (state_of script (with_debug h (made_by h.debug t after o).debug))) k) (with_debug h (made_by h.debug t after o).debug)
unfolding flow attempt and_then
attempted_or r script h cut t after read go k o reads answer limit =
    ap F answer ∙ by o
  where
    st : State
    st = state_of script h

    n : ℕ
    n = number_of_next h.debug

    G : ℕ → Option Answer → Settled
    G m o = on_answer o (record { end = stopped (is_cut Ceiling); state = cut; account = account_of h })
        (λ w. settled r (space_of r h.debug.shape) (and_then (go (read m w).given (set_heap st (read m w).heap)) k) (recorded (space_of r h.debug.shape) m t w (account_of h)))

    F : Option Answer → Settled
    F o = G n o

    counted : Answer → RunState
    counted w = with_debug h (made_by h.debug t after (Some w)).debug

    follows : (w : Answer) (g : Option Ptr) →
        settled r (space_of r h.debug.shape) (and_then (go g (state_of script (counted w))) k) (account_of (counted w))
        ≡ settled r (space_of r h.debug.shape) (and_then (followed_or cut (gave_of g) go (state_of script (counted w))) k) (account_of (counted w))
    follows w None = refl
    follows w (Some p) = refl

    by : (o : Option Answer) → F o
        ≡ settled r (space_of r (made_by h.debug t after o).debug.shape) (and_then (followed_or cut (made_by h.debug t after o).gave go (state_of script (with_debug h (made_by h.debug t after o).debug))) k) (account_of (with_debug h (made_by h.debug t after o).debug))
    by None = refl
    by (Some w) =
        ap (λ g. settled r (space_of r h.debug.shape) (and_then (go g (set_heap st (read n w).heap)) k) (recorded (space_of r h.debug.shape) n t w (account_of h))) (sym (reads.given n w))
        ∙ ap (λ x. settled r (space_of r h.debug.shape) (and_then (go (after n w).given (set_heap st x)) k) (recorded (space_of r h.debug.shape) n t w (account_of h))) (sym (reads.heap n w))
        ∙ ap (λ b. settled r (space_of r h.debug.shape) (and_then (go (after n w).given (state_of script (counted w))) k) (recorded (space_below (bound_below b) h.debug.shape) n t w (account_of h))) limit
        ∙ follows w (after n w).given

-- the state that it shows is mostly the one before the attempt
pub as_followed : (script : Script) (h : RunState) (t : Request) (after : ℕ → Answer → AfterAnswer (List ℕ)) (go : Option Ptr → State → Process) (o : Option Answer) →
    let made = made_by h.debug t after o in
    followed_or (state_of script h) made.gave go (state_of script (with_debug h made.debug)) ≡ followed made.gave go (state_of script (with_debug h made.debug))
as_followed script h t after go None = refl
as_followed script h t after go (Some w) = by (after (number_of_next h.debug) w).given
  where
    by : (g : Option Ptr) → followed_or (state_of script h) (gave_of g) go (state_of script (with_debug h (made_by h.debug t after (Some w)).debug))
        ≡ followed (gave_of g) go (state_of script (with_debug h (made_by h.debug t after (Some w)).debug))
    by None = refl
    by (Some p) = refl

pub attempted : (r : Rule) (script : Script) (h : RunState) (t : Request) (after : ℕ → Answer → AfterAnswer (List ℕ)) (read : ℕ → Answer → AfterAnswer Content)
    (go : Option Ptr → State → Process) (k : Way → State → Process) (o : Option Answer) →
    ReadsAs script after read → answer_to r (number_of_next h.debug) t ≡ o → limit_under r ≡ limit_under h.debug.rule →
    flow r (and_then (attempt t read (state_of script h) (state_of script h) go) k) h
    ≡ flow r (and_then (followed (made_by h.debug t after o).gave go (state_of script (with_debug h (made_by h.debug t after o).debug))) k) (with_debug h (made_by h.debug t after o).debug)
attempted r script h t after read go k o reads answer limit =
    attempted_or r script h (state_of script h) t after read go k o reads answer limit
    ∙ ap (λ p. flow r (and_then p k) (with_debug h (made_by h.debug t after o).debug)) (as_followed script h t after go o)

-- the cell that a grant inserts
reads_alloc : (script : Script) (heap : Heap (List ℕ)) (t : Request) (kind : Kind) (ws : List ℕ) (fresh : Content) → read_as (field_count script) kind ws ≡ fresh →
    ReadsAs script (after_alloc heap t kind ws) (after_alloc (read_heap script heap) t kind fresh)
reads_alloc script heap t kind ws fresh is = record { heap = λ n a. row n a; given = λ n a. same n a }
  where
    row : (n : ℕ) (a : Answer) → read_heap script (after_alloc heap t kind ws n a).heap ≡ (after_alloc (read_heap script heap) t kind fresh n a).heap
    row n Granted =
        ap (λ (cells : List (Cell Content)). record (attempt_counted (read_heap script heap)) { row = cells })
        (read_inserted script (new_cell heap n t kind ws) heap.row
        ∙ ap (λ content. inserted (new_cell (read_heap script heap) n t kind content) (read_row script heap.row)) is)
    row n Simulated = refl
    row n Refused = refl

    same : (n : ℕ) (a : Answer) → (after_alloc heap t kind ws n a).given ≡ (after_alloc (read_heap script heap) t kind fresh n a).given
    same n Granted = refl
    same n Simulated = refl
    same n Refused = refl

-- an allocation of a cell that is to have these words comes to what follows its answer
pub allocated_with : (r : Rule) (script : Script) (h : RunState) (bytes : ℕ) (kind : Kind) (ws : List ℕ) (fresh : Content) (go : Option Ptr → State → Process) (k : Way → State → Process) (o : Option Answer) →
    read_as (field_count script) kind ws ≡ fresh → answer_to r (number_of_next h.debug) (alloc_request h.debug.heap bytes) ≡ o →
    limit_under r ≡ limit_under h.debug.rule →
    let made = made_by h.debug (alloc_request h.debug.heap bytes) (after_alloc h.debug.heap (alloc_request h.debug.heap bytes) kind ws) o in
    flow r (and_then (allocate bytes kind fresh (state_of script h) go) k) h
    ≡ flow r (and_then (followed made.gave go (state_of script (with_debug h made.debug))) k) (with_debug h made.debug)
unfolding allocate
allocated_with r script h bytes kind ws fresh go k o is answer limit =
    let t = alloc_request h.debug.heap bytes in
    let st = state_of script h in
    let same : alloc_request st.heap bytes ≡ t = ap (λ hs. record t { place = place_to_put h.debug.heap.placement hs (cell_length bytes) }) (headers_read script h.debug.heap.row) in
    ap (λ (t : Request). flow r (and_then (attempt t (after_alloc st.heap t kind fresh) st st go) k) h) same
    ∙ attempted r script h t (after_alloc h.debug.heap t kind ws) (after_alloc st.heap t kind fresh) go k o (reads_alloc script h.debug.heap t kind ws fresh is) answer limit

-- of one whose words are zeros
pub allocated : (r : Rule) (script : Script) (h : RunState) (bytes : ℕ) (kind : Kind) (fresh : Content) (go : Option Ptr → State → Process) (k : Way → State → Process) (o : Option Answer) →
    read_as (field_count script) kind (zero_words (cell_length bytes)) ≡ fresh → answer_to r (number_of_next h.debug) (alloc_request h.debug.heap bytes) ≡ o →
    limit_under r ≡ limit_under h.debug.rule →
    let t = alloc_request h.debug.heap bytes in
    let made = made_by h.debug t (after_alloc h.debug.heap t kind (zero_words t.length)) o in
    flow r (and_then (allocate bytes kind fresh (state_of script h) go) k) h
    ≡ flow r (and_then (followed made.gave go (state_of script (with_debug h made.debug))) k) (with_debug h made.debug)
allocated r script h bytes kind fresh go k o is answer limit = allocated_with r script h bytes kind (zero_words (cell_length bytes)) fresh go k o is answer limit

-- the words of a cell of another length read as what the content becomes
abbrev pub ReadsResized : Script → Kind → ℕ → List ℕ → Type 0
ReadsResized script kind bytes ws =
    read_as (field_count script) kind (resized_words (cell_length bytes) ws) ≡ resized (cell_length bytes - 16) (read_as (field_count script) kind ws)

-- the words of a Raw cell of another length
pub resized_content : (script : Script) (kind : Kind) (bytes : ℕ) (ws : List ℕ) → kind ≡ Raw →
    read_as (field_count script) kind (resized_words (cell_length bytes) ws) ≡ resized (cell_length bytes - 16) (read_as (field_count script) kind ws)
resized_content script Raw bytes ws raw = read_resized (field_count script) (cell_length bytes) ws
resized_content script (Object class) bytes ws raw = cc
resized_content script Text bytes ws raw = cc
resized_content script Cleanup bytes ws raw = cc

-- the row with a cell in the place of another
replaced : (script : Script) (p : Ptr) (head : Header) (ws : List ℕ) (content : Content) (row : List (Cell (List ℕ))) → read_as (field_count script) head.kind ws ≡ content →
    read_row script (inserted (record { head = head; content = ws }) (without p row)) ≡ inserted (record { head = head; content = content }) (without p (read_row script row))
replaced script p head ws content row is =
    read_inserted script (record { head = head; content = ws }) (without p row)
    ∙ ap (λ x. inserted (record { head = head; content = x }) (read_row script (without p row))) is
    ∙ ap (λ (cells : List (Cell Content)). inserted (record { head = head; content = content }) cells) (read_without script p row)

-- the cell that a reallocation makes longer
reads_longer : (script : Script) (heap : Heap (List ℕ)) (c : Cell (List ℕ)) (bytes : ℕ) (t : Request) → ReadsResized script c.head.kind bytes c.content →
    ReadsAs script (after_realloc heap t c.head (resized_words (cell_length bytes) c.content))
    (after_realloc (read_heap script heap) t c.head (resized (cell_length bytes - 16) (read_cell script c).content))
reads_longer script heap c bytes t reads = record { heap = λ n a. row n a; given = λ n a. same n a }
  where
    row : (n : ℕ) (a : Answer) → read_heap script (after_realloc heap t c.head (resized_words (cell_length bytes) c.content) n a).heap
        ≡ (after_realloc (read_heap script heap) t c.head (resized (cell_length bytes - 16) (read_cell script c).content) n a).heap
    row n Granted =
        ap (λ (cells : List (Cell Content)). record (attempt_counted (read_heap script heap)) { row = cells })
        (replaced script (pointer_to c.head) (moved heap.placement c.head n t) (resized_words (cell_length bytes) c.content) _ heap.row reads)
    row n Simulated = refl
    row n Refused = refl

    same : (n : ℕ) (a : Answer) → (after_realloc heap t c.head (resized_words (cell_length bytes) c.content) n a).given
        ≡ (after_realloc (read_heap script heap) t c.head (resized (cell_length bytes - 16) (read_cell script c).content) n a).given
    same n Granted = refl
    same n Simulated = refl
    same n Refused = refl

-- a reallocation to a longer cell comes to what follows its answer, whatever state the ceiling shows
pub made_longer_or : (r : Rule) (script : Script) (h : RunState) (cut : State) (c : Cell (List ℕ)) (bytes : ℕ) (go : Option Ptr → State → Process) (k : Way → State → Process) (o : Option Answer) →
    ReadsResized script c.head.kind bytes c.content → answer_to r (number_of_next h.debug) (realloc_request h.debug.heap c.head bytes) ≡ o → limit_under r ≡ limit_under h.debug.rule →
    let t = realloc_request h.debug.heap c.head bytes in
    let made = made_by h.debug t (after_realloc h.debug.heap t c.head (resized_words t.length c.content)) o in
    flow r (and_then (reallocate_longer true (read_cell script c) bytes cut (state_of script h) go) k) h
    ≡ flow r (and_then (followed_or cut made.gave go (state_of script (with_debug h made.debug))) k) (with_debug h made.debug)
unfolding reallocate_longer
made_longer_or r script h cut c bytes go k o reads answer limit =
    let t = realloc_request h.debug.heap c.head bytes in
    let st = state_of script h in
    let content = resized (cell_length bytes - 16) (read_cell script c).content in
    let same : realloc_request st.heap c.head bytes ≡ t = ap (λ hs. record t { place = place_to_grow_to h.debug.heap.placement hs c.head (cell_length bytes) }) (headers_read script h.debug.heap.row) in
    ap (λ (t : Request). flow r (and_then (attempt t (after_realloc st.heap t c.head content) cut st go) k) h) same
    ∙ attempted_or r script h cut t (after_realloc h.debug.heap t c.head (resized_words t.length c.content)) (after_realloc st.heap t c.head content) go k o
    (reads_longer script h.debug.heap c bytes t reads) answer limit

-- the state that it shows is mostly the one before
pub made_longer : (r : Rule) (script : Script) (h : RunState) (c : Cell (List ℕ)) (bytes : ℕ) (go : Option Ptr → State → Process) (k : Way → State → Process) (o : Option Answer) →
    ReadsResized script c.head.kind bytes c.content → answer_to r (number_of_next h.debug) (realloc_request h.debug.heap c.head bytes) ≡ o → limit_under r ≡ limit_under h.debug.rule →
    let t = realloc_request h.debug.heap c.head bytes in
    let made = made_by h.debug t (after_realloc h.debug.heap t c.head (resized_words t.length c.content)) o in
    flow r (and_then (reallocate_longer true (read_cell script c) bytes (state_of script h) (state_of script h) go) k) h
    ≡ flow r (and_then (followed made.gave go (state_of script (with_debug h made.debug))) k) (with_debug h made.debug)
made_longer r script h c bytes go k o reads answer limit =
    let t = realloc_request h.debug.heap c.head bytes in
    let after = after_realloc h.debug.heap t c.head (resized_words t.length c.content) in
    made_longer_or r script h (state_of script h) c bytes go k o reads answer limit
    ∙ ap (λ p. flow r (and_then p k) (with_debug h (made_by h.debug t after o).debug)) (as_followed script h t after go o)

-- and one to a cell that isn't longer
pub made_shorter : (r : Rule) (script : Script) (h : RunState) (c : Cell (List ℕ)) (bytes : ℕ) (go : Option Ptr → State → Process) (k : Way → State → Process) →
    ReadsResized script c.head.kind bytes c.content →
    let made = shorter_made h.debug c bytes in
    flow r (and_then (reallocate_longer false (read_cell script c) bytes (state_of script h) (state_of script h) go) k) h
    ≡ flow r (and_then (followed made.gave go (state_of script (with_debug h made.debug))) k) (with_debug h made.debug)
unfolding reallocate_longer flow
made_shorter r script h c bytes go k reads =
    let st = state_of script h in
    let head = record c.head { length = cell_length bytes } in
    ap (λ (cells : List (Cell Content)). flow r (and_then (go (Some (pointer_to c.head)) (set_heap st (record st.heap { row = cells }))) k) h)
    (sym (replaced script (pointer_to c.head) head (resized_words (cell_length bytes) c.content) _ h.debug.heap.row reads))
