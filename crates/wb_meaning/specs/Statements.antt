-- What each statement means, and the destruction of items and objects. The operands of a clause are refused from left to
-- right, as they are in its text.
use Rattle.std.specs.Prelude.{ℕ, ℤ, pos, negsuc, suc, ◌+◌, ◌-◌, ◌*◌, ◌/◌, ◌+ℤ◌, List, [], ◌∷◌, ◌++◌, Bool, true, false, not, ◌&&◌, nat_eq, nat_le, nat_lt, int_lt, int_le, if◌then◌else◌, Option, Some, None, length, take, replicate, map, slice_get, slice_set, unwrap_or}
use Rattle.std.specs.Fmt.{signed_decimal}
use Rattle.wb_heap_model.specs.declared.heap.TheConstants.Panic.{BAD_CELL, WRONG_KIND, NUMBER_OUT_OF_RANGE, TOO_MANY_FRAMES, ITEMS_LEFT, SHORTER_THAN_TEXT, POP_BELOW_TRAP, ANOTHER_ITEM_ON_TOP}
use Rattle.wb_basics.specs.declared.limits.TheConstants.{MOST_TURNS, MOST_FRAMES, LARGEST_REQUEST, MOST_UNITS}
use Rattle.wb_heap_model.specs.declared.heap.TheConstants.{KERR_NO_MEMORY}
use Rattle.wb_heap_model.specs.declared.heap.Ptr.{Ptr}
use Rattle.wb_heap_model.specs.declared.heap.Kind.{Kind}
use Rattle.wb_heap_model.specs.declared.heap.Kind.TheVariants.{Raw, Object, Text}
use Rattle.wb_heap_model.specs.declared.heap.Item.{Item}
use Rattle.wb_heap_model.specs.declared.heap.Item.TheVariants as I
use Rattle.wb_heap_model.specs.declared.heap.Panic.{Panic}
use Rattle.wb_tree.specs.declared.script.Script.{Script}
use Rattle.wb_tree.specs.declared.script.Body.{Body}
use Rattle.wb_tree.specs.declared.script.Pointer.{Pointer}
use Rattle.wb_tree.specs.declared.script.Refusal.{Refusal}
use Rattle.wb_tree.specs.declared.script.Refusal.TheVariants.{GivesNull, Leaves}
use Rattle.wb_tree.specs.declared.script.Condition.{Condition}
use Rattle.wb_tree.specs.declared.script.Condition.TheVariants.{IsNull, NotNull, Equal, Less}
use Rattle.wb_tree.specs.declared.script.Argument.{Argument}
use Rattle.wb_tree.specs.declared.script.Argument.TheVariants.{Passed, Given}
use Rattle.wb_tree.specs.declared.script.StatementAt.{StatementAt}
use Rattle.wb_tree.specs.declared.script.Statement.{Statement}
use Rattle.wb_tree.specs.declared.script.Statement.TheOpen.{Statement-F}
use Rattle.wb_heap_model.specs.Row.{Cell, headers, cell_at, without, changed, usable_of, top_of, total_length}
use Rattle.wb_heap_model.specs.Rules.{never, next, each}
use Rattle.wb_heap_model.specs.Heap.{is_cleanup, after_mark, after_mark_end, mark_end_refusal, checked, cells_of_level, cells_of_all_levels}
use Rattle.wb_heap_model.specs.Texts.{at_most, insert_text, delete_text, set_length_text, left_part, right_part, mid_part, printed}
use Rattle.wb_heap_model.specs.Contents.{Content, words, fields, units, class_of}
use Rattle.wb_meaning.specs.State.{Value, pointer, number, initial, State, Way, goes_on, returns, leaves, panics, heap_note, available_note, compress_note, Process, ends, stops, notes, and_then, then_do, require, with_some, unless, set_heap, set_local, local_of, number_in}
use Rattle.wb_heap_model.specs.Pointers.{null, is_same_pointer, is_null, newest, item_pointer}
use Rattle.wb_meaning.specs.Operands.{number_of, within, not_negative, with_cell, with_pointer, set_pointer, set_row, raw_words_of, units_of}
use Rattle.wb_meaning.specs.Attempts.{allocate, reallocate, push}
use Rattle.wb_tree.specs.Bodies.{no_body, operation_at, procedure_at, class_at, payload_of_object}
use Rattle.wb_meaning.specs.Reading.{base_of, with_writable, with_readable, with_units, with_room, write, write_view, is_same_base}

-- what is still to do: statements, turns of a loop, the destruction of a number of items or of an object that isn't null
pub data Todo : Type 0 where
  all : List StatementAt → Todo
  turns : ℕ → List StatementAt → Todo
  destroy_items : ℕ → Todo
  destroy_object : Ptr → Todo

-- the number of frames, and of items at the entry of the innermost TRAP
pub record Context : Type 0 where
  pub depth : ℕ
  pub floor : ℕ

-- a meaning of pieces, which the clauses below are given for what is inside
abbrev pub Meaning : Type 0
Meaning = Context → Todo → State → Process

-- one level of a statement
abbrev pub Layer : Type 0
Layer = Statement-F Statement StatementAt

abbrev pub done : State → Process
done st = ends goes_on st

abbrev pub panic_with : Panic → State → Process
panic_with p st = stops (panics p) st

-- a target gets what was given, and else null or a leave with KErrNoMemory
unfoldable pub given_to : Pointer → Refusal → Option Ptr → State → Process
given_to target refusal (Some p) st = done (set_pointer st target p)
given_to target GivesNull None st = done (set_pointer st target null)
given_to target Leaves None st = ends (leaves KERR_NO_MEMORY) st

-- what a new Raw cell for a number of bytes holds
abbrev pub fresh_words : ℕ → Content
fresh_words bytes = words (replicate (4 * ((bytes + 15) / 16)) (pos 0))

-- `alloc` of a length in its range
unfoldable pub alloc_raw : Pointer → Refusal → ℕ → State → Process
alloc_raw target refusal bytes st = allocate bytes Raw (fresh_words bytes) st (given_to target refusal)

-- a cell is released, or the pointer was invalid
unfoldable pub released : Option (Cell Content) → Ptr → State → Process
released None p st = panic_with BAD_CELL st
released (Some c) p st = done (set_row st (without p st.heap.row))

-- a cell that can be released: any but the cleanup stack's own, which no pointer of a script names
abbrev pub of_script : Option (Cell Content) → Option (Cell Content)
of_script None = None
of_script (Some c) = if is_cleanup c.head.kind then None else Some c

-- `free`, and the end of an object's destruction
unfoldable pub release : Ptr → State → Process
release p st = elim (is_null p) [ true ↦ done st | false ↦ released (of_script (cell_at p st.heap.row)) p st ]

abbrev pub is_raw : Kind → Bool
is_raw Raw = true
is_raw _ = false

-- `realloc` of a pointer that isn't null
unfoldable pub realloc_raw : Pointer → Refusal → Ptr → ℤ → State → Process
realloc_raw target refusal old asked st =
    with_some (cell_at old st.heap.row) BAD_CELL st (λ c.
    require (is_raw c.head.kind) WRONG_KIND st (λ st.
    with_some (within LARGEST_REQUEST asked) NUMBER_OUT_OF_RANGE st (λ bytes.
    reallocate c bytes st st (given_to target refusal))))

-- `realloc`: of null it is an allocation
unfoldable pub realloc_of : Bool → Pointer → Refusal → Ptr → ℤ → State → Process
realloc_of true target refusal old asked st = with_some (within LARGEST_REQUEST asked) NUMBER_OUT_OF_RANGE st (λ bytes. alloc_raw target refusal bytes st)
realloc_of false target refusal old asked st = realloc_raw target refusal old asked st

-- the words of a Raw cell
unfoldable pub with_words : State → Ptr → (Cell Content → List ℤ → Process) → Process
with_words st p go = with_cell st p (λ c. with_some (raw_words_of c.head.kind c.content) WRONG_KIND st (go c))

-- an index of a payload with a number of usable bytes, in words
abbrev pub index_in : ℕ → ℤ → Option ℕ
index_in usable (pos i) = if nat_lt i (usable / 4) then Some i else None
index_in usable (negsuc i) = None

-- the numbers that an int holds
abbrev pub in_range : ℤ → Bool
in_range z = int_le (negsuc 2147483647) z && int_le z (pos 2147483647)

-- a body in a frame of its own, and the caller's frame afterwards; the 129th frame is refused
unfoldable pub in_frame : Meaning → Context → Ptr → List Value → Body → State → (Way → State → Process) → Process
in_frame rec at this given body st go =
    require (nat_lt at.depth MOST_FRAMES) TOO_MANY_FRAMES st (λ st.
    and_then
    (rec (record at { depth = at.depth + 1 }) (all body.statements)
    (record st { frame = record { this = this; locals = given ++ map initial body.locals } }))
    (λ way after. go way (record after { frame = st.frame })))

-- a body that runs out, or returns, is a plain end
unfoldable pub plain : (Ptr → State → Process) → Way → State → Process
plain go goes_on st = go null st
plain go (returns p) st = go p st
plain go (leaves code) st = ends (leaves code) st

-- arguments, from left to right
unfoldable pub with_arguments : State → List Argument → (List Value → Process) → Process
with_arguments st [] go = go []
with_arguments st (Passed p ∷ rest) go = with_pointer st p (λ q. with_arguments st rest (λ vs. go (pointer q ∷ vs)))
with_arguments st (Given v ∷ rest) go = with_arguments st rest (λ vs. go (number (number_of st v) ∷ vs))

-- the class of a valid object
unfoldable pub with_class : State → Ptr → (ℕ → Process) → Process
with_class st p go = with_cell st p (λ c. with_some (class_of c.head.kind) WRONG_KIND st go)

abbrev pub drop_newest : ℕ → State → State
drop_newest n st = record st { items = take (length st.items - n) st.items }

-- at least a number of items are above the entry of the innermost TRAP
abbrev pub has_above : Context → State → ℕ → Bool
has_above at st n = nat_le (at.floor + n) (length st.items)

-- null: nothing
unfoldable pub destroyed_object : Bool → Meaning → Context → Ptr → State → Process
destroyed_object true rec at p st = done st
destroyed_object false rec at p st = rec at (destroy_object p) st

-- the destruction of an item that was taken off
unfoldable pub destroyed_item : Script → Meaning → Context → Item → State → Process
destroyed_item script rec at (I.Free p) st = release p st
destroyed_item script rec at (I.Delete p) st = destroyed_object (is_null p) rec at p st
destroyed_item script rec at (I.Call p op) st =
    in_frame rec at null (pointer p ∷ []) (operation_at script op) st (plain (λ _ st. done st))

-- what a TRAP makes of its body's end; no `return` is inside one
unfoldable pub trapped : Meaning → Context → ℕ → ℕ → Way → State → Process
trapped rec at target entry goes_on st =
    require (nat_eq (length st.items) entry) ITEMS_LEFT st (λ st. done (set_local st target (number (pos 0))))
trapped rec at target entry (leaves code) st =
    then_do (rec at (destroy_items (length st.items - entry)) st) (λ st. done (set_local st target (number code)))
trapped rec at target entry (returns p) st = ends (returns p) st

unfoldable pub with_condition : State → Condition → (Bool → Process) → Process
with_condition st (IsNull p) go = with_pointer st p (λ q. go (is_null q))
with_condition st (NotNull p) go = with_pointer st p (λ q. go (not (is_null q)))
with_condition st (Equal v w) go = go (int_le (number_of st v) (number_of st w) && int_le (number_of st w) (number_of st v))
with_condition st (Less v w) go = go (int_lt (number_of st v) (number_of st w))

abbrev pub choice : {A : Type 0} → Bool → A → A → A
choice true a b = a
choice false a b = b

unfoldable pub leave_if : Bool → ℤ → State → Process
leave_if true code st = ends (leaves code) st
leave_if false code st = done st

abbrev pub print_line : List ℕ → State → Process
print_line line st = done (record st { lines = st.lines ++ line ∷ [] })

-- `new`: all fields are null
unfoldable pub new_object : Script → Pointer → ℕ → Refusal → State → Process
new_object script target class refusal st =
    allocate (payload_of_object (class_at script class)) (Object class)
    (fields (replicate (length (class_at script class).fields) null)) st (given_to target refusal)

-- `hrealloc` of a valid text
unfoldable pub realloc_text : Pointer → Cell Content → List ℕ → ℕ → State → Process
realloc_text target c us count st =
    require (nat_le (length us) count) SHORTER_THAN_TEXT st (λ st. reallocate c (4 + 2 * count) st st (given_to target GivesNull))

abbrev pub set_setting : State → Rattle.wb_heap_model.specs.Rules.Setting → State
set_setting st s = set_heap st (record st.heap { setting = s })

-- a rate
abbrev pub at_least_one : ℤ → Option ℕ
at_least_one (pos (suc n)) = Some (suc n)
at_least_one _ = None

-- one statement that was begun; `rec` is the meaning of the pieces that it leaves to be done. Above each clause is the call
-- of the SDK that it is for; a line without one is this language's own.
unfoldable pub statement : Script → Meaning → Context → Layer → State → Process
-- User::Alloc, User::AllocL
statement script rec at (Statement-F.Alloc target bytes refusal) st =
    with_pointer st target (λ _. with_some (within LARGEST_REQUEST (number_of st bytes)) NUMBER_OUT_OF_RANGE st (λ n. alloc_raw target refusal n st))
-- User::ReAlloc, User::ReAllocL
statement script rec at (Statement-F.Realloc target source bytes refusal) st =
    with_pointer st target (λ _. with_pointer st source (λ old. realloc_of (is_null old) target refusal old (number_of st bytes) st))
-- User::Free
statement script rec at (Statement-F.Free source) st = with_pointer st source (λ old. release old st)
-- User::AllocLen
statement script rec at (Statement-F.AllocLen target source) st =
    with_pointer st source (λ p. with_some (cell_at p st.heap.row) BAD_CELL st (λ c. done (set_local st target (number (pos (usable_of c.head))))))
-- a write through a TInt32*
statement script rec at (Statement-F.Store destination index value) st =
    with_pointer st destination (λ p. with_words st p (λ c ws. with_some (index_in (usable_of c.head) (number_of st index)) NUMBER_OUT_OF_RANGE st (λ k.
    done (set_row st (changed p (λ _. words (slice_set ws k (number_of st value))) st.heap.row)))))
-- a read through a TInt32*
statement script rec at (Statement-F.Load target source index) st =
    with_pointer st source (λ p. with_words st p (λ c ws. with_some (index_in (usable_of c.head) (number_of st index)) NUMBER_OUT_OF_RANGE st (λ k.
    done (set_local st target (number (unwrap_or (slice_get ws k) (pos 0)))))))
-- new C, new (ELeave) C
statement script rec at (Statement-F.New target class refusal) st = with_pointer st target (λ _. new_object script target class refusal st)
-- ConstructL
statement script rec at (Statement-F.Construct object) st =
    with_pointer st object (λ this. with_class st this (λ class.
    in_frame rec at this [] (unwrap_or (class_at script class).construct no_body) st (plain (λ _ st. done st))))
-- delete
statement script rec at (Statement-F.Delete object) st = with_pointer st object (λ this. destroyed_object (is_null this) rec at this st)
statement script rec at (Statement-F.Set target source) st =
    with_pointer st target (λ _. with_pointer st source (λ p. done (set_pointer st target p)))
statement script rec at (Statement-F.SetNumber target value) st = done (set_local st target (number (number_of st value)))
statement script rec at (Statement-F.SetNull target) st = with_pointer st target (λ _. done (set_pointer st target null))
statement script rec at (Statement-F.Add target value) st =
    let sum = number_in (local_of st target) +ℤ number_of st value in
    require (in_range sum) NUMBER_OUT_OF_RANGE st (λ st. done (set_local st target (number sum)))
-- CleanupStack::PushL(TAny*)
statement script rec at (Statement-F.Push pushed) st = with_pointer st pushed (λ p. push (I.Free p) st)
-- CleanupStack::PushL(CBase*)
statement script rec at (Statement-F.PushObject pushed) st = with_pointer st pushed (λ p. push (I.Delete p) st)
-- CleanupStack::PushL(TCleanupItem)
statement script rec at (Statement-F.PushOperation pushed operation) st = with_pointer st pushed (λ p. push (I.Call p operation) st)
-- CleanupStack::Pop(TInt)
statement script rec at (Statement-F.Pop count) st =
    with_some (not_negative (number_of st count)) NUMBER_OUT_OF_RANGE st (λ n.
    require (has_above at st n) POP_BELOW_TRAP st (λ st. done (drop_newest n st)))
-- CleanupStack::PopAndDestroy(TInt)
statement script rec at (Statement-F.PopDestroy count) st =
    with_some (not_negative (number_of st count)) NUMBER_OUT_OF_RANGE st (λ n.
    require (has_above at st n) POP_BELOW_TRAP st (λ st. rec at (destroy_items n) st))
-- CleanupStack::Pop(TAny*); where an item is above the entry there is a newest one, so that the second refusal is never met
statement script rec at (Statement-F.PopCheck expected) st =
    with_pointer st expected (λ p. require (has_above at st 1) POP_BELOW_TRAP st (λ st.
    with_some (newest st.items) POP_BELOW_TRAP st (λ item.
    require (is_same_pointer (item_pointer item) p) ANOTHER_ITEM_ON_TOP st (λ st. done (drop_newest 1 st)))))
-- User::Leave
statement script rec at (Statement-F.Leave code) st = ends (leaves (number_of st code)) st
-- User::LeaveIfError
statement script rec at (Statement-F.LeaveIfError code) st = leave_if (int_lt (number_of st code) (pos 0)) (number_of st code) st
-- User::LeaveIfNull
statement script rec at (Statement-F.LeaveIfNull source) st = with_pointer st source (λ p. leave_if (is_null p) KERR_NO_MEMORY st)
statement script rec at (Statement-F.Call procedure arguments) st =
    with_arguments st arguments (λ given. in_frame rec at null given (procedure_at script procedure) st (plain (λ _ st. done st)))
statement script rec at (Statement-F.CallTo target procedure arguments) st =
    with_arguments st arguments (λ given.
    in_frame rec at null given (procedure_at script procedure) st (plain (λ result st. done (set_local st target (pointer result)))))
statement script rec at Statement-F.Return st = ends (returns null) st
statement script rec at (Statement-F.ReturnPointer source) st = with_pointer st source (λ p. ends (returns p) st)
-- __UHEAP_MARK
statement script rec at Statement-F.Mark st = done (set_heap st (after_mark st.heap))
-- __UHEAP_MARKEND, __UHEAP_MARKENDC
statement script rec at (Statement-F.MarkEnd count) st =
    with_some (not_negative (number_of st count)) NUMBER_OUT_OF_RANGE st (λ n.
    unless (mark_end_refusal st.heap n) st (λ st. done (set_heap st (after_mark_end st.heap))))
-- __UHEAP_CHECK
statement script rec at (Statement-F.Check count) st =
    with_some (not_negative (number_of st count)) NUMBER_OUT_OF_RANGE st (λ n.
    unless (checked (cells_of_level st.heap.level (headers st.heap.row)) n) st done)
-- __UHEAP_CHECKALL
statement script rec at (Statement-F.CheckAll count) st =
    with_some (not_negative (number_of st count)) NUMBER_OUT_OF_RANGE st (λ n. unless (checked (cells_of_all_levels (headers st.heap.row)) n) st done)
-- __UHEAP_FAILNEXT, with EFailNext
statement script rec at (Statement-F.FailNext rate) st =
    with_some (at_least_one (number_of st rate)) NUMBER_OUT_OF_RANGE st (λ n. done (set_setting st (next n)))
-- __UHEAP_SETFAIL with EDeterministic
statement script rec at (Statement-F.FailEvery rate) st =
    with_some (at_least_one (number_of st rate)) NUMBER_OUT_OF_RANGE st (λ n. done (set_setting st (each n n)))
-- __UHEAP_RESET, with ENone
statement script rec at Statement-F.FailNone st = done (set_setting st never)
-- HBufC16::New, HBufC16::NewL
statement script rec at (Statement-F.NewText target count refusal) st =
    with_pointer st target (λ _. with_some (within MOST_UNITS (number_of st count)) NUMBER_OUT_OF_RANGE st (λ n.
    allocate (4 + 2 * n) Text (units []) st (given_to target refusal)))
-- HBufC16::ReAlloc
statement script rec at (Statement-F.ReallocText target source count) st =
    with_pointer st target (λ _. with_pointer st source (λ old.
    with_cell st old (λ c. with_some (units_of c.head.kind c.content) WRONG_KIND st (λ us.
    with_some (within MOST_UNITS (number_of st count)) NUMBER_OUT_OF_RANGE st (λ n. realloc_text target c us n st)))))
-- TDes16::Copy
statement script rec at (Statement-F.Copy destination source) st =
    with_writable st destination (λ to. with_readable st source (λ from.
    with_room st to (λ max old. with_units script.literals st from (λ us. write (at_most max us) st to max))))
-- TDes16::Append
statement script rec at (Statement-F.Append destination source) st =
    with_writable st destination (λ to. with_readable st source (λ from.
    with_room st to (λ max old. with_units script.literals st from (λ us. write (at_most max (old ++ us)) st to max))))
-- TDes16::Insert
statement script rec at (Statement-F.Insert destination position source) st =
    with_writable st destination (λ to. with_readable st source (λ from.
    with_room st to (λ max old. with_units script.literals st from (λ us.
    with_some (not_negative (number_of st position)) NUMBER_OUT_OF_RANGE st (λ n.
    require (not (is_same_base to (base_of from))) NUMBER_OUT_OF_RANGE st (λ st. write (insert_text max old n us) st to max))))))
-- TDes16::Delete
statement script rec at (Statement-F.DeleteText destination position count) st =
    with_writable st destination (λ to. with_room st to (λ max old.
    with_some (not_negative (number_of st position)) NUMBER_OUT_OF_RANGE st (λ n.
    with_some (not_negative (number_of st count)) NUMBER_OUT_OF_RANGE st (λ m. write (delete_text old n m) st to max))))
-- TDes16::SetLength
statement script rec at (Statement-F.SetLength destination units_wanted) st =
    with_writable st destination (λ to. with_room st to (λ max old.
    with_some (not_negative (number_of st units_wanted)) NUMBER_OUT_OF_RANGE st (λ n. write (set_length_text max old n) st to max)))
-- TDesC16::Left
statement script rec at (Statement-F.Left target source count) st =
    with_readable st source (λ from. with_units script.literals st from (λ us.
    with_some (not_negative (number_of st count)) NUMBER_OUT_OF_RANGE st (λ n. write_view (left_part (length us) n) st target from)))
-- TDesC16::Right
statement script rec at (Statement-F.Right target source count) st =
    with_readable st source (λ from. with_units script.literals st from (λ us.
    with_some (not_negative (number_of st count)) NUMBER_OUT_OF_RANGE st (λ n. write_view (right_part (length us) n) st target from)))
-- TDesC16::Mid
statement script rec at (Statement-F.Mid target source position count) st =
    with_readable st source (λ from. with_units script.literals st from (λ us.
    with_some (not_negative (number_of st position)) NUMBER_OUT_OF_RANGE st (λ n.
    with_some (not_negative (number_of st count)) NUMBER_OUT_OF_RANGE st (λ m. write_view (mid_part (length us) n m) st target from))))
-- TDesC16::Length
statement script rec at (Statement-F.GetLength target source) st =
    with_readable st source (λ from. with_units script.literals st from (λ us. done (set_local st target (number (pos (length us))))))
-- TDes16::MaxLength
statement script rec at (Statement-F.GetMaximum target source) st =
    with_writable st source (λ of. with_room st of (λ max us. done (set_local st target (number (pos max)))))
statement script rec at (Statement-F.PrintText source) st =
    with_readable st source (λ from. with_units script.literals st from (λ us. print_line (printed us) st))
statement script rec at (Statement-F.PrintNumber value) st = print_line (signed_decimal (number_of st value)) st
-- RHeap::Count, RHeap::AllocSize
statement script rec at Statement-F.NoteHeap st =
    notes (heap_note (length st.heap.row) (total_length (headers st.heap.row))) (done st)
-- RHeap::Available
statement script rec at Statement-F.NoteAvailable st = notes (available_note (headers st.heap.row)) (done st)
-- RHeap::Compress
statement script rec at Statement-F.NoteCompress st = notes (compress_note (top_of (headers st.heap.row))) (done st)
statement script rec at (Statement-F.If condition first) st = with_condition st condition (λ b. rec at (all (choice b first [])) st)
statement script rec at (Statement-F.IfElse condition first other) st = with_condition st condition (λ b. rec at (all (choice b first other)) st)
statement script rec at (Statement-F.Repeat count body) st =
    with_some (within MOST_TURNS (number_of st count)) NUMBER_OUT_OF_RANGE st (λ n. rec at (turns n body) st)
-- TRAP
statement script rec at (Statement-F.Trap target body) st =
    let entry = length st.items in
    and_then (rec (record at { floor = entry }) (all body) st) (trapped rec at target entry)
