-- What is done to other cells leaves the cleanup stack as it is.
use Rattle.std.proofs.Common.{◌≡◌, ◌≢◌, ℕ, ◌-◌, Bool, true, false, not, cond, List, [], ◌∷◌, Option, Some, None, Result, Ok, Err, OnOk, OnErr, IsSome, IfSome, refl, sym, ap, ◌∙◌, subst, arith, length, ◌<◌}
use Rattle.std.specs.Prelude.{◌&&◌, nat_eq, nat_lt}
use Rattle.std.proofs.lemmas.Bool.{eqb-true, ne_eqb}
use Rattle.wb_heap_model.specs.declared.heap.Ptr.{Ptr}
use Rattle.wb_heap_model.specs.declared.heap.Header.{Header}
use Rattle.wb_heap_model.specs.declared.heap.Kind.{Kind}
use Rattle.wb_heap_model.specs.declared.heap.Kind.TheVariants.{Raw, Text, Object, Cleanup as CleanupKind}
use Rattle.wb_heap_model.specs.declared.heap.Answer.{Answer}
use Rattle.wb_heap_model.specs.declared.heap.Answer.TheVariants.{Granted, Simulated, Refused}
use Rattle.wb_heap_model.specs.Placement.{has_stayed}
use Rattle.wb_heap_model.specs.Row.{Cell, is_at, cell_at, cell_length, inserted, pointer_to, without}
use Rattle.wb_heap_model.specs.Texts.{Edited}
use Rattle.wb_heap_model.specs.TextCells.{IsTextAt, debug_edited}
use Rattle.wb_heap_model.specs.CellRow.{content_or_nil, payload_of, resized_words}
use Rattle.wb_heap_model.specs.Rules.{Request}
use Rattle.wb_heap_model.specs.Heap.{after_mark_end, after_realloc, is_cleanup, lower, lowered, moved, realloc_request}
use Rattle.wb_meaning.specs.Statements.{is_raw}
use Rattle.wb_heap_model.specs.Debug.{Debug, IsSoundDebug, alloc_made, answer_in, debug_changed, debug_without, longer_made, made_by, number_of_next, realloc_made, shorter_made, with_row}
use Rattle.wb_heap_model.proofs.Reallocations.{cell_at-inserted_other, at-own, not_at-number, pointer-at}
use Rattle.wb_heap_model.proofs.TextCellsHeap.{found-other}
use Rattle.wb_cleanup.specs.declared.cleanup.Cleanup.{Cleanup}
use Rattle.wb_cleanup.specs.Stacks.{IsStack, cell_of}
use Rattle.wb_cleanup.proofs.HeapBesideStack.{alloc-beside, old-number}
use Rattle.wb_cleanup.proofs.StackInHeap.{stack-kept}
use Rattle.wb_machine.specs.Owed.{KeepsCount}
use Rattle.wb_machine.specs.RunState.{RunState, with_debug}
use Rattle.wb_machine.specs.StackInvariant.{IsMemory, StandsIn, items_or_none}
use Rattle.wb_machine.specs.StateView.{run_state}
use Rattle.wb_machine.specs.declared.state.State.TheInside.{Inside}
use Rattle.wb_machine.proofs.kept.TextInvariant.{texts_edited}

-- a stack is in another heap with the items that it has
pub record Stays (o : Option Cleanup) (d e : Debug) : Type 0 where
  pub stands : StandsIn o e.heap.row
  pub items : items_or_none o e ≡ items_or_none o d

-- it does where its cell is the same
abbrev KeepsCell : Option Cleanup → Debug → Debug → Type 0
KeepsCell o d e = (stack : Cleanup) → IsStack stack d → cell_at (cell_of stack) e.heap.row ≡ cell_at (cell_of stack) d.heap.row

pub same_cell : (o : Option Cleanup) (d e : Debug) → StandsIn o d.heap.row → KeepsCell o d e → Stays o d e
same_cell None d e stands kept = record { stands = tt; items = refl }
same_cell (Some stack) d e stands kept =
    let is = stands d refl in
    let same = kept stack is in
    record {
      stands = λ g row. (stack-kept stack d g (ap (cell_at (cell_of stack)) row ∙ same) is).is;
      items = (stack-kept stack d e same is).items_are;
    }

pub stays_same : (o : Option Cleanup) (d e : Debug) → e ≡ d → StandsIn o d.heap.row → Stays o d e
stays_same o d e is stands = same_cell o d e stands (λ stack at. ap (λ (x : Debug). cell_at (cell_of stack) x.heap.row) is)

-- the state of a run with the heap that was left
pub seen_with : (s : Inside) (e : Debug) → Stays s.cleanup s.heap e → run_state (record s { heap = e }) ≡ with_debug (run_state s) e
seen_with s e stays = ap (λ items. record (run_state s) { debug = e; items = items }) stays.items

-- an allocation
pub allocated_beside : (o : Option Cleanup) (d e : Debug) (bytes : ℕ) (kind : Kind) → IsSoundDebug d → StandsIn o d.heap.row → e ≡ (alloc_made d bytes kind).debug → Stays o d e
allocated_beside None d e bytes kind sound stands made = record { stands = tt; items = refl }
allocated_beside (Some stack) d e bytes kind sound stands made =
    let is = stands d refl in
    let kept = alloc-beside stack d e bytes kind sound is made in
    record {
      stands = λ g row. (stack-kept stack e g (ap (cell_at (cell_of stack)) row) kept.is).is;
      items = kept.items_are;
    }

-- a cell of another kind has another pointer
apart : (stack : Cleanup) (p : Ptr) (d : Debug) (c : Cell (List ℕ)) → IsStack stack d → cell_at p d.heap.row ≡ Some c → is_cleanup c.head.kind ≡ false → cell_of stack ≢ p
apart stack p d c is found other same =
    let one : Some is.cell.cell ≡ Some c = sym is.cell.found ∙ ap (λ q. cell_at q d.heap.row) same ∙ found in
    let cell : is.cell.cell ≡ c = cc in
    let kind : is_cleanup c.head.kind ≡ true = ap (λ (x : Cell (List ℕ)). is_cleanup x.head.kind) (sym cell) ∙ ap is_cleanup is.cell.kind in
    cc

-- a pointer names the cell at it alone
not_at : (q p : Ptr) (h : Header) → is_at p h ≡ true → q ≢ p → is_at q h ≡ false
not_at q p h at other = by (is_at q h) refl
  where
    by : (b : Bool) → is_at q h ≡ b → b ≡ false
    by true there = absurd (other (sym (pointer-at q h there) ∙ pointer-at p h at))
    by false there = refl

-- a row but for another cell
found-without : (q p : Ptr) (row : List (Cell (List ℕ))) → q ≢ p → cell_at q (without p row) ≡ cell_at q row
found-without q p [] other = refl
found-without q p (d ∷ ds) other = by (is_at p d.head) refl (found-without q p ds other)
  where
    by : (b : Bool) → is_at p d.head ≡ b → cell_at q (without p ds) ≡ cell_at q ds →
        cell_at q (cond (not b) (d ∷ without p ds) (without p ds)) ≡ cond (is_at q d.head) (Some d) (cell_at q ds)
    by true at rest = rest ∙ sym (ap (λ b. cond b (Some d) (cell_at q ds)) (not_at q p d.head at other))
    by false at rest = ap (λ o. cond (is_at q d.head) (Some d) o) rest

-- what a pointer names is at it
found-at : (p : Ptr) (row : List (Cell (List ℕ))) (c : Cell (List ℕ)) → cell_at p row ≡ Some c → is_at p c.head ≡ true
found-at p [] c e = cc
found-at p (d ∷ ds) c e = by (is_at p d.head) refl e (found-at p ds c)
  where
    by : (b : Bool) → is_at p d.head ≡ b → cond b (Some d) (cell_at p ds) ≡ Some c → (cell_at p ds ≡ Some c → is_at p c.head ≡ true) → is_at p c.head ≡ true
    by true at found rest = let same : d ≡ c = cc in ap (λ (x : Cell (List ℕ)). is_at p x.head) (sym same) ∙ at
    by false at found rest = rest found

-- a release of another cell
pub released_beside : (o : Option Cleanup) (d : Debug) (p : Ptr) (c : Cell (List ℕ)) → StandsIn o d.heap.row → cell_at p d.heap.row ≡ Some c → is_cleanup c.head.kind ≡ false →
    Stays o d (with_row d (without p d.heap.row))
released_beside o d p c stands found other =
    same_cell o d _ stands (λ stack is. found-without (cell_of stack) p d.heap.row (apart stack p d c is found other))

-- other words of another cell
pub changed_beside : (o : Option Cleanup) (d : Debug) (p : Ptr) (c : Cell (List ℕ)) (ws : List ℕ) → StandsIn o d.heap.row → cell_at p d.heap.row ≡ Some c → is_cleanup c.head.kind ≡ false →
    Stays o d (debug_changed d p ws)
changed_beside o d p c ws stands found other =
    same_cell o d _ stands (λ stack is. found-other p (cell_of stack) ws d.heap.row (apart stack p d c is found other))

-- of an object
pub field_beside : (o : Option Cleanup) (d e : Debug) (p : Ptr) (ws : List ℕ) (c : Cell (List ℕ)) (class : ℕ) → StandsIn o d.heap.row → cell_at p d.heap.row ≡ Some c → c.head.kind ≡ Object class →
    e ≡ debug_changed d p ws → Stays o d e
field_beside o d e p ws c class stands found kind put = subst (Stays o d) (sym put) (changed_beside o d p c ws stands found (ap is_cleanup kind))

-- a cell in the place of another one
found-replaced : (q p : Ptr) (c : Cell (List ℕ)) (row : List (Cell (List ℕ))) → is_at q c.head ≡ false → q ≢ p → cell_at q (inserted c (without p row)) ≡ cell_at q row
found-replaced q p c row off other = cell_at-inserted_other q c (without p row) off ∙ found-without q p row other

-- a reallocation of another cell
pub reallocated_beside : (o : Option Cleanup) (d : Debug) (p : Ptr) (c : Cell (List ℕ)) (bytes : ℕ) → IsSoundDebug d → StandsIn o d.heap.row → cell_at p d.heap.row ≡ Some c →
    is_cleanup c.head.kind ≡ false → Stays o d (realloc_made d c bytes).debug
reallocated_beside o d p c bytes sound stands found other = same_cell o d _ stands (λ stack is. by stack is (nat_lt c.head.length (cell_length bytes)))
  where
    t : Request
    t = realloc_request d.heap c.head bytes

    named : pointer_to c.head ≡ p
    named = pointer-at p c.head (found-at p d.heap.row c found)

    here : (head : Header) → pointer_to head ≡ p → is_at p head ≡ true
    here head is = subst (λ q. is_at q head ≡ true) is (at-own head)

    replaced : (stack : Cleanup) → IsStack stack d → (new : Cell (List ℕ)) → is_at (cell_of stack) new.head ≡ false →
        cell_at (cell_of stack) (inserted new (without (pointer_to c.head) d.heap.row)) ≡ cell_at (cell_of stack) d.heap.row
    replaced stack is new off =
        found-replaced (cell_of stack) (pointer_to c.head) new d.heap.row off (λ same. apart stack p d c is found other (same ∙ named))

    placed : (stack : Cleanup) → IsStack stack d → (b : Bool) → has_stayed d.heap.placement c.head t.place ≡ b →
        is_at (cell_of stack) (record c.head { place = t.place; length = t.length; number = cond b c.head.number (number_of_next d) }) ≡ false
    placed stack is true stayed =
        let same : nat_eq t.place c.head.place ≡ true = sym (ap (λ w. has_stayed w c.head t.place) sound.placed) ∙ stayed in
        let head : Header = record c.head { place = t.place; length = t.length } in
        not_at (cell_of stack) p head (here head (ap (λ n. record { place = n; number = c.head.number }) (eqb-true t.place c.head.place same) ∙ named)) (apart stack p d c is found other)
    placed stack is false off =
        not_at-number (cell_of stack) (record c.head { place = t.place; length = t.length; number = number_of_next d }) (old-number (cell_of stack) d is.cell.cell sound is.cell.found)

    answered : (stack : Cleanup) → IsStack stack d → (o : Option Answer) →
        cell_at (cell_of stack) (made_by d t (after_realloc d.heap t c.head (resized_words t.length c.content)) o).debug.heap.row ≡ cell_at (cell_of stack) d.heap.row
    answered stack is None = refl
    answered stack is (Some Simulated) = refl
    answered stack is (Some Refused) = refl
    answered stack is (Some Granted) =
        replaced stack is (record { head = moved d.heap.placement c.head (number_of_next d) t; content = resized_words t.length c.content }) (placed stack is (has_stayed d.heap.placement c.head t.place) refl)

    by : (stack : Cleanup) → IsStack stack d → (b : Bool) →
        cell_at (cell_of stack) (cond b (longer_made d c bytes) (shorter_made d c bytes)).debug.heap.row ≡ cell_at (cell_of stack) d.heap.row
    by stack is true = answered stack is (answer_in d t)
    by stack is false =
        let head = record c.head { length = cell_length bytes } in
        replaced stack is (record { head = head; content = resized_words (cell_length bytes) c.content })
        (not_at (cell_of stack) p head (here head named) (apart stack p d c is found other))

-- levels that go down by one: never that of the stack's cell
kept_level : (level : ℕ) (c : Cell (List ℕ)) → is_cleanup c.head.kind ≡ true → record c { head = lower level c.head } ≡ c
kept_level level c own = by (nat_eq c.head.level level) (is_cleanup c.head.kind) own
  where
    by : (a b : Bool) → b ≡ true → record c { head = cond (a && not b) (record c.head { level = level - 1 }) c.head } ≡ c
    by true true e = refl
    by false true e = refl
    by a false e = cc

at_lowered : (p : Ptr) (level : ℕ) (h : Header) → is_at p (lower level h) ≡ is_at p h
at_lowered p level h = by (nat_eq h.level level && not (is_cleanup h.kind))
  where
    by : (b : Bool) → is_at p (cond b (record h { level = level - 1 }) h) ≡ is_at p h
    by true = refl
    by false = refl

found-lowered : (p : Ptr) (level : ℕ) (row : List (Cell (List ℕ))) (c : Cell (List ℕ)) → cell_at p row ≡ Some c → is_cleanup c.head.kind ≡ true → cell_at p (lowered level row) ≡ Some c
found-lowered p level [] c e own = cc
found-lowered p level (d ∷ ds) c e own =
    ap (λ b. cond b (Some (record d { head = lower level d.head })) (cell_at p (lowered level ds))) (at_lowered p level d.head)
    ∙ by (is_at p d.head) e (λ found. found-lowered p level ds c found own)
  where
    by : (b : Bool) → cond b (Some d) (cell_at p ds) ≡ Some c → (cell_at p ds ≡ Some c → cell_at p (lowered level ds) ≡ Some c) →
        cond b (Some (record d { head = lower level d.head })) (cell_at p (lowered level ds)) ≡ Some c
    by true found rest =
        let same : d ≡ c = cc in
        ap (λ (x : Cell (List ℕ)). Some (record x { head = lower level x.head })) same ∙ ap (λ x. Some x) (kept_level level c own)
    by false found rest = rest found

pub lowered_beside : (o : Option Cleanup) (d e : Debug) (level : ℕ) → StandsIn o d.heap.row → e.heap.row ≡ lowered level d.heap.row → Stays o d e
lowered_beside o d e level stands is =
    same_cell o d e stands (λ stack at.
    ap (cell_at (cell_of stack)) is ∙ found-lowered (cell_of stack) level d.heap.row at.cell.cell at.cell.found (ap is_cleanup at.cell.kind) ∙ sym at.cell.found)

-- a text of another cell that is edited
pub edited_beside : (o : Option Cleanup) (d : Debug) (p : Ptr) (e : Edited) → StandsIn o d.heap.row → IsTextAt p d → Stays o d (debug_edited d p e)
edited_beside o d p (Err panic) stands at = stays_same o d d refl stands
edited_beside o d p (Ok us) stands at = changed_beside o d p at.cell _ stands at.found (ap is_cleanup at.kind)

-- a call on the heap that made of it what the stack stays in, or left it
pub called_beside : {X Y : Type 0} (r : Result X Y) (o : Option Cleanup) (d made e : Debug) → StandsIn o d.heap.row → Stays o d made → OnOk r (e ≡ made) → OnErr r (e ≡ d) → Stays o d e
called_beside (Ok x) o d made e stands stays ok err = subst (λ (x : Debug). Stays o d x) (sym ok) stays
called_beside (Err y) o d made e stands stays ok err = stays_same o d e err stands

-- the state of a run once the heap was changed beside the stack
pub becomes : (s : Inside) (h : RunState) (e : Debug) (f : Debug → Debug) → run_state s ≡ h → Stays s.cleanup s.heap e → e ≡ f s.heap →
    run_state (record s { heap = e }) ≡ with_debug h (f h.debug)
becomes s h e f seen stays is = seen_with s e stays ∙ ap (with_debug (run_state s)) is ∙ ap (λ (x : RunState). with_debug x (f x.debug)) seen

-- the same of a call that may have refused
pub becomes_ok : {X Y : Type 0} (r : Result X Y) (s : Inside) (h : RunState) (e : Debug) (f : Debug → Debug) → run_state s ≡ h → Stays s.cleanup s.heap e → OnOk r (e ≡ f s.heap) →
    OnOk r (run_state (record s { heap = e }) ≡ with_debug h (f h.debug))
becomes_ok (Ok x) s h e f seen stays is = becomes s h e f seen stays is
becomes_ok (Err y) s h e f seen stays is = is

-- and of a call on a cell that is there
pub becomes_found : {X Y : Type 0} (r : Result X Y) (s : Inside) (h : RunState) (p : Ptr) (e : Debug) (f : Cell (List ℕ) → Debug → Debug) → run_state s ≡ h →
    Stays s.cleanup s.heap e → OnOk r (IfSome (cell_at p s.heap.heap.row) (λ c. e ≡ f c s.heap)) →
    OnOk r (IfSome (cell_at p h.debug.heap.row) (λ c. run_state (record s { heap = e }) ≡ with_debug h (f c h.debug)))
becomes_found {X} {Y} r s h p e f seen stays is =
    subst (λ (x : RunState). OnOk r (IfSome (cell_at p x.debug.heap.row) (λ c. run_state (record s { heap = e }) ≡ with_debug x (f c x.debug)))) seen
    (by r (cell_at p s.heap.heap.row) is)
  where
    by : (r : Result X Y) (o : Option (Cell (List ℕ))) → OnOk r (IfSome o (λ c. e ≡ f c s.heap)) →
        OnOk r (IfSome o (λ c. run_state (record s { heap = e }) ≡ with_debug (run_state s) (f c s.heap)))
    by (Ok x) (Some c) is = seen_with s e stays ∙ ap (with_debug (run_state s)) is
    by (Ok x) None is = is
    by (Err y) o is = is

-- a reallocation of a cell that is there, which may have found no memory
pub remade_beside : {X Y : Type 0} (r : Result X Y) (o : Option Cleanup) (d e : Debug) (p : Ptr) (found : Option (Cell (List ℕ))) (bytes : ℕ) → cell_at p d.heap.row ≡ found →
    IsSoundDebug d → StandsIn o d.heap.row → IsSome found → IfSome found (λ c. is_cleanup c.head.kind ≡ false) →
    OnOk r (IfSome found (λ c. e ≡ (realloc_made d c bytes).debug)) → OnErr r (e ≡ d) → Stays o d e
remade_beside r o d e p None bytes at sound stands live other ok err = cc
remade_beside r o d e p (Some c) bytes at sound stands live other ok err =
    called_beside r o d (realloc_made d c bytes).debug e stands (reallocated_beside o d p c bytes sound stands at other) ok err

-- an allocation that may have found no memory
pub alloc_called : {X Y : Type 0} (r : Result X Y) (o : Option Cleanup) (d e : Debug) (bytes : ℕ) (kind : Kind) → IsMemory d o →
    OnOk r (e ≡ (alloc_made d bytes kind).debug) → OnErr r (e ≡ d) → Stays o d e
alloc_called r o d e bytes kind is ok err =
    called_beside r o d (alloc_made d bytes kind).debug e is.stands (allocated_beside o d (alloc_made d bytes kind).debug bytes kind is.sound is.stands refl) ok err

-- a cell of a kind that scripts use isn't the stack's
pub raw_other : (found : Option (Cell (List ℕ))) → IfSome found (λ c. c.head.kind ≡ Raw) → IfSome found (λ c. is_cleanup c.head.kind ≡ false)
raw_other None raw = raw
raw_other (Some c) raw = ap is_cleanup raw

pub text_other : (p : Ptr) (d : Debug) → IsTextAt p d → IfSome (cell_at p d.heap.row) (λ c. is_cleanup c.head.kind ≡ false)
text_other p d at = subst (λ (x : Option (Cell (List ℕ))). IfSome x (λ c. is_cleanup c.head.kind ≡ false)) (sym at.found) (ap is_cleanup at.kind)

pub is_there : {A : Type 0} (o : Option A) (a : A) → o ≡ Some a → IsSome o
is_there o a e = subst (λ x. IsSome x) (sym e) refl

raw_stays : (k : Kind) → is_raw k ≡ true → is_cleanup k ≡ false
raw_stays Raw e = refl
raw_stays Text e = refl
raw_stays (Object class) e = refl
raw_stays CleanupKind e = cc

-- a cell at a pointer, of which something is known
pub found_there : (o : Option (Cell (List ℕ))) (P : Cell (List ℕ) → Type 0) → IsSome o → IfSome o P → (c : Cell (List ℕ)) × (o ≡ Some c) × P c
found_there None P live is = cc
found_there (Some c) P live is = (c, refl, is)

-- where there are words there is a cell
pub words_there : (o : Option (Cell (List ℕ))) (k : ℕ) → k < length (content_or_nil o) → IsSome o
words_there None k within = absurd (omega (arith, within))
words_there (Some c) k within = refl

-- a word of a Raw cell
pub stored_beside : (o : Option Cleanup) (d e : Debug) (p : Ptr) (k : ℕ) (ws : List ℕ) → StandsIn o d.heap.row → k < length (payload_of p d.heap.row) →
    IfSome (cell_at p d.heap.row) (λ c. is_raw c.head.kind ≡ true) → e ≡ debug_changed d p ws → Stays o d e
stored_beside o d e p k ws stands within raw is =
    let there = found_there (cell_at p d.heap.row) (λ c. is_raw c.head.kind ≡ true) (words_there (cell_at p d.heap.row) k within) raw in
    subst (λ (x : Debug). Stays o d x) (sym is) (changed_beside o d p there.0 ws stands there.1 (raw_stays there.0.head.kind there.2))

-- a release that was not refused
pub dropped_beside : (o : Option Cleanup) (d : Debug) (p : Ptr) → StandsIn o d.heap.row → IsSome (cell_at p d.heap.row) →
    IfSome (cell_at p d.heap.row) (λ c. is_cleanup c.head.kind ≡ false) → Stays o d (with_row d (without p d.heap.row))
dropped_beside o d p stands live other =
    let there = found_there (cell_at p d.heap.row) (λ c. is_cleanup c.head.kind ≡ false) live other in
    released_beside o d p there.0 stands there.1 there.2

pub dropped_as : (d e : Debug) (p : Ptr) → p.number ≢ 0 → e ≡ debug_without d p → e ≡ with_row d (without p d.heap.row)
dropped_as d e p other is = is ∙ ap (λ b. cond b d (with_row d (without p d.heap.row))) (ne_eqb p.number 0 other)

-- and what stayed
pub keeps_seen : (s : Inside) (h : RunState) (e : Debug) → run_state s ≡ h → Stays s.cleanup s.heap e → KeepsCount (run_state s) (with_debug (run_state s) e) →
    KeepsCount h (run_state (record s { heap = e }))
keeps_seen s h e seen stays keeps =
    subst (λ (x : RunState). KeepsCount x (run_state (record s { heap = e }))) seen (subst (λ (x : RunState). KeepsCount (run_state s) x) (sym (seen_with s e stays)) keeps)

-- the end of a mark
pub mark_ended_beside : {X Y : Type 0} (r : Result X Y) (o : Option Cleanup) (d e : Debug) → StandsIn o d.heap.row → OnOk r (e ≡ record d { heap = after_mark_end d.heap }) → OnErr r (e ≡ d) →
    Stays o d e
mark_ended_beside r o d e stands ok err =
    called_beside r o d (record d { heap = after_mark_end d.heap }) e stands (lowered_beside o d (record d { heap = after_mark_end d.heap }) d.heap.level stands refl) ok err

-- an edit of a text
pub edit_called : (o : Option Cleanup) (d g : Debug) (p : Ptr) (e : Edited) → StandsIn o d.heap.row → IsTextAt p d → g ≡ debug_edited d p e → Stays o d g
edit_called o d g p e stands at is = subst (λ (x : Debug). Stays o d x) (sym is) (edited_beside o d p e stands at)

pub memory_edited : (o : Option Cleanup) (d g : Debug) (p : Ptr) (e : Edited) → IsMemory d o → IsTextAt p d → g ≡ debug_edited d p e → IsTextAt p g → IsSoundDebug g → IsMemory g o
memory_edited o d g p e is at changed text sound = record {
  sound = sound;
  texts = texts_edited p d g e is.texts changed text;
  stands = (edit_called o d g p e is.stands at changed).stands;
}
