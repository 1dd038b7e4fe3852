-- Statements on the cleanup stack come to what they mean.
use Rattle.std.proofs.Common.{◌≡◌, ℕ, ◌+◌, ◌*◌, Bool, true, false, List, [], ◌∷◌, ◌++◌, length, length-append, refl, ap, ◌∙◌, sym, subst, arith, cond, Option, Some, None}
use Rattle.std.specs.Prelude.{nat_eq, nat_le, nat_lt, option_map}
use Rattle.std.proofs.lemmas.Bool.{lt-ltb}
use Rattle.wb_heap_model.specs.declared.heap.TheConstants.{KERR_NO_MEMORY}
use Rattle.wb_heap_model.specs.declared.heap.TheConstants.Panic.{NUMBER_OUT_OF_RANGE, POP_BELOW_TRAP, ANOTHER_ITEM_ON_TOP, NULL_OR_STALE}
use Rattle.wb_heap_model.specs.declared.heap.Ptr.{Ptr}
use Rattle.wb_heap_model.specs.declared.heap.Item.{Item}
use Rattle.wb_heap_model.specs.declared.heap.Item.TheVariants as I
use Rattle.wb_heap_model.specs.declared.heap.Rule.{Rule}
use Rattle.wb_heap_model.specs.declared.heap.Kind.{Kind}
use Rattle.wb_heap_model.specs.declared.heap.Kind.TheVariants.{Cleanup}
use Rattle.wb_heap_model.specs.declared.heap.Kind.TheVariants as K
use Rattle.wb_heap_model.specs.declared.heap.Answer.{Answer}
use Rattle.wb_heap_model.specs.declared.heap.Gave.TheVariants as G
use Rattle.wb_tree.specs.declared.script.Script.{Script}
use Rattle.wb_tree.specs.declared.script.Pointer.{Pointer}
use Rattle.wb_tree.specs.declared.script.Number.{Number}
use Rattle.wb_tree.specs.declared.script.Statement.TheOpen.{Statement-F}
use Rattle.wb_heap_model.specs.Row.{Cell, cell_at, cell_length}
use Rattle.wb_heap_model.specs.CellRow.{resized_words, with_payload}
use Rattle.wb_heap_model.specs.Rules.{Request}
use Rattle.wb_heap_model.specs.Heap.{AfterAnswer, after_realloc, realloc_request}
use Rattle.wb_heap_model.specs.Contents.{Content}
use Rattle.wb_meaning.specs.State.{State, Way, goes_on, leaves, Process, ends, and_then, require, with_some}
use Rattle.wb_meaning.specs.Operands.{not_negative, with_cell}
use Rattle.wb_meaning.specs.Attempts.{after_growth, grow_if, push, reallocate, reallocate_longer}
use Rattle.wb_heap_model.specs.Pointers.{is_same_pointer, item_pointer, newest}
use Rattle.wb_meaning.specs.Statements.{done, drop_newest, has_above, statement}
use Rattle.wb_heap_model.specs.Debug.{Debug, Made, answer_in, debug_changed, gave_of, longer_made, made_by, number_of_next, shorter_made}
use Rattle.wb_heap_model.specs.SameRules.{Fits}
use Rattle.wb_heap_model.proofs.TextCellsHeap.{found-changed}
use Rattle.wb_cleanup.specs.Pushes.{remade}
use Rattle.wb_cleanup.specs.Stacks.{refusal_of_top}
use Rattle.wb_machine.specs.RunState.{RunState, read_cell, read_row, state_of, with_debug}
use Rattle.wb_machine.specs.Flow.{FitsStep, ended_by, flow, is_stop}
use Rattle.wb_machine.specs.PointerOperands.{operands_refusal}
use Rattle.wb_machine.specs.Effects.{Effect, number_read, pointer_read, unless_refused}
use Rattle.wb_machine.specs.CleanupEffects.{IsStackThere, growth_made, is_filled, pop_check_effect, pop_within, push_by, push_effect, with_item, without_newest}
use Rattle.wb_machine.proofs.kept.Rows.{read_cell_at, read_unread}
use Rattle.wb_machine.proofs.turns.Flows.{ReadsResized, followed_or, made_longer_or}
use Rattle.wb_machine.proofs.whole_runs.Fitting.{fits-limit}
use Rattle.wb_machine.proofs.effects.StatementEffects.{ComesTo, Means, MeansOver, number_is, pointer_is, fine_first}
use Rattle.wb_machine.proofs.effects.CellEffects.{answered_alike, is_ceiling}

-- pops of a number of items
pop_by : (r : Rule) (script : Script) (h : RunState) (floor n : ℕ) (b : Bool) →
    ComesTo r script h (require b POP_BELOW_TRAP (state_of script h) (λ st. done (drop_newest n st))) (unless_refused h (cond b None (Some POP_BELOW_TRAP)) (without_newest h n))
unfolding flow require
pop_by r script h floor n true k = refl
pop_by r script h floor n false k = refl

pop_in : (r : Rule) (script : Script) (h : RunState) (floor : ℕ) (o : Option ℕ) →
    ComesTo r script h
    (with_some o NUMBER_OUT_OF_RANGE (state_of script h) (λ n. require (nat_le (floor + n) (length h.items)) POP_BELOW_TRAP (state_of script h) (λ st. done (drop_newest n st)))) (pop_within h floor o)
unfolding flow with_some
pop_in r script h floor None k = refl
pop_in r script h floor (Some n) k = pop_by r script h floor n (nat_le (floor + n) (length h.items)) k

pub pop_kept : (script : Script) (h : RunState) (floor : ℕ) (v : Number) → operands_refusal h (Statement-F.Pop v) ≡ None →
    MeansOver script floor h (Statement-F.Pop v) (pop_within h floor (not_negative (number_read h v)))
unfolding statement
pop_kept script h floor v ok r f rec at over k =
    let st = state_of script h in
    pop_in r script h floor (not_negative (number_read h v)) k
    ∙ ap (λ low. flow r (and_then (with_some (not_negative (number_read h v)) NUMBER_OUT_OF_RANGE st (λ n. require (nat_le (low + n) (length h.items)) POP_BELOW_TRAP st (λ st. done (drop_newest n st)))) k) h) (sym over)
    ∙ sym (ap (λ z. flow r (and_then (with_some (not_negative z) NUMBER_OUT_OF_RANGE st (λ n. require (has_above at st n) POP_BELOW_TRAP st (λ st. done (drop_newest n st)))) k) h) (number_is script h v))

-- the pop of the newest item
check_top : (r : Rule) (script : Script) (h : RunState) (p : Ptr) (o : Option Item) →
    ComesTo r script h
    (with_some o POP_BELOW_TRAP (state_of script h) (λ item. require (is_same_pointer (item_pointer item) p) ANOTHER_ITEM_ON_TOP (state_of script h) (λ st. done (drop_newest 1 st))))
    (unless_refused h (refusal_of_top o p) (without_newest h 1))
unfolding flow with_some require
check_top r script h p None k = refl
check_top r script h p (Some item) k = by (is_same_pointer (item_pointer item) p)
  where
    effect : Bool → Effect
    effect b = unless_refused h (cond b None (Some ANOTHER_ITEM_ON_TOP)) (without_newest h 1)

    by : (b : Bool) → flow r (and_then (ended_by (effect b).ending (state_of script (effect b).state)) k) (effect b).state
        ≡ flow r (and_then (require b ANOTHER_ITEM_ON_TOP (state_of script h) (λ st. done (drop_newest 1 st))) k) h
    by true = refl
    by false = refl

check_in : (r : Rule) (script : Script) (h : RunState) (p : Ptr) (b : Bool) →
    ComesTo r script h
    (require b POP_BELOW_TRAP (state_of script h) (λ st. with_some (newest st.items) POP_BELOW_TRAP st (λ item.
    require (is_same_pointer (item_pointer item) p) ANOTHER_ITEM_ON_TOP st (λ st. done (drop_newest 1 st)))))
    (unless_refused h (refusal_of_top (cond b (newest h.items) None) p) (without_newest h 1))
unfolding flow require
check_in r script h p true k = check_top r script h p (newest h.items) k
check_in r script h p false k = refl

pub pop_check_kept : (script : Script) (h : RunState) (floor : ℕ) (p : Pointer) → operands_refusal h (Statement-F.PopCheck p) ≡ None →
    MeansOver script floor h (Statement-F.PopCheck p) (pop_check_effect h floor (pointer_read script h p))
unfolding statement
pop_check_kept script h floor p ok r f rec at over k =
    let st = state_of script h in
    check_in r script h (pointer_read script h p) (nat_le (floor + 1) (length h.items)) k
    ∙ ap (λ low. flow r (and_then (require (nat_le (low + 1) (length h.items)) POP_BELOW_TRAP st (λ st. with_some (newest st.items) POP_BELOW_TRAP st (λ item.
    require (is_same_pointer (item_pointer item) (pointer_read script h p)) ANOTHER_ITEM_ON_TOP st (λ st. done (drop_newest 1 st))))) k) h) (sym over)
    ∙ ap (λ x. flow r (and_then x k) h)
    (sym (pointer_is script h p (λ q. require (has_above at st 1) POP_BELOW_TRAP st (λ st. with_some (newest st.items) POP_BELOW_TRAP st (λ item.
    require (is_same_pointer (item_pointer item) q) ANOTHER_ITEM_ON_TOP st (λ st. done (drop_newest 1 st))))) (fine_first h p [] ok)))

-- the words of the stack's cell aren't read
words_unread : (script : Script) (g : RunState) (d : Debug) (ws : List ℕ) → IsStackThere g → g.debug ≡ debug_changed d g.cleanup ws → read_row script (with_payload g.cleanup ws d.heap.row) ≡ read_row script d.heap.row
words_unread script g d ws at is =
    read_unread script g.cleanup ws d.heap.row (λ c found.
    let same : Some (record c { content = ws }) ≡ Some at.cell = sym (found-changed g.cleanup ws d.heap.row c found) ∙ sym (ap (λ (x : Debug). cell_at g.cleanup x.heap.row) is) ∙ at.found in
    let cell : record c { content = ws } ≡ at.cell = cc in
    ap (λ (x : Cell (List ℕ)). x.head.kind) cell ∙ at.kind)

-- the run once an item is on the stack, and before its cell is looked at
abbrev with_one_more : RunState → Item → RunState
with_one_more h item = record h { items = h.items ++ item ∷ [] }

-- what was pushed, by how the growth was answered
module _ (r : Rule) (script : Script) (h : RunState) (item : Item) (ws : List ℕ) (k : Way → State → Process) where
  abbrev ended_with : Effect → Process
  ended_with c = and_then (ended_by c.ending (state_of script c.state)) k

  -- a push that fills no slot to the last
  unfilled : IsStackThere (with_item h item ws false h.debug (G.Granted h.cleanup)) →
      flow r (ended_with (push_by h item ws false h.debug (G.Granted h.cleanup))) (push_by h item ws false h.debug (G.Granted h.cleanup)).state
      ≡ flow r (and_then (ends goes_on (state_of script (with_one_more h item))) k) h
  unfolding flow and_then
  unfilled now =
      ap (λ (row : List (Cell Content)). flow r (k goes_on (record (state_of script (with_one_more h item)) { heap = record (state_of script h).heap { row = row } })) h)
      (words_unread script (with_item h item ws false h.debug (G.Granted h.cleanup)) h.debug ws now refl)

  given : (d : Debug) (g : Option Ptr) → IsStackThere (push_by h item ws true d (gave_of g)).state →
      flow r (ended_with (push_by h item ws true d (gave_of g))) (push_by h item ws true d (gave_of g)).state
      ≡ flow r (and_then (followed_or (state_of script h) (gave_of g) after_growth (state_of script (with_debug (with_one_more h item) d))) k) (with_debug (with_one_more h item) d)
  unfolding flow and_then after_growth
  given d (Some p) now =
      let g = with_item h item ws true d (G.Granted p) in
      ap (λ (row : List (Cell Content)). flow r (k goes_on (record (state_of script g) { heap = record (state_of script g).heap { row = row } })) g) (words_unread script g d ws now refl)
  given d None now =
      let g = with_item h item ws true d G.Denied in
      ap (λ (row : List (Cell Content)). flow r (k (leaves KERR_NO_MEMORY) (record (state_of script g) { heap = record (state_of script g).heap { row = row } })) g) (words_unread script g d ws now refl)

  module _ (t : Request) (after : ℕ → Answer → AfterAnswer (List ℕ)) where
    abbrev made : Option Answer → Made
    made o = made_by h.debug t after o

    abbrev effect : Option Answer → Effect
    effect o = push_by h item ws true (made o).debug (made o).gave

    grown : (o : Option Answer) → IsStackThere (effect o).state →
        flow r (ended_with (effect o)) (effect o).state
        ≡ flow r (and_then (followed_or (state_of script h) (made o).gave after_growth (state_of script (with_debug (with_one_more h item) (made o).debug))) k) (with_debug (with_one_more h item) (made o).debug)
    unfolding flow
    grown None now = refl
    grown (Some w) now = given (made (Some w)).debug (after (number_of_next h.debug) w).given now

    fits_growth : (o : Option Answer) → Fits r h.debug.rule (is_stop (effect o).ending) (effect o).state.debug.attempts → Fits r h.debug.rule (is_ceiling (made o).gave) (made o).debug.attempts
    fits_growth None f = f
    fits_growth (Some w) f = by (after (number_of_next h.debug) w).given f
      where
        by : (g : Option Ptr) →
            Fits r h.debug.rule (is_stop (push_by h item ws true (made (Some w)).debug (gave_of g)).ending) (push_by h item ws true (made (Some w)).debug (gave_of g)).state.debug.attempts →
            Fits r h.debug.rule (is_ceiling (gave_of g)) (made (Some w)).debug.attempts
        by (Some p) f = f
        by None f = f

-- a push comes to what was pushed
module _ (r : Rule) (script : Script) (h : RunState) (item : Item) (ws : List ℕ) (at : IsStackThere h) where
  abbrev c : Cell (List ℕ)
  c = at.cell

  abbrev bytes : ℕ
  bytes = 16 * (h.slots + 4)

  longer : nat_lt c.head.length (cell_length bytes) ≡ true
  longer = lt-ltb c.head.length (cell_length bytes) (omega (arith, at.usable))

  growth_is : growth_made h true ≡ longer_made h.debug c bytes
  growth_is = ap (remade h.debug bytes) at.found ∙ ap (λ b. cond b (longer_made h.debug c bytes) (shorter_made h.debug c bytes)) longer

  unread : ReadsResized script c.head.kind bytes c.content
  unread = by c.head.kind at.kind
    where
      by : (kind : Kind) → kind ≡ Cleanup → ReadsResized script kind bytes c.content
      by Cleanup e = refl
      by K.Raw e = cc
      by (K.Object class) e = cc
      by K.Text e = cc

  abbrev FitsMade : Made → Type 0
  FitsMade made = FitsStep r h (push_by h item ws true made.debug made.gave).ending (push_by h item ws true made.debug made.gave).state

  abbrev Holds : Made → Type 0
  Holds made = IsStackThere (push_by h item ws true made.debug made.gave).state

  grows : FitsMade (longer_made h.debug c bytes) → Holds (longer_made h.debug c bytes) →
      ComesTo r script h (grow_if true (state_of script h) (state_of script (with_one_more h item))) (push_by h item ws true (longer_made h.debug c bytes).debug (longer_made h.debug c bytes).gave)
  unfolding flow grow_if with_cell reallocate with_some
  grows f now k =
      let t = realloc_request h.debug.heap c.head bytes in
      let after = after_realloc h.debug.heap t c.head (resized_words t.length c.content) in
      let fits = fits_growth r script h item ws k t after (answer_in h.debug t) f in
      let more = with_one_more h item in
      let st = state_of script more in
      let go : Cell Content → Process = λ d. reallocate_longer (nat_lt d.head.length (cell_length bytes)) d bytes (state_of script h) st after_growth in
      grown r script h item ws k t after (answer_in h.debug t) now
      ∙ sym (made_longer_or r script more (state_of script h) c bytes after_growth k (answer_in h.debug t) unread
      (answered_alike r h.debug t after (answer_in h.debug t) refl fits) (fits-limit r h.debug.rule _ _ fits))
      ∙ ap (λ b. flow r (and_then (reallocate_longer b (read_cell script c) bytes (state_of script h) st after_growth) k) h) (sym longer)
      ∙ ap (λ o. flow r (and_then (with_some o NULL_OR_STALE st go) k) h) (sym (read_cell_at script h.cleanup h.debug.heap.row ∙ ap (option_map (read_cell script)) at.found))

  slack : IsStackThere (with_item h item ws false h.debug (G.Granted h.cleanup)) →
      ComesTo r script h (grow_if false (state_of script h) (state_of script (with_one_more h item))) (push_by h item ws false h.debug (G.Granted h.cleanup))
  unfolding grow_if
  slack now k = unfilled r script h item ws k now

  -- whether or not the item fills the last slot
  fills : (b : Bool) → FitsStep r h (push_by h item ws b (growth_made h b).debug (growth_made h b).gave).ending (push_by h item ws b (growth_made h b).debug (growth_made h b).gave).state →
      IsStackThere (push_by h item ws b (growth_made h b).debug (growth_made h b).gave).state →
      ComesTo r script h (grow_if b (state_of script h) (state_of script (with_one_more h item))) (push_by h item ws b (growth_made h b).debug (growth_made h b).gave)
  fills true f now k =
      subst (λ (m : Made). FitsMade m → Holds m → ComesTo r script h (grow_if true (state_of script h) (state_of script (with_one_more h item))) (push_by h item ws true m.debug m.gave)) (sym growth_is) grows f now k
  fills false f now k = slack now k

  pub pushed : FitsStep r h (push_effect h item ws).ending (push_effect h item ws).state → IsStackThere (push_effect h item ws).state →
      ComesTo r script h (push item (state_of script h)) (push_effect h item ws)
  unfolding push flow
  pushed f now k =
      fills (is_filled h) f now k
      ∙ ap (λ n. flow r (and_then (grow_if (nat_eq n h.slots) (state_of script h) (state_of script (with_one_more h item))) k) h) (sym (length-append h.items (item ∷ [])))

pub push_kept : (script : Script) (h : RunState) (p : Pointer) (ws : List ℕ) → IsStackThere h →
    IsStackThere (push_effect h (I.Free (pointer_read script h p)) ws).state → operands_refusal h (Statement-F.Push p) ≡ None →
    Means script h (Statement-F.Push p) (push_effect h (I.Free (pointer_read script h p)) ws)
unfolding statement
push_kept script h p ws at now ok r f rec at' k =
    pushed r script h (I.Free (pointer_read script h p)) ws at f now k
    ∙ ap (λ x. flow r (and_then x k) h) (sym (pointer_is script h p (λ q. push (I.Free q) (state_of script h)) (fine_first h p [] ok)))

pub push_operation_kept : (script : Script) (h : RunState) (p : Pointer) (operation : ℕ) (ws : List ℕ) → IsStackThere h →
    IsStackThere (push_effect h (I.Call (pointer_read script h p) operation) ws).state → operands_refusal h (Statement-F.PushOperation p operation) ≡ None →
    Means script h (Statement-F.PushOperation p operation) (push_effect h (I.Call (pointer_read script h p) operation) ws)
unfolding statement
push_operation_kept script h p operation ws at now ok r f rec at' k =
    pushed r script h (I.Call (pointer_read script h p) operation) ws at f now k
    ∙ ap (λ x. flow r (and_then x k) h) (sym (pointer_is script h p (λ q. push (I.Call q operation) (state_of script h)) (fine_first h p [] ok)))
