-- Cells read as what their kinds hold, whatever a turn does.
use Rattle.std.proofs.Common.{◌≡◌, ℕ, ◌+◌, ◌*◌, ◌<◌, ◌≤◌, List, [], ◌∷◌, All, length, drop, Bool, true, false, cond, Option, Some, None, option_map, Ok, Err, IfOk, inl, refl, sym, ap, ◌∙◌, subst, arith}
use Rattle.std.proofs.lemmas.Bool.{eqb-true}
use Rattle.std.proofs.lemmas.List.{length-take, length-drop}
use Rattle.std.proofs.lemmas.List.Elements.{All-filter, All-nil}
use Rattle.wb_heap_model.specs.declared.heap.TheConstants.Panic.{BAD_CELL, WRONG_KIND}
use Rattle.wb_heap_model.specs.declared.heap.Ptr.{Ptr}
use Rattle.wb_heap_model.specs.declared.heap.Answer.{Answer}
use Rattle.wb_heap_model.specs.declared.heap.Answer.TheVariants.{Granted, Simulated, Refused}
use Rattle.wb_heap_model.specs.declared.heap.Gave.{Gave}
use Rattle.wb_heap_model.specs.declared.heap.Gave.TheVariants as gave
use Rattle.wb_heap_model.specs.declared.heap.Kind.{Kind}
use Rattle.wb_heap_model.specs.declared.heap.Kind.TheVariants.{Raw, Object, Text, Cleanup}
use Rattle.wb_meaning.specs.declared.run.Why.TheVariants.{Budget}
use Rattle.wb_tree.specs.declared.script.Script.{Script}
use Rattle.wb_heap_model.specs.Row.{Cell, cell_at, without}
use Rattle.wb_heap_model.specs.Rules.{Request}
use Rattle.wb_heap_model.specs.Heap.{alloc_request, after_alloc, new_cell, is_cleanup}
use Rattle.wb_heap_model.specs.LimitedHeap.{zero_words}
use Rattle.wb_heap_model.specs.Spelling.{pointers, read_as}
use Rattle.wb_meaning.specs.Throughout.{SuitsKind, HoldsItsKind}
use Rattle.wb_meaning.specs.State.{State, stops, ends, is_cut, Process, and_then}
use Rattle.wb_meaning.specs.Statements.{Layer, Meaning, Context, statement}
use Rattle.wb_heap_model.specs.Pointers.{is_null}
use Rattle.wb_heap_model.specs.Space.{space_of}
use Rattle.wb_heap_model.specs.Debug.{Debug, keeps_rises, made_by, answer_in, number_of_next, alloc_made, with_row}
use Rattle.wb_meaning.proofs.AlikeLemmas.{Keeps, AlikeAll, and_then-alike}
use Rattle.wb_meaning.proofs.EachStatement.{statement-alike}
use Rattle.wb_meaning.proofs.KeptCells.{AreOfKind, found-cell, kinds}
use Rattle.wb_heap_model.proofs.Rows.{All-placed}
use Rattle.wb_meaning.proofs.ThroughoutLemmas.{settled-shows}
use Rattle.wb_objects.specs.Objects.{is_of_class, words_of_cell, HasField}
use Rattle.wb_machine.specs.declared.pieces.Ending.{Ending}
use Rattle.wb_machine.specs.declared.pieces.Ending.TheVariants.{GoesOn, Returns, Leaves, Panics, Cut, NoCleanup}
use Rattle.wb_machine.specs.RunState.{RunState, first_state, state_of, account_of, with_debug, field_count, read_cell, read_row}
use Rattle.wb_machine.specs.Bodies.{without_newest}
use Rattle.wb_machine.specs.Effects.{stepped, first_bytes, first_made, started_by, free_effect, released_found, panicked, gone_on}
use Rattle.wb_machine.specs.Flow.{ended_by, flow, IsCarriedOut}
use Rattle.wb_machine.specs.ObjectInvariant.{AreWhole, StaysWhole}
use Rattle.wb_machine.specs.Owed.{CarriesOut, IsQuiet}
use Rattle.wb_machine.proofs.asking.Quiet.{quiet_still}
use Rattle.wb_machine.proofs.kept.Rows.{read_inserted, read_without, read_cell_at}

-- so an object has words for each of its fields
pointers_few : (ws : List ℕ) → 2 * length (pointers ws) ≤ length ws
pointers_few [] = omega arith
pointers_few (a ∷ []) = omega arith
pointers_few (a ∷ b ∷ ws) = omega (arith, pointers_few ws)

of_class : (class : ℕ) (kind : Kind) → is_of_class class kind ≡ true → kind ≡ Object class
of_class class (Object k) e = ap Object (eqb-true k class e)
of_class class Raw e = cc
of_class class Text e = cc
of_class class Cleanup e = cc

pub whole_has_field : (script : Script) (d : Debug) (p : Ptr) (class i : ℕ) → AreWhole script d.heap.row → i < field_count script class → HasField d p class i
whole_has_field script d p class i whole within = found (cell_at p d.heap.row) refl
  where
    long : (ws : List ℕ) → SuitsKind script (Object class) (read_as (field_count script) (Object class) ws) → 4 + 2 * i ≤ length ws
    long ws all =
        omega (arith, within, all, length-take (field_count script class) (pointers (drop 2 ws)), length-drop 2 ws, pointers_few (drop 2 ws))

    holds : (c : Cell (List ℕ)) → cell_at p d.heap.row ≡ Some c → HoldsItsKind script (read_cell script c)
    holds c e =
        found-cell (HoldsItsKind script) p (read_row script d.heap.row) (read_cell script c) whole (read_cell_at script p d.heap.row ∙ ap (option_map (read_cell script)) e)

    found : (o : Option (Cell (List ℕ))) → cell_at p d.heap.row ≡ o → IfOk (words_of_cell class o) (λ ws. 4 + 2 * i ≤ length ws)
    found None e = tt
    found (Some c) e = by (is_of_class class c.head.kind) refl
      where
        by : (b : Bool) → is_of_class class c.head.kind ≡ b → IfOk (cond b (Ok c.content) (Err WRONG_KIND)) (λ ws. 4 + 2 * i ≤ length ws)
        by true of =
            long c.content (subst (λ kind. SuitsKind script kind (read_as (field_count script) kind c.content)) (of_class class c.head.kind of) (holds c e))
        by false of = tt

-- cells that are left
whole_without : (script : Script) (p : Ptr) (row : List (Cell (List ℕ))) → AreWhole script row → AreWhole script (without p row)
whole_without script p row whole =
    subst (All (HoldsItsKind script)) (sym (read_without script p row)) (All-filter _ (HoldsItsKind script) (read_row script row) whole)

-- the state that an ending shows
shown : (script : Script) (h g : RunState) (ending : Ending) → (flow h.debug.rule (and_then (ended_by ending (state_of script g)) ends) g).state ≡ state_of script g
unfolding flow and_then
shown script h g GoesOn = refl
shown script h g (Returns p) = refl
shown script h g (Leaves code) = refl
shown script h g (Panics p) = refl
shown script h g (Cut why) = refl
shown script h g NoCleanup = refl

-- A statement that was carried out leaves what the definitions leave, and in every state that these show the cells hold what
-- their kinds hold.
pub effect_whole : (script : Script) (floor : ℕ) (layer : Layer) (h g : RunState) (ending : Ending) → IsCarriedOut script floor layer h ending g →
    StaysWhole script h g
unfolding flow
effect_whole script floor layer h g ending kept whole =
    subst (λ (st : State). AreOfKind script st.heap) (sym same) kinds_there.1
  where
    at : Context
    at = record { depth = 0; floor = floor }

    idle : Meaning
    idle at p st = stops (is_cut Budget) st

    st : State
    st = state_of script h

    p : Process
    p = and_then (statement script idle at layer st) ends

    same : state_of script g ≡ (flow h.debug.rule p h).state
    same = sym (shown script h g ending) ∙ ap (λ s. s.state) (kept h.debug.rule (inl refl) idle at refl ends)

    idles : AlikeAll (kinds script) idle idle
    idles ns at p st f = (refl, (f, tt))

    shows : Keeps (kinds script) [] p
    shows = (and_then-alike (kinds script) [] _ _ ends ends (statement-alike (kinds script) {ns = []} idle idle at layer st idles (tt, whole, tt)) (λ ns w st f. (refl, f))).1

    kinds_there : Unit {0} × AreOfKind script (flow h.debug.rule p h).state.heap × Unit {0}
    kinds_there = settled-shows (λ st. Unit {0} × AreOfKind script st.heap × Unit {0}) h.debug.rule (space_of h.debug.rule h.debug.shape) [] p (account_of h) shows

-- a step that was counted
pub stepped_whole : (script : Script) (h g : RunState) → g ≡ stepped h → StaysWhole script h g
stepped_whole script h g is whole = subst (λ (x : RunState). AreWhole script x.debug.heap.row) (sym is) whole

-- and an item that was taken off then
pub taken_whole : (script : Script) (h m g : RunState) → m ≡ stepped h → g ≡ without_newest m → StaysWhole script h g
taken_whole script h m g is taken whole = subst (λ (x : RunState). AreWhole script x.debug.heap.row) (sym (taken ∙ ap without_newest is)) whole

-- attempt 1
first_whole : (script : Script) (d : Debug) → AreWhole script d.heap.row → AreWhole script (alloc_made d first_bytes Cleanup).debug.heap.row
first_whole script d whole = by (answer_in d t)
  where
    t : Request
    t = alloc_request d.heap first_bytes

    c : Cell (List ℕ)
    c = new_cell d.heap (number_of_next d) t Cleanup (zero_words t.length)

    by : (o : Option Answer) → AreWhole script (made_by d t (after_alloc d.heap t Cleanup (zero_words t.length)) o).debug.heap.row
    by None = whole
    by (Some Granted) =
        subst (All (HoldsItsKind script)) (sym (read_inserted script c d.heap.row)) (All-placed (HoldsItsKind script) (read_cell script c) (read_row script d.heap.row) tt whole)
    by (Some Simulated) = whole
    by (Some Refused) = whole

started_debug : (h : RunState) (g : Gave) → (started_by h g).debug ≡ h.debug
started_debug h (gave.Granted p) = refl
started_debug h gave.Denied = refl
started_debug h gave.Ceiling = refl

pub started_whole : (script : Script) (h g : RunState) → h ≡ first_state (keeps_rises h.debug) h.debug.rule h.debug.shape → g ≡ started_by (with_debug h (first_made h).debug) (first_made h).gave →
    AreWhole script g.debug.heap.row
started_whole script h g start is =
    let none : AreWhole script h.debug.heap.row = subst (λ (x : RunState). AreWhole script x.debug.heap.row) (sym start) (All-nil _) in
    subst (λ (d : Debug). AreWhole script d.heap.row) (sym (ap (λ (x : RunState). x.debug) is ∙ started_debug (with_debug h (first_made h).debug) (first_made h).gave))
    (first_whole script h.debug none)

-- a release
free_quiet : (h : RunState) (p : Ptr) → IsQuiet h (free_effect h p).state
free_quiet h p = by (is_null p)
  where
    after : RunState
    after = with_debug h (with_row h.debug (without p h.debug.heap.row))

    of_kind : (b : Bool) → IsQuiet h (cond b (panicked h BAD_CELL) (gone_on after)).state
    of_kind true = quiet_still h
    of_kind false = record {
      rule = refl;
      shape = refl;
      attempts = refl;
      rises = refl;
      level = refl;
      cleanup = refl;
      steps = refl;
      items = omega arith;
      slots = refl;
      whole = λ script whole. whole_without script p h.debug.heap.row whole;
    }

    found : (o : Option (Cell (List ℕ))) → IsQuiet h (released_found h p o).state
    found None = quiet_still h
    found (Some c) = of_kind (is_cleanup c.head.kind)

    by : (b : Bool) → IsQuiet h (cond b (gone_on h) (released_found h p (cell_at p h.debug.heap.row))).state
    by true = quiet_still h
    by false = found (cell_at p h.debug.heap.row)

pub released_quiet : (h g : RunState) (p : Ptr) (ending : Ending) → CarriesOut h (free_effect h p) ending g → IsQuiet h g
released_quiet h g p ending made = subst (λ (x : RunState). IsQuiet h x) (sym made.becomes) (free_quiet h p)
