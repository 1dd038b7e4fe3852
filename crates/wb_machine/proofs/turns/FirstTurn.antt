-- The turn that makes attempt 1 and begins `main`.
use Rattle.std.proofs.Common.{◌≡◌, ◌≢◌, ℕ, Bool, true, false, List, [], ◌∷◌, ◌++◌, map, refl, ap, ◌∙◌, sym, subst, inl, Option, Some, None}
use Rattle.std.proofs.Math.Path.{fun_ext}
use Rattle.std.specs.Prelude.{min}
use Rattle.wb_heap_model.specs.declared.heap.Ptr.{Ptr}
use Rattle.wb_heap_model.specs.declared.heap.Rule.{Rule}
use Rattle.wb_heap_model.specs.declared.heap.Shape.{Shape}
use Rattle.wb_heap_model.specs.declared.heap.Kind.TheVariants.{Cleanup}
use Rattle.wb_heap_model.specs.declared.heap.Gave.{Gave}
use Rattle.wb_heap_model.specs.declared.heap.Gave.TheVariants as G
use Rattle.wb_tree.specs.declared.script.Script.{Script}
use Rattle.wb_tree.specs.declared.script.Local.{Local}
use Rattle.wb_tree.specs.declared.script.StatementAt.{StatementAt}
use Rattle.wb_heap_model.specs.Placement.{placement_of}
use Rattle.wb_heap_model.specs.Space.{space_of, bound_below, limit_under}
use Rattle.wb_heap_model.specs.Contents.{none}
use Rattle.wb_heap_model.specs.Pointers.{null}
use Rattle.wb_meaning.specs.State.{initial, State, goes_on, Process, ends, stops, asks, notes, and_then, on_plain_end}
use Rattle.wb_heap_model.specs.Heap.{alloc_request, after_alloc}
use Rattle.wb_heap_model.specs.LimitedHeap.{zero_words}
use Rattle.wb_heap_model.specs.declared.heap.Answer.{Answer}
use Rattle.wb_heap_model.specs.Row.{cell_length}
use Rattle.wb_heap_model.specs.Rules.{Request, refusal_of, unless_refused}
use Rattle.wb_heap_model.specs.Debug.{Debug, keeps_rises, made_by, answer_in}
use Rattle.wb_heap_model.specs.Rises.{first_rises}
use Rattle.wb_meaning.specs.declared.run.Why.TheVariants.{Ceiling}
use Rattle.wb_meaning.specs.Statements.{all}
use Rattle.wb_meaning.specs.Meaning.{meaning_of}
use Rattle.wb_meaning.specs.Account.{settled}
use Rattle.wb_meaning.specs.Attempts.{allocate}
use Rattle.wb_meaning.specs.Run.{before_of, main_trapped, in_main, started, process, whole_of, whole_run}
use Rattle.wb_heap_model.specs.SameRules.{Fits}
use Rattle.wb_meaning.specs.Rest.{Pending, doing, main_catching, resumed, resume, left_to_do, rest}
use Rattle.wb_machine.specs.declared.pieces.Ending.{Ending}
use Rattle.wb_machine.specs.declared.pieces.Ending.TheVariants.{GoesOn, Cut, NoCleanup}
use Rattle.wb_machine.specs.declared.pieces.PendingPiece.{PendingPiece}
use Rattle.wb_machine.specs.declared.pieces.PendingPiece.TheVariants.{MainTrap}
use Rattle.wb_machine.specs.RunState.{Values, RunState, first_state, main_of, state_of, account_of, with_debug}
use Rattle.wb_machine.specs.Flow.{in_main_frame, pending_of, pending_in, is_stop, flow, rest_from, rest_at}
use Rattle.wb_machine.specs.Effects.{entered, first_bytes, first_made, started_by, is_granted, begun_by, begun_effect}
use Rattle.wb_machine.proofs.turns.Flows.{followed, allocated}
use Rattle.wb_machine.proofs.whole_runs.Fitting.{fits-limit, fits-ended}
use Rattle.wb_machine.proofs.effects.CellEffects.{is_ceiling, answered_alike}
use Rattle.wb_machine.proofs.turns.Steps.{rest_flow}

-- a process that nothing follows
pub and_then-ends : (p : Process) → and_then p ends ≡ p
unfolding and_then
and_then-ends (ends way st) = refl
and_then-ends (stops stop st) = refl
and_then-ends (asks t cut go) = ap (asks t cut) (fun_ext (λ n. fun_ext (λ a. and_then-ends (go n a))))
and_then-ends (notes q p) = ap (notes q) (and_then-ends p)

-- where `main` begins, its statements and its TRAP are what is to do
main_begins : (script : Script) (budget : ℕ) (st : State) (statements : List StatementAt) → statements ≡ (main_of script).statements →
    resume script budget (doing in_main_frame (all statements) ∷ main_catching in_main_frame ∷ []) goes_on
    (record st { frame = record { this = null; locals = map initial (main_of script).locals } })
    ≡ in_main (meaning_of script budget) script st
unfolding resume resumed on_plain_end in_main
main_begins script budget st statements is =
    ap (λ (ss : List StatementAt). and_then (meaning_of script budget in_main_frame (all ss) (record st { frame = record { this = null; locals = map initial (main_of script).locals } }))
    (λ way st. and_then (main_trapped (meaning_of script budget) in_main_frame way st) ends)) is
    ∙ ap (and_then _) (fun_ext (λ way. fun_ext (λ st. and_then-ends (main_trapped (meaning_of script budget) in_main_frame way st))))

-- what the first attempt gives
abbrev first_gave : RunState → Gave
first_gave h = (first_made h).gave

-- and the state then
abbrev after_first : RunState → RunState
after_first h = with_debug h (first_made h).debug

begun_rest : (r : Rule) (script : Script) (budget : ℕ) (h : RunState) (statements : List StatementAt) (pieces : List PendingPiece) (gave : Gave) →
    statements ≡ (main_of script).statements →
    ((begun_by h (main_of script).locals gave).ending ≡ GoesOn → (callers : Values) → pending_in callers pieces ≡ doing in_main_frame (all statements) ∷ main_catching in_main_frame ∷ []) →
    rest_from script budget r (begun_by h (main_of script).locals gave).ending pieces (begun_by h (main_of script).locals gave).state
    ≡ whole_of (flow r (followed gave (started (meaning_of script budget) script) (state_of script h)) h)
unfolding flow started and_then
begun_rest r script budget h statements pieces G.Ceiling body is = rest_flow script budget r (Cut Ceiling) pieces h
begun_rest r script budget h statements pieces (G.Granted cell) body is =
    let g : RunState = entered (record h { cleanup = cell }) (main_of script).locals in
    let st : State = record (state_of script h) { cleanup = cell } in
    rest_flow script budget r GoesOn pieces g
    ∙ ap (λ (ps : List Pending). whole_of (flow r (resume script budget ps goes_on (state_of script g)) g)) (is refl g.callers)
    ∙ ap (λ p. whole_of (flow r p g)) (main_begins script budget st statements body)
begun_rest r script budget h statements pieces G.Denied body is = rest_flow script budget r NoCleanup pieces h

-- under a rule that fits, attempt 1 is answered as under the machine's own
first_alike : (r : Rule) (h : RunState) (locals : List Local) → Fits r h.debug.rule (is_stop (begun_effect h locals).ending) (begun_effect h locals).state.debug.attempts →
    Fits r h.debug.rule (is_ceiling (first_gave h)) (first_made h).debug.attempts
first_alike r h locals f = by (first_gave h) f
  where
    by : (gave : Gave) → Fits r h.debug.rule (is_stop (begun_by (after_first h) locals gave).ending) (begun_by (after_first h) locals gave).state.debug.attempts →
        Fits r h.debug.rule (is_ceiling gave) (first_made h).debug.attempts
    by (G.Granted cell) f = f
    by G.Denied f = inl (fits-ended r h.debug.rule _ f)
    by G.Ceiling f = f

-- attempt 1 is counted under each rule: its cell ends below the ceiling
first_counted : (b : Bool) (own : Rule) (shape : Shape) → (first_made (first_state b own shape)).debug.attempts ≡ 1
first_counted b own shape = by (refusal_of own 1 (cell_length first_bytes))
  where
    d : Debug
    d = (first_state b own shape).debug

    t : Request
    t = alloc_request d.heap first_bytes

    by : (o : Option Answer) → (made_by d t (after_alloc d.heap t Cleanup (zero_words t.length)) (unless_refused o (cell_length first_bytes))).debug.attempts ≡ 1
    by None = refl
    by (Some a) = refl

pub one_attempt : (h g : RunState) → h ≡ first_state (keeps_rises h.debug) h.debug.rule h.debug.shape → g.debug ≡ (first_made h).debug → g.debug.attempts ≡ 1
one_attempt h g start is =
    ap (λ (d : Debug). d.attempts) is ∙ ap (λ (x : RunState). (first_made x).debug.attempts) start ∙ first_counted (keeps_rises h.debug) h.debug.rule h.debug.shape

-- after the turn that begins a run its rest is the run
rest_begun : (b : Bool) (r own : Rule) (script : Script) (budget : ℕ) (shape : Shape) (statements : List StatementAt) (pieces : List PendingPiece) →
    let h = first_state b own shape in
    let c = begun_effect h (main_of script).locals in
    Fits r own (is_stop c.ending) c.state.debug.attempts → statements ≡ (main_of script).statements →
    (c.ending ≡ GoesOn → (callers : Values) → pending_in callers pieces ≡ doing in_main_frame (all statements) ∷ main_catching in_main_frame ∷ []) →
    rest_from script budget r c.ending pieces c.state ≡ whole_run b script r budget shape
unfolding flow process
rest_begun b r own script budget shape statements pieces f body is =
    let h : RunState = first_state b own shape in
    let go : Option Ptr → State → Process = started (meaning_of script budget) script in
    let t = alloc_request h.debug.heap first_bytes in
    let fits = first_alike r h (main_of script).locals f in
    let limit = fits-limit r own _ _ f in
    begun_rest r script budget (after_first h) statements pieces (first_gave h) body is
    ∙ ap whole_of (
    ap (λ p. flow r p (after_first h)) (sym (and_then-ends (followed (first_gave h) go (state_of script (after_first h)))))
    ∙ sym (allocated r script h first_bytes Cleanup none go ends (answer_in h.debug t) refl
    (answered_alike r h.debug t (after_alloc h.debug.heap t Cleanup (zero_words t.length)) (answer_in h.debug t) refl fits) limit)
    ∙ ap (λ p. flow r p h) (and_then-ends (allocate first_bytes Cleanup none (state_of script h) go)))
    ∙ ap (λ l. whole_of (settled r (space_of r shape) (process script budget (placement_of shape)) (record { attempts = 0; trace = []; rises = first_rises b; notes = []; committed = min shape.min (bound_below l) }))) (sym limit)

-- the same of what a machine then holds
pub run_begun : (r : Rule) (script : Script) (budget : ℕ) (h g : RunState) (ending : Ending) (statements : List StatementAt) (pieces : List PendingPiece) →
    h ≡ first_state (keeps_rises h.debug) h.debug.rule h.debug.shape →
    ending ≡ (begun_effect h (main_of script).locals).ending → g ≡ (begun_effect h (main_of script).locals).state →
    Fits r h.debug.rule (is_stop ending) g.debug.attempts → statements ≡ (main_of script).statements →
    (ending ≡ GoesOn → (callers : Values) → pending_in callers pieces ≡ doing in_main_frame (all statements) ∷ main_catching in_main_frame ∷ []) →
    rest_from script budget r ending pieces g ≡ whole_run (keeps_rises h.debug) script r budget h.debug.shape
run_begun r script budget h g ending statements pieces start ends_so holds f body is =
    let locals = (main_of script).locals in
    let own = h.debug.rule in
    let first : RunState = first_state (keeps_rises h.debug) own h.debug.shape in
    let e : ending ≡ (begun_effect first locals).ending = ends_so ∙ ap (λ x. (begun_effect x locals).ending) start in
    let k : g ≡ (begun_effect first locals).state = holds ∙ ap (λ x. (begun_effect x locals).state) start in
    let f' : Fits r own (is_stop (begun_effect first locals).ending) (begun_effect first locals).state.debug.attempts =
    subst (λ (x : RunState). Fits r own (is_stop (begun_effect first locals).ending) x.debug.attempts) k (subst (λ x. Fits r own (is_stop x) g.debug.attempts) e f) in
    ap (λ x. rest_from script budget r x pieces g) e ∙ ap (λ x. rest_from script budget r (begun_effect first locals).ending pieces x) k
    ∙ rest_begun (keeps_rises h.debug) r own script budget h.debug.shape statements pieces f' body (λ x. is (e ∙ x))

-- the pieces of a run that was begun
pub begun_pieces : (callers : Values) (before_it one two : List PendingPiece) (code : PendingPiece) → before_it ≡ [] → one ≡ before_it ++ MainTrap ∷ [] → two ≡ one ++ code ∷ [] →
    pending_in callers two ≡ pending_of callers code ∷ main_catching in_main_frame ∷ []
begun_pieces callers before_it one two code e f g =
    ap (pending_in callers) (g ∙ ap (λ ps. ps ++ code ∷ []) (f ∙ ap (λ ps. ps ++ MainTrap ∷ []) e))

-- before the first turn the rest is the run
pub rest_first : (r : Rule) (script : Script) (budget : ℕ) (ending : Ending) (pieces : List PendingPiece) (h : RunState) →
    h ≡ first_state (keeps_rises h.debug) h.debug.rule h.debug.shape → limit_under r ≡ limit_under h.debug.rule → rest_at script budget r false ending pieces h ≡ whole_run (keeps_rises h.debug) script r budget h.debug.shape
unfolding rest left_to_do
rest_first r script budget ending pieces h start same =
    ap (λ a. whole_of (settled r (space_of r h.debug.shape) (process script budget h.debug.heap.placement) a))
    (ap account_of start
    ∙ ap (λ l. record { attempts = 0; trace = []; rises = first_rises (keeps_rises h.debug); notes = []; committed = min h.debug.shape.min (bound_below l) }) (sym same))
    ∙ ap (λ w. whole_of (settled r (space_of r h.debug.shape) (process script budget w) (before_of (keeps_rises h.debug) (space_of r h.debug.shape))))
    (ap (λ (x : RunState). x.debug.heap.placement) start)

-- `main` begins where attempt 1 was granted
pub granted_goes : (h : RunState) (locals : List Local) (gave : Gave) → is_granted gave ≡ true → (begun_by h locals gave).ending ≡ GoesOn
granted_goes h locals (G.Granted cell) e = refl
granted_goes h locals G.Denied e = cc
granted_goes h locals G.Ceiling e = cc

pub granted_enters : (h : RunState) (locals : List Local) (gave : Gave) → is_granted gave ≡ true → entered (started_by h gave) locals ≡ (begun_by h locals gave).state
granted_enters h locals (G.Granted cell) e = refl
granted_enters h locals G.Denied e = cc
granted_enters h locals G.Ceiling e = cc

-- and nothing does where it was refused
pub refused_ends : (h : RunState) (locals : List Local) (gave : Gave) → is_granted gave ≡ false → gave ≢ G.Ceiling → (begun_by h locals gave).ending ≡ NoCleanup
refused_ends h locals (G.Granted cell) e uncut = cc
refused_ends h locals G.Denied e uncut = refl
refused_ends h locals G.Ceiling e uncut = absurd (uncut refl)

pub refused_stays : (h : RunState) (locals : List Local) (gave : Gave) → is_granted gave ≡ false → started_by h gave ≡ (begun_by h locals gave).state
refused_stays h locals (G.Granted cell) e = cc
refused_stays h locals G.Denied e = refl
refused_stays h locals G.Ceiling e = refl
