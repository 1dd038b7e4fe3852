-- What is still to do as a machine holds it, and which process of the definitions that is.
use Rattle.std.specs.Prelude.{◌≡◌, ℕ, ◌+◌, List, [], ◌∷◌, ◌++◌, Bool, true, false, not, nat_lt, ◌||◌, slice_get, reverse, length, take, drop, Option, None}
use Rattle.wb_heap_model.specs.declared.heap.Ptr.{Ptr}
use Rattle.wb_heap_model.specs.declared.heap.Rule.{Rule}
use Rattle.wb_meaning.specs.declared.run.Why.TheVariants.{Ceiling}
use Rattle.wb_tree.specs.declared.script.Script.{Script}
use Rattle.wb_tree.specs.declared.script.Body.{Body}
use Rattle.wb_tree.specs.declared.script.StatementAt.{StatementAt}
use Rattle.wb_tree.specs.declared.script.Statement.TheOpen.{Statement-F}
use Rattle.wb_tree.specs.Sound.{Scope, is_simple, is_pointer, is_nested, are_within, declared_in, fields_declared}
use Rattle.wb_heap_model.specs.Space.{space_of}
use Rattle.wb_meaning.specs.State.{State, Frame, Way, goes_on, returns, leaves, panics, is_cut, no_cleanup, Process, ends, stops, and_then}
use Rattle.wb_meaning.specs.Statements.{all, turns, destroy_items, destroy_object, Context, Layer, Meaning, statement, in_frame, plain}
use Rattle.wb_meaning.specs.Meaning.{meaning_of}
use Rattle.wb_heap_model.specs.Debug.{keeps_rises}
use Rattle.wb_meaning.specs.Run.{WholeRun, whole_of}
use Rattle.wb_meaning.specs.Account.{Settled, settled}
use Rattle.wb_heap_model.specs.SameRules.{Fits}
use Rattle.wb_meaning.specs.Rest.{Afterwards, nothing_more, gives_to, releases, after_frame, Pending, doing, catching, caught, calling, main_catching, main_caught, Progress, not_begun, going, has_stopped, resume, rest}
use Rattle.wb_machine.specs.declared.pieces.Ending.{Ending}
use Rattle.wb_machine.specs.declared.pieces.Ending.TheVariants.{GoesOn, Returns, Leaves, Panics, Cut, NoCleanup}
use Rattle.wb_machine.specs.declared.pieces.PendingPiece.{PendingPiece}
use Rattle.wb_machine.specs.declared.pieces.PendingPiece.TheVariants.{Code, Turns, Items, Object, Trap, Caught, MainTrap, MainCaught, Call}
use Rattle.wb_machine.specs.declared.pieces.After.{After}
use Rattle.wb_machine.specs.declared.pieces.After.TheVariants.{Nothing, Gives, Releases}
use Rattle.wb_machine.specs.declared.pieces.Context as pieces
use Rattle.wb_machine.specs.RunState.{Values, RunState, first_state, state_of, account_of}

-- `main` is in the first frame, over no items
abbrev pub in_main_frame : Context
in_main_frame = record { depth = 1; floor = 0 }

abbrev pub is_nothing : {A : Type 0} → List A → Bool
is_nothing [] = true
is_nothing (x ∷ xs) = false

abbrev pub context_of : pieces.Context → Context
context_of at = record { depth = at.depth; floor = at.floor }

-- what follows the end of a body
abbrev pub afterwards : After → Afterwards
afterwards Nothing = nothing_more
afterwards (Gives x) = gives_to x
afterwards (Releases p) = releases p

-- a frame, by the object whose body it runs and by its locals
abbrev pub frame_with : Ptr → Values → Frame
frame_with this locals = record { this = this; locals = locals }

-- a piece, over the locals of the frames below the innermost one
abbrev pub pending_of : Values → PendingPiece → Pending
pending_of callers (Code at statements) = doing (context_of at) (all statements.now)
pending_of callers (Turns at left body) = doing (context_of at) (turns left body.now)
pending_of callers (Items at left) = doing (context_of at) (destroy_items left)
pending_of callers (Object at p) = doing (context_of at) (destroy_object p)
pending_of callers (Trap at x entry) = catching (context_of at) x entry
pending_of callers (Caught x code) = caught x code
pending_of callers MainTrap = main_catching in_main_frame
pending_of callers (MainCaught code) = main_caught code
pending_of callers (Call base this after) = calling (frame_with this (drop base callers)) (afterwards after)

-- the locals of the frames below, once a piece is done
abbrev pub callers_under : Values → PendingPiece → Values
callers_under callers (Call base this after) = take base callers
callers_under callers _ = callers

-- a piece that begins with a step
abbrev pub needs_step : PendingPiece → Bool
needs_step (Code at statements) = not (is_nothing statements.now)
needs_step (Turns at left body) = nat_lt 0 left
needs_step (Items at left) = nat_lt 0 left
needs_step (Object at p) = true
needs_step _ = false

-- the statement that a piece begins with
abbrev pub first_statement : PendingPiece → Option StatementAt
first_statement (Code at statements) = slice_get statements.now 0
first_statement _ = None

-- statements as they are in a script
abbrev pub AreOwn : Script → List StatementAt → Type 0
AreOwn script statements =
    (scope : Scope) × (scope.fields ≡ fields_declared script.classes) × (trapped : Bool) × (depth : ℕ)
    × (are_within (declared_in script) scope depth trapped statements ≡ true)

-- a statement as it is in a script
pub record IsOwn (script : Script) (layer : Layer) : Type 0 where
  pub scope : Scope
  pub shaped : scope.fields ≡ fields_declared script.classes
  pub trapped : Bool
  pub depth : ℕ
  pub sound : is_nested (declared_in script) scope trapped (are_within (declared_in script) scope depth) layer ≡ true

-- a statement leaves steps to be taken, though no other is inside it
abbrev pub leaves_steps : Layer → Bool
leaves_steps (Statement-F.PopDestroy v) = true
leaves_steps _ = false

-- a statement with no other inside it, over a number of literals and the scope of a body
abbrev pub is_carried_out : ℕ → Scope → Bool → Layer → Bool
is_carried_out literals scope trapped (Statement-F.PushOperation p n) = is_pointer scope p
is_carried_out literals scope trapped layer = is_simple literals scope trapped layer

-- the same of one with no other inside it, and that leaves none
pub record IsSimple (script : Script) (layer : Layer) : Type 0 where
  pub scope : Scope
  pub shaped : scope.fields ≡ fields_declared script.classes
  pub trapped : Bool
  pub sound : is_carried_out (length script.literals) scope trapped layer ≡ true
  pub whole : leaves_steps layer ≡ false

-- a piece of the script's own statements
abbrev pub IsSoundPiece : Script → PendingPiece → Type 0
IsSoundPiece script (Code at statements) = AreOwn script statements.now
IsSoundPiece script (Turns at left body) = AreOwn script body.now
IsSoundPiece script (Items at left) = Unit {0}
IsSoundPiece script (Object at p) = Unit {0}
IsSoundPiece script (Trap at x entry) = Unit {0}
IsSoundPiece script (Caught x code) = Unit {0}
IsSoundPiece script MainTrap = Unit {0}
IsSoundPiece script (MainCaught code) = Unit {0}
IsSoundPiece script (Call base this after) = Unit {0}

abbrev pub AreSound : Script → List PendingPiece → Type 0
AreSound script [] = Unit {0}
AreSound script (p ∷ ps) = IsSoundPiece script p × AreSound script ps

-- An open TRAP weighs as much as the two pieces that a leave makes of it, and one more: so a piece that is done leaves less after.
abbrev pub weight : PendingPiece → ℕ
weight (Trap at x entry) = 3
weight MainTrap = 3
weight _ = 1

abbrev pub weight_of : List PendingPiece → ℕ
weight_of [] = 0
weight_of (p ∷ ps) = weight p + weight_of ps

-- the pending pieces, the innermost first, over the locals of the frames below
abbrev pub pending_from : Values → List PendingPiece → List Pending
pending_from callers [] = []
pending_from callers (p ∷ ps) = pending_of callers p ∷ pending_from (callers_under callers p) ps

abbrev pub pending_in : Values → List PendingPiece → List Pending
pending_in callers pieces = pending_from callers (reverse pieces)

-- the process that ended so
abbrev pub ended_by : Ending → State → Process
ended_by GoesOn st = ends goes_on st
ended_by (Returns p) st = ends (returns p) st
ended_by (Leaves code) st = ends (leaves code) st
ended_by (Panics p) st = stops (panics p) st
ended_by (Cut why) st = stops (is_cut why) st
ended_by NoCleanup st = stops no_cleanup st

abbrev pub is_stop : Ending → Bool
is_stop GoesOn = false
is_stop (Returns p) = false
is_stop (Leaves code) = false
is_stop (Panics p) = true
is_stop (Cut why) = true
is_stop NoCleanup = true

-- the ceiling cut the run
abbrev pub has_met_ceiling : Ending → Bool
has_met_ceiling (Cut Ceiling) = true
has_met_ceiling _ = false

-- nothing more is to do
abbrev pub is_over : Ending → List PendingPiece → Bool
is_over ending pieces = is_stop ending || is_nothing pieces

-- a step is to come: the piece on top begins with one
abbrev pub IsReady : Ending → List PendingPiece → Type 0
IsReady ending pieces = (ending ≡ GoesOn) × (below : List PendingPiece) × (p : PendingPiece) × (pieces ≡ below ++ p ∷ []) × (needs_step p ≡ true)

-- how far the run has come, once it was begun
abbrev pub progress_by : Ending → List Pending → State → Progress
progress_by GoesOn ps st = going ps goes_on st
progress_by (Returns p) ps st = going ps (returns p) st
progress_by (Leaves code) ps st = going ps (leaves code) st
progress_by (Panics p) ps st = has_stopped (panics p) st
progress_by (Cut why) ps st = has_stopped (is_cut why) st
progress_by NoCleanup ps st = has_stopped no_cleanup st

abbrev pub progress_of : Bool → Ending → List Pending → State → Progress
progress_of false ending ps st = not_begun st.heap.placement
progress_of true ending ps st = progress_by ending ps st

-- what a process comes to under a rule, from the state of a run on
unfoldable pub flow : Rule → Process → RunState → Settled
flow r p h = settled r (space_of r h.debug.shape) p (account_of h)

-- one process comes to the same as another, whatever follows
abbrev pub IsSameFlow : Rule → Process → RunState → Process → RunState → Type 0
IsSameFlow r p h q g = (k : Way → State → Process) → flow r (and_then p k) h ≡ flow r (and_then q k) g

-- a rule fits what a statement left that ended so
abbrev pub FitsStep : Rule → RunState → Ending → RunState → Type 0
FitsStep r h ending g = Fits r h.debug.rule (is_stop ending) g.debug.attempts

-- a statement was carried out that ended so and left this state, wherever it is: under each rule that fits, it comes to what it means
abbrev pub IsCarriedAnywhere : Script → Layer → RunState → Ending → RunState → Type 0
IsCarriedAnywhere script layer h ending g =
    (r : Rule) → FitsStep r h ending g → (rec : Meaning) (at : Context) →
    IsSameFlow r (ended_by ending (state_of script g)) g (statement script rec at layer (state_of script h)) h

-- the same where this number of items were at the entry of the innermost TRAP
abbrev pub IsCarriedOut : Script → ℕ → Layer → RunState → Ending → RunState → Type 0
IsCarriedOut script floor layer h ending g =
    (r : Rule) → FitsStep r h ending g → (rec : Meaning) (at : Context) → at.floor ≡ floor →
    IsSameFlow r (ended_by ending (state_of script g)) g (statement script rec at layer (state_of script h)) h

-- what is left of a run that was begun gives this under a rule
abbrev pub rest_from : Script → ℕ → Rule → Ending → List PendingPiece → RunState → WholeRun
rest_from script budget r ending pieces h =
    rest script budget h.debug.shape r (progress_by ending (pending_in h.callers pieces) (state_of script h)) (account_of h)

-- the same of a run that may not have begun
abbrev pub rest_at : Script → ℕ → Rule → Bool → Ending → List PendingPiece → RunState → WholeRun
rest_at script budget r begun ending pieces h =
    rest script budget h.debug.shape r (progress_of begun ending (pending_in h.callers pieces) (state_of script h)) (account_of h)

-- what a process gives under a rule, and then the pieces
abbrev pub rest_after : Script → ℕ → Rule → Process → List PendingPiece → RunState → WholeRun
rest_after script budget r p pieces h = whole_of (flow r (and_then p (resume script budget (pending_in h.callers pieces))) h)

-- the same of a statement that begins
abbrev pub rest_of_statement : Script → ℕ → Rule → Context → Layer → List PendingPiece → RunState → WholeRun
rest_of_statement script budget r at layer pieces h = rest_after script budget r (statement script (meaning_of script budget) at layer (state_of script h)) pieces h

-- the same of a body that begins in a frame of its own
abbrev pub rest_of_body : Script → ℕ → Rule → Context → Ptr → Values → Body → Afterwards → List PendingPiece → RunState → WholeRun
rest_of_body script budget r at this given body after pieces h =
    rest_after script budget r (in_frame (meaning_of script budget) at this given body (state_of script h) (plain (after_frame after))) pieces h

-- the same of a piece
abbrev pub rest_of_piece : Script → ℕ → Rule → Pending → List PendingPiece → RunState → WholeRun
rest_of_piece script budget r p pieces h = whole_of (flow r (resume script budget (p ∷ pending_in h.callers pieces) goes_on (state_of script h)) h)

-- the same of pieces under one that ended so
abbrev pub rest_under : Script → ℕ → Rule → Ending → List Pending → RunState → WholeRun
rest_under script budget r ending pending h = whole_of (flow r (and_then (ended_by ending (state_of script h)) (resume script budget pending)) h)

-- nothing is done yet, and nothing is to do
pub record IsFirst (ending : Ending) (pieces : List PendingPiece) (h : RunState) : Type 0 where
  pub goes_on : ending ≡ GoesOn
  pub nothing : pieces ≡ []
  pub start : h ≡ first_state (keeps_rises h.debug) h.debug.rule h.debug.shape
