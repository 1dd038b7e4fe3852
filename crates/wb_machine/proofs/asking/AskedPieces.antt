-- Whether pieces ask for an attempt at once, by the one on top.
use Rattle.std.proofs.Common.{◌≡◌, ℕ, zero, suc, ◌+◌, ◌-◌, ◌<◌, ◌⊎◌, inl, inr, length-append, Bool, true, false, List, [], ◌∷◌, ◌++◌, refl, ap, ◌∙◌, sym, subst, arith, Option, Some, None, length}
use Rattle.std.specs.Prelude.{nat_lt, slice_get}
use Rattle.std.proofs.lemmas.Bool.{lt-ltb, le-ltb}
use Rattle.wb_heap_model.specs.declared.heap.Kind.TheVariants.{Object}
use Rattle.wb_heap_model.specs.declared.heap.Ptr.{Ptr}
use Rattle.wb_tree.specs.declared.script.StatementAt.{StatementAt}
use Rattle.wb_tree.specs.declared.script.Script.{Script}
use Rattle.wb_tree.specs.declared.script.Statement.TheViews.{out-Statement}
use Rattle.wb_meaning.specs.State.{State, goes_on, Process, and_then}
use Rattle.wb_meaning.specs.Statements.{all, turns, destroy_items, destroy_object, Meaning, statement}
use Rattle.wb_meaning.specs.Meaning.{begun, begun_if, meaning_of}
use Rattle.wb_meaning.specs.Rest.{Pending, doing, resume}
use Rattle.wb_meaning.proofs.EachStatement.{statement-alike}
use Rattle.wb_meaning.proofs.AlikePieces.{between}
use Rattle.wb_meaning.proofs.MeaningLemmas.{anything}
use Rattle.wb_meaning.proofs.ResumeLemmas.{resume-all, resume-turns}
use Rattle.wb_machine.specs.declared.pieces.Ending.{Ending}
use Rattle.wb_machine.specs.declared.pieces.Ending.TheVariants.{GoesOn, Returns, Leaves, Panics, Cut, NoCleanup}
use Rattle.wb_machine.specs.declared.pieces.PendingPiece.{PendingPiece}
use Rattle.wb_machine.specs.declared.pieces.PendingPiece.TheVariants.{Code, Turns, Items, Object, Trap, Caught, MainTrap, MainCaught, Call}
use Rattle.wb_machine.specs.declared.pieces.Context.{Context}
use Rattle.wb_machine.specs.Flow.{context_of, is_nothing, needs_step, pending_in, is_over, progress_by, first_statement, AreOwn, IsOwn, IsSoundPiece, AreSound, IsReady}
use Rattle.wb_machine.specs.RunState.{RunState, state_of}
use Rattle.wb_machine.specs.Effects.{stepped}
use Rattle.wb_machine.specs.Asks.{asks_at, asks_next, statement_asks}
use Rattle.wb_machine.proofs.turns.Destructions.{resume_items, resume_object}
use Rattle.wb_machine.proofs.asking.Later.{IsLater, Onward, later_asks, later_higher, later_then, onward_all, asked_then, resume_later}
use Rattle.wb_machine.proofs.asking.NothingAsked.{items_later, object_later}
use Rattle.wb_machine.proofs.turns.Scripts.{own_first, sound_top}
use Rattle.wb_machine.proofs.turns.Steps.{pending_pushed}
use Rattle.wb_machine.proofs.asking.Asked.{statement_asked}

pub last_of : {X : Type 0} (xs : List X) (x : X) → slice_get (xs ++ x ∷ []) (length (xs ++ x ∷ []) - 1) ≡ Some x
last_of [] x = refl
last_of (y ∷ ys) x =
    let long : length (y ∷ (ys ++ x ∷ [])) - 1 ≡ suc (length (ys ++ x ∷ []) - 1) = omega (arith, length-append ys (x ∷ [])) in
    ap (λ i. slice_get (y ∷ (ys ++ x ∷ [])) i) long ∙ last_of ys x

-- whether pieces ask at once, by the one on top
module _ (script : Script) (budget : ℕ) where
  abbrev meant : Meaning
  meant = meaning_of script budget

  -- what a machine holds asks at once
  abbrev pub held_asks : Ending → List PendingPiece → RunState → Bool
  held_asks ending pieces h = asks_next script budget (progress_by ending (pending_in h.callers pieces) (state_of script h))

  begun_asks : (h : RunState) (go : State → Process) → h.steps < budget → asks_at (h.steps + 1) (begun budget (state_of script h) go) ≡ asks_at (h.steps + 1) (go (state_of script (stepped h)))
  unfolding begun begun_if
  begun_asks h go less = ap (λ b. asks_at (h.steps + 1) (begun_if b (state_of script h) go)) (lt-ltb h.steps budget less)

  cut_asks : (h : RunState) (go : State → Process) → h.steps ≡ budget → asks_at (h.steps + 1) (begun budget (state_of script h) go) ≡ false
  unfolding begun begun_if
  cut_asks h go at = ap (λ b. asks_at (h.steps + 1) (begun_if b (state_of script h) go)) (le-ltb h.steps budget (omega (arith, at)))

  pub code_asks : (pieces below : List PendingPiece) (context : Context) (s : StatementAt) (ss : List StatementAt) (h : RunState) →
      pending_in h.callers pieces ≡ doing (context_of context) (all (s ∷ ss)) ∷ pending_in h.callers below → h.steps < budget → IsOwn script (out-Statement s.statement) →
      held_asks GoesOn pieces h ≡ statement_asks script h (out-Statement s.statement)
  code_asks pieces below context s ss h is less own =
      let at = context_of context in
      let layer = out-Statement s.statement in
      let next : State = state_of script (stepped h) in
      let rest = resume script budget (doing at (all ss) ∷ pending_in h.callers below) in
      let L = between (anything script) (h.steps + 1) budget in
      ap (λ (ps : List Pending). asks_at (h.steps + 1) (resume script budget ps goes_on (state_of script h))) is
      ∙ ap (asks_at (h.steps + 1)) (resume-all script budget at s ss (pending_in h.callers below) (state_of script h) (omega (arith, less)))
      ∙ begun_asks h (λ st. and_then (statement script meant at (out-Statement s.statement) st) rest) less
      ∙ asked_then script budget (h.steps + 1) (statement script meant at layer next) rest
      (statement-alike L {ns = []} meant meant at layer next (onward_all script budget (h.steps + 1)) ((omega arith, omega (arith, less)), tt, tt)).1
      (λ w st least most. later_higher script budget (h.steps + 1) st.steps (rest w st) least (resume_later script budget (doing at (all ss) ∷ pending_in h.callers below) w st most))
      ∙ statement_asked script (stepped h) budget at layer (omega (arith, less))

  pub turns_ask : (pieces below : List PendingPiece) (context : Context) (n : ℕ) (body : List StatementAt) (h : RunState) →
      pending_in h.callers pieces ≡ doing (context_of context) (turns (suc n) body) ∷ pending_in h.callers below → h.steps < budget → held_asks GoesOn pieces h ≡ false
  turns_ask pieces below context n body h is less =
      let at = context_of context in
      let ps : List Pending = doing at (all body) ∷ doing at (turns n body) ∷ pending_in h.callers below in
      let next : State = state_of script (stepped h) in
      ap (λ (ps : List Pending). asks_at (h.steps + 1) (resume script budget ps goes_on (state_of script h))) is
      ∙ ap (asks_at (h.steps + 1)) (resume-turns script budget at n body (pending_in h.callers below) (state_of script h) (omega (arith, less)))
      ∙ begun_asks h (λ st. resume script budget ps goes_on st) less
      ∙ later_asks (h.steps + 1) (resume script budget ps goes_on next) (resume_later script budget ps goes_on next (omega (arith, less)))

  -- what follows a step that asks for nothing asks for nothing before a second one
  then_ask : (h : RunState) (p : Process) (below : List PendingPiece) → h.steps < budget → IsLater (h.steps + 1) p × Onward script budget (h.steps + 1) p →
      asks_at (h.steps + 1) (and_then p (resume script budget (pending_in h.callers below))) ≡ false
  then_ask h p below less later =
      later_asks (h.steps + 1) (and_then p (resume script budget (pending_in h.callers below))) (later_then script budget (h.steps + 1) p (resume script budget (pending_in h.callers below)) later.0 later.1
      (λ w st least most. later_higher script budget (h.steps + 1) st.steps (resume script budget (pending_in h.callers below) w st) least (resume_later script budget (pending_in h.callers below) w st most)))

  pub items_ask : (pieces below : List PendingPiece) (context : Context) (n : ℕ) (h : RunState) →
      pending_in h.callers pieces ≡ doing (context_of context) (destroy_items (suc n)) ∷ pending_in h.callers below → h.steps < budget → held_asks GoesOn pieces h ≡ false
  items_ask pieces below context n h is less =
      let at = context_of context in
      let next : State = state_of script (stepped h) in
      ap (λ (ps : List Pending). asks_at (h.steps + 1) (resume script budget ps goes_on (state_of script h))) is
      ∙ ap (asks_at (h.steps + 1)) (resume_items script budget at n (pending_in h.callers below) (state_of script h) (omega (arith, less)))
      ∙ begun_asks h _ less
      ∙ then_ask h _ below less (items_later script budget at n next (omega (arith, less)))

  pub object_asks : (pieces below : List PendingPiece) (context : Context) (p : Ptr) (h : RunState) →
      pending_in h.callers pieces ≡ doing (context_of context) (destroy_object p) ∷ pending_in h.callers below → h.steps < budget → held_asks GoesOn pieces h ≡ false
  object_asks pieces below context p h is less =
      let at = context_of context in
      let next : State = state_of script (stepped h) in
      ap (λ (ps : List Pending). asks_at (h.steps + 1) (resume script budget ps goes_on (state_of script h))) is
      ∙ ap (asks_at (h.steps + 1)) (resume_object script budget at p (pending_in h.callers below) (state_of script h) (omega (arith, less)))
      ∙ begun_asks h _ less
      ∙ then_ask h _ below less (object_later script budget at p next (omega (arith, less)))

  -- a run that is over
  pub over_asks : (ending : Ending) (pieces : List PendingPiece) (h : RunState) → is_over ending pieces ≡ true → held_asks ending pieces h ≡ false
  unfolding resume
  over_asks GoesOn [] h over = refl
  over_asks (Returns p) [] h over = refl
  over_asks (Leaves code) [] h over = refl
  over_asks GoesOn (p ∷ ps) h over = cc
  over_asks (Returns q) (p ∷ ps) h over = cc
  over_asks (Leaves code) (p ∷ ps) h over = cc
  over_asks (Panics p) pieces h over = refl
  over_asks (Cut why) pieces h over = refl
  over_asks NoCleanup pieces h over = refl

  -- at the budget
  pub ready_cut : (pieces below : List PendingPiece) (p : PendingPiece) (h : RunState) → pieces ≡ below ++ p ∷ [] → needs_step p ≡ true → h.steps ≡ budget → held_asks GoesOn pieces h ≡ false
  ready_cut pieces below (Code context statements) h is needs at = by statements.now refl
    where
      by : (ss : List StatementAt) → statements.now ≡ ss → held_asks GoesOn pieces h ≡ false
      by [] e = let x = ap is_nothing e in cc
      by (s ∷ ss) e =
          ap (λ (ps : List Pending). asks_at (h.steps + 1) (resume script budget ps goes_on (state_of script h)))
          (pending_pushed h.callers below pieces (Code context statements) is ∙ ap (λ (ss : List StatementAt). doing (context_of context) (all ss) ∷ pending_in h.callers below) e)
          ∙ ap (asks_at (h.steps + 1)) (resume-all script budget (context_of context) s ss (pending_in h.callers below) (state_of script h) (omega (arith, at)))
          ∙ cut_asks h _ at
  ready_cut pieces below (Turns context left body) h is needs at = by left refl
    where
      by : (n : ℕ) → left ≡ n → held_asks GoesOn pieces h ≡ false
      by zero e = let x = ap (λ k. nat_lt 0 k) e in cc
      by (suc n) e =
          ap (λ (ps : List Pending). asks_at (h.steps + 1) (resume script budget ps goes_on (state_of script h)))
          (pending_pushed h.callers below pieces (Turns context left body) is ∙ ap (λ k. doing (context_of context) (turns k body.now) ∷ pending_in h.callers below) e)
          ∙ ap (asks_at (h.steps + 1)) (resume-turns script budget (context_of context) n body.now (pending_in h.callers below) (state_of script h) (omega (arith, at)))
          ∙ cut_asks h _ at
  ready_cut pieces below (Items context left) h is needs at = by left refl
    where
      by : (n : ℕ) → left ≡ n → held_asks GoesOn pieces h ≡ false
      by zero e = let x = ap (λ k. nat_lt 0 k) e in cc
      by (suc n) e =
          ap (λ (ps : List Pending). asks_at (h.steps + 1) (resume script budget ps goes_on (state_of script h)))
          (pending_pushed h.callers below pieces (Items context left) is ∙ ap (λ k. doing (context_of context) (destroy_items k) ∷ pending_in h.callers below) e)
          ∙ ap (asks_at (h.steps + 1)) (resume_items script budget (context_of context) n (pending_in h.callers below) (state_of script h) (omega (arith, at)))
          ∙ cut_asks h _ at
  ready_cut pieces below (Object context p) h is needs at =
      ap (λ (ps : List Pending). asks_at (h.steps + 1) (resume script budget ps goes_on (state_of script h))) (pending_pushed h.callers below pieces (Object context p) is)
      ∙ ap (asks_at (h.steps + 1)) (resume_object script budget (context_of context) p (pending_in h.callers below) (state_of script h) (omega (arith, at)))
      ∙ cut_asks h _ at
  ready_cut pieces below (Trap context x entry) h is needs at = cc
  ready_cut pieces below (Caught x code) h is needs at = cc
  ready_cut pieces below MainTrap h is needs at = cc
  ready_cut pieces below (MainCaught code) h is needs at = cc
  ready_cut pieces below (Call base this after) h is needs at = cc

  -- what a statement asks that may not be there
  abbrev pub asked_of : RunState → Option StatementAt → Bool
  asked_of h (Some s) = statement_asks script h (out-Statement s.statement)
  asked_of h None = false

  -- a step is to come: the piece on top asks as its first statement does
  pub ready_asks : (pieces below : List PendingPiece) (p : PendingPiece) (h : RunState) → pieces ≡ below ++ p ∷ [] → needs_step p ≡ true → IsSoundPiece script p → h.steps < budget →
      held_asks GoesOn pieces h ≡ asked_of h (first_statement p)
  ready_asks pieces below (Code context statements) h is needs sound less = by statements.now refl
    where
      by : (ss : List StatementAt) → statements.now ≡ ss → held_asks GoesOn pieces h ≡ asked_of h (first_statement (Code context statements))
      by [] e = let x = ap is_nothing e in cc
      by (s ∷ ss) e =
          code_asks pieces below context s ss h (pending_pushed h.callers below pieces (Code context statements) is ∙ ap (λ (ss : List StatementAt). doing (context_of context) (all ss) ∷ pending_in h.callers below) e) less
          (own_first script s ss (subst (AreOwn script) e sound))
          ∙ sym (ap (λ (ss : List StatementAt). asked_of h (slice_get ss 0)) e)
  ready_asks pieces below (Turns context left body) h is needs sound less = by left refl
    where
      by : (n : ℕ) → left ≡ n → held_asks GoesOn pieces h ≡ false
      by zero e = let x = ap (λ k. nat_lt 0 k) e in cc
      by (suc n) e =
          turns_ask pieces below context n body.now h
          (pending_pushed h.callers below pieces (Turns context left body) is ∙ ap (λ k. doing (context_of context) (turns k body.now) ∷ pending_in h.callers below) e) less
  ready_asks pieces below (Items context left) h is needs sound less = by left refl
    where
      by : (n : ℕ) → left ≡ n → held_asks GoesOn pieces h ≡ false
      by zero e = let x = ap (λ k. nat_lt 0 k) e in cc
      by (suc n) e =
          items_ask pieces below context n h
          (pending_pushed h.callers below pieces (Items context left) is ∙ ap (λ k. doing (context_of context) (destroy_items k) ∷ pending_in h.callers below) e) less
  ready_asks pieces below (Object context p) h is needs sound less = object_asks pieces below context p h (pending_pushed h.callers below pieces (Object context p) is) less
  ready_asks pieces below (Trap context x entry) h is needs sound less = cc
  ready_asks pieces below (Caught x code) h is needs sound less = cc
  ready_asks pieces below MainTrap h is needs sound less = cc
  ready_asks pieces below (MainCaught code) h is needs sound less = cc
  ready_asks pieces below (Call base this after) h is needs sound less = cc

  -- the same of whatever is on top
  pub settled_asks : (ending : Ending) (pieces : List PendingPiece) (p : PendingPiece) (h : RunState) → slice_get pieces (length pieces - 1) ≡ Some p →
      (is_over ending pieces ≡ true) ⊎ IsReady ending pieces → is_over ending pieces ≡ false → AreSound script pieces → h.steps < budget →
      held_asks ending pieces h ≡ asked_of h (first_statement p)
  settled_asks ending pieces p h top (inl over) going sound less = let x = sym over ∙ going in cc
  settled_asks ending pieces p h top (inr ready) going sound less =
      let q = ready.2 in
      let same : Some q ≡ Some p = sym (last_of ready.1 q) ∙ sym (ap (λ (ps : List PendingPiece). slice_get ps (length ps - 1)) ready.3) ∙ top in
      ap (λ e. held_asks e pieces h) ready.0
      ∙ ready_asks pieces ready.1 q h ready.3 ready.4 (sound_top script ready.1 pieces q ready.3 sound) less
      ∙ ap (λ (o : Option PendingPiece). elim o [ None ↦ false | Some x ↦ asked_of h (first_statement x) ]) same

  -- a machine that a turn cuts asks for nothing
  pub settled_cut : (ending : Ending) (pieces : List PendingPiece) (h : RunState) → (is_over ending pieces ≡ true) ⊎ IsReady ending pieces → h.steps ≡ budget → held_asks ending pieces h ≡ false
  settled_cut ending pieces h (inl over) at = over_asks ending pieces h over
  settled_cut ending pieces h (inr ready) at = ap (λ e. held_asks e pieces h) ready.0 ∙ ready_cut pieces ready.1 ready.2 h ready.3 ready.4 at
