-- The rest of a run, from turn to turn.
use Rattle.std.proofs.Common.{◌≡◌, ℕ, zero, suc, ◌<◌, true, Option, Some, None, List, [], ◌∷◌, ◌++◌, refl, ap, ◌∙◌, sym, arith}
use Rattle.std.specs.Prelude.{nat_lt}
use Rattle.std.proofs.lemmas.List.{reverse-append}
use Rattle.std.proofs.lemmas.Bool.{lt-ltb, le-ltb}
use Rattle.wb_heap_model.specs.declared.heap.TheConstants.Panic.{POP_BELOW_TRAP}
use Rattle.wb_heap_model.specs.declared.heap.Item.{Item}
use Rattle.wb_heap_model.specs.declared.heap.Ptr.{Ptr}
use Rattle.wb_heap_model.specs.declared.heap.Rule.{Rule}
use Rattle.wb_meaning.specs.declared.run.Why.TheVariants.{Budget}
use Rattle.wb_tree.specs.declared.script.Script.{Script}
use Rattle.wb_tree.specs.declared.script.StatementAt.{StatementAt}
use Rattle.wb_tree.specs.declared.script.Statement.TheViews.{out-Statement}
use Rattle.wb_meaning.specs.State.{goes_on, and_then, then_do, with_some}
use Rattle.wb_meaning.specs.Statements.{all, turns, destroy_items, destroy_object, drop_newest, destroyed_item, with_class, Context, statement}
use Rattle.wb_heap_model.specs.Pointers.{newest}
use Rattle.wb_meaning.specs.Meaning.{begun, begun_if, meaning_of}
use Rattle.wb_meaning.specs.Run.{whole_of}
use Rattle.wb_meaning.specs.Rest.{Pending, doing, resume, left_to_do, rest}
use Rattle.wb_meaning.proofs.ResumeLemmas.{resume-all, resume-turns}
use Rattle.wb_machine.proofs.turns.Destructions.{object_destroyed, resume_items, resume_object, item_there}
use Rattle.wb_machine.specs.declared.pieces.Ending.{Ending}
use Rattle.wb_machine.specs.declared.pieces.Ending.TheVariants.{GoesOn, Returns, Leaves, Panics, Cut, NoCleanup}
use Rattle.wb_machine.specs.declared.pieces.PendingPiece.{PendingPiece}
use Rattle.wb_machine.specs.declared.pieces.PendingPiece.TheVariants.{Code, Turns, Items, Object, Trap, Caught, MainTrap, MainCaught, Call}
use Rattle.wb_machine.specs.RunState.{Values, RunState, state_of}
use Rattle.wb_machine.specs.Effects.{stepped}
use Rattle.wb_machine.specs.Bodies.{without_newest}
use Rattle.wb_machine.specs.Flow.{context_of, is_nothing, pending_of, callers_under, needs_step, pending_from, pending_in, flow, rest_from, rest_after, rest_of_statement, rest_of_piece, rest_under}

-- one more piece on top
pub pending_pushed : (callers : Values) (ps more : List PendingPiece) (p : PendingPiece) → more ≡ ps ++ p ∷ [] → pending_in callers more ≡ pending_of callers p ∷ pending_in (callers_under callers p) ps
pending_pushed callers ps more p is = ap (λ (x : List PendingPiece). pending_in callers x) is ∙ ap (pending_from callers) (reverse-append ps (p ∷ []))

-- the rest is what the pieces make of how the one above them ended
pub rest_flow : (script : Script) (budget : ℕ) (r : Rule) (ending : Ending) (pieces : List PendingPiece) (h : RunState) →
    rest_from script budget r ending pieces h ≡ rest_under script budget r ending (pending_in h.callers pieces) h
unfolding rest left_to_do flow and_then
rest_flow script budget r GoesOn pieces h = refl
rest_flow script budget r (Returns p) pieces h = refl
rest_flow script budget r (Leaves code) pieces h = refl
rest_flow script budget r (Panics p) pieces h = refl
rest_flow script budget r (Cut why) pieces h = refl
rest_flow script budget r NoCleanup pieces h = refl

-- the same of pieces that are known
pub rest_known : (script : Script) (budget : ℕ) (r : Rule) (ending : Ending) (pieces : List PendingPiece) (pending : List Pending) (h : RunState) → pending_in h.callers pieces ≡ pending →
    rest_from script budget r ending pieces h ≡ rest_under script budget r ending pending h
rest_known script budget r ending pieces pending h is = rest_flow script budget r ending pieces h ∙ ap (λ (ps : List Pending). rest_under script budget r ending ps h) is

-- the rest with a piece on top that goes on
pub rest_on_top : (script : Script) (budget : ℕ) (r : Rule) (pieces below : List PendingPiece) (p : Pending) (h : RunState) → pending_in h.callers pieces ≡ p ∷ pending_in h.callers below →
    rest_from script budget r GoesOn pieces h ≡ rest_of_piece script budget r p below h
unfolding and_then
rest_on_top script budget r pieces below p h is = rest_known script budget r GoesOn pieces (p ∷ pending_in h.callers below) h is

-- a turn that begins the first statement of a block
pub rest_stepped : (script : Script) (budget : ℕ) (r : Rule) (at : Context) (s : StatementAt) (ss : List StatementAt) (below mid new : List PendingPiece) (ending : Ending) (h g : RunState) →
    pending_in h.callers mid ≡ doing at (all ss) ∷ pending_in h.callers below → h.steps < budget →
    rest_from script budget r ending new g ≡ rest_of_statement script budget r at (out-Statement s.statement) mid (stepped h) →
    rest_from script budget r ending new g ≡ rest_of_piece script budget r (doing at (all (s ∷ ss))) below h
unfolding flow begun begun_if
rest_stepped script budget r at s ss below mid new ending h g is within same =
    let layer = out-Statement s.statement in
    let M = meaning_of script budget in
    same
    ∙ ap (λ (ps : List Pending). whole_of (flow r (and_then (statement script M at layer (state_of script (stepped h))) (resume script budget ps)) (stepped h))) is
    ∙ sym (ap (λ x. whole_of (flow r x h)) (resume-all script budget at s ss (pending_in h.callers below) (state_of script h) (omega (arith, within)))
    ∙ ap (λ b. whole_of (flow r (begun_if b (state_of script h) (λ st. and_then (statement script M at layer st)
    (resume script budget (doing at (all ss) ∷ pending_in h.callers below)))) h)) (lt-ltb h.steps budget within))

-- a turn that begins a turn of a loop
pub rest_turned : (script : Script) (budget : ℕ) (r : Rule) (at : Context) (left n : ℕ) (body : List StatementAt) (below mid new : List PendingPiece) (h : RunState) →
    pending_in h.callers mid ≡ doing at (turns n body) ∷ pending_in h.callers below → pending_in h.callers new ≡ doing at (all body) ∷ pending_in h.callers mid → left ≡ suc n → h.steps < budget →
    rest_from script budget r GoesOn new (stepped h) ≡ rest_of_piece script budget r (doing at (turns left body)) below h
unfolding flow begun begun_if
rest_turned script budget r at left n body below mid new h is next count within =
    rest_on_top script budget r new mid (doing at (all body)) (stepped h) next
    ∙ ap (λ (ps : List Pending). whole_of (flow r (resume script budget (doing at (all body) ∷ ps) goes_on (state_of script (stepped h))) (stepped h))) is
    ∙ sym (ap (λ (k : ℕ). whole_of (flow r (resume script budget (doing at (turns k body) ∷ pending_in h.callers below) goes_on (state_of script h)) h)) count
    ∙ ap (λ x. whole_of (flow r x h)) (resume-turns script budget at n body (pending_in h.callers below) (state_of script h) (omega (arith, within)))
    ∙ ap (λ b. whole_of (flow r (begun_if b (state_of script h) (λ st. resume script budget (doing at (all body) ∷ doing at (turns n body) ∷ pending_in h.callers below) goes_on st)) h)) (lt-ltb h.steps budget within))

-- a turn that destroys an item, or finds none
pub rest_destroyed : (script : Script) (budget : ℕ) (r : Rule) (at : Context) (left n : ℕ) (item : Item) (below mid new : List PendingPiece) (ending : Ending) (h g : RunState) →
    pending_in h.callers mid ≡ doing at (destroy_items n) ∷ pending_in h.callers below → left ≡ suc n → h.steps < budget → newest h.items ≡ Some item →
    rest_from script budget r ending new g ≡ rest_after script budget r (destroyed_item script (meaning_of script budget) at item (state_of script (without_newest (stepped h)))) mid (without_newest (stepped h)) →
    rest_from script budget r ending new g ≡ rest_of_piece script budget r (doing at (destroy_items left)) below h
unfolding flow begun begun_if
rest_destroyed script budget r at left n item below mid new ending h g is count within there same =
    let st = state_of script h in
    let next = state_of script (stepped h) in
    let M = meaning_of script budget in
    same
    ∙ ap (λ (ps : List Pending). whole_of (flow r (and_then (destroyed_item script M at item (drop_newest 1 next)) (resume script budget ps)) h)) is
    ∙ sym (ap (λ (k : ℕ). whole_of (flow r (resume script budget (doing at (destroy_items k) ∷ pending_in h.callers below) goes_on st) h)) count
    ∙ ap (λ x. whole_of (flow r x h)) (resume_items script budget at n (pending_in h.callers below) st (omega (arith, within)))
    ∙ ap (λ b. whole_of (flow r (begun_if b st (λ st. and_then (with_some (newest st.items) POP_BELOW_TRAP st (λ item. then_do (destroyed_item script M at item (drop_newest 1 st)) (M at (destroy_items n)))) (resume script budget (pending_in h.callers below)))) h)) (lt-ltb h.steps budget within)
    ∙ ap (λ x. whole_of (flow r x h)) (item_there script budget at n item (newest h.items) (pending_in h.callers below) next there))

pub rest_undestroyed : (script : Script) (budget : ℕ) (r : Rule) (at : Context) (left n : ℕ) (below new : List PendingPiece) (h : RunState) →
    left ≡ suc n → h.steps < budget → newest h.items ≡ None →
    rest_from script budget r (Panics POP_BELOW_TRAP) new (without_newest (stepped h)) ≡ rest_of_piece script budget r (doing at (destroy_items left)) below h
unfolding flow begun begun_if with_some and_then
rest_undestroyed script budget r at left n below new h count within none =
    let st = state_of script h in
    let next = state_of script (stepped h) in
    let M = meaning_of script budget in
    rest_flow script budget r (Panics POP_BELOW_TRAP) new (without_newest (stepped h))
    ∙ sym (ap (λ (k : ℕ). whole_of (flow r (resume script budget (doing at (destroy_items k) ∷ pending_in h.callers below) goes_on st) h)) count
    ∙ ap (λ x. whole_of (flow r x h)) (resume_items script budget at n (pending_in h.callers below) st (omega (arith, within)))
    ∙ ap (λ b. whole_of (flow r (begun_if b st (λ st. and_then (with_some (newest st.items) POP_BELOW_TRAP st (λ item. then_do (destroyed_item script M at item (drop_newest 1 st)) (M at (destroy_items n)))) (resume script budget (pending_in h.callers below)))) h)) (lt-ltb h.steps budget within)
    ∙ ap (λ (o : Option Item). whole_of (flow r (and_then (with_some o POP_BELOW_TRAP next (λ item. then_do (destroyed_item script M at item (drop_newest 1 next)) (M at (destroy_items n)))) (resume script budget (pending_in h.callers below))) h)) none)

-- a turn that begins the destruction of an object
pub rest_unmade : (script : Script) (budget : ℕ) (r : Rule) (at : Context) (p : Ptr) (below new : List PendingPiece) (ending : Ending) (h g : RunState) → h.steps < budget →
    rest_from script budget r ending new g ≡ rest_after script budget r (with_class (state_of script (stepped h)) p (object_destroyed script budget at p (state_of script (stepped h)))) below (stepped h) →
    rest_from script budget r ending new g ≡ rest_of_piece script budget r (doing at (destroy_object p)) below h
unfolding flow begun begun_if
rest_unmade script budget r at p below new ending h g within same =
    let st = state_of script h in
    same
    ∙ sym (ap (λ x. whole_of (flow r x h)) (resume_object script budget at p (pending_in h.callers below) st (omega (arith, within)))
    ∙ ap (λ b. whole_of (flow r (begun_if b st (λ st. and_then (with_class st p (object_destroyed script budget at p st)) (resume script budget (pending_in h.callers below)))) h)) (lt-ltb h.steps budget within))

-- at the budget the rest is a cut
pub rest_cut : (script : Script) (budget : ℕ) (r : Rule) (ending : Ending) (pieces below : List PendingPiece) (p : PendingPiece) (h : RunState) →
    ending ≡ GoesOn → pieces ≡ below ++ p ∷ [] → needs_step p ≡ true → h.steps ≡ budget →
    rest_from script budget r (Cut Budget) pieces h ≡ rest_from script budget r ending pieces h
unfolding flow and_then begun begun_if
rest_cut script budget r ending pieces below (Code context statements) h goes was first at = by statements.now refl
  where
    by : (ss : List StatementAt) → statements.now ≡ ss → rest_from script budget r (Cut Budget) pieces h ≡ rest_from script budget r ending pieces h
    by [] e = let x = ap is_nothing e in cc
    by (s ∷ ss) e =
        let here = context_of context in
        rest_flow script budget r (Cut Budget) pieces h
        ∙ sym (ap (λ x. rest_from script budget r x pieces h) goes
        ∙ rest_on_top script budget r pieces below (doing here (all statements.now)) h (pending_pushed h.callers below pieces (Code context statements) was)
        ∙ ap (λ (ss : List StatementAt). whole_of (flow r (resume script budget (doing here (all ss) ∷ pending_in h.callers below) goes_on (state_of script h)) h)) e
        ∙ ap (λ x. whole_of (flow r x h)) (resume-all script budget here s ss (pending_in h.callers below) (state_of script h) (omega (arith, at)))
        ∙ ap (λ b. whole_of (flow r (begun_if b (state_of script h) (λ st. and_then (statement script (meaning_of script budget) here (out-Statement s.statement) st)
        (resume script budget (doing here (all ss) ∷ pending_in h.callers below)))) h)) (le-ltb h.steps budget (omega (arith, at))))
rest_cut script budget r ending pieces below (Turns context left body) h goes was first at = by left refl
  where
    here : Context
    here = context_of context

    by : (n : ℕ) → left ≡ n → rest_from script budget r (Cut Budget) pieces h ≡ rest_from script budget r ending pieces h
    by zero e = let x = ap (λ k. nat_lt 0 k) e in cc
    by (suc n) e =
        rest_flow script budget r (Cut Budget) pieces h
        ∙ sym (ap (λ x. rest_from script budget r x pieces h) goes
        ∙ rest_on_top script budget r pieces below (doing here (turns left body.now)) h (pending_pushed h.callers below pieces (Turns context left body) was)
        ∙ ap (λ (k : ℕ). whole_of (flow r (resume script budget (doing here (turns k body.now) ∷ pending_in h.callers below) goes_on (state_of script h)) h)) e
        ∙ ap (λ x. whole_of (flow r x h)) (resume-turns script budget here n body.now (pending_in h.callers below) (state_of script h) (omega (arith, at)))
        ∙ ap (λ b. whole_of (flow r (begun_if b (state_of script h) (λ st. resume script budget (doing here (all body.now) ∷ doing here (turns n body.now) ∷ pending_in h.callers below) goes_on st)) h))
        (le-ltb h.steps budget (omega (arith, at))))
rest_cut script budget r ending pieces below (Items context left) h goes was first at = by left refl
  where
    here : Context
    here = context_of context

    by : (n : ℕ) → left ≡ n → rest_from script budget r (Cut Budget) pieces h ≡ rest_from script budget r ending pieces h
    by zero e = let x = ap (λ k. nat_lt 0 k) e in cc
    by (suc n) e =
        rest_flow script budget r (Cut Budget) pieces h
        ∙ sym (ap (λ x. rest_from script budget r x pieces h) goes
        ∙ rest_on_top script budget r pieces below (doing here (destroy_items left)) h (pending_pushed h.callers below pieces (Items context left) was)
        ∙ ap (λ (k : ℕ). whole_of (flow r (resume script budget (doing here (destroy_items k) ∷ pending_in h.callers below) goes_on (state_of script h)) h)) e
        ∙ ap (λ x. whole_of (flow r x h)) (resume_items script budget here n (pending_in h.callers below) (state_of script h) (omega (arith, at)))
        ∙ ap (λ b. whole_of (flow r (begun_if b (state_of script h) (λ st. and_then (with_some (newest st.items) POP_BELOW_TRAP st (λ item. then_do (destroyed_item script (meaning_of script budget) here item (drop_newest 1 st))
        (meaning_of script budget here (destroy_items n)))) (resume script budget (pending_in h.callers below)))) h)) (le-ltb h.steps budget (omega (arith, at))))
rest_cut script budget r ending pieces below (Object context p) h goes was first at =
    rest_flow script budget r (Cut Budget) pieces h
    ∙ sym (ap (λ x. rest_from script budget r x pieces h) goes
    ∙ rest_on_top script budget r pieces below (doing (context_of context) (destroy_object p)) h (pending_pushed h.callers below pieces (Object context p) was)
    ∙ ap (λ x. whole_of (flow r x h)) (resume_object script budget (context_of context) p (pending_in h.callers below) (state_of script h) (omega (arith, at)))
    ∙ ap (λ b. whole_of (flow r (begun_if b (state_of script h) (λ st. and_then (with_class st p (object_destroyed script budget (context_of context) p st)) (resume script budget (pending_in h.callers below)))) h)) (le-ltb h.steps budget (omega (arith, at))))
rest_cut script budget r ending pieces below (Trap context x entry) h goes was first at = cc
rest_cut script budget r ending pieces below (Caught x code) h goes was first at = cc
rest_cut script budget r ending pieces below MainTrap h goes was first at = cc
rest_cut script budget r ending pieces below (MainCaught code) h goes was first at = cc
rest_cut script budget r ending pieces below (Call base this after) h goes was first at = cc
