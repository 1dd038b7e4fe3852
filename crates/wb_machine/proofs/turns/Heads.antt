-- The pieces that the head of a block, or a call, leaves are what it means.
use Rattle.std.proofs.Common.{◌≡◌, ℕ, ◌+◌, ◌<◌, ◌≤◌, Bool, true, false, Ok, Err, List, [], ◌∷◌, ◌++◌, map, take, drop, length, refl, ap, ◌∙◌, sym, Option, Some, None}
use Rattle.std.specs.Prelude.{nat_le, unwrap_or}
use Rattle.std.proofs.lemmas.Bool.{lt-ltb, le-ltb, le-leb, lt-leb}
use Rattle.std.proofs.Math.Seq.{take-append_seam, drop-append_seam}
use Rattle.wb_basics.specs.declared.limits.TheConstants.{MOST_TURNS, MOST_FRAMES}
use Rattle.wb_heap_model.specs.declared.heap.TheConstants.Panic.{NUMBER_OUT_OF_RANGE, TOO_MANY_FRAMES, POP_BELOW_TRAP}
use Rattle.wb_heap_model.specs.declared.heap.Item.TheVariants as I
use Rattle.wb_heap_model.specs.declared.heap.Panic.{Panic}
use Rattle.wb_heap_model.specs.declared.heap.Ptr.{Ptr}
use Rattle.wb_heap_model.specs.declared.heap.Rule.{Rule}
use Rattle.wb_tree.specs.declared.script.Script.{Script}
use Rattle.wb_tree.specs.declared.script.Argument.{Argument}
use Rattle.wb_tree.specs.declared.script.Body.{Body}
use Rattle.wb_tree.specs.declared.script.Number.{Number}
use Rattle.wb_tree.specs.declared.script.Pointer.{Pointer}
use Rattle.wb_tree.specs.declared.script.StatementAt.{StatementAt}
use Rattle.wb_tree.specs.declared.script.Condition.{Condition}
use Rattle.wb_tree.specs.declared.script.Statement.TheOpen.{Statement-F}
use Rattle.wb_heap_model.specs.Pointers.{null, is_null}
use Rattle.wb_meaning.specs.State.{initial, pointer, Process, goes_on, and_then, on_plain_end, with_some, require}
use Rattle.wb_meaning.specs.Operands.{within, not_negative}
use Rattle.wb_meaning.specs.Statements.{all, turns, destroy_items, destroy_object, Context, Layer, statement, choice, trapped, in_frame, plain, with_class, release, destroyed_item, destroyed_object}
use Rattle.wb_tree.specs.Bodies.{procedure_at, operation_at, class_at, no_body}
use Rattle.wb_meaning.specs.Meaning.{piece, meaning_within, meaning_of}
use Rattle.wb_meaning.specs.Run.{whole_of}
use Rattle.wb_meaning.specs.Rest.{Pending, Afterwards, nothing_more, gives_to, releases, doing, catching, calling, after_frame, resumed, resume}
use Rattle.wb_meaning.proofs.ResumeLemmas.{and_then-assoc}
use Rattle.wb_machine.specs.declared.pieces.Ending.TheVariants.{GoesOn, Panics}
use Rattle.wb_machine.specs.declared.pieces.PendingPiece.{PendingPiece}
use Rattle.wb_machine.specs.RunState.{Values, RunState, state_of}
use Rattle.wb_machine.specs.Effects.{pointer_read, number_read, condition_read, framed_with}
use Rattle.wb_machine.specs.Bodies.{class_read}
use Rattle.wb_machine.specs.LocalValues.{passed}
use Rattle.wb_machine.specs.Flow.{frame_with, pending_in, flow, rest_from, rest_after, rest_of_statement, rest_of_body}
use Rattle.wb_machine.specs.PointerOperands.{first_refusal, of_condition, of_arguments, operands_refusal}
use Rattle.wb_machine.proofs.effects.PointerOperands.{one_asked, passed_by}
use Rattle.wb_machine.proofs.effects.Refused.{arguments_are, statement_refused}
use Rattle.wb_machine.proofs.effects.StatementEffects.{number_is}
use Rattle.wb_machine.proofs.effects.LeaveEffects.{condition_is}
use Rattle.wb_machine.proofs.turns.Destructions.{object_destroyed, class_ok, class_refused}
use Rattle.wb_machine.proofs.turns.Steps.{rest_flow, rest_known, rest_on_top}

module _ (script : Script) (budget : ℕ) (r : Rule) (at : Context) where
  pub chosen_rest : (c : Condition) (first other part : List StatementAt) (old new : List PendingPiece) (h : RunState) →
      pending_in h.callers new ≡ doing at (all part) ∷ pending_in h.callers old → part ≡ choice (condition_read script h c) first other → first_refusal h (of_condition c) ≡ None →
      rest_from script budget r GoesOn new h ≡ rest_of_statement script budget r at (Statement-F.IfElse c first other) old h
  unfolding resume resumed on_plain_end statement
  chosen_rest c first other part old new h is chosen ok =
      rest_on_top script budget r new old (doing at (all part)) h is
      ∙ ap (λ (ss : List StatementAt). whole_of (flow r (resume script budget (doing at (all ss) ∷ pending_in h.callers old) goes_on (state_of script h)) h)) chosen
      ∙ sym (ap (λ x. whole_of (flow r (and_then x (resume script budget (pending_in h.callers old))) h))
      (condition_is script h c (λ b. meaning_of script budget at (all (choice b first other)) (state_of script h)) ok))

  -- a part without a line is nothing to do
  pub nothing_chosen : (c : Condition) (first other part : List StatementAt) (old : List PendingPiece) (h : RunState) →
      part ≡ [] → part ≡ choice (condition_read script h c) first other → first_refusal h (of_condition c) ≡ None →
      rest_from script budget r GoesOn old h ≡ rest_of_statement script budget r at (Statement-F.IfElse c first other) old h
  unfolding and_then statement meaning_of meaning_within piece
  nothing_chosen c first other part old h none chosen ok =
      rest_flow script budget r GoesOn old h
      ∙ ap (λ (ss : List StatementAt). whole_of (flow r (and_then (meaning_of script budget at (all ss) (state_of script h)) (resume script budget (pending_in h.callers old))) h)) (sym none ∙ chosen)
      ∙ sym (ap (λ x. whole_of (flow r (and_then x (resume script budget (pending_in h.callers old))) h))
      (condition_is script h c (λ b. meaning_of script budget at (all (choice b first other)) (state_of script h)) ok))

  -- an `if` without an `else` has nothing to do where its condition doesn't hold
  pub if_as_choice : (c : Condition) (first : List StatementAt) (old : List PendingPiece) (h : RunState) →
      rest_of_statement script budget r at (Statement-F.IfElse c first []) old h ≡ rest_of_statement script budget r at (Statement-F.If c first) old h
  unfolding statement
  if_as_choice c first old h = refl

  turns_asked : (v : Number) (body : List StatementAt) (old : List PendingPiece) (h : RunState) (o : Option ℕ) → within MOST_TURNS (number_read h v) ≡ o →
      whole_of (flow r (and_then (with_some o NUMBER_OUT_OF_RANGE (state_of script h) (λ n. meaning_of script budget at (turns n body) (state_of script h))) (resume script budget (pending_in h.callers old))) h)
      ≡ rest_of_statement script budget r at (Statement-F.Repeat v body) old h
  unfolding statement
  turns_asked v body old h o e =
      sym (ap (λ z. whole_of (flow r (and_then (with_some (within MOST_TURNS z) NUMBER_OUT_OF_RANGE (state_of script h) (λ n. meaning_of script budget at (turns n body) (state_of script h))) (resume script budget (pending_in h.callers old))) h)) (number_is script h v)
      ∙ ap (λ (x : Option ℕ). whole_of (flow r (and_then (with_some x NUMBER_OUT_OF_RANGE (state_of script h) (λ n. meaning_of script budget at (turns n body) (state_of script h))) (resume script budget (pending_in h.callers old))) h)) e)

  pub turns_rest : (v : Number) (n : ℕ) (body : List StatementAt) (old new : List PendingPiece) (h : RunState) →
      pending_in h.callers new ≡ doing at (turns n body) ∷ pending_in h.callers old → within MOST_TURNS (number_read h v) ≡ Some n →
      rest_from script budget r GoesOn new h ≡ rest_of_statement script budget r at (Statement-F.Repeat v body) old h
  unfolding resume resumed on_plain_end with_some
  turns_rest v n body old new h is asked = rest_on_top script budget r new old (doing at (turns n body)) h is ∙ turns_asked v body old h (Some n) asked

  pub turns_refused : (v : Number) (body : List StatementAt) (old : List PendingPiece) (h : RunState) → within MOST_TURNS (number_read h v) ≡ None →
      rest_from script budget r (Panics NUMBER_OUT_OF_RANGE) old h ≡ rest_of_statement script budget r at (Statement-F.Repeat v body) old h
  unfolding with_some and_then
  turns_refused v body old h asked = rest_flow script budget r (Panics NUMBER_OUT_OF_RANGE) old h ∙ turns_asked v body old h None asked

  pub trap_rest : (x entry : ℕ) (body : List StatementAt) (old mid new : List PendingPiece) (h : RunState) → entry ≡ length h.items →
      pending_in h.callers mid ≡ catching at x entry ∷ pending_in h.callers old → pending_in h.callers new ≡ doing (record at { floor = entry }) (all body) ∷ pending_in h.callers mid →
      rest_from script budget r GoesOn new h ≡ rest_of_statement script budget r at (Statement-F.Trap x body) old h
  unfolding resume resumed on_plain_end statement
  trap_rest x entry body old mid new h all_of is next =
      let n = length h.items in
      rest_on_top script budget r new mid (doing (record at { floor = n }) (all body)) h (next ∙ ap (λ (k : ℕ). doing (record at { floor = k }) (all body) ∷ pending_in h.callers mid) all_of)
      ∙ ap (λ (ps : List Pending). whole_of (flow r (resume script budget (doing (record at { floor = n }) (all body) ∷ ps) goes_on (state_of script h)) h))
      (is ∙ ap (λ (k : ℕ). catching at x k ∷ pending_in h.callers old) all_of)
      ∙ ap (λ y. whole_of (flow r y h)) (sym (and_then-assoc (meaning_of script budget (record at { floor = n }) (all body) (state_of script h)) (trapped (meaning_of script budget) at x n)
      (resume script budget (pending_in h.callers old))))

  -- the destruction of the newest items, by their number
  pop_asked : (v : Number) (old : List PendingPiece) (h : RunState) (o : Option ℕ) → not_negative (number_read h v) ≡ o →
      rest_after script budget r (with_some o NUMBER_OUT_OF_RANGE (state_of script h) (λ n. require (nat_le (at.floor + n) (length h.items)) POP_BELOW_TRAP (state_of script h) (λ st. meaning_of script budget at (destroy_items n) st))) old h
      ≡ rest_of_statement script budget r at (Statement-F.PopDestroy v) old h
  unfolding statement
  pop_asked v old h o e =
      let go : Option ℕ → Process = λ x. with_some x NUMBER_OUT_OF_RANGE (state_of script h) (λ n. require (nat_le (at.floor + n) (length h.items)) POP_BELOW_TRAP (state_of script h) (λ st. meaning_of script budget at (destroy_items n) st)) in
      sym (ap (λ z. rest_after script budget r (go (not_negative z)) old h) (number_is script h v) ∙ ap (λ (x : Option ℕ). rest_after script budget r (go x) old h) e)

  pop_required : (v : Number) (n : ℕ) (b : Bool) (old : List PendingPiece) (h : RunState) → not_negative (number_read h v) ≡ Some n → nat_le (at.floor + n) (length h.items) ≡ b →
      rest_after script budget r (require b POP_BELOW_TRAP (state_of script h) (λ st. meaning_of script budget at (destroy_items n) st)) old h
      ≡ rest_of_statement script budget r at (Statement-F.PopDestroy v) old h
  unfolding with_some
  pop_required v n b old h asked e =
      ap (λ b. rest_after script budget r (require b POP_BELOW_TRAP (state_of script h) (λ st. meaning_of script budget at (destroy_items n) st)) old h) (sym e) ∙ pop_asked v old h (Some n) asked

  pub pop_rest : (v : Number) (n : ℕ) (old new : List PendingPiece) (h : RunState) → pending_in h.callers new ≡ doing at (destroy_items n) ∷ pending_in h.callers old →
      not_negative (number_read h v) ≡ Some n → at.floor + n ≤ length h.items →
      rest_from script budget r GoesOn new h ≡ rest_of_statement script budget r at (Statement-F.PopDestroy v) old h
  unfolding resume resumed on_plain_end require
  pop_rest v n old new h is asked enough = rest_on_top script budget r new old (doing at (destroy_items n)) h is ∙ pop_required v n true old h asked (le-leb (at.floor + n) (length h.items) enough)

  pub pop_below : (v : Number) (n : ℕ) (old : List PendingPiece) (h : RunState) → not_negative (number_read h v) ≡ Some n → length h.items < at.floor + n →
      rest_from script budget r (Panics POP_BELOW_TRAP) old h ≡ rest_of_statement script budget r at (Statement-F.PopDestroy v) old h
  unfolding require and_then
  pop_below v n old h asked few = rest_flow script budget r (Panics POP_BELOW_TRAP) old h ∙ pop_required v n false old h asked (lt-leb (at.floor + n) (length h.items) few)

  pub pop_refused : (v : Number) (old : List PendingPiece) (h : RunState) → not_negative (number_read h v) ≡ None →
      rest_from script budget r (Panics NUMBER_OUT_OF_RANGE) old h ≡ rest_of_statement script budget r at (Statement-F.PopDestroy v) old h
  unfolding with_some and_then
  pop_refused v old h asked = rest_flow script budget r (Panics NUMBER_OUT_OF_RANGE) old h ∙ pop_asked v old h None asked

  -- one frame deeper
  abbrev below : Context
  below = record at { depth = at.depth + 1 }

  -- a body begins: it is to be done, and then the caller's frame is current again
  pub body_rest : (this : Ptr) (given : Values) (body : Body) (after : Afterwards) (base : ℕ) (old new : List PendingPiece) (h g : RunState) →
      at.depth < MOST_FRAMES → base ≡ length h.callers → g ≡ framed_with h this given body.locals →
      pending_in g.callers new ≡ doing below (all body.statements) ∷ calling (frame_with h.this (drop base g.callers)) after ∷ pending_in (take base g.callers) old →
      rest_from script budget r GoesOn new g ≡ rest_of_body script budget r at this given body after old h
  unfolding and_then resume resumed on_plain_end in_frame require flow
  body_rest this given body after base old new h g shallow begins is next =
      let M = meaning_of script budget in
      let inner : RunState = framed_with h this given body.locals in
      let then_go = plain (after_frame after) in
      let rest = resume script budget (pending_in h.callers old) in
      let above : drop base g.callers ≡ h.locals = ap (λ n. drop n g.callers) begins ∙ ap (λ (x : RunState). drop (length h.callers) x.callers) is ∙ drop-append_seam h.callers h.locals in
      let under : take base g.callers ≡ h.callers = ap (λ n. take n g.callers) begins ∙ ap (λ (x : RunState). take (length h.callers) x.callers) is ∙ take-append_seam h.callers h.locals in
      rest_known script budget r GoesOn new (doing below (all body.statements) ∷ calling (frame_with h.this h.locals) after ∷ pending_in h.callers old) g
      (next ∙ ap (λ (vs : Values). doing below (all body.statements) ∷ calling (frame_with h.this vs) after ∷ pending_in (take base g.callers) old) above
      ∙ ap (λ (vs : Values). doing below (all body.statements) ∷ calling (frame_with h.this h.locals) after ∷ pending_in vs old) under)
      ∙ ap (λ (x : RunState). whole_of (flow r (resume script budget (doing below (all body.statements) ∷ calling (frame_with h.this h.locals) after ∷ pending_in h.callers old) goes_on (state_of script x)) x)) is
      ∙ ap (λ p. whole_of (flow r p h))
      (sym (and_then-assoc (M below (all body.statements) (state_of script inner)) (λ way st. then_go way (record st { frame = frame_with h.this h.locals })) rest))
      ∙ sym (ap (λ t. whole_of (flow r (and_then (require t TOO_MANY_FRAMES (state_of script h) (λ st. and_then (M below (all body.statements) (record st { frame = frame_with this (given ++ map initial body.locals) }))
      (λ way last. then_go way (record last { frame = st.frame })))) rest) h)) (lt-ltb at.depth MOST_FRAMES shallow))

  -- one frame too many
  pub body_refused : (this : Ptr) (given : Values) (body : Body) (after : Afterwards) (old : List PendingPiece) (h : RunState) → MOST_FRAMES ≤ at.depth →
      rest_from script budget r (Panics TOO_MANY_FRAMES) old h ≡ rest_of_body script budget r at this given body after old h
  unfolding in_frame require and_then
  body_refused this given body after old h deep =
      let M = meaning_of script budget in
      let then_go = plain (after_frame after) in
      let rest = resume script budget (pending_in h.callers old) in
      rest_flow script budget r (Panics TOO_MANY_FRAMES) old h
      ∙ sym (ap (λ t. whole_of (flow r (and_then (require t TOO_MANY_FRAMES (state_of script h) (λ st. and_then (M below (all body.statements) (record st { frame = frame_with this (given ++ map initial body.locals) }))
      (λ way last. then_go way (record last { frame = st.frame })))) rest) h)) (le-ltb at.depth MOST_FRAMES deep))

  -- what a call means, once its arguments are known
  pub call_as_body : (index : ℕ) (arguments : List Argument) (old : List PendingPiece) (h : RunState) → first_refusal h (of_arguments arguments) ≡ None →
      rest_of_body script budget r at null (map (passed script h) arguments) (procedure_at script index) nothing_more old h ≡ rest_of_statement script budget r at (Statement-F.Call index arguments) old h
  unfolding statement
  call_as_body index arguments old h ok =
      sym (ap (λ p. rest_after script budget r p old h) (arguments_are script h arguments _ ok))

  pub call_to_as_body : (x index : ℕ) (arguments : List Argument) (old : List PendingPiece) (h : RunState) → first_refusal h (of_arguments arguments) ≡ None →
      rest_of_body script budget r at null (map (passed script h) arguments) (procedure_at script index) (gives_to x) old h ≡ rest_of_statement script budget r at (Statement-F.CallTo x index arguments) old h
  unfolding statement
  call_to_as_body x index arguments old h ok =
      sym (ap (λ p. rest_after script budget r p old h) (arguments_are script h arguments _ ok))

  -- the body that makes an object, once its class is known, or what refuses its pointer
  construct_asked : (p : Pointer) (old : List PendingPiece) (h : RunState) → first_refusal h (p ∷ []) ≡ None →
      rest_after script budget r (with_class (state_of script h) (pointer_read script h p) (λ class. in_frame (meaning_of script budget) at (pointer_read script h p) [] (unwrap_or (class_at script class).construct no_body) (state_of script h) (plain (after_frame nothing_more)))) old h
      ≡ rest_of_statement script budget r at (Statement-F.Construct p) old h
  unfolding statement
  construct_asked p old h ok = sym (ap (λ y. rest_after script budget r y old h) (passed_by (state_of script h) _ (one_asked script h p _) ok))

  pub construct_as_body : (p : Pointer) (class : ℕ) (old : List PendingPiece) (h : RunState) → first_refusal h (p ∷ []) ≡ None → Ok class ≡ class_read h (pointer_read script h p) →
      rest_of_body script budget r at (pointer_read script h p) [] (unwrap_or (class_at script class).construct no_body) nothing_more old h ≡ rest_of_statement script budget r at (Statement-F.Construct p) old h
  construct_as_body p class old h ok is =
      sym (ap (λ y. rest_after script budget r y old h) (class_ok script h (pointer_read script h p) _ class is)) ∙ construct_asked p old h ok

  pub construct_refused : (p : Pointer) (panic : Panic) (old : List PendingPiece) (h : RunState) → first_refusal h (p ∷ []) ≡ None → Err panic ≡ class_read h (pointer_read script h p) →
      rest_from script budget r (Panics panic) old h ≡ rest_of_statement script budget r at (Statement-F.Construct p) old h
  construct_refused p panic old h ok is =
      rest_flow script budget r (Panics panic) old h
      ∙ sym (ap (λ y. rest_after script budget r y old h) (class_refused script h (pointer_read script h p) _ panic is)) ∙ construct_asked p old h ok

  -- the body that destroys one
  pub destroy_as_body : (p : Ptr) (class : ℕ) (old : List PendingPiece) (h : RunState) → Ok class ≡ class_read h p →
      rest_of_body script budget r at p [] (unwrap_or (class_at script class).destroy no_body) (releases p) old h
      ≡ rest_after script budget r (with_class (state_of script h) p (object_destroyed script budget at p (state_of script h))) old h
  destroy_as_body p class old h is = sym (ap (λ y. rest_after script budget r y old h) (class_ok script h p _ class is))

  pub destroy_refused : (p : Ptr) (panic : Panic) (old : List PendingPiece) (h : RunState) → Err panic ≡ class_read h p →
      rest_from script budget r (Panics panic) old h ≡ rest_after script budget r (with_class (state_of script h) p (object_destroyed script budget at p (state_of script h))) old h
  destroy_refused p panic old h is =
      rest_flow script budget r (Panics panic) old h ∙ sym (ap (λ y. rest_after script budget r y old h) (class_refused script h p _ panic is))

  -- a statement that is refused for an operand
  pub refused_rest : (layer : Layer) (panic : Panic) (old : List PendingPiece) (h : RunState) → operands_refusal h layer ≡ Some panic →
      rest_from script budget r (Panics panic) old h ≡ rest_of_statement script budget r at layer old h
  unfolding and_then
  refused_rest layer panic old h is =
      rest_flow script budget r (Panics panic) old h
      ∙ sym (ap (λ y. rest_after script budget r y old h) (statement_refused script h (meaning_of script budget) at layer panic is))

  -- the destruction of an object by its pointer
  pub delete_asked : (p : Pointer) (old : List PendingPiece) (h : RunState) → first_refusal h (p ∷ []) ≡ None →
      rest_after script budget r (destroyed_object (is_null (pointer_read script h p)) (meaning_of script budget) at (pointer_read script h p) (state_of script h)) old h
      ≡ rest_of_statement script budget r at (Statement-F.Delete p) old h
  unfolding statement
  delete_asked p old h ok = sym (ap (λ y. rest_after script budget r y old h) (passed_by (state_of script h) _ (one_asked script h p _) ok))

  -- of null it is nothing
  pub null_deleted : (p : Ptr) (old : List PendingPiece) (h : RunState) → is_null p ≡ true →
      rest_from script budget r GoesOn old h ≡ rest_after script budget r (destroyed_object (is_null p) (meaning_of script budget) at p (state_of script h)) old h
  unfolding destroyed_object and_then
  null_deleted p old h is =
      rest_flow script budget r GoesOn old h
      ∙ sym (ap (λ b. rest_after script budget r (destroyed_object b (meaning_of script budget) at p (state_of script h)) old h) is)

  pub object_deleted : (p : Ptr) (old new : List PendingPiece) (h : RunState) → pending_in h.callers new ≡ doing at (destroy_object p) ∷ pending_in h.callers old → is_null p ≡ false →
      rest_from script budget r GoesOn new h ≡ rest_after script budget r (destroyed_object (is_null p) (meaning_of script budget) at p (state_of script h)) old h
  unfolding destroyed_object resume resumed on_plain_end
  object_deleted p old new h is some =
      rest_on_top script budget r new old (doing at (destroy_object p)) h is
      ∙ sym (ap (λ b. rest_after script budget r (destroyed_object b (meaning_of script budget) at p (state_of script h)) old h) some)

  -- what destroys an item
  pub free_destroyed : (p : Ptr) (old : List PendingPiece) (h : RunState) → rest_after script budget r (release p (state_of script h)) old h ≡ rest_after script budget r (destroyed_item script (meaning_of script budget) at (I.Free p) (state_of script h)) old h
  unfolding destroyed_item
  free_destroyed p old h = refl

  pub delete_destroyed : (p : Ptr) (old : List PendingPiece) (h : RunState) →
      rest_after script budget r (destroyed_object (is_null p) (meaning_of script budget) at p (state_of script h)) old h
      ≡ rest_after script budget r (destroyed_item script (meaning_of script budget) at (I.Delete p) (state_of script h)) old h
  unfolding destroyed_item
  delete_destroyed p old h = refl

  pub call_destroyed : (p : Ptr) (operation : ℕ) (old : List PendingPiece) (h : RunState) →
      rest_of_body script budget r at null (pointer p ∷ []) (operation_at script operation) nothing_more old h
      ≡ rest_after script budget r (destroyed_item script (meaning_of script budget) at (I.Call p operation) (state_of script h)) old h
  unfolding destroyed_item
  call_destroyed p operation old h = refl
