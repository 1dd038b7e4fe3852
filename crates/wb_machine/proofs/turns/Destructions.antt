-- The turns that destroy items and objects, and what these come to.
use Rattle.std.proofs.Common.{◌≡◌, ℕ, suc, ◌≤◌, List, [], ◌∷◌, refl, ap, ◌∙◌, sym, Option, Some, None, Result, Ok, Err}
use Rattle.std.specs.Prelude.{unwrap_or, option_map, ok_or}
use Rattle.wb_heap_model.specs.declared.heap.TheConstants.Panic.{NULL_OR_STALE, WRONG_KIND, POP_BELOW_TRAP}
use Rattle.wb_heap_model.specs.declared.heap.Kind.{Kind}
use Rattle.wb_heap_model.specs.declared.heap.Kind.TheVariants.{Raw, Object, Text, Cleanup}
use Rattle.wb_heap_model.specs.declared.heap.Item.{Item}
use Rattle.wb_heap_model.specs.declared.heap.Panic.{Panic}
use Rattle.wb_heap_model.specs.declared.heap.Ptr.{Ptr}
use Rattle.wb_tree.specs.declared.script.Script.{Script}
use Rattle.wb_heap_model.specs.Row.{Cell, cell_at}
use Rattle.wb_meaning.specs.State.{State, goes_on, Process, stops, panics, and_then, on_plain_end, then_do, with_some}
use Rattle.wb_meaning.specs.Operands.{with_cell}
use Rattle.wb_meaning.specs.Statements.{destroy_items, destroy_object, Context, drop_newest, destroyed_item, with_class, in_frame, plain, release}
use Rattle.wb_heap_model.specs.Pointers.{newest}
use Rattle.wb_heap_model.specs.Contents.{class_of}
use Rattle.wb_tree.specs.Bodies.{class_at, no_body}
use Rattle.wb_meaning.specs.Meaning.{begun, piece, meaning_of}
use Rattle.wb_meaning.specs.Rest.{Pending, doing, resumed, resume}
use Rattle.wb_meaning.proofs.MeaningLemmas.{meaning_of-unfolds}
use Rattle.wb_meaning.proofs.ResumeLemmas.{and_then-assoc, begun-and_then}
use Rattle.wb_objects.specs.Objects.{class_of_cell}
use Rattle.wb_machine.specs.Bodies.{class_read}
use Rattle.wb_machine.specs.RunState.{RunState, read_cell, state_of}
use Rattle.wb_machine.proofs.kept.Rows.{read_cell_at}

module _ (script : Script) (budget : ℕ) where
  -- an object's destruction, once its class is known
  abbrev pub object_destroyed : Context → Ptr → State → ℕ → Process
  object_destroyed at p st class = in_frame (meaning_of script budget) at p [] (unwrap_or (class_at script class).destroy no_body) st (plain (λ _ st. release p st))

  -- the turn that destroys the newest item
  pub resume_items : (at : Context) (n : ℕ) (ps : List Pending) (st : State) → st.steps ≤ budget →
      resume script budget (doing at (destroy_items (suc n)) ∷ ps) goes_on st
      ≡ begun budget st (λ st. and_then (with_some (newest st.items) POP_BELOW_TRAP st (λ item. then_do (destroyed_item script (meaning_of script budget) at item (drop_newest 1 st)) (meaning_of script budget at (destroy_items n)))) (resume script budget ps))
  unfolding resume resumed on_plain_end piece
  resume_items at n ps st within =
      ap (λ p. and_then p (resume script budget ps)) (meaning_of-unfolds script budget at (destroy_items (suc n)) st within)
      ∙ begun-and_then budget st _ (resume script budget ps)

  -- the turn that begins the destruction of an object
  pub resume_object : (at : Context) (p : Ptr) (ps : List Pending) (st : State) → st.steps ≤ budget →
      resume script budget (doing at (destroy_object p) ∷ ps) goes_on st
      ≡ begun budget st (λ st. and_then (with_class st p (object_destroyed at p st)) (resume script budget ps))
  unfolding resume resumed on_plain_end piece
  resume_object at p ps st within =
      ap (λ q. and_then q (resume script budget ps)) (meaning_of-unfolds script budget at (destroy_object p) st within)
      ∙ begun-and_then budget st _ (resume script budget ps)

  -- an item that is there is destroyed, and then the others
  pub item_there : (at : Context) (n : ℕ) (item : Item) (o : Option Item) (ps : List Pending) (st : State) → o ≡ Some item →
      and_then (with_some o POP_BELOW_TRAP st (λ item. then_do (destroyed_item script (meaning_of script budget) at item (drop_newest 1 st)) (meaning_of script budget at (destroy_items n)))) (resume script budget ps)
      ≡ and_then (destroyed_item script (meaning_of script budget) at item (drop_newest 1 st)) (resume script budget (doing at (destroy_items n) ∷ ps))
  unfolding with_some then_do resume resumed
  item_there at n item None ps st is = cc
  item_there at n item (Some one) ps st is =
      let same : one ≡ item = cc in
      and_then-assoc (destroyed_item script (meaning_of script budget) at one (drop_newest 1 st)) _ (resume script budget ps)
      ∙ ap (λ x. and_then (destroyed_item script (meaning_of script budget) at x (drop_newest 1 st)) (resume script budget (doing at (destroy_items n) ∷ ps))) same

-- the class of an object is asked of its cell
module _ (script : Script) (h : RunState) (p : Ptr) (go : ℕ → Process) where
  abbrev classed : Result ℕ Panic → Process
  classed (Ok class) = go class
  classed (Err panic) = stops (panics panic) (state_of script h)

  class_in : (o : Option (Cell (List ℕ))) →
      with_some (option_map (read_cell script) o) NULL_OR_STALE (state_of script h) (λ c. with_some (class_of c.head.kind) WRONG_KIND (state_of script h) go) ≡ classed (class_of_cell o)
  unfolding with_some
  class_in None = refl
  class_in (Some c) = by c.head.kind
    where
      by : (kind : Kind) → with_some (class_of kind) WRONG_KIND (state_of script h) go ≡ classed (ok_or (class_of kind) WRONG_KIND)
      by (Object class) = refl
      by Raw = refl
      by Text = refl
      by Cleanup = refl

  pub class_is : with_class (state_of script h) p go ≡ classed (class_read h p)
  unfolding with_class with_cell
  class_is =
      ap (λ o. with_some o NULL_OR_STALE (state_of script h) (λ c. with_some (class_of c.head.kind) WRONG_KIND (state_of script h) go)) (read_cell_at script p h.debug.heap.row)
      ∙ class_in (cell_at p h.debug.heap.row)

  pub class_ok : (class : ℕ) → Ok class ≡ class_read h p → with_class (state_of script h) p go ≡ go class
  class_ok class is = class_is ∙ ap classed (sym is)

  pub class_refused : (panic : Panic) → Err panic ≡ class_read h p → with_class (state_of script h) p go ≡ stops (panics panic) (state_of script h)
  class_refused panic is = class_is ∙ ap classed (sym is)
