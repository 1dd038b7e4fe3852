-- Which statements ask for no attempt before a further step is counted: all but those that allocate, reallocate or push.
use Rattle.std.proofs.Common.{◌≡◌, ℕ, ℤ, ◌+◌, ◌-◌, ◌≤◌, Bool, true, false, List, [], ◌∷◌, ◌++◌, map, length, refl, Option, Some, None, Result, Ok, Err, arith}
use Rattle.wb_heap_model.specs.declared.heap.Ptr.{Ptr}
use Rattle.wb_heap_model.specs.declared.heap.Panic.{Panic}
use Rattle.wb_heap_model.specs.declared.heap.TheConstants.Panic.{POP_BELOW_TRAP}
use Rattle.wb_heap_model.specs.declared.heap.Item.{Item}
use Rattle.wb_heap_model.specs.declared.heap.Item.TheVariants as I
use Rattle.wb_heap_model.specs.declared.text.Base.{Base}
use Rattle.wb_heap_model.specs.declared.text.Base.TheVariants as B
use Rattle.wb_tree.specs.declared.script.Pointer.{Pointer}
use Rattle.wb_tree.specs.declared.script.Pointer.TheVariants.{Held, Field}
use Rattle.wb_tree.specs.declared.script.Writable.{Writable}
use Rattle.wb_tree.specs.declared.script.Writable.TheVariants.{OwnBuffer, InCell}
use Rattle.wb_tree.specs.declared.script.Readable.{Readable}
use Rattle.wb_tree.specs.declared.script.Readable.TheVariants.{Of, ViewOf, Quoted}
use Rattle.wb_tree.specs.declared.script.Condition.{Condition}
use Rattle.wb_tree.specs.declared.script.Condition.TheVariants.{IsNull, NotNull, Equal, Less}
use Rattle.wb_tree.specs.declared.script.Argument.{Argument}
use Rattle.wb_tree.specs.declared.script.Argument.TheVariants.{Passed, Given}
use Rattle.wb_tree.specs.declared.script.Body.{Body}
use Rattle.wb_tree.specs.declared.script.Script.{Script}
use Rattle.wb_tree.specs.declared.script.Statement.TheOpen.{Statement-F}
use Rattle.wb_heap_model.specs.Row.{Cell, cell_at}
use Rattle.wb_heap_model.specs.Texts.{Edited, Part}
use Rattle.wb_heap_model.specs.Contents.{Content}
use Rattle.wb_meaning.specs.State.{Value, initial, pointer, number, set_local, State, Way, goes_on, returns, leaves, Process, on_plain_end, then_do, require, with_some, unless}
use Rattle.wb_heap_model.specs.Pointers.{null, is_null, newest}
use Rattle.wb_meaning.specs.Operands.{with_cell, with_fields, with_pointer}
use Rattle.wb_meaning.specs.Reading.{Source, whole, part, with_writable, with_readable, with_base, with_units, with_room, with_text_cell, write, write_view}
use Rattle.wb_meaning.specs.Statements.{with_words, all, Context, Layer, done, of_script, released, release, in_frame, plain, with_arguments, with_condition, leave_if, trapped, destroy_items, destroy_object, drop_newest, with_class, destroyed_item, destroyed_object, statement}
use Rattle.wb_tree.specs.Bodies.{procedure_at, operation_at}
use Rattle.wb_meaning.proofs.AlikeLemmas.{Fine, then_do-alike, with_some-alike, with_class-alike, release-alike}
use Rattle.wb_meaning.proofs.AlikeFrames.{plain-alike, in_frame-alike, destroyed_item-alike}
use Rattle.wb_meaning.proofs.AlikePieces.{between}
use Rattle.wb_meaning.proofs.MeaningLemmas.{anything}
use Rattle.wb_machine.proofs.turns.Destructions.{object_destroyed}
use Rattle.wb_machine.proofs.asking.Later.{IsLater, Onward, onward_all, later_higher, later_then, meaning_later, meant, destroyed_onward}

module _ (n : ℕ) where
  with_some_later : {A : Type 0} (o : Option A) (panic : Panic) (st : State) (go : A → Process) → ((a : A) → IsLater n (go a)) → IsLater n (with_some o panic st go)
  unfolding with_some
  with_some_later (Some a) panic st go k = k a
  with_some_later None panic st go k = tt

  require_later : (b : Bool) (panic : Panic) (st : State) (go : State → Process) → IsLater n (go st) → IsLater n (require b panic st go)
  unfolding require
  require_later true panic st go k = k
  require_later false panic st go k = tt

  unless_later : (o : Option Panic) (st : State) (go : State → Process) → IsLater n (go st) → IsLater n (unless o st go)
  unfolding unless
  unless_later (Some panic) st go k = tt
  unless_later None st go k = k

  with_cell_later : (st : State) (p : Ptr) (go : Cell Content → Process) → ((c : Cell Content) → IsLater n (go c)) → IsLater n (with_cell st p go)
  unfolding with_cell
  with_cell_later st p go k = with_some_later _ _ _ go k

  with_pointer_later : (st : State) (p : Pointer) (go : Ptr → Process) → ((q : Ptr) → IsLater n (go q)) → IsLater n (with_pointer st p go)
  unfolding with_pointer with_fields
  with_pointer_later st (Held holder) go k = k _
  with_pointer_later st (Field holder class i) go k = with_cell_later st _ _ (λ c. with_some_later _ _ _ _ (λ ps. k _))

  with_writable_later : (st : State) (d : Writable) (go : Base → Process) → ((b : Base) → IsLater n (go b)) → IsLater n (with_writable st d go)
  unfolding with_writable
  with_writable_later st (OwnBuffer i) go k = k _
  with_writable_later st (InCell p) go k = with_pointer_later st p _ (λ q. k _)

  with_readable_later : (st : State) (t : Readable) (go : Source → Process) → ((s : Source) → IsLater n (go s)) → IsLater n (with_readable st t go)
  unfolding with_readable
  with_readable_later st (Of d) go k = with_writable_later st d _ (λ b. k _)
  with_readable_later st (ViewOf i) go k = k _
  with_readable_later st (Quoted i) go k = k _

  with_text_cell_later : (st : State) (p : Ptr) (go : Cell Content → List ℕ → Process) → ((c : Cell Content) (us : List ℕ) → IsLater n (go c us)) → IsLater n (with_text_cell st p go)
  unfolding with_text_cell
  with_text_cell_later st p go k = with_cell_later st p _ (λ c. with_some_later _ _ _ (go c) (k c))

  with_base_later : (literals : List (List ℕ)) (st : State) (b : Base) (go : List ℕ → Process) → ((us : List ℕ) → IsLater n (go us)) → IsLater n (with_base literals st b go)
  unfolding with_base
  with_base_later literals st B.Nothing go k = k _
  with_base_later literals st (B.Literal i) go k = k _
  with_base_later literals st (B.Local i) go k = k _
  with_base_later literals st (B.Cell p) go k = with_text_cell_later st p _ (λ c us. k us)

  with_units_later : (literals : List (List ℕ)) (st : State) (s : Source) (go : List ℕ → Process) → ((us : List ℕ) → IsLater n (go us)) → IsLater n (with_units literals st s go)
  unfolding with_units
  with_units_later literals st (whole b) go k = with_base_later literals st b go k
  with_units_later literals st (part v) go k = with_base_later literals st _ _ (λ us. k _)

  with_room_later : (st : State) (b : Base) (go : ℕ → List ℕ → Process) → ((max : ℕ) (us : List ℕ) → IsLater n (go max us)) → IsLater n (with_room st b go)
  unfolding with_room
  with_room_later st (B.Local i) go k = k _ _
  with_room_later st (B.Cell p) go k = with_text_cell_later st p _ (λ c us. k _ us)
  with_room_later st B.Nothing go k = tt
  with_room_later st (B.Literal i) go k = tt

  write_later : (e : Edited) (st : State) (b : Base) (max : ℕ) → IsLater n (write e st b max)
  unfolding write
  write_later (Ok us) st b max = tt
  write_later (Err panic) st b max = tt

  write_view_later : (e : Result Part Panic) (st : State) (w : ℕ) (s : Source) → IsLater n (write_view e st w s)
  unfolding write_view
  write_view_later (Ok p) st w s = tt
  write_view_later (Err panic) st w s = tt

  release_later : (p : Ptr) (st : State) → IsLater n (release p st)
  unfolding release released
  release_later p st = by (is_null p)
    where
      found : (o : Option (Cell Content)) → IsLater n (released o p st)
      found None = tt
      found (Some c) = tt

      by : (b : Bool) → IsLater n (elim b [ true ↦ done st | false ↦ released (of_script (cell_at p st.heap.row)) p st ])
      by true = tt
      by false = found (of_script (cell_at p st.heap.row))

  with_words_later : (st : State) (p : Ptr) (go : Cell Content → List ℤ → Process) → ((c : Cell Content) (ws : List ℤ) → IsLater n (go c ws)) → IsLater n (with_words st p go)
  unfolding with_words
  with_words_later st p go k = with_cell_later st p _ (λ c. with_some_later _ _ _ (go c) (k c))

  leave_if_later : (b : Bool) (code : ℤ) (st : State) → IsLater n (leave_if b code st)
  unfolding leave_if
  leave_if_later true code st = tt
  leave_if_later false code st = tt

  with_condition_later : (st : State) (c : Condition) (go : Bool → Process) → ((b : Bool) → IsLater n (go b)) → IsLater n (with_condition st c go)
  unfolding with_condition
  with_condition_later st (IsNull p) go k = with_pointer_later st p _ (λ q. k _)
  with_condition_later st (NotNull p) go k = with_pointer_later st p _ (λ q. k _)
  with_condition_later st (Equal v w) go k = k _
  with_condition_later st (Less v w) go k = k _

  with_arguments_later : (st : State) (arguments : List Argument) (go : List Value → Process) → ((vs : List Value) → IsLater n (go vs)) → IsLater n (with_arguments st arguments go)
  unfolding with_arguments
  with_arguments_later st [] go k = k _
  with_arguments_later st (Passed p ∷ rest) go k = with_pointer_later st p _ (λ q. with_arguments_later st rest _ (λ vs. k _))
  with_arguments_later st (Given v ∷ rest) go k = with_arguments_later st rest _ (λ vs. k _)

-- what a statement is made of that no other is inside: no part asks for anything, unless what follows does
ruleset in_turn = (with_some_later, require_later, unless_later, with_cell_later, with_pointer_later, with_writable_later, with_readable_later, with_text_cell_later, with_base_later, with_units_later, with_room_later, write_later, write_view_later, release_later, with_words_later, leave_if_later)

-- statements that may ask for an attempt
abbrev pub may_ask : Layer → Bool
may_ask (Statement-F.Alloc p v x) = true
may_ask (Statement-F.Realloc p q v x) = true
may_ask (Statement-F.NewText p v x) = true
may_ask (Statement-F.ReallocText p q v) = true
may_ask (Statement-F.New p class x) = true
may_ask (Statement-F.Push p) = true
may_ask (Statement-F.PushObject p) = true
may_ask (Statement-F.PushOperation p operation) = true
may_ask _ = false

module _ (script : Script) (budget : ℕ) where
  plain_later : (n : ℕ) (go : Ptr → State → Process) (w : Way) (st : State) → ((p : Ptr) (st : State) → IsLater n (go p st)) → IsLater n (plain go w st)
  unfolding plain
  plain_later n go goes_on st k = k _ st
  plain_later n go (returns p) st k = k p st
  plain_later n go (leaves code) st k = tt

  frame_later : (at : Context) (this : Ptr) (given : List Value) (body : Body) (st : State) (go : Ptr → State → Process) → st.steps ≤ budget → ((p : Ptr) (st' : State) → IsLater st.steps (go p st')) →
      IsLater st.steps (in_frame (meant script budget) at this given body st (plain go))
  unfolding in_frame
  frame_later at this given body st go within k =
      let below : Context = record at { depth = at.depth + 1 } in
      let inner : State = record st { frame = record { this = this; locals = given ++ map initial body.locals } } in
      let m = meaning_later script budget below (all body.statements) inner within in
      require_later st.steps _ _ st _ (later_then script budget st.steps ((meant script budget) below (all body.statements) inner) (λ way after. plain go way (record after { frame = st.frame })) m.0 m.1
      (λ w st' least most. plain_later st.steps go w (record st' { frame = st.frame }) k))

  with_class_later : (st : State) (p : Ptr) (go : ℕ → Process) → ((class : ℕ) → IsLater st.steps (go class)) → IsLater st.steps (with_class st p go)
  unfolding with_class
  with_class_later st p go k = with_cell_later st.steps st p _ (λ c. with_some_later st.steps _ _ _ _ k)

  deleted_later : (b : Bool) (at : Context) (p : Ptr) (st : State) → st.steps ≤ budget → IsLater st.steps (destroyed_object b (meant script budget) at p st)
  unfolding destroyed_object
  deleted_later true at p st within = tt
  deleted_later false at p st within = (meaning_later script budget at (destroy_object p) st within).0

  item_later : (at : Context) (item : Item) (st : State) → st.steps ≤ budget → IsLater st.steps (destroyed_item script (meant script budget) at item st)
  unfolding destroyed_item
  item_later at (I.Free p) st within = release_later st.steps p st
  item_later at (I.Delete p) st within = deleted_later (is_null p) at p st within
  item_later at (I.Call p operation) st within = frame_later at null (pointer p ∷ []) (operation_at script operation) st _ within (λ p st'. tt)

  -- the destruction of an item asks for nothing before a further step, nor do those that follow
  pub items_later : (at : Context) (n : ℕ) (st : State) → st.steps ≤ budget →
      let p = with_some (newest st.items) POP_BELOW_TRAP st (λ item. then_do (destroyed_item script (meant script budget) at item (drop_newest 1 st)) (meant script budget at (destroy_items n))) in
      IsLater st.steps p × Onward script budget st.steps p
  unfolding then_do on_plain_end
  items_later at n st within =
      let L = between (anything script) st.steps budget in
      let k = onward_all script budget st.steps in
      let fine : Fine L [] st = ((omega arith, within), tt, tt) in (
        with_some_later st.steps _ _ _ _ (λ item.
            let one = (destroyed_item-alike L script (meant script budget) (meant script budget) at item (drop_newest 1 st) k fine).1 in
            later_then script budget st.steps (destroyed_item script (meant script budget) at item (drop_newest 1 st)) (λ way st. on_plain_end way st (meant script budget at (destroy_items n)))
            (item_later at item (drop_newest 1 st) within) one (λ w st' least most. rest_later w st' least most)),
        (with_some-alike L _ _ _ _ _ fine (λ item _. then_do-alike L _ _ _ _ _ (destroyed_item-alike L script (meant script budget) (meant script budget) at item _ k fine) (λ ns st g. k ns _ _ st g))).1,
      )
    where
      rest_later : (w : Way) (st' : State) → st.steps ≤ st'.steps → st'.steps ≤ budget → IsLater st.steps (on_plain_end w st' (meant script budget at (destroy_items n)))
      rest_later goes_on st' least most = later_higher script budget st.steps st'.steps (meant script budget at (destroy_items n) st') least (meaning_later script budget at (destroy_items n) st' most).0
      rest_later (returns p) st' least most = tt
      rest_later (leaves code) st' least most = tt

  -- nor does the destruction of an object
  pub object_later : (at : Context) (p : Ptr) (st : State) → st.steps ≤ budget →
      IsLater st.steps (with_class st p (object_destroyed script budget at p st)) × Onward script budget st.steps (with_class st p (object_destroyed script budget at p st))
  object_later at p st within =
      let L = between (anything script) st.steps budget in
      let k = onward_all script budget st.steps in
      let fine : Fine L [] st = ((omega arith, within), tt, tt) in (
        with_class_later st p _ (λ class. frame_later at p [] _ st _ within (λ q st'. release_later st.steps p st')),
        (with_class-alike L _ _ _ _ fine (λ n. in_frame-alike L _ _ _ _ _ _ _ _ _ k fine (λ ns w st g. plain-alike L _ _ w st g (λ _ st g. release-alike L _ _ g)))).1,
      )

  trap_later : (at : Context) (x entry : ℕ) (w : Way) (low : ℕ) (st : State) → low ≤ st.steps → st.steps ≤ budget → IsLater low (trapped (meant script budget) at x entry w st)
  unfolding trapped
  trap_later at x entry goes_on low st least most = require_later low _ _ st _ tt
  trap_later at x entry (returns p) low st least most = tt
  trap_later at x entry (leaves code) low st least most =
      later_higher script budget low st.steps (trapped (meant script budget) at x entry (leaves code) st) least
      (destroyed_onward script budget at (length st.items - entry) st (λ st. done (set_local st x (number code))) most (λ low st. tt) (λ ns st g. (refl, g))).0

  -- one that doesn't asks for nothing before a further step is counted, nor does what is inside it
  pub nothing_asked : (at : Context) (layer : Layer) (st : State) → st.steps ≤ budget → may_ask layer ≡ false → IsLater st.steps (statement script (meant script budget) at layer st)
  unfolding statement
  nothing_asked at (Statement-F.Construct p) st within plain =
      with_pointer_later st.steps st p _ (λ q. with_class_later st q _ (λ class. frame_later at q [] _ st _ within (λ p st'. tt)))
  nothing_asked at (Statement-F.Delete p) st within plain = with_pointer_later st.steps st p _ (λ q. deleted_later (is_null q) at q st within)
  nothing_asked at (Statement-F.PopDestroy v) st within plain =
      with_some_later st.steps _ _ _ _ (λ n. require_later st.steps _ _ st _ (meaning_later script budget at (destroy_items n) st within).0)
  nothing_asked at (Statement-F.Call index arguments) st within plain =
      with_arguments_later st.steps st arguments _ (λ given. frame_later at null given (procedure_at script index) st _ within (λ p st'. tt))
  nothing_asked at (Statement-F.CallTo x index arguments) st within plain =
      with_arguments_later st.steps st arguments _ (λ given. frame_later at null given (procedure_at script index) st _ within (λ p st'. tt))
  nothing_asked at (Statement-F.If c first) st within plain = with_condition_later st.steps st c _ (λ b. (meaning_later script budget at _ st within).0)
  nothing_asked at (Statement-F.IfElse c first other) st within plain = with_condition_later st.steps st c _ (λ b. (meaning_later script budget at _ st within).0)
  nothing_asked at (Statement-F.Repeat v body) st within plain = with_some_later st.steps _ _ _ _ (λ k. (meaning_later script budget at _ st within).0)
  nothing_asked at (Statement-F.Trap x body) st within plain =
      let entry = length st.items in
      let m = meaning_later script budget (record at { floor = entry }) (all body) st within in
      later_then script budget st.steps _ _ m.0 m.1 (λ w st' least most. trap_later at x entry w st.steps st' least most)
  nothing_asked at _ st within plain = first_of (cc, search in_turn depth 9)
