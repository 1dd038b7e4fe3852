-- Ways of going on that ask for no attempt, and bodies that do.
use Rattle.std.proofs.Common.{◌≡◌, refl, ℕ, ℤ, suc, ◌+◌, ◌-◌, List, Bool, true, false, ◌&&◌, IsTrue, Option, Some, None, nat_lt, length, take}
use Rattle.std.specs.List.{list_all}
use Rattle.wb_basics.specs.declared.limits.TheConstants.{DEEPEST_BLOCK}
use Rattle.wb_heap_model.specs.declared.heap.Ptr.{Ptr}
use Rattle.wb_heap_model.specs.declared.heap.Item.{Item}
use Rattle.wb_heap_model.specs.declared.heap.Panic.{Panic}
use Rattle.wb_heap_model.specs.declared.text.Base.{Base}
use Rattle.wb_heap_model.specs.declared.text.Base.TheVariants as B
use Rattle.wb_tree.specs.declared.script.Body.{Body}
use Rattle.wb_tree.specs.declared.script.Condition.{Condition}
use Rattle.wb_tree.specs.declared.script.Condition.TheVariants.{IsNull, NotNull, Equal, Less}
use Rattle.wb_tree.specs.declared.script.Holder.TheVariants as H
use Rattle.wb_tree.specs.declared.script.Pointer.{Pointer}
use Rattle.wb_tree.specs.declared.script.Pointer.TheVariants.{Held, Field}
use Rattle.wb_tree.specs.declared.script.Writable.TheVariants.{OwnBuffer, InCell}
use Rattle.wb_tree.specs.declared.script.Readable.{Readable}
use Rattle.wb_tree.specs.declared.script.Readable.TheVariants.{Of, ViewOf, Quoted}
use Rattle.wb_heap_model.specs.Row.{Cell, cell_at}
use Rattle.wb_heap_model.specs.Contents.{Content}
use Rattle.wb_meaning.specs.State.{Value, State, Way, goes_on, returns, leaves, Process, ends, stops, asks, notes, and_then, on_plain_end, then_do, require, with_some}
use Rattle.wb_meaning.specs.Operands.{with_cell, with_fields, with_pointer, set_pointer}
use Rattle.wb_meaning.specs.Reading.{Source, whole, part, with_writable, with_readable, with_text_cell, with_base, with_units}
use Rattle.wb_meaning.specs.Statements.{Todo, all, turns, destroy_items, destroy_object, Context, Meaning, released, of_script, release, with_words, in_frame, with_class, destroyed_object, with_condition}
use Rattle.wb_heap_model.specs.Pointers.{is_null}
use Rattle.wb_meaning.specs.Meaning.{begun_if, begun}
use Rattle.wb_tree.specs.Quiet.{is_quiet_body, is_quiet_local, are_quiet}
use Rattle.wb_meaning.specs.Destructions.{GoesOnWith}

pub both : (a b : Bool) → (a && b) ≡ true → (a ≡ true) × (b ≡ true)
both true b e = (refl, e)
both false b e = let clash : ⊥ = cc in absurd clash

-- with these items at its end
module _ (items : List Item) where
  abbrev pub Goes : Process → Type 0
  Goes p = GoesOnWith items p

  pub and_then-goes : (before : List Item) (p : Process) (go : Way → State → Process) → GoesOnWith before p → ((st : State) → st.items ≡ before → Goes (go goes_on st)) → Goes (and_then p go)
  unfolding and_then
  and_then-goes before (ends goes_on st) go is h = h st is
  and_then-goes before (ends (returns p) st) go is h = absurd is
  and_then-goes before (ends (leaves code) st) go is h = absurd is
  and_then-goes before (stops stop st) go is h = is
  and_then-goes before (asks t cut answered) go is h = absurd is
  and_then-goes before (notes q p) go is h = and_then-goes before p go is h

  pub then_do-goes : (before : List Item) (p : Process) (go : State → Process) → GoesOnWith before p → ((st : State) → st.items ≡ before → Goes (go st)) → Goes (then_do p go)
  unfolding then_do on_plain_end
  then_do-goes before p go is h = and_then-goes before p _ is h

  pub require-goes : (b : Bool) (panic : Panic) (st : State) (go : State → Process) → Goes (go st) → Goes (require b panic st go)
  unfolding require
  require-goes true panic st go h = h
  require-goes false panic st go h = tt

  pub with_some-goes : {A : Type 0} (o : Option A) (panic : Panic) (st : State) (go : A → Process) → ((a : A) → Goes (go a)) → Goes (with_some o panic st go)
  unfolding with_some
  with_some-goes (Some a) panic st go h = h a
  with_some-goes None panic st go h = tt

  pub with_cell-goes : (st : State) (p : Ptr) (go : Cell Content → Process) → ((c : Cell Content) → Goes (go c)) → Goes (with_cell st p go)
  unfolding with_cell
  with_cell-goes st p go h = with_some-goes _ _ _ _ h

  pub with_pointer-goes : (st : State) (p : Pointer) (go : Ptr → Process) → ((q : Ptr) → Goes (go q)) → Goes (with_pointer st p go)
  unfolding with_pointer with_fields
  with_pointer-goes st (Held h) go k = k _
  with_pointer-goes st (Field h class i) go k = with_cell-goes _ _ _ (λ c. with_some-goes _ _ _ _ (λ ps. k _))

  pub with_words-goes : (st : State) (p : Ptr) (go : Cell Content → List ℤ → Process) → ((c : Cell Content) (ws : List ℤ) → Goes (go c ws)) → Goes (with_words st p go)
  unfolding with_words
  with_words-goes st p go h = with_cell-goes _ _ _ (λ c. with_some-goes _ _ _ _ (h c))

  pub with_class-goes : (st : State) (p : Ptr) (go : ℕ → Process) → ((class : ℕ) → Goes (go class)) → Goes (with_class st p go)
  unfolding with_class
  with_class-goes st p go h = with_cell-goes _ _ _ (λ c. with_some-goes _ _ _ _ h)

  pub with_condition-goes : (st : State) (c : Condition) (go : Bool → Process) → ((b : Bool) → Goes (go b)) → Goes (with_condition st c go)
  unfolding with_condition
  with_condition-goes st (IsNull p) go h = with_pointer-goes _ _ _ (λ q. h _)
  with_condition-goes st (NotNull p) go h = with_pointer-goes _ _ _ (λ q. h _)
  with_condition-goes st (Equal v w) go h = h _
  with_condition-goes st (Less v w) go h = h _

  pub with_readable-goes : (st : State) (t : Readable) (go : Source → Process) → ((s : Source) → Goes (go s)) → Goes (with_readable st t go)
  unfolding with_readable with_writable
  with_readable-goes st (Of (OwnBuffer i)) go h = h _
  with_readable-goes st (Of (InCell p)) go h = with_pointer-goes _ _ _ (λ q. h _)
  with_readable-goes st (ViewOf i) go h = h _
  with_readable-goes st (Quoted i) go h = h _

  pub with_base-goes : (literals : List (List ℕ)) (st : State) (b : Base) (go : List ℕ → Process) → ((us : List ℕ) → Goes (go us)) → Goes (with_base literals st b go)
  unfolding with_base with_text_cell
  with_base-goes literals st B.Nothing go h = h _
  with_base-goes literals st (B.Literal i) go h = h _
  with_base-goes literals st (B.Local i) go h = h _
  with_base-goes literals st (B.Cell p) go h = with_cell-goes _ _ _ (λ c. with_some-goes _ _ _ _ h)

  pub with_units-goes : (literals : List (List ℕ)) (st : State) (s : Source) (go : List ℕ → Process) → ((us : List ℕ) → Goes (go us)) → Goes (with_units literals st s go)
  unfolding with_units
  with_units-goes literals st (whole b) go h = with_base-goes _ _ _ _ h
  with_units-goes literals st (part v) go h = with_base-goes _ _ _ _ (λ us. h _)

  pub released-goes : (o : Option (Cell Content)) (p : Ptr) (st : State) → st.items ≡ items → Goes (released o p st)
  unfolding released
  released-goes None p st is = tt
  released-goes (Some c) p st is = is

  pub release-goes : (p : Ptr) (st : State) → st.items ≡ items → Goes (release p st)
  unfolding release
  release-goes p st is = by (is_null p)
    where
      by : (b : Bool) → Goes (elim b [ true ↦ ends goes_on st | false ↦ released (of_script (cell_at p st.heap.row)) p st ])
      by true = is
      by false = released-goes _ _ _ is

  pub begun-goes : (budget : ℕ) (st : State) (go : State → Process) → Goes (go (record st { steps = st.steps + 1 })) → Goes (begun budget st go)
  unfolding begun begun_if
  begun-goes budget st go h = by (nat_lt st.steps budget)
    where
      by : (b : Bool) → Goes (begun_if b st go)
      by true = h
      by false = tt

pub set_pointer-items : (st : State) (p : Pointer) (q : Ptr) → (set_pointer st p q).items ≡ st.items
set_pointer-items st (Held (H.Local i)) q = refl
set_pointer-items st (Held H.This) q = refl
set_pointer-items st (Field h class i) q = refl

-- pieces that carry out bodies which cannot leave
abbrev pub IsQuiet : Todo → Type 0
IsQuiet (all ss) = (depth : ℕ) × IsTrue (are_quiet depth ss)
IsQuiet (turns n body) = (depth : ℕ) × IsTrue (are_quiet depth body)
IsQuiet _ = Unit {0}

-- the items that are after a piece
abbrev pub items_after : Todo → List Item → List Item
items_after (destroy_items n) items = take (length items - n) items
items_after _ items = items

abbrev pub GoesOn : Meaning → Type 0
GoesOn rec = (at : Context) (p : Todo) (st : State) → IsQuiet p → GoesOnWith (items_after p st.items) (rec at p st)

module _ (rec : Meaning) (goes : GoesOn rec) where
  pub in_frame-goes : (items : List Item) (at : Context) (this : Ptr) (given : List Value) (body : Body) (st : State) (go : Way → State → Process) → IsTrue (is_quiet_body body) →
      ((after : State) → after.items ≡ st.items → GoesOnWith items (go goes_on after)) → GoesOnWith items (in_frame rec at this given body st go)
  unfolding in_frame
  in_frame-goes items at this given body st go quiet h =
      let statements_quiet = (both (list_all is_quiet_local body.locals) (are_quiet (suc DEEPEST_BLOCK) body.statements) quiet).1 in
      require-goes items _ _ _ _ (and_then-goes items st.items _ _ (goes _ (all body.statements) _ (suc DEEPEST_BLOCK, statements_quiet)) (λ after is. h _ is))

  pub destroyed_object-goes : (b : Bool) (at : Context) (p : Ptr) (st : State) → GoesOnWith st.items (destroyed_object b rec at p st)
  unfolding destroyed_object
  destroyed_object-goes true at p st = refl
  destroyed_object-goes false at p st = goes at (destroy_object p) st tt
