-- Ways of going on that keep a slot of the cleanup stack free. The statements are in `EachStatement`.
use Rattle.std.proofs.Common.{◌≡◌, ℕ, ◌<◌, ◌≤◌, Bool, true, false, List, [], ◌∷◌, ◌++◌, length, length-append, refl, arith, Option, Some, None, Result, Ok, Err, ◌+◌, ◌-◌, take, length-take-le}
use Rattle.std.specs.Prelude.{ℤ, nat_eq, nat_lt}
use Rattle.std.proofs.lemmas.Bool.{eqb-false}
use Rattle.wb_heap_model.specs.declared.heap.Ptr.{Ptr}
use Rattle.wb_heap_model.specs.declared.heap.Item.{Item}
use Rattle.wb_heap_model.specs.declared.heap.Kind.{Kind}
use Rattle.wb_heap_model.specs.declared.heap.Answer.{Answer}
use Rattle.wb_heap_model.specs.declared.heap.Panic.{Panic}
use Rattle.wb_heap_model.specs.declared.text.Base.{Base}
use Rattle.wb_heap_model.specs.declared.text.Base.TheVariants as B
use Rattle.wb_tree.specs.declared.script.Refusal.{Refusal}
use Rattle.wb_tree.specs.declared.script.Refusal.TheVariants.{GivesNull, Leaves}
use Rattle.wb_tree.specs.declared.script.Condition.{Condition}
use Rattle.wb_tree.specs.declared.script.Condition.TheVariants.{IsNull, NotNull, Equal, Less}
use Rattle.wb_tree.specs.declared.script.Argument.{Argument}
use Rattle.wb_tree.specs.declared.script.Argument.TheVariants.{Passed, Given}
use Rattle.wb_tree.specs.declared.script.Pointer.{Pointer}
use Rattle.wb_tree.specs.declared.script.Pointer.TheVariants.{Held, Field}
use Rattle.wb_tree.specs.declared.script.Holder.TheVariants as H
use Rattle.wb_tree.specs.declared.script.Writable.{Writable}
use Rattle.wb_tree.specs.declared.script.Writable.TheVariants.{OwnBuffer, InCell}
use Rattle.wb_tree.specs.declared.script.Readable.{Readable}
use Rattle.wb_tree.specs.declared.script.Readable.TheVariants.{Of, ViewOf, Quoted}
use Rattle.wb_heap_model.specs.Row.{Cell, cell_at, cell_length}
use Rattle.wb_heap_model.specs.Rules.{Request}
use Rattle.wb_heap_model.specs.Heap.{Heap, AfterAnswer}
use Rattle.wb_heap_model.specs.Texts.{Edited, Part}
use Rattle.wb_heap_model.specs.Contents.{Content}
use Rattle.wb_meaning.specs.State.{Value, Frame, State, Way, goes_on, returns, leaves, Process, ends, stops, asks, notes, and_then, on_plain_end, then_do, require, with_some, unless, set_heap}
use Rattle.wb_meaning.specs.Operands.{with_cell, with_fields, with_pointer, set_pointer}
use Rattle.wb_meaning.specs.Attempts.{attempt, allocate, reallocate, reallocate_longer, grow_if, push, after_growth}
use Rattle.wb_meaning.specs.Reading.{Source, whole, part, set_text, with_writable, with_readable, with_base, with_units, with_room, with_text_cell, write, write_view}
use Rattle.wb_meaning.specs.Statements.{with_words, with_class, with_condition, with_arguments, leave_if, plain, given_to, released, of_script, release, alloc_raw, realloc_of, realloc_raw, Todo, destroy_items, Context, Meaning, in_frame, drop_newest, destroyed_object, destroyed_item, trapped}
use Rattle.wb_heap_model.specs.Pointers.{is_null}
use Rattle.wb_heap_model.specs.declared.heap.Item.TheVariants as I
use Rattle.wb_tree.specs.declared.script.Script.{Script}
use Rattle.wb_tree.specs.declared.script.Body.{Body}
use Rattle.wb_meaning.specs.FreeSlots.{HasFreeSlot}

-- at least this many slots, one of them free
abbrev pub HasFree : ℕ → State → Type 0
HasFree least st = (least ≤ st.slots) × (length st.items < st.slots)

-- a leave may follow a push that filled the last slot
abbrev pub EndsFree : ℕ → Way → State → Type 0
EndsFree least goes_on st = HasFree least st
EndsFree least (returns p) st = HasFree least st
EndsFree least (leaves code) st = (least ≤ st.slots) × (length st.items ≤ st.slots)

-- so it is wherever a process ends or asks for an attempt; what stops a run says nothing
abbrev pub KeepsFree : ℕ → Process → Type 0
KeepsFree least (ends way st) = EndsFree least way st
KeepsFree least (stops stop st) = Unit {0}
KeepsFree least (asks t cut go) = HasFree least cut × ((n : ℕ) (a : Answer) → KeepsFree least (go n a))
KeepsFree least (notes q p) = KeepsFree least p

-- with more slots there are at least as many
pub fewer : (least more : ℕ) → least ≤ more → (p : Process) → KeepsFree more p → KeepsFree least p
fewer least more le (ends goes_on st) k = (omega (arith, le, k.0), k.1)
fewer least more le (ends (returns p) st) k = (omega (arith, le, k.0), k.1)
fewer least more le (ends (leaves code) st) k = (omega (arith, le, k.0), k.1)
fewer least more le (stops stop st) k = tt
fewer least more le (asks t cut go) k = ((omega (arith, le, k.0.0), k.0.1), λ n a. fewer least more le (go n a) (k.1 n a))
fewer least more le (notes q p) k = fewer least more le p k

module _ (least : ℕ) where
  pub and_then-free : (p : Process) (go : Way → State → Process) → KeepsFree least p → ((w : Way) (st : State) → EndsFree least w st → KeepsFree least (go w st)) →
      KeepsFree least (and_then p go)
  unfolding and_then
  and_then-free (ends way st) go k h = h way st k
  and_then-free (stops stop st) go k h = tt
  and_then-free (asks t cut answered) go k h = (k.0, λ n a. and_then-free (answered n a) go (k.1 n a) h)
  and_then-free (notes q p) go k h = and_then-free p go k h

  plain_end-free : (w : Way) (st : State) (go : State → Process) → EndsFree least w st → ((st : State) → HasFree least st → KeepsFree least (go st)) →
      KeepsFree least (on_plain_end w st go)
  unfolding on_plain_end
  plain_end-free goes_on st go f h = h st f
  plain_end-free (returns p) st go f h = f
  plain_end-free (leaves code) st go f h = f

  pub then_do-free : (p : Process) (go : State → Process) → KeepsFree least p → ((st : State) → HasFree least st → KeepsFree least (go st)) → KeepsFree least (then_do p go)
  unfolding then_do
  then_do-free p go k h = and_then-free p _ k (λ w st f. plain_end-free w st go f h)

  pub require-free : (b : Bool) (panic : Panic) (st : State) (go : State → Process) → KeepsFree least (go st) → KeepsFree least (require b panic st go)
  unfolding require
  require-free true panic st go k = k
  require-free false panic st go k = tt

  pub with_some-free : {A : Type 0} (o : Option A) (panic : Panic) (st : State) (go : A → Process) → ((a : A) → KeepsFree least (go a)) → KeepsFree least (with_some o panic st go)
  unfolding with_some
  with_some-free (Some a) panic st go k = k a
  with_some-free None panic st go k = tt

  pub unless-free : (o : Option Panic) (st : State) (go : State → Process) → KeepsFree least (go st) → KeepsFree least (unless o st go)
  unfolding unless
  unless-free (Some panic) st go k = tt
  unless-free None st go k = k

  pub with_cell-free : (st : State) (p : Ptr) (go : Cell Content → Process) → ((c : Cell Content) → KeepsFree least (go c)) → KeepsFree least (with_cell st p go)
  unfolding with_cell
  with_cell-free st p go k = with_some-free _ _ _ _ k

  pub with_pointer-free : (st : State) (p : Pointer) (go : Ptr → Process) → ((q : Ptr) → KeepsFree least (go q)) → KeepsFree least (with_pointer st p go)
  unfolding with_pointer with_fields
  with_pointer-free st (Held h) go k = k _
  with_pointer-free st (Field h class i) go k = with_cell-free _ _ _ (λ c. with_some-free _ _ _ _ (λ ps. k _))

  pub with_words-free : (st : State) (p : Ptr) (go : Cell Content → List ℤ → Process) → ((c : Cell Content) (ws : List ℤ) → KeepsFree least (go c ws)) →
      KeepsFree least (with_words st p go)
  unfolding with_words
  with_words-free st p go k = with_cell-free _ _ _ (λ c. with_some-free _ _ _ _ (k c))

  pub with_class-free : (st : State) (p : Ptr) (go : ℕ → Process) → ((class : ℕ) → KeepsFree least (go class)) → KeepsFree least (with_class st p go)
  unfolding with_class
  with_class-free st p go k = with_cell-free _ _ _ (λ c. with_some-free _ _ _ _ k)

  pub with_condition-free : (st : State) (c : Condition) (go : Bool → Process) → ((b : Bool) → KeepsFree least (go b)) → KeepsFree least (with_condition st c go)
  unfolding with_condition
  with_condition-free st (IsNull p) go k = with_pointer-free _ _ _ (λ q. k _)
  with_condition-free st (NotNull p) go k = with_pointer-free _ _ _ (λ q. k _)
  with_condition-free st (Equal v w) go k = k _
  with_condition-free st (Less v w) go k = k _

  pub with_arguments-free : (st : State) (args : List Argument) (go : List Value → Process) → ((vs : List Value) → KeepsFree least (go vs)) →
      KeepsFree least (with_arguments st args go)
  unfolding with_arguments
  with_arguments-free st [] go k = k _
  with_arguments-free st (Passed p ∷ rest) go k = with_pointer-free _ _ _ (λ q. with_arguments-free st rest _ (λ vs. k _))
  with_arguments-free st (Given v ∷ rest) go k = with_arguments-free st rest _ (λ vs. k _)

  pub with_writable-free : (st : State) (d : Writable) (go : Base → Process) → ((b : Base) → KeepsFree least (go b)) → KeepsFree least (with_writable st d go)
  unfolding with_writable
  with_writable-free st (OwnBuffer i) go k = k _
  with_writable-free st (InCell p) go k = with_pointer-free _ _ _ (λ q. k _)

  pub with_readable-free : (st : State) (t : Readable) (go : Source → Process) → ((s : Source) → KeepsFree least (go s)) → KeepsFree least (with_readable st t go)
  unfolding with_readable
  with_readable-free st (Of d) go k = with_writable-free _ _ _ (λ b. k _)
  with_readable-free st (ViewOf i) go k = k _
  with_readable-free st (Quoted i) go k = k _

  with_text_cell-free : (st : State) (p : Ptr) (go : Cell Content → List ℕ → Process) → ((c : Cell Content) (us : List ℕ) → KeepsFree least (go c us)) →
      KeepsFree least (with_text_cell st p go)
  unfolding with_text_cell
  with_text_cell-free st p go k = with_cell-free _ _ _ (λ c. with_some-free _ _ _ _ (k c))

  with_base-free : (literals : List (List ℕ)) (st : State) (b : Base) (go : List ℕ → Process) → ((us : List ℕ) → KeepsFree least (go us)) →
      KeepsFree least (with_base literals st b go)
  unfolding with_base
  with_base-free literals st B.Nothing go k = k _
  with_base-free literals st (B.Literal i) go k = k _
  with_base-free literals st (B.Local i) go k = k _
  with_base-free literals st (B.Cell p) go k = with_text_cell-free _ _ _ (λ c us. k us)

  pub with_units-free : (literals : List (List ℕ)) (st : State) (s : Source) (go : List ℕ → Process) → ((us : List ℕ) → KeepsFree least (go us)) →
      KeepsFree least (with_units literals st s go)
  unfolding with_units
  with_units-free literals st (whole b) go k = with_base-free _ _ _ _ k
  with_units-free literals st (part v) go k = with_base-free _ _ _ _ (λ us. k _)

  pub with_room-free : (st : State) (b : Base) (go : ℕ → List ℕ → Process) → ((max : ℕ) (us : List ℕ) → KeepsFree least (go max us)) → KeepsFree least (with_room st b go)
  unfolding with_room
  with_room-free st (B.Local i) go k = k _ _
  with_room-free st (B.Cell p) go k = with_text_cell-free _ _ _ (λ c us. k _ us)
  with_room-free st B.Nothing go k = tt
  with_room-free st (B.Literal i) go k = tt

  set_text-free : (st : State) (b : Base) (max : ℕ) (us : List ℕ) → HasFree least st → HasFree least (set_text st b max us)
  set_text-free st (B.Local i) max us f = f
  set_text-free st (B.Cell p) max us f = f
  set_text-free st B.Nothing max us f = f
  set_text-free st (B.Literal i) max us f = f

  pub write-free : (e : Edited) (st : State) (b : Base) (max : ℕ) → HasFree least st → KeepsFree least (write e st b max)
  unfolding write
  write-free (Ok us) st b max f = set_text-free st b max us f
  write-free (Err panic) st b max f = tt

  pub write_view-free : (e : Result Part Panic) (st : State) (w : ℕ) (s : Source) → HasFree least st → KeepsFree least (write_view e st w s)
  unfolding write_view
  write_view-free (Ok p) st w s f = f
  write_view-free (Err panic) st w s f = tt

  pub set_pointer-free : (st : State) (p : Pointer) (q : Ptr) → HasFree least st → HasFree least (set_pointer st p q)
  set_pointer-free st (Held (H.Local i)) q f = f
  set_pointer-free st (Held H.This) q f = f
  set_pointer-free st (Field h class i) q f = f

  pub given_to-free : (target : Pointer) (refusal : Refusal) (o : Option Ptr) (st : State) → HasFree least st → KeepsFree least (given_to target refusal o st)
  unfolding given_to
  given_to-free target refusal (Some p) st f = set_pointer-free st target p f
  given_to-free target GivesNull None st f = set_pointer-free st target _ f
  given_to-free target Leaves None st f = (f.0, omega (arith, f.1))

  attempt-free : (t : Request) (after : ℕ → Answer → AfterAnswer Content) (cut st : State) (go : Option Ptr → State → Process) → HasFree least cut →
      ((o : Option Ptr) (heap : Heap Content) → KeepsFree least (go o (set_heap st heap))) → KeepsFree least (attempt t after cut st go)
  unfolding attempt
  attempt-free t after cut st go f k = (f, λ n a. k (after n a).given (after n a).heap)

  pub allocate-free : (bytes : ℕ) (kind : Kind) (fresh : Content) (st : State) (go : Option Ptr → State → Process) → HasFree least st →
      ((o : Option Ptr) (heap : Heap Content) → KeepsFree least (go o (set_heap st heap))) → KeepsFree least (allocate bytes kind fresh st go)
  unfolding allocate
  allocate-free bytes kind fresh st go f k = attempt-free _ _ st st go f k

  longer-free : (b : Bool) (c : Cell Content) (bytes : ℕ) (cut st : State) (go : Option Ptr → State → Process) → HasFree least cut →
      ((o : Option Ptr) (heap : Heap Content) → KeepsFree least (go o (set_heap st heap))) → KeepsFree least (reallocate_longer b c bytes cut st go)
  unfolding reallocate_longer
  longer-free true c bytes cut st go f k = attempt-free _ _ cut st go f k
  longer-free false c bytes cut st go f k = k _ _

  pub reallocate-free : (c : Cell Content) (bytes : ℕ) (cut st : State) (go : Option Ptr → State → Process) → HasFree least cut →
      ((o : Option Ptr) (heap : Heap Content) → KeepsFree least (go o (set_heap st heap))) → KeepsFree least (reallocate c bytes cut st go)
  unfolding reallocate
  reallocate-free c bytes cut st go f k = longer-free (nat_lt c.head.length (cell_length bytes)) c bytes cut st go f k

  -- four slots more leave a free one
  grown-free : (o : Option Ptr) (st : State) → least ≤ st.slots → length st.items ≤ st.slots → KeepsFree least (after_growth o st)
  unfolding after_growth
  grown-free (Some p) st le fits = (omega (arith, le), omega (arith, fits))
  grown-free None st le fits = (le, fits)

  grow-free : (b : Bool) (before st : State) → HasFree least before → least ≤ st.slots → length st.items ≤ st.slots → nat_eq (length st.items) st.slots ≡ b →
      KeepsFree least (grow_if b before st)
  unfolding grow_if
  grow-free true before st f le fits full = with_cell-free _ _ _ (λ c. reallocate-free c _ before st _ f (λ o heap. grown-free o _ le fits))
  grow-free false before st f le fits free = (le, omega (arith, fits, eqb-false (length st.items) st.slots free))

  pub push-free : (item : Item) (st : State) → HasFree least st → KeepsFree least (push item st)
  unfolding push
  push-free item st f =
      let pushed = record st { items = st.items ++ item ∷ [] } in
      grow-free (nat_eq (length pushed.items) st.slots) st pushed f f.0 (omega (arith, f.1, length-append st.items (item ∷ []))) refl

  released-free : (o : Option (Cell Content)) (p : Ptr) (st : State) → HasFree least st → KeepsFree least (released o p st)
  unfolding released
  released-free None p st f = tt
  released-free (Some c) p st f = f

  pub release-free : (p : Ptr) (st : State) → HasFree least st → KeepsFree least (release p st)
  unfolding release
  release-free p st f = by (is_null p)
    where
      by : (b : Bool) → KeepsFree least (elim b [ true ↦ ends goes_on st | false ↦ released (of_script (cell_at p st.heap.row)) p st ])
      by true = f
      by false = released-free _ _ _ f

  pub leave_if-free : (b : Bool) (code : ℤ) (st : State) → HasFree least st → KeepsFree least (leave_if b code st)
  unfolding leave_if
  leave_if-free true code st f = (f.0, omega (arith, f.1))
  leave_if-free false code st f = f

  pub alloc_raw-free : (target : Pointer) (refusal : Refusal) (bytes : ℕ) (st : State) → HasFree least st → KeepsFree least (alloc_raw target refusal bytes st)
  unfolding alloc_raw
  alloc_raw-free target refusal bytes st f = allocate-free _ _ _ st _ f (λ o heap. given_to-free target refusal o _ f)

  pub realloc_of-free : (b : Bool) (target : Pointer) (refusal : Refusal) (old : Ptr) (z : ℤ) (st : State) → HasFree least st →
      KeepsFree least (realloc_of b target refusal old z st)
  unfolding realloc_of realloc_raw
  realloc_of-free true target refusal old z st f = with_some-free _ _ _ _ (λ n. alloc_raw-free target refusal n st f)
  realloc_of-free false target refusal old z st f =
      with_some-free _ _ _ _ (λ c. require-free _ _ _ _ (with_some-free _ _ _ _ (λ n. reallocate-free c n st st _ f (λ o heap. given_to-free target refusal o _ f))))

  -- a body that returns is a plain end
  pub plain-free : (go : Ptr → State → Process) (w : Way) (st : State) → EndsFree least w st → ((p : Ptr) (st : State) → HasFree least st → KeepsFree least (go p st)) →
      KeepsFree least (plain go w st)
  unfolding plain
  plain-free go goes_on st f k = k _ st f
  plain-free go (returns p) st f k = k p st f
  plain-free go (leaves code) st f k = f

-- another frame
pub framed-free : (least : ℕ) (w : Way) (st : State) (frame : Frame) → EndsFree least w st → EndsFree least w (record st { frame = frame })
framed-free least goes_on st frame f = f
framed-free least (returns p) st frame f = f
framed-free least (leaves code) st frame f = f

-- The stack as a piece may find it. A push that filled the last slot and left is followed by the destruction of an item, if of any.
abbrev pub FindsFree : Todo → State → Type 0
FindsFree (destroy_items n) st = (length st.items ≤ st.slots) × (length st.items < st.slots + n) × (1 ≤ st.slots)
FindsFree _ st = HasFreeSlot st

abbrev pub KeepsAll : Meaning → Type 0
KeepsAll rec = (at : Context) (p : Todo) (st : State) → FindsFree p st → KeepsFree st.slots (rec at p st)

-- fewer items leave more slots free
pub dropped-free : (least n : ℕ) (st : State) → HasFree least st → HasFree least (drop_newest n st)
dropped-free least n st f =
    let long : length (take (length st.items - n) st.items) ≡ length st.items - n = length-take-le (length st.items - n) st.items (omega arith) in
    (f.0, omega (arith, long, f.1))

module _ (rec : Meaning) (keeps : KeepsAll rec) (least : ℕ) where
  -- what is inside a piece, from a state with a free slot on
  pub inside : (at : Context) (p : Todo) (st : State) → least ≤ st.slots → FindsFree p st → KeepsFree least (rec at p st)
  inside at p st le finds = fewer least st.slots le (rec at p st) (keeps at p st finds)

  pub in_frame-free : (at : Context) (this : Ptr) (given : List Value) (body : Body) (st : State) (go : Way → State → Process) → HasFree least st →
      ((w : Way) (st : State) → EndsFree least w st → KeepsFree least (go w st)) → KeepsFree least (in_frame rec at this given body st go)
  unfolding in_frame
  in_frame-free at this given body st go f k =
      require-free least _ _ _ _ (and_then-free least _ _ (inside _ _ _ f.0 f.1) (λ w after e. k w _ (framed-free least w after st.frame e)))

  pub destroyed_object-free : (b : Bool) (at : Context) (p : Ptr) (st : State) → HasFree least st → KeepsFree least (destroyed_object b rec at p st)
  unfolding destroyed_object
  destroyed_object-free true at p st f = f
  destroyed_object-free false at p st f = inside _ _ _ f.0 f.1

  pub destroyed_item-free : (script : Script) (at : Context) (item : Item) (st : State) → HasFree least st → KeepsFree least (destroyed_item script rec at item st)
  unfolding destroyed_item
  destroyed_item-free script at (I.Free p) st f = release-free least _ _ f
  destroyed_item-free script at (I.Delete p) st f = destroyed_object-free _ _ _ _ f
  destroyed_item-free script at (I.Call p op) st f = in_frame-free _ _ _ _ st _ f (λ w st e. plain-free least _ w st e (λ p st f. f))

  -- a TRAP that had a free slot at its entry
  pub trapped-free : (at : Context) (x entry : ℕ) (w : Way) (st : State) → entry < least → EndsFree least w st → KeepsFree least (trapped rec at x entry w st)
  unfolding trapped
  trapped-free at x entry goes_on st had f = require-free least _ _ _ _ f
  trapped-free at x entry (leaves code) st had f =
      then_do-free least _ _ (inside _ _ _ f.0 (f.1, omega (arith, had, f.0, f.1), omega (arith, had, f.0))) (λ st f. f)
  trapped-free at x entry (returns p) st had f = f
