-- Two meanings of what is inside that are alike, and show only states of which a lasting fact holds, give alike meanings
-- of whatever a script does. Here are the ways of going on; the statements are in `EachStatement`.
use Rattle.std.proofs.Common.{◌≡◌, ℕ, ℤ, ◌-◌, ◌<◌, ◌≤◌, Bool, true, false, List, ◌∷◌, refl, ap, ◌∙◌, subst, Option, Some, None, Result, Ok, Err}
use Rattle.std.proofs.Math.Path.{fun_ext}
use Rattle.std.specs.Prelude.{nat_lt, [], ◌++◌}
use Rattle.std.proofs.lemmas.Bool.{ltb-true, ltb-false}
use Rattle.std.proofs.lemmas.List.{length-set}
use Rattle.wb_heap_model.specs.declared.heap.Ptr.{Ptr}
use Rattle.wb_heap_model.specs.declared.heap.Item.{Item}
use Rattle.wb_heap_model.specs.declared.heap.Kind.{Kind}
use Rattle.wb_heap_model.specs.declared.heap.Kind.TheVariants as K
use Rattle.wb_heap_model.specs.declared.heap.Answer.{Answer}
use Rattle.wb_heap_model.specs.declared.heap.Answer.TheVariants.{Refused, Simulated}
use Rattle.wb_heap_model.specs.declared.heap.Panic.{Panic}
use Rattle.wb_meaning.specs.declared.run.Why.TheVariants.{Budget, Ceiling}
use Rattle.wb_heap_model.specs.declared.text.Base.{Base}
use Rattle.wb_heap_model.specs.declared.text.Base.TheVariants as B
use Rattle.wb_tree.specs.declared.script.Script.{Script}
use Rattle.wb_tree.specs.declared.script.Refusal.{Refusal}
use Rattle.wb_tree.specs.declared.script.Refusal.TheVariants.{GivesNull, Leaves}
use Rattle.wb_tree.specs.declared.script.Pointer.{Pointer}
use Rattle.wb_tree.specs.declared.script.Pointer.TheVariants.{Held, Field}
use Rattle.wb_tree.specs.declared.script.Holder.TheVariants as H
use Rattle.wb_tree.specs.declared.script.Writable.{Writable}
use Rattle.wb_tree.specs.declared.script.Writable.TheVariants.{OwnBuffer, InCell}
use Rattle.wb_tree.specs.declared.script.Readable.{Readable}
use Rattle.wb_tree.specs.declared.script.Readable.TheVariants.{Of, ViewOf, Quoted}
use Rattle.wb_heap_model.specs.Row.{Cell, cell_at, cell_length, changed, without}
use Rattle.wb_heap_model.specs.Rules.{Request, Setting, is_due}
use Rattle.wb_heap_model.specs.Heap.{Heap, AfterAnswer, alloc_request, after_alloc, realloc_request, after_realloc, shortened, after_mark, after_mark_end}
use Rattle.wb_meaning.specs.Printable.{ArePrintable}
use Rattle.wb_meaning.specs.Throughout.{IsNoteOf, SuitsKind, HoldsItsKind}
use Rattle.wb_heap_model.specs.Texts.{Edited, Part}
use Rattle.wb_heap_model.specs.Contents.{Content, words, fields, units, none}
use Rattle.wb_meaning.specs.State.{State, Way, goes_on, returns, leaves, Stop, panics, is_cut, no_cleanup, Process, ends, stops, asks, notes, and_then, on_plain_end, then_do, require, with_some, unless, set_heap}
use Rattle.wb_meaning.specs.Operands.{raw_words_of, set_field, with_cell, with_fields, with_pointer, set_pointer, set_row}
use Rattle.wb_meaning.specs.Attempts.{attempt, allocate, resized, reallocate, reallocate_longer, grow_if, push, after_growth}
use Rattle.wb_meaning.specs.Reading.{Source, whole, part, set_units, with_writable, with_readable, with_base, with_units, with_room, with_text_cell, write, write_view}
use Rattle.wb_meaning.specs.Statements.{with_words, with_class, Todo, Context, Meaning, given_to, released, of_script, release}
use Rattle.wb_heap_model.specs.Pointers.{is_null}

-- the heap with other cells
abbrev pub with_cells : Heap Content → List (Cell Content) → Heap Content
with_cells heap row = record heap { row = row }

-- A fact about the steps counted; one about the heap beside the numbers that attempts got so far, the newest first; and one
-- about the printed lines. The second lasts whatever this script does to a heap, and the third whatever it prints.
pub record Lasting : Type 1 where
  pub script : Script
  pub Counts : ℕ → Type 0
  pub Holds : List ℕ → Heap Content → Type 0
  pub Prints : List (List ℕ) → Type 0
  pub printed : (lines : List (List ℕ)) (line : List ℕ) → ArePrintable line → Prints lines → Prints (lines ++ line ∷ [])
  pub allocated : (ns : List ℕ) (heap : Heap Content) (bytes : ℕ) (kind : Kind) (fresh : Content) (n : ℕ) (answer : Answer) →
      SuitsKind script kind fresh → Holds ns heap → Holds (n ∷ ns) (after_alloc heap (alloc_request heap bytes) kind fresh n answer).heap
  pub reallocated : (ns : List ℕ) (heap : Heap Content) (p : Ptr) (c : Cell Content) (bytes n : ℕ) (answer : Answer) → cell_at p heap.row ≡ Some c →
      c.head.length < cell_length bytes → Holds ns heap →
      Holds (n ∷ ns) (after_realloc heap (realloc_request heap c.head bytes) c.head (resized (cell_length bytes - 16) c.content) n answer).heap
  pub cut_down : (ns : List ℕ) (heap : Heap Content) (p : Ptr) (c : Cell Content) (bytes : ℕ) → cell_at p heap.row ≡ Some c →
      cell_length bytes ≤ c.head.length → Holds ns heap →
      Holds ns (shortened heap c.head (cell_length bytes) (resized (cell_length bytes - 16) c.content))
  pub freed : (ns : List ℕ) (heap : Heap Content) (p : Ptr) → Holds ns heap → Holds ns (with_cells heap (without p heap.row))
  pub rewritten : (ns : List ℕ) (heap : Heap Content) (p : Ptr) (f : Content → Content) →
      ((c : Cell Content) → cell_at p heap.row ≡ Some c → HoldsItsKind script c → SuitsKind script c.head.kind (f c.content)) → Holds ns heap →
      Holds ns (with_cells heap (changed p f heap.row))
  pub marked : (ns : List ℕ) (heap : Heap Content) → Holds ns heap → Holds ns (after_mark heap)
  pub mark_ended : (ns : List ℕ) (heap : Heap Content) → Holds ns heap → Holds ns (after_mark_end heap)
  pub set : (ns : List ℕ) (heap : Heap Content) (setting : Setting) → Holds ns heap → Holds ns (record heap { setting = setting })

-- what a script stops with of itself; the ceiling cuts a run only where it answers an attempt
abbrev pub StopsItself : Stop → Type 0
StopsItself (panics panic) = Unit {0}
StopsItself (is_cut Budget) = Unit {0}
StopsItself (is_cut Ceiling) = ⊥
StopsItself no_cleanup = Unit {0}

-- a fact about the states that a process shows, beside the numbers that attempts got before; each attempt tells whether the
-- setting at the time refuses it, a refusal of either kind makes no difference, and no stop is the ceiling's
abbrev pub Shows : (List ℕ → State → Type 0) → List ℕ → Process → Type 0
Shows P ns (ends way st) = P ns st
Shows P ns (stops stop st) = P ns st × StopsItself stop
Shows P ns (asks t cut go) =
    P ns cut × (t.due ≡ is_due cut.heap.setting) × ((n : ℕ) → go n Refused ≡ go n Simulated) × ((n : ℕ) (a : Answer) → Shows P (n ∷ ns) (go n a))
Shows P ns (notes q p) = ((st : State) × P ns st × IsNoteOf st q) × Shows P ns p

-- content of the right kind stays so
pub suits-set_field : (script : Script) (kind : Kind) (c : Content) (i : ℕ) (q : Ptr) → SuitsKind script kind c → SuitsKind script kind (set_field i q c)
suits-set_field script (K.Object class) (fields ps) i q is = length-set ps i q ∙ is
suits-set_field script kind (words ws) i q is = is
suits-set_field script kind (units us) i q is = is
suits-set_field script kind none i q is = is
suits-set_field script K.Raw (fields ps) i q is = absurd is
suits-set_field script K.Text (fields ps) i q is = absurd is
suits-set_field script K.Cleanup (fields ps) i q is = absurd is

pub suits-set_units : (script : Script) (kind : Kind) (c : Content) (us : List ℕ) → SuitsKind script kind c → SuitsKind script kind (set_units us c)
suits-set_units script K.Text (units old) us is = tt
suits-set_units script kind (words ws) us is = is
suits-set_units script kind (fields ps) us is = is
suits-set_units script kind none us is = is
suits-set_units script K.Raw (units old) us is = absurd is
suits-set_units script (K.Object class) (units old) us is = absurd is
suits-set_units script K.Cleanup (units old) us is = absurd is

suits-words : (script : Script) (kind : Kind) (c : Content) (ws us : List ℤ) → raw_words_of kind c ≡ Some ws → SuitsKind script kind (words us)
suits-words script K.Raw (words old) ws us e = tt
suits-words script K.Raw (fields ps) ws us e = cc
suits-words script K.Raw (units old) ws us e = cc
suits-words script K.Raw none ws us e = cc
suits-words script (K.Object class) c ws us e = cc
suits-words script K.Text c ws us e = cc
suits-words script K.Cleanup c ws us e = cc

-- a process that is another, and shows only states of which a fact holds
module _ (L : Lasting) where
  abbrev pub Fine : List ℕ → State → Type 0
  Fine ns st = L.Counts st.steps × L.Holds ns st.heap × L.Prints st.lines

  abbrev pub Keeps : List ℕ → Process → Type 0
  Keeps ns p = Shows Fine ns p

  abbrev pub Alike : List ℕ → Process → Process → Type 0
  Alike ns p q = (p ≡ q) × Keeps ns p

  and_then-same : (ns : List ℕ) (p : Process) (go go' : Way → State → Process) → Keeps ns p →
      ((ns : List ℕ) (w : Way) (st : State) → Fine ns st → Alike ns (go w st) (go' w st)) → Alike ns (and_then p go) (and_then p go')
  unfolding and_then
  and_then-same ns (ends way st) go go' k h = h ns way st k
  and_then-same ns (stops stop st) go go' k h = (refl, k)
  and_then-same ns (asks t cut answered) go go' k h = (
    ap (asks t cut) (fun_ext (λ n. fun_ext (λ a. (and_then-same (n ∷ ns) (answered n a) go go' (k.3 n a) h).0))),
    (k.0, k.1, λ n. ap (λ p. and_then p go) (k.2 n), λ n a. (and_then-same (n ∷ ns) (answered n a) go go' (k.3 n a) h).1),
  )
  and_then-same ns (notes q p) go go' k h =
      let ih = and_then-same ns p go go' k.1 h in (ap (notes q) ih.0, (k.0, ih.1))

  pub and_then-alike : (ns : List ℕ) (p q : Process) (go go' : Way → State → Process) → Alike ns p q →
      ((ns : List ℕ) (w : Way) (st : State) → Fine ns st → Alike ns (go w st) (go' w st)) → Alike ns (and_then p go) (and_then q go')
  and_then-alike ns p q go go' e h =
      let same = and_then-same ns p go go' e.1 h in (same.0 ∙ ap (λ x. and_then x go') e.0, same.1)

  attempt-alike : {ns : List ℕ} (t : Request) (after : ℕ → Answer → AfterAnswer Content) (cut st : State) (go go' : Option Ptr → State → Process) →
      Fine ns cut → t.due ≡ is_due cut.heap.setting → ((n : ℕ) → after n Refused ≡ after n Simulated) → L.Counts st.steps → L.Prints st.lines → ((n : ℕ) (a : Answer) → L.Holds (n ∷ ns) (after n a).heap) →
      ((ns : List ℕ) (o : Option Ptr) (st : State) → Fine ns st → Alike ns (go o st) (go' o st)) → Alike ns (attempt t after cut st go) (attempt t after cut st go')
  unfolding attempt
  attempt-alike {ns = ns} t after cut st go go' fc due denied c lines h k = (
    ap (asks t cut) (fun_ext (λ n. fun_ext (λ a. (k (n ∷ ns) (after n a).given (set_heap st (after n a).heap) (c, h n a, lines)).0))),
    (fc, due, λ n. ap (λ w. go w.given (set_heap st w.heap)) (denied n), λ n a. (k (n ∷ ns) (after n a).given (set_heap st (after n a).heap) (c, h n a, lines)).1),
  )

  pub plain_end-alike : {ns : List ℕ} (w : Way) (st : State) (go go' : State → Process) → Fine ns st →
      ((st : State) → Fine ns st → Alike ns (go st) (go' st)) → Alike ns (on_plain_end w st go) (on_plain_end w st go')
  unfolding on_plain_end
  plain_end-alike goes_on st _ _ f h = h st f
  plain_end-alike (returns p) st _ _ f h = (refl, f)
  plain_end-alike (leaves code) st _ _ f h = (refl, f)

  pub then_do-alike : (ns : List ℕ) (p q : Process) (go go' : State → Process) → Alike ns p q →
      ((ns : List ℕ) (st : State) → Fine ns st → Alike ns (go st) (go' st)) → Alike ns (then_do p go) (then_do q go')
  unfolding then_do
  then_do-alike ns p q _ _ k h = and_then-alike ns p q _ _ k (λ ns w st f. plain_end-alike w st _ _ f (h ns))

  pub require-alike : {ns : List ℕ} (b : Bool) (panic : Panic) (st : State) (go go' : State → Process) → Fine ns st → Alike ns (go st) (go' st) →
      Alike ns (require b panic st go) (require b panic st go')
  unfolding require
  require-alike true _ _ _ _ f h = h
  require-alike false _ _ _ _ f h = (refl, (f, tt))

  pub with_some-alike : {ns : List ℕ} {A : Type 0} (o : Option A) (panic : Panic) (st : State) (go go' : A → Process) → Fine ns st →
      ((a : A) → o ≡ Some a → Alike ns (go a) (go' a)) → Alike ns (with_some o panic st go) (with_some o panic st go')
  unfolding with_some
  with_some-alike (Some a) _ _ _ _ f h = h a refl
  with_some-alike None _ _ _ _ f h = (refl, (f, tt))

  pub unless-alike : {ns : List ℕ} (o : Option Panic) (st : State) (go go' : State → Process) → Fine ns st → Alike ns (go st) (go' st) →
      Alike ns (unless o st go) (unless o st go')
  unfolding unless
  unless-alike (Some panic) _ _ _ f h = (refl, (f, tt))
  unless-alike None _ _ _ f h = h

  pub with_cell-alike : {ns : List ℕ} (st : State) (p : Ptr) (go go' : Cell Content → Process) → Fine ns st →
      ((c : Cell Content) → cell_at p st.heap.row ≡ Some c → Alike ns (go c) (go' c)) → Alike ns (with_cell st p go) (with_cell st p go')
  unfolding with_cell
  with_cell-alike _ _ _ _ f h = with_some-alike _ _ _ _ _ f h

  pub with_pointer-alike : {ns : List ℕ} (st : State) (p : Pointer) (go go' : Ptr → Process) → Fine ns st → ((q : Ptr) → Alike ns (go q) (go' q)) →
      Alike ns (with_pointer st p go) (with_pointer st p go')
  unfolding with_pointer with_fields
  with_pointer-alike _ (Held h) _ _ f k = k _
  with_pointer-alike _ (Field h class i) _ _ f k = with_cell-alike _ _ _ _ f (λ c e. with_some-alike _ _ _ _ _ f (λ ps e. k _))

  -- a target that is written
  pub set_pointer-fine : {ns : List ℕ} (p : Pointer) (st : State) (q : Ptr) → Fine ns st → Fine ns (set_pointer st p q)
  set_pointer-fine (Held (H.Local i)) _ _ f = f
  set_pointer-fine (Held H.This) _ _ f = f
  set_pointer-fine {ns = ns} (Field h class i) st q f =
      (f.0, L.rewritten ns st.heap _ (set_field i q) (λ c e is. suits-set_field L.script c.head.kind c.content i q is) f.1, f.2)

  -- words that are stored
  pub stored-fine : {ns : List ℕ} (st : State) (q : Ptr) (c : Cell Content) (ws us : List ℤ) → cell_at q st.heap.row ≡ Some c →
      raw_words_of c.head.kind c.content ≡ Some ws → Fine ns st → Fine ns (set_row st (changed q (λ _. words us) st.heap.row))
  stored-fine {ns = ns} st q c ws us e w f =
      (f.0, L.rewritten ns st.heap q (λ _. words us) (λ d found is. let same : c ≡ d = cc in subst (λ x. SuitsKind L.script x.head.kind (words us)) same (suits-words L.script c.head.kind c.content ws us w)) f.1, f.2)

  pub given_to-alike : {ns : List ℕ} (p : Pointer) (r : Refusal) (o : Option Ptr) (st : State) → Fine ns st → Alike ns (given_to p r o st) (given_to p r o st)
  unfolding given_to
  given_to-alike p r (Some q) st f = (refl, set_pointer-fine p st q f)
  given_to-alike p GivesNull None st f = (refl, set_pointer-fine p st _ f)
  given_to-alike p Leaves None st f = (refl, f)

  pub allocate-alike : {ns : List ℕ} (bytes : ℕ) (kind : Kind) (fresh : Content) (st : State) (go go' : Option Ptr → State → Process) → SuitsKind L.script kind fresh → Fine ns st →
      ((ns : List ℕ) (o : Option Ptr) (st : State) → Fine ns st → Alike ns (go o st) (go' o st)) → Alike ns (allocate bytes kind fresh st go) (allocate bytes kind fresh st go')
  unfolding allocate
  allocate-alike {ns = ns} bytes kind fresh st _ _ suits f k =
      attempt-alike _ _ st st _ _ f refl (λ n. refl) f.0 f.2 (λ n a. L.allocated ns st.heap bytes kind fresh n a suits f.1) k

  longer-alike : {ns : List ℕ} (b : Bool) (p : Ptr) (c : Cell Content) (bytes : ℕ) (cut st : State) (go go' : Option Ptr → State → Process) →
      nat_lt c.head.length (cell_length bytes) ≡ b → cell_at p st.heap.row ≡ Some c → st.heap ≡ cut.heap → Fine ns cut → Fine ns st →
      ((ns : List ℕ) (o : Option Ptr) (st : State) → Fine ns st → Alike ns (go o st) (go' o st)) →
      Alike ns (reallocate_longer b c bytes cut st go) (reallocate_longer b c bytes cut st go')
  unfolding reallocate_longer
  longer-alike {ns = ns} true p c bytes cut st _ _ longer e same fc f k =
      attempt-alike _ _ cut st _ _ fc (ap (λ h. is_due h.setting) same) (λ n. refl) f.0 f.2
      (λ n a. L.reallocated ns st.heap p c bytes n a e (ltb-true c.head.length (cell_length bytes) longer) f.1) k
  longer-alike {ns = ns} false p c bytes cut st _ _ shorter e same fc f k =
      k ns _ _ (f.0, L.cut_down ns st.heap p c bytes e (ltb-false c.head.length (cell_length bytes) shorter) f.1, f.2)

  pub reallocate-alike : {ns : List ℕ} (p : Ptr) (c : Cell Content) (bytes : ℕ) (cut st : State) (go go' : Option Ptr → State → Process) →
      cell_at p st.heap.row ≡ Some c → st.heap ≡ cut.heap → Fine ns cut → Fine ns st →
      ((ns : List ℕ) (o : Option Ptr) (st : State) → Fine ns st → Alike ns (go o st) (go' o st)) → Alike ns (reallocate c bytes cut st go) (reallocate c bytes cut st go')
  unfolding reallocate
  reallocate-alike p c bytes cut st go go' e same fc f k = longer-alike _ p c bytes cut st go go' refl e same fc f k

  grown-alike : (ns : List ℕ) (o : Option Ptr) (st : State) → Fine ns st → Alike ns (after_growth o st) (after_growth o st)
  unfolding after_growth
  grown-alike ns (Some p) st f = (refl, f)
  grown-alike ns None st f = (refl, f)

  grow-alike : {ns : List ℕ} (b : Bool) (before st : State) → st.heap ≡ before.heap → Fine ns before → Fine ns st → Alike ns (grow_if b before st) (grow_if b before st)
  unfolding grow_if
  grow-alike true before st same fb f = with_cell-alike _ _ _ _ f (λ c e. reallocate-alike st.cleanup c _ before st _ _ e same fb f grown-alike)
  grow-alike false _ _ same fb f = (refl, f)

  pub push-alike : {ns : List ℕ} (item : Item) (st : State) → Fine ns st → Alike ns (push item st) (push item st)
  unfolding push
  push-alike item st f = grow-alike _ _ _ refl f f

  pub with_writable-alike : {ns : List ℕ} (st : State) (d : Writable) (go go' : Base → Process) → Fine ns st → ((b : Base) → Alike ns (go b) (go' b)) →
      Alike ns (with_writable st d go) (with_writable st d go')
  unfolding with_writable
  with_writable-alike _ (OwnBuffer i) _ _ f k = k _
  with_writable-alike _ (InCell p) _ _ f k = with_pointer-alike _ _ _ _ f (λ q. k _)

  pub with_readable-alike : {ns : List ℕ} (st : State) (t : Readable) (go go' : Source → Process) → Fine ns st → ((s : Source) → Alike ns (go s) (go' s)) →
      Alike ns (with_readable st t go) (with_readable st t go')
  unfolding with_readable
  with_readable-alike _ (Of d) _ _ f k = with_writable-alike _ _ _ _ f (λ b. k _)
  with_readable-alike _ (ViewOf i) _ _ f k = k _
  with_readable-alike _ (Quoted i) _ _ f k = k _

  with_text_cell-alike : {ns : List ℕ} (st : State) (p : Ptr) (go go' : Cell Content → List ℕ → Process) → Fine ns st →
      ((c : Cell Content) (us : List ℕ) → Alike ns (go c us) (go' c us)) → Alike ns (with_text_cell st p go) (with_text_cell st p go')
  unfolding with_text_cell
  with_text_cell-alike _ _ _ _ f k = with_cell-alike _ _ _ _ f (λ c e. with_some-alike _ _ _ _ _ f (λ us e. k c us))

  with_base-alike : {ns : List ℕ} (literals : List (List ℕ)) (st : State) (b : Base) (go go' : List ℕ → Process) → Fine ns st → ((us : List ℕ) → Alike ns (go us) (go' us)) →
      Alike ns (with_base literals st b go) (with_base literals st b go')
  unfolding with_base
  with_base-alike _ _ B.Nothing _ _ f k = k _
  with_base-alike _ _ (B.Literal i) _ _ f k = k _
  with_base-alike _ _ (B.Local i) _ _ f k = k _
  with_base-alike _ _ (B.Cell p) _ _ f k = with_text_cell-alike _ _ _ _ f (λ c us. k us)

  pub with_units-alike : {ns : List ℕ} (literals : List (List ℕ)) (st : State) (s : Source) (go go' : List ℕ → Process) → Fine ns st → ((us : List ℕ) → Alike ns (go us) (go' us)) →
      Alike ns (with_units literals st s go) (with_units literals st s go')
  unfolding with_units
  with_units-alike _ _ (whole b) _ _ f k = with_base-alike _ _ _ _ _ f k
  with_units-alike _ _ (part v) _ _ f k = with_base-alike _ _ _ _ _ f (λ us. k _)

  pub with_room-alike : {ns : List ℕ} (st : State) (b : Base) (go go' : ℕ → List ℕ → Process) → Fine ns st → ((max : ℕ) (us : List ℕ) → Alike ns (go max us) (go' max us)) →
      Alike ns (with_room st b go) (with_room st b go')
  unfolding with_room
  with_room-alike _ (B.Local i) _ _ f k = k _ _
  with_room-alike _ (B.Cell p) _ _ f k = with_text_cell-alike _ _ _ _ f (λ c us. k _ us)
  with_room-alike _ B.Nothing _ _ f k = (refl, (f, tt))
  with_room-alike _ (B.Literal i) _ _ f k = (refl, (f, tt))

  pub write-alike : {ns : List ℕ} (e : Edited) (st : State) (b : Base) (max : ℕ) → Fine ns st → Alike ns (write e st b max) (write e st b max)
  unfolding write
  write-alike (Ok us) _ (B.Local i) _ f = (refl, f)
  write-alike {ns = ns} (Ok us) st (B.Cell p) _ f =
      (refl, (f.0, L.rewritten ns st.heap p (set_units us) (λ c e is. suits-set_units L.script c.head.kind c.content us is) f.1, f.2))
  write-alike (Ok us) _ B.Nothing _ f = (refl, f)
  write-alike (Ok us) _ (B.Literal i) _ f = (refl, f)
  write-alike (Err panic) _ _ _ f = (refl, (f, tt))

  pub write_view-alike : {ns : List ℕ} (e : Result Part Panic) (st : State) (w : ℕ) (s : Source) → Fine ns st → Alike ns (write_view e st w s) (write_view e st w s)
  unfolding write_view
  write_view-alike (Ok p) _ _ _ f = (refl, f)
  write_view-alike (Err panic) _ _ _ f = (refl, (f, tt))

  released-alike : {ns : List ℕ} (o : Option (Cell Content)) (p : Ptr) (st : State) → Fine ns st → Alike ns (released o p st) (released o p st)
  unfolding released
  released-alike None _ _ f = (refl, (f, tt))
  released-alike {ns = ns} (Some c) p st f = (refl, (f.0, L.freed ns st.heap p f.1, f.2))

  pub release-alike : {ns : List ℕ} (p : Ptr) (st : State) → Fine ns st → Alike ns (release p st) (release p st)
  unfolding release
  release-alike {ns = ns} p st f = by (is_null p)
    where
      by : (b : Bool) → Alike ns (elim b [ true ↦ ends goes_on st | false ↦ released (of_script (cell_at p st.heap.row)) p st ]) (elim b [ true ↦ ends goes_on st | false ↦ released (of_script (cell_at p st.heap.row)) p st ])
      by true = (refl, f)
      by false = released-alike _ _ _ f

  pub with_words-alike : {ns : List ℕ} (st : State) (p : Ptr) (go go' : Cell Content → List ℤ → Process) → Fine ns st →
      ((c : Cell Content) (ws : List ℤ) → cell_at p st.heap.row ≡ Some c → raw_words_of c.head.kind c.content ≡ Some ws → Alike ns (go c ws) (go' c ws)) →
      Alike ns (with_words st p go) (with_words st p go')
  unfolding with_words
  with_words-alike _ _ _ _ f k = with_cell-alike _ _ _ _ f (λ c e. with_some-alike _ _ _ _ _ f (λ ws w. k c ws e w))

  pub with_class-alike : {ns : List ℕ} (st : State) (p : Ptr) (go go' : ℕ → Process) → Fine ns st → ((n : ℕ) → Alike ns (go n) (go' n)) →
      Alike ns (with_class st p go) (with_class st p go')
  unfolding with_class
  with_class-alike _ _ _ _ f k = with_cell-alike _ _ _ _ f (λ c e. with_some-alike _ _ _ _ _ f (λ n e. k n))

  -- two meanings of what is inside
  abbrev pub AlikeAll : Meaning → Meaning → Type 0
  AlikeAll rec rec' = (ns : List ℕ) (at : Context) (p : Todo) (st : State) → Fine ns st → Alike ns (rec at p st) (rec' at p st)
