-- Two processes that go alike from states that are the same but for partners, until the first panics or is cut: the ways of going on. The statements are
-- in `PlacedStatements`.
use Rattle.std.proofs.Common.{◌≡◌, ℕ, ◌+◌, Bool, true, false, refl, sym, ap, ◌∙◌, subst, cond, Option, Some, None}
use Rattle.std.specs.Prelude.{nat_eq, pos}
use Rattle.wb_heap_model.specs.declared.heap.Answer.{Answer}
use Rattle.wb_heap_model.specs.declared.heap.Kind.{Kind}
use Rattle.wb_heap_model.specs.declared.heap.Kind.TheVariants as K
use Rattle.wb_heap_model.specs.declared.heap.Panic.{Panic}
use Rattle.wb_heap_model.specs.declared.heap.Ptr.{Ptr}
use Rattle.wb_meaning.specs.declared.run.Why.{Why}
use Rattle.wb_tree.specs.declared.script.Holder.{Holder}
use Rattle.wb_tree.specs.declared.script.Holder.TheVariants as H
use Rattle.wb_tree.specs.declared.script.Number.{Number}
use Rattle.wb_tree.specs.declared.script.Number.TheVariants.{Constant, Variable}
use Rattle.wb_tree.specs.declared.script.Pointer.{Pointer}
use Rattle.wb_tree.specs.declared.script.Pointer.TheVariants.{Held, Field}
use Rattle.wb_heap_model.specs.Heap.{Heap}
use Rattle.wb_heap_model.specs.Row.{Cell, cell_at, changed}
use Rattle.wb_heap_model.specs.Rules.{Request}
use Rattle.wb_heap_model.specs.Contents.{Content}
use Rattle.wb_meaning.specs.State.{Value, number, State, Way, panics, is_cut, no_cleanup, Query, Process, ends, stops, asks, notes, and_then, on_plain_end, then_do, require, with_some, unless, set_heap, set_local, pointer_in, number_in, local_of}
use Rattle.wb_heap_model.specs.Pointers.{null}
use Rattle.wb_meaning.specs.Operands.{number_of, held_by, fields_of, raw_words_of, units_of, with_cell, with_fields, with_pointer, set_field, set_pointer, set_row}
use Rattle.wb_meaning.specs.Attempts.{resized}
use Rattle.wb_renaming.specs.SameButNumbers.{AllBeside}
use Rattle.wb_renaming.proofs.SameNumbers.{set-beside, BothSome, neither, both_some, get-beside, unwrap-beside}
use Rattle.wb_placings.proofs.Partners.{PointerPairs, Stands, Partners, ArePartners, after_answer, answer-extends, Extends, IsSameContent, same_words, same_fields, same_units, same_none, IsSameCell, IsSameItem, IsSameValue, same_pointer, same_number, same_buffer, same_view, IsSameFrame, IsSameWay, same_plain, same_return, same_leave, items-later, frame-later}
use Rattle.wb_placings.proofs.RowLemmas.{found-pointer}
use Rattle.wb_placings.proofs.SameRows.{rows-changed}
use Rattle.wb_placings.proofs.PlacedHeaps.{IsSameHeap, with_rows, AreCells}

-- states that are the same but for partners, after as many steps and lines
pub record IsBeside (w : Partners) (st other : State) : Type 0 where
  pub partners : ArePartners w
  pub heap : IsSameHeap w st.heap other.heap
  pub cleanup : Stands w.pairs st.cleanup other.cleanup
  pub items : AllBeside (IsSameItem w.pairs) st.items other.items
  pub slots : other.slots ≡ st.slots
  pub frame : IsSameFrame w.pairs st.frame other.frame
  pub lines : other.lines ≡ st.lines
  pub steps : other.steps ≡ st.steps

-- Both end, or lack the cleanup stack, or ask for a cell of the same length, or make a note; whatever is answered, they go on so, and what a grant gives are
-- partners. Or the first panics or is cut, and nothing is said of the second.
pub data GoesAlike : Partners → Process → Process → Type 0 where
  both_end : {w : Partners} {way other_way : Way} {st other : State} → IsSameWay w.pairs way other_way → IsBeside w st other → GoesAlike w (ends way st) (ends other_way other)
  both_lack : {w : Partners} {st other : State} → IsBeside w st other → GoesAlike w (stops no_cleanup st) (stops no_cleanup other)
  panics_first : {w : Partners} {panic : Panic} {st : State} {p : Process} → GoesAlike w (stops (panics panic) st) p
  cut_first : {w : Partners} {why : Why} {st : State} {p : Process} → GoesAlike w (stops (is_cut why) st) p
  both_ask : {w : Partners} {t u : Request} {cut other_cut : State} {go other_go : ℕ → Answer → Process} (p q : Ptr) → u.length ≡ t.length → u.due ≡ t.due →
      ((answer : Answer) → GoesAlike (after_answer w p q answer) (go (w.made + 1) answer) (other_go (w.made + 1) answer)) →
      GoesAlike w (asks t cut go) (asks u other_cut other_go)
  both_note : {w : Partners} {q other_q : Query} {p other : Process} → GoesAlike w p other → GoesAlike w (notes q p) (notes other_q other)

-- a value on the left has a partner on the right
pub data IfFound {A B : Type 0} (R : A → B → Type 0) : Option A → Option B → Type 0 where
  not_found : {q : Option B} → IfFound R None q
  both_found : {x : A} {y : B} → R x y → IfFound R (Some x) (Some y)

pub if_found : {A B : Type 0} {R : A → B → Type 0} {o : Option A} {q : Option B} → BothSome R o q → IfFound R o q
if_found neither = not_found
if_found (both_some r) = both_found r

-- ---- what states that are the same hold

abbrev pub is_object : Kind → Bool
is_object (K.Object class) = true
is_object _ = false

-- a pointer finds a cell; or an object
abbrev pub IsLive : Ptr → State → Type 0
IsLive p st = (c : Cell Content) × (cell_at p st.heap.row ≡ Some c)

abbrev pub IsLiveObject : Ptr → State → Type 0
IsLiveObject p st = (c : Cell Content) × (cell_at p st.heap.row ≡ Some c) × (is_object c.head.kind ≡ true)

-- the object that a target is a field of is there
abbrev pub CanBeSet : State → Pointer → Type 0
CanBeSet st (Held h) = Unit {0}
CanBeSet st (Field h class i) = IsLiveObject (held_by st h) st

-- what a pointer and its partner find
pub record AreFound (w : Partners) (st other : State) (p : Ptr) (c d : Cell Content) : Type 0 where
  pub at : cell_at p st.heap.row ≡ Some c
  pub cells : AreCells w st.heap other.heap c d

pub cell_at-found : {w : Partners} {st other : State} {p q : Ptr} → Stands w.pairs p q → IsBeside w st other → IfFound (AreFound w st other p) (cell_at p st.heap.row) (cell_at q other.heap.row)
cell_at-found {w} {st} {other} {p} {q} s b = by (cell_at p st.heap.row) refl
  where
    by : (o : Option (Cell Content)) → cell_at p st.heap.row ≡ o → IfFound (AreFound w st other p) o (cell_at q other.heap.row)
    by None e = not_found
    by (Some c) e =
        let its = b.heap.rows.found p q c s e in
        subst (IfFound (AreFound w st other p) (Some c)) (sym its.is)
        (both_found (record {
          at = e;
          cells = record {
            here = subst (λ z. cell_at z st.heap.row ≡ Some c) (sym (found-pointer p st.heap.row c e)) e;
            there = subst (λ z. cell_at z other.heap.row ≡ Some its.cell) (sym (found-pointer q other.heap.row its.cell its.is)) its.is;
            same = its.same;
          };
        }))

module _ {pairs : PointerPairs} where
  number_in-same : {v u : Value} → IsSameValue pairs v u → number_in u ≡ number_in v
  number_in-same (same_pointer s) = refl
  number_in-same (same_number z) = refl
  number_in-same (same_buffer max us) = refl
  number_in-same (same_view s) = refl

  pub set_field-same : {p q : Ptr} {c d : Content} (i : ℕ) → Stands pairs p q → IsSameContent pairs c d → IsSameContent pairs (set_field i p c) (set_field i q d)
  set_field-same i s (same_words ws) = same_words ws
  set_field-same i s (same_fields all) = same_fields (set-beside i _ _ s all)
  set_field-same i s (same_units us) = same_units us
  set_field-same i s same_none = same_none

  pub resized-same : {c d : Content} (usable : ℕ) → IsSameContent pairs c d → IsSameContent pairs (resized usable c) (resized usable d)
  resized-same usable (same_words ws) = same_words _
  resized-same usable (same_fields s) = same_fields s
  resized-same usable (same_units us) = same_units us
  resized-same usable same_none = same_none

  -- fields are those of an object
  fields-same : {c d : Content} (kind : Kind) (class : ℕ) → IsSameContent pairs c d →
      IfFound (λ ps qs. AllBeside (Stands pairs) ps qs × (is_object kind ≡ true)) (fields_of kind c class) (fields_of kind d class)
  fields-same (K.Object k) class (same_words ws) = not_found
  fields-same (K.Object k) class (same_fields {ps} {qs} s) = by (nat_eq k class)
    where
      by : (b : Bool) → IfFound (λ ps qs. AllBeside (Stands pairs) ps qs × (is_object (K.Object k) ≡ true)) (cond b (Some ps) None) (cond b (Some qs) None)
      by true = both_found (s, refl)
      by false = not_found
  fields-same (K.Object k) class (same_units us) = not_found
  fields-same (K.Object k) class same_none = not_found
  fields-same K.Raw class s = not_found
  fields-same K.Text class s = not_found
  fields-same K.Cleanup class s = not_found

  words-same : {c d : Content} (kind : Kind) → IsSameContent pairs c d → raw_words_of kind d ≡ raw_words_of kind c
  words-same K.Raw (same_words ws) = refl
  words-same K.Raw (same_fields s) = refl
  words-same K.Raw (same_units us) = refl
  words-same K.Raw same_none = refl
  words-same (K.Object k) s = refl
  words-same K.Text s = refl
  words-same K.Cleanup s = refl

  pub raw_words-same : {c d : Cell Content} → IsSameCell pairs c d → raw_words_of d.head.kind d.content ≡ raw_words_of c.head.kind c.content
  raw_words-same {c = c} {d = d} s = ap (λ k. raw_words_of k d.content) s.head.kind ∙ words-same c.head.kind s.content

  text-same : {c d : Content} (kind : Kind) → IsSameContent pairs c d → units_of kind d ≡ units_of kind c
  text-same K.Text (same_words ws) = refl
  text-same K.Text (same_fields s) = refl
  text-same K.Text (same_units us) = refl
  text-same K.Text same_none = refl
  text-same K.Raw s = refl
  text-same (K.Object k) s = refl
  text-same K.Cleanup s = refl

  pub units-same : {c d : Cell Content} → IsSameCell pairs c d → units_of d.head.kind d.content ≡ units_of c.head.kind c.content
  units-same {c = c} {d = d} s = ap (λ k. units_of k d.content) s.head.kind ∙ text-same c.head.kind s.content

module _ {w : Partners} {st other : State} (b : IsBeside w st other) where
  pub local-same : (i : ℕ) → IsSameValue w.pairs (local_of st i) (local_of other i)
  local-same i = unwrap-beside (number (pos 0)) (number (pos 0)) (same_number (pos 0)) (get-beside i b.frame.locals)

  pub number-same : (v : Number) → number_of other v ≡ number_of st v
  number-same (Constant z) = refl
  number-same (Variable i) = number_in-same (local-same i)

  pub held-same : (h : Holder) → Stands w.pairs (held_by st h) (held_by other h)
  held-same (H.Local i) = by (local-same i)
    where
      by : {v u : Value} → IsSameValue w.pairs v u → Stands w.pairs (pointer_in v) (pointer_in u)
      by (same_pointer s) = s
      by (same_number z) = b.partners.null
      by (same_buffer max us) = b.partners.null
      by (same_view s) = b.partners.null
  held-same H.This = b.frame.this

-- ---- changes of one part

-- a heap is changed, later
pub heap-beside : {w v : Partners} {st other : State} {h g : Heap Content} → Extends w.pairs v.pairs → ArePartners v → IsSameHeap v h g → IsBeside w st other →
    IsBeside v (set_heap st h) (set_heap other g)
heap-beside {w} {v} {st} {other} x is s b = record {
  partners = is;
  heap = s;
  cleanup = x st.cleanup other.cleanup b.cleanup;
  items = items-later x b.items;
  slots = b.slots;
  frame = frame-later x b.frame;
  lines = b.lines;
  steps = b.steps;
}

pub set_heap-beside : {w : Partners} {st other : State} {h g : Heap Content} → IsSameHeap w h g → IsBeside w st other → IsBeside w (set_heap st h) (set_heap other g)
set_heap-beside s b = heap-beside (λ p q t. t) b.partners s b

pub set_local-beside : {w : Partners} {st other : State} {v u : Value} (i : ℕ) → IsSameValue w.pairs v u → IsBeside w st other → IsBeside w (set_local st i v) (set_local other i u)
set_local-beside i s b = record {
  partners = b.partners;
  heap = b.heap;
  cleanup = b.cleanup;
  items = b.items;
  slots = b.slots;
  frame = record { this = b.frame.this; locals = set-beside i _ _ s b.frame.locals };
  lines = b.lines;
  steps = b.steps;
}

-- the content of the cell of a pointer changes
abbrev pub set_changed : State → Ptr → (Content → Content) → State
set_changed st p f = set_row st (changed p f st.heap.row)

pub changed_cell-beside : {w : Partners} {st other : State} {p q : Ptr} (f g : Content → Content) →
    ((c d : Content) → IsSameContent w.pairs c d → IsSameContent w.pairs (f c) (g d)) → Stands w.pairs p q → IsLive p st → IsBeside w st other →
    IsBeside w (set_changed st p f) (set_changed other q g)
changed_cell-beside f g same s live b = set_heap-beside (with_rows (rows-changed f g same b.partners s live.1 b.heap.rows) b.heap) b

pub set_pointer-beside : {w : Partners} {st other : State} {p q : Ptr} (target : Pointer) → CanBeSet st target → Stands w.pairs p q → IsBeside w st other →
    IsBeside w (set_pointer st target p) (set_pointer other target q)
set_pointer-beside (Held (H.Local i)) can s b = set_local-beside i (same_pointer s) b
set_pointer-beside (Held H.This) can s b = b
set_pointer-beside {p = p} {q = q} (Field h class i) can s b =
    changed_cell-beside (set_field i p) (set_field i q) (λ c d t. set_field-same i s t) (held-same b h) (can.0, can.1) b

-- ---- ways of going on

-- how two ways of going on do
abbrev pub GoesOn : Partners → (Way → State → Process) → (Way → State → Process) → Type 0
GoesOn w go other_go =
    (v : Partners) (way other_way : Way) (st other : State) → Extends w.pairs v.pairs → IsSameWay v.pairs way other_way → IsBeside v st other →
    GoesAlike v (go way st) (other_go other_way other)

pub and_then-alike : {w : Partners} {p q : Process} (go other_go : Way → State → Process) → GoesAlike w p q → GoesOn w go other_go → GoesAlike w (and_then p go) (and_then q other_go)
unfolding and_then
and_then-alike go other_go (both_end s b) h = h _ _ _ _ _ (λ p q r. r) s b
and_then-alike go other_go (both_lack b) h = both_lack b
and_then-alike go other_go panics_first h = panics_first
and_then-alike go other_go cut_first h = cut_first
and_then-alike {w = w} go other_go (both_ask p q length due rest) h =
    both_ask p q length due
    (λ a. and_then-alike go other_go (rest a) (λ v way other_way st other x. h v way other_way st other (λ y z s. x y z (answer-extends w p q a y z s))))
and_then-alike go other_go (both_note f) h = both_note (and_then-alike go other_go f h)

pub plain_end-alike : {v : Partners} {way other_way : Way} {st other : State} (go other_go : State → Process) → IsSameWay v.pairs way other_way → IsBeside v st other →
    GoesAlike v (go st) (other_go other) → GoesAlike v (on_plain_end way st go) (on_plain_end other_way other other_go)
unfolding on_plain_end
plain_end-alike go other_go same_plain b f = f
plain_end-alike go other_go (same_return s) b f = both_end (same_return s) b
plain_end-alike go other_go (same_leave code) b f = both_end (same_leave code) b

pub then_do-alike : {w : Partners} {p q : Process} (go other_go : State → Process) → GoesAlike w p q →
    ((v : Partners) (st other : State) → Extends w.pairs v.pairs → IsBeside v st other → GoesAlike v (go st) (other_go other)) → GoesAlike w (then_do p go) (then_do q other_go)
unfolding then_do
then_do-alike go other_go f h = and_then-alike _ _ f (λ v way other_way st other x s b. plain_end-alike go other_go s b (h v st other x b))

pub require-alike : {w : Partners} {st other : State} (b c : Bool) (panic : Panic) (go other_go : State → Process) → (b ≡ true → c ≡ true) →
    (b ≡ true → GoesAlike w (go st) (other_go other)) → GoesAlike w (require b panic st go) (require c panic other other_go)
unfolding require
require-alike true true panic go other_go e f = f refl
require-alike true false panic go other_go e f = let no = e refl in cc
require-alike false c panic go other_go e f = panics_first

pub with_some-alike : {A B : Type 0} (R : A → B → Type 0) {w : Partners} {st other : State} {o : Option A} {q : Option B} (panic : Panic) (go : A → Process) (other_go : B → Process) →
    IfFound R o q → IsBeside w st other → ((x : A) (y : B) → R x y → GoesAlike w (go x) (other_go y)) → GoesAlike w (with_some o panic st go) (with_some q panic other other_go)
unfolding with_some
with_some-alike R panic go other_go not_found b f = panics_first
with_some-alike R panic go other_go (both_found r) b f = f _ _ r

-- the same value on both sides
pub given-same : {A : Type 0} {w : Partners} (go other_go : A → Process) (x y : A) → y ≡ x → GoesAlike w (go x) (other_go x) → GoesAlike w (go x) (other_go y)
given-same {w = w} go other_go x y e f = subst (λ z. GoesAlike w (go x) (other_go z)) (sym e) f

some-alike : {A : Type 0} {w : Partners} {st other : State} (o : Option A) (panic : Panic) (go other_go : A → Process) → IsBeside w st other →
    ((x : A) → o ≡ Some x → GoesAlike w (go x) (other_go x)) → GoesAlike w (with_some o panic st go) (with_some o panic other other_go)
unfolding with_some
some-alike (Some x) panic go other_go b f = f x refl
some-alike None panic go other_go b f = panics_first

pub with_same-alike : {A : Type 0} {w : Partners} {st other : State} (o q : Option A) (panic : Panic) (go other_go : A → Process) → q ≡ o → IsBeside w st other →
    ((x : A) → o ≡ Some x → GoesAlike w (go x) (other_go x)) → GoesAlike w (with_some o panic st go) (with_some q panic other other_go)
with_same-alike {w = w} {st = st} {other = other} o q panic go other_go e b f =
    subst (λ z. GoesAlike w (with_some o panic st go) (with_some z panic other other_go)) (sym e) (some-alike o panic go other_go b f)

pub unless-alike : {w : Partners} {st other : State} (o q : Option Panic) (go other_go : State → Process) → (o ≡ None → q ≡ None) →
    GoesAlike w (go st) (other_go other) → GoesAlike w (unless o st go) (unless q other other_go)
unfolding unless
unless-alike (Some x) q go other_go e f = panics_first
unless-alike None None go other_go e f = f
unless-alike None (Some y) go other_go e f = let no = e refl in cc

-- cells and pointers
pub with_cell-alike : {w : Partners} {st other : State} {p q : Ptr} (go other_go : Cell Content → Process) → Stands w.pairs p q → IsBeside w st other →
    ((c d : Cell Content) → AreFound w st other p c d → GoesAlike w (go c) (other_go d)) → GoesAlike w (with_cell st p go) (with_cell other q other_go)
unfolding with_cell
with_cell-alike {w = w} {st = st} {other = other} {p = p} go other_go s b f = with_some-alike (AreFound w st other p) _ go other_go (cell_at-found s b) b f

pub with_pointer-alike : {w : Partners} {st other : State} (p : Pointer) (go other_go : Ptr → Process) → IsBeside w st other →
    ((q r : Ptr) → Stands w.pairs q r → CanBeSet st p → GoesAlike w (go q) (other_go r)) → GoesAlike w (with_pointer st p go) (with_pointer other p other_go)
unfolding with_pointer with_fields
with_pointer-alike (Held h) go other_go b f = f _ _ (held-same b h) tt
with_pointer-alike {w = w} (Field h class i) go other_go b f =
    with_cell-alike _ _ (held-same b h) b (λ c d s.
    with_some-alike (λ ps qs. AllBeside (Stands w.pairs) ps qs × (is_object c.head.kind ≡ true)) _ _ _ (fields_of-found class s) b (λ ps qs both.
    f _ _ (unwrap-beside null null b.partners.null (get-beside i both.0)) (c, s.at, both.1)))
  where
    fields_of-found : {st other : State} {p : Ptr} {c d : Cell Content} (class : ℕ) → AreFound w st other p c d →
        IfFound (λ ps qs. AllBeside (Stands w.pairs) ps qs × (is_object c.head.kind ≡ true)) (fields_of c.head.kind c.content class) (fields_of d.head.kind d.content class)
    fields_of-found {c = c} {d = d} class s =
        subst (λ k. IfFound (λ ps qs. AllBeside (Stands w.pairs) ps qs × (is_object c.head.kind ≡ true)) (fields_of c.head.kind c.content class) (fields_of k d.content class))
        (sym s.cells.same.head.kind) (fields-same c.head.kind class s.cells.same.content)
