-- Releases and texts in states that are the same but for partners.
use Rattle.std.proofs.Common.{◌≡◌, ℕ, ℤ, ◌+◌, ◌-◌, Bool, true, false, not, List, [], drop, refl, sym, ap, ◌∙◌, subst, cond, Option, Some, None, Result, Ok, Err}
use Rattle.std.specs.Prelude.{nat_eq}
use Rattle.std.proofs.lemmas.Bool.{eqb-true, eq-eqb, and_parts, and_from, false≢true}
use Rattle.wb_heap_model.specs.declared.heap.Panic.{Panic}
use Rattle.wb_heap_model.specs.declared.heap.Ptr.{Ptr}
use Rattle.wb_tree.specs.declared.script.Readable.{Readable}
use Rattle.wb_tree.specs.declared.script.Readable.TheVariants.{Of, ViewOf, Quoted}
use Rattle.wb_tree.specs.declared.script.Writable.{Writable}
use Rattle.wb_tree.specs.declared.script.Writable.TheVariants.{OwnBuffer, InCell}
use Rattle.wb_heap_model.specs.declared.text.Base.{Base}
use Rattle.wb_heap_model.specs.declared.text.Base.TheVariants as B
use Rattle.wb_heap_model.specs.declared.text.View.{View}
use Rattle.wb_heap_model.specs.Heap.{is_cleanup}
use Rattle.wb_heap_model.specs.Row.{Cell, cell_at}
use Rattle.wb_meaning.specs.Reading.{Source, whole, part, base_of, position_of, view_in, buffer_text, max_in, set_units, set_text, is_same_base, with_writable, with_readable, with_text_cell, with_base, with_units, with_room, write, write_view}
use Rattle.wb_heap_model.specs.Texts.{max_units, Edited, Part, exactly}
use Rattle.wb_heap_model.specs.Pointers.{is_same_pointer, is_null}
use Rattle.wb_heap_model.specs.Contents.{Content, class_of}
use Rattle.wb_meaning.specs.State.{Value, State, goes_on, Process, ends, local_of}
use Rattle.wb_meaning.specs.Statements.{of_script, release, released, with_class, with_words}
use Rattle.wb_renaming.proofs.SameNumbers.{ap_two}
use Rattle.wb_placings.proofs.Partners.{PointerPairs, Stands, Partners, IsSameContent, same_words, same_fields, same_units, same_none, IsSameBase, same_nothing, same_literal, same_local, same_cell, IsSameView, IsSameValue, same_pointer, same_number, same_buffer, same_view, same_plain}
use Rattle.wb_placings.proofs.SameRows.{rows-without}
use Rattle.wb_placings.proofs.PlacedHeaps.{with_rows}
use Rattle.wb_placings.proofs.PlacedProcesses.{IsBeside, GoesAlike, both_end, panics_first, IfFound, not_found, both_found, IsLive, AreFound, cell_at-found, raw_words-same, units-same, local-same, set_heap-beside, set_local-beside, changed_cell-beside, given-same, with_same-alike, with_cell-alike, with_pointer-alike}

-- equal pointers
same-pointer : (p q : Ptr) → is_same_pointer p q ≡ true → p ≡ q
same-pointer p q e =
    let both = and_parts (nat_eq p.place q.place) (nat_eq p.number q.number) e in
    ap (λ n. record { place = n; number = p.number }) (eqb-true p.place q.place both.0) ∙ ap (λ n. record { place = q.place; number = n }) (eqb-true p.number q.number both.1)

pointer-itself : (p : Ptr) → is_same_pointer p p ≡ true
pointer-itself p = and_from (nat_eq p.place p.place) (nat_eq p.number p.number) (eq-eqb p.place p.place refl) (eq-eqb p.number p.number refl)

-- pointers that are equal have equal partners
pub pointers-equal : {w : Partners} {st other : State} {p q x y : Ptr} → IsBeside w st other → Stands w.pairs p x → Stands w.pairs q y → is_same_pointer p q ≡ true → is_same_pointer x y ≡ true
pointers-equal {w} {st} {other} {p} {q} {x} {y} b s t e =
    subst (λ z. is_same_pointer x z ≡ true) (b.partners.once p x y s (subst (λ z. Stands w.pairs z y) (sym (same-pointer p q e)) t)) (pointer-itself x)

-- live pointers that differ have partners that differ
pointers-apart : {w : Partners} {st other : State} {p q x y : Ptr} → IsBeside w st other → Stands w.pairs p x → Stands w.pairs q y → IsLive p st → IsLive q st →
    is_same_pointer p q ≡ false → is_same_pointer x y ≡ false
pointers-apart {w} {st} {other} {p} {q} {x} {y} b s t one two e = by (is_same_pointer x y) refl
  where
    by : (a : Bool) → is_same_pointer x y ≡ a → is_same_pointer x y ≡ false
    by false f = f
    by true f =
        let same : p ≡ q = b.heap.rows.apart p q y one.0 two.0 (subst (Stands w.pairs p) (same-pointer x y f) s) t one.1 two.1 in
        absurd (false≢true (sym e ∙ subst (λ z. is_same_pointer p z ≡ true) same (pointer-itself p)))

-- what a text operand is a part of
pub data IsSameSource (pairs : PointerPairs) : Source → Source → Type 0 where
  same_whole : {b c : Base} → IsSameBase pairs b c → IsSameSource pairs (whole b) (whole c)
  same_part : {v u : View} → IsSameView pairs v u → IsSameSource pairs (part v) (part u)

-- where a base is a cell, the cell is there
abbrev pub IsLiveBase : State → Base → Type 0
IsLiveBase st (B.Cell p) = IsLive p st
IsLiveBase st _ = Unit {0}

module _ {pairs : PointerPairs} where
  base_of-same : {s t : Source} → IsSameSource pairs s t → IsSameBase pairs (base_of s) (base_of t)
  base_of-same (same_whole b) = b
  base_of-same (same_part v) = v.base

  position_of-same : {s t : Source} → IsSameSource pairs s t → position_of t ≡ position_of s
  position_of-same (same_whole b) = refl
  position_of-same (same_part v) = v.position

  view_in-same : {v u : Value} → IsSameValue pairs v u → IsSameSource pairs (view_in v) (view_in u)
  view_in-same (same_pointer s) = same_whole same_nothing
  view_in-same (same_number z) = same_whole same_nothing
  view_in-same (same_buffer max us) = same_whole same_nothing
  view_in-same (same_view s) = same_part s

  buffer_text-same : {v u : Value} → IsSameValue pairs v u → buffer_text u ≡ buffer_text v
  buffer_text-same (same_pointer s) = refl
  buffer_text-same (same_number z) = refl
  buffer_text-same (same_buffer max us) = refl
  buffer_text-same (same_view s) = refl

  max_in-same : {v u : Value} → IsSameValue pairs v u → max_in u ≡ max_in v
  max_in-same (same_pointer s) = refl
  max_in-same (same_number z) = refl
  max_in-same (same_buffer max us) = refl
  max_in-same (same_view s) = refl

  set_units-same : {c d : Content} (us : List ℕ) → IsSameContent pairs c d → IsSameContent pairs (set_units us c) (set_units us d)
  set_units-same us (same_words ws) = same_words ws
  set_units-same us (same_fields s) = same_fields s
  set_units-same us (same_units old) = same_units us
  set_units-same us same_none = same_none

-- texts that differ and are there differ in the other run too
base-apart : {w : Partners} {st other : State} {b c d e : Base} → IsBeside w st other → IsSameBase w.pairs b c → IsSameBase w.pairs d e → IsLiveBase st b → IsLiveBase st d →
    is_same_base b d ≡ false → is_same_base c e ≡ false
base-apart beside same_nothing t one two e = refl
base-apart beside (same_literal i) t one two e = refl
base-apart beside (same_local i) same_nothing one two e = refl
base-apart beside (same_local i) (same_literal j) one two e = refl
base-apart beside (same_local i) (same_local j) one two e = e
base-apart beside (same_local i) (same_cell t) one two e = refl
base-apart beside (same_cell s) same_nothing one two e = refl
base-apart beside (same_cell s) (same_literal j) one two e = refl
base-apart beside (same_cell s) (same_local j) one two e = refl
base-apart beside (same_cell s) (same_cell t) one two e = pointers-apart beside s t one two e

pub source-apart : {w : Partners} {st other : State} {b c : Base} {s t : Source} → IsBeside w st other → IsSameBase w.pairs b c → IsSameSource w.pairs s t → IsLiveBase st b →
    IsLiveBase st (base_of s) → not (is_same_base b (base_of s)) ≡ true → not (is_same_base c (base_of t)) ≡ true
source-apart {w} {st} {other} {b} {c} {s} {t} beside same source one two e =
    ap not (base-apart beside same (base_of-same source) one two (by (is_same_base b (base_of s)) e))
  where
    by : (a : Bool) → not a ≡ true → a ≡ false
    by false e = refl
    by true e = cc

-- ---- releases

released-alike : {w : Partners} {st other : State} {p q : Ptr} {o u : Option (Cell Content)} → IfFound (AreFound w st other p) o u → Stands w.pairs p q → IsBeside w st other →
    GoesAlike w (released o p st) (released u q other)
unfolding released
released-alike not_found s b = panics_first
released-alike (both_found c) s b = both_end same_plain (set_heap-beside (with_rows (rows-without s c.at b.heap.rows) b.heap) b)

of_script-found : {w : Partners} {st other : State} {p : Ptr} {o u : Option (Cell Content)} → IfFound (AreFound w st other p) o u → IfFound (AreFound w st other p) (of_script o) (of_script u)
of_script-found not_found = not_found
of_script-found {w} {st} {other} {p} (both_found {x = c} {y = d} r) = by (is_cleanup c.head.kind) (is_cleanup d.head.kind) (ap is_cleanup r.cells.same.head.kind)
  where
    by : (a b : Bool) → b ≡ a → IfFound (AreFound w st other p) (cond a None (Some c)) (cond b None (Some d))
    by true b e = not_found
    by false false e = both_found r
    by false true e = cc

pub release-alike : {w : Partners} {st other : State} {p q : Ptr} → Stands w.pairs p q → IsBeside w st other → GoesAlike w (release p st) (release q other)
unfolding release
release-alike {w = w} {st = st} {other = other} {p = p} {q = q} s b = by (is_null p) (is_null q) (b.partners.nulls p q s)
  where
    by : (x y : Bool) → y ≡ x →
        GoesAlike w (elim x [ true ↦ ends goes_on st | false ↦ released (of_script (cell_at p st.heap.row)) p st ])
        (elim y [ true ↦ ends goes_on other | false ↦ released (of_script (cell_at q other.heap.row)) q other ])
    by true true e = both_end same_plain b
    by false false e = released-alike (of_script-found (cell_at-found s b)) s b
    by true false e = cc
    by false true e = cc

-- ---- what a cell holds

pub with_words-alike : {w : Partners} {st other : State} {p q : Ptr} (go other_go : Cell Content → List ℤ → Process) → Stands w.pairs p q → IsBeside w st other →
    ((c d : Cell Content) (ws : List ℤ) → AreFound w st other p c d → GoesAlike w (go c ws) (other_go d ws)) →
    GoesAlike w (with_words st p go) (with_words other q other_go)
unfolding with_words
with_words-alike go other_go s b f = with_cell-alike _ _ s b (λ c d t. with_same-alike _ _ _ (go c) (other_go d) (raw_words-same t.cells.same) b (λ ws _. f c d ws t))

pub with_class-alike : {w : Partners} {st other : State} {p q : Ptr} (go other_go : ℕ → Process) → Stands w.pairs p q → IsBeside w st other →
    ((class : ℕ) → GoesAlike w (go class) (other_go class)) → GoesAlike w (with_class st p go) (with_class other q other_go)
unfolding with_class
with_class-alike go other_go s b f = with_cell-alike _ _ s b (λ c d t. with_same-alike _ _ _ go other_go (ap class_of t.cells.same.head.kind) b (λ class _. f class))

with_text_cell-alike : {w : Partners} {st other : State} {p q : Ptr} (go other_go : Cell Content → List ℕ → Process) → Stands w.pairs p q → IsBeside w st other →
    ((c d : Cell Content) (us : List ℕ) → AreFound w st other p c d → GoesAlike w (go c us) (other_go d us)) →
    GoesAlike w (with_text_cell st p go) (with_text_cell other q other_go)
unfolding with_text_cell
with_text_cell-alike go other_go s b f = with_cell-alike _ _ s b (λ c d t. with_same-alike _ _ _ (go c) (other_go d) (units-same t.cells.same) b (λ us _. f c d us t))

-- ---- texts

pub with_writable-alike : {w : Partners} {st other : State} (d : Writable) (go other_go : Base → Process) → IsBeside w st other →
    ((x y : Base) → IsSameBase w.pairs x y → GoesAlike w (go x) (other_go y)) → GoesAlike w (with_writable st d go) (with_writable other d other_go)
unfolding with_writable
with_writable-alike (OwnBuffer i) go other_go b f = f _ _ (same_local i)
with_writable-alike (InCell p) go other_go b f = with_pointer-alike p _ _ b (λ q r s _. f _ _ (same_cell s))

pub with_readable-alike : {w : Partners} {st other : State} (t : Readable) (go other_go : Source → Process) → IsBeside w st other →
    ((x y : Source) → IsSameSource w.pairs x y → GoesAlike w (go x) (other_go y)) → GoesAlike w (with_readable st t go) (with_readable other t other_go)
unfolding with_readable
with_readable-alike (Of d) go other_go b f = with_writable-alike d _ _ b (λ x y s. f _ _ (same_whole s))
with_readable-alike (ViewOf i) go other_go b f = f _ _ (view_in-same (local-same b i))
with_readable-alike (Quoted i) go other_go b f = f _ _ (same_whole (same_literal i))

with_base-alike : {w : Partners} {st other : State} {x y : Base} (literals : List (List ℕ)) (go other_go : List ℕ → Process) → IsSameBase w.pairs x y → IsBeside w st other →
    ((us : List ℕ) → IsLiveBase st x → GoesAlike w (go us) (other_go us)) → GoesAlike w (with_base literals st x go) (with_base literals other y other_go)
unfolding with_base
with_base-alike literals go other_go same_nothing b f = f [] tt
with_base-alike literals go other_go (same_literal i) b f = f _ tt
with_base-alike literals go other_go (same_local i) b f = given-same go other_go _ _ (buffer_text-same (local-same b i)) (f _ tt)
with_base-alike literals go other_go (same_cell s) b f = with_text_cell-alike _ _ s b (λ c d us t. f us (c, t.at))

pub with_units-alike : {w : Partners} {st other : State} {x y : Source} (literals : List (List ℕ)) (go other_go : List ℕ → Process) → IsSameSource w.pairs x y → IsBeside w st other →
    ((us : List ℕ) → IsLiveBase st (base_of x) → GoesAlike w (go us) (other_go us)) → GoesAlike w (with_units literals st x go) (with_units literals other y other_go)
unfolding with_units
with_units-alike literals go other_go (same_whole s) b f = with_base-alike literals go other_go s b f
with_units-alike literals go other_go (same_part s) b f =
    with_base-alike literals _ _ s.base b (λ us live. given-same go other_go _ _ (ap_two (λ (l p : ℕ). exactly l (drop p us)) s.length s.position) (f _ live))

pub with_room-alike : {w : Partners} {st other : State} {x y : Base} (go other_go : ℕ → List ℕ → Process) → IsSameBase w.pairs x y → IsBeside w st other →
    ((max : ℕ) (us : List ℕ) → IsLiveBase st x → GoesAlike w (go max us) (other_go max us)) → GoesAlike w (with_room st x go) (with_room other y other_go)
unfolding with_room
with_room-alike go other_go same_nothing b f = panics_first
with_room-alike go other_go (same_literal i) b f = panics_first
with_room-alike {st = st} {other = other} go other_go (same_local i) b f =
    let s = local-same b i in
    given-same (λ (v : ℕ). go v (buffer_text (local_of st i))) (λ (v : ℕ). other_go v (buffer_text (local_of other i))) _ _ (max_in-same s)
    (given-same (go (max_in (local_of st i))) (other_go (max_in (local_of st i))) _ _ (buffer_text-same s) (f _ _ tt))
with_room-alike go other_go (same_cell s) b f =
    with_text_cell-alike _ _ s b (λ c d us t.
    given-same (λ (v : ℕ). go v us) (λ (v : ℕ). other_go v us) _ _ (ap (λ (l : ℕ). max_units (l - 16)) t.cells.same.head.length) (f _ us (c, t.at)))

set_text-beside : {w : Partners} {st other : State} {x y : Base} (max : ℕ) (us : List ℕ) → IsSameBase w.pairs x y → IsLiveBase st x → IsBeside w st other →
    IsBeside w (set_text st x max us) (set_text other y max us)
set_text-beside max us same_nothing live b = b
set_text-beside max us (same_literal i) live b = b
set_text-beside max us (same_local i) live b = set_local-beside i (same_buffer max us) b
set_text-beside max us (same_cell s) live b = changed_cell-beside (set_units us) (set_units us) (λ c d t. set_units-same us t) s live b

pub write-alike : {w : Partners} {st other : State} {x y : Base} (e : Edited) (max : ℕ) → IsSameBase w.pairs x y → IsLiveBase st x → IsBeside w st other →
    GoesAlike w (write e st x max) (write e other y max)
unfolding write
write-alike (Ok us) max s live b = both_end same_plain (set_text-beside max us s live b)
write-alike (Err panic) max s live b = panics_first

pub write_view-alike : {w : Partners} {st other : State} {x y : Source} (e : Result Part Panic) (target : ℕ) → IsSameSource w.pairs x y → IsBeside w st other →
    GoesAlike w (write_view e st target x) (write_view e other target y)
unfolding write_view
write_view-alike {w = w} {x = x} {y = y} (Ok p) target s b =
    let seen : IsSameView w.pairs (record { base = base_of x; position = position_of x + p.from; length = p.count }) (record { base = base_of y; position = position_of y + p.from; length = p.count }) =
    record { base = base_of-same s; position = ap (λ n. n + p.from) (position_of-same s); length = refl } in
    both_end same_plain (set_local-beside target (same_view seen) b)
write_view-alike (Err panic) target s b = panics_first
