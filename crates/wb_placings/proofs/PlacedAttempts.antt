-- Attempts in states that are the same but for partners: both ask for a cell of the same length, and go on alike, whatever is answered.
use Rattle.std.proofs.Common.{◌≡◌, ℕ, ℤ, ◌+◌, ◌*◌, ◌-◌, ◌≢◌, Bool, true, false, List, [], ◌∷◌, ◌++◌, refl, sym, ap, ◌∙◌, subst, Option, Some}
use Rattle.std.specs.Prelude.{nat_eq, nat_lt}
use Rattle.std.proofs.lemmas.Bool.{ltb-false, false≢true}
use Rattle.wb_heap_model.specs.declared.heap.TheConstants.{KERR_NO_MEMORY}
use Rattle.wb_basics.specs.declared.limits.TheConstants.{LARGEST_REQUEST}
use Rattle.wb_heap_model.specs.declared.heap.Answer.{Answer}
use Rattle.wb_heap_model.specs.declared.heap.Item.{Item}
use Rattle.wb_heap_model.specs.declared.heap.Kind.{Kind}
use Rattle.wb_heap_model.specs.declared.heap.Kind.TheVariants as K
use Rattle.wb_heap_model.specs.declared.heap.Ptr.{Ptr}
use Rattle.wb_tree.specs.declared.script.Pointer.{Pointer}
use Rattle.wb_tree.specs.declared.script.Pointer.TheVariants.{Held, Field}
use Rattle.wb_tree.specs.declared.script.Refusal.{Refusal}
use Rattle.wb_tree.specs.declared.script.Refusal.TheVariants.{GivesNull, Leaves}
use Rattle.wb_heap_model.specs.Heap.{Heap, AfterAnswer, shortened}
use Rattle.wb_heap_model.specs.Row.{Cell, pointer_to, cell_at, cell_length}
use Rattle.wb_heap_model.specs.Rules.{Request, is_due}
use Rattle.wb_heap_model.specs.Contents.{Content}
use Rattle.wb_meaning.specs.State.{State, Process, set_heap}
use Rattle.wb_meaning.specs.Operands.{held_by, units_of, within}
use Rattle.wb_meaning.specs.Attempts.{attempt, allocate, resized, reallocate, reallocate_longer, after_growth, grow_if, push}
use Rattle.wb_meaning.specs.Statements.{given_to, is_raw, fresh_words, alloc_raw, realloc_raw, realloc_of}
use Rattle.wb_heap_model.specs.Pointers.{is_null}
use Rattle.wb_renaming.specs.SameButNumbers.{none_beside, one_beside}
use Rattle.wb_renaming.proofs.SameNumbers.{ap_two, length-beside, append-beside, BothSome, neither, both_some}
use Rattle.wb_placings.proofs.Partners.{Stands, Partners, after_answer, answer-extends, answer-partners, Extends, IsSameContent, same_words, IsSameItem, same_plain, same_leave}
use Rattle.wb_placings.proofs.RowLemmas.{lacking-none, lacks-next}
use Rattle.wb_placings.proofs.SameRows.{not-both}
use Rattle.wb_placings.proofs.PlacedHeaps.{KeepsOthers, AnsweredAlike, AreCells, new_pointer, alloc-alike, grown_pointer, grown-number, grown-null, realloc-alike, shortened-alike}
use Rattle.wb_placings.proofs.PlacedProcesses.{IsBeside, GoesAlike, both_end, both_ask, is_object, CanBeSet, AreFound, cell_at-found, resized-same, heap-beside, set_heap-beside, set_pointer-beside, require-alike, with_some-alike, given-same, with_same-alike, with_cell-alike}

-- objects are found as before
abbrev pub KeepsObjects : Heap Content → Heap Content → Type 0
KeepsObjects h g = (a : Ptr) (c : Cell Content) → is_object c.head.kind ≡ true → cell_at a h.row ≡ Some c → cell_at a g.row ≡ Some c

-- so what is a field of one can still be set
settable-later : (st : State) (h : Heap Content) (target : Pointer) → KeepsObjects st.heap h → CanBeSet st target → CanBeSet (set_heap st h) target
settable-later st heap (Held h) k can = tt
settable-later st heap (Field h class i) k can = (can.0, k (held_by st h) can.0 can.2 can.1, can.2)

-- where only a cell that isn't an object may have gone
objects-kept : (p : Ptr) (c : Cell Content) (h g : Heap Content) → cell_at p h.row ≡ Some c → is_object c.head.kind ≡ false → KeepsOthers p h.row g.row → KeepsObjects h g
objects-kept p c h g e plain k a d object f = k a d (λ same. other (subst (λ z. cell_at z h.row ≡ Some d) same f)) f
  where
    other : cell_at p h.row ≡ Some d → ⊥
    other found =
        let same : c ≡ d = cc in
        absurd (false≢true (sym plain ∙ ap (λ (x : Cell Content). is_object x.head.kind) same ∙ object))

-- How two ways of going on from an answer do; `object`: whether the cell that may have gone is an object.
abbrev pub GoesOnGiven : Partners → Bool → State → State → (Option Ptr → State → Process) → (Option Ptr → State → Process) → Type 0
GoesOnGiven w object st other go other_go =
    (v : Partners) (o q : Option Ptr) (h g : Heap Content) → Extends w.pairs v.pairs → BothSome (Stands v.pairs) o q → (object ≡ false → KeepsObjects st.heap h) →
    IsBeside v (set_heap st h) (set_heap other g) → GoesAlike v (go o (set_heap st h)) (other_go q (set_heap other g))

attempt-alike : {w : Partners} {st other : State} (cut other_cut : State) (object : Bool) (p q gone : Ptr) (t u : Request) (after other_after : ℕ → Answer → AfterAnswer Content)
    (go other_go : Option Ptr → State → Process) → u.length ≡ t.length → u.due ≡ t.due → p.number ≡ w.made + 1 → is_null q ≡ is_null p → IsBeside w st other →
    ((a : Answer) → AnsweredAlike (after_answer w p q a) gone st.heap (after (w.made + 1) a) (other_after (w.made + 1) a)) →
    ((h : Heap Content) → object ≡ false → KeepsOthers gone st.heap.row h.row → KeepsObjects st.heap h) → GoesOnGiven w object st other go other_go →
    GoesAlike w (attempt t after cut st go) (attempt u other_after other_cut other other_go)
unfolding attempt
attempt-alike {w = w} cut other_cut object p q gone t u after other_after go other_go length due new alike b h keeps f =
    both_ask p q length due (λ a.
    f (after_answer w p q a) _ _ _ _ (answer-extends w p q a) (h a).given (λ plain. keeps (after (w.made + 1) a).heap plain (h a).kept)
    (heap-beside (answer-extends w p q a) (answer-partners w p q a new alike b.partners) (h a).heap b))

pub allocate-alike : {w : Partners} {st other : State} (bytes : ℕ) (kind : Kind) (fresh : Content) (go other_go : Option Ptr → State → Process) → IsSameContent w.pairs fresh fresh →
    IsBeside w st other → GoesOnGiven w false st other go other_go → GoesAlike w (allocate bytes kind fresh st go) (allocate bytes kind fresh other other_go)
unfolding allocate
allocate-alike {w} {st} {other} bytes kind fresh go other_go s b f =
    attempt-alike st other false p (new_pointer other.heap bytes (w.made + 1)) p _ _ _ _ go other_go refl (ap is_due b.heap.setting) refl refl b
    (λ a. alloc-alike bytes kind p a b.partners b.heap s) (λ h plain k a d object e. k a d (old a d e) e) f
  where
    p : Ptr
    p = new_pointer st.heap bytes (w.made + 1)

    -- what is found now isn't the new cell
    old : (a : Ptr) (d : Cell Content) → cell_at a st.heap.row ≡ Some d → a ≢ p
    old a d e same =
        let none = lacking-none p st.heap.row (lacks-next w.made st.heap.row b.heap.rows.one) in
        absurd (not-both (subst (λ z. cell_at z st.heap.row ≡ Some d) same e) none)

longer-alike : {w : Partners} {c d : Cell Content} {st other : State} (cut other_cut : State) (longer : Bool) (bytes : ℕ) (go other_go : Option Ptr → State → Process) →
    nat_lt c.head.length (cell_length bytes) ≡ longer → AreCells w st.heap other.heap c d → IsBeside w st other → GoesOnGiven w (is_object c.head.kind) st other go other_go →
    GoesAlike w (reallocate_longer longer c bytes cut st go) (reallocate_longer longer d bytes other_cut other other_go)
unfolding reallocate_longer
longer-alike {w} {c} {d} {st} {other} cut other_cut true bytes go other_go e cells b f =
    attempt-alike cut other_cut (is_object c.head.kind) (grown_pointer st.heap c.head bytes (w.made + 1)) (grown_pointer other.heap d.head bytes (w.made + 1)) (pointer_to c.head) _ _ _ _ go other_go
    refl (ap is_due b.heap.setting) (grown-number b.partners b.heap cells bytes) (grown-null b.partners b.heap cells bytes) b
    (λ a. realloc-alike b.partners b.heap cells bytes a (resized-same _ cells.same.content))
    (λ h plain k. objects-kept (pointer_to c.head) c st.heap h cells.here plain k) f
longer-alike {w} {c} {d} {st} {other} cut other_cut false bytes go other_go e cells b f =
    let shorter = ltb-false c.head.length (cell_length bytes) e in
    let s = shortened-alike b.partners b.heap cells bytes shorter (resized-same _ cells.same.content) in
    f w _ _ _ _ (λ p q r. r) (both_some cells.same.head.named) (λ plain. objects-kept (pointer_to c.head) c st.heap (shortened st.heap c.head (cell_length bytes) (resized (cell_length bytes - 16) c.content)) cells.here plain s.1) (set_heap-beside s.0 b)

pub reallocate-alike : {w : Partners} {c d : Cell Content} {st other : State} (cut other_cut : State) (bytes other_bytes : ℕ) (go other_go : Option Ptr → State → Process) → other_bytes ≡ bytes →
    AreCells w st.heap other.heap c d → IsBeside w st other → GoesOnGiven w (is_object c.head.kind) st other go other_go →
    GoesAlike w (reallocate c bytes cut st go) (reallocate d other_bytes other_cut other other_go)
unfolding reallocate
reallocate-alike {w} {c} {d} {st} {other} cut other_cut bytes other_bytes go other_go e cells b f =
    given-same (λ (n : ℕ). reallocate_longer (nat_lt c.head.length (cell_length n)) c n cut st go) (λ (n : ℕ). reallocate_longer (nat_lt d.head.length (cell_length n)) d n other_cut other other_go) bytes other_bytes e
    (given-same (λ (l : ℕ). reallocate_longer (nat_lt l (cell_length bytes)) c bytes cut st go) (λ (l : ℕ). reallocate_longer (nat_lt l (cell_length bytes)) d bytes other_cut other other_go) c.head.length d.head.length cells.same.head.length
    (longer-alike cut other_cut (nat_lt c.head.length (cell_length bytes)) bytes go other_go refl cells b f))

pub given_to-alike : {v : Partners} {o q : Option Ptr} {st other : State} (target : Pointer) (refusal : Refusal) → CanBeSet st target → BothSome (Stands v.pairs) o q → IsBeside v st other →
    GoesAlike v (given_to target refusal o st) (given_to target refusal q other)
unfolding given_to
given_to-alike target refusal can (both_some s) b = both_end same_plain (set_pointer-beside target can s b)
given_to-alike target GivesNull can neither b = both_end same_plain (set_pointer-beside target can b.partners.null b)
given_to-alike target Leaves can neither b = both_end (same_leave KERR_NO_MEMORY) b

-- the target gets what was given
pub goes-to_target : (w : Partners) (st other : State) (object : Bool) (target : Pointer) (refusal : Refusal) → object ≡ false → CanBeSet st target →
    GoesOnGiven w object st other (given_to target refusal) (given_to target refusal)
goes-to_target w st other object target refusal plain can v o q h g x s k b = given_to-alike target refusal (settable-later st h target (k plain) can) s b

-- the cleanup stack
grown-alike : (v : Partners) (o q : Option Ptr) (st other : State) → BothSome (Stands v.pairs) o q → IsBeside v st other → GoesAlike v (after_growth o st) (after_growth q other)
unfolding after_growth
grown-alike v o q st other (both_some s) b = both_end same_plain (record {
  partners = b.partners;
  heap = b.heap;
  cleanup = s;
  items = b.items;
  slots = ap (λ n. n + 4) b.slots;
  frame = b.frame;
  lines = b.lines;
  steps = b.steps;
})
grown-alike v o q st other neither b = both_end (same_leave KERR_NO_MEMORY) b

grow-alike : {w : Partners} {st other : State} (before other_before : State) (full other_full : Bool) → other_full ≡ full → IsBeside w st other →
    GoesAlike w (grow_if full before st) (grow_if other_full other_before other)
unfolding grow_if
grow-alike before other_before false false e b = both_end same_plain b
grow-alike before other_before true true e b =
    with_cell-alike _ _ b.cleanup b (λ c d s.
    reallocate-alike before other_before _ _ _ _ (ap (λ n. 16 * (n + 4)) b.slots) s.cells b (λ v o q h g x s k. grown-alike v o q _ _ s))
grow-alike before other_before false true e b = cc
grow-alike before other_before true false e b = cc

pub push-alike : {w : Partners} {st other : State} {i j : Item} → IsSameItem w.pairs i j → IsBeside w st other → GoesAlike w (push i st) (push j other)
unfolding push
push-alike {w = w} {st = st} {other = other} {i = i} {j = j} s b =
    let items = append-beside b.items (one_beside s none_beside) in
    let pushed : IsBeside w (record st { items = st.items ++ i ∷ [] }) (record other { items = other.items ++ j ∷ [] }) = record {
      partners = b.partners;
      heap = b.heap;
      cleanup = b.cleanup;
      items = items;
      slots = b.slots;
      frame = b.frame;
      lines = b.lines;
      steps = b.steps;
    } in
    grow-alike st other _ _ (ap_two nat_eq (length-beside items) b.slots) pushed

-- `alloc` and `realloc`
pub alloc_raw-alike : {w : Partners} {st other : State} (target : Pointer) (refusal : Refusal) (bytes : ℕ) → CanBeSet st target → IsBeside w st other →
    GoesAlike w (alloc_raw target refusal bytes st) (alloc_raw target refusal bytes other)
unfolding alloc_raw
alloc_raw-alike {w} {st} {other} target refusal bytes can b = allocate-alike bytes _ (fresh_words bytes) _ _ (same_words _) b (goes-to_target w st other false target refusal refl can)

raw-plain : (k : Kind) → is_raw k ≡ true → is_object k ≡ false
raw-plain K.Raw e = refl
raw-plain (K.Object class) e = cc
raw-plain K.Text e = refl
raw-plain K.Cleanup e = refl

pub text-plain : (k : Kind) (c : Content) (us : List ℕ) → units_of k c ≡ Some us → is_object k ≡ false
text-plain K.Raw c us e = refl
text-plain (K.Object class) c us e = cc
text-plain K.Text c us e = refl
text-plain K.Cleanup c us e = refl

pub realloc_of-alike : {w : Partners} {p q : Ptr} {st other : State} (null other_null : Bool) (target : Pointer) (refusal : Refusal) (asked other_asked : ℤ) → other_null ≡ null → other_asked ≡ asked →
    Stands w.pairs p q → CanBeSet st target → IsBeside w st other → GoesAlike w (realloc_of null target refusal p asked st) (realloc_of other_null target refusal q other_asked other)
unfolding realloc_of realloc_raw
realloc_of-alike true true target refusal asked other_asked e same s can b =
    with_same-alike _ _ _ _ _ (ap (within LARGEST_REQUEST) same) b (λ bytes _. alloc_raw-alike target refusal bytes can b)
realloc_of-alike {w} {p} {q} {st} {other} false false target refusal asked other_asked e same s can b =
    with_some-alike (AreFound w st other p) _ _ _ (cell_at-found s b) b (λ c d t.
    require-alike _ _ _ _ _ (λ raw. ap is_raw t.cells.same.head.kind ∙ raw) (λ raw.
    with_same-alike _ _ _ _ _ (ap (within LARGEST_REQUEST) same) b (λ bytes _.
    reallocate-alike st other bytes bytes _ _ refl t.cells b (goes-to_target w st other (is_object c.head.kind) target refusal (raw-plain c.head.kind raw) can))))
realloc_of-alike true false target refusal asked other_asked e same s can b = cc
realloc_of-alike false true target refusal asked other_asked e same s can b = cc
