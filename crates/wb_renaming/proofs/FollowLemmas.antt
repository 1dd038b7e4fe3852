-- One process follows another where it goes on from states that are the same but for numbers: the ways of going on. The statements
-- are in `FollowStatements`.
use Rattle.std.proofs.Common.{◌≡◌, ℕ, ◌+◌, Bool, true, false, inr, refl, sym, ap, ◌∙◌, subst, Option, Some, None}
use Rattle.std.specs.Prelude.{nat_eq, nat_lt, pos}
use Rattle.wb_heap_model.specs.declared.heap.TheConstants.{KERR_NO_MEMORY}
use Rattle.wb_heap_model.specs.declared.heap.Answer.{Answer}
use Rattle.wb_heap_model.specs.declared.heap.Kind.{Kind}
use Rattle.wb_heap_model.specs.declared.heap.Kind.TheVariants as K
use Rattle.wb_heap_model.specs.declared.heap.Panic.{Panic}
use Rattle.wb_heap_model.specs.declared.heap.Ptr.{Ptr}
use Rattle.wb_tree.specs.declared.script.Holder.{Holder}
use Rattle.wb_tree.specs.declared.script.Holder.TheVariants as H
use Rattle.wb_tree.specs.declared.script.Number.{Number}
use Rattle.wb_tree.specs.declared.script.Number.TheVariants.{Constant, Variable}
use Rattle.wb_tree.specs.declared.script.Pointer.{Pointer}
use Rattle.wb_tree.specs.declared.script.Pointer.TheVariants.{Held, Field}
use Rattle.wb_tree.specs.declared.script.Refusal.{Refusal}
use Rattle.wb_tree.specs.declared.script.Refusal.TheVariants.{GivesNull, Leaves}
use Rattle.wb_heap_model.specs.Heap.{Heap, AfterAnswer}
use Rattle.wb_heap_model.specs.Row.{Cell, cell_length, changed}
use Rattle.wb_heap_model.specs.Rules.{Request}
use Rattle.wb_heap_model.specs.Contents.{Content}
use Rattle.wb_meaning.specs.State.{Value, number, State, Way, goes_on, returns, leaves, panics, Process, ends, stops, asks, notes, and_then, on_plain_end, then_do, require, with_some, unless, set_heap, set_local, pointer_in, number_in, local_of}
use Rattle.wb_heap_model.specs.Pointers.{null}
use Rattle.wb_meaning.specs.Operands.{number_of, held_by, fields_of, raw_words_of, units_of, with_cell, with_fields, with_pointer, set_field, set_pointer, set_row}
use Rattle.wb_meaning.specs.Attempts.{attempt, allocate, resized, reallocate, reallocate_longer}
use Rattle.wb_meaning.specs.Statements.{given_to}
use Rattle.wb_renaming.specs.SameButNumbers.{Names, Renaming, IsRenaming, one_more, AllBeside, IsSamePointer, IsSameContent, same_words, same_fields, same_units, same_none, IsSameCell, IsSameHeap, IsSameValue, same_pointer, same_number, same_buffer, same_view, IsSameState, IsSameWay, same_plain, same_return, same_leave}
use Rattle.wb_renaming.specs.Follows.{IsLate, IsPast, IsBeside, Follows, both_end, both_stop, both_ask, both_note, cut_first}
use Rattle.wb_renaming.proofs.SameNumbers.{cond-beside, one_more-renaming, set-beside, BothSome, neither, both_some, get-beside, unwrap-beside, Extends, state-later}
use Rattle.wb_renaming.proofs.SameHeaps.{pointer_to-beside, alloc_request-same, cell_at-beside, changed-beside, realloc_request-same, shortened-beside, one_more-extends, with_row-beside, alloc-beside, realloc-beside}

-- what states that are the same but for numbers hold
module _ {names : Names} where
  pub local-beside : {st other : State} (i : ℕ) → IsSameState names st other → IsSameValue names (local_of st i) (local_of other i)
  local-beside i s = unwrap-beside (number (pos 0)) (number (pos 0)) (same_number (pos 0)) (get-beside i s.frame.locals)

  number_in-same : {v u : Value} → IsSameValue names v u → number_in u ≡ number_in v
  number_in-same (same_pointer s) = refl
  number_in-same (same_number z) = refl
  number_in-same (same_buffer max us) = refl
  number_in-same (same_view s) = refl

  pub number-same : {st other : State} (v : Number) → IsSameState names st other → number_of other v ≡ number_of st v
  number-same (Constant z) s = refl
  number-same (Variable i) s = number_in-same (local-beside i s)

  pub set_field-beside : {p q : Ptr} {c d : Content} (i : ℕ) → IsSamePointer names p q → IsSameContent names c d → IsSameContent names (set_field i p c) (set_field i q d)
  set_field-beside i s (same_words ws) = same_words ws
  set_field-beside i s (same_fields all) = same_fields (set-beside i _ _ s all)
  set_field-beside i s (same_units us) = same_units us
  set_field-beside i s same_none = same_none

  fields-beside : {c d : Content} (kind : Kind) (class : ℕ) → IsSameContent names c d →
      BothSome (AllBeside (IsSamePointer names)) (fields_of kind c class) (fields_of kind d class)
  fields-beside (K.Object k) class (same_words ws) = neither
  fields-beside (K.Object k) class (same_fields s) =
      cond-beside (BothSome (AllBeside (IsSamePointer names))) (nat_eq k class) (nat_eq k class) _ _ _ _ refl (both_some s) neither
  fields-beside (K.Object k) class (same_units us) = neither
  fields-beside (K.Object k) class same_none = neither
  fields-beside K.Raw class s = neither
  fields-beside K.Text class s = neither
  fields-beside K.Cleanup class s = neither

  pub fields_of-beside : {c d : Cell Content} (class : ℕ) → IsSameCell names c d →
      BothSome (AllBeside (IsSamePointer names)) (fields_of c.head.kind c.content class) (fields_of d.head.kind d.content class)
  fields_of-beside {c = c} {d = d} class s =
      subst (λ k. BothSome (AllBeside (IsSamePointer names)) (fields_of c.head.kind c.content class) (fields_of k d.content class)) (sym s.head.kind)
      (fields-beside c.head.kind class s.content)

  words-same : {c d : Content} (kind : Kind) → IsSameContent names c d → raw_words_of kind d ≡ raw_words_of kind c
  words-same K.Raw (same_words ws) = refl
  words-same K.Raw (same_fields s) = refl
  words-same K.Raw (same_units us) = refl
  words-same K.Raw same_none = refl
  words-same (K.Object k) s = refl
  words-same K.Text s = refl
  words-same K.Cleanup s = refl

  pub raw_words-same : {c d : Cell Content} → IsSameCell names c d → raw_words_of d.head.kind d.content ≡ raw_words_of c.head.kind c.content
  raw_words-same {c = c} {d = d} s = ap (λ k. raw_words_of k d.content) s.head.kind ∙ words-same c.head.kind s.content

  text-same : {c d : Content} (kind : Kind) → IsSameContent names c d → units_of kind d ≡ units_of kind c
  text-same K.Text (same_words ws) = refl
  text-same K.Text (same_fields s) = refl
  text-same K.Text (same_units us) = refl
  text-same K.Text same_none = refl
  text-same K.Raw s = refl
  text-same (K.Object k) s = refl
  text-same K.Cleanup s = refl

  pub units-same : {c d : Cell Content} → IsSameCell names c d → units_of d.head.kind d.content ≡ units_of c.head.kind c.content
  units-same {c = c} {d = d} s = ap (λ k. units_of k d.content) s.head.kind ∙ text-same c.head.kind s.content

  resized-beside : {c d : Content} (usable : ℕ) → IsSameContent names c d → IsSameContent names (resized usable c) (resized usable d)
  resized-beside usable (same_words ws) = same_words _
  resized-beside usable (same_fields s) = same_fields s
  resized-beside usable (same_units us) = same_units us
  resized-beside usable same_none = same_none

module _ {w : Renaming} where
  pub null-beside : IsRenaming w → IsSamePointer w.names null null
  null-beside is = record { place = refl; number = is.null }

  pointer_in-beside : {v u : Value} → IsRenaming w → IsSameValue w.names v u → IsSamePointer w.names (pointer_in v) (pointer_in u)
  pointer_in-beside is (same_pointer s) = s
  pointer_in-beside is (same_number z) = null-beside is
  pointer_in-beside is (same_buffer max us) = null-beside is
  pointer_in-beside is (same_view s) = null-beside is

  pub held-beside : {st other : State} (h : Holder) → IsRenaming w → IsSameState w.names st other → IsSamePointer w.names (held_by st h) (held_by other h)
  held-beside (H.Local i) is s = pointer_in-beside is (local-beside i s)
  held-beside H.This is s = s.frame.this

-- the content of the cell of a pointer changes
abbrev pub set_changed : State → Ptr → (Content → Content) → State
set_changed st p f = set_row st (changed p f st.heap.row)

module _ (budget further : ℕ) where
  -- how two ways of going on do
  abbrev pub GoesOn : Renaming → (Way → State → Process) → (Way → State → Process) → Type 0
  GoesOn w go other_go =
      (v : Renaming) (way other_way : Way) (st other : State) → Extends w.names v.names → IsSameWay v.names way other_way → IsBeside budget further v st other →
      Follows budget further v (go way st) (other_go other_way other)

  abbrev pub GoesOnGiven : Renaming → (Option Ptr → State → Process) → (Option Ptr → State → Process) → Type 0
  GoesOnGiven w go other_go =
      (v : Renaming) (o q : Option Ptr) (st other : State) → Extends w.names v.names → BothSome (IsSamePointer v.names) o q → IsBeside budget further v st other →
      Follows budget further v (go o st) (other_go q other)

  abbrev pub GoesPast : (Way → State → Process) → Type 0
  GoesPast go = (way : Way) (st : State) → IsLate budget further st → IsPast budget further (go way st)

  pub and_then-past : (p : Process) (go : Way → State → Process) → IsPast budget further p → GoesPast go → IsPast budget further (and_then p go)
  unfolding and_then
  and_then-past (ends way st) go past h = h way st past
  and_then-past (stops stop st) go past h = past
  and_then-past (asks t cut answered) go past h = (past.0, λ n a. and_then-past (answered n a) go (past.1 n a) h)
  and_then-past (notes q p) go past h = and_then-past p go past h

  pub and_then-follows : {w : Renaming} {p q : Process} (go other_go : Way → State → Process) → Follows budget further w p q → GoesOn w go other_go → GoesPast go →
      Follows budget further w (and_then p go) (and_then q other_go)
  unfolding and_then
  and_then-follows go other_go (both_end s b) h past = h _ _ _ _ _ (λ n m r. r) s b
  and_then-follows go other_go (both_stop e b) h past = both_stop e b
  and_then-follows go other_go (both_ask e b rest) h past =
      both_ask e b (λ a. and_then-follows go other_go (rest a) (λ v way other_way st other x. h v way other_way st other (λ n m r. x n m (inr r))) past)
  and_then-follows go other_go (both_note f) h past = both_note (and_then-follows go other_go f h past)
  and_then-follows go other_go (cut_first {p = p} late) h past = cut_first (and_then-past p go late past)

  pub plain_end-follows : {v : Renaming} {way other_way : Way} {st other : State} (go other_go : State → Process) → IsSameWay v.names way other_way → IsBeside budget further v st other →
      Follows budget further v (go st) (other_go other) → Follows budget further v (on_plain_end way st go) (on_plain_end other_way other other_go)
  unfolding on_plain_end
  plain_end-follows go other_go same_plain b f = f
  plain_end-follows go other_go (same_return s) b f = both_end (same_return s) b
  plain_end-follows go other_go (same_leave code) b f = both_end (same_leave code) b

  pub plain_end-past : (way : Way) (st : State) (go : State → Process) → IsLate budget further st → IsPast budget further (go st) → IsPast budget further (on_plain_end way st go)
  unfolding on_plain_end
  plain_end-past goes_on st go late past = past
  plain_end-past (returns p) st go late past = late
  plain_end-past (leaves code) st go late past = late

  pub then_do-follows : {w : Renaming} {p q : Process} (go other_go : State → Process) → Follows budget further w p q →
      ((v : Renaming) (st other : State) → Extends w.names v.names → IsBeside budget further v st other → Follows budget further v (go st) (other_go other)) →
      ((st : State) → IsLate budget further st → IsPast budget further (go st)) → Follows budget further w (then_do p go) (then_do q other_go)
  unfolding then_do
  then_do-follows go other_go f h past =
      and_then-follows _ _ f (λ v way other_way st other x s b. plain_end-follows go other_go s b (h v st other x b)) (λ way st late. plain_end-past way st go late (past st late))

  pub require-follows : {w : Renaming} {st other : State} (b c : Bool) (panic : Panic) (go other_go : State → Process) → c ≡ b → IsBeside budget further w st other →
      Follows budget further w (go st) (other_go other) → Follows budget further w (require b panic st go) (require c panic other other_go)
  unfolding require
  require-follows true true panic go other_go e b f = f
  require-follows false false panic go other_go e b f = both_stop refl b
  require-follows true false panic go other_go e b f = cc
  require-follows false true panic go other_go e b f = cc

  pub with_some-follows : {A B : Type 0} (R : A → B → Type 0) {w : Renaming} {st other : State} {o : Option A} {q : Option B} (panic : Panic) (go : A → Process) (other_go : B → Process) →
      BothSome R o q → IsBeside budget further w st other → ((x : A) (y : B) → R x y → Follows budget further w (go x) (other_go y)) →
      Follows budget further w (with_some o panic st go) (with_some q panic other other_go)
  unfolding with_some
  with_some-follows R panic go other_go neither b f = both_stop refl b
  with_some-follows R panic go other_go (both_some r) b f = f _ _ r

  -- the same value on both sides
  pub given-same : {A : Type 0} {w : Renaming} (go other_go : A → Process) (x y : A) → y ≡ x → Follows budget further w (go x) (other_go x) → Follows budget further w (go x) (other_go y)
  given-same {w = w} go other_go x y e f = subst (λ z. Follows budget further w (go x) (other_go z)) (sym e) f

  some-follows : {A : Type 0} {w : Renaming} {st other : State} (o : Option A) (panic : Panic) (go other_go : A → Process) → IsBeside budget further w st other →
      ((x : A) → Follows budget further w (go x) (other_go x)) → Follows budget further w (with_some o panic st go) (with_some o panic other other_go)
  unfolding with_some
  some-follows (Some x) panic go other_go b f = f x
  some-follows None panic go other_go b f = both_stop refl b

  pub with_same-follows : {A : Type 0} {w : Renaming} {st other : State} (o q : Option A) (panic : Panic) (go other_go : A → Process) → q ≡ o → IsBeside budget further w st other →
      ((x : A) → Follows budget further w (go x) (other_go x)) → Follows budget further w (with_some o panic st go) (with_some q panic other other_go)
  with_same-follows {w = w} {st = st} {other = other} o q panic go other_go e b f =
      subst (λ z. Follows budget further w (with_some o panic st go) (with_some z panic other other_go)) (sym e) (some-follows o panic go other_go b f)

  pub unless-follows : {w : Renaming} {st other : State} (o q : Option Panic) (go other_go : State → Process) → q ≡ o → IsBeside budget further w st other →
      Follows budget further w (go st) (other_go other) → Follows budget further w (unless o st go) (unless q other other_go)
  unfolding unless
  unless-follows (Some x) (Some y) go other_go e b f = let same : y ≡ x = cc in both_stop (ap panics same) b
  unless-follows None None go other_go e b f = f
  unless-follows (Some x) None go other_go e b f = cc
  unless-follows None (Some y) go other_go e b f = cc

  -- changes of one part
  pub set_heap-beside : {w : Renaming} {st other : State} {h g : Heap Content} → IsSameHeap w.names h g → IsBeside budget further w st other →
      IsBeside budget further w (set_heap st h) (set_heap other g)
  set_heap-beside s b = record {
    renamed = b.renamed;
    same = record { heap = s; cleanup = b.same.cleanup; items = b.same.items; slots = b.same.slots; frame = b.same.frame };
    steps = b.steps;
    within = b.within;
  }

  pub set_local-beside : {w : Renaming} {st other : State} {v u : Value} (i : ℕ) → IsSameValue w.names v u → IsBeside budget further w st other →
      IsBeside budget further w (set_local st i v) (set_local other i u)
  set_local-beside i s b = record {
    renamed = b.renamed;
    same = record {
      heap = b.same.heap;
      cleanup = b.same.cleanup;
      items = b.same.items;
      slots = b.same.slots;
      frame = record { this = b.same.frame.this; locals = set-beside i _ _ s b.same.frame.locals };
    };
    steps = b.steps;
    within = b.within;
  }

  pub changed_cell-beside : {w : Renaming} {st other : State} {p q : Ptr} (f g : Content → Content) →
      ((c d : Content) → IsSameContent w.names c d → IsSameContent w.names (f c) (g d)) → IsSamePointer w.names p q → IsBeside budget further w st other →
      IsBeside budget further w (set_changed st p f) (set_changed other q g)
  changed_cell-beside f g same s b =
      set_heap-beside (with_row-beside (changed-beside b.renamed f g same s b.same.heap.row) b.same.heap) b

  pub set_pointer-beside : {w : Renaming} {st other : State} {p q : Ptr} (target : Pointer) → IsSamePointer w.names p q → IsBeside budget further w st other →
      IsBeside budget further w (set_pointer st target p) (set_pointer other target q)
  set_pointer-beside (Held (H.Local i)) s b = set_local-beside i (same_pointer s) b
  set_pointer-beside (Held H.This) s b = b
  set_pointer-beside {p = p} {q = q} (Field h class i) s b =
      changed_cell-beside (set_field i p) (set_field i q) (λ c d t. set_field-beside i s t) (held-beside h b.renamed b.same) b

  later-beside : {w : Renaming} {st other : State} → IsBeside budget further w st other → IsBeside budget further (one_more w) st other
  later-beside {w = w} b = record { renamed = one_more-renaming w b.renamed; same = state-later (one_more-extends b.renamed) b.same; steps = b.steps; within = b.within }

  -- cells and pointers
  pub with_cell-follows : {w : Renaming} {st other : State} {p q : Ptr} (go other_go : Cell Content → Process) → IsSamePointer w.names p q → IsBeside budget further w st other →
      ((c d : Cell Content) → IsSameCell w.names c d → Follows budget further w (go c) (other_go d)) → Follows budget further w (with_cell st p go) (with_cell other q other_go)
  unfolding with_cell
  with_cell-follows {w = w} go other_go s b f = with_some-follows (IsSameCell w.names) _ go other_go (cell_at-beside b.renamed s b.same.heap.row) b f

  pub with_pointer-follows : {w : Renaming} {st other : State} (p : Pointer) (go other_go : Ptr → Process) → IsBeside budget further w st other →
      ((q r : Ptr) → IsSamePointer w.names q r → Follows budget further w (go q) (other_go r)) → Follows budget further w (with_pointer st p go) (with_pointer other p other_go)
  unfolding with_pointer with_fields
  with_pointer-follows (Held h) go other_go b f = f _ _ (held-beside h b.renamed b.same)
  with_pointer-follows {w = w} (Field h class i) go other_go b f =
      with_cell-follows _ _ (held-beside h b.renamed b.same) b (λ c d s.
      with_some-follows (AllBeside (IsSamePointer w.names)) _ _ _ (fields_of-beside class s) b (λ ps qs all.
      f _ _ (unwrap-beside null null (null-beside b.renamed) (get-beside i all))))

  -- attempts
  attempt-follows : {w : Renaming} {cut other_cut st other : State} (t u : Request) (after other_after : ℕ → Answer → AfterAnswer Content) (go other_go : Option Ptr → State → Process) →
      u ≡ t → IsBeside budget further w cut other_cut → IsBeside budget further w st other →
      ((a : Answer) → IsSameHeap (one_more w).names (after (w.made + 1) a).heap (other_after (w.other_made + 1) a).heap
      × BothSome (IsSamePointer (one_more w).names) (after (w.made + 1) a).given (other_after (w.other_made + 1) a).given) → GoesOnGiven w go other_go →
      Follows budget further w (attempt t after cut st go) (attempt u other_after other_cut other other_go)
  unfolding attempt
  attempt-follows {w = w} t u after other_after go other_go e c b h f =
      both_ask e c (λ a. f (one_more w) _ _ _ _ (one_more-extends b.renamed) (h a).1 (set_heap-beside (h a).0 (later-beside b)))

  pub allocate-follows : {w : Renaming} {st other : State} (bytes : ℕ) (kind : Kind) (fresh : Content) (go other_go : Option Ptr → State → Process) → IsSameContent w.names fresh fresh →
      IsBeside budget further w st other → GoesOnGiven w go other_go → Follows budget further w (allocate bytes kind fresh st go) (allocate bytes kind fresh other other_go)
  unfolding allocate
  allocate-follows bytes kind fresh go other_go s b f =
      let e = alloc_request-same bytes b.same.heap in
      attempt-follows _ _ _ _ go other_go e b b (λ a. alloc-beside b.renamed _ _ kind a e b.same.heap s) f

  longer-follows : {w : Renaming} {c d : Cell Content} {cut other_cut st other : State} (longer : Bool) (bytes : ℕ) (go other_go : Option Ptr → State → Process) →
      IsSameCell w.names c d → IsBeside budget further w cut other_cut → IsBeside budget further w st other → GoesOnGiven w go other_go →
      Follows budget further w (reallocate_longer longer c bytes cut st go) (reallocate_longer longer d bytes other_cut other other_go)
  unfolding reallocate_longer
  longer-follows true bytes go other_go s cut b f =
      let e = realloc_request-same b.renamed bytes b.same.heap s.head in
      attempt-follows _ _ _ _ go other_go e cut b (λ a. realloc-beside b.renamed _ _ a e b.same.heap s.head (resized-beside _ s.content)) f
  longer-follows {w = w} false bytes go other_go s cut b f =
      f w _ _ _ _ (λ n m r. r) (both_some (pointer_to-beside s.head)) (set_heap-beside (shortened-beside b.renamed _ b.same.heap s.head (resized-beside _ s.content)) b)

  pub reallocate-follows : {w : Renaming} {c d : Cell Content} {cut other_cut st other : State} (bytes other_bytes : ℕ) (go other_go : Option Ptr → State → Process) → other_bytes ≡ bytes →
      IsSameCell w.names c d → IsBeside budget further w cut other_cut → IsBeside budget further w st other → GoesOnGiven w go other_go →
      Follows budget further w (reallocate c bytes cut st go) (reallocate d other_bytes other_cut other other_go)
  unfolding reallocate
  reallocate-follows {w = w} {c = c} {d = d} {cut = cut} {other_cut = other_cut} {st = st} {other = other} bytes other_bytes go other_go e s bc b f =
      given-same (λ (n : ℕ). reallocate_longer (nat_lt c.head.length (cell_length n)) c n cut st go) (λ (n : ℕ). reallocate_longer (nat_lt d.head.length (cell_length n)) d n other_cut other other_go) bytes other_bytes e
      (given-same (λ (l : ℕ). reallocate_longer (nat_lt l (cell_length bytes)) c bytes cut st go) (λ (l : ℕ). reallocate_longer (nat_lt l (cell_length bytes)) d bytes other_cut other other_go) c.head.length d.head.length s.head.length
      (longer-follows (nat_lt c.head.length (cell_length bytes)) bytes go other_go s bc b f))

  pub given_to-follows : {v : Renaming} {o q : Option Ptr} {st other : State} (target : Pointer) (refusal : Refusal) → BothSome (IsSamePointer v.names) o q → IsBeside budget further v st other →
      Follows budget further v (given_to target refusal o st) (given_to target refusal q other)
  unfolding given_to
  given_to-follows target refusal (both_some s) b = both_end same_plain (set_pointer-beside target s b)
  given_to-follows target GivesNull neither b = both_end same_plain (set_pointer-beside target (null-beside b.renamed) b)
  given_to-follows target Leaves neither b = both_end (same_leave KERR_NO_MEMORY) b
