-- One process follows another through pushes, releases and texts, from states that are the same but for numbers.
use Rattle.std.proofs.Common.{◌≡◌, ℕ, ℤ, ◌+◌, ◌-◌, ◌*◌, Bool, true, false, List, [], ◌∷◌, ◌++◌, drop, refl, ap, Option, Result, Ok, Err}
use Rattle.std.specs.Prelude.{nat_eq}
use Rattle.wb_heap_model.specs.declared.heap.TheConstants.{KERR_NO_MEMORY}
use Rattle.wb_heap_model.specs.declared.heap.Item.{Item}
use Rattle.wb_heap_model.specs.declared.heap.Panic.{Panic}
use Rattle.wb_heap_model.specs.declared.heap.Ptr.{Ptr}
use Rattle.wb_tree.specs.declared.script.Readable.{Readable}
use Rattle.wb_tree.specs.declared.script.Readable.TheVariants.{Of, ViewOf, Quoted}
use Rattle.wb_tree.specs.declared.script.Writable.{Writable}
use Rattle.wb_tree.specs.declared.script.Writable.TheVariants.{OwnBuffer, InCell}
use Rattle.wb_heap_model.specs.declared.text.Base.{Base}
use Rattle.wb_heap_model.specs.declared.text.View.{View}
use Rattle.wb_heap_model.specs.Heap.{is_cleanup}
use Rattle.wb_heap_model.specs.Row.{Cell, cell_at}
use Rattle.wb_meaning.specs.Attempts.{grow_if, push, after_growth}
use Rattle.wb_meaning.specs.Reading.{Source, whole, part, base_of, position_of, view_in, buffer_text, max_in, set_units, set_text, is_same_base, with_writable, with_readable, with_text_cell, with_base, with_units, with_room, write, write_view}
use Rattle.wb_heap_model.specs.Texts.{max_units, Edited, Part, exactly}
use Rattle.wb_heap_model.specs.Contents.{Content, class_of}
use Rattle.wb_meaning.specs.State.{Value, State, goes_on, Process, ends, local_of}
use Rattle.wb_heap_model.specs.Pointers.{is_null}
use Rattle.wb_meaning.specs.Statements.{of_script, release, released, with_class, with_words}
use Rattle.wb_renaming.specs.SameButNumbers.{Names, Renaming, IsRenaming, none_beside, one_beside, IsSamePointer, IsSameContent, same_words, same_fields, same_units, same_none, IsSameCell, IsSameItem, IsSameBase, same_nothing, same_literal, same_local, same_cell, IsSameView, IsSameValue, same_pointer, same_number, same_buffer, same_view, same_plain, same_leave}
use Rattle.wb_renaming.specs.Follows.{IsBeside, Follows, both_end, both_stop}
use Rattle.wb_renaming.proofs.SameNumbers.{ap_two, cond-beside, null-test, pointer-test, length-beside, append-beside, BothSome, neither, both_some}
use Rattle.wb_renaming.proofs.SameHeaps.{with_row-beside, cell_at-beside, without-beside}
use Rattle.wb_renaming.proofs.FollowLemmas.{local-beside, raw_words-same, units-same, given-same, with_same-follows, set_heap-beside, set_local-beside, changed_cell-beside, with_cell-follows, with_pointer-follows, reallocate-follows}

-- what a text operand is a part of
pub data IsSameSource (names : Names) : Source → Source → Type 0 where
  same_whole : {b c : Base} → IsSameBase names b c → IsSameSource names (whole b) (whole c)
  same_part : {v u : View} → IsSameView names v u → IsSameSource names (part v) (part u)

module _ {names : Names} where
  base_of-beside : {s t : Source} → IsSameSource names s t → IsSameBase names (base_of s) (base_of t)
  base_of-beside (same_whole b) = b
  base_of-beside (same_part v) = v.base

  position_of-same : {s t : Source} → IsSameSource names s t → position_of t ≡ position_of s
  position_of-same (same_whole b) = refl
  position_of-same (same_part v) = v.position

  view_in-beside : {v u : Value} → IsSameValue names v u → IsSameSource names (view_in v) (view_in u)
  view_in-beside (same_pointer s) = same_whole same_nothing
  view_in-beside (same_number z) = same_whole same_nothing
  view_in-beside (same_buffer max us) = same_whole same_nothing
  view_in-beside (same_view s) = same_part s

  buffer_text-same : {v u : Value} → IsSameValue names v u → buffer_text u ≡ buffer_text v
  buffer_text-same (same_pointer s) = refl
  buffer_text-same (same_number z) = refl
  buffer_text-same (same_buffer max us) = refl
  buffer_text-same (same_view s) = refl

  max_in-same : {v u : Value} → IsSameValue names v u → max_in u ≡ max_in v
  max_in-same (same_pointer s) = refl
  max_in-same (same_number z) = refl
  max_in-same (same_buffer max us) = refl
  max_in-same (same_view s) = refl

  set_units-beside : {c d : Content} (us : List ℕ) → IsSameContent names c d → IsSameContent names (set_units us c) (set_units us d)
  set_units-beside us (same_words ws) = same_words ws
  set_units-beside us (same_fields s) = same_fields s
  set_units-beside us (same_units old) = same_units us
  set_units-beside us same_none = same_none

  of_script-beside : {o q : Option (Cell Content)} → BothSome (IsSameCell names) o q → BothSome (IsSameCell names) (of_script o) (of_script q)
  of_script-beside neither = neither
  of_script-beside (both_some c) = cond-beside (BothSome (IsSameCell names)) _ _ _ _ _ _ (ap is_cleanup c.head.kind) neither (both_some c)

-- whether two bases are the same text doesn't depend on the numbers
pub base-test : {w : Renaming} {b c d e : Base} → IsRenaming w → IsSameBase w.names b c → IsSameBase w.names d e → is_same_base c e ≡ is_same_base b d
base-test is same_nothing t = refl
base-test is (same_literal i) t = refl
base-test is (same_local i) same_nothing = refl
base-test is (same_local i) (same_literal j) = refl
base-test is (same_local i) (same_local j) = refl
base-test is (same_local i) (same_cell t) = refl
base-test is (same_cell s) same_nothing = refl
base-test is (same_cell s) (same_literal j) = refl
base-test is (same_cell s) (same_local j) = refl
base-test is (same_cell s) (same_cell t) = pointer-test is s t

pub source-test : {w : Renaming} {b c : Base} {s t : Source} → IsRenaming w → IsSameBase w.names b c → IsSameSource w.names s t →
    is_same_base c (base_of t) ≡ is_same_base b (base_of s)
source-test is b s = base-test is b (base_of-beside s)

module _ (budget further : ℕ) where
  -- the cleanup stack
  grown-follows : (v : Renaming) (o q : Option Ptr) (st other : State) → BothSome (IsSamePointer v.names) o q → IsBeside budget further v st other →
      Follows budget further v (after_growth o st) (after_growth q other)
  unfolding after_growth
  grown-follows v o q st other (both_some s) b = both_end same_plain (record {
    renamed = b.renamed;
    same = record { heap = b.same.heap; cleanup = s; items = b.same.items; slots = ap (λ n. n + 4) b.same.slots; frame = b.same.frame };
    steps = b.steps;
    within = b.within;
  })
  grown-follows v o q st other neither b = both_end (same_leave KERR_NO_MEMORY) b

  grow-follows : {w : Renaming} {before other_before st other : State} (full other_full : Bool) → other_full ≡ full → IsBeside budget further w before other_before → IsBeside budget further w st other →
      Follows budget further w (grow_if full before st) (grow_if other_full other_before other)
  unfolding grow_if
  grow-follows false false e before b = both_end same_plain b
  grow-follows true true e before b =
      with_cell-follows budget further _ _ b.same.cleanup b (λ c d s.
      reallocate-follows budget further _ _ _ _ (ap (λ n. 16 * (n + 4)) b.same.slots) s before b (λ v o q st other x. grown-follows v o q st other))
  grow-follows false true e before b = cc
  grow-follows true false e before b = cc

  pub push-follows : {w : Renaming} {st other : State} {i j : Item} → IsSameItem w.names i j → IsBeside budget further w st other → Follows budget further w (push i st) (push j other)
  unfolding push
  push-follows {w = w} {st = st} {other = other} {i = i} {j = j} s b =
      let items = append-beside b.same.items (one_beside s none_beside) in
      let pushed : IsBeside budget further w (record st { items = st.items ++ i ∷ [] }) (record other { items = other.items ++ j ∷ [] }) = record {
        renamed = b.renamed;
        same = record { heap = b.same.heap; cleanup = b.same.cleanup; items = items; slots = b.same.slots; frame = b.same.frame };
        steps = b.steps;
        within = b.within;
      } in
      grow-follows _ _ (ap_two nat_eq (length-beside items) b.same.slots) b pushed

  -- releases
  released-follows : {w : Renaming} {st other : State} {p q : Ptr} {o u : Option (Cell Content)} → BothSome (IsSameCell w.names) o u → IsSamePointer w.names p q → IsBeside budget further w st other →
      Follows budget further w (released o p st) (released u q other)
  unfolding released
  released-follows neither s b = both_stop refl b
  released-follows (both_some c) s b =
      both_end same_plain (set_heap-beside budget further (with_row-beside (without-beside b.renamed s b.same.heap.row) b.same.heap) b)

  pub release-follows : {w : Renaming} {st other : State} {p q : Ptr} → IsSamePointer w.names p q → IsBeside budget further w st other → Follows budget further w (release p st) (release q other)
  unfolding release
  release-follows {w = w} {st = st} {other = other} {p = p} {q = q} s b = by (is_null p) (is_null q) (null-test b.renamed s)
    where
      by : (x y : Bool) → y ≡ x →
          Follows budget further w (elim x [ true ↦ ends goes_on st | false ↦ released (of_script (cell_at p st.heap.row)) p st ])
          (elim y [ true ↦ ends goes_on other | false ↦ released (of_script (cell_at q other.heap.row)) q other ])
      by true true e = both_end same_plain b
      by false false e = released-follows (of_script-beside (cell_at-beside b.renamed s b.same.heap.row)) s b
      by true false e = cc
      by false true e = cc

  -- what a cell holds
  pub with_words-follows : {w : Renaming} {st other : State} {p q : Ptr} (go other_go : Cell Content → List ℤ → Process) → IsSamePointer w.names p q → IsBeside budget further w st other →
      ((c d : Cell Content) (ws : List ℤ) → IsSameCell w.names c d → Follows budget further w (go c ws) (other_go d ws)) →
      Follows budget further w (with_words st p go) (with_words other q other_go)
  unfolding with_words
  with_words-follows go other_go s b f = with_cell-follows budget further _ _ s b (λ c d t. with_same-follows budget further _ _ _ (go c) (other_go d) (raw_words-same t) b (λ ws. f c d ws t))

  pub with_class-follows : {w : Renaming} {st other : State} {p q : Ptr} (go other_go : ℕ → Process) → IsSamePointer w.names p q → IsBeside budget further w st other →
      ((class : ℕ) → Follows budget further w (go class) (other_go class)) → Follows budget further w (with_class st p go) (with_class other q other_go)
  unfolding with_class
  with_class-follows go other_go s b f = with_cell-follows budget further _ _ s b (λ c d t. with_same-follows budget further _ _ _ go other_go (ap class_of t.head.kind) b f)

  with_text_cell-follows : {w : Renaming} {st other : State} {p q : Ptr} (go other_go : Cell Content → List ℕ → Process) → IsSamePointer w.names p q → IsBeside budget further w st other →
      ((c d : Cell Content) (us : List ℕ) → IsSameCell w.names c d → Follows budget further w (go c us) (other_go d us)) →
      Follows budget further w (with_text_cell st p go) (with_text_cell other q other_go)
  unfolding with_text_cell
  with_text_cell-follows go other_go s b f = with_cell-follows budget further _ _ s b (λ c d t. with_same-follows budget further _ _ _ (go c) (other_go d) (units-same t) b (λ us. f c d us t))

  -- texts
  pub with_writable-follows : {w : Renaming} {st other : State} (d : Writable) (go other_go : Base → Process) → IsBeside budget further w st other →
      ((x y : Base) → IsSameBase w.names x y → Follows budget further w (go x) (other_go y)) → Follows budget further w (with_writable st d go) (with_writable other d other_go)
  unfolding with_writable
  with_writable-follows (OwnBuffer i) go other_go b f = f _ _ (same_local i)
  with_writable-follows (InCell p) go other_go b f = with_pointer-follows budget further p _ _ b (λ q r s. f _ _ (same_cell s))

  pub with_readable-follows : {w : Renaming} {st other : State} (t : Readable) (go other_go : Source → Process) → IsBeside budget further w st other →
      ((x y : Source) → IsSameSource w.names x y → Follows budget further w (go x) (other_go y)) → Follows budget further w (with_readable st t go) (with_readable other t other_go)
  unfolding with_readable
  with_readable-follows (Of d) go other_go b f = with_writable-follows d _ _ b (λ x y s. f _ _ (same_whole s))
  with_readable-follows (ViewOf i) go other_go b f = f _ _ (view_in-beside (local-beside i b.same))
  with_readable-follows (Quoted i) go other_go b f = f _ _ (same_whole (same_literal i))

  with_base-follows : {w : Renaming} {st other : State} {x y : Base} (literals : List (List ℕ)) (go other_go : List ℕ → Process) → IsSameBase w.names x y → IsBeside budget further w st other →
      ((us : List ℕ) → Follows budget further w (go us) (other_go us)) → Follows budget further w (with_base literals st x go) (with_base literals other y other_go)
  unfolding with_base
  with_base-follows literals go other_go same_nothing b f = f []
  with_base-follows literals go other_go (same_literal i) b f = f _
  with_base-follows literals go other_go (same_local i) b f = given-same budget further go other_go _ _ (buffer_text-same (local-beside i b.same)) (f _)
  with_base-follows literals go other_go (same_cell s) b f = with_text_cell-follows _ _ s b (λ c d us t. f us)

  pub with_units-follows : {w : Renaming} {st other : State} {x y : Source} (literals : List (List ℕ)) (go other_go : List ℕ → Process) → IsSameSource w.names x y → IsBeside budget further w st other →
      ((us : List ℕ) → Follows budget further w (go us) (other_go us)) → Follows budget further w (with_units literals st x go) (with_units literals other y other_go)
  unfolding with_units
  with_units-follows literals go other_go (same_whole s) b f = with_base-follows literals go other_go s b f
  with_units-follows literals go other_go (same_part s) b f =
      with_base-follows literals _ _ s.base b (λ us. given-same budget further go other_go _ _ (ap_two (λ (l p : ℕ). exactly l (drop p us)) s.length s.position) (f _))

  pub with_room-follows : {w : Renaming} {st other : State} {x y : Base} (go other_go : ℕ → List ℕ → Process) → IsSameBase w.names x y → IsBeside budget further w st other →
      ((max : ℕ) (us : List ℕ) → Follows budget further w (go max us) (other_go max us)) → Follows budget further w (with_room st x go) (with_room other y other_go)
  unfolding with_room
  with_room-follows go other_go same_nothing b f = both_stop refl b
  with_room-follows go other_go (same_literal i) b f = both_stop refl b
  with_room-follows {st = st} {other = other} go other_go (same_local i) b f =
      let s = local-beside i b.same in
      given-same budget further (λ (v : ℕ). go v (buffer_text (local_of st i))) (λ (v : ℕ). other_go v (buffer_text (local_of other i))) _ _ (max_in-same s)
      (given-same budget further (go (max_in (local_of st i))) (other_go (max_in (local_of st i))) _ _ (buffer_text-same s) (f _ _))
  with_room-follows go other_go (same_cell s) b f =
      with_text_cell-follows _ _ s b (λ c d us t.
      given-same budget further (λ (v : ℕ). go v us) (λ (v : ℕ). other_go v us) _ _ (ap (λ (l : ℕ). max_units (l - 16)) t.head.length) (f _ us))

  set_text-beside : {w : Renaming} {st other : State} {x y : Base} (max : ℕ) (us : List ℕ) → IsSameBase w.names x y → IsBeside budget further w st other →
      IsBeside budget further w (set_text st x max us) (set_text other y max us)
  set_text-beside max us same_nothing b = b
  set_text-beside max us (same_literal i) b = b
  set_text-beside max us (same_local i) b = set_local-beside budget further i (same_buffer max us) b
  set_text-beside max us (same_cell s) b = changed_cell-beside budget further (set_units us) (set_units us) (λ c d t. set_units-beside us t) s b

  pub write-follows : {w : Renaming} {st other : State} {x y : Base} (e : Edited) (max : ℕ) → IsSameBase w.names x y → IsBeside budget further w st other →
      Follows budget further w (write e st x max) (write e other y max)
  unfolding write
  write-follows (Ok us) max s b = both_end same_plain (set_text-beside max us s b)
  write-follows (Err panic) max s b = both_stop refl b

  pub write_view-follows : {w : Renaming} {st other : State} {x y : Source} (e : Result Part Panic) (target : ℕ) → IsSameSource w.names x y → IsBeside budget further w st other →
      Follows budget further w (write_view e st target x) (write_view e other target y)
  unfolding write_view
  write_view-follows {w = w} {x = x} {y = y} (Ok p) target s b =
      let seen : IsSameView w.names (record { base = base_of x; position = position_of x + p.from; length = p.count }) (record { base = base_of y; position = position_of y + p.from; length = p.count }) =
      record { base = base_of-beside s; position = ap (λ n. n + p.from) (position_of-same s); length = refl } in
      both_end same_plain (set_local-beside budget further target (same_view seen) b)
  write_view-follows (Err panic) target s b = both_stop refl b
