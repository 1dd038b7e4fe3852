-- Frames, arguments, destructions, traps and conditions: one process follows another where what is inside does.
use Rattle.std.proofs.Common.{◌≡◌, ℕ, ℤ, ◌-◌, Bool, true, false, not, ◌&&◌, List, [], ◌∷◌, map, refl, ap}
use Rattle.std.specs.Prelude.{nat_eq, int_le, int_lt, pos}
use Rattle.wb_heap_model.specs.declared.heap.Item.{Item}
use Rattle.wb_heap_model.specs.declared.heap.Ptr.{Ptr}
use Rattle.wb_basics.specs.declared.limits.TheConstants.{LARGEST_REQUEST}
use Rattle.wb_tree.specs.declared.script.Argument.{Argument}
use Rattle.wb_tree.specs.declared.script.Argument.TheVariants.{Passed, Given}
use Rattle.wb_tree.specs.declared.script.Body.{Body}
use Rattle.wb_tree.specs.declared.script.Condition.{Condition}
use Rattle.wb_tree.specs.declared.script.Condition.TheVariants.{IsNull, NotNull, Equal, Less}
use Rattle.wb_tree.specs.declared.script.Local.{Local}
use Rattle.wb_tree.specs.declared.script.Local.TheVariants.{OfPointer, OfNumber, OfBuffer, OfView}
use Rattle.wb_tree.specs.declared.script.Pointer.{Pointer}
use Rattle.wb_tree.specs.declared.script.Refusal.{Refusal}
use Rattle.wb_tree.specs.declared.script.Script.{Script}
use Rattle.wb_tree.specs.Bodies.{operation_at}
use Rattle.wb_meaning.specs.Operands.{number_of, within}
use Rattle.wb_meaning.specs.State.{Frame, Value, number, initial, State, Way, goes_on, returns, leaves, Process, ends}
use Rattle.wb_meaning.specs.Statements.{Todo, destroy_items, Context, Meaning, is_raw, fresh_words, alloc_raw, realloc_raw, realloc_of, in_frame, plain, with_arguments, destroyed_object, destroyed_item, trapped, with_condition, leave_if}
use Rattle.wb_renaming.specs.SameButNumbers.{Names, Renaming, IsRenaming, AllBeside, none_beside, one_beside, IsSamePointer, same_words, IsSameCell, IsSameItem, same_free, same_delete, same_call, same_nothing, IsSameValue, same_pointer, same_number, same_buffer, same_view, IsSameFrame, IsSameWay, same_plain, same_return, same_leave, IsSameTodo, same_statements, same_items, same_object}
use Rattle.wb_renaming.specs.Follows.{IsLate, IsPast, IsBeside, Follows, both_end}
use Rattle.wb_renaming.proofs.SameNumbers.{ap_two, null-test, length-beside, append-beside, frame-later}
use Rattle.wb_renaming.proofs.SameHeaps.{cell_at-beside}
use Rattle.wb_renaming.proofs.FollowLemmas.{number-same, null-beside, GoesOn, GoesPast, and_then-follows, then_do-follows, require-follows, with_some-follows, given-same, with_same-follows, set_local-beside, with_pointer-follows, allocate-follows, reallocate-follows, given_to-follows}
use Rattle.wb_renaming.proofs.FollowTexts.{release-follows}

module _ {w : Renaming} where
  initial-beside : IsRenaming w → (l : Local) → IsSameValue w.names (initial l) (initial l)
  initial-beside is (OfPointer class) = same_pointer (null-beside is)
  initial-beside is OfNumber = same_number (pos 0)
  initial-beside is (OfBuffer max) = same_buffer max []
  initial-beside is OfView = same_view (record { base = same_nothing; position = refl; length = refl })

  pub initials-beside : IsRenaming w → (ls : List Local) → AllBeside (IsSameValue w.names) (map initial ls) (map initial ls)
  initials-beside is [] = none_beside
  initials-beside is (l ∷ ls) = one_beside (initial-beside is l) (initials-beside is ls)

pub frame-beside : {names : Names} {p q : Ptr} {vs us : List Value} → IsSamePointer names p q → AllBeside (IsSameValue names) vs us →
    IsSameFrame names (record { this = p; locals = vs }) (record { this = q; locals = us })
frame-beside s all = record { this = s; locals = all }

module _ (budget further : ℕ) where
  -- what is inside follows too
  abbrev pub FollowsAll : Meaning → Meaning → Type 0
  FollowsAll rec other_rec =
      (w : Renaming) (at : Context) (p q : Todo) (st other : State) → IsSameTodo w.names p q → IsBeside budget further w st other →
      Follows budget further w (rec at p st) (other_rec at q other)

  pub plain-follows : {w : Renaming} {way other_way : Way} {st other : State} (go other_go : Ptr → State → Process) → IsSameWay w.names way other_way → IsBeside budget further w st other →
      ((p q : Ptr) → IsSamePointer w.names p q → Follows budget further w (go p st) (other_go q other)) → Follows budget further w (plain go way st) (plain other_go other_way other)
  unfolding plain
  plain-follows go other_go same_plain b f = f _ _ (null-beside b.renamed)
  plain-follows go other_go (same_return s) b f = f _ _ s
  plain-follows go other_go (same_leave code) b f = both_end (same_leave code) b

  pub plain-past : (go : Ptr → State → Process) (way : Way) (st : State) → IsLate budget further st → ((p : Ptr) → IsPast budget further (go p st)) → IsPast budget further (plain go way st)
  unfolding plain
  plain-past go goes_on st late past = past _
  plain-past go (returns p) st late past = past p
  plain-past go (leaves code) st late past = late

  -- the frame of another state
  pub framed-beside : {w : Renaming} {st other : State} {f g : Frame} → IsSameFrame w.names f g → IsBeside budget further w st other →
      IsBeside budget further w (record st { frame = f }) (record other { frame = g })
  framed-beside s b = record {
    renamed = b.renamed;
    same = record { heap = b.same.heap; cleanup = b.same.cleanup; items = b.same.items; slots = b.same.slots; frame = s };
    steps = b.steps;
    within = b.within;
  }

  pub in_frame-follows : {w : Renaming} {this other_this : Ptr} {given other_given : List Value} {st other : State} (rec other_rec : Meaning) (at : Context) (body : Body) (go other_go : Way → State → Process) →
      FollowsAll rec other_rec → IsSamePointer w.names this other_this → AllBeside (IsSameValue w.names) given other_given → IsBeside budget further w st other →
      GoesOn budget further w go other_go → GoesPast budget further go →
      Follows budget further w (in_frame rec at this given body st go) (in_frame other_rec at other_this other_given body other other_go)
  unfolding in_frame
  in_frame-follows {w = w} {st = st} {other = other} rec other_rec at body go other_go k this given b f past =
      require-follows budget further _ _ _ _ _ refl b
      (and_then-follows budget further _ _
      (k w _ _ _ _ _ (same_statements body.statements) (framed-beside (frame-beside this (append-beside given (initials-beside b.renamed body.locals))) b))
      (λ v way other_way after other_after x s c. f v way other_way _ _ x s (framed-beside (frame-later x b.same.frame) c))
      (λ way after late. past way _ (record { past = late.past; within = late.within })))

  pub with_arguments-follows : {w : Renaming} {st other : State} (arguments : List Argument) (go other_go : List Value → Process) → IsBeside budget further w st other →
      ((vs us : List Value) → AllBeside (IsSameValue w.names) vs us → Follows budget further w (go vs) (other_go us)) →
      Follows budget further w (with_arguments st arguments go) (with_arguments other arguments other_go)
  unfolding with_arguments
  with_arguments-follows [] go other_go b f = f _ _ none_beside
  with_arguments-follows (Passed p ∷ rest) go other_go b f =
      with_pointer-follows budget further p _ _ b (λ q r s. with_arguments-follows rest _ _ b (λ vs us all. f _ _ (one_beside (same_pointer s) all)))
  with_arguments-follows {w = w} {st = st} {other = other} (Given v ∷ rest) go other_go b f =
      with_arguments-follows rest _ _ b (λ vs us all.
      given-same budget further (λ (z : ℤ). go (number z ∷ vs)) (λ (z : ℤ). other_go (number z ∷ us)) (number_of st v) (number_of other v) (number-same v b.same)
      (f _ _ (one_beside (same_number (number_of st v)) all)))

  pub destroyed_object-follows : {w : Renaming} {p q : Ptr} {st other : State} (rec other_rec : Meaning) (at : Context) (null other_null : Bool) → other_null ≡ null →
      FollowsAll rec other_rec → IsSamePointer w.names p q → IsBeside budget further w st other →
      Follows budget further w (destroyed_object null rec at p st) (destroyed_object other_null other_rec at q other)
  unfolding destroyed_object
  destroyed_object-follows rec other_rec at true true e k s b = both_end same_plain b
  destroyed_object-follows {w = w} rec other_rec at false false e k s b = k w _ _ _ _ _ (same_object s) b
  destroyed_object-follows rec other_rec at true false e k s b = cc
  destroyed_object-follows rec other_rec at false true e k s b = cc

  pub destroyed_item-follows : {w : Renaming} {i j : Item} {st other : State} (script : Script) (rec other_rec : Meaning) (at : Context) →
      FollowsAll rec other_rec → IsSameItem w.names i j → IsBeside budget further w st other →
      Follows budget further w (destroyed_item script rec at i st) (destroyed_item script other_rec at j other)
  unfolding destroyed_item
  destroyed_item-follows script rec other_rec at k (same_free s) b = release-follows budget further s b
  destroyed_item-follows script rec other_rec at k (same_delete s) b = destroyed_object-follows rec other_rec at _ _ (null-test b.renamed s) k s b
  destroyed_item-follows script rec other_rec at k (same_call operation s) b =
      in_frame-follows rec other_rec at (operation_at script operation) _ _ k (null-beside b.renamed) (one_beside (same_pointer s) none_beside) b
      (λ v way other_way st other x s c. plain-follows _ _ s c (λ p q s. both_end same_plain c)) (λ way st late. plain-past _ way st late (λ p. late))

  pub trapped-follows : {w : Renaming} {way other_way : Way} {st other : State} (rec other_rec : Meaning) (at : Context) (target entry other_entry : ℕ) → other_entry ≡ entry →
      FollowsAll rec other_rec → IsSameWay w.names way other_way → IsBeside budget further w st other →
      Follows budget further w (trapped rec at target entry way st) (trapped other_rec at target other_entry other_way other)
  unfolding trapped
  trapped-follows rec other_rec at target entry other_entry e k same_plain b =
      require-follows budget further _ _ _ _ _ (ap_two nat_eq (length-beside b.same.items) e) b (both_end same_plain (set_local-beside budget further target (same_number (pos 0)) b))
  trapped-follows {w = w} {st = st} {other = other} rec other_rec at target entry other_entry e k (same_leave code) b =
      then_do-follows budget further _ _
      (given-same budget further (λ (n : ℕ). rec at (destroy_items n) st) (λ (n : ℕ). other_rec at (destroy_items n) other) _ _ (ap_two ◌-◌ (length-beside b.same.items) e) (k w _ _ _ _ _ (same_items _) b))
      (λ v st other x c. both_end same_plain (set_local-beside budget further target (same_number code) c)) (λ st late. record { past = late.past; within = late.within })
  trapped-follows rec other_rec at target entry other_entry e k (same_return s) b = both_end (same_return s) b

  pub with_condition-follows : {w : Renaming} {st other : State} (c : Condition) (go other_go : Bool → Process) → IsBeside budget further w st other →
      ((holds : Bool) → Follows budget further w (go holds) (other_go holds)) → Follows budget further w (with_condition st c go) (with_condition other c other_go)
  unfolding with_condition
  with_condition-follows (IsNull p) go other_go b f =
      with_pointer-follows budget further p _ _ b (λ q r s. given-same budget further go other_go _ _ (null-test b.renamed s) (f _))
  with_condition-follows (NotNull p) go other_go b f =
      with_pointer-follows budget further p _ _ b (λ q r s. given-same budget further go other_go _ _ (ap not (null-test b.renamed s)) (f _))
  with_condition-follows (Equal v u) go other_go b f =
      let one = number-same v b.same in
      let two = number-same u b.same in
      given-same budget further go other_go _ _ (ap_two ◌&&◌ (ap_two int_le one two) (ap_two int_le two one)) (f _)
  with_condition-follows (Less v u) go other_go b f =
      given-same budget further go other_go _ _ (ap_two int_lt (number-same v b.same) (number-same u b.same)) (f _)

  pub leave_if-follows : {w : Renaming} {st other : State} (leaving other_leaving : Bool) (code other_code : ℤ) → other_leaving ≡ leaving → other_code ≡ code → IsBeside budget further w st other →
      Follows budget further w (leave_if leaving code st) (leave_if other_leaving other_code other)
  unfolding leave_if
  leave_if-follows {st = st} {other = other} true true code other_code e same b =
      given-same budget further (λ (z : ℤ). ends (leaves z) st) (λ (z : ℤ). ends (leaves z) other) code other_code same (both_end (same_leave code) b)
  leave_if-follows false false code other_code e same b = both_end same_plain b
  leave_if-follows true false code other_code e same b = cc
  leave_if-follows false true code other_code e same b = cc

  pub alloc_raw-follows : {w : Renaming} {st other : State} (target : Pointer) (refusal : Refusal) (bytes : ℕ) → IsBeside budget further w st other →
      Follows budget further w (alloc_raw target refusal bytes st) (alloc_raw target refusal bytes other)
  unfolding alloc_raw
  alloc_raw-follows target refusal bytes b =
      allocate-follows budget further bytes _ (fresh_words bytes) _ _ (same_words _) b (λ v o q st other x s c. given_to-follows budget further target refusal s c)

  pub realloc_of-follows : {w : Renaming} {p q : Ptr} {st other : State} (null other_null : Bool) (target : Pointer) (refusal : Refusal) (asked other_asked : ℤ) → other_null ≡ null → other_asked ≡ asked →
      IsSamePointer w.names p q → IsBeside budget further w st other →
      Follows budget further w (realloc_of null target refusal p asked st) (realloc_of other_null target refusal q other_asked other)
  unfolding realloc_of realloc_raw
  realloc_of-follows true true target refusal asked other_asked e same s b =
      with_same-follows budget further _ _ _ _ _ (ap (within LARGEST_REQUEST) same) b (λ bytes. alloc_raw-follows target refusal bytes b)
  realloc_of-follows {w = w} false false target refusal asked other_asked e same s b =
      with_some-follows budget further (IsSameCell w.names) _ _ _ (cell_at-beside b.renamed s b.same.heap.row) b (λ c d t.
      require-follows budget further _ _ _ _ _ (ap is_raw t.head.kind) b
      (with_same-follows budget further _ _ _ _ _ (ap (within LARGEST_REQUEST) same) b (λ bytes.
      reallocate-follows budget further bytes bytes _ _ refl t b b (λ v o q st other x s c. given_to-follows budget further target refusal s c))))
  realloc_of-follows true false target refusal asked other_asked e same s b = cc
  realloc_of-follows false true target refusal asked other_asked e same s b = cc
