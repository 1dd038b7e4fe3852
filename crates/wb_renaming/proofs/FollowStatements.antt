-- One process follows another through each statement, with a case for each, where what is inside does.
use Rattle.std.proofs.Common.{◌≡◌, ℕ, ℤ, zero, suc, ◌+◌, ◌-◌, ◌+ℤ◌, not, List, [], length, take, replicate, refl, sym, ap, subst, Option}
use Rattle.std.specs.Prelude.{nat_le, int_lt, pos, slice_get, slice_set}
use Rattle.wb_heap_model.specs.declared.heap.Item.{Item}
use Rattle.wb_heap_model.specs.declared.heap.Panic.{Panic}
use Rattle.wb_basics.specs.declared.limits.TheConstants.{LARGEST_REQUEST, MOST_TURNS, MOST_UNITS}
use Rattle.wb_tree.specs.declared.script.Number.{Number}
use Rattle.wb_tree.specs.declared.script.Number.TheVariants.{Variable}
use Rattle.wb_tree.specs.declared.script.Refusal.TheVariants.{GivesNull}
use Rattle.wb_tree.specs.declared.script.Script.{Script}
use Rattle.wb_tree.specs.declared.script.Statement.TheOpen.{Statement-F}
use Rattle.wb_heap_model.specs.Rules.{Setting, never, next, each}
use Rattle.wb_meaning.specs.Operands.{number_of, within, not_negative}
use Rattle.wb_heap_model.specs.Contents.{words}
use Rattle.wb_meaning.specs.State.{number, State, leaves, Process, and_then, with_some}
use Rattle.wb_heap_model.specs.Pointers.{null, newest, item_pointer}
use Rattle.wb_meaning.specs.Statements.{all, done, drop_newest, index_in, in_range, at_least_one, plain, set_setting, new_object, realloc_text, Context, Meaning, Layer, trapped, statement}
use Rattle.wb_renaming.specs.SameButNumbers.{Names, Renaming, IsRenaming, AllBeside, none_beside, one_beside, IsSamePointer, IsSameContent, same_words, same_fields, same_units, IsSameCell, IsSameHeap, IsSameItem, same_free, same_delete, same_call, IsSameValue, same_pointer, same_number, IsSameWay, same_plain, same_return, same_leave, same_statements, same_turns, same_items}
use Rattle.wb_renaming.specs.Follows.{IsBeside, Follows, both_end, both_note}
use Rattle.wb_meaning.proofs.AlikeLemmas.{AlikeAll}
use Rattle.wb_meaning.proofs.AlikeFrames.{trapped-alike}
use Rattle.wb_renaming.proofs.SameNumbers.{ap_two, null-test, pointer-test, length-beside, take-beside, BothSome, get-beside}
use Rattle.wb_renaming.proofs.SameHeaps.{level-check, all_levels-check, mark_end-check, mark-beside, mark_end-beside, cell_at-beside}
use Rattle.wb_renaming.proofs.FollowPast.{lateness, fine, past-of}
use Rattle.wb_renaming.proofs.FollowLemmas.{number-same, units-same, null-beside, GoesOn, GoesPast, and_then-follows, require-follows, with_some-follows, given-same, with_same-follows, unless-follows, set_heap-beside, set_local-beside, changed_cell-beside, set_pointer-beside, with_cell-follows, with_pointer-follows, allocate-follows, reallocate-follows, given_to-follows}
use Rattle.wb_renaming.proofs.FollowTexts.{source-test, push-follows, release-follows, with_words-follows, with_class-follows, with_writable-follows, with_readable-follows, with_units-follows, with_room-follows, write-follows, write_view-follows}
use Rattle.wb_renaming.proofs.FollowFrames.{FollowsAll, plain-follows, plain-past, in_frame-follows, with_arguments-follows, destroyed_object-follows, trapped-follows, with_condition-follows, leave_if-follows, alloc_raw-follows, realloc_of-follows}

-- equal numbers, words and codes
module _ {names : Names} where
  number-beside : (y z : ℤ) → z ≡ y → IsSameValue names (number y) (number z)
  number-beside y z e = subst (λ x. IsSameValue names (number y) (number x)) (sym e) (same_number y)

  words-beside : (us ws : List ℤ) → ws ≡ us → IsSameContent names (words us) (words ws)
  words-beside us ws e = subst (λ x. IsSameContent names (words us) (words x)) (sym e) (same_words us)

  leave-beside : (y z : ℤ) → z ≡ y → IsSameWay names (leaves y) (leaves z)
  leave-beside y z e = subst (λ x. IsSameWay names (leaves y) (leaves x)) (sym e) (same_leave y)

  item_pointer-beside : {i j : Item} → IsSameItem names i j → IsSamePointer names (item_pointer i) (item_pointer j)
  item_pointer-beside (same_free s) = s
  item_pointer-beside (same_delete s) = s
  item_pointer-beside (same_call operation s) = s

  pub newest-beside : {is js : List Item} → AllBeside (IsSameItem names) is js → BothSome (IsSameItem names) (newest is) (newest js)
  newest-beside {is = is} {js = js} same =
      subst (λ n. BothSome (IsSameItem names) (newest is) (slice_get js (n - 1))) (sym (length-beside same)) (get-beside (length is - 1) same)

nulls-beside : {w : Renaming} → IsRenaming w → (n : ℕ) → AllBeside (IsSamePointer w.names) (replicate n null) (replicate n null)
nulls-beside is zero = none_beside
nulls-beside is (suc n) = one_beside (null-beside is) (nulls-beside is n)

module _ (budget further : ℕ) where
  pub dropped-beside : {w : Renaming} {st other : State} (n : ℕ) → IsBeside budget further w st other → IsBeside budget further w (drop_newest n st) (drop_newest n other)
  dropped-beside {w = w} {st = st} {other = other} n b =
      let same = b.same in
      let items : AllBeside (IsSameItem w.names) (take (length st.items - n) st.items) (take (length other.items - n) other.items) =
      subst (λ m. AllBeside (IsSameItem w.names) (take (length st.items - n) st.items) (take (m - n) other.items)) (sym (length-beside same.items))
      (take-beside (length st.items - n) same.items) in
      record {
        renamed = b.renamed;
        same = record { heap = same.heap; cleanup = same.cleanup; items = items; slots = same.slots; frame = same.frame };
        steps = b.steps;
        within = b.within;
      }

  printed-beside : {w : Renaming} {st other : State} (lines other_lines : List (List ℕ)) → IsBeside budget further w st other →
      IsBeside budget further w (record st { lines = lines }) (record other { lines = other_lines })
  printed-beside lines other_lines b = record {
    renamed = b.renamed;
    same = record { heap = b.same.heap; cleanup = b.same.cleanup; items = b.same.items; slots = b.same.slots; frame = b.same.frame };
    steps = b.steps;
    within = b.within;
  }

  setting-beside : {w : Renaming} {st other : State} (setting : Setting) → IsBeside budget further w st other → IsBeside budget further w (set_setting st setting) (set_setting other setting)
  setting-beside {w = w} {st = st} {other = other} setting b =
      let heap : IsSameHeap w.names (record st.heap { setting = setting }) (record other.heap { setting = setting }) =
      record { row = b.same.heap.row; level = b.same.heap.level; setting = refl; placement = b.same.heap.placement } in
      set_heap-beside budget further heap b

  number-follows : {w : Renaming} {st other : State} (f : ℤ → Option ℕ) (v : Number) (panic : Panic) (go other_go : ℕ → Process) → IsBeside budget further w st other →
      ((n : ℕ) → Follows budget further w (go n) (other_go n)) →
      Follows budget further w (with_some (f (number_of st v)) panic st go) (with_some (f (number_of other v)) panic other other_go)
  number-follows f v panic go other_go b k = with_same-follows budget further _ _ panic go other_go (ap f (number-same v b.same)) b k

  -- a body that runs out, or returns, goes on
  runs_out : (w : Renaming) → GoesOn budget further w (plain (λ _ st. done st)) (plain (λ _ st. done st))
  runs_out w v way other_way st other x s c = plain-follows budget further _ _ s c (λ p q t. both_end same_plain c)

  runs_out-past : GoesPast budget further (plain (λ _ st. done st))
  runs_out-past way st late = plain-past budget further _ way st late (λ p. late)

  pub statement-follows : {w : Renaming} (script : Script) (rec other_rec : Meaning) (at : Context) (s : Layer) (st other : State) → FollowsAll budget further rec other_rec →
      AlikeAll (lateness script budget further) rec rec → IsBeside budget further w st other → Follows budget further w (statement script rec at s st) (statement script other_rec at s other)
  unfolding statement new_object realloc_text
  statement-follows script rec other_rec at (Statement-F.Alloc p v r) st other k keeps b =
      with_pointer-follows budget further p _ _ b (λ _ _ _. number-follows (within LARGEST_REQUEST) v _ _ _ b (λ n. alloc_raw-follows budget further p r n b))
  statement-follows script rec other_rec at (Statement-F.Realloc p q v r) st other k keeps b =
      with_pointer-follows budget further p _ _ b (λ _ _ _. with_pointer-follows budget further q _ _ b (λ old new s.
      realloc_of-follows budget further _ _ p r _ _ (null-test b.renamed s) (number-same v b.same) s b))
  statement-follows script rec other_rec at (Statement-F.Free p) st other k keeps b = with_pointer-follows budget further p _ _ b (λ q r s. release-follows budget further s b)
  statement-follows script rec other_rec at (Statement-F.AllocLen x p) st other k keeps b =
      with_pointer-follows budget further p _ _ b (λ q r s. with_some-follows budget further (IsSameCell _) _ _ _ (cell_at-beside b.renamed s b.same.heap.row) b (λ c d t.
      both_end same_plain (set_local-beside budget further x (number-beside _ _ (ap (λ (l : ℕ). pos (l - 16)) t.head.length)) b)))
  statement-follows script rec other_rec at (Statement-F.Store p i v) st other k keeps b =
      with_pointer-follows budget further p _ _ b (λ q r s. with_words-follows budget further _ _ s b (λ c d ws t.
      with_same-follows budget further _ _ _ _ _ (ap_two index_in (ap (λ (l : ℕ). l - 16) t.head.length) (number-same i b.same)) b (λ n.
      both_end same_plain (changed_cell-beside budget further (λ _. words (slice_set ws n (number_of st v))) (λ _. words (slice_set ws n (number_of other v)))
      (λ _ _ _. words-beside _ _ (ap (slice_set ws n) (number-same v b.same))) s b))))
  statement-follows script rec other_rec at (Statement-F.Load x p i) st other k keeps b =
      with_pointer-follows budget further p _ _ b (λ q r s. with_words-follows budget further _ _ s b (λ c d ws t.
      with_same-follows budget further _ _ _ _ _ (ap_two index_in (ap (λ (l : ℕ). l - 16) t.head.length) (number-same i b.same)) b (λ n.
      both_end same_plain (set_local-beside budget further x (same_number _) b))))
  statement-follows script rec other_rec at (Statement-F.New p class r) st other k keeps b =
      with_pointer-follows budget further p _ _ b (λ _ _ _. allocate-follows budget further _ _ _ _ _ (same_fields (nulls-beside b.renamed _)) b (λ v o q st other x s c. given_to-follows budget further p r s c))
  statement-follows {w = w} script rec other_rec at (Statement-F.Construct p) st other k keeps b =
      with_pointer-follows budget further p _ _ b (λ q r s. with_class-follows budget further _ _ s b (λ class. in_frame-follows budget further rec other_rec at _ _ _ k s none_beside b (runs_out w) runs_out-past))
  statement-follows script rec other_rec at (Statement-F.Delete p) st other k keeps b =
      with_pointer-follows budget further p _ _ b (λ q r s. destroyed_object-follows budget further rec other_rec at _ _ (null-test b.renamed s) k s b)
  statement-follows script rec other_rec at (Statement-F.Set p q) st other k keeps b =
      with_pointer-follows budget further p _ _ b (λ _ _ _. with_pointer-follows budget further q _ _ b (λ x y s. both_end same_plain (set_pointer-beside budget further p s b)))
  statement-follows script rec other_rec at (Statement-F.SetNumber x v) st other k keeps b = both_end same_plain (set_local-beside budget further x (number-beside _ _ (number-same v b.same)) b)
  statement-follows script rec other_rec at (Statement-F.SetNull p) st other k keeps b =
      with_pointer-follows budget further p _ _ b (λ _ _ _. both_end same_plain (set_pointer-beside budget further p (null-beside b.renamed) b))
  statement-follows script rec other_rec at (Statement-F.Add x v) st other k keeps b =
      let sum = ap_two ◌+ℤ◌ (number-same (Variable x) b.same) (number-same v b.same) in
      require-follows budget further _ _ _ _ _ (ap in_range sum) b (both_end same_plain (set_local-beside budget further x (number-beside _ _ sum) b))
  statement-follows script rec other_rec at (Statement-F.Push p) st other k keeps b = with_pointer-follows budget further p _ _ b (λ q r s. push-follows budget further (same_free s) b)
  statement-follows script rec other_rec at (Statement-F.PushObject p) st other k keeps b = with_pointer-follows budget further p _ _ b (λ q r s. push-follows budget further (same_delete s) b)
  statement-follows script rec other_rec at (Statement-F.PushOperation p op) st other k keeps b = with_pointer-follows budget further p _ _ b (λ q r s. push-follows budget further (same_call op s) b)
  statement-follows script rec other_rec at (Statement-F.Pop v) st other k keeps b =
      number-follows not_negative v _ _ _ b (λ n. require-follows budget further _ _ _ _ _ (ap (nat_le (at.floor + n)) (length-beside b.same.items)) b (both_end same_plain (dropped-beside n b)))
  statement-follows {w = w} script rec other_rec at (Statement-F.PopDestroy v) st other k keeps b =
      number-follows not_negative v _ _ _ b (λ n. require-follows budget further _ _ _ _ _ (ap (nat_le (at.floor + n)) (length-beside b.same.items)) b (k w at _ _ st other (same_items n) b))
  statement-follows {w = w} script rec other_rec at (Statement-F.PopCheck p) st other k keeps b =
      with_pointer-follows budget further p _ _ b (λ q r s. require-follows budget further _ _ _ _ _ (ap (nat_le (at.floor + 1)) (length-beside b.same.items)) b
      (with_some-follows budget further (IsSameItem w.names) _ _ _ (newest-beside b.same.items) b (λ i j t.
      require-follows budget further _ _ _ _ _ (pointer-test b.renamed (item_pointer-beside t) s) b (both_end same_plain (dropped-beside 1 b)))))
  statement-follows script rec other_rec at (Statement-F.Leave v) st other k keeps b = both_end (leave-beside _ _ (number-same v b.same)) b
  statement-follows script rec other_rec at (Statement-F.LeaveIfError v) st other k keeps b =
      let code = number-same v b.same in leave_if-follows budget further _ _ _ _ (ap (λ z. int_lt z (pos 0)) code) code b
  statement-follows script rec other_rec at (Statement-F.LeaveIfNull p) st other k keeps b = with_pointer-follows budget further p _ _ b (λ q r s. leave_if-follows budget further _ _ _ _ (null-test b.renamed s) refl b)
  statement-follows {w = w} script rec other_rec at (Statement-F.Call n args) st other k keeps b =
      with_arguments-follows budget further args _ _ b (λ vs us given. in_frame-follows budget further rec other_rec at _ _ _ k (null-beside b.renamed) given b (runs_out w) runs_out-past)
  statement-follows script rec other_rec at (Statement-F.CallTo x n args) st other k keeps b =
      with_arguments-follows budget further args _ _ b (λ vs us given. in_frame-follows budget further rec other_rec at _ _ _ k (null-beside b.renamed) given b
      (λ v way other_way st other e s c. plain-follows budget further _ _ s c (λ p q t. both_end same_plain (set_local-beside budget further x (same_pointer t) c)))
      (λ way st late. plain-past budget further _ way st late (λ p. record { past = late.past; within = late.within })))
  statement-follows script rec other_rec at Statement-F.Return st other k keeps b = both_end (same_return (null-beside b.renamed)) b
  statement-follows script rec other_rec at (Statement-F.ReturnPointer p) st other k keeps b = with_pointer-follows budget further p _ _ b (λ q r s. both_end (same_return s) b)
  statement-follows script rec other_rec at Statement-F.Mark st other k keeps b = both_end same_plain (set_heap-beside budget further (mark-beside b.same.heap) b)
  statement-follows script rec other_rec at (Statement-F.MarkEnd v) st other k keeps b =
      number-follows not_negative v _ _ _ b (λ n. unless-follows budget further _ _ _ _ (mark_end-check n b.same.heap) b (both_end same_plain (set_heap-beside budget further (mark_end-beside b.same.heap) b)))
  statement-follows script rec other_rec at (Statement-F.Check v) st other k keeps b =
      number-follows not_negative v _ _ _ b (λ n. unless-follows budget further _ _ _ _ (level-check n b.same.heap) b (both_end same_plain b))
  statement-follows script rec other_rec at (Statement-F.CheckAll v) st other k keeps b =
      number-follows not_negative v _ _ _ b (λ n. unless-follows budget further _ _ _ _ (all_levels-check n b.same.heap) b (both_end same_plain b))
  statement-follows script rec other_rec at (Statement-F.FailNext v) st other k keeps b = number-follows at_least_one v _ _ _ b (λ n. both_end same_plain (setting-beside (next n) b))
  statement-follows script rec other_rec at (Statement-F.FailEvery v) st other k keeps b = number-follows at_least_one v _ _ _ b (λ n. both_end same_plain (setting-beside (each n n) b))
  statement-follows script rec other_rec at Statement-F.FailNone st other k keeps b = both_end same_plain (setting-beside never b)
  statement-follows script rec other_rec at (Statement-F.NewText p v r) st other k keeps b =
      with_pointer-follows budget further p _ _ b (λ _ _ _. number-follows (within MOST_UNITS) v _ _ _ b (λ n.
      allocate-follows budget further _ _ _ _ _ (same_units []) b (λ v o q st other x s c. given_to-follows budget further p r s c)))
  statement-follows script rec other_rec at (Statement-F.ReallocText p q v) st other k keeps b =
      with_pointer-follows budget further p _ _ b (λ _ _ _. with_pointer-follows budget further q _ _ b (λ old new s. with_cell-follows budget further _ _ s b (λ c d t.
      with_same-follows budget further _ _ _ _ _ (units-same t) b (λ us. number-follows (within MOST_UNITS) v _ _ _ b (λ n.
      require-follows budget further _ _ _ _ _ refl b (reallocate-follows budget further _ _ _ _ refl t b b (λ v o q st other x s c. given_to-follows budget further p GivesNull s c)))))))
  statement-follows script rec other_rec at (Statement-F.Copy d t) st other k keeps b =
      with_writable-follows budget further d _ _ b (λ x y s. with_readable-follows budget further t _ _ b (λ from other_from f.
      with_room-follows budget further _ _ s b (λ max old. with_units-follows budget further script.literals _ _ f b (λ us. write-follows budget further _ _ s b))))
  statement-follows script rec other_rec at (Statement-F.Append d t) st other k keeps b =
      with_writable-follows budget further d _ _ b (λ x y s. with_readable-follows budget further t _ _ b (λ from other_from f.
      with_room-follows budget further _ _ s b (λ max old. with_units-follows budget further script.literals _ _ f b (λ us. write-follows budget further _ _ s b))))
  statement-follows script rec other_rec at (Statement-F.Insert d v t) st other k keeps b =
      with_writable-follows budget further d _ _ b (λ x y s. with_readable-follows budget further t _ _ b (λ from other_from f.
      with_room-follows budget further _ _ s b (λ max old. with_units-follows budget further script.literals _ _ f b (λ us.
      number-follows not_negative v _ _ _ b (λ n. require-follows budget further _ _ _ _ _ (ap not (source-test b.renamed s f)) b (write-follows budget further _ _ s b))))))
  statement-follows script rec other_rec at (Statement-F.DeleteText d v u) st other k keeps b =
      with_writable-follows budget further d _ _ b (λ x y s. with_room-follows budget further _ _ s b (λ max old.
      number-follows not_negative v _ _ _ b (λ n. number-follows not_negative u _ _ _ b (λ m. write-follows budget further _ _ s b))))
  statement-follows script rec other_rec at (Statement-F.SetLength d v) st other k keeps b =
      with_writable-follows budget further d _ _ b (λ x y s. with_room-follows budget further _ _ s b (λ max old. number-follows not_negative v _ _ _ b (λ n. write-follows budget further _ _ s b)))
  statement-follows script rec other_rec at (Statement-F.Left x t v) st other k keeps b =
      with_readable-follows budget further t _ _ b (λ from other_from f. with_units-follows budget further script.literals _ _ f b (λ us.
      number-follows not_negative v _ _ _ b (λ n. write_view-follows budget further _ x f b)))
  statement-follows script rec other_rec at (Statement-F.Right x t v) st other k keeps b =
      with_readable-follows budget further t _ _ b (λ from other_from f. with_units-follows budget further script.literals _ _ f b (λ us.
      number-follows not_negative v _ _ _ b (λ n. write_view-follows budget further _ x f b)))
  statement-follows script rec other_rec at (Statement-F.Mid x t v u) st other k keeps b =
      with_readable-follows budget further t _ _ b (λ from other_from f. with_units-follows budget further script.literals _ _ f b (λ us.
      number-follows not_negative v _ _ _ b (λ n. number-follows not_negative u _ _ _ b (λ m. write_view-follows budget further _ x f b))))
  statement-follows script rec other_rec at (Statement-F.GetLength x t) st other k keeps b =
      with_readable-follows budget further t _ _ b (λ from other_from f. with_units-follows budget further script.literals _ _ f b (λ us. both_end same_plain (set_local-beside budget further x (same_number _) b)))
  statement-follows script rec other_rec at (Statement-F.GetMaximum x d) st other k keeps b =
      with_writable-follows budget further d _ _ b (λ y z s. with_room-follows budget further _ _ s b (λ max us. both_end same_plain (set_local-beside budget further x (same_number _) b)))
  statement-follows script rec other_rec at (Statement-F.PrintText t) st other k keeps b =
      with_readable-follows budget further t _ _ b (λ from other_from f. with_units-follows budget further script.literals _ _ f b (λ us. both_end same_plain (printed-beside _ _ b)))
  statement-follows script rec other_rec at (Statement-F.PrintNumber v) st other k keeps b = both_end same_plain (printed-beside _ _ b)
  statement-follows script rec other_rec at Statement-F.NoteHeap st other k keeps b = both_note (both_end same_plain b)
  statement-follows script rec other_rec at Statement-F.NoteAvailable st other k keeps b = both_note (both_end same_plain b)
  statement-follows script rec other_rec at Statement-F.NoteCompress st other k keeps b = both_note (both_end same_plain b)
  statement-follows {w = w} script rec other_rec at (Statement-F.If c first) st other k keeps b = with_condition-follows budget further c _ _ b (λ holds. k w at _ _ st other (same_statements _) b)
  statement-follows {w = w} script rec other_rec at (Statement-F.IfElse c first second) st other k keeps b = with_condition-follows budget further c _ _ b (λ holds. k w at _ _ st other (same_statements _) b)
  statement-follows {w = w} script rec other_rec at (Statement-F.Repeat v body) st other k keeps b = number-follows (within MOST_TURNS) v _ _ _ b (λ n. k w at _ _ st other (same_turns n body) b)
  statement-follows {w = w} script rec other_rec at (Statement-F.Trap x body) st other k keeps b =
      let entry = length st.items in
      given-same budget further (λ (n : ℕ). and_then (rec (record at { floor = n }) (all body) st) (trapped rec at x n))
      (λ (n : ℕ). and_then (other_rec (record at { floor = n }) (all body) other) (trapped other_rec at x n)) entry (length other.items) (length-beside b.same.items)
      (and_then-follows budget further (trapped rec at x entry) (trapped other_rec at x entry) (k w (record at { floor = entry }) _ _ st other (same_statements body) b)
      (λ v way other_way after other_after e s c. trapped-follows budget further rec other_rec at x entry entry refl k s c)
      (λ way after late. past-of script budget further [] _ (trapped-alike (lateness script budget further) rec rec at x entry way after keeps (fine script budget further late)).1))
