-- Each statement in states that are the same but for partners, where what is inside goes alike.
use Rattle.std.proofs.Common.{◌≡◌, ℕ, ℤ, zero, suc, ◌+◌, ◌-◌, ◌+ℤ◌, true, List, [], ◌∷◌, ◌++◌, length, take, replicate, refl, sym, ap, ◌∙◌, subst, Option}
use Rattle.std.specs.Prelude.{nat_le, int_lt, pos, slice_get, slice_set}
use Rattle.std.specs.Fmt.{signed_decimal}
use Rattle.wb_heap_model.specs.declared.heap.Item.{Item}
use Rattle.wb_heap_model.specs.declared.heap.Panic.{Panic}
use Rattle.wb_basics.specs.declared.limits.TheConstants.{LARGEST_REQUEST, MOST_TURNS, MOST_UNITS}
use Rattle.wb_tree.specs.declared.script.Number.{Number}
use Rattle.wb_tree.specs.declared.script.Number.TheVariants.{Variable}
use Rattle.wb_tree.specs.declared.script.Refusal.TheVariants.{GivesNull}
use Rattle.wb_tree.specs.declared.script.Script.{Script}
use Rattle.wb_tree.specs.declared.script.Statement.TheOpen.{Statement-F}
use Rattle.wb_heap_model.specs.Rules.{Setting, never, next, each}
use Rattle.wb_meaning.specs.Operands.{number_of, within, not_negative}
use Rattle.wb_heap_model.specs.Contents.{words}
use Rattle.wb_meaning.specs.State.{number, State, leaves, Process, and_then, with_some}
use Rattle.wb_heap_model.specs.Pointers.{null, newest, item_pointer}
use Rattle.wb_meaning.specs.Statements.{all, done, drop_newest, index_in, in_range, at_least_one, plain, set_setting, new_object, realloc_text, Context, Meaning, Layer, trapped, statement}
use Rattle.wb_renaming.specs.SameButNumbers.{AllBeside, none_beside, one_beside}
use Rattle.wb_renaming.proofs.SameNumbers.{ap_two, length-beside, take-beside, BothSome, get-beside}
use Rattle.wb_placings.proofs.Partners.{PointerPairs, Stands, Partners, ArePartners, IsSameContent, same_words, same_fields, same_units, IsSameItem, same_free, same_delete, same_call, IsSameValue, same_pointer, same_number, IsSameWay, same_plain, same_return, same_leave, same_statements, same_turns, same_items}
use Rattle.wb_placings.proofs.PlacedHeaps.{IsSameHeap, mark-same, mark_end-same, all_levels-passed, level-passed, mark_end-passed}
use Rattle.wb_placings.proofs.PlacedProcesses.{IsBeside, GoesAlike, both_end, both_note, if_found, is_object, AreFound, cell_at-found, units-same, number-same, set_heap-beside, set_local-beside, changed_cell-beside, set_pointer-beside, GoesOn, and_then-alike, require-alike, with_some-alike, given-same, with_same-alike, unless-alike, with_cell-alike, with_pointer-alike}
use Rattle.wb_placings.proofs.PlacedAttempts.{allocate-alike, reallocate-alike, goes-to_target, push-alike, alloc_raw-alike, text-plain, realloc_of-alike}
use Rattle.wb_placings.proofs.PlacedTexts.{pointers-equal, source-apart, release-alike, with_words-alike, with_class-alike, with_writable-alike, with_readable-alike, with_units-alike, with_room-alike, write-alike, write_view-alike}
use Rattle.wb_placings.proofs.PlacedFrames.{AllGoAlike, plain-alike, in_frame-alike, with_arguments-alike, destroyed_object-alike, trapped-alike, with_condition-alike, leave_if-alike}

-- equal numbers, words and codes
module _ {pairs : PointerPairs} where
  number-value : (y z : ℤ) → z ≡ y → IsSameValue pairs (number y) (number z)
  number-value y z e = subst (λ x. IsSameValue pairs (number y) (number x)) (sym e) (same_number y)

  words-content : (us ws : List ℤ) → ws ≡ us → IsSameContent pairs (words us) (words ws)
  words-content us ws e = subst (λ x. IsSameContent pairs (words us) (words x)) (sym e) (same_words us)

  leave-way : (y z : ℤ) → z ≡ y → IsSameWay pairs (leaves y) (leaves z)
  leave-way y z e = subst (λ x. IsSameWay pairs (leaves y) (leaves x)) (sym e) (same_leave y)

  item_pointer-same : {i j : Item} → IsSameItem pairs i j → Stands pairs (item_pointer i) (item_pointer j)
  item_pointer-same (same_free s) = s
  item_pointer-same (same_delete s) = s
  item_pointer-same (same_call operation s) = s

  pub newest-same : {is js : List Item} → AllBeside (IsSameItem pairs) is js → BothSome (IsSameItem pairs) (newest is) (newest js)
  newest-same {is = is} {js = js} same =
      subst (λ n. BothSome (IsSameItem pairs) (newest is) (slice_get js (n - 1))) (sym (length-beside same)) (get-beside (length is - 1) same)

nulls-same : {w : Partners} → ArePartners w → (n : ℕ) → AllBeside (Stands w.pairs) (replicate n null) (replicate n null)
nulls-same is zero = none_beside
nulls-same is (suc n) = one_beside is.null (nulls-same is n)

pub dropped-beside : {w : Partners} {st other : State} (n : ℕ) → IsBeside w st other → IsBeside w (drop_newest n st) (drop_newest n other)
dropped-beside {w = w} {st = st} {other = other} n b = record {
  partners = b.partners;
  heap = b.heap;
  cleanup = b.cleanup;
  items = subst (λ m. AllBeside (IsSameItem w.pairs) (take (length st.items - n) st.items) (take (m - n) other.items)) (sym (length-beside b.items))
      (take-beside (length st.items - n) b.items);
  slots = b.slots;
  frame = b.frame;
  lines = b.lines;
  steps = b.steps;
}

printed-beside : {w : Partners} {st other : State} (line other_line : List ℕ) → other_line ≡ line → IsBeside w st other →
    IsBeside w (record st { lines = st.lines ++ line ∷ [] }) (record other { lines = other.lines ++ other_line ∷ [] })
printed-beside line other_line e b = record {
  partners = b.partners;
  heap = b.heap;
  cleanup = b.cleanup;
  items = b.items;
  slots = b.slots;
  frame = b.frame;
  lines = ap_two (λ (ls : List (List ℕ)) (l : List ℕ). ls ++ l ∷ []) b.lines e;
  steps = b.steps;
}

setting-beside : {w : Partners} {st other : State} (setting : Setting) → IsBeside w st other → IsBeside w (set_setting st setting) (set_setting other setting)
setting-beside {w = w} {st = st} {other = other} setting b =
    let heap : IsSameHeap w (record st.heap { setting = setting }) (record other.heap { setting = setting }) =
    record { rows = b.heap.rows; level = b.heap.level; setting = refl; moving = b.heap.moving } in
    set_heap-beside heap b

number-alike : {w : Partners} {st other : State} (f : ℤ → Option ℕ) (v : Number) (panic : Panic) (go other_go : ℕ → Process) → IsBeside w st other →
    ((n : ℕ) → GoesAlike w (go n) (other_go n)) →
    GoesAlike w (with_some (f (number_of st v)) panic st go) (with_some (f (number_of other v)) panic other other_go)
number-alike f v panic go other_go b k = with_same-alike _ _ panic go other_go (ap f (number-same b v)) b (λ n _. k n)

-- so many items are above the entry of a TRAP
above-too : {w : Partners} {st other : State} (least : ℕ) → IsBeside w st other → nat_le least (length st.items) ≡ true → nat_le least (length other.items) ≡ true
above-too least b e = ap (nat_le least) (length-beside b.items) ∙ e

-- a body that runs out, or returns, goes on
runs_out : (w : Partners) → GoesOn w (plain (λ _ st. done st)) (plain (λ _ st. done st))
runs_out w v way other_way st other x s c = plain-alike _ _ s c (λ p q t. both_end same_plain c)

pub statement-alike : {w : Partners} (script : Script) (rec other_rec : Meaning) (at : Context) (s : Layer) (st other : State) → AllGoAlike rec other_rec → IsBeside w st other →
    GoesAlike w (statement script rec at s st) (statement script other_rec at s other)
unfolding statement new_object realloc_text
statement-alike script rec other_rec at (Statement-F.Alloc p v r) st other k b =
    with_pointer-alike p _ _ b (λ _ _ _ can. number-alike (within LARGEST_REQUEST) v _ _ _ b (λ n. alloc_raw-alike p r n can b))
statement-alike script rec other_rec at (Statement-F.Realloc p q v r) st other k b =
    with_pointer-alike p _ _ b (λ _ _ _ can. with_pointer-alike q _ _ b (λ old new s _.
    realloc_of-alike _ _ p r _ _ (b.partners.nulls old new s) (number-same b v) s can b))
statement-alike script rec other_rec at (Statement-F.Free p) st other k b = with_pointer-alike p _ _ b (λ q r s _. release-alike s b)
statement-alike {w} script rec other_rec at (Statement-F.AllocLen x p) st other k b =
    with_pointer-alike p _ _ b (λ q r s _. with_some-alike (AreFound w st other q) _ _ _ (cell_at-found s b) b (λ c d t.
    both_end same_plain (set_local-beside x (number-value _ _ (ap (λ (l : ℕ). pos (l - 16)) t.cells.same.head.length)) b)))
statement-alike script rec other_rec at (Statement-F.Store p i v) st other k b =
    with_pointer-alike p _ _ b (λ q r s _. with_words-alike _ _ s b (λ c d ws t.
    with_same-alike _ _ _ _ _ (ap_two index_in (ap (λ (l : ℕ). l - 16) t.cells.same.head.length) (number-same b i)) b (λ n _.
    both_end same_plain (changed_cell-beside (λ _. words (slice_set ws n (number_of st v))) (λ _. words (slice_set ws n (number_of other v)))
    (λ _ _ _. words-content _ _ (ap (slice_set ws n) (number-same b v))) s (c, t.at) b))))
statement-alike script rec other_rec at (Statement-F.Load x p i) st other k b =
    with_pointer-alike p _ _ b (λ q r s _. with_words-alike _ _ s b (λ c d ws t.
    with_same-alike _ _ _ _ _ (ap_two index_in (ap (λ (l : ℕ). l - 16) t.cells.same.head.length) (number-same b i)) b (λ n _.
    both_end same_plain (set_local-beside x (same_number _) b))))
statement-alike {w} script rec other_rec at (Statement-F.New p class r) st other k b =
    with_pointer-alike p _ _ b (λ _ _ _ can. allocate-alike _ _ _ _ _ (same_fields (nulls-same b.partners _)) b (goes-to_target w st other _ p r refl can))
statement-alike {w = w} script rec other_rec at (Statement-F.Construct p) st other k b =
    with_pointer-alike p _ _ b (λ q r s _. with_class-alike _ _ s b (λ class. in_frame-alike rec other_rec at _ _ _ k s none_beside b (runs_out w)))
statement-alike script rec other_rec at (Statement-F.Delete p) st other k b =
    with_pointer-alike p _ _ b (λ q r s _. destroyed_object-alike rec other_rec at _ _ (b.partners.nulls q r s) k s b)
statement-alike script rec other_rec at (Statement-F.Set p q) st other k b =
    with_pointer-alike p _ _ b (λ _ _ _ can. with_pointer-alike q _ _ b (λ x y s _. both_end same_plain (set_pointer-beside p can s b)))
statement-alike script rec other_rec at (Statement-F.SetNumber x v) st other k b = both_end same_plain (set_local-beside x (number-value _ _ (number-same b v)) b)
statement-alike script rec other_rec at (Statement-F.SetNull p) st other k b =
    with_pointer-alike p _ _ b (λ _ _ _ can. both_end same_plain (set_pointer-beside p can b.partners.null b))
statement-alike script rec other_rec at (Statement-F.Add x v) st other k b =
    let sum = ap_two ◌+ℤ◌ (number-same b (Variable x)) (number-same b v) in
    require-alike _ _ _ _ _ (λ e. ap in_range sum ∙ e) (λ _. both_end same_plain (set_local-beside x (number-value _ _ sum) b))
statement-alike script rec other_rec at (Statement-F.Push p) st other k b = with_pointer-alike p _ _ b (λ q r s _. push-alike (same_free s) b)
statement-alike script rec other_rec at (Statement-F.PushObject p) st other k b = with_pointer-alike p _ _ b (λ q r s _. push-alike (same_delete s) b)
statement-alike script rec other_rec at (Statement-F.PushOperation p op) st other k b = with_pointer-alike p _ _ b (λ q r s _. push-alike (same_call op s) b)
statement-alike script rec other_rec at (Statement-F.Pop v) st other k b =
    number-alike not_negative v _ _ _ b (λ n. require-alike _ _ _ _ _ (above-too (at.floor + n) b) (λ _. both_end same_plain (dropped-beside n b)))
statement-alike {w = w} script rec other_rec at (Statement-F.PopDestroy v) st other k b =
    number-alike not_negative v _ _ _ b (λ n. require-alike _ _ _ _ _ (above-too (at.floor + n) b) (λ _. k w at _ _ st other (same_items n) b))
statement-alike {w = w} script rec other_rec at (Statement-F.PopCheck p) st other k b =
    with_pointer-alike p _ _ b (λ q r s _. require-alike _ _ _ _ _ (above-too (at.floor + 1) b) (λ _.
    with_some-alike (IsSameItem w.pairs) _ _ _ (if_found (newest-same b.items)) b (λ i j t.
    require-alike _ _ _ _ _ (pointers-equal b (item_pointer-same t) s) (λ _. both_end same_plain (dropped-beside 1 b)))))
statement-alike script rec other_rec at (Statement-F.Leave v) st other k b = both_end (leave-way _ _ (number-same b v)) b
statement-alike script rec other_rec at (Statement-F.LeaveIfError v) st other k b =
    let code = number-same b v in leave_if-alike _ _ _ _ (ap (λ z. int_lt z (pos 0)) code) code b
statement-alike script rec other_rec at (Statement-F.LeaveIfNull p) st other k b = with_pointer-alike p _ _ b (λ q r s _. leave_if-alike _ _ _ _ (b.partners.nulls q r s) refl b)
statement-alike {w = w} script rec other_rec at (Statement-F.Call n args) st other k b =
    with_arguments-alike args _ _ b (λ vs us given. in_frame-alike rec other_rec at _ _ _ k b.partners.null given b (runs_out w))
statement-alike script rec other_rec at (Statement-F.CallTo x n args) st other k b =
    with_arguments-alike args _ _ b (λ vs us given. in_frame-alike rec other_rec at _ _ _ k b.partners.null given b
    (λ v way other_way st other e s c. plain-alike _ _ s c (λ p q t. both_end same_plain (set_local-beside x (same_pointer t) c))))
statement-alike script rec other_rec at Statement-F.Return st other k b = both_end (same_return b.partners.null) b
statement-alike script rec other_rec at (Statement-F.ReturnPointer p) st other k b = with_pointer-alike p _ _ b (λ q r s _. both_end (same_return s) b)
statement-alike script rec other_rec at Statement-F.Mark st other k b = both_end same_plain (set_heap-beside (mark-same b.heap) b)
statement-alike script rec other_rec at (Statement-F.MarkEnd v) st other k b =
    number-alike not_negative v _ _ _ b (λ n. unless-alike _ _ _ _ (mark_end-passed b.heap n) (both_end same_plain (set_heap-beside (mark_end-same b.heap) b)))
statement-alike script rec other_rec at (Statement-F.Check v) st other k b =
    number-alike not_negative v _ _ _ b (λ n. unless-alike _ _ _ _ (level-passed b.heap n) (both_end same_plain b))
statement-alike script rec other_rec at (Statement-F.CheckAll v) st other k b =
    number-alike not_negative v _ _ _ b (λ n. unless-alike _ _ _ _ (all_levels-passed b.heap n) (both_end same_plain b))
statement-alike script rec other_rec at (Statement-F.FailNext v) st other k b = number-alike at_least_one v _ _ _ b (λ n. both_end same_plain (setting-beside (next n) b))
statement-alike script rec other_rec at (Statement-F.FailEvery v) st other k b = number-alike at_least_one v _ _ _ b (λ n. both_end same_plain (setting-beside (each n n) b))
statement-alike script rec other_rec at Statement-F.FailNone st other k b = both_end same_plain (setting-beside never b)
statement-alike {w} script rec other_rec at (Statement-F.NewText p v r) st other k b =
    with_pointer-alike p _ _ b (λ _ _ _ can. number-alike (within MOST_UNITS) v _ _ _ b (λ n.
    allocate-alike _ _ _ _ _ (same_units []) b (goes-to_target w st other _ p r refl can)))
statement-alike {w} script rec other_rec at (Statement-F.ReallocText p q v) st other k b =
    with_pointer-alike p _ _ b (λ _ _ _ can. with_pointer-alike q _ _ b (λ old new s _. with_cell-alike _ _ s b (λ c d t.
    with_same-alike _ _ _ _ _ (units-same t.cells.same) b (λ us text. number-alike (within MOST_UNITS) v _ _ _ b (λ n.
    require-alike _ _ _ _ _ (λ e. e) (λ _.
    reallocate-alike st other _ _ _ _ refl t.cells b (goes-to_target w st other (is_object c.head.kind) p GivesNull (text-plain c.head.kind c.content us text) can)))))))
statement-alike script rec other_rec at (Statement-F.Copy d t) st other k b =
    with_writable-alike d _ _ b (λ x y s. with_readable-alike t _ _ b (λ from other_from f.
    with_room-alike _ _ s b (λ max old live. with_units-alike script.literals _ _ f b (λ us _. write-alike _ _ s live b))))
statement-alike script rec other_rec at (Statement-F.Append d t) st other k b =
    with_writable-alike d _ _ b (λ x y s. with_readable-alike t _ _ b (λ from other_from f.
    with_room-alike _ _ s b (λ max old live. with_units-alike script.literals _ _ f b (λ us _. write-alike _ _ s live b))))
statement-alike script rec other_rec at (Statement-F.Insert d v t) st other k b =
    with_writable-alike d _ _ b (λ x y s. with_readable-alike t _ _ b (λ from other_from f.
    with_room-alike _ _ s b (λ max old live. with_units-alike script.literals _ _ f b (λ us seen.
    number-alike not_negative v _ _ _ b (λ n. require-alike _ _ _ _ _ (source-apart b s f live seen) (λ _. write-alike _ _ s live b))))))
statement-alike script rec other_rec at (Statement-F.DeleteText d v u) st other k b =
    with_writable-alike d _ _ b (λ x y s. with_room-alike _ _ s b (λ max old live.
    number-alike not_negative v _ _ _ b (λ n. number-alike not_negative u _ _ _ b (λ m. write-alike _ _ s live b))))
statement-alike script rec other_rec at (Statement-F.SetLength d v) st other k b =
    with_writable-alike d _ _ b (λ x y s. with_room-alike _ _ s b (λ max old live. number-alike not_negative v _ _ _ b (λ n. write-alike _ _ s live b)))
statement-alike script rec other_rec at (Statement-F.Left x t v) st other k b =
    with_readable-alike t _ _ b (λ from other_from f. with_units-alike script.literals _ _ f b (λ us _.
    number-alike not_negative v _ _ _ b (λ n. write_view-alike _ x f b)))
statement-alike script rec other_rec at (Statement-F.Right x t v) st other k b =
    with_readable-alike t _ _ b (λ from other_from f. with_units-alike script.literals _ _ f b (λ us _.
    number-alike not_negative v _ _ _ b (λ n. write_view-alike _ x f b)))
statement-alike script rec other_rec at (Statement-F.Mid x t v u) st other k b =
    with_readable-alike t _ _ b (λ from other_from f. with_units-alike script.literals _ _ f b (λ us _.
    number-alike not_negative v _ _ _ b (λ n. number-alike not_negative u _ _ _ b (λ m. write_view-alike _ x f b))))
statement-alike script rec other_rec at (Statement-F.GetLength x t) st other k b =
    with_readable-alike t _ _ b (λ from other_from f. with_units-alike script.literals _ _ f b (λ us _. both_end same_plain (set_local-beside x (same_number _) b)))
statement-alike script rec other_rec at (Statement-F.GetMaximum x d) st other k b =
    with_writable-alike d _ _ b (λ y z s. with_room-alike _ _ s b (λ max us _. both_end same_plain (set_local-beside x (same_number _) b)))
statement-alike script rec other_rec at (Statement-F.PrintText t) st other k b =
    with_readable-alike t _ _ b (λ from other_from f. with_units-alike script.literals _ _ f b (λ us _. both_end same_plain (printed-beside _ _ refl b)))
statement-alike script rec other_rec at (Statement-F.PrintNumber v) st other k b = both_end same_plain (printed-beside _ _ (ap signed_decimal (number-same b v)) b)
statement-alike script rec other_rec at Statement-F.NoteHeap st other k b = both_note (both_end same_plain b)
statement-alike script rec other_rec at Statement-F.NoteAvailable st other k b = both_note (both_end same_plain b)
statement-alike script rec other_rec at Statement-F.NoteCompress st other k b = both_note (both_end same_plain b)
statement-alike {w = w} script rec other_rec at (Statement-F.If c first) st other k b = with_condition-alike c _ _ b (λ holds. k w at _ _ st other (same_statements _) b)
statement-alike {w = w} script rec other_rec at (Statement-F.IfElse c first second) st other k b = with_condition-alike c _ _ b (λ holds. k w at _ _ st other (same_statements _) b)
statement-alike {w = w} script rec other_rec at (Statement-F.Repeat v body) st other k b = number-alike (within MOST_TURNS) v _ _ _ b (λ n. k w at _ _ st other (same_turns n body) b)
statement-alike {w = w} script rec other_rec at (Statement-F.Trap x body) st other k b =
    let entry = length st.items in
    given-same (λ (n : ℕ). and_then (rec (record at { floor = n }) (all body) st) (trapped rec at x n))
    (λ (n : ℕ). and_then (other_rec (record at { floor = n }) (all body) other) (trapped other_rec at x n)) entry (length other.items) (length-beside b.items)
    (and_then-alike (trapped rec at x entry) (trapped other_rec at x entry) (k w (record at { floor = entry }) _ _ st other (same_statements body) b)
    (λ v way other_way after other_after e s c. trapped-alike rec other_rec at x entry entry refl k s c))
