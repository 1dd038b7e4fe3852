-- What holds of each statement, with a case for each: it keeps a lasting fact, and is alike where the meanings of what is inside
-- are; it keeps a slot of the cleanup stack free; and one that cannot leave asks for no attempt.
use Rattle.std.proofs.Common.{ℕ, Bool, true, false, List, [], length, refl, suc, arith, ◌&&◌, IsTrue}
use Rattle.std.specs.Fmt.{signed_decimal}
use Rattle.std.proofs.lemmas.List.{length-replicate}
use Rattle.wb_tree.specs.declared.script.Script.{Script}
use Rattle.wb_tree.specs.declared.script.Statement.TheOpen.{Statement-F}
use Rattle.wb_tree.specs.Bodies.{class_at}
use Rattle.wb_heap_model.specs.Rules.{never, next, each}
use Rattle.wb_heap_model.specs.Pointers.{null}
use Rattle.wb_meaning.specs.State.{State, and_then}
use Rattle.wb_meaning.specs.Operands.{number_of}
use Rattle.wb_heap_model.specs.Texts.{printed}
use Rattle.wb_meaning.specs.Statements.{new_object, Context, Meaning, Layer, trapped, realloc_text, statement, all, turns, choice}
use Rattle.wb_meaning.proofs.AlikeLemmas.{Lasting, Fine, Alike, AlikeAll, and_then-alike, require-alike, with_some-alike, unless-alike, with_cell-alike, with_pointer-alike, set_pointer-fine, stored-fine, given_to-alike, allocate-alike, reallocate-alike, push-alike, with_writable-alike, with_readable-alike, with_units-alike, with_room-alike, write-alike, write_view-alike, release-alike, with_words-alike, with_class-alike}
use Rattle.wb_meaning.proofs.PrintableLemmas.{printed-printable, signed_decimal-printable}
use Rattle.wb_meaning.proofs.FreeSlots.{HasFree, KeepsFree, fewer, and_then-free, require-free, with_some-free, unless-free, with_cell-free, with_pointer-free, with_words-free, with_class-free, with_condition-free, with_arguments-free, with_writable-free, with_readable-free, with_units-free, with_room-free, write-free, write_view-free, set_pointer-free, given_to-free, allocate-free, reallocate-free, push-free, release-free, leave_if-free, alloc_raw-free, realloc_of-free, plain-free, KeepsAll, dropped-free, inside, in_frame-free, destroyed_object-free, trapped-free}
use Rattle.std.proofs.lemmas.Bool.{false≢true}
use Rattle.wb_tree.specs.declared.script.Refusal.TheVariants.{GivesNull, Leaves}
use Rattle.wb_tree.specs.QuietLines as kinds
use Rattle.wb_tree.specs.Spellings.{condition_spelling}
use Rattle.wb_tree.specs.Quiet.{is_quiet_statement, are_quiet}
use Rattle.wb_meaning.specs.Destructions.{GoesOnWith}
use Rattle.wb_meaning.proofs.AlikeFrames.{plain-alike, in_frame-alike, with_arguments-alike, destroyed_object-alike, trapped-alike, with_condition-alike, leave_if-alike, alloc_raw-alike, realloc_of-alike}
use Rattle.wb_meaning.proofs.QuietWays.{both, require-goes, with_some-goes, with_pointer-goes, with_words-goes, with_condition-goes, with_readable-goes, with_units-goes, release-goes, set_pointer-items, GoesOn, destroyed_object-goes}

module _ (L : Lasting) where
  pub statement-alike : {ns : List ℕ} (rec rec' : Meaning) (at : Context) (s : Layer) (st : State) → AlikeAll L rec rec' → Fine L ns st → Alike L ns (statement L.script rec at s st) (statement L.script rec' at s st)
  unfolding statement new_object realloc_text
  statement-alike rec rec' at (Statement-F.Alloc p v r) st k f = with_pointer-alike L _ _ _ _ f (λ _. with_some-alike L _ _ _ _ _ f (λ n _. alloc_raw-alike L _ _ _ _ f))
  statement-alike rec rec' at (Statement-F.Realloc p q v r) st k f = with_pointer-alike L _ _ _ _ f (λ _. with_pointer-alike L _ _ _ _ f (λ old. realloc_of-alike L _ _ _ _ _ _ f))
  statement-alike rec rec' at (Statement-F.Free p) st k f = with_pointer-alike L _ _ _ _ f (λ q. release-alike L _ _ f)
  statement-alike rec rec' at (Statement-F.AllocLen x p) st k f = with_pointer-alike L _ _ _ _ f (λ q. with_some-alike L _ _ _ _ _ f (λ c _. (refl, f)))
  statement-alike rec rec' at (Statement-F.Store p i v) st k f =
      with_pointer-alike L _ _ _ _ f (λ q. with_words-alike L _ _ _ _ f (λ c ws e w. with_some-alike L _ _ _ _ _ f (λ n _. (refl, stored-fine L st q c ws _ e w f))))
  statement-alike rec rec' at (Statement-F.Load x p i) st k f = with_pointer-alike L _ _ _ _ f (λ q. with_words-alike L _ _ _ _ f (λ c ws e w. with_some-alike L _ _ _ _ _ f (λ n _. (refl, f))))
  statement-alike rec rec' at (Statement-F.New p class r) st k f =
      let suits = length-replicate (length (class_at L.script class).fields) null in
      with_pointer-alike L _ _ _ _ f (λ _. allocate-alike L _ _ _ _ _ _ suits f (λ ns o st f. given_to-alike L _ _ o st f))
  statement-alike rec rec' at (Statement-F.Construct p) st k f =
      with_pointer-alike L _ _ _ _ f (λ q. with_class-alike L _ _ _ _ f (λ n. in_frame-alike L _ _ _ _ _ _ _ _ _ k f (λ ns w st f. plain-alike L _ _ w st f (λ _ st f. (refl, f)))))
  statement-alike rec rec' at (Statement-F.Delete p) st k f = with_pointer-alike L _ _ _ _ f (λ q. destroyed_object-alike L _ _ _ _ _ _ k f)
  statement-alike rec rec' at (Statement-F.Set p q) st k f = with_pointer-alike L _ _ _ _ f (λ _. with_pointer-alike L _ _ _ _ f (λ to. (refl, set_pointer-fine L p _ _ f)))
  statement-alike rec rec' at (Statement-F.SetNumber x v) st k f = (refl, f)
  statement-alike rec rec' at (Statement-F.SetNull p) st k f = with_pointer-alike L _ _ _ _ f (λ _. (refl, set_pointer-fine L p _ _ f))
  statement-alike rec rec' at (Statement-F.Add x v) st k f = require-alike L _ _ _ _ _ f (refl, f)
  statement-alike rec rec' at (Statement-F.Push p) st k f = with_pointer-alike L _ _ _ _ f (λ q. push-alike L _ _ f)
  statement-alike rec rec' at (Statement-F.PushObject p) st k f = with_pointer-alike L _ _ _ _ f (λ q. push-alike L _ _ f)
  statement-alike rec rec' at (Statement-F.PushOperation p op) st k f = with_pointer-alike L _ _ _ _ f (λ q. push-alike L _ _ f)
  statement-alike rec rec' at (Statement-F.Pop v) st k f = with_some-alike L _ _ _ _ _ f (λ n _. require-alike L _ _ _ _ _ f (refl, f))
  statement-alike rec rec' at (Statement-F.PopDestroy v) st k f = with_some-alike L _ _ _ _ _ f (λ n _. require-alike L _ _ _ _ _ f (k _ _ _ _ f))
  statement-alike rec rec' at (Statement-F.PopCheck p) st k f =
      with_pointer-alike L _ _ _ _ f (λ q. require-alike L _ _ _ _ _ f (with_some-alike L _ _ _ _ _ f (λ item _. require-alike L _ _ _ _ _ f (refl, f))))
  statement-alike rec rec' at (Statement-F.Leave v) st k f = (refl, f)
  statement-alike rec rec' at (Statement-F.LeaveIfError v) st k f = leave_if-alike L _ _ _ f
  statement-alike rec rec' at (Statement-F.LeaveIfNull p) st k f = with_pointer-alike L _ _ _ _ f (λ q. leave_if-alike L _ _ _ f)
  statement-alike rec rec' at (Statement-F.Call n args) st k f =
      with_arguments-alike L _ _ _ args f (λ vs. in_frame-alike L _ _ _ _ _ _ _ _ _ k f (λ ns w st f. plain-alike L _ _ w st f (λ _ st f. (refl, f))))
  statement-alike rec rec' at (Statement-F.CallTo x n args) st k f =
      with_arguments-alike L _ _ _ args f (λ vs. in_frame-alike L _ _ _ _ _ _ _ _ _ k f (λ ns w st f. plain-alike L _ _ w st f (λ p st f. (refl, f))))
  statement-alike rec rec' at Statement-F.Return st k f = (refl, f)
  statement-alike rec rec' at (Statement-F.ReturnPointer p) st k f = with_pointer-alike L _ _ _ _ f (λ q. (refl, f))
  statement-alike {ns = ns} rec rec' at Statement-F.Mark st k f = (refl, (f.0, L.marked ns st.heap f.1, f.2))
  statement-alike {ns = ns} rec rec' at (Statement-F.MarkEnd v) st k f = with_some-alike L _ _ _ _ _ f (λ n _. unless-alike L _ _ _ _ f (refl, (f.0, L.mark_ended ns st.heap f.1, f.2)))
  statement-alike rec rec' at (Statement-F.Check v) st k f = with_some-alike L _ _ _ _ _ f (λ n _. unless-alike L _ _ _ _ f (refl, f))
  statement-alike rec rec' at (Statement-F.CheckAll v) st k f = with_some-alike L _ _ _ _ _ f (λ n _. unless-alike L _ _ _ _ f (refl, f))
  statement-alike {ns = ns} rec rec' at (Statement-F.FailNext v) st k f = with_some-alike L _ _ _ _ _ f (λ n _. (refl, (f.0, L.set ns st.heap (next n) f.1, f.2)))
  statement-alike {ns = ns} rec rec' at (Statement-F.FailEvery v) st k f = with_some-alike L _ _ _ _ _ f (λ n _. (refl, (f.0, L.set ns st.heap (each n n) f.1, f.2)))
  statement-alike {ns = ns} rec rec' at Statement-F.FailNone st k f = (refl, (f.0, L.set ns st.heap never f.1, f.2))
  statement-alike rec rec' at (Statement-F.NewText p v r) st k f = with_pointer-alike L _ _ _ _ f (λ _. with_some-alike L _ _ _ _ _ f (λ n _. allocate-alike L _ _ _ _ _ _ tt f (λ ns o st f. given_to-alike L _ _ o st f)))
  statement-alike rec rec' at (Statement-F.ReallocText p q v) st k f =
      with_pointer-alike L _ _ _ _ f (λ _. with_pointer-alike L _ _ _ _ f (λ old. with_cell-alike L _ _ _ _ f (λ c e. with_some-alike L _ _ _ _ _ f (λ us _.
      with_some-alike L _ _ _ _ _ f (λ n _. require-alike L _ _ _ _ _ f (reallocate-alike L old c _ st st _ _ e refl f f (λ ns o st f. given_to-alike L _ _ o st f)))))))
  statement-alike rec rec' at (Statement-F.Copy d t) st k f =
      with_writable-alike L _ _ _ _ f (λ to. with_readable-alike L _ _ _ _ f (λ from. with_room-alike L _ _ _ _ f (λ max old. with_units-alike L _ _ _ _ _ f (λ us. write-alike L _ _ _ _ f))))
  statement-alike rec rec' at (Statement-F.Append d t) st k f =
      with_writable-alike L _ _ _ _ f (λ to. with_readable-alike L _ _ _ _ f (λ from. with_room-alike L _ _ _ _ f (λ max old. with_units-alike L _ _ _ _ _ f (λ us. write-alike L _ _ _ _ f))))
  statement-alike rec rec' at (Statement-F.Insert d v t) st k f =
      with_writable-alike L _ _ _ _ f (λ to. with_readable-alike L _ _ _ _ f (λ from. with_room-alike L _ _ _ _ f (λ max old. with_units-alike L _ _ _ _ _ f (λ us.
      with_some-alike L _ _ _ _ _ f (λ n _. require-alike L _ _ _ _ _ f (write-alike L _ _ _ _ f))))))
  statement-alike rec rec' at (Statement-F.DeleteText d v w) st k f =
      with_writable-alike L _ _ _ _ f (λ to. with_room-alike L _ _ _ _ f (λ max old. with_some-alike L _ _ _ _ _ f (λ n _. with_some-alike L _ _ _ _ _ f (λ m _. write-alike L _ _ _ _ f))))
  statement-alike rec rec' at (Statement-F.SetLength d v) st k f =
      with_writable-alike L _ _ _ _ f (λ to. with_room-alike L _ _ _ _ f (λ max old. with_some-alike L _ _ _ _ _ f (λ n _. write-alike L _ _ _ _ f)))
  statement-alike rec rec' at (Statement-F.Left w t v) st k f =
      with_readable-alike L _ _ _ _ f (λ from. with_units-alike L _ _ _ _ _ f (λ us. with_some-alike L _ _ _ _ _ f (λ n _. write_view-alike L _ _ _ _ f)))
  statement-alike rec rec' at (Statement-F.Right w t v) st k f =
      with_readable-alike L _ _ _ _ f (λ from. with_units-alike L _ _ _ _ _ f (λ us. with_some-alike L _ _ _ _ _ f (λ n _. write_view-alike L _ _ _ _ f)))
  statement-alike rec rec' at (Statement-F.Mid w t v u) st k f =
      with_readable-alike L _ _ _ _ f (λ from. with_units-alike L _ _ _ _ _ f (λ us. with_some-alike L _ _ _ _ _ f (λ n _. with_some-alike L _ _ _ _ _ f (λ m _. write_view-alike L _ _ _ _ f))))
  statement-alike rec rec' at (Statement-F.GetLength x t) st k f = with_readable-alike L _ _ _ _ f (λ from. with_units-alike L _ _ _ _ _ f (λ us. (refl, f)))
  statement-alike rec rec' at (Statement-F.GetMaximum x d) st k f = with_writable-alike L _ _ _ _ f (λ to. with_room-alike L _ _ _ _ f (λ max us. (refl, f)))
  statement-alike rec rec' at (Statement-F.PrintText t) st k f =
      with_readable-alike L _ _ _ _ f (λ from. with_units-alike L _ _ _ _ _ f (λ us. (refl, (f.0, f.1, L.printed st.lines (printed us) (printed-printable us) f.2))))
  statement-alike rec rec' at (Statement-F.PrintNumber v) st k f = (refl, (f.0, f.1, L.printed st.lines (signed_decimal (number_of st v)) (signed_decimal-printable (number_of st v)) f.2))
  statement-alike rec rec' at Statement-F.NoteHeap st k f = (refl, ((st, f, (refl, refl)), f))
  statement-alike rec rec' at Statement-F.NoteAvailable st k f = (refl, ((st, f, refl), f))
  statement-alike rec rec' at Statement-F.NoteCompress st k f = (refl, ((st, f, refl), f))
  statement-alike rec rec' at (Statement-F.If cond first) st k f = with_condition-alike L _ _ _ _ f (λ b. k _ _ _ _ f)
  statement-alike rec rec' at (Statement-F.IfElse cond first other) st k f = with_condition-alike L _ _ _ _ f (λ b. k _ _ _ _ f)
  statement-alike rec rec' at (Statement-F.Repeat v body) st k f = with_some-alike L _ _ _ _ _ f (λ n _. k _ _ _ _ f)
  statement-alike rec rec' at (Statement-F.Trap x body) st k f = and_then-alike L _ _ _ _ _ (k _ _ _ _ f) (λ ns w st f. trapped-alike L _ _ _ _ _ w st k f)

module _ (rec : Meaning) (keeps : KeepsAll rec) (least : ℕ) where
  pub statement-free : (script : Script) (at : Context) (s : Layer) (st : State) → HasFree least st → KeepsFree least (statement script rec at s st)
  unfolding statement new_object realloc_text
  statement-free script at (Statement-F.Alloc p v r) st f = with_pointer-free least _ _ _ (λ _. with_some-free least _ _ _ _ (λ n. alloc_raw-free least _ _ _ _ f))
  statement-free script at (Statement-F.Realloc p q v r) st f = with_pointer-free least _ _ _ (λ _. with_pointer-free least _ _ _ (λ old. realloc_of-free least _ _ _ _ _ _ f))
  statement-free script at (Statement-F.Free p) st f = with_pointer-free least _ _ _ (λ q. release-free least _ _ f)
  statement-free script at (Statement-F.AllocLen x p) st f = with_pointer-free least _ _ _ (λ q. with_some-free least _ _ _ _ (λ c. f))
  statement-free script at (Statement-F.Store p i v) st f = with_pointer-free least _ _ _ (λ q. with_words-free least _ _ _ (λ c ws. with_some-free least _ _ _ _ (λ n. f)))
  statement-free script at (Statement-F.Load x p i) st f = with_pointer-free least _ _ _ (λ q. with_words-free least _ _ _ (λ c ws. with_some-free least _ _ _ _ (λ n. f)))
  statement-free script at (Statement-F.New p class r) st f = with_pointer-free least _ _ _ (λ _. allocate-free least _ _ _ st _ f (λ o heap. given_to-free least p r o _ f))
  statement-free script at (Statement-F.Construct p) st f =
      with_pointer-free least _ _ _ (λ q. with_class-free least _ _ _ (λ n. in_frame-free rec keeps least _ _ _ _ st _ f (λ w st e. plain-free least _ w st e (λ p st f. f))))
  statement-free script at (Statement-F.Delete p) st f = with_pointer-free least _ _ _ (λ q. destroyed_object-free rec keeps least _ _ _ _ f)
  statement-free script at (Statement-F.Set p q) st f = with_pointer-free least _ _ _ (λ _. with_pointer-free least _ _ _ (λ to. set_pointer-free least st p to f))
  statement-free script at (Statement-F.SetNumber x v) st f = f
  statement-free script at (Statement-F.SetNull p) st f = with_pointer-free least _ _ _ (λ _. set_pointer-free least st p _ f)
  statement-free script at (Statement-F.Add x v) st f = require-free least _ _ _ _ f
  statement-free script at (Statement-F.Push p) st f = with_pointer-free least _ _ _ (λ q. push-free least _ st f)
  statement-free script at (Statement-F.PushObject p) st f = with_pointer-free least _ _ _ (λ q. push-free least _ st f)
  statement-free script at (Statement-F.PushOperation p op) st f = with_pointer-free least _ _ _ (λ q. push-free least _ st f)
  statement-free script at (Statement-F.Pop v) st f = with_some-free least _ _ _ _ (λ n. require-free least _ _ _ _ (dropped-free least n st f))
  statement-free script at (Statement-F.PopDestroy v) st f =
      with_some-free least _ _ _ _ (λ n. require-free least _ _ _ _ (inside rec keeps least _ _ _ f.0 (omega (arith, f.1), omega (arith, f.1), omega (arith, f.1))))
  statement-free script at (Statement-F.PopCheck p) st f =
      with_pointer-free least _ _ _ (λ q. require-free least _ _ _ _ (with_some-free least _ _ _ _ (λ item. require-free least _ _ _ _ (dropped-free least 1 st f))))
  statement-free script at (Statement-F.Leave v) st f = (f.0, omega (arith, f.1))
  statement-free script at (Statement-F.LeaveIfError v) st f = leave_if-free least _ _ st f
  statement-free script at (Statement-F.LeaveIfNull p) st f = with_pointer-free least _ _ _ (λ q. leave_if-free least _ _ st f)
  statement-free script at (Statement-F.Call n args) st f =
      with_arguments-free least _ args _ (λ vs. in_frame-free rec keeps least _ _ _ _ st _ f (λ w st e. plain-free least _ w st e (λ p st f. f)))
  statement-free script at (Statement-F.CallTo x n args) st f =
      with_arguments-free least _ args _ (λ vs. in_frame-free rec keeps least _ _ _ _ st _ f (λ w st e. plain-free least _ w st e (λ p st f. f)))
  statement-free script at Statement-F.Return st f = f
  statement-free script at (Statement-F.ReturnPointer p) st f = with_pointer-free least _ _ _ (λ q. f)
  statement-free script at Statement-F.Mark st f = f
  statement-free script at (Statement-F.MarkEnd v) st f = with_some-free least _ _ _ _ (λ n. unless-free least _ _ _ f)
  statement-free script at (Statement-F.Check v) st f = with_some-free least _ _ _ _ (λ n. unless-free least _ _ _ f)
  statement-free script at (Statement-F.CheckAll v) st f = with_some-free least _ _ _ _ (λ n. unless-free least _ _ _ f)
  statement-free script at (Statement-F.FailNext v) st f = with_some-free least _ _ _ _ (λ n. f)
  statement-free script at (Statement-F.FailEvery v) st f = with_some-free least _ _ _ _ (λ n. f)
  statement-free script at Statement-F.FailNone st f = f
  statement-free script at (Statement-F.NewText p v r) st f =
      with_pointer-free least _ _ _ (λ _. with_some-free least _ _ _ _ (λ n. allocate-free least _ _ _ st _ f (λ o heap. given_to-free least p r o _ f)))
  statement-free script at (Statement-F.ReallocText p q v) st f =
      with_pointer-free least _ _ _ (λ _. with_pointer-free least _ _ _ (λ old. with_cell-free least _ _ _ (λ c. with_some-free least _ _ _ _ (λ us.
      with_some-free least _ _ _ _ (λ n. require-free least _ _ _ _ (reallocate-free least c _ st st _ f (λ o heap. given_to-free least p _ o _ f)))))))
  statement-free script at (Statement-F.Copy d t) st f =
      with_writable-free least _ _ _ (λ to. with_readable-free least _ _ _ (λ from. with_room-free least _ _ _ (λ max old. with_units-free least _ _ _ _ (λ us. write-free least _ st _ _ f))))
  statement-free script at (Statement-F.Append d t) st f =
      with_writable-free least _ _ _ (λ to. with_readable-free least _ _ _ (λ from. with_room-free least _ _ _ (λ max old. with_units-free least _ _ _ _ (λ us. write-free least _ st _ _ f))))
  statement-free script at (Statement-F.Insert d v t) st f =
      with_writable-free least _ _ _ (λ to. with_readable-free least _ _ _ (λ from. with_room-free least _ _ _ (λ max old. with_units-free least _ _ _ _ (λ us.
      with_some-free least _ _ _ _ (λ n. require-free least _ _ _ _ (write-free least _ st _ _ f))))))
  statement-free script at (Statement-F.DeleteText d v w) st f =
      with_writable-free least _ _ _ (λ to. with_room-free least _ _ _ (λ max old. with_some-free least _ _ _ _ (λ n. with_some-free least _ _ _ _ (λ m. write-free least _ st _ _ f))))
  statement-free script at (Statement-F.SetLength d v) st f =
      with_writable-free least _ _ _ (λ to. with_room-free least _ _ _ (λ max old. with_some-free least _ _ _ _ (λ n. write-free least _ st _ _ f)))
  statement-free script at (Statement-F.Left w t v) st f =
      with_readable-free least _ _ _ (λ from. with_units-free least _ _ _ _ (λ us. with_some-free least _ _ _ _ (λ n. write_view-free least _ st _ _ f)))
  statement-free script at (Statement-F.Right w t v) st f =
      with_readable-free least _ _ _ (λ from. with_units-free least _ _ _ _ (λ us. with_some-free least _ _ _ _ (λ n. write_view-free least _ st _ _ f)))
  statement-free script at (Statement-F.Mid w t v u) st f =
      with_readable-free least _ _ _ (λ from. with_units-free least _ _ _ _ (λ us. with_some-free least _ _ _ _ (λ n. with_some-free least _ _ _ _ (λ m. write_view-free least _ st _ _ f))))
  statement-free script at (Statement-F.GetLength x t) st f = with_readable-free least _ _ _ (λ from. with_units-free least _ _ _ _ (λ us. f))
  statement-free script at (Statement-F.GetMaximum x d) st f = with_writable-free least _ _ _ (λ to. with_room-free least _ _ _ (λ max us. f))
  statement-free script at (Statement-F.PrintText t) st f = with_readable-free least _ _ _ (λ from. with_units-free least _ _ _ _ (λ us. f))
  statement-free script at (Statement-F.PrintNumber v) st f = f
  statement-free script at Statement-F.NoteHeap st f = f
  statement-free script at Statement-F.NoteAvailable st f = f
  statement-free script at Statement-F.NoteCompress st f = f
  statement-free script at (Statement-F.If cond first) st f = with_condition-free least _ _ _ (λ b. inside rec keeps least _ _ _ f.0 f.1)
  statement-free script at (Statement-F.IfElse cond first other) st f = with_condition-free least _ _ _ (λ b. inside rec keeps least _ _ _ f.0 f.1)
  statement-free script at (Statement-F.Repeat v body) st f = with_some-free least _ _ _ _ (λ n. inside rec keeps least _ _ _ f.0 f.1)
  statement-free script at (Statement-F.Trap x body) st f =
      let entry = length st.items in
      let first = rec (record at { floor = entry }) (all body) st in
      let go = trapped rec at x entry in
      let run = and_then-free st.slots first go (keeps (record at { floor = entry }) (all body) st f.1) (λ w after e. trapped-free rec keeps st.slots at x entry w after f.1 e) in
      fewer least st.slots f.0 (and_then first go) run

module _ (rec : Meaning) (goes : GoesOn rec) where
  -- a statement that cannot leave, where those in its blocks can't
  pub statement-goes : (script : Script) (depth : ℕ) (at : Context) (s : Layer) (st : State) → IsTrue (is_quiet_statement (are_quiet depth) s) → GoesOnWith st.items (statement script rec at s st)
  unfolding statement
  statement-goes script depth at (Statement-F.Free p) st quiet = with_pointer-goes st.items _ _ _ (λ q. release-goes st.items _ _ refl)
  statement-goes script depth at (Statement-F.Delete p) st quiet = with_pointer-goes st.items _ _ _ (λ q. destroyed_object-goes rec goes _ _ _ _)
  statement-goes script depth at (Statement-F.Set p q) st quiet = with_pointer-goes st.items _ _ _ (λ _. with_pointer-goes st.items _ _ _ (λ to. set_pointer-items st p to))
  statement-goes script depth at (Statement-F.SetNumber x v) st quiet = refl
  statement-goes script depth at (Statement-F.SetNull p) st quiet = with_pointer-goes st.items _ _ _ (λ _. set_pointer-items st p _)
  statement-goes script depth at (Statement-F.Add x v) st quiet = require-goes st.items _ _ _ _ refl
  statement-goes script depth at (Statement-F.AllocLen x p) st quiet = with_pointer-goes st.items _ _ _ (λ q. with_some-goes st.items _ _ _ _ (λ c. refl))
  statement-goes script depth at (Statement-F.Load x p v) st quiet = with_pointer-goes st.items _ _ _ (λ q. with_words-goes st.items _ _ _ (λ c ws. with_some-goes st.items _ _ _ _ (λ n. refl)))
  statement-goes script depth at (Statement-F.Store p v w) st quiet = with_pointer-goes st.items _ _ _ (λ q. with_words-goes st.items _ _ _ (λ c ws. with_some-goes st.items _ _ _ _ (λ n. refl)))
  statement-goes script depth at (Statement-F.PrintText t) st quiet = with_readable-goes st.items _ _ _ (λ s. with_units-goes st.items _ _ _ _ (λ us. refl))
  statement-goes script depth at (Statement-F.PrintNumber v) st quiet = refl
  statement-goes script depth at Statement-F.NoteHeap st quiet = refl
  statement-goes script depth at Statement-F.NoteAvailable st quiet = refl
  statement-goes script depth at Statement-F.NoteCompress st quiet = refl
  statement-goes script depth at (Statement-F.If c first) st quiet = with_condition-goes st.items _ _ _ (by (both (are_quiet depth first) true (both (kinds.is_quiet (condition_spelling c).0) (are_quiet depth first && true) quiet).1).0)
    where
      by : IsTrue (are_quiet depth first) → (b : Bool) → GoesOnWith st.items (rec at (all (choice b first [])) st)
      by are true = goes at (all first) st (depth, are)
      by are false = goes at (all []) st (suc depth, refl)
  statement-goes script depth at (Statement-F.IfElse c first other) st quiet = with_condition-goes st.items _ _ _ (by (both (are_quiet depth first) (are_quiet depth other && true) (both (kinds.is_quiet (condition_spelling c).0) (are_quiet depth first && (are_quiet depth other && true)) quiet).1))
    where
      by : IsTrue (are_quiet depth first) × IsTrue (are_quiet depth other && true) → (b : Bool) → GoesOnWith st.items (rec at (all (choice b first other)) st)
      by are true = goes at (all first) st (depth, are.0)
      by are false = goes at (all other) st (depth, (both (are_quiet depth other) true are.1).0)
  statement-goes script depth at (Statement-F.Repeat v body) st quiet = with_some-goes st.items _ _ _ _ (λ n. goes at (turns n body) st (depth, (both (are_quiet depth body) true quiet).0))
  statement-goes script depth at (Statement-F.Alloc p v GivesNull) st quiet = absurd (false≢true quiet)
  statement-goes script depth at (Statement-F.Alloc p v Leaves) st quiet = absurd (false≢true quiet)
  statement-goes script depth at (Statement-F.Realloc p q v GivesNull) st quiet = absurd (false≢true quiet)
  statement-goes script depth at (Statement-F.Realloc p q v Leaves) st quiet = absurd (false≢true quiet)
  statement-goes script depth at (Statement-F.New p class GivesNull) st quiet = absurd (false≢true quiet)
  statement-goes script depth at (Statement-F.New p class Leaves) st quiet = absurd (false≢true quiet)
  statement-goes script depth at (Statement-F.NewText p v GivesNull) st quiet = absurd (false≢true quiet)
  statement-goes script depth at (Statement-F.NewText p v Leaves) st quiet = absurd (false≢true quiet)
  statement-goes script depth at _ st quiet = absurd (false≢true quiet)
