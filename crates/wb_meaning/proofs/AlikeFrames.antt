-- Frames, arguments, destructions, traps and conditions keep a lasting fact, and are alike where the meanings of what is inside
-- are.
use Rattle.std.proofs.Common.{ℕ, ℤ, Bool, true, false, List, [], ◌∷◌, refl}
use Rattle.wb_heap_model.specs.declared.heap.Ptr.{Ptr}
use Rattle.wb_heap_model.specs.declared.heap.Item.{Item}
use Rattle.wb_heap_model.specs.declared.heap.Item.TheVariants as I
use Rattle.wb_tree.specs.declared.script.Script.{Script}
use Rattle.wb_tree.specs.declared.script.Body.{Body}
use Rattle.wb_tree.specs.declared.script.Refusal.{Refusal}
use Rattle.wb_tree.specs.declared.script.Pointer.{Pointer}
use Rattle.wb_tree.specs.declared.script.Condition.{Condition}
use Rattle.wb_tree.specs.declared.script.Condition.TheVariants.{IsNull, NotNull, Equal, Less}
use Rattle.wb_tree.specs.declared.script.Argument.{Argument}
use Rattle.wb_tree.specs.declared.script.Argument.TheVariants.{Passed, Given}
use Rattle.wb_meaning.specs.State.{State, Value, Way, goes_on, returns, leaves, Process}
use Rattle.wb_meaning.specs.Statements.{alloc_raw, Context, Meaning, realloc_of, realloc_raw, in_frame, plain, with_arguments, destroyed_object, destroyed_item, trapped, with_condition, leave_if}
use Rattle.wb_meaning.proofs.AlikeLemmas.{Lasting, Fine, Alike, AlikeAll, and_then-alike, then_do-alike, require-alike, with_some-alike, with_pointer-alike, given_to-alike, allocate-alike, reallocate-alike, release-alike}

module _ (L : Lasting) where
  pub plain-alike : {ns : List ℕ} (go go' : Ptr → State → Process) (w : Way) (st : State) → Fine L ns st → ((p : Ptr) (st : State) → Fine L ns st → Alike L ns (go p st) (go' p st)) → Alike L ns (plain go w st) (plain go' w st)
  unfolding plain
  plain-alike _ _ goes_on st f k = k _ st f
  plain-alike _ _ (returns p) st f k = k p st f
  plain-alike _ _ (leaves code) st f k = (refl, f)

  pub in_frame-alike : {ns : List ℕ} (rec rec' : Meaning) (at : Context) (this : Ptr) (given : List Value) (body : Body) (st : State) (go go' : Way → State → Process) → AlikeAll L rec rec' → Fine L ns st →
      ((ns : List ℕ) (w : Way) (st : State) → Fine L ns st → Alike L ns (go w st) (go' w st)) → Alike L ns (in_frame rec at this given body st go) (in_frame rec' at this given body st go')
  unfolding in_frame
  in_frame-alike _ rec' _ _ _ _ _ _ _ r f k = require-alike L _ _ _ _ _ f (and_then-alike L _ _ _ _ _ (r _ _ _ _ f) (λ ns w st f. k ns w _ f))

  pub with_arguments-alike : {ns : List ℕ} (st : State) (go go' : List Value → Process) (args : List Argument) → Fine L ns st → ((vs : List Value) → Alike L ns (go vs) (go' vs)) → Alike L ns (with_arguments st args go) (with_arguments st args go')
  unfolding with_arguments
  with_arguments-alike _ _ _ [] f k = k _
  with_arguments-alike _ _ _ (Passed p ∷ rest) f k = with_pointer-alike L _ _ _ _ f (λ q. with_arguments-alike _ _ _ rest f (λ vs. k _))
  with_arguments-alike _ _ _ (Given v ∷ rest) f k = with_arguments-alike _ _ _ rest f (λ vs. k _)

  pub destroyed_object-alike : {ns : List ℕ} (b : Bool) (rec rec' : Meaning) (at : Context) (p : Ptr) (st : State) → AlikeAll L rec rec' → Fine L ns st → Alike L ns (destroyed_object b rec at p st) (destroyed_object b rec' at p st)
  unfolding destroyed_object
  destroyed_object-alike true _ rec' _ _ _ r f = (refl, f)
  destroyed_object-alike false _ rec' _ _ _ r f = r _ _ _ _ f

  pub destroyed_item-alike : {ns : List ℕ} (script : Script) (rec rec' : Meaning) (at : Context) (item : Item) (st : State) → AlikeAll L rec rec' → Fine L ns st → Alike L ns (destroyed_item script rec at item st) (destroyed_item script rec' at item st)
  unfolding destroyed_item
  destroyed_item-alike _ _ rec' _ (I.Free p) _ r f = release-alike L _ _ f
  destroyed_item-alike _ _ rec' _ (I.Delete p) _ r f = destroyed_object-alike _ _ _ _ _ _ r f
  destroyed_item-alike _ _ rec' _ (I.Call p op) _ r f = in_frame-alike _ _ _ _ _ _ _ _ _ r f (λ ns w st f. plain-alike _ _ w st f (λ _ st f. (refl, f)))

  pub trapped-alike : {ns : List ℕ} (rec rec' : Meaning) (at : Context) (x entry : ℕ) (w : Way) (st : State) → AlikeAll L rec rec' → Fine L ns st → Alike L ns (trapped rec at x entry w st) (trapped rec' at x entry w st)
  unfolding trapped
  trapped-alike _ rec' _ _ _ goes_on st r f = require-alike L _ _ _ _ _ f (refl, f)
  trapped-alike _ rec' _ _ _ (leaves code) st r f = then_do-alike L _ _ _ _ _ (r _ _ _ _ f) (λ ns st f. (refl, f))
  trapped-alike _ rec' _ _ _ (returns p) st r f = (refl, f)

  pub with_condition-alike : {ns : List ℕ} (st : State) (c : Condition) (go go' : Bool → Process) → Fine L ns st → ((b : Bool) → Alike L ns (go b) (go' b)) → Alike L ns (with_condition st c go) (with_condition st c go')
  unfolding with_condition
  with_condition-alike _ (IsNull p) _ _ f k = with_pointer-alike L _ _ _ _ f (λ q. k _)
  with_condition-alike _ (NotNull p) _ _ f k = with_pointer-alike L _ _ _ _ f (λ q. k _)
  with_condition-alike _ (Equal v w) _ _ f k = k _
  with_condition-alike _ (Less v w) _ _ f k = k _

  pub leave_if-alike : {ns : List ℕ} (b : Bool) (code : ℤ) (st : State) → Fine L ns st → Alike L ns (leave_if b code st) (leave_if b code st)
  unfolding leave_if
  leave_if-alike true _ _ f = (refl, f)
  leave_if-alike false _ _ f = (refl, f)

  pub alloc_raw-alike : {ns : List ℕ} (p : Pointer) (r : Refusal) (bytes : ℕ) (st : State) → Fine L ns st → Alike L ns (alloc_raw p r bytes st) (alloc_raw p r bytes st)
  unfolding alloc_raw
  alloc_raw-alike _ _ _ _ f = allocate-alike L _ _ _ _ _ _ tt f (λ ns o st f. given_to-alike L _ _ o st f)

  pub realloc_of-alike : {ns : List ℕ} (b : Bool) (p : Pointer) (r : Refusal) (q : Ptr) (z : ℤ) (st : State) → Fine L ns st → Alike L ns (realloc_of b p r q z st) (realloc_of b p r q z st)
  unfolding realloc_of realloc_raw
  realloc_of-alike true _ _ _ _ _ f = with_some-alike L _ _ _ _ _ f (λ n _. alloc_raw-alike _ _ _ _ f)
  realloc_of-alike false p r q z st f =
      with_some-alike L _ _ _ _ _ f (λ c e. require-alike L _ _ _ _ _ f (with_some-alike L _ _ _ _ _ f (λ n _.
      reallocate-alike L q c _ st st _ _ e refl f f (λ ns o st f. given_to-alike L _ _ o st f))))
