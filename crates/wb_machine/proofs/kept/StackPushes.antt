-- A push on the cleanup stack, as the state of a run sees it.
use Rattle.std.proofs.Common.{◌≡◌, ◌≢◌, ◌++◌, ◌∷◌, [], ℕ, ◌+◌, ◌*◌, ◌≤◌, List, Bool, true, false, cond, Some, Result, Ok, Err, IfOk, OnErr, refl, sym, ap, ◌∙◌, subst, arith}
use Rattle.wb_heap_model.specs.declared.heap.Ptr.{Ptr}
use Rattle.wb_heap_model.specs.declared.heap.Item.{Item}
use Rattle.wb_heap_model.specs.declared.heap.Gave.{Gave}
use Rattle.wb_heap_model.specs.declared.heap.Gave.TheVariants as G
use Rattle.wb_heap_model.specs.declared.heap.Kind.TheVariants.{Text, Cleanup as CleanupKind}
use Rattle.wb_heap_model.specs.Row.{Cell, cell_at, headers}
use Rattle.wb_heap_model.specs.CellRow.{payload_of}
use Rattle.wb_heap_model.specs.Debug.{Debug, keeps_rises, IsSoundDebug, debug_changed}
use Rattle.wb_heap_model.proofs.Reallocations.{at-number, found-from, found-head}
use Rattle.wb_heap_model.proofs.TextCellsHeap.{found-changed}
use Rattle.wb_cleanup.specs.declared.cleanup.Cleanup.{Cleanup}
use Rattle.wb_cleanup.specs.declared.cleanup.Pushed.{Pushed}
use Rattle.wb_cleanup.specs.declared.cleanup.Pushed.TheVariants.{Ceiling}
use Rattle.wb_cleanup.specs.Pushes.{cell_by, fills, growth, items_by, push_made, pushed_by, remade, IsUnchanged, PushLeaves}
use Rattle.wb_cleanup.specs.Stacks.{IsStack, cell_of, items_of, slots_of}
use Rattle.wb_cleanup.proofs.StackInHeap.{stack-kept}
use Rattle.wb_machine.specs.CleanupEffects.{IsPushed}
use Rattle.wb_machine.specs.TextInvariant.{AreTexts}
use Rattle.wb_machine.specs.RunState.{RunState, with_debug}
use Rattle.wb_machine.specs.StackInvariant.{IsMemory, StandsIn}
use Rattle.wb_machine.specs.Owed.{HasStack, KeepsCount, Stays}
use Rattle.wb_machine.proofs.kept.TextInvariant.{texts_changed, texts_reallocated}
use Rattle.wb_machine.proofs.effects.UnchangedByAttempts.{realloc_stays}

-- a stack's cell has a number
pub numbered : (stack : Cleanup) (d : Debug) → IsSoundDebug d → IsStack stack d → 1 ≤ (cell_of stack).number
numbered stack d sound is =
    let named = found-from (cell_of stack) (headers d.heap.row) 0 is.cell.cell.head sound.row.spaced (found-head (cell_of stack) d.heap.row is.cell.cell is.cell.found) in
    omega (arith, at-number (cell_of stack) is.cell.cell.head named.named, named.numbered)

-- where it is, it is in each heap with these cells
pub context : (stack : Cleanup) (d : Debug) → IsStack stack d → StandsIn (Some stack) d.heap.row
context stack d is = λ e row. (stack-kept stack d e (ap (cell_at (cell_of stack)) row) is).is

module _ (stack new : Cleanup) (d e : Debug) (is : IsStack stack d) where
  -- the growth changes no text
  texts_made : AreTexts d.heap.row → AreTexts (push_made stack d).debug.heap.row
  texts_made texts = by (fills stack d)
    where
      grown : AreTexts (growth stack d).debug.heap.row
      grown =
          subst (λ o. AreTexts (remade d (16 * (slots_of stack + 4)) o).debug.heap.row) (sym is.cell.found)
          (texts_reallocated d is.cell.cell (16 * (slots_of stack + 4)) (λ text. let no : CleanupKind ≡ Text = sym is.cell.kind ∙ text in cc) texts)

      by : (b : Bool) → AreTexts (cond b (growth stack d) (record { debug = d; gave = G.Granted (cell_of stack) })).debug.heap.row
      by true = grown
      by false = texts

  -- nor do the words of the stack
  pub texts_pushed : AreTexts d.heap.row → IsStack new e → e ≡ debug_changed (push_made stack d).debug (cell_of new) (payload_of (cell_of new) e.heap.row) → AreTexts e.heap.row
  texts_pushed texts now changed =
      let row = (push_made stack d).debug.heap.row in
      let ws = payload_of (cell_of new) e.heap.row in
      subst (λ (x : Debug). AreTexts x.heap.row) (sym changed)
      (texts_changed (cell_of new) ws row (λ c found text.
      let same : Some (record c { content = ws }) ≡ Some now.cell.cell = sym (found-changed (cell_of new) ws row c found) ∙ sym (ap (λ (x : Debug). cell_at (cell_of new) x.heap.row) changed) ∙ now.cell.found in
      let cell : record c { content = ws } ≡ now.cell.cell = cc in
      let no : CleanupKind ≡ Text = sym now.cell.kind ∙ ap (λ (x : Cell (List ℕ)). x.head.kind) (sym cell) ∙ text in
      cc) (texts_made texts))

-- what a growth leaves as it was
made_stays : (stack : Cleanup) (h : RunState) → IsStack stack h.debug → Stays h (with_debug h (push_made stack h.debug).debug)
made_stays stack h is = by (fills stack h.debug)
  where
    grown : Stays h (with_debug h (growth stack h.debug).debug)
    grown =
        subst (λ o. Stays h (with_debug h (remade h.debug (16 * (slots_of stack + 4)) o).debug)) (sym is.cell.found) (realloc_stays h is.cell.cell (16 * (slots_of stack + 4)))

    by : (b : Bool) → Stays h (with_debug h (cond b (growth stack h.debug) (record { debug = h.debug; gave = G.Granted (cell_of stack) })).debug)
    by true = grown
    by false = record { rule = refl; shape = refl; fewer = omega arith; more = omega arith; kept = refl; deeper = omega arith; stack = λ has. has }

-- other words leave it too
words_stay : (h : RunState) (m : Debug) (p : Ptr) (ws : List ℕ) → Stays h (with_debug h m) → Stays h (with_debug h (debug_changed m p ws))
words_stay h m p ws stays =
    record { rule = stays.rule; shape = stays.shape; fewer = stays.fewer; more = stays.more; kept = stays.kept; deeper = stays.deeper; stack = stays.stack }

stays_as : (h g : RunState) (x : Debug) → g.debug ≡ x → HasStack g → Stays h (with_debug h x) → Stays h g
stays_as h g x is has stays = record {
  rule = ap (λ (y : Debug). y.rule) is ∙ stays.rule;
  shape = ap (λ (y : Debug). y.shape) is ∙ stays.shape;
  fewer = subst (λ (y : Debug). h.debug.attempts ≤ y.attempts) (sym is) stays.fewer;
  more = subst (λ (y : Debug). y.attempts ≤ h.debug.attempts + 1) (sym is) stays.more;
  kept = ap keeps_rises is ∙ stays.kept;
  deeper = subst (λ (y : Debug). y.heap.level ≤ h.debug.heap.level + 1) (sym is) stays.deeper;
  stack = λ held. has;
}

-- a stack that was pushed on is in its heap, whose texts are as they were
pub memory_pushed : {Y : Type 0} (r : Result Pushed Y) (item : Item) (stack new : Cleanup) (d e : Debug) → IsMemory d (Some stack) → IsStack new e → IsSoundDebug e →
    IfOk r (λ pushed. PushLeaves pushed item stack new d e) → OnErr r (IsUnchanged stack new d e) → IsMemory e (Some new)
memory_pushed {Y} r item stack new d e memory now sound ok err = record { sound = sound; texts = by r ok err; stands = context new e now }
  where
    by : (r : Result Pushed Y) → IfOk r (λ pushed. PushLeaves pushed item stack new d e) → OnErr r (IsUnchanged stack new d e) → AreTexts e.heap.row
    by (Ok x) ok err = texts_pushed stack new d e (memory.stands d refl) memory.texts now ok.heap
    by (Err y) ok err = subst (λ (x : Debug). AreTexts x.heap.row) (sym err.heap) memory.texts

pub keeps_pushed : {Y : Type 0} (r : Result Pushed Y) (item : Item) (stack new : Cleanup) (h g : RunState) → IsStack stack h.debug → IsStack new g.debug → IsSoundDebug g.debug →
    g.cleanup ≡ cell_of new → g.steps ≡ h.steps → g.callers ≡ h.callers →
    IfOk r (λ pushed. PushLeaves pushed item stack new h.debug g.debug) → OnErr r (IsUnchanged stack new h.debug g.debug) → KeepsCount h g
keeps_pushed {Y} r item stack new h g is now sound cell steps callers ok err = record { steps = steps; stays = by r ok err; callers = callers }
  where
    has : HasStack g
    has = subst (λ (p : Ptr). 1 ≤ p.number) (sym cell) (numbered new g.debug sound now)

    by : (r : Result Pushed Y) → IfOk r (λ pushed. PushLeaves pushed item stack new h.debug g.debug) → OnErr r (IsUnchanged stack new h.debug g.debug) → Stays h g
    by (Ok x) ok err =
        stays_as h g _ ok.heap has (words_stay h (push_made stack h.debug).debug (cell_of new) (payload_of (cell_of new) g.debug.heap.row) (made_stays stack h is))
    by (Err y) ok err =
        stays_as h g _ err.heap has (record { rule = refl; shape = refl; fewer = omega arith; more = omega arith; kept = refl; deeper = omega arith; stack = λ has. has })

-- there is one item more, unless the ceiling cuts the run
one_more : (pushed : Pushed) (items : List Item) (item : Item) (gave : Gave) → pushed ≡ pushed_by gave → pushed ≢ Ceiling → items_by items item gave ≡ items ++ item ∷ []
one_more pushed items item (G.Granted p) answer going = refl
one_more pushed items item G.Denied answer going = refl
one_more pushed items item G.Ceiling answer going = absurd (going answer)

-- a push that the ceiling doesn't cut leaves the item on the stack
pub item_pushed : {E : Type 0} (r : Result Pushed E) (item : Item) (stack new : Cleanup) (h : RunState) (e : Debug) → h.cleanup ≡ cell_of stack → h.slots ≡ slots_of stack →
    h.items ≡ items_of stack h.debug → IfOk r (λ pushed. PushLeaves pushed item stack new h.debug e) →
    IfOk r (λ pushed. pushed ≢ Ceiling → IsPushed h item (record h { debug = e; cleanup = cell_of new; items = items_of new e; slots = slots_of new }))
item_pushed (Err error) item stack new h e cell slots items leaves = tt
item_pushed (Ok pushed) item stack new h e cell slots items leaves =
    subst (λ p. Left p h.slots h.items) (sym cell) (subst (λ n. Left (cell_of stack) n h.items) (sym slots) (subst (λ is. Left (cell_of stack) (slots_of stack) is) (sym items) left))
  where
    Left : Ptr → ℕ → List Item → Type 0
    Left p n is = pushed ≢ Ceiling →
        IsPushed (record h { cleanup = p; slots = n; items = is }) item (record h { debug = e; cleanup = cell_of new; items = items_of new e; slots = slots_of new })

    left : Left (cell_of stack) (slots_of stack) (items_of stack h.debug)
    left going =
        let made = push_made stack h.debug in
        let ws = payload_of (cell_of new) e.heap.row in
        let more : items_of new e ≡ items_of stack h.debug ++ item ∷ [] =
        leaves.items ∙ one_more pushed (items_of stack h.debug) item made.gave leaves.answer going in
        ap (λ x. record h { debug = x; cleanup = cell_of new; items = items_of new e; slots = slots_of new }) leaves.heap
        ∙ ap (λ p. record h { debug = debug_changed made.debug p ws; cleanup = p; items = items_of new e; slots = slots_of new }) leaves.cell
        ∙ ap (λ is. record h {
          debug = debug_changed made.debug (cell_by (cell_of stack) made.gave) ws;
          cleanup = cell_by (cell_of stack) made.gave;
          items = is;
          slots = slots_of new;
        }) more
        ∙ ap (λ n. record h {
          debug = debug_changed made.debug (cell_by (cell_of stack) made.gave) ws;
          cleanup = cell_by (cell_of stack) made.gave;
          items = items_of stack h.debug ++ item ∷ [];
          slots = n;
        }) leaves.slots
