-- Which processes ask for an attempt only once a further step was counted.
use Rattle.std.proofs.Common.{◌≡◌, ℕ, zero, suc, ◌+◌, ◌<◌, ◌≤◌, Bool, true, false, List, [], ◌∷◌, refl, sym, subst, arith, Option, Some, None}
use Rattle.std.specs.Prelude.{nat_lt}
use Rattle.std.proofs.lemmas.Bool.{ltb-true, ne_eqb}
use Rattle.wb_heap_model.specs.declared.heap.Ptr.{Ptr}
use Rattle.wb_heap_model.specs.declared.heap.Panic.{Panic}
use Rattle.wb_tree.specs.declared.script.Script.{Script}
use Rattle.wb_tree.specs.declared.script.Statement.TheViews.{out-Statement}
use Rattle.wb_heap_model.specs.Row.{Cell, cell_at}
use Rattle.wb_heap_model.specs.Contents.{Content}
use Rattle.wb_meaning.specs.State.{State, Way, goes_on, returns, leaves, Process, ends, stops, asks, notes, and_then, on_plain_end, then_do, require}
use Rattle.wb_meaning.specs.Statements.{Todo, all, turns, destroy_items, destroy_object, Context, Meaning, done, of_script, released, release, plain, trapped}
use Rattle.wb_heap_model.specs.Pointers.{is_null}
use Rattle.wb_meaning.specs.Meaning.{begun, begun_if, piece, meaning_of}
use Rattle.wb_meaning.specs.Run.{main_trapped}
use Rattle.wb_meaning.specs.Rest.{Pending, doing, catching, caught, calling, main_catching, main_caught, Afterwards, nothing_more, gives_to, releases, after_frame, resumed, resume}
use Rattle.wb_meaning.proofs.AlikeLemmas.{Fine, Keeps, Alike, AlikeAll, and_then-alike, then_do-alike, with_some-alike, with_class-alike, release-alike}
use Rattle.wb_meaning.proofs.AlikeFrames.{plain-alike, in_frame-alike, destroyed_item-alike}
use Rattle.wb_meaning.proofs.EachStatement.{statement-alike}
use Rattle.wb_meaning.proofs.AlikePieces.{between, shows_weaker, meaning_within-alike}
use Rattle.wb_meaning.proofs.MeaningLemmas.{anything, meaning_of-unfolds}
use Rattle.wb_machine.specs.Asks.{asks_at}

-- a process asks for nothing before more than a number of steps were counted
abbrev pub IsLater : ℕ → Process → Type 0
IsLater n (asks t cut go) = n < cut.steps
IsLater n (notes q p) = IsLater n p
IsLater n _ = Unit {0}

pub later_asks : (n : ℕ) (p : Process) → IsLater n p → asks_at n p ≡ false
later_asks n (ends way st) h = refl
later_asks n (stops stop st) h = refl
later_asks n (asks t cut go) h = ne_eqb cut.steps n (λ e. omega (arith, e, h))
later_asks n (notes q p) h = later_asks n p h

module _ (script : Script) (budget : ℕ) where
  abbrev pub meant : Meaning
  meant = meaning_of script budget

  -- the states that a process shows have counted so many steps at least, and no more than the budget
  abbrev pub Onward : ℕ → Process → Type 0
  Onward low p = Keeps (between (anything script) low budget) [] p

  onward_later : (low : ℕ) (p : Process) → Onward (low + 1) p → IsLater low p
  onward_later low (ends way st) k = tt
  onward_later low (stops stop st) k = tt
  onward_later low (asks t cut go) k = omega (arith, k.0.0.0)
  onward_later low (notes q p) k = onward_later low p k.1

  pub onward_all : (low : ℕ) → AlikeAll (between (anything script) low budget) meant meant
  unfolding meaning_of
  onward_all low ns at p st g =
      let is = meaning_within-alike (anything script) budget (suc budget) (suc budget) ns at p st g.0.1 tt tt (omega (arith, g.0.1)) (omega (arith, g.0.1)) in
      (is.0, shows_weaker (anything script) ns low st.steps budget g.0.0 (meant at p st) is.1)

  begun_later : (st : State) (go : State → Process) → ((st' : State) → Fine (between (anything script) (st.steps + 1) budget) [] st' → Onward (st.steps + 1) (go st')) → IsLater st.steps (begun budget st go)
  unfolding begun begun_if
  begun_later st go k = by (nat_lt st.steps budget) refl
    where
      by : (b : Bool) → nat_lt st.steps budget ≡ b → IsLater st.steps (begun_if b st go)
      by true e =
          let le = ltb-true _ _ e in
          onward_later st.steps (go (record st { steps = st.steps + 1 })) (k (record st { steps = st.steps + 1 }) ((omega arith, omega (arith, le)), tt, tt))
      by false e = tt

  piece_later : (at : Context) (p : Todo) (st : State) → IsLater st.steps (piece script budget meant at p st)
  unfolding piece
  piece_later at (all []) st = tt
  piece_later at (all (s ∷ rest)) st =
      let L = between (anything script) (st.steps + 1) budget in
      let k = onward_all (st.steps + 1) in
      begun_later st _ (λ st g. (then_do-alike L _ _ _ _ _ (statement-alike L meant meant at (out-Statement s.statement) st k g) (λ ns st g. k ns _ _ st g)).1)
  piece_later at (turns zero body) st = tt
  piece_later at (turns (suc n) body) st =
      let L = between (anything script) (st.steps + 1) budget in
      let k = onward_all (st.steps + 1) in
      begun_later st _ (λ st g. (then_do-alike L _ _ _ _ _ (k [] _ _ st g) (λ ns st g. k ns _ _ st g)).1)
  piece_later at (destroy_items zero) st = tt
  piece_later at (destroy_items (suc n)) st =
      let L = between (anything script) (st.steps + 1) budget in
      let k = onward_all (st.steps + 1) in
      begun_later st _ (λ st g. (with_some-alike L _ _ _ _ _ g (λ item _.
      then_do-alike L _ _ _ _ _ (destroyed_item-alike L script meant meant at item _ k g) (λ ns st g. k ns _ _ st g))).1)
  piece_later at (destroy_object p) st =
      let L = between (anything script) (st.steps + 1) budget in
      let k = onward_all (st.steps + 1) in
      begun_later st _ (λ st g. (with_class-alike L _ _ _ _ g (λ n.
      in_frame-alike L _ _ _ _ _ _ _ _ _ k g (λ ns w st g. plain-alike L _ _ w st g (λ _ st g. release-alike L _ _ g)))).1)

  -- whatever is to be done begins with a step
  pub meaning_later : (at : Context) (p : Todo) (st : State) → st.steps ≤ budget → IsLater st.steps (meant at p st) × Onward st.steps (meant at p st)
  meaning_later at p st within = (
    subst (IsLater st.steps) (sym (meaning_of-unfolds script budget at p st within)) (piece_later at p st),
    (onward_all st.steps [] at p st ((omega arith, within), tt, tt)).1,
  )

  -- what follows is asked later too
  pub later_then : (low : ℕ) (p : Process) (k : Way → State → Process) → IsLater low p → Onward low p →
      ((w : Way) (st : State) → low ≤ st.steps → st.steps ≤ budget → IsLater low (k w st)) → IsLater low (and_then p k)
  unfolding and_then
  later_then low (ends way st) k later on h = h way st on.0.0 on.0.1
  later_then low (stops stop st) k later on h = tt
  later_then low (asks t cut go) k later on h = later
  later_then low (notes q p) k later on h = later_then low p k later on.1 h

  -- and doesn't change whether an attempt is asked for at once
  pub asked_then : (low : ℕ) (p : Process) (k : Way → State → Process) → Onward low p →
      ((w : Way) (st : State) → low ≤ st.steps → st.steps ≤ budget → IsLater low (k w st)) → asks_at low (and_then p k) ≡ asks_at low p
  unfolding and_then
  asked_then low (ends way st) k on h = later_asks low (k way st) (h way st on.0.0 on.0.1)
  asked_then low (stops stop st) k on h = refl
  asked_then low (asks t cut go) k on h = refl
  asked_then low (notes q p) k on h = asked_then low p k on.1 h

  pub later_higher : (low n : ℕ) (p : Process) → low ≤ n → IsLater n p → IsLater low p
  later_higher low n (ends way st) le h = tt
  later_higher low n (stops stop st) le h = tt
  later_higher low n (asks t cut go) le h = omega (arith, le, h)
  later_higher low n (notes q p) le h = later_higher low n p le h

  release_onward : (p : Ptr) (low : ℕ) (st : State) → low ≤ st.steps → st.steps ≤ budget → IsLater low (release p st) × Onward low (release p st)
  unfolding release released
  release_onward p low st least most = (by (is_null p), (release-alike (between (anything script) low budget) {ns = []} p st ((least, most), tt, tt)).1)
    where
      found : (o : Option (Cell Content)) → IsLater low (released o p st)
      found None = tt
      found (Some c) = tt

      by : (b : Bool) → IsLater low (elim b [ true ↦ done st | false ↦ released (of_script (cell_at p st.heap.row)) p st ])
      by true = tt
      by false = found (of_script (cell_at p st.heap.row))

  require_onward : (b : Bool) (panic : Panic) (low : ℕ) (st : State) (go : State → Process) → low ≤ st.steps → st.steps ≤ budget → IsLater low (go st) → Onward low (go st) →
      IsLater low (require b panic st go) × Onward low (require b panic st go)
  unfolding require
  require_onward true panic low st go least most later on = (later, on)
  require_onward false panic low st go least most later on = (tt, (((least, most), tt, tt), tt))

  after_onward : (after : Afterwards) (p : Ptr) (st : State) → st.steps ≤ budget → IsLater st.steps (after_frame after p st) × Onward st.steps (after_frame after p st)
  after_onward nothing_more p st within = (tt, ((omega arith, within), tt, tt))
  after_onward (gives_to x) p st within = (tt, ((omega arith, within), tt, tt))
  after_onward (releases object) p st within = release_onward object st.steps st (omega arith) within

  -- items are destroyed, and then it ends
  pub destroyed_onward : (at : Context) (n : ℕ) (st : State) (go : State → Process) → st.steps ≤ budget → ((low : ℕ) (st : State) → IsLater low (go st)) →
      ((ns : List ℕ) (st' : State) → Fine (between (anything script) st.steps budget) ns st' → Alike (between (anything script) st.steps budget) ns (go st') (go st')) →
      IsLater st.steps (then_do (meant at (destroy_items n) st) go) × Onward st.steps (then_do (meant at (destroy_items n) st) go)
  unfolding then_do on_plain_end
  destroyed_onward at n st go within later keeps =
      let m = meaning_later at (destroy_items n) st within in (
        later_then st.steps (meant at (destroy_items n) st) (λ way st. on_plain_end way st go) m.0 m.1 by,
        (then_do-alike (between (anything script) st.steps budget) [] (meant at (destroy_items n) st) (meant at (destroy_items n) st) go go (refl, m.1) keeps).1,
      )
    where
      by : (w : Way) (st' : State) → st.steps ≤ st'.steps → st'.steps ≤ budget → IsLater st.steps (on_plain_end w st' go)
      by goes_on st' least most = later st.steps st'
      by (returns p) st' least most = tt
      by (leaves code) st' least most = tt

  resumed_onward : (p : Pending) (w : Way) (st : State) → st.steps ≤ budget → IsLater st.steps (resumed script budget p w st) × Onward st.steps (resumed script budget p w st)
  unfolding resumed on_plain_end trapped main_trapped plain
  resumed_onward (doing at p) goes_on st within = meaning_later at p st within
  resumed_onward (doing at p) (returns q) st within = (tt, ((omega arith, within), tt, tt))
  resumed_onward (doing at p) (leaves code) st within = (tt, ((omega arith, within), tt, tt))
  resumed_onward (catching at x entry) goes_on st within = require_onward _ _ st.steps st _ (omega arith) within tt ((omega arith, within), tt, tt)
  resumed_onward (catching at x entry) (returns q) st within = (tt, ((omega arith, within), tt, tt))
  resumed_onward (catching at x entry) (leaves code) st within = destroyed_onward at _ st _ within (λ low st. tt) (λ ns st g. (refl, g))
  resumed_onward (caught x code) goes_on st within = (tt, ((omega arith, within), tt, tt))
  resumed_onward (caught x code) (returns q) st within = (tt, ((omega arith, within), tt, tt))
  resumed_onward (caught x code) (leaves again) st within = (tt, ((omega arith, within), tt, tt))
  resumed_onward (calling frame after) goes_on st within = after_onward after _ (record st { frame = frame }) within
  resumed_onward (calling frame after) (returns q) st within = after_onward after q (record st { frame = frame }) within
  resumed_onward (calling frame after) (leaves code) st within = (tt, ((omega arith, within), tt, tt))
  resumed_onward (main_catching at) goes_on st within = require_onward _ _ st.steps st _ (omega arith) within tt ((omega arith, within), tt, tt)
  resumed_onward (main_catching at) (returns q) st within = require_onward _ _ st.steps st _ (omega arith) within tt ((omega arith, within), tt, tt)
  resumed_onward (main_catching at) (leaves code) st within = destroyed_onward at _ st _ within (λ low st. tt) (λ ns st g. (refl, g))
  resumed_onward (main_caught code) goes_on st within = (tt, ((omega arith, within), tt, tt))
  resumed_onward (main_caught code) (returns q) st within = (tt, ((omega arith, within), tt, tt))
  resumed_onward (main_caught code) (leaves again) st within = (tt, ((omega arith, within), tt, tt))

  -- what pieces make of an end asks for nothing before a step
  pub resume_later : (ps : List Pending) (w : Way) (st : State) → st.steps ≤ budget → IsLater st.steps (resume script budget ps w st)
  unfolding resume
  resume_later [] w st within = tt
  resume_later (p ∷ ps) w st within =
      let first = resumed_onward p w st within in
      later_then st.steps (resumed script budget p w st) (resume script budget ps) first.0 first.1
      (λ w st' least most. later_higher st.steps st'.steps (resume script budget ps w st') least (resume_later ps w st' most))

  -- which numbers attempts got doesn't matter
  any_numbers : (low : ℕ) (ns ms : List ℕ) (p : Process) → Keeps (between (anything script) low budget) ns p → Keeps (between (anything script) low budget) ms p
  any_numbers low ns ms (ends way st) k = k
  any_numbers low ns ms (stops stop st) k = k
  any_numbers low ns ms (asks t cut go) k = (k.0, k.1, k.2, λ n a. any_numbers low (n ∷ ns) (n ∷ ms) (go n a) (k.3 n a))
  any_numbers low ns ms (notes q p) k = (k.0, any_numbers low ns ms p k.1)

  -- and counts no more steps than the budget
  pub resume_onward : (ps : List Pending) (w : Way) (st : State) → st.steps ≤ budget → Onward st.steps (resume script budget ps w st)
  unfolding resume
  resume_onward [] w st within = ((omega arith, within), tt, tt)
  resume_onward (p ∷ ps) w st within =
      let L = between (anything script) st.steps budget in
      let first = resumed script budget p w st in
      let go = resume script budget ps in
      (and_then-alike L [] first first go go (refl, (resumed_onward p w st within).1) (λ ns w st' g. (
        refl,
        any_numbers st.steps [] ns (go w st') (shows_weaker (anything script) [] st.steps st'.steps budget g.0.0 (go w st') (resume_onward ps w st' g.0.1)),
      ))).1
