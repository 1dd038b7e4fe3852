-- Every state that a run shows has cells in a row, and printed lines of printable ASCII, for every script: the induction over
-- what is still to do, at these facts.
use Rattle.std.proofs.Common.{◌≡◌, ℕ, suc, ◌+◌, ◌≤◌, arith, List, [], ◌∷◌, length, refl, subst, Option, Some, None}
use Rattle.std.specs.Prelude.{ℤ, All}
use Rattle.std.proofs.lemmas.List.Elements.{All-nil, All-push, All-filter}
use Rattle.wb_heap_model.specs.declared.heap.Ptr.{Ptr}
use Rattle.wb_heap_model.specs.declared.heap.Rule.{Rule}
use Rattle.wb_heap_model.specs.declared.heap.Shape.{Shape}
use Rattle.wb_heap_model.specs.declared.heap.Answer.{Answer}
use Rattle.wb_heap_model.specs.declared.heap.Answer.TheVariants.{Refused, Simulated}
use Rattle.wb_heap_model.specs.declared.reported.Leak.{Leak}
use Rattle.wb_meaning.specs.declared.run.Why.TheVariants.{Ceiling}
use Rattle.wb_meaning.specs.declared.run.Outcome.TheVariants.{Ended}
use Rattle.wb_tree.specs.declared.script.Script.{Script}
use Rattle.wb_heap_model.specs.Row.{headers}
use Rattle.wb_heap_model.specs.Heap.{cells_of_all_levels}
use Rattle.wb_heap_model.specs.Placement.{Placement, placement_of}
use Rattle.wb_heap_model.specs.Rules.{answer_to}
use Rattle.wb_heap_model.specs.Space.{Space, space_of}
use Rattle.wb_meaning.specs.State.{State, Way, goes_on, returns, leaves, Query, heap_note, available_note, compress_note, panics, is_cut, no_cleanup, Process, ends, stops, asks, notes}
use Rattle.wb_meaning.specs.Statements.{Context}
use Rattle.wb_meaning.specs.Meaning.{meaning_of, meaning_within}
use Rattle.wb_meaning.specs.Account.{over, stopped, End, Account, Settled, settled, on_answer, recorded, noted, next_number}
use Rattle.wb_meaning.specs.Run.{start, main_trapped, in_main, started, process, before, run, outcome_of}
use Rattle.wb_meaning.specs.Printable.{ArePrintable}
use Rattle.wb_meaning.specs.Throughout.{Throughout, AreCellsAfter, AreLeaksAfter}
use Rattle.wb_meaning.specs.Traces.{TellsSettings}
use Rattle.wb_meaning.proofs.AccountLemmas.{before-lines, settled-keeps}
use Rattle.wb_meaning.proofs.AlikeLemmas.{Lasting, Shows, Fine, Keeps, Alike, AlikeAll, and_then-alike, then_do-alike, require-alike, allocate-alike}
use Rattle.wb_meaning.proofs.AlikePieces.{between, shows_weaker, meaning_within-alike}
use Rattle.wb_meaning.proofs.MeaningLemmas.{anything}
use Rattle.wb_meaning.proofs.KeptCells.{AreCounted, cells}
use Rattle.wb_heap_model.proofs.Rows.{IsRow-filter}

-- a whole run keeps what lasts
module _ (L : Lasting) (budget : ℕ) where
  abbrev B : Lasting
  B = between L 0 budget

  meaning-keeps : AlikeAll B (meaning_of L.script budget) (meaning_of L.script budget)
  unfolding meaning_of
  meaning-keeps ns at p st f = (
    refl,
    shows_weaker L ns 0 st.steps budget (omega arith) (meaning_within L.script budget (suc budget) at p st)
        (meaning_within-alike L budget (suc budget) (suc budget) ns at p st f.0.1 f.1 f.2 (omega arith) (omega arith)).1,
  )

  main_trapped-keeps : (ns : List ℕ) (at : Context) (w : Way) (st : State) → Fine B ns st → Alike B ns (main_trapped (meaning_of L.script budget) at w st) (main_trapped (meaning_of L.script budget) at w st)
  unfolding main_trapped
  main_trapped-keeps ns at (leaves code) st f = then_do-alike B _ _ _ _ _ (meaning-keeps ns at _ st f) (λ ns st f. (refl, f))
  main_trapped-keeps ns at goes_on st f = require-alike B _ _ _ _ _ f (refl, f)
  main_trapped-keeps ns at (returns p) st f = require-alike B _ _ _ _ _ f (refl, f)

  started-keeps : (ns : List ℕ) (o : Option Ptr) (st : State) → Fine B ns st → Alike B ns (started (meaning_of L.script budget) L.script o st) (started (meaning_of L.script budget) L.script o st)
  unfolding started in_main
  started-keeps ns None st f = (refl, (f, tt))
  started-keeps ns (Some p) st f = and_then-alike B _ _ _ _ _ (meaning-keeps ns _ _ _ f) (λ ns w st f. main_trapped-keeps ns _ w st f)

  pub process-keeps : (placement : Placement) → L.Holds [] (start placement).heap → L.Prints [] → Keeps B [] (process L.script budget placement)
  unfolding process
  process-keeps placement first none = (allocate-alike B _ _ _ (start placement) _ _ tt ((omega arith, omega arith), first, none) started-keeps).1

-- what follows from a lasting fact, where attempts are numbered in order
throughout : (L : Lasting) (P : ℕ → State → Type 0) → ((ns : List ℕ) (st : State) → AreCounted ns → Fine L ns st → P (length ns) st) →
    (ns : List ℕ) (p : Process) → Keeps L ns p → AreCounted ns → Throughout P (length ns) p
throughout L P is ns (ends way st) k counted = is ns st counted k
throughout L P is ns (stops stop st) k counted = is ns st counted k.0
throughout L P is ns (asks t cut go) k counted = (
  is ns cut counted k.0,
  λ a.
      let n = length ns + 1 in
      let longer : length (n ∷ ns) ≡ length ns + 1 = omega arith in
      subst (λ m. Throughout P m (go n a)) longer (throughout L P is (n ∷ ns) (go n a) (k.3 n a) (refl, counted)),
)
throughout L P is ns (notes q p) k counted = ((k.0.0, is ns k.0.0 counted k.0.1, k.0.2), throughout L P is ns p k.1 counted)

abbrev HasCells : Script → ℕ → State → Type 0
HasCells script made st = AreCellsAfter script made st.heap.row

pub process-throughout : (script : Script) (budget : ℕ) (shape : Shape) → Throughout (HasCells script) 0 (process script budget (placement_of shape))
process-throughout script budget shape =
    throughout (between (cells script) 0 budget) (HasCells script) (λ ns st counted f. (f.1 counted).1) [] (process script budget (placement_of shape))
    (process-keeps (cells script) budget (placement_of shape) (λ counted. (
      tt,
      record {
        row = record { spaced = tt; numbered = λ i j d lt end. absurd (omega (arith, end)) };
        made_before = All-nil _;
        kinds = All-nil _;
      },
    )) tt) tt

abbrev HasPrinted : ℕ → State → Type 0
HasPrinted made st = All ArePrintable st.lines

-- what a script prints is printable
abbrev lines : Script → Lasting
lines script = record (anything script) { Prints = All ArePrintable; printed = λ lines line is are. All-push ArePrintable lines line are is }

process-prints : (script : Script) (budget : ℕ) (placement : Placement) → Throughout HasPrinted 0 (process script budget placement)
process-prints script budget placement =
    throughout (between (lines script) 0 budget) HasPrinted (λ ns st counted f. f.2) [] (process script budget placement)
    (process-keeps (lines script) budget placement tt (All-nil ArePrintable)) tt

-- each attempt tells whether the setting at the time refuses it
tells : (L : Lasting) (ns : List ℕ) (p : Process) → Keeps L ns p → TellsSettings p
tells L ns (ends way st) k = tt
tells L ns (stops stop st) k = tt
tells L ns (asks t cut go) k = (k.1, λ n a. tells L (n ∷ ns) (go n a) (k.3 n a))
tells L ns (notes q p) k = tells L ns p k.1

pub process-tells : (script : Script) (budget : ℕ) (placement : Placement) → TellsSettings (process script budget placement)
process-tells script budget placement =
    tells (between (anything script) 0 budget) [] (process script budget placement) (process-keeps (anything script) budget placement tt tt)

-- a refusal of either kind makes no difference to what follows
abbrev pub TakesRefusalsAlike : Process → Type 0
TakesRefusalsAlike (ends way st) = Unit {0}
TakesRefusalsAlike (stops stop st) = Unit {0}
TakesRefusalsAlike (asks t cut go) = ((n : ℕ) → go n Refused ≡ go n Simulated) × ((n : ℕ) (answer : Answer) → TakesRefusalsAlike (go n answer))
TakesRefusalsAlike (notes q p) = TakesRefusalsAlike p

takes-alike : (L : Lasting) (ns : List ℕ) (p : Process) → Keeps L ns p → TakesRefusalsAlike p
takes-alike L ns (ends way st) k = tt
takes-alike L ns (stops stop st) k = tt
takes-alike L ns (asks t cut go) k = (k.2, λ n a. takes-alike L (n ∷ ns) (go n a) (k.3 n a))
takes-alike L ns (notes q p) k = takes-alike L ns p k.1

pub process-takes-alike : (script : Script) (budget : ℕ) (placement : Placement) → TakesRefusalsAlike (process script budget placement)
process-takes-alike script budget placement =
    takes-alike (between (anything script) 0 budget) [] (process script budget placement) (process-keeps (anything script) budget placement tt tt)

-- the state in which a run ends or stops
settled-holds : (P : ℕ → State → Type 0) (rule : Rule) (space : Space) (p : Process) (a : Account) → Throughout P a.attempts p →
    P (settled rule space p a).account.attempts (settled rule space p a).state
settled-holds P rule space (ends way st) a h = h
settled-holds P rule space (stops stop st) a h = h
settled-holds P rule space (asks t cut go) a h =
    told (answer_to rule (next_number a) t) (λ w. settled-holds P rule space (go (next_number a) w) (recorded space (next_number a) t w a) (h.1 w))
  where
    told : (o : Option Answer) →
        ((w : Answer) → P (settled rule space (go (next_number a) w) (recorded space (next_number a) t w a)).account.attempts
        (settled rule space (go (next_number a) w) (recorded space (next_number a) t w a)).state) →
        P (on_answer o (record { end = stopped (is_cut Ceiling); state = cut; account = a })
        (λ w. settled rule space (go (next_number a) w) (recorded space (next_number a) t w a))).account.attempts
        (on_answer o (record { end = stopped (is_cut Ceiling); state = cut; account = a })
        (λ w. settled rule space (go (next_number a) w) (recorded space (next_number a) t w a))).state
    told None rest = h.0
    told (Some w) rest = rest w
settled-holds P rule space (notes q p) a h = by q (λ q. settled-holds P rule space p (noted space q a))
  where
    by : (q : Query) →
        ((q : Query) → Throughout P (noted space q a).attempts p →
        P (settled rule space p (noted space q a)).account.attempts (settled rule space p (noted space q a)).state) →
        P (settled rule space p (noted space q a)).account.attempts (settled rule space p (noted space q a)).state
    by (heap_note count total) rest = rest (heap_note count total) h.1
    by (available_note row) rest = rest (available_note row) h.1
    by (compress_note top) rest = rest (compress_note top) h.1

-- the same of a fact of the states alone that a process shows
pub settled-shows : (P : State → Type 0) (rule : Rule) (space : Space) (ns : List ℕ) (p : Process) (a : Account) → Shows (λ _ st. P st) ns p →
    P (settled rule space p a).state
settled-shows P rule space ns (ends way st) a k = k
settled-shows P rule space ns (stops stop st) a k = k.0
settled-shows P rule space ns (asks t cut go) a k =
    told (answer_to rule (next_number a) t) (λ w.
    settled-shows P rule space (next_number a ∷ ns) (go (next_number a) w) (recorded space (next_number a) t w a) (k.3 (next_number a) w))
  where
    told : (o : Option Answer) → ((w : Answer) → P (settled rule space (go (next_number a) w) (recorded space (next_number a) t w a)).state) →
        P (on_answer o (record { end = stopped (is_cut Ceiling); state = cut; account = a })
        (λ w. settled rule space (go (next_number a) w) (recorded space (next_number a) t w a))).state
    told None rest = k.0
    told (Some w) rest = rest w
settled-shows P rule space ns (notes q p) a k = settled-shows P rule space ns p (noted space q a) k.1

-- the leaks of a run are cells of its last row
pub run-leaks : (script : Script) (budget : ℕ) (shape : Shape) (rule : Rule) (left : Option ℤ) (leaks : List Leak) →
    (run script rule budget shape).outcome ≡ Ended left leaks → AreLeaksAfter (length (run script rule budget shape).trace) leaks
run-leaks script budget shape rule left leaks = by last.end
  where
    last : Settled
    last = settled rule (space_of rule shape) (process script budget (placement_of shape)) (before (space_of rule shape))

    is : AreCellsAfter script (length last.account.trace) last.state.heap.row
    is =
        subst (λ n. AreCellsAfter script n last.state.heap.row) (settled-keeps rule (space_of rule shape) (process script budget (placement_of shape)) _ (before-lines (space_of rule shape))).lines
        (settled-holds (HasCells script) rule (space_of rule shape) (process script budget (placement_of shape)) (before (space_of rule shape)) (process-throughout script budget shape))

    by : (end : End) → outcome_of end last.state ≡ Ended left leaks → AreLeaksAfter (length last.account.trace) leaks
    by (over way) e = record {
      cells = cells_of_all_levels (headers last.state.heap.row);
      told = cc;
      row = IsRow-filter _ (headers last.state.heap.row) is.row;
      made_before = All-filter _ (λ h. h.number ≤ length last.account.trace) (headers last.state.heap.row) is.made_before;
    }
    by (stopped (panics p)) e = cc
    by (stopped (is_cut why)) e = cc
    by (stopped no_cleanup) e = cc

-- the lines of a run are those of its last state
pub run-prints : (script : Script) (budget : ℕ) (shape : Shape) (rule : Rule) → All ArePrintable (run script rule budget shape).lines
run-prints script budget shape rule = settled-holds HasPrinted rule (space_of rule shape) (process script budget (placement_of shape)) (before (space_of rule shape)) (process-prints script budget (placement_of shape))
