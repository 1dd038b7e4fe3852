-- Rest from turn to turn: what a machine's step does to its pending pieces.
use Rattle.std.proofs.Common.{◌≡◌, ℕ, suc, ◌≤◌, Bool, true, false, List, ◌∷◌, refl, ◌∙◌, ap, Option, Some, None}
use Rattle.std.proofs.Math.Path.{fun_ext}
use Rattle.std.specs.Prelude.{nat_lt}
use Rattle.wb_heap_model.specs.declared.heap.Ptr.{Ptr}
use Rattle.wb_heap_model.specs.declared.heap.Panic.{Panic}
use Rattle.wb_tree.specs.declared.script.Script.{Script}
use Rattle.wb_tree.specs.declared.script.Pointer.{Pointer}
use Rattle.wb_tree.specs.declared.script.Pointer.TheVariants.{Held, Field}
use Rattle.wb_tree.specs.declared.script.Condition.{Condition}
use Rattle.wb_tree.specs.declared.script.Condition.TheVariants.{IsNull, NotNull, Equal, Less}
use Rattle.wb_tree.specs.declared.script.StatementAt.{StatementAt}
use Rattle.wb_tree.specs.declared.script.Statement.TheOpen.{Statement-F}
use Rattle.wb_tree.specs.declared.script.Statement.TheViews.{out-Statement}
use Rattle.wb_meaning.specs.State.{State, Way, goes_on, Process, ends, stops, asks, notes, and_then, on_plain_end, then_do, with_some}
use Rattle.wb_meaning.specs.Operands.{with_cell, with_fields, with_pointer}
use Rattle.wb_meaning.specs.Statements.{all, turns, Context, statement, with_condition, choice}
use Rattle.wb_meaning.specs.Meaning.{begun, begun_if, piece, meaning_of}
use Rattle.wb_meaning.specs.Rest.{Pending, doing, resumed, resume}
use Rattle.wb_meaning.proofs.MeaningLemmas.{meaning_of-unfolds}

abbrev Go : Type 0
Go = Way → State → Process

pub and_then-assoc : (p : Process) (f g : Go) → and_then (and_then p f) g ≡ and_then p (λ w st. and_then (f w st) g)
unfolding and_then
and_then-assoc (ends way st) f g = refl
and_then-assoc (stops stop st) f g = refl
and_then-assoc (asks t cut go) f g = ap (asks t cut) (fun_ext (λ n. fun_ext (λ a. and_then-assoc (go n a) f g)))
and_then-assoc (notes q p) f g = ap (notes q) (and_then-assoc p f g)

pub begun-and_then : (budget : ℕ) (st : State) (go : State → Process) (k : Go) →
    and_then (begun budget st go) k ≡ begun budget st (λ st. and_then (go st) k)
unfolding begun begun_if and_then
begun-and_then budget st go k = by (nat_lt st.steps budget)
  where
    by : (b : Bool) → and_then (begun_if b st go) k ≡ begun_if b st (λ st. and_then (go st) k)
    by true = refl
    by false = refl

with_some-and_then : {A : Type 0} (o : Option A) (panic : Panic) (st : State) (go : A → Process) (k : Go) →
    and_then (with_some o panic st go) k ≡ with_some o panic st (λ a. and_then (go a) k)
unfolding with_some and_then
with_some-and_then (Some a) panic st go k = refl
with_some-and_then None panic st go k = refl

with_pointer-and_then : (st : State) (p : Pointer) (go : Ptr → Process) (k : Go) →
    and_then (with_pointer st p go) k ≡ with_pointer st p (λ q. and_then (go q) k)
unfolding with_pointer with_fields with_cell
with_pointer-and_then st (Held h) go k = refl
with_pointer-and_then st (Field h class i) go k =
    with_some-and_then _ _ _ _ k ∙ ap (with_some _ _ _) (fun_ext (λ c. with_some-and_then _ _ _ _ k))

with_condition-and_then : (st : State) (c : Condition) (go : Bool → Process) (k : Go) →
    and_then (with_condition st c go) k ≡ with_condition st c (λ b. and_then (go b) k)
unfolding with_condition
with_condition-and_then st (IsNull p) go k = with_pointer-and_then st p _ k
with_condition-and_then st (NotNull p) go k = with_pointer-and_then st p _ k
with_condition-and_then st (Equal v w) go k = refl
with_condition-and_then st (Less v w) go k = refl

-- the turn that begins a statement
pub resume-all : (script : Script) (budget : ℕ) (at : Context) (s : StatementAt) (ss : List StatementAt) (ps : List Pending) (st : State) → st.steps ≤ budget →
    resume script budget (doing at (all (s ∷ ss)) ∷ ps) goes_on st
    ≡ begun budget st (λ st. and_then (statement script (meaning_of script budget) at (out-Statement s.statement) st) (resume script budget (doing at (all ss) ∷ ps)))
unfolding resume resumed on_plain_end piece then_do
resume-all script budget at s ss ps st f =
    ap (λ p. and_then p (resume script budget ps)) (meaning_of-unfolds script budget at (all (s ∷ ss)) st f)
    ∙ begun-and_then budget st _ (resume script budget ps)
    ∙ ap (begun budget st) (fun_ext (λ st. and_then-assoc (statement script (meaning_of script budget) at (out-Statement s.statement) st) _ (resume script budget ps)))

-- the turn that begins a turn of a loop
pub resume-turns : (script : Script) (budget : ℕ) (at : Context) (n : ℕ) (body : List StatementAt) (ps : List Pending) (st : State) → st.steps ≤ budget →
    resume script budget (doing at (turns (suc n) body) ∷ ps) goes_on st
    ≡ begun budget st (λ st. resume script budget (doing at (all body) ∷ doing at (turns n body) ∷ ps) goes_on st)
unfolding resume resumed on_plain_end piece then_do
resume-turns script budget at n body ps st f =
    ap (λ p. and_then p (resume script budget ps)) (meaning_of-unfolds script budget at (turns (suc n) body) st f)
    ∙ begun-and_then budget st _ (resume script budget ps)
    ∙ ap (begun budget st) (fun_ext (λ st. and_then-assoc (meaning_of script budget at (all body) st) _ (resume script budget ps)))

-- an `if` leaves its part before the rest of the block
pub resume-if : (script : Script) (budget : ℕ) (at : Context) (s : StatementAt) (c : Condition) (one other ss : List StatementAt) (ps : List Pending) (st : State) →
    out-Statement s.statement ≡ Statement-F.IfElse c one other → st.steps ≤ budget →
    resume script budget (doing at (all (s ∷ ss)) ∷ ps) goes_on st
    ≡ begun budget st (λ st. with_condition st c (λ b. resume script budget (doing at (all (choice b one other)) ∷ doing at (all ss) ∷ ps) goes_on st))
unfolding resume resumed on_plain_end statement
resume-if script budget at s c one other ss ps st is f =
    resume-all script budget at s ss ps st f
    ∙ ap (begun budget st) (fun_ext (λ st.
    ap (λ layer. and_then (statement script (meaning_of script budget) at layer st) (resume script budget (doing at (all ss) ∷ ps))) is
    ∙ with_condition-and_then st c _ (resume script budget (doing at (all ss) ∷ ps))))
