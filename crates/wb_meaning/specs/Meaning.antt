-- The meaning of what is still to do, as one recursion on the steps left.
use Rattle.std.specs.Prelude.{ℕ, zero, suc, ◌+◌, [], ◌∷◌, Bool, true, false, nat_lt, unwrap_or}
use Rattle.wb_heap_model.specs.declared.heap.TheConstants.Panic.{POP_BELOW_TRAP}
use Rattle.wb_meaning.specs.declared.run.Why.TheVariants.{Budget}
use Rattle.wb_tree.specs.declared.script.Script.{Script}
use Rattle.wb_tree.specs.declared.script.Statement.TheViews.{out-Statement}
use Rattle.wb_meaning.specs.State.{State, Process, stops, is_cut, then_do, with_some}
use Rattle.wb_meaning.specs.Statements.{all, turns, destroy_items, destroy_object, Meaning, done, statement, in_frame, plain, release, with_class, drop_newest, destroyed_item}
use Rattle.wb_heap_model.specs.Pointers.{newest}
use Rattle.wb_tree.specs.Bodies.{class_at, no_body}

-- a step is counted and what it begins follows, or the budget cuts the run
unfoldable pub begun_if : Bool → State → (State → Process) → Process
begun_if true st go = go (record st { steps = st.steps + 1 })
begun_if false st go = stops (is_cut Budget) st

unfoldable pub begun : ℕ → State → (State → Process) → Process
begun budget st go = begun_if (nat_lt st.steps budget) st go

-- one piece, where `rec` is the meaning of what comes after its first step
unfoldable pub piece : Script → ℕ → Meaning → Meaning
piece script budget rec at (all []) st = done st
piece script budget rec at (all (s ∷ rest)) st =
    begun budget st (λ st. then_do (statement script rec at (out-Statement s.statement) st) (rec at (all rest)))
piece script budget rec at (turns zero body) st = done st
piece script budget rec at (turns (suc n) body) st =
    begun budget st (λ st. then_do (rec at (all body) st) (rec at (turns n body)))
piece script budget rec at (destroy_items zero) st = done st
piece script budget rec at (destroy_items (suc n)) st =
    -- that many items are there, so that this WORKBENCH 3 is never met
    begun budget st (λ st. with_some (newest st.items) POP_BELOW_TRAP st (λ item.
    then_do (destroyed_item script rec at item (drop_newest 1 st)) (rec at (destroy_items n))))
piece script budget rec at (destroy_object p) st =
    begun budget st (λ st. with_class st p (λ class.
    in_frame rec at p [] (unwrap_or (class_at script class).destroy no_body) st (plain (λ _ st. release p st))))

-- at most a number of pieces inside one another; with one more than the budget that bound is never met, since each takes a step
unfoldable pub meaning_within : Script → ℕ → ℕ → Meaning
meaning_within script budget zero at p st = stops (is_cut Budget) st
meaning_within script budget (suc n) at p st = piece script budget (meaning_within script budget n) at p st

-- the meaning, without the bound
unfoldable pub meaning_of : Script → ℕ → Meaning
meaning_of script budget = meaning_within script budget (suc budget)
