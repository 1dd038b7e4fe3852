-- Runs in which the attempts of a set fail, and copies of them.
use Rattle.std.proofs.Common.{◌≡◌, ℕ, arith, Bool, true, false, List, [], ◌∷◌, ◌++◌, sym, ◌∙◌, ap, subst, cond, Result, Ok, Err}
use Rattle.std.specs.Prelude.{IfOk}
use Rattle.std.specs.List.{All}
use Rattle.std.proofs.lemmas.List.Elements.{All-cons, All-push, All-same}
use Rattle.wb_basics.specs.declared.limits.TheConstants.{CEILING}
use Rattle.wb_heap_model.specs.declared.heap.Rule.{Rule}
use Rattle.wb_heap_model.specs.declared.heap.Rule.TheVariants.{Set}
use Rattle.wb_heap_model.specs.declared.heap.Shape.{Shape}
use Rattle.wb_meaning.specs.declared.run.RunResult.{RunResult}
use Rattle.wb_meaning.specs.Run.{run}
use Rattle.wb_meaning.proofs.TraceLemmas.{line_at, run-lines}
use Rattle.wb_tree.specs.declared.script.Script.{Script}
use Rattle.wb_runs.specs.Sets.{set_run}
use Rattle.wb_lengths.specs.declared.forks.Forks.{Forks}
use Rattle.wb_lengths.specs.declared.set_run.SetRun.{SetRun}
use Rattle.wb_lengths.specs.Forks.{IsOf, IsOfSame, KeepsForks}
use Rattle.wb_lengths.specs.SetHeaps.{TellsRunIn, shows_run_in}
use Rattle.wb_lengths.specs.Walk.{GrantsWithin}
use Rattle.wb_lengths.proofs.SetHeaps.{tells-by-set}

-- what is of the same as a run is of what the run is of
pub of-same : (script : Script) (budget : ℕ) (shape : Shape) (old new : SetRun) → IsOfSame old new → IsOf script budget shape old → IsOf script budget shape new
of-same script budget shape old new same is = record {
  same_script = same.same_script ∙ is.same_script;
  same_budget = same.same_budget ∙ is.same_budget;
  same_shape = same.same_shape ∙ is.same_shape;
}

-- where the forks stay, they are of the same
pub keeps-same : (old new : Forks) → new.runs.items ≡ old.runs.items → KeepsForks old new
keeps-same old new e script budget shape are = All-same (IsOf script budget shape) new.runs.items old.runs.items e are

-- a list that one element was added to, unless memory ran out
pub all-added : {X : Type 0} (P : X → Type 0) (xs ys : List X) (x : X) (b : Bool) → ys ≡ cond b (xs ++ x ∷ []) xs → All P xs → P x → All P ys
all-added P xs ys x true e are is = All-same P ys (xs ++ x ∷ []) e (All-push P xs x are is)
all-added P xs ys x false e are is = All-same P ys xs e are

-- and at its front
pub all-put_first : {X : Type 0} (P : X → Type 0) (xs ys : List X) (x : X) (b : Bool) → ys ≡ cond b (x ∷ xs) xs → All P xs → P x → All P ys
all-put_first P xs ys x true e are is = All-same P ys (x ∷ xs) e (All-cons P x xs is are)
all-put_first P xs ys x false e are is = All-same P ys xs e are

-- what follows where a call was well
pub map_ok : {A E : Type 0} {P Q : A → Type 0} (r : Result A E) → ((a : A) → P a → Q a) → IfOk r P → IfOk r Q
map_ok (Ok a) f is = f a is
map_ok (Err e) f is = is

-- what a run under any rule grants ends within the ceiling
pub run-grants-within : (script : Script) (budget : ℕ) (shape : Shape) (rule : Rule) → GrantsWithin CEILING (run script rule budget shape).trace
run-grants-within script budget shape rule k t there granted =
    let line = line_at rule 0 _ (run script rule budget shape).trace k t (run-lines script budget shape rule) there in
    let is = line.2 in
    let within = (is.granted granted).1 in
    let placed = is.place in
    let long = is.length in omega arith

-- so does that under a set
pub set-grants-within : (script : Script) (budget : ℕ) (shape : Shape) (numbers : List ℕ) (told : RunResult) → told ≡ set_run script budget shape numbers →
    GrantsWithin CEILING told.trace
set-grants-within script budget shape numbers told is =
    subst (λ (r : RunResult). GrantsWithin CEILING r.trace) (sym is) (run-grants-within script budget shape (Set numbers))

-- what the run under a set shows, its result tells
pub set-tells : (script : Script) (budget : ℕ) (shape : Shape) (length : ℕ) (numbers : List ℕ) (told : RunResult) → told ≡ set_run script budget shape numbers →
    shows_run_in length numbers told ≡ true → TellsRunIn script budget shape length told
set-tells script budget shape length numbers told is shows =
    subst (TellsRunIn script budget shape length) (sym is)
    (tells-by-set script budget shape length numbers (ap (shows_run_in length numbers) (sym is) ∙ shows))
