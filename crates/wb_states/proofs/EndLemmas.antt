-- What the end of a run says of the sets that go on from it.
use Rattle.std.proofs.Common.{◌≡◌, ℕ, ◌≤◌, ◌&&◌, not, arith, Bool, List, [], ◌∷◌, ◌++◌, Some, sym, ◌∙◌, ap, subst, inl, inr}
use Rattle.std.specs.Prelude.{slice_get}
use Rattle.wb_machine.specs.Seen.{Seen}
use Rattle.wb_heap_model.specs.declared.heap.Rule.{Rule}
use Rattle.wb_heap_model.specs.declared.heap.Rule.TheVariants.{Set}
use Rattle.wb_heap_model.specs.declared.heap.Shape.{Shape}
use Rattle.wb_tree.specs.declared.script.Script.{Script}
use Rattle.wb_meaning.specs.declared.run.Outcome.{Outcome}
use Rattle.wb_meaning.specs.declared.run.RunResult.{RunResult}
use Rattle.wb_meaning.specs.Run.{is_bad_outcome, run}
use Rattle.wb_runs.specs.Sets.{IsSet}
use Rattle.wb_runs.specs.Sweeps.{is_cut_outcome, is_fine}
use Rattle.wb_states.specs.Ground.{past, run_of, Ground, IsTriedSet}
use Rattle.wb_states.specs.declared.search.Search.{Search}
use Rattle.wb_states.specs.States.{ground_of, HasGrown, IsNoneOrTried, IsRunUnder}

-- the run of a machine's script under a rule is the run under the set of the machine, if the rule is that set
pub run-again : (g : Ground) (numbers : List ℕ) (m : Seen) (rule : Rule) → IsRunUnder g numbers m → rule ≡ Set numbers →
    run m.script rule m.budget m.shape ≡ run_of g numbers
run-again g numbers m rule is same =
    ap (λ (r : Rule). run m.script r m.budget m.shape) same
    ∙ ap (λ (s : Script). run s (Set numbers) m.budget m.shape) is.script
    ∙ ap (λ (b : ℕ). run g.script (Set numbers) b m.shape) is.budget
    ∙ ap (λ (s : Shape). run g.script (Set numbers) g.budget s) is.shape

-- a run is judged by its outcome alone
pub judged-by : (outcome : Outcome) (run_result : RunResult) (judged : Bool) → outcome ≡ run_result.outcome →
    judged ≡ (not (is_bad_outcome outcome) && not (is_cut_outcome outcome)) → is_fine run_result ≡ judged
judged-by outcome run_result judged same is = ap (λ (o : Outcome). not (is_bad_outcome o) && not (is_cut_outcome o)) (sym same) ∙ sym is

-- a search is the same but for the set that it shows
pub shown-grown : (s t : Search) → t ≡ record s { shown = t.shown } → HasGrown s t
shown-grown s t same = record {
  ground = ap ground_of same;
  granted = ap (λ (x : Search). x.granted) same;
  failed = ap (λ (x : Search). x.failed) same;
  states = λ i state at. subst (λ (x : Search). slice_get x.states i ≡ Some state) (sym same) at;
}

-- where the set of a run isn't tried, that of the run without failure, none is that goes on past its end
pub none-goes-on : (g : Ground) (numbers : List ℕ) (attempts : ℕ) → IsNoneOrTried g numbers → (IsTriedSet g numbers → ⊥) → (numbers ≡ [] → g.last ≤ attempts) →
    (more : List ℕ) → IsSet more → IsTriedSet g (numbers ++ past attempts more) → ⊥
none-goes-on g numbers attempts (inr tried) untried ends more up is = untried tried
none-goes-on g numbers attempts (inl empty) untried ends more up is = by more up (subst (λ ns. IsTriedSet g (ns ++ past attempts more)) empty is)
  where
    not_empty : IsTriedSet g [] → ⊥
    not_empty tried = untried (subst (IsTriedSet g) (sym empty) tried)

    by : (more : List ℕ) → IsSet more → IsTriedSet g (past attempts more) → ⊥
    by [] up tried = not_empty tried
    by (n ∷ ns) up tried = not_empty (record { set = tt; least = λ part. (let made = ends empty in absurd (omega (arith, (tried.least part).made, up.0, made))) })
