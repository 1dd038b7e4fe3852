-- What follows for a run that goes on like another, both under sets that lie behind them: the same further attempts fail in both.
use Rattle.std.proofs.Common.{◌≡◌, ◌≢◌, ℕ, ◌+◌, ◌≤◌, ◌||◌, ◌&&◌, not, Bool, true, false, List, [], ◌∷◌, ◌++◌, refl, sym, ap, ◌∙◌, subst, arith, inr, Some, None, cond}
use Rattle.std.specs.Prelude.{nat_eq}
use Rattle.std.proofs.lemmas.Bool.{eq-eqb, eqb-true, eqb-false, ne_eqb, true≢false}
use Rattle.wb_machine.specs.Alike.{reached_by, whole_run_under, GoesOnLike}
use Rattle.wb_machine.specs.Seen.{Seen}
use Rattle.wb_machine.proofs.whole_runs.OverRuns.{outcome_of_whole, steps_of_whole}
use Rattle.wb_heap_model.specs.declared.heap.Answer.TheVariants.{Simulated}
use Rattle.wb_heap_model.specs.declared.heap.Rule.{Rule}
use Rattle.wb_heap_model.specs.declared.heap.Rule.TheVariants.{Set}
use Rattle.wb_heap_model.specs.declared.heap.Shape.{Shape}
use Rattle.wb_meaning.specs.declared.run.Outcome.{Outcome}
use Rattle.wb_meaning.specs.declared.run.Outcome.TheVariants.{Cut}
use Rattle.wb_meaning.specs.declared.run.RunResult.{RunResult}
use Rattle.wb_meaning.specs.declared.run.Why.TheVariants.{Budget}
use Rattle.wb_tree.specs.declared.script.Script.{Script}
use Rattle.wb_renaming.specs.Follows.{ComesToTheSame, RefusesAlike, RestsAgree}
use Rattle.wb_heap_model.specs.SameRules.{Fits, SameSoFar}
use Rattle.wb_meaning.specs.Run.{is_bad_outcome, run, WholeRun}
use Rattle.wb_runs.specs.Sets.{AscendsPast, IsSet}
use Rattle.wb_runs.specs.Sweeps.{is_cut_outcome, is_fine}
use Rattle.wb_runs.proofs.PartAnswers.{fine_is_uncut}
use Rattle.wb_runs.proofs.SameJudged.{judged-same}
use Rattle.wb_runs.proofs.SetLemmas.{ascends-weaker, is_in, not-before}
use Rattle.wb_states.specs.declared.state.State.{State}
use Rattle.wb_states.specs.Ground.{past, run_of, Ground, Meets}
use Rattle.wb_runs.specs.Met.{AreWithin}
use Rattle.wb_states.specs.States.{IsRunOf, IsUnderWay}

-- ---- which attempts are in a set

any-append : (number : ℕ) (xs ys : List ℕ) → is_in number (xs ++ ys) ≡ (is_in number xs || is_in number ys)
any-append number [] ys = refl
any-append number (x ∷ xs) ys = by (nat_eq x number) (any-append number xs ys)
  where
    by : (b : Bool) → is_in number (xs ++ ys) ≡ (is_in number xs || is_in number ys) →
        (b || is_in number (xs ++ ys)) ≡ ((b || is_in number xs) || is_in number ys)
    by true h = refl
    by false h = h

or-false : (b : Bool) → (b || false) ≡ b
or-false true = refl
or-false false = refl

-- numbers counted on from an attempt are past it
past-ascends : (attempts before : ℕ) (ns : List ℕ) → AscendsPast before ns → AscendsPast (attempts + before) (past attempts ns)
past-ascends attempts before [] up = tt
past-ascends attempts before (n ∷ ns) up = (omega (arith, up.0), past-ascends attempts n ns up.1)

same-difference : (attempts m n : ℕ) → nat_eq (attempts + m) (attempts + n) ≡ nat_eq m n
same-difference attempts m n = by (nat_eq m n) refl
  where
    by : (b : Bool) → nat_eq m n ≡ b → nat_eq (attempts + m) (attempts + n) ≡ b
    by true e = let same = eqb-true m n e in eq-eqb (attempts + m) (attempts + n) (omega (arith, same))
    by false e = ne_eqb (attempts + m) (attempts + n) (λ z. let same : m ≡ n = omega (arith, z) in eqb-false m n e same)

past-has : (attempts n : ℕ) (ns : List ℕ) → is_in (attempts + n) (past attempts ns) ≡ is_in n ns
past-has attempts n [] = refl
past-has attempts n (m ∷ ms) =
    ap (λ b. b || is_in (attempts + n) (past attempts ms)) (same-difference attempts m n) ∙ ap (λ b. nat_eq m n || b) (past-has attempts n ms)

-- none is past an attempt within which all are
none-past : (attempts n : ℕ) (ns : List ℕ) → AreWithin attempts ns → 1 ≤ n → is_in (attempts + n) ns ≡ false
none-past attempts n [] within from = refl
none-past attempts n (m ∷ ms) within from =
    ap (λ b. b || is_in (attempts + n) ms) (ne_eqb m (attempts + n) (λ z. omega (arith, z, within.0, from))) ∙ none-past attempts n ms within.1 from

-- of the attempts past one, within which a set is, a set with further numbers counted on from it has the further ones
from-there : (attempts n : ℕ) (set more : List ℕ) → AreWithin attempts set → 1 ≤ n → is_in (attempts + n) (set ++ past attempts more) ≡ is_in n more
from-there attempts n set more within from =
    any-append (attempts + n) set (past attempts more) ∙ ap (λ b. b || is_in (attempts + n) (past attempts more)) (none-past attempts n set within from)
    ∙ past-has attempts n more

-- ---- what the rules say

-- a set with further numbers past an attempt refuses the same of the attempts so far
pub same-before : (attempts : ℕ) (set rest : List ℕ) → AscendsPast attempts rest → SameSoFar (Set (set ++ rest)) (Set set) attempts
same-before attempts set rest up = record {
  no_limit = refl;
  own_no_limit = refl;
  same = λ number end first made.
      ap (λ b. cond b (Some Simulated) None)
      (any-append number set rest ∙ ap (λ b. is_in number set || b) (not-before attempts number rest up made) ∙ or-false (is_in number set));
}

same-so-far : (attempts : ℕ) (set more : List ℕ) → IsSet more → SameSoFar (Set (set ++ past attempts more)) (Set set) attempts
same-so-far attempts set more up =
    same-before attempts set (past attempts more) (ascends-weaker attempts (attempts + 0) (past attempts more) (omega arith) (past-ascends attempts 0 more up))

-- the rule of a set that goes on from a state refuses the same of the attempts of a run that has come to the state
pub fits-further : (m copy : Seen) (state : State) (numbers further : List ℕ) → copy ≡ m → m.rule ≡ Set state.numbers → m.attempts ≡ state.attempts →
    further ≡ numbers → (rest : List ℕ) → numbers ≡ state.numbers ++ rest → AscendsPast state.attempts rest → SameSoFar (Set further) copy.rule copy.attempts
fits-further m copy state numbers further copied rule attempts further_is rest same up =
    subst (λ (x : Seen). SameSoFar (Set further) x.rule x.attempts) (sym copied)
    (subst (λ (ns : List ℕ). SameSoFar (Set ns) m.rule m.attempts) (sym (further_is ∙ same))
    (subst (λ (own : Rule). SameSoFar (Set (state.numbers ++ rest)) own m.attempts) (sym rule)
    (subst (λ (n : ℕ). SameSoFar (Set (state.numbers ++ rest)) (Set state.numbers) n) (sym attempts) (same-before state.attempts state.numbers rest up))))

-- the rule of a set with further numbers fits a run under the set that goes on
fits-on : (m : Seen) (set more : List ℕ) → m.rule ≡ Set set → m.over ≡ false → IsSet more → Fits (Set (set ++ past m.attempts more)) m.rule m.over m.attempts
fits-on m set more rule going up =
    inr (going, subst (λ (own : Rule). SameSoFar (Set (set ++ past m.attempts more)) own m.attempts) (sym rule) (same-so-far m.attempts set more up))

-- ---- what the runs come to

-- a run is fine by its outcome alone
abbrev is_fine_outcome : Outcome → Bool
is_fine_outcome outcome = not (is_bad_outcome outcome) && not (is_cut_outcome outcome)

-- the run of a machine's script under a set is the one of its script, its budget and its shape
run-under : (g : Ground) (m : Seen) (set numbers : List ℕ) → IsUnderWay g set m → run m.script (Set numbers) m.budget m.shape ≡ run_of g numbers
run-under g m set numbers is =
    ap (λ (s : Script). run s (Set numbers) m.budget m.shape) is.script
    ∙ ap (λ (b : ℕ). run g.script (Set numbers) b m.shape) is.budget
    ∙ ap (λ (s : Shape). run g.script (Set numbers) g.budget s) is.shape

-- whatever a machine keeps of its attempts, under a set it comes to the same outcome
outcome-under : (g : Ground) (m : Seen) (set numbers : List ℕ) → IsUnderWay g set m →
    (whole_run_under (Set numbers) m).result.outcome ≡ (run_of g numbers).outcome
outcome-under g m set numbers is =
    outcome_of_whole (record m { rule = Set numbers }) ∙ ap (λ (r : RunResult). r.outcome) (run-under g m set numbers is)

-- and takes as many steps
steps-under : (g : Ground) (m : Seen) (set numbers : List ℕ) → IsUnderWay g set m →
    (whole_run_under (Set numbers) m).result.steps ≡ (run_of g numbers).steps
steps-under g m set numbers is =
    steps_of_whole (record m { rule = Set numbers }) ∙ ap (λ (r : RunResult). r.steps) (run-under g m set numbers is)

module _ (g : Ground) (set other : List ℕ) (fork m : Seen) (goes : GoesOnLike fork m) (fork_going : fork.over ≡ false) (m_going : m.over ≡ false)
    (fork_is : IsUnderWay g set fork) (m_is : IsUnderWay g other m) (more : List ℕ) (up : IsSet more) where
  abbrev along : WholeRun
  along = whole_run_under (Set (set ++ past fork.attempts more)) fork

  abbrev ahead : WholeRun
  ahead = whole_run_under (Set (other ++ past m.attempts more)) m

  abbrev joined : RunResult
  joined = run_of g (set ++ past fork.attempts more)

  abbrev known : RunResult
  known = run_of g (other ++ past m.attempts more)

  forked : along.result.outcome ≡ joined.outcome
  forked = outcome-under g fork set (set ++ past fork.attempts more) fork_is

  ran : ahead.result.outcome ≡ known.outcome
  ran = outcome-under g m other (other ++ past m.attempts more) m_is

  uncut : is_fine known ≡ true → ahead.result.outcome ≢ Cut Budget
  uncut fine e = true≢false (sym (ap is_cut_outcome (sym ran ∙ e)) ∙ fine_is_uncut known fine)

  behind : RefusesAlike (Set (other ++ past m.attempts more)) (Set (set ++ past fork.attempts more)) (reached_by m) (reached_by fork)
  behind n end from =
      ap (λ b. cond b (Some Simulated) None)
      (from-there fork.attempts n set more fork_is.made from ∙ sym (from-there m.attempts n other more m_is.made from))

  agree : is_fine known ≡ true → RestsAgree fork.budget (reached_by m) (reached_by fork) ahead along
  agree fine =
      goes (Set (other ++ past m.attempts more)) (Set (set ++ past fork.attempts more)) (fits-on m other more m_is.rule m_going up)
      (fits-on fork set more fork_is.rule fork_going up) (uncut fine) behind

  pub meets-with : is_fine known ≡ true → known.steps + fork.steps ≤ g.budget + m.steps → (is_fine joined ≡ true) × (joined.steps + m.steps ≡ known.steps + fork.steps)
  meets-with fine within =
      let took = steps-under g m other (other ++ past m.attempts more) m_is in
      let takes = steps-under g fork set (set ++ past fork.attempts more) fork_is in
      let same : ComesToTheSame (reached_by m) (reached_by fork) ahead along = (agree fine).alike (omega (arith, within, took, fork_is.budget)) in
      let counted = same.steps in (
        ap is_fine_outcome (sym forked) ∙ (judged-same ahead.result along.result same.outcome).1 ∙ ap is_fine_outcome ran ∙ fine,
        omega (arith, counted, took, takes),
      )

-- where a run goes on like another, both under way, they have met
met : (g : Ground) (set other : List ℕ) (fork m : Seen) → GoesOnLike fork m → fork.over ≡ false → m.over ≡ false → IsUnderWay g set fork → IsUnderWay g other m →
    Meets g set fork.attempts fork.steps other m.attempts m.steps
met g set other fork m goes fork_going m_going fork_is m_is more up fine within =
    meets-with g set other fork m goes fork_going m_going fork_is m_is more up fine within

-- and of a run that has come to a state
pub met-state : (g : Ground) (set : List ℕ) (state : State) (fork m : Seen) → GoesOnLike fork m → fork.over ≡ false → IsUnderWay g set fork → IsRunOf g state m →
    Meets g set fork.attempts fork.steps state.numbers state.attempts state.steps
met-state g set state fork m goes going fork_is run =
    subst (λ n. Meets g set fork.attempts fork.steps state.numbers state.attempts n) run.steps
    (subst (λ n. Meets g set fork.attempts fork.steps state.numbers n m.steps) run.attempts
    (met g set state.numbers fork m goes going run.going fork_is run.under_way))
