-- Two machines between two turns whose states and pieces are the same but for numbers: the rest of one run is that of the other.
use Rattle.std.proofs.Common.{◌≡◌, ◌≢◌, ◌≤◌, true, false, sym, ◌∙◌, ap, subst}
use Rattle.wb_meaning.specs.declared.run.Outcome.TheVariants.{Cut}
use Rattle.wb_meaning.specs.declared.run.Why.TheVariants.{Budget}
use Rattle.wb_tree.specs.declared.script.Script.{Script}
use Rattle.wb_meaning.specs.Rest.{rest}
use Rattle.wb_meaning.specs.Run.{WholeRun}
use Rattle.wb_renaming.specs.Follows.{steps_of, reached, RefusesAlike, RestsAgree}
use Rattle.wb_renaming.specs.SameButNumbers as numbers
use Rattle.wb_renaming.specs.SameButNumbers.{Renaming, IsRenaming, AllBeside, IsSameState, IsSameValue, IsSameProgress}
use Rattle.wb_renaming.proofs.FollowEither.{rests-together}
use Rattle.wb_machine.specs.declared.machine.Machine.TheInside.{Inside}
use Rattle.wb_machine.specs.declared.pieces.Ending.TheVariants.{GoesOn}
use Rattle.wb_machine.specs.Alike.{reached_by, whole_run_under, GoesOnLike}
use Rattle.wb_machine.specs.Flow.{pending_in, progress_of}
use Rattle.wb_machine.specs.RunState.{state_of, account_of}
use Rattle.wb_machine.specs.SamePieces.{ArePendingAlike}
use Rattle.wb_machine.specs.Whole.{seen, progress_in, rest_in, IsMachine, has_failed}

-- what the comparison of two machines finds
pub record AreAlike (w : Renaming) (m other : Inside) : Type 0 where
  pub renaming : IsRenaming w
  pub made : m.state.debug.attempts ≡ w.made
  pub other_made : other.state.debug.attempts ≡ w.other_made
  pub budget : other.budget ≡ m.budget
  pub begun : m.begun ≡ true
  pub other_begun : other.begun ≡ true
  pub well : has_failed m ≡ false
  pub other_well : has_failed other ≡ false
  pub ending : m.control.ending ≡ GoesOn
  pub other_ending : other.control.ending ≡ GoesOn
  pub callers : AllBeside (IsSameValue w.names) m.state.callers other.state.callers
  pub state : (script : Script) → IsSameState w.names (state_of script m.state) (state_of script other.state)
  pub pieces : ArePendingAlike w.names m.control.pieces.items other.control.pieces.items

-- how far a run has come that goes on
going-on : (m : Inside) → m.begun ≡ true → m.control.ending ≡ GoesOn →
    progress_in m ≡ progress_of true GoesOn (pending_in m.state.callers m.control.pieces.items) (state_of m.script.now m.state)
going-on m begun ending =
    ap (λ b. progress_of b m.control.ending (pending_in m.state.callers m.control.pieces.items) (state_of m.script.now m.state)) begun
    ∙ ap (λ e. progress_of true e (pending_in m.state.callers m.control.pieces.items) (state_of m.script.now m.state)) ending

same-progress : (w : Renaming) (m other : Inside) → other.script.now ≡ m.script.now → AreAlike w m other → IsSameProgress w.names (progress_in m) (progress_in other)
same-progress w m other script are =
    subst (λ p. IsSameProgress w.names p (progress_in other)) (sym (going-on m are.begun are.ending))
    (subst (λ p. IsSameProgress w.names (progress_of true GoesOn (pending_in m.state.callers m.control.pieces.items) (state_of m.script.now m.state)) p)
    (sym (going-on other are.other_begun are.other_ending))
    (numbers.same_going (are.pieces m.state.callers other.state.callers are.callers) numbers.same_plain
    (subst (λ s. IsSameState w.names (state_of m.script.now m.state) (state_of s other.state)) (sym script) (are.state m.script.now))))

steps-come : (m : Inside) → m.begun ≡ true → m.control.ending ≡ GoesOn → steps_of (progress_in m) ≡ m.state.steps
steps-come m begun ending = ap steps_of (going-on m begun ending)

reached-come : (m : Inside) → m.begun ≡ true → m.control.ending ≡ GoesOn → reached (progress_in m) (account_of m.state) ≡ reached_by (seen m)
reached-come m begun ending = ap (λ n. record { attempts = m.state.debug.attempts; steps = n }) (steps-come m begun ending)

-- the one that was compared first is `m`; the other goes on like it
pub goes-on-like : (w : Renaming) (m other : Inside) → IsMachine m → IsMachine other → other.script.now ≡ m.script.now → AreAlike w m other →
    GoesOnLike (seen other) (seen m)
goes-on-like w m other is other_is script are r s fits other_fits uncut alike =
    let p = progress_in m in
    let q = progress_in other in
    let x = rest_in r m in
    let y = rest_in s other in
    let ran : x ≡ whole_run_under r (seen m) = is.keeps are.well r fits in
    let other_ran : y ≡ whole_run_under s (seen other) = other_is.keeps are.other_well s other_fits in
    let here = reached-come m are.begun are.ending in
    let there = reached-come other are.other_begun are.other_ending in
    let within : steps_of p ≤ m.budget = subst (λ n. n ≤ m.budget) (sym (steps-come m are.begun are.ending)) (is.sound are.well).between.within in
    let other_within : steps_of q ≤ m.budget =
    subst (λ n. n ≤ m.budget) (sym (steps-come other are.other_begun are.other_ending))
    (subst (λ b. other.state.steps ≤ b) are.budget (other_is.sound are.other_well).between.within) in
    let rests : RestsAgree m.budget (reached p (account_of m.state)) (reached q (account_of other.state))
    (rest m.script.now m.budget m.state.debug.shape r p (account_of m.state))
    (rest m.script.now m.budget other.state.debug.shape s q (account_of other.state)) =
    rests-together m.script.now m.budget m.state.debug.shape other.state.debug.shape r s w p q (account_of m.state) (account_of other.state)
    are.renaming (same-progress w m other script are) within other_within are.made are.other_made
    (subst (λ z. RefusesAlike r s z (reached q (account_of other.state))) (sym here)
    (subst (λ z. RefusesAlike r s (reached_by (seen m)) z) (sym there) alike))
    (subst (λ (z : WholeRun). z.result.outcome ≢ Cut Budget) (sym ran) uncut) in
    let second : rest m.script.now m.budget other.state.debug.shape s q (account_of other.state) ≡ y =
    ap (λ c. rest c m.budget other.state.debug.shape s q (account_of other.state)) (sym script)
    ∙ ap (λ b. rest other.script.now b other.state.debug.shape s q (account_of other.state)) (sym are.budget) in
    let there_rests = rest m.script.now m.budget other.state.debug.shape s q (account_of other.state) in
    subst (λ b. RestsAgree b (reached_by (seen m)) (reached_by (seen other)) (whole_run_under r (seen m)) (whole_run_under s (seen other))) (sym are.budget)
    (subst (λ z. RestsAgree m.budget (reached_by (seen m)) (reached_by (seen other)) z (whole_run_under s (seen other))) ran
    (subst (λ z. RestsAgree m.budget (reached_by (seen m)) (reached_by (seen other)) x z) (second ∙ other_ran)
    (subst (λ z. RestsAgree m.budget z (reached_by (seen other)) x there_rests) here
    (subst (λ z. RestsAgree m.budget (reached p (account_of m.state)) z x there_rests) there rests))))
