-- Two runs that are the same but for numbers, whichever of them has counted more steps; and failures that lie behind both.
use Rattle.std.proofs.Common.{◌≡◌, ◌≢◌, ℕ, ◌+◌, ◌-◌, ◌<◌, ◌≤◌, ◌||◌, Bool, true, false, refl, sym, ◌∙◌, arith, None}
use Rattle.std.specs.Prelude.{nat_lt}
use Rattle.std.proofs.lemmas.Bool.{ltb-true, ltb-false, ne_eqb}
use Rattle.wb_heap_model.specs.declared.heap.Rule.{Rule}
use Rattle.wb_heap_model.specs.declared.heap.Rule.TheVariants.{Number, Pair}
use Rattle.wb_heap_model.specs.declared.heap.Shape.{Shape}
use Rattle.wb_meaning.specs.declared.run.Outcome.TheVariants.{Cut}
use Rattle.wb_meaning.specs.declared.run.Why.TheVariants.{Budget}
use Rattle.wb_tree.specs.declared.script.Script.{Script}
use Rattle.wb_heap_model.specs.Rules.{refusal_of}
use Rattle.wb_meaning.specs.Account.{Account}
use Rattle.wb_meaning.specs.Rest.{Progress, rest}
use Rattle.wb_meaning.specs.Run.{WholeRun}
use Rattle.wb_renaming.specs.SameButNumbers.{Renaming, IsRenaming, IsSameProgress, turned}
use Rattle.wb_renaming.specs.Follows.{steps_of, Reached, reached, RefusesAlike, RestsAgree}
use Rattle.wb_heap_model.proofs.RuleLemmas.{unsimulated-open}
use Rattle.wb_renaming.proofs.SameNumbers.{ap_two}
use Rattle.wb_renaming.proofs.SameTurned.{outcome-turned, progress-turned, renaming-turned}
use Rattle.wb_renaming.proofs.FollowRuns.{rests-agree}

-- the other way round, where the budget cuts neither
rests-turned : (budget : ℕ) (here there : Reached) (x y : WholeRun) → there.steps < here.steps → x.result.outcome ≢ Cut Budget →
    RestsAgree budget there here y x → RestsAgree budget here there x y
rests-turned budget here there x y fewer uncut back = by (nat_lt (budget + there.steps) (y.result.steps + here.steps)) refl
  where
    by : (b : Bool) → nat_lt (budget + there.steps) (y.result.steps + here.steps) ≡ b → RestsAgree budget here there x y
    by true e = absurd (uncut (back.cut (ltb-true (budget + there.steps) (y.result.steps + here.steps) e)))
    by false e =
        let fits = ltb-false (budget + there.steps) (y.result.steps + here.steps) e in
        let same = back.alike fits in
        let counted = same.steps in
        record {
          alike = λ f. record { outcome = outcome-turned same.outcome; steps = sym same.steps; attempts = sym same.attempts };
          cut = λ past. absurd (omega (arith, past, fits, counted, fewer));
        }

pub rests-together : (script : Script) (budget : ℕ) (shape other_shape : Shape) (r s : Rule) (w : Renaming) (p q : Progress) (a b : Account) →
    IsRenaming w → IsSameProgress w.names p q → steps_of p ≤ budget → steps_of q ≤ budget → a.attempts ≡ w.made → b.attempts ≡ w.other_made →
    RefusesAlike r s (reached p a) (reached q b) → (rest script budget shape r p a).result.outcome ≢ Cut Budget →
    RestsAgree budget (reached p a) (reached q b) (rest script budget shape r p a) (rest script budget other_shape s q b)
rests-together script budget shape other_shape r s w p q a b is same within other_within ea eb alike uncut = by (nat_lt (steps_of q) (steps_of p)) refl
  where
    by : (fewer : Bool) → nat_lt (steps_of q) (steps_of p) ≡ fewer →
        RestsAgree budget (reached p a) (reached q b) (rest script budget shape r p a) (rest script budget other_shape s q b)
    by false e =
        let more = ltb-false (steps_of q) (steps_of p) e in
        rests-agree script budget (steps_of q - steps_of p) shape other_shape r s w p q a b
        (record { renamed = is; same = same; steps = omega (arith, more); within = other_within }) ea eb alike
    by true e =
        let fewer = ltb-true (steps_of q) (steps_of p) e in
        rests-turned budget (reached p a) (reached q b) (rest script budget shape r p a) (rest script budget other_shape s q b) fewer uncut
        (rests-agree script budget (steps_of p - steps_of q) other_shape shape s r (turned w) q p b a
        (record { renamed = renaming-turned w is; same = progress-turned same; steps = omega (arith, fewer); within = within })
        eb ea (λ n end from. sym (alike n end from)))

-- a rule for one number, or for two, makes no later attempt fail
number-open : (i n end : ℕ) → i < n → refusal_of (Number i) n end ≡ None
number-open i n end past = unsimulated-open (Number i) n end refl (ne_eqb i n (λ z. omega (arith, z, past)))

pair-open : (i j n end : ℕ) → i < n → j < n → refusal_of (Pair i j) n end ≡ None
pair-open i j n end past later =
    unsimulated-open (Pair i j) n end refl (ap_two ◌||◌ (ne_eqb i n (λ z. omega (arith, z, past))) (ne_eqb j n (λ z. omega (arith, z, later))))

pub numbers-alike : (here there : Reached) (i j : ℕ) → i ≤ here.attempts → j ≤ there.attempts → RefusesAlike (Number i) (Number j) here there
numbers-alike here there i j one other n end from =
    number-open j (there.attempts + n) end (omega (arith, other, from)) ∙ sym (number-open i (here.attempts + n) end (omega (arith, one, from)))

pub pairs-alike : (here there : Reached) (i j k : ℕ) → i ≤ here.attempts → j ≤ there.attempts → k ≤ there.attempts → RefusesAlike (Number i) (Pair j k) here there
pairs-alike here there i j k one other second n end from =
    pair-open j k (there.attempts + n) end (omega (arith, other, from)) (omega (arith, second, from))
    ∙ sym (number-open i (here.attempts + n) end (omega (arith, one, from)))
