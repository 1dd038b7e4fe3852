-- The pairs with one first attempt, as a family of failures; and why a sweep over pairs may end: at the last attempt of the run
-- without failure for the first of a pair, and for the second at the last of the run in which the first fails.
use Rattle.std.proofs.Common.{◌≡◌, ◌≢◌, ℕ, ◌+◌, ◌<◌, ◌≤◌, inl, inr, arith, Bool, true, false, length, refl, sym, ◌∙◌, ap, Some, None, cond, IsSome}
use Rattle.std.specs.Prelude.{nat_eq, nat_le, ◌||◌}
use Rattle.std.proofs.lemmas.Bool.{cases_lt, ne_eqb, le-leb, lt-leb}
use Rattle.std.proofs.lemmas.Option.{slice_get_within}
use Rattle.wb_runs.specs.declared.failures.Failing.TheVariants as failings
use Rattle.wb_runs.specs.declared.failures.Failures.TheVariants.{Single}
use Rattle.wb_heap_model.specs.declared.heap.Answer.TheVariants.{Simulated}
use Rattle.wb_heap_model.specs.declared.heap.Rule.{Rule}
use Rattle.wb_heap_model.specs.declared.heap.Rule.TheVariants.{Number, Pair}
use Rattle.wb_heap_model.specs.declared.heap.Shape.{Shape}
use Rattle.wb_meaning.specs.declared.run.RunResult.{RunResult}
use Rattle.wb_meaning.specs.declared.run.Outcome.TheVariants.{Cut}
use Rattle.wb_meaning.specs.declared.run.Why.TheVariants.{Ceiling}
use Rattle.wb_tree.specs.declared.script.Script.{Script}
use Rattle.wb_meaning.specs.Agreement.{RefusesAtLeast, RefusesNoGrant}
use Rattle.wb_heap_model.specs.SameRules.{IsNoLimit, SameSoFar}
use Rattle.wb_runs.specs.Pairs.{failing_with, pair_run, AreAllPairsFine, ArePairsFineWith}
use Rattle.wb_heap_model.specs.Rules.{refusal_of}
use Rattle.wb_meaning.specs.Run.{run}
use Rattle.wb_runs.specs.Sweeps.{is_fine, rule_for, runs_of, runs_under, AreAllFine, AreFineBelow}
use Rattle.wb_heap_model.specs.Reported.{end_of_attempt}
use Rattle.wb_heap_model.proofs.RuleLemmas.{unsimulated-open}
use Rattle.wb_runs.proofs.SameRuns.{same_run, zero-least}
use Rattle.wb_runs.proofs.SweepLemmas.{fine_all, fine_uncut}
use Rattle.wb_meaning.proofs.TraceLemmas.{line_at, run-lines, run-numbered}

abbrev rule_with : ℕ → ℕ → Rule
rule_with i n = rule_for (failing_with i n)

or_false : (a b : Bool) → b ≡ false → (a || b) ≡ a
or_false true b e = refl
or_false false b e = e

-- before its second attempt a pair refuses what its first alone does
alike : (i n number end : ℕ) → number < n → refusal_of (Pair i n) number end ≡ refusal_of (Number i) number end
alike i n number end before =
    ap (λ b. cond b (Some Simulated) None) (or_false (nat_eq i number) (nat_eq n number) (ne_eqb n number (λ z. omega (arith, z, before))))

with-no_limit : (i n : ℕ) → IsNoLimit (rule_with i n)
with-no_limit i n = by (nat_le n i)
  where
    by : (b : Bool) → IsNoLimit (rule_for (cond b (failings.Number i) (failings.Pair i n)))
    by true = refl
    by false = refl

-- the rule for attempt n refuses of those before it what the first attempt's does
with-alike : (i n number end : ℕ) → number < n → refusal_of (rule_with i n) number end ≡ refusal_of (Number i) number end
with-alike i n number end before = by (nat_le n i)
  where
    by : (b : Bool) → refusal_of (rule_for (cond b (failings.Number i) (failings.Pair i n))) number end ≡ refusal_of (Number i) number end
    by true = refl
    by false = alike i n number end before

pub with-fits : (i attempts : ℕ) → SameSoFar (rule_with i (attempts + 1)) (Number i) attempts
with-fits i attempts = record {
  no_limit = with-no_limit i (attempts + 1);
  own_no_limit = refl;
  same = λ number end first made. with-alike i (attempts + 1) number end (omega arith);
}

with-least : (i n : ℕ) → RefusesAtLeast (Number i) (rule_with i n)
with-least i n number end one h = by (nat_le n i)
  where
    in_pair : (a b : Bool) → IsSome (cond a (Some Simulated) None) → IsSome (cond (a || b) (Some Simulated) None)
    in_pair true b h = refl
    in_pair false b h = cc

    by : (b : Bool) → IsSome (refusal_of (rule_for (cond b (failings.Number i) (failings.Pair i n))) number end)
    by true = h
    by false = in_pair (nat_eq i number) (nat_eq n number) h

module _ (script : Script) (budget : ℕ) (shape : Shape) where
  -- the run in which the first attempt fails, and those in which a second one does
  abbrev pub alone : ℕ → RunResult
  alone i = runs_of Single script budget shape i

  abbrev pub runs_with : ℕ → ℕ → RunResult
  runs_with i n = runs_under (failing_with i) script budget shape n

  -- a second attempt past that run's last changes nothing
  past_second : (i n : ℕ) → (alone i).outcome ≢ Cut Ceiling → length (alone i).trace < n → runs_with i n ≡ alone i
  past_second i n uncut past =
      (same_run script budget shape (Number i) (rule_with i n) refl (with-least i n) uncut no_grant).notes_too refl (with-no_limit i n)
    where
      no_grant : RefusesNoGrant (rule_with i n) (alone i).trace
      no_grant k t there granted =
          let numbered = run-numbered script budget shape (Number i) k t there in
          let within = slice_get_within (alone i).trace k t there in
          let line = line_at (Number i) 0 _ _ k t (run-lines script budget shape (Number i)) there in
          with-alike i n t.number (end_of_attempt t) (omega (arith, numbered, within, past)) ∙ (line.2.granted granted).0

  pub second-past : (i j : ℕ) → i < j → (alone i).outcome ≢ Cut Ceiling → length (alone i).trace < j → pair_run script budget shape i j ≡ alone i
  second-past i j later uncut past = ap (λ b. run script (rule_for (cond b (failings.Number i) (failings.Pair i j))) budget shape) (sym beyond) ∙ past_second i j uncut past
    where
      beyond : nat_le j i ≡ false
      beyond = lt-leb j i later

  -- and so does a first attempt past the last of the run without failure
  pub first-past : (i j : ℕ) → i < j → (alone 0).outcome ≢ Cut Ceiling → length (alone 0).trace < i → pair_run script budget shape i j ≡ alone 0
  first-past i j later uncut past =
      (same_run script budget shape (Number 0) (Pair i j) refl (zero-least Single (Pair i j)) uncut no_grant).notes_too refl refl
    where
      no_grant : RefusesNoGrant (Pair i j) (alone 0).trace
      no_grant k t there granted =
          let numbered = run-numbered script budget shape (Number 0) k t there in
          let within = slice_get_within (alone 0).trace k t there in
          alike i j t.number (end_of_attempt t) (omega (arith, numbered, within, past, later))
          ∙ unsimulated-open (Number i) t.number (end_of_attempt t) refl (ne_eqb i t.number (λ z. omega (arith, z, numbered, within, past)))

  pub with_later : (i j : ℕ) → i < j → runs_with i j ≡ pair_run script budget shape i j
  with_later i j later = ap (λ b. run script (rule_for (cond b (failings.Number i) (failings.Pair i j))) budget shape) (lt-leb j i later)

  pub with_none : (i n : ℕ) → n ≤ i → runs_with i n ≡ alone i
  with_none i n le = ap (λ b. run script (rule_for (cond b (failings.Number i) (failings.Pair i n))) budget shape) (le-leb n i le)

  -- the pairs with a first attempt, where those up to the last attempt are fine
  pub pairs-fine : (i : ℕ) → AreFineBelow (runs_with i) (length (alone i).trace + 1) → ArePairsFineWith (pair_run script budget shape) i
  pairs-fine i below j later = ap is_fine (sym (with_later i j later)) ∙ fine_all (runs_with i) (length (alone i).trace) past below j
    where
      fine : is_fine (alone i) ≡ true
      fine = ap is_fine (sym (with_none i 0 (omega arith))) ∙ below 0 (omega arith)

      past : (n : ℕ) → length (alone i).trace < n → runs_with i n ≡ runs_with i 0
      past n lt = past_second i n (fine_uncut (alone i) fine) lt ∙ sym (with_none i 0 (omega arith))

  -- all pairs, where those are fine whose first attempt is one of the run without failure
  pub all-pairs-fine : is_fine (alone 0) ≡ true →
      ((i : ℕ) → 1 ≤ i → i ≤ length (alone 0).trace → ArePairsFineWith (pair_run script budget shape) i) → AreAllPairsFine (pair_run script budget shape)
  all-pairs-fine fine within i j first later =
      elim (cases_lt (length (alone 0).trace) i) [
        | inl past ↦ ap is_fine (first-past i j later (fine_uncut (alone 0) fine) past) ∙ fine
        | inr le ↦ within i first le j later
      ]

  pub all-made-fine : AreAllFine alone →
      ((i j : ℕ) → 1 ≤ i → i ≤ length (alone 0).trace → i < j → j ≤ length (alone i).trace → is_fine (pair_run script budget shape i j) ≡ true) →
      AreAllPairsFine (pair_run script budget shape)
  all-made-fine fine made = all-pairs-fine (fine 0) with_first
    where
      with_first : (i : ℕ) → 1 ≤ i → i ≤ length (alone 0).trace → ArePairsFineWith (pair_run script budget shape) i
      with_first i first le j later =
          elim (cases_lt (length (alone i).trace) j) [
            | inl past ↦ ap is_fine (second-past i j later (fine_uncut (alone i) (fine i)) past) ∙ fine i
            | inr within ↦ made i j first le later within
          ]
