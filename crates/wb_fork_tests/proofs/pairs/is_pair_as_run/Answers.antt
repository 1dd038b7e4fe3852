use Rattle.std.proofs.Common.{◌≡◌, ℕ, ◌+◌, ◌<◌, arith, ap, sym, subst, cond}
use Rattle.std.proofs.lemmas.Bool.{lt-leb}
use Rattle.wb_runs.specs.declared.failures.Failing.TheVariants as failings
use Rattle.wb_heap_model.specs.declared.heap.Rule.{Rule}
use Rattle.wb_heap_model.specs.declared.heap.Rule.TheVariants.{Number, Pair}
use Rattle.wb_runs.specs.Pairs.{failing_with}
use Rattle.wb_heap_model.specs.SameRules.{SameSoFar}
use Rattle.wb_runs.specs.Sweeps.{rule_for}
use Rattle.wb_runs.proofs.PairLemmas.{with-fits}
use Rattle.wb_fork_tests.proofs.pairs.is_pair_as_run.Goals as goal

is_pair : (i n : ℕ) → i < n → rule_for (failing_with i n) ≡ Pair i n
is_pair i n later = ap (λ b. rule_for (cond b (failings.Number i) (failings.Pair i n))) (lt-leb n i later)

pub result_under-requires-clause-same : goal.result_under-requires-clause-same
result_under-requires-clause-same c =
    let first = c.args.first in
    let attempts = c.args.fork.now.attempts in
    let pair = is_pair first (attempts + 1) (omega (arith, c.requires.failed)) in
    subst (λ (k : ℕ). SameSoFar (Pair first k) c.args.fork.now.rule attempts) (sym c.requires.next)
    (subst (λ (q : Rule). SameSoFar (Pair first (attempts + 1)) q attempts) (sym c.requires.rule)
    (subst (λ (q : Rule). SameSoFar q (Number first) attempts) pair (with-fits first attempts)))
