-- What was found of the run without a limit is a sizing.
use Rattle.std.proofs.Common.{◌≡◌, ◌≢◌, ℕ, ◌≤◌, arith, Option, Some, None, IsSome, refl, sym, ◌∙◌, ap, subst}
use Rattle.std.specs.Prelude.{◌↔◌}
use Rattle.wb_heap_model.specs.declared.heap.Rule.TheVariants.{Unlimited}
use Rattle.wb_heap_model.specs.declared.heap.Shape.{Shape}
use Rattle.wb_meaning.specs.declared.run.Outcome.TheVariants.{Cut}
use Rattle.wb_meaning.specs.declared.run.RisesResult.{RisesResult}
use Rattle.wb_meaning.specs.declared.run.Why.{Why}
use Rattle.wb_meaning.specs.declared.run.Why.TheVariants.{Ceiling}
use Rattle.wb_tree.specs.declared.script.Script.{Script}
use Rattle.wb_meaning.specs.Run.{run, rises_result_of, required, rises, first_rise_above, refused_at}
use Rattle.wb_heap_model.specs.Rises.{top_of_rises}
use Rattle.wb_runs.specs.Sizes.{refused_first, IsTable}
use Rattle.wb_heap_model.proofs.KeptRises.{top-highest}
use Rattle.wb_runs.proofs.SizeLemmas.{limit_refuses_first, refused_at-none, limits_have_table}
use Rattle.wb_size.specs.declared.sizing.Sizing.{Sizing}
use Rattle.wb_size.specs.Sizing.{refusal_in, IsSizing}

some_or_none : (o : Option ℕ) → (o ≡ None → ⊥) → IsSome o
some_or_none None h = absurd (h refl)
some_or_none (Some n) h = refl

pub sized : (script : Script) (budget : ℕ) (shape : Shape) (run_result : RisesResult) (sizing : Sizing) → run_result ≡ rises_result_of (run script Unlimited budget shape) →
    ((why : Why) → run_result.outcome ≢ Cut why) → sizing ≡ record { required = top_of_rises run_result.rises; rises = run_result.rises } → IsSizing script budget shape sizing
sized script budget shape run_result sizing ran uncut is =
    let open_run : (why : Why) → (run script Unlimited budget shape).outcome ≢ Cut why = λ why e. uncut why (ap (λ (r : RisesResult). r.outcome) ran ∙ e) in
    let needed : sizing.required ≡ required script budget shape = ap (λ (s : Sizing). s.required) is ∙ ap (λ (r : RisesResult). top_of_rises r.rises) ran ∙ top-highest (run script Unlimited budget shape).trace in
    let risen : sizing.rises ≡ rises script budget shape = ap (λ (s : Sizing). s.rises) is ∙ ap (λ (r : RisesResult). r.rises) ran in
    let run_result_by : (length : ℕ) → refusal_in sizing length ≡ refused_at script budget shape length = λ length. ap (first_rise_above length) risen in
    let first : (length : ℕ) → refused_first script budget shape length ≡ refusal_in sizing length =
    λ length. limit_refuses_first script budget shape length (open_run Ceiling) ∙ sym (run_result_by length) in
    let none : (length : ℕ) → (refusal_in sizing length ≡ None) ↔ (sizing.required ≤ length) =
    λ length. (
      λ e. subst (λ r. r ≤ length) (sym needed) ((refused_at-none script budget shape length).0 (sym (run_result_by length) ∙ e)),
      λ le. run_result_by length ∙ (refused_at-none script budget shape length).1 (subst (λ r. r ≤ length) needed le),
    ) in
    record {
      uncut = open_run;
      required = needed;
      rises = risen;
      needed = record {
        enough = λ length le. first length ∙ (none length).1 le;
        short = λ length lt. some_or_none (refused_first script budget shape length) (λ e. let le = (none length).0 (sym (first length) ∙ e) in omega (arith, lt, le));
        table = subst (λ t. IsTable (refused_first script budget shape) sizing.required 0 t) (sym risen)
            (subst (λ r. IsTable (refused_first script budget shape) r 0 (rises script budget shape)) (sym needed) (limits_have_table script budget shape (open_run Ceiling)));
      };
      first = first;
      none = none;
    }
