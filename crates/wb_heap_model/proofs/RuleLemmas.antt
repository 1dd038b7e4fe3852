-- Rules that say the same of the attempts made so far: a heap is as long under each, and a rule that fits under one
-- fits under the other.
use Rattle.std.proofs.Common.{◌≡◌, ℕ, false, refl, ap, ◌∙◌, sym, subst, inl, inr, Some, None, cond}
use Rattle.wb_heap_model.specs.declared.heap.Answer.TheVariants.{Simulated}
use Rattle.wb_heap_model.specs.declared.heap.Rule.{Rule}
use Rattle.wb_heap_model.specs.SameRules.{IsNoLimit, Fits, SameSoFar}
use Rattle.wb_heap_model.specs.Rules.{limit_of, refusal_of, refusal_past, simulates}
use Rattle.wb_heap_model.specs.Space.{below_ceiling, limit_under}

pub same-limit : (r own : Rule) (attempts : ℕ) → SameSoFar r own attempts → limit_under r ≡ limit_under own
same-limit r own attempts s = ap below_ceiling (s.no_limit ∙ sym s.own_no_limit)

pub fits-through : (r new own : Rule) (attempts : ℕ) → SameSoFar new own attempts → Fits r new false attempts → Fits r own false attempts
fits-through r new own attempts s (inl e) = inr (refl, subst (λ q. SameSoFar q own attempts) (sym e) s)
fits-through r new own attempts s (inr f) =
    inr (
      refl,
      record {
        no_limit = f.1.no_limit;
        own_no_limit = s.own_no_limit;
        same = λ number end first made. f.1.same number end first made ∙ s.same number end first made;
      },
    )

-- what a rule without a limit refuses of an attempt whose failure it doesn't simulate
pub unsimulated-open : (r : Rule) (number end : ℕ) → IsNoLimit r → simulates r number ≡ false → refusal_of r number end ≡ None
unsimulated-open r number end no_limit e = ap (λ b. cond b (Some Simulated) (refusal_past (limit_of r) end)) e ∙ ap (λ o. refusal_past o end) no_limit
