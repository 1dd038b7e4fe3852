-- Rules without a limit that say the same of the attempts made so far.
use Rattle.std.specs.Prelude.{◌≡◌, None, ◌⊎◌, ℕ, ◌≤◌, Bool, false}
use Rattle.wb_heap_model.specs.declared.heap.Rule.{Rule}
use Rattle.wb_heap_model.specs.Rules.{limit_of, refusal_of}

abbrev pub IsNoLimit : Rule → Type 0
IsNoLimit r = limit_of r ≡ None

-- neither rule is a limit, and both say the same of the attempts made so far
pub record SameSoFar (r own : Rule) (attempts : ℕ) : Type 0 where
  pub no_limit : IsNoLimit r
  pub own_no_limit : IsNoLimit own
  pub same : (number end : ℕ) → 1 ≤ number → number ≤ attempts → refusal_of r number end ≡ refusal_of own number end

-- a rule fits a run: it is the run's own, or the run hasn't ended and both say the same so far
abbrev pub Fits : Rule → Rule → Bool → ℕ → Type 0
Fits r own ended attempts = (r ≡ own) ⊎ ((ended ≡ false) × SameSoFar r own attempts)
