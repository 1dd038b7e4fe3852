-- What is kept in a map from which an entry was removed, or to which one was added.
use Rattle.std.proofs.Common.{◌≡◌, ◌≢◌, ℕ, Bool, true, false, Option, Some, None, ◌⊎◌, inl, inr, refl, sym, ◌∙◌, ap, cond}
use Rattle.std.proofs.lemmas.Bool.{eqb-true, eqb-false}
use Rattle.std.specs.Prelude.{nat_eq}

pub kept-without : {X : Type 0} (is_at : Bool) (before after : Option X) (x : X) → after ≡ cond is_at None before → after ≡ Some x → before ≡ Some x
kept-without true before after x same kept = cc
kept-without false before after x same kept = sym same ∙ kept

pub kept-with : {X : Type 0} (at i : ℕ) (added : X) (before after : Option X) (x : X) → after ≡ cond (nat_eq at i) (Some added) before → after ≡ Some x →
    ((i ≡ at) × (x ≡ added)) ⊎ ((i ≢ at) × (before ≡ Some x))
kept-with at i added before after x same kept = by (nat_eq at i) refl
  where
    by : (b : Bool) → nat_eq at i ≡ b → ((i ≡ at) × (x ≡ added)) ⊎ ((i ≢ at) × (before ≡ Some x))
    by true e = inl (sym (eqb-true at i e), (let there = same ∙ ap (λ b. cond b (Some added) before) e in cc))
    by false e = inr ((λ is. eqb-false at i e (sym is)), sym (same ∙ ap (λ b. cond b (Some added) before) e) ∙ kept)
