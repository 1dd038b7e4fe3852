-- A run that is late stays late, since steps never fall: what that says of each process, from the induction over lasting facts.
use Rattle.std.proofs.Common.{ℕ, zero, suc, ◌+◌, ◌-◌, List, [], ◌∷◌, refl, arith}
use Rattle.wb_tree.specs.declared.script.Script.{Script}
use Rattle.wb_meaning.specs.Meaning.{meaning_within}
use Rattle.wb_meaning.specs.State.{State, Process, ends, stops, asks, notes}
use Rattle.wb_renaming.specs.Follows.{IsLate, IsPast}
use Rattle.wb_meaning.proofs.AlikeLemmas.{Lasting, Fine, Keeps, AlikeAll}
use Rattle.wb_meaning.proofs.AlikePieces.{Between, between, piece-alike, shows_weaker}
use Rattle.wb_meaning.proofs.MeaningLemmas.{anything}

-- within the budget, and past it with so many steps more
abbrev pub lateness : Script → ℕ → ℕ → Lasting
lateness script budget further = between (anything script) (suc budget - further) budget

module _ (script : Script) (budget further : ℕ) where
  pub fine : {st : State} → IsLate budget further st → Fine (lateness script budget further) [] st
  fine late = ((omega (arith, late.past), late.within), tt, tt)

  is_late : (st : State) → Between (suc budget - further) budget st.steps → IsLate budget further st
  is_late st k = record { past = omega (arith, k.0); within = k.1 }

  pub past-of : (ns : List ℕ) (p : Process) → Keeps (lateness script budget further) ns p → IsPast budget further p
  past-of ns (ends way st) k = is_late st k.0
  past-of ns (stops stop st) k = is_late st k.0.0
  past-of ns (asks t cut go) k = (is_late cut k.0.0, λ n a. past-of (n ∷ ns) (go n a) (k.3 n a))
  past-of ns (notes q p) k = past-of ns p k.1

-- a number of steps that is no less, whatever bounds the recursion
within-keeps : (script : Script) (budget n low : ℕ) →
    AlikeAll (between (anything script) low budget) (meaning_within script budget n) (meaning_within script budget n)
unfolding meaning_within
within-keeps script budget zero low ns at p st f = (refl, (f, tt))
within-keeps script budget (suc n) low ns at p st f = (
  refl,
  shows_weaker (anything script) ns low st.steps budget f.0.0 (meaning_within script budget (suc n) at p st)
      (piece-alike (anything script) ns budget (meaning_within script budget n) (meaning_within script budget n) at p st f.0.1 tt tt
      (within-keeps script budget n (st.steps + 1))).1,
)

pub within-late : (script : Script) (budget further n : ℕ) →
    AlikeAll (lateness script budget further) (meaning_within script budget n) (meaning_within script budget n)
within-late script budget further n = within-keeps script budget n (suc budget - further)
