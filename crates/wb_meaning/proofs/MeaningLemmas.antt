-- The meaning without its bound.
use Rattle.std.proofs.Common.{ℕ, suc, ◌+◌, [], arith}
use Rattle.wb_tree.specs.declared.script.Script.{Script}
use Rattle.wb_meaning.specs.Meaning.{meaning_within, meaning_of}
use Rattle.wb_meaning.specs.Rest.{Unfolds}
use Rattle.wb_meaning.proofs.AlikeLemmas.{Lasting}
use Rattle.wb_meaning.proofs.AlikePieces.{meaning_within-alike, piece-alike, shows_weaker}

-- nothing lasts of itself
abbrev pub anything : Script → Lasting
anything script = record {
  script = script;
  Counts = λ _. Unit {0};
  Holds = λ _ _. Unit {0};
  Prints = λ _. Unit {0};
  printed = λ _ _ _ _. tt;
  allocated = λ _ _ _ _ _ _ _ _ _. tt;
  reallocated = λ _ _ _ _ _ _ _ _ _ _. tt;
  cut_down = λ _ _ _ _ _ _ _ _. tt;
  freed = λ _ _ _ _. tt;
  rewritten = λ _ _ _ _ _ _. tt;
  marked = λ _ _ _. tt;
  mark_ended = λ _ _ _. tt;
  set = λ _ _ _ _. tt;
}

pub meaning_of-unfolds : (script : Script) (budget : ℕ) → Unfolds script budget
unfolding meaning_of meaning_within
meaning_of-unfolds script budget at p st f =
    (piece-alike (anything script) [] budget (meaning_within script budget budget) (meaning_within script budget (suc budget)) at p st f tt tt
    (λ ns at p st' g.
    let is = meaning_within-alike (anything script) budget budget (suc budget) ns at p st' g.0.1 tt tt (omega (arith, g.0.0)) (omega (arith, g.0.0)) in
    (is.0, shows_weaker (anything script) ns (st.steps + 1) st'.steps budget g.0.0 (meaning_within script budget budget at p st') is.1))).0
