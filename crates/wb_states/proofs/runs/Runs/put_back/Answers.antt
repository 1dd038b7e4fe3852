-- What is kept afterwards was kept before, or is the run that was put back.
use Rattle.std.proofs.Common.{inl, inr}
use Rattle.std.proofs.lemmas.Result.{on_ok_weaker}
use Rattle.wb_states.proofs.runs.Runs.put_back.Goals as goal

pub returns : goal.returns
returns c =
    on_ok_weaker c.insert.result
    (λ added i m kept.
    elim (added i m kept) [
      | inl is ↦ inl is
      | inr was ↦ inr (was.0, c.forget_revisited.ensures i m was.1)
    ])
    c.insert.ensures
