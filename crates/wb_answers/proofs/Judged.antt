-- A run is fine, or it is bad or cut, and it is cut or not.
use Rattle.std.proofs.Common.{◌≡◌, ◌⊎◌, inl, inr, true, false, [], ◌∷◌, refl}
use Rattle.std.specs.Prelude.{not, ◌&&◌}
use Rattle.wb_meaning.specs.declared.run.Outcome.{Outcome}
use Rattle.wb_meaning.specs.declared.run.Outcome.TheVariants.{Ended, Panicked, NoCleanup, Cut}
use Rattle.wb_meaning.specs.declared.run.RunResult.{RunResult}
use Rattle.wb_meaning.specs.declared.run.Why.{Why}
use Rattle.wb_meaning.specs.Run.{is_bad, is_bad_outcome}
use Rattle.wb_runs.specs.Sweeps.{is_cut_outcome, is_fine}

abbrev pub IsCutBy : Outcome → Type 0
IsCutBy outcome = (why : Why) × (outcome ≡ Cut why)

judged : (outcome : Outcome) → (not (is_bad_outcome outcome) && not (is_cut_outcome outcome)) ≡ false →
    (is_bad_outcome outcome ≡ true) ⊎ IsCutBy outcome
judged (Ended left []) e = cc
judged (Ended left (leak ∷ leaks)) e = inl refl
judged (Panicked panic) e = inl refl
judged NoCleanup e = cc
judged (Cut why) e = inr (why, refl)

-- what isn't fine is bad or cut
pub bad-or-cut : (told : RunResult) → is_fine told ≡ false → (is_bad told ≡ true) ⊎ IsCutBy told.outcome
bad-or-cut told e = judged told.outcome e

pub cut-or-not : (outcome : Outcome) → IsCutBy outcome ⊎ (is_cut_outcome outcome ≡ false)
cut-or-not (Ended left leaks) = inr refl
cut-or-not (Panicked panic) = inr refl
cut-or-not NoCleanup = inr refl
cut-or-not (Cut why) = inl (why, refl)
