-- What is done once the answer has gone out, and in which order.
use Rattle.std.specs.Prelude.{ℕ, List, Bool}
use Rattle.workbench.specs.declared.program.Exit.{Exit}
use Rattle.wb_main.specs.Log.{IsLogged}
use Rattle.wb_main.specs.Picture.{IsPictured}

-- First the steps of the run are written, then the answer is explained, then its picture is put into its file, or left out, and then its
-- log. The exit status is the one that this leaves.
pub record IsFinished {A : Type 0} (steps explains : A → Exit → A → Type 0) (puts logs : A → List ℕ → Bool → A → Type 0) (exit : Exit) (old new : A)
    (status : ℕ) : Type 0 where
  pub followed : A
  pub stepped : steps old exit followed
  pub told : A
  pub explained : explains followed exit told
  pub drawn : A
  pub drawn_status : ℕ
  pub pictured : IsPictured puts exit told drawn drawn_status
  pub logged : IsLogged logs exit drawn_status drawn new status
