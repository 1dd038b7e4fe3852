-- Where the picture of an answer goes.
use Rattle.std.specs.Prelude.{◌≡◌, ◌≢◌, ◌⊎◌, ℕ, List, Bool, Some, IsSome, if◌then◌else◌}
use Rattle.wb_command_line.specs.declared.command.Command.{Command}
use Rattle.workbench.specs.declared.program.Exit.{Exit}

-- nothing is put anywhere, and the status is the answer's
abbrev pub IsLeftOut : {P : Type 0} → Exit → P → P → ℕ → Type 0
IsLeftOut exit files files' status = (files' ≡ files) × (status ≡ exit.status)

-- the command that was answered names this file for a picture, and no read and no write failed
pub record IsWanted (exit : Exit) (name : List ℕ) : Type 0 where
  pub command : Command
  pub answered : exit.command ≡ Some command
  pub named : command.picture ≡ Some name
  pub unfailed : exit.status ≢ 5

-- a picture of a report is put once, into the file that is named for it. The status is the answer's, or 5 if it could not be put there.
pub record IsPut {P : Type 0} (puts : P → List ℕ → Bool → P → Type 0) (exit : Exit) (files files' : P) (status : ℕ) : Type 0 where
  pub name : List ℕ
  pub wanted : IsWanted exit name
  pub reported : IsSome exit.findings
  pub is_there : Bool
  pub put : puts files name is_there files'
  pub status_is : status ≡ (if is_there then exit.status else 5)

-- the picture of an answer: put into the one file that is named for it, or left out. So nothing is put anywhere if no picture is
-- asked for.
abbrev pub IsPictured : {P : Type 0} → (P → List ℕ → Bool → P → Type 0) → Exit → P → P → ℕ → Type 0
IsPictured puts exit files files' status = IsLeftOut exit files files' status ⊎ IsPut puts exit files files' status
