-- Where the SARIF log of an answer goes.
use Rattle.std.specs.Prelude.{◌≡◌, ◌≢◌, ◌⊎◌, ℕ, List, Bool, Some, IsSome, if◌then◌else◌}
use Rattle.wb_command_line.specs.declared.command.Command.{Command}
use Rattle.workbench.specs.declared.program.Exit.{Exit}

-- the command that was answered names this file for a log, and no read and no write failed
pub record IsLogWanted (exit : Exit) (name : List ℕ) : Type 0 where
  pub command : Command
  pub answered : exit.command ≡ Some command
  pub named : command.sarif ≡ Some name
  pub unfailed : exit.status ≢ 5

-- a log of a report is put once, into the file that is named for it. The status is the one before, or 5 if it could not be put there.
pub record IsLogPut {P : Type 0} (logs : P → List ℕ → Bool → P → Type 0) (exit : Exit) (before : ℕ) (files files' : P) (status : ℕ) : Type 0 where
  pub name : List ℕ
  pub wanted : IsLogWanted exit name
  pub reported : IsSome exit.findings
  pub is_there : Bool
  pub put : logs files name is_there files'
  pub status_is : status ≡ (if is_there then before else 5)

-- the log of an answer: put into the one file that is named for it, or left out, so that nothing is put anywhere and the status is the one
-- before
abbrev pub IsLogged : {P : Type 0} → (P → List ℕ → Bool → P → Type 0) → Exit → ℕ → P → P → ℕ → Type 0
IsLogged logs exit before files files' status = ((files' ≡ files) × (status ≡ before)) ⊎ IsLogPut logs exit before files files' status
