-- What is read, what is written, and the exit status, whatever the reader and the writer do.
use Rattle.std.specs.Prelude.{◌≡◌, ◌+◌, ◌≤◌, ◌⊎◌, ℕ, List, Bool, true, false, Option, None, Result, Err, MatchOption, length, take, IfSome}
use Rattle.std.specs.Io.KnownBytes.{Appends}
use Rattle.workbench.specs.declared.answer.Answered.{Answered}
use Rattle.workbench.specs.declared.answer.ReportFault.{ReportFault}
use Rattle.workbench.specs.declared.answer.ReportFault.TheVariants.{Read}
use Rattle.wb_basics.specs.declared.limits.TheConstants.{LONGEST_SCRIPT}
use Rattle.wb_command_line.specs.declared.command.Command.{Command}
use Rattle.workbench.specs.declared.findings.Findings.{Findings}
use Rattle.workbench.specs.declared.report_values.ReportValues.{ReportValues}
use Rattle.workbench.specs.JsonReport.{laid_out}
use Rattle.workbench.specs.Report.{IsReport, no_memory, read_fault}
use Rattle.wb_streams.specs.Streams.{AppendsFirst, Came, Reads, Writes}

-- the bytes are the first of those that a reader holds, if its bytes are known, and never more than this
pub record AreFirst (most : ℕ) (input : Option (List ℕ)) (bytes : List ℕ) : Type 0 where
  pub within : length bytes ≤ most
  pub first : IfSome input (λ all. bytes ≡ take most all)

-- the report of the command on the first bytes that the reader holds, one more than a script may have, laid out as the command wants it
pub record IsReported (command : Command) (input : Option (List ℕ)) (text : List ℕ) (status : ℕ) : Type 0 where
  pub bytes : List ℕ
  pub read : AreFirst (LONGEST_SCRIPT + 1) input bytes
  pub lines : List ℕ
  pub values : ReportValues
  pub report : IsReport command bytes lines values status
  pub text_is : text ≡ laid_out command lines values status

-- what a report is made of: the bytes that were read, and its values
pub record AreFindings (bytes : List ℕ) (values : ReportValues) (findings : Findings) : Type 0 where
  pub bytes_are : findings.bytes.items ≡ bytes
  pub values_are : findings.values ≡ values

-- the report, and what it is made of
pub record IsReportOf (command : Command) (input : Option (List ℕ)) (text : List ℕ) (status : ℕ) (findings : Findings) : Type 0 where
  pub reported : IsReported command input text status
  pub found : AreFindings reported.bytes reported.values findings

-- a read failed; the workbench's memory may have run out in its place
abbrev pub is_read_fault : {A : Type 0} → Result A ReportFault → Bool
is_read_fault (Err Read) = true
is_read_fault _ = false

-- ---- the answer, by what failed

-- what is to be written, the status that goes with it, and what it is made of, where a read failed and where none did
abbrev pub IsMessage : Command → Option (List ℕ) → Bool → List ℕ → ℕ → Option Findings → Type 0
IsMessage command input true text status found = (text ≡ read_fault) × (status ≡ 5) × (found ≡ None)
IsMessage command input false text status found =
    MatchOption found ((text ≡ no_memory) × (status ≡ 4)) (IsReportOf command input text status)

-- a write failed, so that only the first of the text went out; or none did, and the status is the text's own
abbrev pub IsSaid : Option (List ℕ) → Option (List ℕ) → Bool → List ℕ → ℕ → ℕ → Type 0
IsSaid held held' true text own status = AppendsFirst held held' text × (status ≡ 5)
IsSaid held held' false text own status = Appends held held' text × (status ≡ own)

-- a text is written, and a status answered, by what the writes came to
pub record IsWritten {W : Type 0} (contents : W → Option (List ℕ)) (writes : W → Bool → W → Type 0) (old new : W)
    (text : List ℕ) (own status : ℕ) : Type 0 where
  pub failed : Bool
  pub wrote : Writes writes old failed new
  pub said : IsSaid (contents old) (contents new) failed text own status

-- the answer to a command, by what the reads and the writes came to
pub record IsAnswer {R W : Type 0} (remaining : R → Option (List ℕ)) (reads : R → Came → R → Type 0)
    (contents : W → Option (List ℕ)) (writes : W → Bool → W → Type 0)
    (command : Command) (reader reader' : R) (writer writer' : W) (answered : Answered) : Type 0 where
  pub failed : Bool
  pub read : Reads reads reader failed reader'
  pub text : List ℕ
  pub own : ℕ
  pub message : IsMessage command (remaining reader) failed text own answered.findings
  pub written : IsWritten contents writes writer writer' text own answered.status

-- the line of a file that can't be opened is written, and there are no findings
pub record IsUnopened {W : Type 0} (contents : W → Option (List ℕ)) (writes : W → Bool → W → Type 0)
    (writer writer' : W) (answered : Answered) : Type 0 where
  pub written : IsWritten contents writes writer writer' read_fault 5 answered.status
  pub unfound : answered.findings ≡ None

-- ---- the answer, by its status

-- the whole report went out
pub record IsReportWritten (command : Command) (input held held' : Option (List ℕ)) (status : ℕ) : Type 0 where
  pub text : List ℕ
  pub reported : IsReported command input text status
  pub written : Appends held held' text

-- a text that the command may be answered with
abbrev pub IsAnyMessage : Command → Option (List ℕ) → List ℕ → Type 0
IsAnyMessage command input text = (text ≡ read_fault) ⊎ (text ≡ no_memory) ⊎ ((status : ℕ) × IsReported command input text status)

-- the first of such a text went out, or all of it
pub record IsPartWritten (command : Command) (input held held' : Option (List ℕ)) : Type 0 where
  pub text : List ℕ
  pub message : IsAnyMessage command input text
  pub written : AppendsFirst held held' text
