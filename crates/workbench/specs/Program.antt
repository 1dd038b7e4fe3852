-- What the whole program does: what becomes of its words, and where its answer and its messages go.
use Rattle.std.specs.Prelude.{◌≡◌, ◌⊎◌, ℕ, List, Bool, true, false, Option, Some, None, Result, IsTrue, MatchOption, MatchResult, if◌then◌else◌}
use Rattle.std.specs.IoError.{error_kind}
use Rattle.std.specs.declared.io.Error.{Error}
use Rattle.std.specs.declared.io.ErrorKind.{ErrorKind}
use Rattle.std.specs.declared.io.ErrorKind.TheVariants.{OutOfMemory}
use Rattle.clap.specs.Words.{Text, takes}
use Rattle.wb_command_line.specs.Command.{is_answerable}
use Rattle.wb_command_line.specs.CommandLine.{command_line}
use Rattle.wb_command_line.specs.Fault.{IsAfterUsage, IsFaultOf, refusal_status}
use Rattle.wb_command_line.specs.Spelled.{IsSpelledBy, spell_no_list}
use Rattle.wb_command_line.specs.declared.command.Command.{Command}
use Rattle.wb_command_line.specs.declared.command.CommandFault.TheVariants.{NoMemory}
use Rattle.workbench.specs.declared.answer.Answered.{Answered}
use Rattle.workbench.specs.declared.host.WordsFault.{WordsFault}
use Rattle.workbench.specs.declared.host.WordsFault.TheVariants.{NotUtf8, Refused}
use Rattle.workbench.specs.declared.program.Exit.{Exit}

-- ---- the words

abbrev pub is_out_of_memory : ErrorKind → Bool
is_out_of_memory OutOfMemory = true
is_out_of_memory _ = false

-- why there are no words
abbrev pub fault_of_words : Error → WordsFault
fault_of_words e = if is_out_of_memory (error_kind e) then Refused NoMemory else NotUtf8

-- the exit status of a program that got no command
abbrev pub words_status : WordsFault → ℕ
words_status NotUtf8 = 6
words_status (Refused fault) = refusal_status fault

-- a fault of words that could be had
abbrev pub IsWordsFault : List Text → WordsFault → Type 0
IsWordsFault words NotUtf8 = ⊥
IsWordsFault words (Refused fault) = IsFaultOf words fault × (takes command_line words ≡ true → spell_no_list words ≡ false → IsAfterUsage fault)

-- the command that the words spell, with its numbers in their ranges, or a fault of theirs
abbrev pub IsReadAs : List Text → Result Command WordsFault → Type 0
IsReadAs words r = MatchResult r (λ command. IsSpelledBy words command × IsTrue (is_answerable command)) (IsWordsFault words)

-- ---- where the script comes from, and where the answer goes

-- a reader is given, and the answer is made from it
pub record IsAnsweredFrom {H R W : Type 0} (gives : H → R → H → Type 0) (answers : R → R → W → W → Answered → Type 0)
    (host host' : H) (output output' : W) (answer : Answered) : Type 0 where
  pub reader : R
  pub reader' : R
  pub given : gives host reader host'
  pub answered : answers reader reader' output output' answer

-- the command is answered from standard input where it names no file, and else from that file; where the file can't be
-- opened, that is said
abbrev pub IsCarriedOut : {H F I W : Type 0} → (H → I → H → Type 0) → (H → List ℕ → Option F → H → Type 0)
    → (Command → I → I → W → W → Answered → Type 0) → (Command → F → F → W → W → Answered → Type 0) → (W → W → Answered → Type 0)
    → Command → H → H → W → W → Answered → Type 0
IsCarriedOut lends opens from_input from_file says command host host' output output' answer =
    MatchOption command.file (IsAnsweredFrom lends (from_input command) host host' output output' answer) (λ name.
    IsAnsweredFrom (λ h f. opens h name (Some f)) (from_file command) host host' output output' answer
    ⊎ (opens host name None host' × says output output' answer))

-- the status and the findings of an exit
abbrev pub answered_of : Exit → Answered
answered_of exit = record { status = exit.status; findings = exit.findings }

-- the fault is reported, and that is all
pub record IsRefused {H W M : Type 0} (reports : M → WordsFault → M → Type 0) (fault : WordsFault)
    (host host' : H) (output output' : W) (messages messages' : M) (exit : Exit) : Type 0 where
  pub reported : reports messages fault messages'
  pub unopened : host' ≡ host
  pub unwritten : output' ≡ output
  pub exit_is : exit ≡ record { status = words_status fault; command = None; findings = None }

-- the words spell a command with its numbers in their ranges, which is carried out and handed on, and nothing is reported
pub record IsObeyed {H W M : Type 0} (carries_out : Command → H → H → W → W → Answered → Type 0) (words : List Text)
    (host host' : H) (output output' : W) (messages messages' : M) (exit : Exit) : Type 0 where
  pub command : Command
  pub spelled : IsSpelledBy words command
  pub in_ranges : IsTrue (is_answerable command)
  pub done : carries_out command host host' output output' (answered_of exit)
  pub handed_on : exit.command ≡ Some command
  pub unreported : messages' ≡ messages

-- the words have a fault, which is reported
pub record IsBlamed {H W M : Type 0} (reports : M → WordsFault → M → Type 0) (words : List Text)
    (host host' : H) (output output' : W) (messages messages' : M) (exit : Exit) : Type 0 where
  pub fault : WordsFault
  pub found : IsWordsFault words fault
  pub refused : IsRefused reports fault host host' output output' messages messages' exit

-- the program has done what its words ask for
abbrev pub IsDone : {H W M : Type 0} → (Command → H → H → W → W → Answered → Type 0) → (M → WordsFault → M → Type 0) → List Text
    → H → H → W → W → M → M → Exit → Type 0
IsDone carries_out reports words host host' output output' messages messages' exit =
    IsObeyed carries_out words host host' output output' messages messages' exit
    ⊎ IsBlamed reports words host host' output output' messages messages' exit
