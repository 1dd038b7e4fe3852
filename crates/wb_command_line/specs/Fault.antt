-- What becomes of an error of clap, and of a fault of the command line.
use Rattle.std.specs.Prelude.{◌≡◌, ◌≢◌, ◌⊎◌, ⊤, ℕ, List, [], Bool, true, false, if◌then◌else◌}
use Rattle.clap.specs.Words.{IsAmong, Row, Text, fault_of, kind_of}
use Rattle.clap.specs.declared.error.Error.{Error}
use Rattle.clap.specs.declared.error.kind.ErrorKind.{ErrorKind}
use Rattle.clap.specs.declared.error.kind.ErrorKind.TheVariants.{OutOfMemory, ValueValidation}
use Rattle.wb_command_line.specs.CommandLine.{command_line}
use Rattle.wb_command_line.specs.Command.{is_filled, is_sixteenfold}
use Rattle.wb_command_line.specs.Spelled.{IsMeantBy, IsSpelledBy, disorders, doubles, gives_disorder, gives_no_list, gives_several, mislists, spell_both, spell_disorder, spell_no_list}
use Rattle.wb_command_line.specs.SetList.{is_list}
use Rattle.wb_command_line.specs.declared.command.Command.{Command}
use Rattle.wb_command_line.specs.declared.command.CommandFault.{CommandFault}
use Rattle.wb_command_line.specs.declared.command.CommandFault.TheVariants.{Usage, Both, Also, Shape, Range, NoMemory}

abbrev pub is_want_of_memory : ErrorKind → Bool
is_want_of_memory OutOfMemory = true
is_want_of_memory _ = false

-- where clap's own memory ran out, so did the workbench's; every other error is a fault of the words
abbrev pub fault_of_error : Error → CommandFault
fault_of_error e = if is_want_of_memory (kind_of e) then NoMemory else Usage e

-- clap takes the words, but the text of a set that they give is no list
pub record IsMislisted (words : List Text) : Type 0 where
  pub faultless : fault_of command_line words ≡ []
  pub mislisted : spell_no_list words ≡ true

-- clap takes the words, and a set that they give is a list, but they give more than one of a limit, the number of an attempt, a rate, the
-- number of the first attempt that fails and a set; or ask for more than goes together of what is to be tried
pub record IsDoubled (words : List Text) : Type 0 where
  pub faultless : fault_of command_line words ≡ []
  pub listed : spell_no_list words ≡ false
  pub doubled : spell_both words ≡ true

-- clap takes the words, and they don't do that, but they give a second number that doesn't come after a first
pub record IsDisordered (words : List Text) : Type 0 where
  pub faultless : fault_of command_line words ≡ []
  pub listed : spell_no_list words ≡ false
  pub one_rule : spell_both words ≡ false
  pub disordered : spell_disorder words ≡ true

-- clap takes the words, and they do neither, but the heap's minimum length or step that they spell is no multiple of 16
pub record IsMisshapen (words : List Text) : Type 0 where
  pub command : Command
  pub spelled : IsSpelledBy words command
  pub misshapen : is_sixteenfold command.shape ≡ false

-- clap takes the words, and they have none of these faults, but the part that they spell ends before it begins
pub record IsReversed (words : List Text) : Type 0 where
  pub command : Command
  pub spelled : IsSpelledBy words command
  pub shapely : is_sixteenfold command.shape ≡ true
  pub empty : is_filled command.task ≡ false

-- the error is one that clap's meaning finds in the words, or, where it finds none, of the value that is no list
abbrev pub IsUsageOf : List Text → Error → Type 0
IsUsageOf words e =
    ((kind_of e ≢ OutOfMemory) × IsAmong (kind_of e) (fault_of command_line words)) ⊎ ((kind_of e ≡ ValueValidation) × IsMislisted words)

-- the fault is one that clap's meaning finds in the words; where it finds none, of a set's list, then of the rules that they spell or
-- of what is to be tried, then of the second number, then of the shape, and then of the part; memory that ran out says nothing of them
abbrev pub IsFaultOf : List Text → CommandFault → Type 0
IsFaultOf words (Usage e) = IsUsageOf words e
IsFaultOf words Both = IsDoubled words
IsFaultOf words Also = IsDisordered words
IsFaultOf words Shape = IsMisshapen words
IsFaultOf words Range = IsReversed words
IsFaultOf words NoMemory = ⊤

-- what is given has a list if it has a set, but gives more than goes together
pub record AreDoubled (name : Text) (rows : List Row) : Type 0 where
  pub listed : mislists name rows ≡ false
  pub doubled : doubles name rows ≡ true

-- what is given has a list if it has a set, and doubles nothing, but a second number doesn't come after a first
pub record AreDisordered (name : Text) (rows : List Row) : Type 0 where
  pub listed : mislists name rows ≡ false
  pub one_rule : doubles name rows ≡ false
  pub disordered : disorders name rows ≡ true

-- what is given is a command's, but the heap's minimum length or step is no multiple of 16
pub record AreMisshapen (name : Text) (rows : List Row) : Type 0 where
  pub command : Command
  pub meant : IsMeantBy name rows command
  pub misshapen : is_sixteenfold command.shape ≡ false

-- what is given is a command's, and its shape is right, but its part ends before it begins
pub record AreReversed (name : Text) (rows : List Row) : Type 0 where
  pub command : Command
  pub meant : IsMeantBy name rows command
  pub shapely : is_sixteenfold command.shape ≡ true
  pub empty : is_filled command.task ≡ false

-- the fault is one of a subcommand's options, which clap has taken, or memory ran out
abbrev pub IsFaultOfOptions : Text → List Row → CommandFault → Type 0
IsFaultOfOptions name rows (Usage e) = (kind_of e ≡ ValueValidation) × (mislists name rows ≡ true)
IsFaultOfOptions name rows Both = AreDoubled name rows
IsFaultOfOptions name rows Also = AreDisordered name rows
IsFaultOfOptions name rows Shape = AreMisshapen name rows
IsFaultOfOptions name rows Range = AreReversed name rows
IsFaultOfOptions name rows NoMemory = ⊤

-- the fault is one of the rule or the failures that a subcommand is given, which clap has taken, or memory ran out
abbrev pub IsFaultOfTask : Text → List Row → CommandFault → Type 0
IsFaultOfTask name rows (Usage e) = (kind_of e ≡ ValueValidation) × (mislists name rows ≡ true)
IsFaultOfTask name rows Both = AreDoubled name rows
IsFaultOfTask name rows Also = AreDisordered name rows
IsFaultOfTask name rows NoMemory = ⊤
IsFaultOfTask name rows _ = ⊥

-- what is given has a list if it has a set, and no more than one rule, but a second number doesn't come after a first
pub record IsDisorderedRule (rows : List Row) : Type 0 where
  pub listed : gives_no_list rows ≡ false
  pub one_rule : gives_several rows ≡ false
  pub disordered : gives_disorder rows ≡ true

-- the fault is one of the options that give a rule, which clap has taken, or memory ran out
abbrev pub IsFaultOfRule : List Row → CommandFault → Type 0
IsFaultOfRule rows (Usage e) = (kind_of e ≡ ValueValidation) × (gives_no_list rows ≡ true)
IsFaultOfRule rows Both = (gives_no_list rows ≡ false) × (gives_several rows ≡ true)
IsFaultOfRule rows Also = IsDisorderedRule rows
IsFaultOfRule rows NoMemory = ⊤
IsFaultOfRule rows _ = ⊥

-- the fault is one of a set's text, which clap has taken, or memory ran out
abbrev pub IsFaultOfSet : List Row → CommandFault → Type 0
IsFaultOfSet rows (Usage e) = (kind_of e ≡ ValueValidation) × (gives_no_list rows ≡ true)
IsFaultOfSet rows NoMemory = ⊤
IsFaultOfSet rows _ = ⊥

-- the fault is that a text is no list, or memory ran out
abbrev pub IsFaultOfText : Text → CommandFault → Type 0
IsFaultOfText text (Usage e) = (kind_of e ≡ ValueValidation) × (is_list text ≡ false)
IsFaultOfText text NoMemory = ⊤
IsFaultOfText text _ = ⊥

-- no fault of usage
abbrev pub IsAfterUsage : CommandFault → Type 0
IsAfterUsage fault =
    (fault ≡ Both) ⊎ ((fault ≡ Also) ⊎ ((fault ≡ Shape) ⊎ ((fault ≡ Range) ⊎ (fault ≡ NoMemory))))

-- the exit status of a program that got no command
abbrev pub refusal_status : CommandFault → ℕ
refusal_status (Usage e) = 6
refusal_status Both = 6
refusal_status Also = 6
refusal_status Shape = 6
refusal_status Range = 6
refusal_status NoMemory = 4
