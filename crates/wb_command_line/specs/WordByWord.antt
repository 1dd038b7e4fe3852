-- Which words clap takes on the command line where none of them is an option, and what they spell, said without clap.
use Rattle.std.specs.Prelude.{◌≡◌, ◌≢◌, ◌==◌, ◌&&◌, ◌||◌, Bool, true, false, not, List, [], ◌∷◌, ◌++◌, Option, Some, None, MatchOption, codes, if◌then◌else◌}
use Rattle.std.specs.List.{list_any}
use Rattle.std.specs.Option.{option_map_or}
use Rattle.std.specs.Str.{bytes_eq}
use Rattle.clap.specs.Lexer.{long_of}
use Rattle.clap.specs.Words.{Text, fault_of, takes}
use Rattle.wb_runs.specs.declared.failures.Failures.TheVariants.{Single}
use Rattle.wb_heap_model.specs.declared.heap.Rule.TheVariants.{Unlimited}
use Rattle.wb_basics.specs.declared.limits.TheConstants.{DEFAULT_BUDGET}
use Rattle.wb_command_line.specs.CommandLine.{command_line}
use Rattle.wb_command_line.specs.Subcommands.{Subcommand, Trial, subcommand_named}
use Rattle.wb_command_line.specs.Spelled.{IsSpelledBy, default_shape, whole}
use Rattle.wb_command_line.specs.declared.command.Command.{Command}
use Rattle.wb_command_line.specs.declared.command.Task.{Task}
use Rattle.wb_command_line.specs.declared.command_line.parser.Takes.{Takes}
use Rattle.wb_command_line.specs.declared.command_line.parser.Takes.TheVariants as taking

-- `--`, after which no word is a flag
abbrev pub is_separator : Text → Bool
is_separator word = bytes_eq word (codes "--")

-- a hyphen (45) with something after it
abbrev pub is_flag : Text → Bool
is_flag (x ∷ y ∷ rest) = x == 45
is_flag _ = false

-- the options that every subcommand has
abbrev pub shared_names : List Text
shared_names = codes "budget" ∷ codes "min" ∷ codes "step" ∷ codes "moving" ∷ codes "json" ∷ codes "quiet" ∷ codes "picture" ∷ codes "sarif" ∷ []

-- those that say which failures are tried
abbrev pub failure_names : List Text
failure_names =
    codes "every" ∷ codes "persistent" ∷ codes "pairs" ∷ codes "all" ∷ codes "ends" ∷ codes "failures" ∷ codes "sets" ∷ codes "states" ∷ []

-- those that a subcommand has beside them
abbrev pub own_names : Takes → List Text
own_names taking.Rule = codes "limit" ∷ codes "fail" ∷ codes "also" ∷ codes "every" ∷ codes "fail-from" ∷ codes "set" ∷ codes "follow" ∷ codes "follow-steps" ∷ codes "follow-around" ∷ []
own_names taking.Failures = failure_names ++ codes "brief" ∷ []
own_names taking.Part = failure_names ++ codes "from" ∷ codes "to" ∷ []
own_names taking.Neither = codes "brief" ∷ []

-- the options of a subcommand, by what it takes
abbrev pub option_names : Takes → List Text
option_names takes = own_names takes ++ shared_names

abbrev pub is_option : List Text → Text → Bool
is_option names name = list_any (λ o. bytes_eq o name) names

-- `--NAME` or `--NAME=VALUE`, with such a name
abbrev pub names_option : List Text → Text → Bool
names_option names word = option_map_or (λ named. is_option names named.0) (long_of word) false

-- no word before a first `--` does
abbrev pub has_no_option : List Text → List Text → Bool
has_no_option names [] = true
has_no_option names (word ∷ rest) = is_separator word || (not (names_option names word) && has_no_option names rest)

-- what the words after a subcommand name: FILE, or nothing (`Some None`); `None` where they are not taken. One `--` may be
-- before FILE, which may then be any word, or after it, or alone
abbrev pub file_named : List Text → Option (Option Text)
file_named [] = Some None
file_named (f ∷ []) = if is_separator f then Some None else if is_flag f then None else Some (Some f)
file_named (f ∷ g ∷ []) =
    if is_separator f then Some (Some g) else if not (is_flag f) && is_separator g then Some (Some f) else None
file_named _ = None

-- one attempt at a time is tried, of all that there are
abbrev pub plain_trial : Trial
plain_trial = record { failures = Single; part = whole; all = false; ends = false; most = None; states = None }

-- a task on the file, or on standard input, with the default budget and shape, as lines, with progress, without a picture and a log, and no step is followed
abbrev pub plain_command : Task → Option Text → Command
plain_command task file = record {
  task = task;
  file = file;
  budget = DEFAULT_BUDGET;
  shape = default_shape;
  json = false;
  quiet = false;
  brief = false;
  picture = None;
  sarif = None;
  follow = None;
  around = None;
}

pub record AreTaken (words : List Text) (command : Command) : Type 0 where
  pub taken : takes command_line words ≡ true
  pub spell : IsSpelledBy words command

pub record AreRefused (words : List Text) : Type 0 where
  pub refused : takes command_line words ≡ false
  pub faulty : fault_of command_line words ≢ []

-- where no word after the subcommand is an option of it, clap takes just these, and they spell its task, without a limit,
-- a number or a rate, where each attempt fails once, on the file that they name
abbrev pub AreReadAfter : Subcommand → List Text → List Text → Type 0
AreReadAfter s words rest = has_no_option (option_names s.takes) rest ≡ true
    → MatchOption (file_named rest) (AreRefused words)
    (λ file. AreTaken words (plain_command (s.task Unlimited plain_trial) file))

-- any name of the program, then a subcommand's, then the words after it; clap refuses all others
abbrev pub AreRead : List Text → Type 0
AreRead (name ∷ word ∷ rest) =
    MatchOption (subcommand_named word) (AreRefused (name ∷ word ∷ rest)) (λ s. AreReadAfter s (name ∷ word ∷ rest) rest)
AreRead words = AreRefused words
