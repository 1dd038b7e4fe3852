-- Words that spell no command, with a fault of each kind.
use Rattle.std.specs.Prelude.{◌≡◌, List, [], ◌∷◌, codes}
use Rattle.clap.specs.Words.{kind_of, Text}
use Rattle.clap.specs.declared.error.Error.{Error}
use Rattle.clap.specs.declared.error.kind.ErrorKind.TheVariants.{UnknownArgument, ValueValidation}
use Rattle.wb_command_line.specs.Fault.{IsFaultOf}
use Rattle.wb_command_line.specs.declared.command.CommandFault.TheVariants.{Usage, Both, Also, Shape, Range}

-- the program's name, and the words after it
abbrev pub with_name : List Text → List Text
with_name words = codes "workbench" ∷ words

-- an option that `run` doesn't have
abbrev pub unknown_option : List Text
unknown_option = with_name (codes "run" ∷ codes "--sets" ∷ [])

abbrev pub UnknownOption : Type 0
UnknownOption = (error : Error) → kind_of error ≡ UnknownArgument → IsFaultOf unknown_option (Usage error)

-- a set that has number 0
abbrev pub no_list : List Text
no_list = with_name (codes "run" ∷ codes "--set" ∷ codes "0,3" ∷ [])

abbrev pub NoList : Type 0
NoList = (error : Error) → kind_of error ≡ ValueValidation → IsFaultOf no_list (Usage error)

-- a limit and a rate
abbrev pub two_rules : List Text
two_rules = with_name (codes "run" ∷ codes "--limit=9" ∷ codes "--every=4" ∷ [])

abbrev pub TwoRules : Type 0
TwoRules = IsFaultOf two_rules Both

-- a second number without a first
abbrev pub second_alone : List Text
second_alone = with_name (codes "run" ∷ codes "--also" ∷ codes "3" ∷ [])

abbrev pub SecondAlone : Type 0
SecondAlone = IsFaultOf second_alone Also

-- a minimum length of 8 bytes
abbrev pub no_multiple : List Text
no_multiple = with_name (codes "run" ∷ codes "--min" ∷ codes "8" ∷ [])

abbrev pub NoMultiple : Type 0
NoMultiple = IsFaultOf no_multiple Shape

-- a part that ends before it begins
abbrev pub reversed : List Text
reversed = with_name (codes "sweep" ∷ codes "--from" ∷ codes "3" ∷ codes "--to" ∷ codes "2" ∷ [])

abbrev pub Reversed : Type 0
Reversed = IsFaultOf reversed Range
