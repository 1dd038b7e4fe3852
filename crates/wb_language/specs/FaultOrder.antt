-- The order of the checks: the number that a report has for a fault. A fault says that the checks before its own find nothing.
use Rattle.std.specs.Prelude.{ℕ}
use Rattle.wb_language.specs.declared.fault.ScriptFault.{ScriptFault}
use Rattle.wb_language.specs.declared.fault.ScriptFault.TheVariants.{TooLong, NotAscii, Grammar, UnknownName, DoubleName, WrongKind, MayLeave, NoMain, TooMany, NoMemory}

abbrev pub number_of_fault : ScriptFault → ℕ
number_of_fault TooLong = 1
number_of_fault (NotAscii line) = 2
number_of_fault (Grammar line) = 3
number_of_fault (UnknownName line) = 4
number_of_fault (DoubleName line) = 5
number_of_fault (WrongKind line) = 6
number_of_fault (MayLeave line) = 7
number_of_fault NoMain = 8
number_of_fault (TooMany line) = 9
number_of_fault NoMemory = 10
