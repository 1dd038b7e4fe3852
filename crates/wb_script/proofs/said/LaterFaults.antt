-- A fault says that the checks before its own find nothing.
use Rattle.std.proofs.Common.{◌≡◌, ℕ, ◌<◌, List, None, arith}
use Rattle.wb_language.specs.declared.fault.ScriptFault.{ScriptFault}
use Rattle.wb_language.specs.declared.fault.ScriptFault.TheVariants.{TooLong, NotAscii, Grammar, UnknownName, DoubleName, WrongKind, MayLeave, NoMain, TooMany, NoMemory}
use Rattle.wb_language.specs.FaultOrder.{number_of_fault}
use Rattle.wb_language.specs.Forms.{forms_of}
use Rattle.wb_language.specs.Lines.{lines_of}
use Rattle.wb_language.specs.Scripts.{IsFaultOf, IsWellFormed, first_unknown, first_double, first_wrong, first_leaving}

pub none_unknown : (bytes : List ℕ) (fault : ScriptFault) → IsFaultOf bytes fault → 4 < number_of_fault fault → IsWellFormed bytes × (first_unknown (forms_of (lines_of bytes)) ≡ None)
none_unknown bytes TooLong is lt = absurd (omega (arith, lt))
none_unknown bytes (NotAscii n) is lt = absurd (omega (arith, lt))
none_unknown bytes (Grammar n) is lt = absurd (omega (arith, lt))
none_unknown bytes (UnknownName n) is lt = absurd (omega (arith, lt))
none_unknown bytes (DoubleName n) (formed, (known, is)) lt = (formed, known)
none_unknown bytes (WrongKind n) (formed, (known, once, is)) lt = (formed, known)
none_unknown bytes (MayLeave n) (formed, (known, once, right, is)) lt = (formed, known)
none_unknown bytes NoMain (formed, (named, none)) lt = (formed, named.known)
none_unknown bytes (TooMany n) (formed, (named, main, more)) lt = (formed, named.known)
none_unknown bytes NoMemory is lt = absurd is

pub none_double : (bytes : List ℕ) (fault : ScriptFault) → IsFaultOf bytes fault → 5 < number_of_fault fault → IsWellFormed bytes × (first_double (forms_of (lines_of bytes)) ≡ None)
none_double bytes TooLong is lt = absurd (omega (arith, lt))
none_double bytes (NotAscii n) is lt = absurd (omega (arith, lt))
none_double bytes (Grammar n) is lt = absurd (omega (arith, lt))
none_double bytes (UnknownName n) is lt = absurd (omega (arith, lt))
none_double bytes (DoubleName n) is lt = absurd (omega (arith, lt))
none_double bytes (WrongKind n) (formed, (known, once, is)) lt = (formed, once)
none_double bytes (MayLeave n) (formed, (known, once, right, is)) lt = (formed, once)
none_double bytes NoMain (formed, (named, none)) lt = (formed, named.once)
none_double bytes (TooMany n) (formed, (named, main, more)) lt = (formed, named.once)
none_double bytes NoMemory is lt = absurd is

pub none_wrong : (bytes : List ℕ) (fault : ScriptFault) → IsFaultOf bytes fault → 6 < number_of_fault fault → IsWellFormed bytes × (first_wrong (forms_of (lines_of bytes)) ≡ None)
none_wrong bytes TooLong is lt = absurd (omega (arith, lt))
none_wrong bytes (NotAscii n) is lt = absurd (omega (arith, lt))
none_wrong bytes (Grammar n) is lt = absurd (omega (arith, lt))
none_wrong bytes (UnknownName n) is lt = absurd (omega (arith, lt))
none_wrong bytes (DoubleName n) is lt = absurd (omega (arith, lt))
none_wrong bytes (WrongKind n) is lt = absurd (omega (arith, lt))
none_wrong bytes (MayLeave n) (formed, (known, once, right, is)) lt = (formed, right)
none_wrong bytes NoMain (formed, (named, none)) lt = (formed, named.right)
none_wrong bytes (TooMany n) (formed, (named, main, more)) lt = (formed, named.right)
none_wrong bytes NoMemory is lt = absurd is

pub none_leaving : (bytes : List ℕ) (fault : ScriptFault) → IsFaultOf bytes fault → 7 < number_of_fault fault → IsWellFormed bytes × (first_leaving (forms_of (lines_of bytes)) ≡ None)
none_leaving bytes TooLong is lt = absurd (omega (arith, lt))
none_leaving bytes (NotAscii n) is lt = absurd (omega (arith, lt))
none_leaving bytes (Grammar n) is lt = absurd (omega (arith, lt))
none_leaving bytes (UnknownName n) is lt = absurd (omega (arith, lt))
none_leaving bytes (DoubleName n) is lt = absurd (omega (arith, lt))
none_leaving bytes (WrongKind n) is lt = absurd (omega (arith, lt))
none_leaving bytes (MayLeave n) is lt = absurd (omega (arith, lt))
none_leaving bytes NoMain (formed, (named, none)) lt = (formed, named.quiet)
none_leaving bytes (TooMany n) (formed, (named, main, more)) lt = (formed, named.quiet)
none_leaving bytes NoMemory is lt = absurd is
