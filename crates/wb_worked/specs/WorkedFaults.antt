-- Bytes that spell no script, with a fault of each kind.
use Rattle.std.specs.Prelude.{ℕ, ◌<◌, List, length, codes}
use Rattle.wb_language.specs.declared.fault.ScriptFault.TheVariants.{TooLong, NotAscii, Grammar, UnknownName, DoubleName, WrongKind, MayLeave, NoMain, TooMany}
use Rattle.wb_language.specs.Scripts.{IsFaultOf}

-- more bytes than a script may have, whatever they are
abbrev pub TooManyBytes : Type 0
TooManyBytes = (bytes : List ℕ) → 65536 < length bytes → IsFaultOf bytes TooLong

-- a byte that no line may hold, in a comment
abbrev pub ForeignByte : Type 0
ForeignByte = IsFaultOf (codes "proc main\n# \u{7f}\nend") (NotAscii 2)

-- an end of nothing
abbrev pub end_alone : List ℕ
end_alone = codes "end\nproc main\nend"

abbrev pub EndAlone : Type 0
EndAlone = IsFaultOf end_alone (Grammar 1)

-- a name that nothing declares
abbrev pub undeclared : List ℕ
undeclared = codes "proc main\nfree p\nend"

abbrev pub Undeclared : Type 0
Undeclared = IsFaultOf undeclared (UnknownName 2)

-- one that two lines declare
abbrev pub declared_twice : List ℕ
declared_twice = codes "proc main\nptr p\nptr p\nend"

abbrev pub DeclaredTwice : Type 0
DeclaredTwice = IsFaultOf declared_twice (DoubleName 3)

-- a number where a pointer belongs
abbrev pub number_is_freed : List ℕ
number_is_freed = codes "proc main\nint x\nfree x\nend"

abbrev pub NumberIsFreed : Type 0
NumberIsFreed = IsFaultOf number_is_freed (WrongKind 3)

-- an operation that may leave
abbrev pub leaves_in_operation : List ℕ
leaves_in_operation = codes "op undo p\nalloc p 1\nend\nproc main\nend"

abbrev pub LeavesInOperation : Type 0
LeavesInOperation = IsFaultOf leaves_in_operation (MayLeave 2)

-- no procedure that is run first
abbrev pub without_main : List ℕ
without_main = codes "proc first\nend"

abbrev pub WithoutMain : Type 0
WithoutMain = IsFaultOf without_main NoMain

-- a text that is larger than any may be
abbrev pub text_too_large : List ℕ
text_too_large = codes "proc main\nbuf b 70000\nend"

abbrev pub TextTooLarge : Type 0
TextTooLarge = IsFaultOf text_too_large (TooMany 2)
