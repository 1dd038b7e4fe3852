-- The tables of the language: for each line kind the word that begins its lines, what follows it, what its lines are to the
-- grammar of blocks, and whether they cannot leave; and for each operand place the words that are grammatical there, and the operand
-- kinds that are right.
use Rattle.std.specs.Prelude.{ℕ, ◌-◌, List, [], ◌∷◌, ◌++◌, Bool, true, false, not, ◌||◌, Option, Some, None, codes, length, replicate}
use Rattle.wb_tree.specs.declared.script_lines.LineKind.{LineKind}
use Rattle.wb_tree.specs.declared.script_lines.LineKind.TheVariants.{Class, Field, ClassField, Constructor, Destructor, Proc, Op, Ptr, ClassPtr, Int, Buf, View, Alloc, AllocL, Realloc, ReallocL, Free, AllocLen, Store, Load, New, NewLeave, Construct, Delete, Set, SetField, Null, Add, Push, PushObj, PushOp, Pop, PopDestroy, PopCheck, Leave, LeaveIfError, LeaveIfNull, Call, CallTo, Return, ReturnPointer, Mark, MarkEnd, Check, CheckAll, FailNext, FailEvery, FailNone, HNew, HNewL, HRealloc, Copy, Append, Insert, DelText, SetLength, Left, Right, Mid, GetLen, GetMax, Print, Heap, Available, Compress, IfNull, IfSome, IfEqual, IfLess, Else, Repeat, Trap, End}
use Rattle.wb_tree.specs.declared.script_lines.OperandPlace.{OperandPlace}
use Rattle.wb_tree.specs.declared.script_lines.OperandPlace.TheVariants as operand_place
use Rattle.wb_tree.specs.declared.script_lines.Keyword.TheVariants as keyword
use Rattle.wb_tree.specs.declared.script_lines.WordKind.{WordKind}
use Rattle.wb_tree.specs.declared.script_lines.WordKind.TheVariants as word
use Rattle.wb_tree.specs.declared.script_lines.OperandKind.{OperandKind}
use Rattle.wb_tree.specs.declared.script_lines.OperandKind.TheVariants as operand_kind
use Rattle.wb_tree.specs.declared.script_lines.Role.{Role}
use Rattle.wb_tree.specs.declared.script_lines.Role.TheVariants as role
use Rattle.wb_tree.specs.declared.script_lines.BodyKind.{BodyKind}
use Rattle.wb_tree.specs.declared.script_lines.BodyKind.TheVariants as of
use Rattle.wb_tree.specs.QuietLines.{is_quiet}

-- Opened only where a line is read, so that no other goal grows with the number of line kinds.
unfoldable pub line_kinds : List LineKind
line_kinds =
    Class ∷ Field ∷ ClassField ∷ Constructor ∷ Destructor ∷ Proc ∷ Op ∷ Ptr ∷ ClassPtr ∷ Int ∷ Buf ∷ View
    ∷ Alloc ∷ AllocL ∷ Realloc ∷ ReallocL ∷ Free ∷ AllocLen ∷ Store ∷ Load ∷ New ∷ NewLeave ∷ Construct ∷ Delete ∷ Set ∷ SetField
    ∷ Null ∷ Add ∷ Push ∷ PushObj ∷ PushOp ∷ Pop ∷ PopDestroy ∷ PopCheck ∷ Leave ∷ LeaveIfError ∷ LeaveIfNull ∷ Call ∷ CallTo ∷ Return ∷ ReturnPointer
    ∷ Mark ∷ MarkEnd ∷ Check ∷ CheckAll ∷ FailNext ∷ FailEvery ∷ FailNone
    ∷ HNew ∷ HNewL ∷ HRealloc ∷ Copy ∷ Append ∷ Insert ∷ DelText ∷ SetLength ∷ Left ∷ Right ∷ Mid ∷ GetLen ∷ GetMax
    ∷ Print ∷ Heap ∷ Available ∷ Compress ∷ IfNull ∷ IfSome ∷ IfEqual ∷ IfLess ∷ Else ∷ Repeat ∷ Trap ∷ End
    ∷ []

abbrev pub text_of : LineKind → List ℕ
text_of Class = codes "class"
text_of Field = codes "field"
text_of ClassField = codes "field"
text_of Constructor = codes "construct"
text_of Destructor = codes "destroy"
text_of Proc = codes "proc"
text_of Op = codes "op"
text_of Ptr = codes "ptr"
text_of ClassPtr = codes "ptr"
text_of Int = codes "int"
text_of Buf = codes "buf"
text_of View = codes "view"
text_of Alloc = codes "alloc"
text_of AllocL = codes "allocl"
text_of Realloc = codes "realloc"
text_of ReallocL = codes "reallocl"
text_of Free = codes "free"
text_of AllocLen = codes "alloclen"
text_of Store = codes "store"
text_of Load = codes "load"
text_of New = codes "new"
text_of NewLeave = codes "newleave"
text_of Construct = codes "construct"
text_of Delete = codes "delete"
text_of Set = codes "set"
text_of SetField = codes "set"
text_of Null = codes "null"
text_of Add = codes "add"
text_of Push = codes "push"
text_of PushObj = codes "pushobj"
text_of PushOp = codes "pushop"
text_of Pop = codes "pop"
text_of PopDestroy = codes "popdestroy"
text_of PopCheck = codes "popcheck"
text_of Leave = codes "leave"
text_of LeaveIfError = codes "leaveiferror"
text_of LeaveIfNull = codes "leaveifnull"
text_of Call = codes "call"
text_of CallTo = codes "callto"
text_of Return = codes "return"
text_of ReturnPointer = codes "return"
text_of Mark = codes "mark"
text_of MarkEnd = codes "markend"
text_of Check = codes "check"
text_of CheckAll = codes "checkall"
text_of FailNext = codes "failnext"
text_of FailEvery = codes "failevery"
text_of FailNone = codes "failnone"
text_of HNew = codes "hnew"
text_of HNewL = codes "hnewl"
text_of HRealloc = codes "hrealloc"
text_of Copy = codes "copy"
text_of Append = codes "append"
text_of Insert = codes "insert"
text_of DelText = codes "deltext"
text_of SetLength = codes "setlength"
text_of Left = codes "left"
text_of Right = codes "right"
text_of Mid = codes "mid"
text_of GetLen = codes "getlen"
text_of GetMax = codes "getmax"
text_of Print = codes "print"
text_of Heap = codes "heap"
text_of Available = codes "available"
text_of Compress = codes "compress"
text_of IfNull = codes "if"
text_of IfSome = codes "if"
text_of IfEqual = codes "if"
text_of IfLess = codes "if"
text_of Else = codes "else"
text_of Repeat = codes "repeat"
text_of Trap = codes "trap"
text_of End = codes "end"

abbrev pub operand_places_of : LineKind → List OperandPlace
operand_places_of Class = operand_place.Declared ∷ operand_place.Size ∷ []
operand_places_of Field = operand_place.Declared ∷ []
operand_places_of ClassField = operand_place.Declared ∷ operand_place.Class ∷ []
operand_places_of Constructor = []
operand_places_of Destructor = []
operand_places_of Proc = operand_place.Declared ∷ []
operand_places_of Op = operand_place.Declared ∷ operand_place.ItsPointer ∷ []
operand_places_of Ptr = operand_place.Declared ∷ []
operand_places_of ClassPtr = operand_place.Declared ∷ operand_place.Class ∷ []
operand_places_of Int = operand_place.Declared ∷ []
operand_places_of Buf = operand_place.Declared ∷ operand_place.Size ∷ []
operand_places_of View = operand_place.Declared ∷ []
operand_places_of Alloc = operand_place.Written ∷ operand_place.Value ∷ []
operand_places_of AllocL = operand_place.Written ∷ operand_place.Value ∷ []
operand_places_of Realloc = operand_place.Written ∷ operand_place.Pointer ∷ operand_place.Value ∷ []
operand_places_of ReallocL = operand_place.Written ∷ operand_place.Pointer ∷ operand_place.Value ∷ []
operand_places_of Free = operand_place.Pointer ∷ []
operand_places_of AllocLen = operand_place.Variable ∷ operand_place.Pointer ∷ []
operand_places_of Store = operand_place.Pointer ∷ operand_place.Value ∷ operand_place.Value ∷ []
operand_places_of Load = operand_place.Variable ∷ operand_place.Pointer ∷ operand_place.Value ∷ []
operand_places_of New = operand_place.Written ∷ operand_place.Class ∷ []
operand_places_of NewLeave = operand_place.Written ∷ operand_place.Class ∷ []
operand_places_of Construct = operand_place.Pointer ∷ []
operand_places_of Delete = operand_place.Pointer ∷ []
operand_places_of Set = operand_place.Target ∷ operand_place.Source ∷ []
operand_places_of SetField = operand_place.FieldTarget ∷ operand_place.Pointer ∷ []
operand_places_of Null = operand_place.Written ∷ []
operand_places_of Add = operand_place.Variable ∷ operand_place.Value ∷ []
operand_places_of Push = operand_place.Pointer ∷ []
operand_places_of PushObj = operand_place.Pointer ∷ []
operand_places_of PushOp = operand_place.Pointer ∷ operand_place.Operation ∷ []
operand_places_of Pop = operand_place.Value ∷ []
operand_places_of PopDestroy = operand_place.Value ∷ []
operand_places_of PopCheck = operand_place.Pointer ∷ []
operand_places_of Leave = operand_place.Value ∷ []
operand_places_of LeaveIfError = operand_place.Value ∷ []
operand_places_of LeaveIfNull = operand_place.Pointer ∷ []
operand_places_of Call = operand_place.Procedure ∷ []
operand_places_of CallTo = operand_place.Receiver ∷ operand_place.Procedure ∷ []
operand_places_of Return = []
operand_places_of ReturnPointer = operand_place.Pointer ∷ []
operand_places_of Mark = []
operand_places_of MarkEnd = operand_place.Value ∷ []
operand_places_of Check = operand_place.Value ∷ []
operand_places_of CheckAll = operand_place.Value ∷ []
operand_places_of FailNext = operand_place.Value ∷ []
operand_places_of FailEvery = operand_place.Value ∷ []
operand_places_of FailNone = []
operand_places_of HNew = operand_place.Written ∷ operand_place.Value ∷ []
operand_places_of HNewL = operand_place.Written ∷ operand_place.Value ∷ []
operand_places_of HRealloc = operand_place.Written ∷ operand_place.Pointer ∷ operand_place.Value ∷ []
operand_places_of Copy = operand_place.Writable ∷ operand_place.Readable ∷ []
operand_places_of Append = operand_place.Writable ∷ operand_place.Readable ∷ []
operand_places_of Insert = operand_place.Writable ∷ operand_place.Value ∷ operand_place.Readable ∷ []
operand_places_of DelText = operand_place.Writable ∷ operand_place.Value ∷ operand_place.Value ∷ []
operand_places_of SetLength = operand_place.Writable ∷ operand_place.Value ∷ []
operand_places_of Left = operand_place.ViewName ∷ operand_place.Readable ∷ operand_place.Value ∷ []
operand_places_of Right = operand_place.ViewName ∷ operand_place.Readable ∷ operand_place.Value ∷ []
operand_places_of Mid = operand_place.ViewName ∷ operand_place.Readable ∷ operand_place.Value ∷ operand_place.Value ∷ []
operand_places_of GetLen = operand_place.Variable ∷ operand_place.Readable ∷ []
operand_places_of GetMax = operand_place.Variable ∷ operand_place.Writable ∷ []
operand_places_of Print = operand_place.Printed ∷ []
operand_places_of Heap = []
operand_places_of Available = []
operand_places_of Compress = []
operand_places_of IfNull = operand_place.Keyword keyword.Null ∷ operand_place.Pointer ∷ []
operand_places_of IfSome = operand_place.Keyword keyword.Some ∷ operand_place.Pointer ∷ []
operand_places_of IfEqual = operand_place.Keyword keyword.Equal ∷ operand_place.Value ∷ operand_place.Value ∷ []
operand_places_of IfLess = operand_place.Keyword keyword.Less ∷ operand_place.Value ∷ operand_place.Value ∷ []
operand_places_of Else = []
operand_places_of Repeat = operand_place.Value ∷ []
operand_places_of Trap = operand_place.Variable ∷ []
operand_places_of End = []

-- what any number of further words is
abbrev pub rest_of : LineKind → Option OperandPlace
rest_of Proc = Some operand_place.Parameter
rest_of Call = Some operand_place.Argument
rest_of CallTo = Some operand_place.Argument
rest_of _ = None

abbrev pub operand_places_with : List OperandPlace → Option OperandPlace → ℕ → List OperandPlace
operand_places_with operand_places None count = operand_places
operand_places_with operand_places (Some operand_place) count = operand_places ++ replicate (count - length operand_places) operand_place

-- what follows a line kind, by how many words there are
abbrev pub operand_places_for : LineKind → ℕ → List OperandPlace
operand_places_for line_kind count = operand_places_with (operand_places_of line_kind) (rest_of line_kind) count

abbrev pub role_of : LineKind → Role
role_of Class = role.Class
role_of Field = role.Field
role_of ClassField = role.Field
role_of Constructor = role.Construct
role_of Destructor = role.Destroy
role_of Proc = role.Procedure
role_of Op = role.Procedure
role_of Ptr = role.Declaration
role_of ClassPtr = role.Declaration
role_of Int = role.Declaration
role_of Buf = role.Declaration
role_of View = role.Declaration
role_of Alloc = role.Plain
role_of AllocL = role.Plain
role_of Realloc = role.Plain
role_of ReallocL = role.Plain
role_of Free = role.Plain
role_of AllocLen = role.Plain
role_of Store = role.Plain
role_of Load = role.Plain
role_of New = role.Plain
role_of NewLeave = role.Plain
role_of Construct = role.Plain
role_of Delete = role.Plain
role_of Set = role.Plain
role_of SetField = role.Plain
role_of Null = role.Plain
role_of Add = role.Plain
role_of Push = role.Plain
role_of PushObj = role.Plain
role_of PushOp = role.Plain
role_of Pop = role.Plain
role_of PopDestroy = role.Plain
role_of PopCheck = role.Plain
role_of Leave = role.Plain
role_of LeaveIfError = role.Plain
role_of LeaveIfNull = role.Plain
role_of Call = role.Plain
role_of CallTo = role.Plain
role_of Return = role.Plain
role_of ReturnPointer = role.Plain
role_of Mark = role.Plain
role_of MarkEnd = role.Plain
role_of Check = role.Plain
role_of CheckAll = role.Plain
role_of FailNext = role.Plain
role_of FailEvery = role.Plain
role_of FailNone = role.Plain
role_of HNew = role.Plain
role_of HNewL = role.Plain
role_of HRealloc = role.Plain
role_of Copy = role.Plain
role_of Append = role.Plain
role_of Insert = role.Plain
role_of DelText = role.Plain
role_of SetLength = role.Plain
role_of Left = role.Plain
role_of Right = role.Plain
role_of Mid = role.Plain
role_of GetLen = role.Plain
role_of GetMax = role.Plain
role_of Print = role.Plain
role_of Heap = role.Plain
role_of Available = role.Plain
role_of Compress = role.Plain
role_of IfNull = role.If
role_of IfSome = role.If
role_of IfEqual = role.If
role_of IfLess = role.If
role_of Else = role.Else
role_of Repeat = role.Loop
role_of Trap = role.Loop
role_of End = role.End

-- lines of the script and of its classes are none of the body before them
abbrev pub is_outside_role : Role → Bool
is_outside_role role.Class = true
is_outside_role role.Field = true
is_outside_role role.Construct = true
is_outside_role role.Destroy = true
is_outside_role role.Procedure = true
is_outside_role _ = false

abbrev pub is_outside : LineKind → Bool
is_outside line_kind = is_outside_role (role_of line_kind)

abbrev pub is_loud : LineKind → Bool
is_loud line_kind = not (is_outside line_kind || is_quiet line_kind)

abbrev pub may_leave_in : BodyKind → LineKind → Bool
may_leave_in of.Operation line_kind = is_loud line_kind
may_leave_in of.Destructor line_kind = is_loud line_kind
may_leave_in _ line_kind = false

-- The words that are grammatical in a place of a line. A word that two of them admit is of the first.
abbrev pub word_kinds : OperandPlace → List WordKind
word_kinds operand_place.Declared = word.NewName ∷ []
word_kinds operand_place.Pointer = word.Name ∷ word.Field ∷ []
word_kinds operand_place.Written = word.Name ∷ word.Field ∷ []
word_kinds operand_place.Receiver = word.Name ∷ word.Field ∷ []
word_kinds operand_place.FieldTarget = word.Field ∷ []
word_kinds operand_place.Value = word.Number ∷ word.Name ∷ []
word_kinds operand_place.Variable = word.Name ∷ []
word_kinds operand_place.Target = word.Name ∷ []
word_kinds operand_place.Source = word.Number ∷ word.Name ∷ word.Field ∷ []
word_kinds operand_place.Size = word.Size ∷ []
word_kinds operand_place.Writable = word.Name ∷ word.Field ∷ []
word_kinds operand_place.Readable = word.Name ∷ word.Field ∷ word.Literal ∷ []
word_kinds operand_place.ViewName = word.Name ∷ []
word_kinds operand_place.Printed = word.Number ∷ word.Name ∷ word.Field ∷ word.Literal ∷ []
word_kinds operand_place.Class = word.Name ∷ []
word_kinds operand_place.Procedure = word.Name ∷ []
word_kinds operand_place.Operation = word.Name ∷ []
word_kinds operand_place.Parameter = word.Parameter ∷ []
word_kinds operand_place.ItsPointer = word.NewPointer ∷ []
word_kinds operand_place.Argument = word.Number ∷ word.Name ∷ word.Field ∷ []
word_kinds (operand_place.Keyword k) = word.Keyword k ∷ []

-- any pointer that can be read
abbrev pub is_pointer_kind : OperandKind → Bool
is_pointer_kind operand_kind.Pointer = true
is_pointer_kind operand_kind.This = true
is_pointer_kind operand_kind.Field = true
is_pointer_kind _ = false

-- The kinds of operands that are right in a place of a line. A pointer may be one to a text, and is asked for it only in
-- a run. `self` is read alone.
abbrev pub takes : OperandPlace → OperandKind → Bool
takes operand_place.Declared operand_kind.Declared = true
takes operand_place.Pointer s = is_pointer_kind s
takes operand_place.Written operand_kind.Pointer = true
takes operand_place.Written operand_kind.Field = true
takes operand_place.Receiver operand_kind.Pointer = true
takes operand_place.FieldTarget operand_kind.Field = true
takes operand_place.Value operand_kind.Number = true
takes operand_place.Value operand_kind.Variable = true
takes operand_place.Variable operand_kind.Variable = true
takes operand_place.Target operand_kind.Pointer = true
takes operand_place.Target operand_kind.Variable = true
takes operand_place.Source operand_kind.Number = true
takes operand_place.Source operand_kind.Variable = true
takes operand_place.Source s = is_pointer_kind s
takes operand_place.Size operand_kind.Size = true
takes operand_place.Writable operand_kind.Buffer = true
takes operand_place.Writable s = is_pointer_kind s
takes operand_place.Readable operand_kind.Buffer = true
takes operand_place.Readable operand_kind.View = true
takes operand_place.Readable operand_kind.Literal = true
takes operand_place.Readable s = is_pointer_kind s
takes operand_place.ViewName operand_kind.View = true
takes operand_place.Printed operand_kind.Number = true
takes operand_place.Printed operand_kind.Variable = true
takes operand_place.Printed operand_kind.Buffer = true
takes operand_place.Printed operand_kind.View = true
takes operand_place.Printed operand_kind.Literal = true
takes operand_place.Printed s = is_pointer_kind s
takes operand_place.Class operand_kind.Class = true
takes operand_place.Procedure operand_kind.Procedure = true
takes operand_place.Operation operand_kind.Operation = true
takes operand_place.Parameter operand_kind.Parameter = true
takes operand_place.ItsPointer operand_kind.Parameter = true
takes operand_place.Argument operand_kind.Number = true
takes operand_place.Argument operand_kind.Variable = true
takes operand_place.Argument s = is_pointer_kind s
takes (operand_place.Keyword k) operand_kind.Keyword = true
takes _ _ = false
