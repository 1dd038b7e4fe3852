-- Which kinds of lines cannot leave.
use Rattle.std.specs.Prelude.{Bool, true, false}
use Rattle.wb_tree.specs.declared.script_lines.LineKind.{LineKind}
use Rattle.wb_tree.specs.declared.script_lines.LineKind.TheVariants.{Ptr, ClassPtr, Int, Free, AllocLen, Store, Load, Delete, Set, SetField, Null, Add, Print, Heap, Available, Compress, IfNull, IfSome, IfEqual, IfLess, Else, Repeat, End}

-- what may be in the body of an operation or of a destructor: nothing that can leave
abbrev pub is_quiet : LineKind → Bool
is_quiet Ptr = true
is_quiet ClassPtr = true
is_quiet Int = true
is_quiet Free = true
is_quiet Delete = true
is_quiet Set = true
is_quiet SetField = true
is_quiet Null = true
is_quiet Add = true
is_quiet AllocLen = true
is_quiet Load = true
is_quiet Store = true
is_quiet IfNull = true
is_quiet IfSome = true
is_quiet IfEqual = true
is_quiet IfLess = true
is_quiet Else = true
is_quiet Repeat = true
is_quiet Print = true
is_quiet Heap = true
is_quiet Available = true
is_quiet Compress = true
is_quiet End = true
is_quiet _ = false
