-- What the definitions make of bytes where a reader might doubt: each example is proved by computing.
use Rattle.std.specs.Prelude.{◌≡◌, pos, negsuc, [], ◌∷◌, ◌++◌, Some, None, codes, map, replicate}
use Rattle.std.proofs.Common.{refl}
use Rattle.wb_tree.specs.declared.script_lines.LineKind.TheVariants.{Class, Field, ClassField, Constructor, Destructor, ClassPtr, New, NewLeave, Construct, Delete, SetField, PushObj, Add, Proc, Op, Ptr, Buf, Alloc, AllocL, Free, Store, Set, Leave, LeaveIfNull, Call, CallTo, Return, ReturnPointer, Insert, Left, Print, PushOp, Heap, Available, Compress, IfNull, IfSome, IfEqual, IfLess, Else, Repeat, Trap, End}
use Rattle.wb_tree.specs.declared.script_lines.Operand.TheVariants as spelled
use Rattle.wb_tree.specs.declared.script_lines.Operand.TheVariants.{Name, Number, Size, Literal, Parameter, Keyword}
use Rattle.wb_tree.specs.declared.script_lines.ParameterType.TheVariants as parameter_type
use Rattle.wb_tree.specs.declared.script_lines.Form.TheVariants.{Skip, Unknown, Line}
use Rattle.wb_language.specs.Lines.{lines_of, words_of, first_foreign_line}
use Rattle.wb_language.specs.Words.{declared_name, number_spelled}
use Rattle.wb_language.specs.LineKinds.{line_kinds}
use Rattle.wb_language.specs.Forms.{line_form}

-- Lines.

no_lines : lines_of [] ≡ []
no_lines = refl

line_without_feed : lines_of (codes "a") ≡ codes "a" ∷ []
line_without_feed = refl

line_with_feed : lines_of (codes "a\n") ≡ codes "a" ∷ []
line_with_feed = refl

empty_lines : lines_of (codes "\n\na\r\n") ≡ [] ∷ [] ∷ codes "a\r" ∷ []
empty_lines = refl

-- a quote that nothing closes reaches no further than its line
open_quote_ends_with_line : lines_of (codes "\"a\nb c") ≡ codes "\"a" ∷ codes "b c" ∷ []
open_quote_ends_with_line = refl

-- Foreign bytes.

foreign_in_comment : first_foreign_line (codes "proc main\n# \u{7f}\nend\0") ≡ Some 2
foreign_in_comment = refl

foreign_form_feed : first_foreign_line (12 ∷ []) ≡ Some 1
foreign_form_feed = refl

foreign_behind_feed : first_foreign_line (codes "\n\n" ++ 255 ∷ []) ≡ Some 3
foreign_behind_feed = refl

nothing_foreign : first_foreign_line (codes "\t print \"~\"\r\n") ≡ None
nothing_foreign = refl

-- Words.

blanks_of_three_kinds : words_of (codes "\t alloc\r p\t\t 4 ") ≡ codes "alloc" ∷ codes "p" ∷ codes "4" ∷ []
blanks_of_three_kinds = refl

blank_between_quotes : words_of (codes "print \"a  b\" c") ≡ codes "print" ∷ codes "\"a  b\"" ∷ codes "c" ∷ []
blank_between_quotes = refl

-- Lines that say nothing, and lines that no script has.

skipped : map line_form ([] ∷ codes " \t\r" ∷ codes "#" ∷ codes "\t # \"proc" ∷ []) ≡ replicate 4 Skip
unfolding line_kinds
skipped = refl

no_comment_behind_a_word : line_form (codes "end # done") ≡ Unknown
unfolding line_kinds
no_comment_behind_a_word = refl

words_that_are_no_key : map line_form (codes "End" ∷ codes "ends" ∷ codes "en" ∷ codes "\"end\"" ∷ codes "end\" \"" ∷ []) ≡ replicate 5 Unknown
unfolding line_kinds
words_that_are_no_key = refl

too_many_words_or_too_few : map line_form (codes "end end" ∷ codes "free p q" ∷ codes "alloc p" ∷ codes "free" ∷ []) ≡ replicate 4 Unknown
unfolding line_kinds
too_many_words_or_too_few = refl

-- Keys.

procedure : line_form (codes "proc main") ≡ Line Proc (Name (codes "main") ∷ [])
unfolding line_kinds
procedure = refl

notes : map line_form (codes "heap" ∷ codes " available" ∷ codes "compress\r" ∷ []) ≡ Line Heap [] ∷ Line Available [] ∷ Line Compress [] ∷ []
unfolding line_kinds
notes = refl

notes_take_no_word : map line_form (codes "heap 1" ∷ codes "available p" ∷ codes "compress \"\"" ∷ []) ≡ replicate 3 Unknown
unfolding line_kinds
notes_take_no_word = refl

end_before_carriage_return : line_form (codes "end\r") ≡ Line End []
unfolding line_kinds
end_before_carriage_return = refl

-- Names.

name_of_every_kind_of_byte : line_form (codes "ptr zA_9_") ≡ Line Ptr (Name (codes "zA_9_") ∷ [])
unfolding line_kinds
name_of_every_kind_of_byte = refl

name_like_a_key : line_form (codes "ptr end") ≡ Line Ptr (Name (codes "end") ∷ [])
unfolding line_kinds
name_like_a_key = refl

no_names : map line_form (codes "ptr 1a" ∷ codes "ptr _a" ∷ codes "ptr a.b" ∷ codes "ptr a-b" ∷ codes "ptr 4" ∷ []) ≡ replicate 5 Unknown
unfolding line_kinds
no_names = refl

the_reserved : map declared_name (codes "self" ∷ codes "ptr" ∷ codes "int" ∷ codes "null" ∷ codes "some" ∷ codes "eq" ∷ codes "less" ∷ []) ≡ replicate 7 None
the_reserved = refl

null_is_not_declared : map line_form (codes "ptr null" ∷ codes "proc less" ∷ []) ≡ replicate 2 Unknown
unfolding line_kinds
null_is_not_declared = refl

null_is_used : line_form (codes "free null") ≡ Line Free (Name (codes "null") ∷ [])
unfolding line_kinds
null_is_used = refl

self_is_used : line_form (codes "free self") ≡ Line Free (Name (codes "self") ∷ [])
unfolding line_kinds
self_is_used = refl

name_that_begins_with_self : line_form (codes "free selfish") ≡ Line Free (Name (codes "selfish") ∷ [])
unfolding line_kinds
name_that_begins_with_self = refl

-- Numbers.

two_numbers : line_form (codes "\tstore p 3 -2\r") ≡ Line Store (Name (codes "p") ∷ Number (pos 3) ∷ Number (negsuc 1) ∷ [])
unfolding line_kinds
two_numbers = refl

-- a number where a pointer is wanted, a literal where a number is, and one operand more or less
no_stores : map line_form (codes "store 0 1 2" ∷ codes "store p 1 \"2\"" ∷ codes "store p 1" ∷ codes "store p 1 2 3" ∷ codes "store" ∷ []) ≡ replicate 5 Unknown
unfolding line_kinds
no_stores = refl

number_or_name : line_form (codes "store p x -1") ≡ Line Store (Name (codes "p") ∷ Name (codes "x") ∷ Number (negsuc 0) ∷ [])
unfolding line_kinds
number_or_name = refl

-- what a `set` writes has a name, what it reads is a name or a number
sides_of_set : map line_form (codes "set p q" ∷ codes "set x 3" ∷ codes "set 3 x" ∷ codes "set x \"3\"" ∷ []) ≡
    Line Set (Name (codes "p") ∷ Name (codes "q") ∷ []) ∷ Line Set (Name (codes "x") ∷ Number (pos 3) ∷ []) ∷ Unknown ∷ Unknown ∷ []
unfolding line_kinds
sides_of_set = refl

negative : line_form (codes "alloc p -007") ≡ Line Alloc (Name (codes "p") ∷ Number (negsuc 6) ∷ [])
unfolding line_kinds
negative = refl

no_negative_zero : number_spelled (codes "-0") ≡ Some (pos 0)
no_negative_zero = refl

nine_digits : number_spelled (codes "999999999") ≡ Some (pos 999999999)
nine_digits = refl

nine_digits_below_zero : number_spelled (codes "-999999999") ≡ Some (negsuc 999999998)
nine_digits_below_zero = refl

no_numbers : map number_spelled (codes "0000000001" ∷ codes "+5" ∷ codes "-" ∷ codes "--5" ∷ codes "5-" ∷ codes "1a" ∷ []) ≡ replicate 6 None
no_numbers = refl

no_numbers_of_bytes : map line_form (codes "alloc p 1n" ∷ codes "alloc p \"4\"" ∷ []) ≡ replicate 2 Unknown
unfolding line_kinds
no_numbers_of_bytes = refl

-- the size of a text isn't negative, and nothing but digits
sizes : map line_form (codes "buf b 257" ∷ codes "buf b -0" ∷ codes "buf b -1" ∷ codes "buf b n" ∷ codes "buf b" ∷ []) ≡
    Line Buf (Name (codes "b") ∷ Size 257 ∷ []) ∷ Line Buf (Name (codes "b") ∷ Size 0 ∷ []) ∷ replicate 3 Unknown
unfolding line_kinds
sizes = refl

-- Literals.

literal : line_form (codes "print \"# a\"") ≡ Line Print (Literal (codes "# a") ∷ [])
unfolding line_kinds
literal = refl

empty_literal : line_form (codes "print \"\"") ≡ Line Print (Literal [] ∷ [])
unfolding line_kinds
empty_literal = refl

literal_before_carriage_return : line_form (codes "print \" \"\r") ≡ Line Print (Literal (codes " ") ∷ [])
unfolding line_kinds
literal_before_carriage_return = refl

number_is_printed : line_form (codes "print 12") ≡ Line Print (Number (pos 12) ∷ [])
unfolding line_kinds
number_is_printed = refl

-- a text that is read may be a literal, one that is written may not, and neither is a number
texts : map line_form (codes "insert b 0 \"a b\"" ∷ codes "left v \"\" 1" ∷ codes "copy \"a\" b" ∷ codes "setlength \"a\" 1" ∷ codes "append b 1" ∷ codes "mid \"a\" b 0 1" ∷ []) ≡
    Line Insert (Name (codes "b") ∷ Number (pos 0) ∷ Literal (codes "a b") ∷ []) ∷ Line Left (Name (codes "v") ∷ Literal [] ∷ Number (pos 1) ∷ []) ∷ replicate 4 Unknown
unfolding line_kinds
texts = refl

-- open; with a tab or a carriage return; with something right after; two at once; after another byte
no_literals : map line_form (codes "print \"a b" ∷ codes "print \"" ∷ codes "print \"a\tb\"" ∷ codes "print \"\r\"" ∷ codes "print \"a\"b" ∷ codes "print \"a\"\"b\"" ∷ codes "print a\"b\"" ∷ []) ≡ replicate 7 Unknown
unfolding line_kinds
no_literals = refl

-- a quote within a word opens none that makes a line of what is after it
quotes_within_words : map line_form (codes "alloc a\" 4" ∷ codes "print \"a\" \"b" ∷ codes "free p\" #\"" ∷ []) ≡ replicate 3 Unknown
unfolding line_kinds
quotes_within_words = refl

name_is_printed : line_form (codes "print p") ≡ Line Print (Name (codes "p") ∷ [])
unfolding line_kinds
name_is_printed = refl

-- Procedures and calls.

parameters : map line_form (codes "proc f a:ptr" ∷ codes "proc f a:int b:int c:ptr a:ptr e:int" ∷ []) ≡
    Line Proc (Name (codes "f") ∷ Parameter (codes "a") parameter_type.Pointer ∷ [])
    ∷ Line Proc (Name (codes "f") ∷ Parameter (codes "a") parameter_type.Number ∷ Parameter (codes "b") parameter_type.Number ∷ Parameter (codes "c") parameter_type.Pointer ∷ Parameter (codes "a") parameter_type.Pointer ∷ Parameter (codes "e") parameter_type.Number ∷ []) ∷ []
unfolding line_kinds
parameters = refl

-- a kind is wanted, with nothing between it and the name, and a name that can be declared
no_parameters : map line_form (codes "proc f a" ∷ codes "proc f a: int" ∷ codes "proc f :ptr" ∷ codes "proc f self:ptr" ∷ codes "proc f int:int" ∷ codes "proc f a:b:int" ∷ codes "proc f int" ∷ []) ≡ replicate 7 Unknown
unfolding line_kinds
no_parameters = refl

calls : map line_form (codes "call f" ∷ codes "call f p -3 x" ∷ codes "callto p f" ∷ codes "callto p f 1" ∷ codes "call" ∷ codes "call 1" ∷ codes "callto p" ∷ codes "call f \"a\"" ∷ []) ≡
    Line Call (Name (codes "f") ∷ []) ∷ Line Call (Name (codes "f") ∷ Name (codes "p") ∷ Number (negsuc 2) ∷ Name (codes "x") ∷ [])
    ∷ Line CallTo (Name (codes "p") ∷ Name (codes "f") ∷ []) ∷ Line CallTo (Name (codes "p") ∷ Name (codes "f") ∷ Number (pos 1) ∷ []) ∷ replicate 4 Unknown
unfolding line_kinds
calls = refl

returns : map line_form (codes "return" ∷ codes "return p" ∷ codes "return 1" ∷ codes "return p q" ∷ []) ≡
    Line Return [] ∷ Line ReturnPointer (Name (codes "p") ∷ []) ∷ replicate 2 Unknown
unfolding line_kinds
returns = refl

-- Operations: the one parameter is a pointer, and no kind is given.

operations : map line_form (codes "op drop p" ∷ codes " op  p p\r" ∷ codes "pushop p drop" ∷ codes "pushop null p" ∷ []) ≡
    Line Op (Name (codes "drop") ∷ Parameter (codes "p") parameter_type.Pointer ∷ []) ∷ Line Op (Name (codes "p") ∷ Parameter (codes "p") parameter_type.Pointer ∷ [])
    ∷ Line PushOp (Name (codes "p") ∷ Name (codes "drop") ∷ []) ∷ Line PushOp (Name (codes "null") ∷ Name (codes "p") ∷ []) ∷ []
unfolding line_kinds
operations = refl

-- a name and a parameter are wanted, each one that can be declared, and nothing after them
no_operations : map line_form (codes "op" ∷ codes "op drop" ∷ codes "op drop p q" ∷ codes "op drop p:ptr" ∷ codes "op drop 1" ∷ codes "op drop self" ∷ codes "op drop ptr" ∷ codes "op null p" ∷ []) ≡ replicate 8 Unknown
unfolding line_kinds
no_operations = refl

no_pushes : map line_form (codes "pushop" ∷ codes "pushop p" ∷ codes "pushop p drop q" ∷ codes "pushop p 1" ∷ codes "pushop 1 drop" ∷ []) ≡ replicate 5 Unknown
unfolding line_kinds
no_pushes = refl

-- Classes, and what they bring.

classes : map line_form (codes "class cat 8" ∷ codes "field tail" ∷ codes "field owner cat" ∷ codes "construct" ∷ codes "destroy" ∷ codes "ptr p cat" ∷ []) ≡
    Line Class (Name (codes "cat") ∷ Size 8 ∷ []) ∷ Line Field (Name (codes "tail") ∷ []) ∷ Line ClassField (Name (codes "owner") ∷ Name (codes "cat") ∷ [])
    ∷ Line Constructor [] ∷ Line Destructor [] ∷ Line ClassPtr (Name (codes "p") ∷ Name (codes "cat") ∷ []) ∷ []
unfolding line_kinds
classes = refl

-- no number below 0, no further word, and no name that can't be declared
no_classes : map line_form (codes "class cat" ∷ codes "class cat -1" ∷ codes "class self 0" ∷ codes "field" ∷ codes "field self" ∷ codes "field a b c" ∷ codes "destroy p" ∷ codes "ptr ptr cat" ∷ []) ≡ replicate 8 Unknown
unfolding line_kinds
no_classes = refl

objects : map line_form (codes "new p cat" ∷ codes "newleave self.tail cat" ∷ codes "construct p" ∷ codes "delete p.tail" ∷ codes "pushobj self" ∷ []) ≡
    Line New (Name (codes "p") ∷ Name (codes "cat") ∷ []) ∷ Line NewLeave (spelled.Field (codes "self") (codes "tail") ∷ Name (codes "cat") ∷ [])
    ∷ Line Construct (Name (codes "p") ∷ []) ∷ Line Delete (spelled.Field (codes "p") (codes "tail") ∷ []) ∷ Line PushObj (Name (codes "self") ∷ []) ∷ []
unfolding line_kinds
objects = refl

-- a field is set by another line kind than a name, and to a pointer alone
fields_are_set : map line_form (codes "set p.a q" ∷ codes "set p.a q.b" ∷ codes "set p q.b" ∷ codes "set p.a 5" ∷ codes "add p.a 1" ∷ codes "add self 1" ∷ []) ≡
    Line SetField (spelled.Field (codes "p") (codes "a") ∷ Name (codes "q") ∷ []) ∷ Line SetField (spelled.Field (codes "p") (codes "a") ∷ spelled.Field (codes "q") (codes "b") ∷ [])
    ∷ Line Set (Name (codes "p") ∷ spelled.Field (codes "q") (codes "b") ∷ []) ∷ Unknown ∷ Unknown ∷ Line Add (Name (codes "self") ∷ Number (pos 1) ∷ []) ∷ []
unfolding line_kinds
fields_are_set = refl

-- a field is two names with a dot between them, and nothing else
no_fields : map line_form (codes "free p." ∷ codes "free .a" ∷ codes "free p.a.b" ∷ codes "free p .a" ∷ codes "free 1.a" ∷ codes "repeat p.a" ∷ codes "left p.a q 1" ∷ []) ≡ replicate 7 Unknown
unfolding line_kinds
no_fields = refl

-- any word but `ptr` and `int` that is a name is a class, `self` too, though nothing is declared with it
parameters_of_classes : map line_form (codes "proc f a:cat b:self" ∷ codes "proc f a:buf" ∷ codes "proc f a:" ∷ codes "proc f a:1" ∷ codes "op f a:cat" ∷ []) ≡
    Line Proc (Name (codes "f") ∷ Parameter (codes "a") (parameter_type.OfClass (codes "cat")) ∷ Parameter (codes "b") (parameter_type.OfClass (codes "self")) ∷ [])
    ∷ Line Proc (Name (codes "f") ∷ Parameter (codes "a") (parameter_type.OfClass (codes "buf")) ∷ []) ∷ replicate 3 Unknown
unfolding line_kinds
parameters_of_classes = refl

-- Blocks and leaves.

conditions : map line_form (codes "if null p" ∷ codes "if some null" ∷ codes "if eq x 3" ∷ codes "if less -1 x" ∷ []) ≡
    Line IfNull (Keyword ∷ Name (codes "p") ∷ []) ∷ Line IfSome (Keyword ∷ Name (codes "null") ∷ [])
    ∷ Line IfEqual (Keyword ∷ Name (codes "x") ∷ Number (pos 3) ∷ []) ∷ Line IfLess (Keyword ∷ Number (negsuc 0) ∷ Name (codes "x") ∷ []) ∷ []
unfolding line_kinds
conditions = refl

no_conditions : map line_form (codes "if" ∷ codes "if p" ∷ codes "if null" ∷ codes "if none p" ∷ codes "if null 0" ∷ codes "if eq x" ∷ codes "if \"null\" p" ∷ []) ≡ replicate 7 Unknown
unfolding line_kinds
no_conditions = refl

blocks : map line_form (codes "else" ∷ codes "repeat 3" ∷ codes "repeat x" ∷ codes "trap x" ∷ codes "else if" ∷ codes "trap 1" ∷ codes "repeat" ∷ []) ≡
    Line Else [] ∷ Line Repeat (Number (pos 3) ∷ []) ∷ Line Repeat (Name (codes "x") ∷ []) ∷ Line Trap (Name (codes "x") ∷ []) ∷ replicate 3 Unknown
unfolding line_kinds
blocks = refl

leaving : map line_form (codes "allocl p 4" ∷ codes "leave -4" ∷ codes "leaveifnull p" ∷ codes "leave" ∷ codes "leaveifnull 0" ∷ []) ≡
    Line AllocL (Name (codes "p") ∷ Number (pos 4) ∷ []) ∷ Line Leave (Number (negsuc 3) ∷ []) ∷ Line LeaveIfNull (Name (codes "p") ∷ []) ∷ replicate 2 Unknown
unfolding line_kinds
leaving = refl
