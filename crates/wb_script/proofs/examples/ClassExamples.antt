-- What the definitions make of scripts with classes: each example is proved by computing.
use Rattle.std.proofs.Common.{refl}
use Rattle.std.specs.Prelude.{◌≡◌, ℕ, List, [], ◌∷◌, ◌++◌, Option, Some, None, codes, map, replicate}
use Rattle.wb_language.specs.declared.fault.ScriptFault.TheVariants.{UnknownName, DoubleName, WrongKind, MayLeave, NoMain, TooMany}
use Rattle.wb_tree.specs.declared.script_lines.LineKind.TheVariants.{Class, Field, ClassField, Constructor, Destructor, Proc, Ptr, ClassPtr, New, NewLeave, Construct, Delete, Free, PushObj, Set, SetField, Call, End}
use Rattle.wb_tree.specs.declared.script_lines.Referent.TheVariants as referent
use Rattle.wb_tree.specs.declared.script_lines.Operand.TheVariants.{Name, Size, Parameter}
use Rattle.wb_tree.specs.declared.script_lines.Operand.TheVariants as spelled
use Rattle.wb_tree.specs.declared.script_lines.ParameterType.TheVariants.{OfClass}
use Rattle.wb_tree.specs.declared.script_lines.Form.{Form}
use Rattle.wb_tree.specs.declared.script_lines.Form.TheVariants.{Line}
use Rattle.wb_language.specs.Forms.{forms_of}
use Rattle.wb_language.specs.Grammar.{AreItems, AreFields, IsOptional, IsBody, AreStatements}
use Rattle.wb_language.specs.LineKinds.{line_kinds}
use Rattle.wb_language.specs.Lines.{lines_of}
use Rattle.wb_language.specs.Names.{Text, first_refused, passes_limit}
use Rattle.wb_language.specs.Resolved.{resolved}
use Rattle.wb_language.specs.Scripts.{AreLines, main_of, first_unknown, first_double, first_wrong, first_leaving, IsLinesFault}
use Rattle.wb_language.specs.Trees.{counted_from, lines_joined}

abbrev forms_in : List ℕ → List (Form Text)
forms_in bytes = forms_of (lines_of bytes)

abbrev unknown : List ℕ → Option ℕ
unknown bytes = first_unknown (forms_in bytes)

abbrev again : List ℕ → Option ℕ
again bytes = first_double (forms_in bytes)

abbrev wrong : List ℕ → Option ℕ
wrong bytes = first_wrong (forms_in bytes)

abbrev leaving : List ℕ → Option ℕ
leaving bytes = first_leaving (forms_in bytes)

abbrev past_limit : List ℕ → Option ℕ
past_limit bytes = first_refused passes_limit (forms_in bytes)

abbrev two_classes : List ℕ
two_classes =
    codes "class cat 8\nfield tail\nfield owner cat\nconstruct\nnew self.owner cat\nend\ndestroy\ndelete self.owner\nend\nend\n"
    ++ codes "proc main\nptr p cat\nptr q\nnewleave p cat\npushobj p\nconstruct p\nset p.owner q\nset q p.tail\ncall feed p.owner\ndelete p\nend\nproc feed c:cat\nfree c.tail\nend\nclass dog 0\nfield friend cat\nend"

they_are_lines : AreLines (lines_of two_classes)
unfolding line_kinds
they_are_lines =
    AreItems.class (AreFields.field (AreFields.field AreFields.none)) (IsOptional.present (IsBody.statements (AreStatements.plain AreStatements.none))) (IsOptional.present (IsBody.statements (AreStatements.plain AreStatements.none)))
    (AreItems.procedure (IsBody.declaration (IsBody.declaration (IsBody.statements (AreStatements.plain (AreStatements.plain (AreStatements.plain (AreStatements.plain (AreStatements.plain (AreStatements.plain (AreStatements.plain AreStatements.none))))))))))
    (AreItems.procedure (IsBody.statements (AreStatements.plain AreStatements.none)) (AreItems.class (AreFields.field AreFields.none) IsOptional.absent IsOptional.absent AreItems.none)))

-- Classes count among themselves, and fields each in its class. Fields and the heads of bodies have no number in a tree.
what_they_mean : counted_from 1 (resolved (forms_in two_classes)) ≡
    (Some 1, Line Class (Name (referent.Declared 0) ∷ Size 8 ∷ [])) ∷ (None, Line Field (Name (referent.Declared 0) ∷ [])) ∷ (None, Line ClassField (Name (referent.Declared 1) ∷ Name (referent.Class 0) ∷ []))
    ∷ (None, Line Constructor []) ∷ (Some 5, Line New (spelled.Field referent.This (referent.Field 0 1) ∷ Name (referent.Class 0) ∷ [])) ∷ (None, Line End [])
    ∷ (None, Line Destructor []) ∷ (Some 8, Line Delete (spelled.Field referent.This (referent.Field 0 1) ∷ [])) ∷ (None, Line End []) ∷ (None, Line End [])
    ∷ (Some 11, Line Proc (Name (referent.Declared 0) ∷ [])) ∷ (None, Line ClassPtr (Name (referent.Declared 0) ∷ Name (referent.Class 0) ∷ [])) ∷ (None, Line Ptr (Name (referent.Declared 1) ∷ []))
    ∷ (Some 14, Line NewLeave (Name (referent.Pointer 0) ∷ Name (referent.Class 0) ∷ [])) ∷ (Some 15, Line PushObj (Name (referent.Pointer 0) ∷ [])) ∷ (Some 16, Line Construct (Name (referent.Pointer 0) ∷ []))
    ∷ (Some 17, Line SetField (spelled.Field (referent.Pointer 0) (referent.Field 0 1) ∷ Name (referent.Pointer 1) ∷ [])) ∷ (Some 18, Line Set (Name (referent.Pointer 1) ∷ spelled.Field (referent.Pointer 0) (referent.Field 0 0) ∷ []))
    ∷ (Some 19, Line Call (Name (referent.Procedure 1) ∷ spelled.Field (referent.Pointer 0) (referent.Field 0 1) ∷ [])) ∷ (Some 20, Line Delete (Name (referent.Pointer 0) ∷ [])) ∷ (None, Line End [])
    ∷ (Some 22, Line Proc (Name (referent.Declared 1) ∷ Parameter referent.Parameter (OfClass (referent.Class 0)) ∷ [])) ∷ (Some 23, Line Free (spelled.Field (referent.Pointer 0) (referent.Field 0 0) ∷ [])) ∷ (None, Line End [])
    ∷ (Some 25, Line Class (Name (referent.Declared 1) ∷ Size 0 ∷ [])) ∷ (None, Line ClassField (Name (referent.Declared 0) ∷ Name (referent.Class 0) ∷ [])) ∷ (None, Line End []) ∷ []
unfolding line_kinds
what_they_mean = refl

they_are_sound : (unknown two_classes ≡ None) × (again two_classes ≡ None) × (wrong two_classes ≡ None) × (leaving two_classes ≡ None) × (main_of (forms_in two_classes) ≡ Some 0) × (past_limit two_classes ≡ None)
unfolding line_kinds
they_are_sound = (refl, refl, refl, refl, refl, refl)

-- `self` is known in the bodies of classes alone
unknown_self : map unknown (codes "proc main\nfree self\nend" ∷ codes "op drop p\nfree self\nend" ∷ codes "class c 0\nconstruct\nfree self\nend\nend" ∷ codes "class c 0\ndestroy\nfree self\nend\nend" ∷ codes "class c 0\ndestroy\nend\nend\nproc main\nfree self\nend" ∷ []) ≡ Some 1 ∷ Some 1 ∷ None ∷ None ∷ Some 5 ∷ []
unfolding line_kinds
unknown_self = refl

-- a class is found above its line and below, and is no local
unknown_classes : map unknown (codes "proc main\nptr p c\nend\nclass c 0\nend" ∷ codes "proc main\nptr p c\nend" ∷ codes "class c 0\nfield a d\nend" ∷ codes "proc f a:c\nend" ∷ codes "proc main\nptr p\nnew p c\nend" ∷ codes "proc main\nptr p\nnew p p\nend" ∷ []) ≡ None ∷ Some 1 ∷ Some 1 ∷ Some 0 ∷ Some 2 ∷ Some 2 ∷ []
unfolding line_kinds
unknown_classes = refl

-- a field is looked up in the class of what is before its dot
unknown_fields : map unknown (codes "class c 0\nfield a\nend\nproc main\nptr p c\nfree p.a\nend" ∷ codes "class c 0\nfield a\nend\nproc main\nptr p c\nfree p.b\nend" ∷ codes "class c 0\nfield a\nend\nclass d 0\nfield b\nend\nproc main\nptr p c\nfree p.b\nend" ∷ codes "class c 0\nfield a\nconstruct\nfree self.a\nfree self.b\nend\nend" ∷ codes "class c 0\nfield a\nend\nclass d 0\nfield b\nconstruct\nfree self.b\nend\ndestroy\nfree self.a\nend\nend" ∷ codes "proc main\nfree p.a\nend" ∷ codes "proc f p:c\nfree p.a\nfree p.b\nend\nclass c 0\nfield a\nend" ∷ []) ≡ None ∷ Some 5 ∷ Some 8 ∷ Some 4 ∷ Some 9 ∷ Some 1 ∷ Some 2 ∷ []
unfolding line_kinds
unknown_fields = refl

abbrev without_class : List (List ℕ)
without_class = codes "proc main\nptr p\nfree p.a\nend" ∷ codes "proc main\nint x\nfree x.a\nend" ∷ codes "proc f\nend\nproc main\nptr p f\nfree p.a\nend" ∷ codes "op drop p\nfree p.a\nend" ∷ []

-- where there is no class no field is looked up, and none is right
not_looked_up : map unknown without_class ≡ replicate 4 None
unfolding line_kinds
not_looked_up = refl

no_class : map wrong without_class ≡ Some 2 ∷ Some 2 ∷ Some 3 ∷ Some 1 ∷ []
unfolding line_kinds
no_class = refl

-- the two bodies of a class are two spaces
unknown_locals : map unknown (codes "class c 0\nconstruct\nptr p\nend\ndestroy\nfree p\nend\nend" ∷ codes "class c 0\nconstruct\nptr p\nfree p\nend\nend" ∷ []) ≡ Some 5 ∷ None ∷ []
unfolding line_kinds
unknown_locals = refl

-- classes share the space of procedures and operations; the fields of a class have one of their own, and so has each body
declared_again : map again (codes "class f 0\nend\nproc f\nend" ∷ codes "op f p\nend\nclass f 0\nend" ∷ codes "class f 0\nend\nclass f 0\nend" ∷ codes "class c 0\nfield a\nfield a\nend" ∷ codes "class c 0\nfield a\nend\nclass d 0\nfield a\nend" ∷ codes "class c 0\nfield c\nend" ∷ codes "class c 0\nconstruct\nptr p\nend\ndestroy\nptr p\nend\nend" ∷ codes "class c 0\nconstruct\nptr p\nint p\nend\nend" ∷ codes "class c 0\nfield p\nconstruct\nptr p\nend\nend" ∷ []) ≡ Some 2 ∷ Some 2 ∷ Some 2 ∷ Some 2 ∷ None ∷ None ∷ None ∷ Some 3 ∷ None ∷ []
unfolding line_kinds
declared_again = refl

-- of two classes with one name the first has the fields that are looked up
abbrev twice : List ℕ
twice = codes "class c 0\nfield a\nend\nclass c 0\nfield b\nend\nproc main\nptr p c\nfree p.a\nfree p.b\nend"

first_counts : (unknown twice ≡ Some 9) × (again twice ≡ Some 3)
unfolding line_kinds
first_counts = (refl, refl)

abbrev with_class : List ℕ → List ℕ
with_class line = codes "class c 0\nfield a\nfield b c\nend\nproc f x:c n:int\nend\nproc main\nptr p c\nptr q\nint n\nbuf t 4\n" ++ line

-- a field is right wherever a pointer is
right_fields : map (λ line. wrong (with_class line)) (codes "alloc p.a 1" ∷ codes "set p.a q" ∷ codes "set q p.a" ∷ codes "set p.a p.b" ∷ codes "null p.b" ∷ codes "push p.a" ∷ codes "call f p 1" ∷ codes "call f q n" ∷ codes "call f p.a 1" ∷ codes "callto q f p 1" ∷ codes "new p c" ∷ codes "newleave p.a c" ∷ codes "construct p.b" ∷ codes "delete p.a" ∷ codes "pushobj q" ∷ codes "if null p.a" ∷ codes "copy p.a t" ∷ codes "copy t p.a" ∷ codes "print p.a" ∷ codes "hnew p.a 1" ∷ codes "realloc p.a q 1" ∷ codes "return p.a" ∷ codes "ptr r c" ∷ []) ≡ replicate 23 None
unfolding line_kinds
right_fields = refl

wrong_fields : map (λ line. wrong (with_class line)) (codes "set q.a p" ∷ codes "free q.a" ∷ codes "free n.a" ∷ codes "push t.a" ∷ codes "set p.a n" ∷ codes "set t p.a" ∷ codes "set n p.a" ∷ codes "callto p.a f p 1" ∷ codes "new n c" ∷ codes "new p f" ∷ codes "newleave p main" ∷ codes "ptr r f" ∷ codes "construct n" ∷ codes "delete t" ∷ codes "pushobj n" ∷ codes "call f n 1" ∷ codes "call f p p.a" ∷ codes "call c" ∷ codes "pushop p c" ∷ []) ≡ replicate 19 (Some 11)
unfolding line_kinds
wrong_fields = refl

abbrev in_construct : List ℕ → List ℕ
in_construct line = codes "proc f\nend\nclass c 0\nfield a\nconstruct\nptr p\nint n\n" ++ line

-- `self` is read as any pointer
self_is_read : map (λ line. wrong (in_construct line)) (codes "free self" ∷ codes "set p self" ∷ codes "push self" ∷ codes "pushobj self" ∷ codes "delete self" ∷ codes "construct self" ∷ codes "alloclen n self" ∷ codes "if null self" ∷ codes "realloc p self 1" ∷ codes "set self.a self" ∷ codes "null self.a" ∷ codes "return" ∷ []) ≡ replicate 12 None
unfolding line_kinds
self_is_read = refl

-- and never written; no body of a class returns a pointer
self_is_not_written : map (λ line. wrong (in_construct line)) (codes "alloc self 1" ∷ codes "allocl self 1" ∷ codes "realloc self p 1" ∷ codes "reallocl self p 1" ∷ codes "new self c" ∷ codes "newleave self c" ∷ codes "set self p" ∷ codes "null self" ∷ codes "hnew self 1" ∷ codes "hnewl self 1" ∷ codes "hrealloc self p 1" ∷ codes "callto self f" ∷ codes "return p" ∷ codes "return self" ∷ []) ≡ replicate 14 (Some 7)
unfolding line_kinds
self_is_not_written = refl

-- `main` is no class, and a class is named where one is declared with
wrong_classes : map wrong (codes "class main 0\nend" ∷ codes "class c 0\nfield a f\nend\nproc f\nend" ∷ codes "proc f a:f\nend" ∷ codes "class c 0\ndestroy\nptr p\nreturn p\nend\nend" ∷ codes "class c 0\ndestroy\nreturn\nend\nend" ∷ []) ≡ Some 0 ∷ Some 1 ∷ Some 0 ∷ Some 3 ∷ None ∷ []
unfolding line_kinds
wrong_classes = refl

abbrev in_destroy : List ℕ → Option ℕ
in_destroy line = leaving (codes "class c 0\nfield a c\ndestroy\nptr p c\nint x\n" ++ line)

abbrev in_operation : List ℕ → Option ℕ
in_operation line = leaving (codes "class c 0\nend\nop drop p\nint x\n" ++ line)

abbrev loud : List (List ℕ)
loud = codes "new p c" ∷ codes "newleave p c" ∷ codes "construct p" ∷ codes "pushobj p" ∷ codes "push p" ∷ codes "alloc p 1" ∷ codes "call f" ∷ codes "return" ∷ codes "trap x" ∷ codes "view v" ∷ []

abbrev quiet : List (List ℕ)
quiet = codes "delete p" ∷ codes "set p.a p" ∷ codes "ptr q c" ∷ codes "free p.a" ∷ codes "null p.a" ∷ codes "if some p" ∷ codes "repeat 2" ∷ codes "else" ∷ codes "end" ∷ []

-- what may leave is neither in a destructor nor in an operation
may_not_stand : (map in_destroy loud ≡ replicate 10 (Some 5)) × (map in_operation loud ≡ replicate 10 (Some 4))
unfolding line_kinds
may_not_stand = (refl, refl)

may_stand : (map in_destroy quiet ≡ replicate 9 None) × (map in_operation quiet ≡ replicate 9 None)
unfolding line_kinds
may_stand = (refl, refl)

after_and_before : map leaving (codes "class c 0\nconstruct\nptr p\nnew p c\nend\ndestroy\nend\nend" ∷ codes "op drop p\nend\nclass c 0\nfield a\nconstruct\nalloc self.a 1\nend\nend" ∷ codes "class c 0\ndestroy\nend\nend\nproc main\nmark\nend" ∷ codes "class c 0\nconstruct\nend\ndestroy\nmark\nend\nend" ∷ []) ≡ None ∷ None ∷ None ∷ Some 4 ∷ []
unfolding line_kinds
after_and_before = refl

-- as many classes as may be, as many fields, and as many extra bytes
abbrev repeated : ℕ → List ℕ → List ℕ
repeated n lines = lines_joined (replicate n lines)

most_classes : (past_limit (repeated 64 (codes "class c 0\nend\n")) ≡ None) × (past_limit (repeated 65 (codes "class c 0\nend\n")) ≡ Some 128)
unfolding line_kinds
most_classes = (refl, refl)

abbrev fields : ℕ → List ℕ
fields n = codes "class c 0\n" ++ (repeated n (codes "field a\n") ++ codes "end\n")

most_fields : (past_limit (fields 16 ++ fields 16) ≡ None) × (past_limit (fields 17) ≡ Some 17)
unfolding line_kinds
most_fields = (refl, refl)

most_extra : (past_limit (codes "class c 65536\nend") ≡ None) × (past_limit (codes "class c 65537\nend") ≡ Some 0)
unfolding line_kinds
most_extra = (refl, refl)

-- `self` is no local
abbrev locals : ℕ → List ℕ
locals n = codes "class c 0\nconstruct\n" ++ (repeated n (codes "ptr p\n") ++ (codes "end\ndestroy\n" ++ repeated 32 (codes "int x\n")))

most_locals : (past_limit (locals 32) ≡ None) × (past_limit (locals 33) ≡ Some 34)
unfolding line_kinds
most_locals = (refl, refl)

-- each half of a field or of a parameter is a name by itself
abbrev long : List ℕ
long = codes "a23456789012345678901234567890123"

abbrev just : List ℕ
just = codes "a2345678901234567890123456789012"

long_names : (past_limit (codes "proc f a:" ++ just ++ codes "\nfree " ++ just ++ codes "." ++ just ++ codes "\nend") ≡ None) × (past_limit (codes "proc f a:" ++ long) ≡ Some 0)
    × (past_limit (codes "proc main\nfree " ++ long ++ codes ".a") ≡ Some 1) × (past_limit (codes "proc main\nfree a." ++ long) ≡ Some 1) × (past_limit (codes "class c 0\nfield " ++ long) ≡ Some 1)
unfolding line_kinds
long_names = (refl, refl, refl, refl, refl)

-- an earlier check wins, whatever the lines
abbrev unknown_late : List ℕ
unknown_late = codes "class c 0\nfield a\nfield a\nend\nproc main\nptr p\nfree p.a\nfree q\nend"

abbrev again_early : List ℕ
again_early = codes "class c 0\nfield a\nfield a\nend\nproc main\nptr p\nfree p.a\nend"

abbrev wrong_late : List ℕ
wrong_late = codes "class c 0\nfield a\ndestroy\nmark\nend\nend\nproc f\nptr p\nfree p.a\nend"

abbrev leaving_early : List ℕ
leaving_early = codes "class c 0\nfield a\ndestroy\nmark\nend\nend"

abbrev large_class : List ℕ
large_class = codes "class c 70000\nend"

names_first : IsLinesFault (forms_in unknown_late) (UnknownName 8)
unfolding line_kinds
names_first = refl

doubles_next : IsLinesFault (forms_in again_early) (DoubleName 3)
unfolding line_kinds
doubles_next = (refl, refl)

kinds_next : IsLinesFault (forms_in wrong_late) (WrongKind 9)
unfolding line_kinds
kinds_next = (refl, refl, refl)

leaving_next : IsLinesFault (forms_in leaving_early) (MayLeave 4)
unfolding line_kinds
leaving_next = (refl, refl, refl, refl)

main_next : IsLinesFault (forms_in large_class) NoMain
unfolding line_kinds
main_next = (record { known = refl; once = refl; right = refl; quiet = refl }, refl)

limits_last : IsLinesFault (forms_in (large_class ++ codes "\nproc main\nend")) (TooMany 1)
unfolding line_kinds
limits_last = (record { known = refl; once = refl; right = refl; quiet = refl }, λ e. cc e, refl)
