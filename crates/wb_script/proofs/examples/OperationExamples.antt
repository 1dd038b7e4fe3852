-- What the definitions make of scripts with operations: each example is proved by computing.
use Rattle.std.proofs.Common.{refl}
use Rattle.std.specs.Prelude.{◌≡◌, ℕ, List, [], ◌∷◌, ◌++◌, Option, Some, None, codes, length, map, replicate}
use Rattle.wb_tree.specs.declared.script_lines.LineKind.TheVariants.{Proc, Op, Ptr, Free, PushOp, Call, Print, End}
use Rattle.wb_tree.specs.declared.script_lines.Referent.TheVariants as referent
use Rattle.wb_tree.specs.declared.script_lines.Operand.TheVariants.{Name, Parameter}
use Rattle.wb_tree.specs.declared.script_lines.ParameterType.TheVariants as parameter_type
use Rattle.wb_tree.specs.declared.script_lines.Form.{Form}
use Rattle.wb_tree.specs.declared.script_lines.Form.TheVariants.{Line}
use Rattle.wb_language.specs.Forms.{forms_of}
use Rattle.wb_language.specs.Grammar.{AreItems, IsBody, AreStatements}
use Rattle.wb_language.specs.LineKinds.{line_kinds}
use Rattle.wb_language.specs.Lines.{lines_of}
use Rattle.wb_language.specs.Names.{Text}
use Rattle.wb_language.specs.Resolved.{resolved}
use Rattle.wb_language.specs.Scripts.{AreLines, main_of, first_unknown, first_double, first_wrong, first_leaving}
use Rattle.wb_language.specs.Trees.{counted_from}

abbrev forms_in : List ℕ → List (Form Text)
forms_in bytes = forms_of (lines_of bytes)

abbrev unknown : List ℕ → Option ℕ
unknown bytes = first_unknown (forms_in bytes)

abbrev again : List ℕ → Option ℕ
again bytes = first_double (forms_in bytes)

abbrev wrong : List ℕ → Option ℕ
wrong bytes = first_wrong (forms_in bytes)

abbrev leaving : List ℕ → Option ℕ
leaving bytes = first_leaving (forms_in bytes)

abbrev mixed_items : List ℕ
mixed_items = codes "op drop p\nfree p\nend\nproc main\nptr p\npushop p last\npushop p drop\ncall f\nend\nop last q\nprint q\nend\nproc f\nend"

they_are_lines : AreLines (lines_of mixed_items)
unfolding line_kinds
they_are_lines =
    AreItems.procedure (IsBody.statements (AreStatements.plain AreStatements.none))
    (AreItems.procedure (IsBody.declaration (IsBody.statements (AreStatements.plain (AreStatements.plain (AreStatements.plain AreStatements.none)))))
    (AreItems.procedure (IsBody.statements (AreStatements.plain AreStatements.none)) (AreItems.procedure (IsBody.statements AreStatements.none) AreItems.none)))

-- Procedures and operations count each among their kind. The parameter of an operation is its first local.
what_they_mean : counted_from 1 (resolved (forms_in mixed_items)) ≡
    (Some 1, Line Op (Name (referent.Declared 0) ∷ Parameter referent.Parameter parameter_type.Pointer ∷ [])) ∷ (Some 2, Line Free (Name (referent.Pointer 0) ∷ [])) ∷ (None, Line End [])
    ∷ (Some 4, Line Proc (Name (referent.Declared 0) ∷ [])) ∷ (None, Line Ptr (Name (referent.Declared 0) ∷ []))
    ∷ (Some 6, Line PushOp (Name (referent.Pointer 0) ∷ Name (referent.Operation 1) ∷ [])) ∷ (Some 7, Line PushOp (Name (referent.Pointer 0) ∷ Name (referent.Operation 0) ∷ []))
    ∷ (Some 8, Line Call (Name (referent.Procedure 1) ∷ [])) ∷ (None, Line End [])
    ∷ (Some 10, Line Op (Name (referent.Declared 1) ∷ Parameter referent.Parameter parameter_type.Pointer ∷ [])) ∷ (Some 11, Line Print (Name (referent.Pointer 0) ∷ [])) ∷ (None, Line End [])
    ∷ (Some 13, Line Proc (Name (referent.Declared 1) ∷ [])) ∷ (None, Line End []) ∷ []
unfolding line_kinds
what_they_mean = refl

they_are_sound : (unknown mixed_items ≡ None) × (again mixed_items ≡ None) × (wrong mixed_items ≡ None) × (leaving mixed_items ≡ None) × (main_of (forms_in mixed_items) ≡ Some 0)
unfolding line_kinds
they_are_sound = (refl, refl, refl, refl, refl)

-- an operation is found above its line and below, and is no local
unknown_operations : map unknown (codes "proc main\nptr p\npushop p drop\nend" ∷ codes "proc main\nptr p\npushop p p\nend" ∷ codes "proc main\nptr p\npushop p drop\nend\nop drop q\nend" ∷ []) ≡ Some 2 ∷ Some 2 ∷ None ∷ []
unfolding line_kinds
unknown_operations = refl

-- procedures and operations share one space, and a parameter is in that of its body
one_space : map again (codes "op f p\nend\nproc f\nend" ∷ codes "op f p\nend\nop f q\nend" ∷ codes "op f f\nend" ∷ codes "op f p\nptr p\nend" ∷ []) ≡ Some 2 ∷ Some 2 ∷ None ∷ Some 1 ∷ []
unfolding line_kinds
one_space = refl

abbrev with_both : List ℕ → List ℕ
with_both line = codes "op drop p\nend\nproc f\nend\nproc main\nptr p\nint x\n" ++ line

-- an operation is pushed with a pointer, and not called; a procedure is called, and not pushed
wrong_items : map (λ line. wrong (with_both line)) (codes "pushop p drop" ∷ codes "call f" ∷ codes "pushop p f" ∷ codes "call drop p" ∷ codes "callto p drop p" ∷ codes "pushop x drop" ∷ []) ≡ None ∷ None ∷ replicate 4 (Some 7)
unfolding line_kinds
wrong_items = refl

-- `main` is no operation, and no operation returns a pointer
wrong_operations : map wrong (codes "op main p\nend" ∷ codes "op drop p\nreturn p\nend" ∷ codes "op drop p\nreturn\nend" ∷ codes "op drop p\nend\nproc f p:ptr\nreturn p\nend" ∷ []) ≡ Some 0 ∷ Some 1 ∷ None ∷ None ∷ []
unfolding line_kinds
wrong_operations = refl

abbrev in_operation : List ℕ → Option ℕ
in_operation line = leaving (codes "op drop p\nint x\n" ++ line)

abbrev in_procedure : List ℕ → Option ℕ
in_procedure line = leaving (codes "op drop p\nend\nproc main\nptr p\nint x\n" ++ line)

abbrev quiet : List (List ℕ)
quiet =
    codes "ptr q" ∷ codes "int y" ∷ codes "free p" ∷ codes "set x 1" ∷ codes "null p" ∷ codes "add x 1" ∷ codes "alloclen x p" ∷ codes "load x p 0" ∷ codes "store p 0 1" ∷ codes "if null p" ∷ codes "if some p"
    ∷ codes "if eq x 0" ∷ codes "if less x 1" ∷ codes "else" ∷ codes "repeat 2" ∷ codes "print p" ∷ codes "heap" ∷ codes "available" ∷ codes "compress" ∷ codes "end" ∷ []

may_stand : map in_operation quiet ≡ replicate (length quiet) None
unfolding line_kinds
may_stand = refl

abbrev loud : List (List ℕ)
loud =
    codes "buf b 4" ∷ codes "view v" ∷ codes "alloc p 1" ∷ codes "allocl p 1" ∷ codes "realloc p p 1" ∷ codes "reallocl p p 1" ∷ codes "push p" ∷ codes "pushop p drop" ∷ codes "pop 1" ∷ codes "popdestroy 1" ∷ codes "popcheck p"
    ∷ codes "leave -1" ∷ codes "leaveiferror x" ∷ codes "leaveifnull p" ∷ codes "call f" ∷ codes "callto p f" ∷ codes "return" ∷ codes "return p" ∷ codes "mark" ∷ codes "markend 0" ∷ codes "check 0" ∷ codes "checkall 0"
    ∷ codes "failnext 1" ∷ codes "failevery 1" ∷ codes "failnone" ∷ codes "hnew p 1" ∷ codes "hnewl p 1" ∷ codes "hrealloc p p 1" ∷ codes "copy p \"a\"" ∷ codes "append p p" ∷ codes "insert p 0 p" ∷ codes "deltext p 0 1"
    ∷ codes "setlength p 0" ∷ codes "left v p 1" ∷ codes "right v p 1" ∷ codes "mid v p 0 1" ∷ codes "getlen x p" ∷ codes "getmax x p" ∷ codes "trap x" ∷ []

may_not_stand : map in_operation loud ≡ replicate (length loud) (Some 2)
unfolding line_kinds
may_not_stand = refl

-- the body of a procedure after it may leave
may_stand_in_procedures : map in_procedure loud ≡ replicate (length loud) None
unfolding line_kinds
may_stand_in_procedures = refl
