-- What the definitions make of whole scripts: each example is proved by computing.
use Rattle.std.proofs.Common.{◌≡◌, refl, ℕ, pos, negsuc, List, [], ◌∷◌, ◌++◌, Option, Some, None, map, replicate}
use Rattle.std.specs.Prelude.{codes}
use Rattle.wb_tree.specs.declared.script_lines.LineKind.TheVariants.{Proc, Ptr, Int, Alloc, AllocL, Leave, CallTo, ReturnPointer, Print, IfNull, Else, Trap, End}
use Rattle.wb_tree.specs.declared.script_lines.Referent.TheVariants as referent
use Rattle.wb_tree.specs.declared.script_lines.Operand.TheVariants.{Name, Number, Literal, Parameter, Keyword}
use Rattle.wb_tree.specs.declared.script_lines.ParameterType.TheVariants as parameter_type
use Rattle.wb_tree.specs.declared.script_lines.Form.{Form}
use Rattle.wb_tree.specs.declared.script_lines.Form.TheVariants.{Line}
use Rattle.wb_language.specs.Forms.{forms_of}
use Rattle.wb_language.specs.Grammar.{AreItems, IsBody, AreStatements}
use Rattle.wb_language.specs.LineKinds.{line_kinds}
use Rattle.wb_language.specs.Lines.{lines_of}
use Rattle.wb_language.specs.Names.{Text, first_refused, passes_limit, literals_of}
use Rattle.wb_language.specs.Resolved.{resolved}
use Rattle.wb_language.specs.Scripts.{AreLines, main_of, first_unknown, first_double, first_wrong}
use Rattle.wb_language.specs.Trees.{counted_from, lines_joined}

abbrev forms_in : List ℕ → List (Form Text)
forms_in bytes = forms_of (lines_of bytes)

-- the first line of each kind of fault
abbrev again : List ℕ → Option ℕ
again bytes = first_double (forms_in bytes)

abbrev unknown : List ℕ → Option ℕ
unknown bytes = first_unknown (forms_in bytes)

abbrev wrong : List ℕ → Option ℕ
wrong bytes = first_wrong (forms_in bytes)

abbrev past_limit : List ℕ → Option ℕ
past_limit bytes = first_refused passes_limit (forms_in bytes)

abbrev two_bodies : List ℕ
two_bodies = codes "proc first\nprint \"a\"\nend\n# c\nproc main\nptr p\nint x\nptr q\nalloc q -12\nprint \"b\"\nalloc p x\nend"

they_are_lines : AreLines (lines_of two_bodies)
unfolding line_kinds
they_are_lines =
    AreItems.procedure (IsBody.statements (AreStatements.plain AreStatements.none))
    (AreItems.procedure (IsBody.declaration (IsBody.declaration (IsBody.declaration (IsBody.statements (AreStatements.plain (AreStatements.plain (AreStatements.plain AreStatements.none))))))) AreItems.none)

-- Blank lines and comments count; declarations and ends have no number in a tree.
what_they_mean : counted_from 1 (resolved (forms_in two_bodies)) ≡
    (Some 1, Line Proc (Name (referent.Declared 0) ∷ [])) ∷ (Some 2, Line Print (Literal (referent.Literal 0) ∷ [])) ∷ (None, Line End [])
    ∷ (Some 5, Line Proc (Name (referent.Declared 1) ∷ [])) ∷ (None, Line Ptr (Name (referent.Declared 0) ∷ [])) ∷ (None, Line Int (Name (referent.Declared 1) ∷ [])) ∷ (None, Line Ptr (Name (referent.Declared 2) ∷ []))
    ∷ (Some 9, Line Alloc (Name (referent.Pointer 2) ∷ Number (negsuc 11) ∷ [])) ∷ (Some 10, Line Print (Literal (referent.Literal 1) ∷ [])) ∷ (Some 11, Line Alloc (Name (referent.Pointer 0) ∷ Name (referent.Number 1) ∷ [])) ∷ (None, Line End []) ∷ []
unfolding line_kinds
what_they_mean = refl

their_literals : literals_of (forms_in two_bodies) ≡ codes "a" ∷ codes "b" ∷ []
unfolding line_kinds
their_literals = refl

their_main : main_of (forms_in two_bodies) ≡ Some 1
unfolding line_kinds
their_main = refl

no_main : main_of (forms_in []) ≡ None
no_main = refl

abbrev twice : List ℕ
twice = codes "proc main\nptr p\nptr p\nalloc q 1\nend"

unknown_is_after : unknown twice ≡ Some 3
unfolding line_kinds
unknown_is_after = refl

second_is_double : again twice ≡ Some 2
unfolding line_kinds
second_is_double = refl

-- a local of another body is unknown, and may be declared again
other_body : unknown (codes "proc a\nptr p\nend\nproc main\nfree p\nend") ≡ Some 4
unfolding line_kinds
other_body = refl

same_in_both : again (codes "proc p\nptr p\nend\nproc main\nptr p\nend") ≡ None
unfolding line_kinds
same_in_both = refl

-- the script's own names are in one space over the whole script
same_item : again (codes "proc p\nend\nproc q\nend\nproc p\nend") ≡ Some 4
unfolding line_kinds
same_item = refl

long_name : past_limit (codes "proc a2345678901234567890123456789012\nend\nproc a23456789012345678901234567890123\nend") ≡ Some 2
unfolding line_kinds
long_name = refl

abbrev mixed : List ℕ → List ℕ
mixed line = codes "proc main\nptr p\nint x\nbuf b 4\nview v\nset p p\nset x x\nset x -3\nprint x\nprint p\ncopy b v\nappend p \"a\"\nleft v b x\n" ++ line

right_kinds : wrong (mixed []) ≡ None
unfolding line_kinds
right_kinds = refl

wrong_kinds : map (λ line. wrong (mixed line)) (codes "set p x" ∷ codes "set x p" ∷ codes "set p 3" ∷ codes "alloc x 3" ∷ codes "alloc p p" ∷ codes "add p 1" ∷ codes "set b b" ∷ codes "set x v" ∷ codes "copy v b" ∷ codes "left b b 1" ∷ codes "getlen x x" ∷ []) ≡ replicate 11 (Some 13)
unfolding line_kinds
wrong_kinds = refl

-- The limit of a text's length is asked last, and what it holds is known all the same.
abbrev large_text : List ℕ
large_text = codes "proc main\nbuf b 256\nbuf c 70000\nappend b c\nend"

too_large : past_limit large_text ≡ Some 2
unfolding line_kinds
too_large = refl

of_its_kind : wrong large_text ≡ None
unfolding line_kinds
of_its_kind = refl

-- A body with parameters, and one with blocks that calls it before its lines.
abbrev later_call : List ℕ
later_call = codes "proc main\nptr p\nint code\ntrap code\nif null p\ncallto p made p 3\nelse\nleave -1\nend\nend\nend\nproc made q:ptr n:int\nallocl q n\nreturn q\nend"

later_lines : AreLines (lines_of later_call)
unfolding line_kinds
later_lines =
    AreItems.procedure (IsBody.declaration (IsBody.declaration (IsBody.statements (AreStatements.loop (AreStatements.two_ways (AreStatements.plain AreStatements.none) (AreStatements.plain AreStatements.none) AreStatements.none) AreStatements.none))))
    (AreItems.procedure (IsBody.statements (AreStatements.plain (AreStatements.plain AreStatements.none))) AreItems.none)

-- Heads of blocks have numbers in a tree, `else` and `end` none. Parameters are the first locals.
what_later_means : counted_from 1 (resolved (forms_in later_call)) ≡
    (Some 1, Line Proc (Name (referent.Declared 0) ∷ [])) ∷ (None, Line Ptr (Name (referent.Declared 0) ∷ [])) ∷ (None, Line Int (Name (referent.Declared 1) ∷ []))
    ∷ (Some 4, Line Trap (Name (referent.Number 1) ∷ [])) ∷ (Some 5, Line IfNull (Keyword ∷ Name (referent.Pointer 0) ∷ []))
    ∷ (Some 6, Line CallTo (Name (referent.Pointer 0) ∷ Name (referent.Procedure 1) ∷ Name (referent.Pointer 0) ∷ Number (pos 3) ∷ [])) ∷ (None, Line Else []) ∷ (Some 8, Line Leave (Number (negsuc 0) ∷ []))
    ∷ (None, Line End []) ∷ (None, Line End []) ∷ (None, Line End [])
    ∷ (Some 12, Line Proc (Name (referent.Declared 1) ∷ Parameter referent.Parameter parameter_type.Pointer ∷ Parameter referent.Parameter parameter_type.Number ∷ []))
    ∷ (Some 13, Line AllocL (Name (referent.Pointer 0) ∷ Name (referent.Number 1) ∷ [])) ∷ (Some 14, Line ReturnPointer (Name (referent.Pointer 0) ∷ [])) ∷ (None, Line End []) ∷ []
unfolding line_kinds
what_later_means = refl

later_is_sound : (unknown later_call ≡ None) × (again later_call ≡ None) × (wrong later_call ≡ None) × (past_limit later_call ≡ None)
unfolding line_kinds
later_is_sound = (refl, refl, refl, refl)

-- a procedure is no local, and a local no procedure
unknown_procedures : map unknown (codes "proc main\ncall f\nend" ∷ codes "proc main\nptr p\ncall p\nend" ∷ codes "proc main\nfree main\nend" ∷ codes "proc main\nptr p\ncallto p f\nend" ∷ codes "proc main\ncall f\nend\nproc f\nend" ∷ [])
    ≡ Some 1 ∷ Some 2 ∷ Some 1 ∷ Some 2 ∷ None ∷ []
unfolding line_kinds
unknown_procedures = refl

-- Parameters are in the space of their body alone.
parameters_again : map again (codes "proc f a:ptr a:int\nend" ∷ codes "proc f a:ptr\nint b\nint a\nend" ∷ codes "proc f f:ptr\nend" ∷ codes "proc f a:ptr\nend\nproc g a:int\nend" ∷ []) ≡ Some 0 ∷ Some 2 ∷ None ∷ None ∷ []
unfolding line_kinds
parameters_again = refl

abbrev with_two : List ℕ → List ℕ
with_two line = codes "proc f a:ptr b:int\nend\nproc main\nptr p\nint x\nview v\n" ++ line

right_arguments : map (λ line. wrong (with_two line)) (codes "call f p 3" ∷ codes "call f p x" ∷ codes "callto p f p x" ∷ codes "call main" ∷ []) ≡ replicate 4 None
unfolding line_kinds
right_arguments = refl

wrong_arguments : map (λ line. wrong (with_two line)) (codes "call f" ∷ codes "call f p" ∷ codes "call f p 3 3" ∷ codes "call f x 3" ∷ codes "call f 3 3" ∷ codes "call f p p" ∷ codes "call f v 3" ∷ codes "callto p f p" ∷ codes "callto x f p 3" ∷ codes "call main p" ∷ []) ≡ replicate 10 (Some 6)
unfolding line_kinds
wrong_arguments = refl

main_with_parameters : wrong (codes "proc main a:int\nend") ≡ Some 0
unfolding line_kinds
main_with_parameters = refl

-- A TRAP holds what is in its blocks too, and nothing after its end.
returns_in_traps : map wrong (codes "proc main\nint x\ntrap x\nif null p\nend\nreturn\nend\nend" ∷ codes "proc f p:ptr x:int\ntrap x\nif null p\nreturn p\nend\nend\nend" ∷ codes "proc main\nint x\ntrap x\nend\nrepeat 2\nreturn\nend\nend" ∷ [])
    ≡ Some 3 ∷ Some 3 ∷ None ∷ []
unfolding line_kinds
returns_in_traps = refl

-- As many blocks may be open as may be, and as many parameters.
abbrev nested : ℕ → List ℕ
nested depth = codes "proc main\n" ++ (lines_joined (replicate depth (codes "repeat 1\n")) ++ lines_joined (replicate depth (codes "end\n"))) ++ codes "end"

deepest_block : past_limit (nested 16) ≡ None
unfolding line_kinds
deepest_block = refl

one_block_deeper : past_limit (nested 17) ≡ Some 17
unfolding line_kinds
one_block_deeper = refl

blocks_beside_one_another : past_limit (codes "proc main\n" ++ lines_joined (replicate 17 (codes "repeat 1\nend\n")) ++ codes "end") ≡ None
unfolding line_kinds
blocks_beside_one_another = refl

most_parameters : past_limit (codes "proc f a:int b:int c:int d:int\nend") ≡ None
unfolding line_kinds
most_parameters = refl

one_parameter_more : past_limit (codes "proc f a:int b:int c:int d:int e:int\nend") ≡ Some 0
unfolding line_kinds
one_parameter_more = refl
