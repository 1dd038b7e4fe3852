-- What the definitions say of lines of scripts: each example is proved by its parts.
use Rattle.std.proofs.Common.{refl, ℕ, pos, List, [], ◌∷◌, take, Some, inl, inr, arith}
use Rattle.std.specs.Prelude.{codes}
use Rattle.wb_tree.specs.declared.script_lines.LineKind.TheVariants.{Alloc, Op, Proc, Ptr, ClassPtr, Repeat, End}
use Rattle.wb_tree.specs.declared.script_lines.LocalKind.TheVariants as kind
use Rattle.wb_tree.specs.declared.script_lines.Operand.TheVariants.{Name, Number, Parameter}
use Rattle.wb_tree.specs.declared.script_lines.Form.{Form}
use Rattle.wb_tree.specs.declared.script_lines.Form.TheVariants.{Line}
use Rattle.wb_tree.specs.declared.script_lines.ParameterType.TheVariants as parameter_type
use Rattle.wb_language.specs.DeclaredAgain.{Space, DeclaresAgain}
use Rattle.wb_language.specs.Forms.{forms_of}
use Rattle.wb_language.specs.LineKinds.{line_kinds}
use Rattle.wb_language.specs.Lines.{lines_of}
use Rattle.wb_language.specs.MissedFields.{IsHeldAs}
use Rattle.wb_language.specs.Names.{Text}
use Rattle.wb_language.specs.PassedLimits.{HaveOpenBlocks}
use Rattle.wb_language.specs.QuietBodies.{MayLeaveThere}

abbrev forms_in : List ℕ → List (Form Text)
forms_in bytes = forms_of (lines_of bytes)

abbrev main_line : Form Text
main_line = Line Proc (Name (codes "main") ∷ [])

abbrev ptr_line : Form Text
ptr_line = Line Ptr (Name (codes "p") ∷ [])

-- the second declaration of a local
abbrev twice : List ℕ
twice = codes "proc main\nptr p\nptr p\nend"

second_is_again : DeclaresAgain (forms_in twice) (take 2 (forms_in twice)) ptr_line
unfolding line_kinds
second_is_again = inl (Space.of_body, codes "p", refl, refl, (main_line ∷ [], [], ptr_line, refl, refl, refl))

-- two parameters of one name
two_parameters : DeclaresAgain (forms_in (codes "proc f n:int n:ptr\nend")) [] (Line Proc (Name (codes "f") ∷ Parameter (codes "n") parameter_type.Number ∷ Parameter (codes "n") parameter_type.Pointer ∷ []))
two_parameters = inr (codes "n", [], [], [], refl)

-- an operation may have `ptr` and `free`, and not `alloc`
abbrev op_line : Form Text
op_line = Line Op (Name (codes "undo") ∷ Parameter (codes "p") parameter_type.Pointer ∷ [])

alloc_may_leave : MayLeaveThere (forms_in (codes "op undo p\nalloc p 1\nend")) (take 1 (forms_in (codes "op undo p\nalloc p 1\nend"))) (Line Alloc (Name (codes "p") ∷ Number (pos 1) ∷ []))
unfolding line_kinds
alloc_may_leave = (([], [], op_line, refl, refl, refl), refl)

-- a pointer is of the class with which its first declaration names it
abbrev owned : List ℕ
owned = codes "class Owner 0\nfield list\nend\nproc main\nptr o Owner\nfree o.list\nend"

owner_is_held : IsHeldAs (take 5 (forms_in owned)) (codes "o") (kind.Pointer (Some (codes "Owner")))
unfolding line_kinds
owner_is_held =
    let declared : Form Text = Line ClassPtr (Name (codes "o") ∷ Name (codes "Owner") ∷ []) in
    (main_line ∷ declared ∷ [], (take 3 (forms_in owned), declared ∷ [], main_line, refl, refl, refl, inl refl), ([], [], refl, refl))

-- one block of two is still open
abbrev blocks : List ℕ
blocks = codes "proc main\nrepeat 2\nrepeat 3\nend"

one_is_open : HaveOpenBlocks 1 (forms_in blocks)
unfolding line_kinds
one_is_open =
    (main_line ∷ [], Line Repeat (Number (pos 2) ∷ []) ∷ Line Repeat (Number (pos 3) ∷ []) ∷ Line End [] ∷ [], refl, refl, omega arith)
