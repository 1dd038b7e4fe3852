-- The line of a statement says which statement it is. A statement has a case of its own if it has no operand, or if its line kind
-- depends on an operand.
use Rattle.std.proofs.Common.{◌≡◌, refl, ℕ, [], ◌∷◌, true}
use Rattle.std.proofs.lemmas.Bool.{false≢true}
use Rattle.wb_tree.specs.declared.script_lines.LineKind.TheVariants as line_kind
use Rattle.wb_tree.specs.declared.script_lines.Form.TheVariants.{Unknown}
use Rattle.wb_tree.specs.declared.script.Condition.{Condition}
use Rattle.wb_tree.specs.declared.script.Condition.TheVariants.{IsNull, NotNull, Equal, Less}
use Rattle.wb_tree.specs.declared.script.Holder.TheVariants as H
use Rattle.wb_tree.specs.declared.script.Pointer.TheVariants.{Held, Field}
use Rattle.wb_tree.specs.declared.script.Number as N
use Rattle.wb_tree.specs.declared.script.Number.TheVariants.{Constant, Variable}
use Rattle.wb_tree.specs.declared.script.Writable.TheVariants.{OwnBuffer, InCell}
use Rattle.wb_tree.specs.declared.script.Readable.TheVariants.{Of, ViewOf, Quoted}
use Rattle.wb_tree.specs.declared.script.Refusal.TheVariants.{GivesNull, Leaves}
use Rattle.wb_tree.specs.declared.script.StatementAt.{StatementAt}
use Rattle.wb_tree.specs.declared.script.Statement.{Statement}
use Rattle.wb_tree.specs.declared.script.Statement.TheOpen.{Statement-F}
use Rattle.wb_language.specs.Trees.{Indexed, line, condition_line, statement_line}
use Rattle.wb_tree.specs.Spellings.{number_operand}
use Rattle.wb_script.proofs.names.KnownLines.{is_known}
use Rattle.wb_script.proofs.one_script.OperandLaws.{pointer_is, pointer_read, number_is, number_read, writable_is, writable_read, text_is, text_read, arguments_are, arguments_read}
use Rattle.wb_script.proofs.one_script.ReadBack.{Part, choice, with_statement, closed, with_line}

-- the line of a statement that has no others inside it
abbrev pub plain_line : Statement-F Statement StatementAt → Indexed
plain_line (Statement-F.If c first) = Unknown
plain_line (Statement-F.IfElse c first other) = Unknown
plain_line (Statement-F.Repeat v body) = Unknown
plain_line (Statement-F.Trap x body) = Unknown
plain_line s = statement_line s

pub statement_said : (number : ℕ) (s : Statement-F Statement StatementAt) (part : Part) → is_known (plain_line s) ≡ true → with_line number (plain_line s) part ≡ with_statement number s part
statement_said number (Statement-F.If c first) part known = absurd (false≢true known)
statement_said number (Statement-F.IfElse c first other) part known = absurd (false≢true known)
statement_said number (Statement-F.Repeat v body) part known = absurd (false≢true known)
statement_said number (Statement-F.Trap x body) part known = absurd (false≢true known)
statement_said number (Statement-F.Alloc p v GivesNull) part known = simp (pointer_is, pointer_read, number_is, number_read) refl
statement_said number (Statement-F.Alloc p v Leaves) part known = simp (pointer_is, pointer_read, number_is, number_read) refl
statement_said number (Statement-F.Realloc p q v GivesNull) part known = simp (pointer_is, pointer_read, number_is, number_read) refl
statement_said number (Statement-F.Realloc p q v Leaves) part known = simp (pointer_is, pointer_read, number_is, number_read) refl
statement_said number (Statement-F.New p class GivesNull) part known = simp (pointer_is, pointer_read) refl
statement_said number (Statement-F.New p class Leaves) part known = simp (pointer_is, pointer_read) refl
statement_said number (Statement-F.NewText p v GivesNull) part known = simp (pointer_is, pointer_read, number_is, number_read) refl
statement_said number (Statement-F.NewText p v Leaves) part known = simp (pointer_is, pointer_read, number_is, number_read) refl
statement_said number (Statement-F.Set (Held (H.Local i)) q) part known = simp (pointer_is q, pointer_read q) refl
statement_said number (Statement-F.Set (Held H.This) q) part known = simp (pointer_is q, pointer_read q) refl
statement_said number (Statement-F.Set (Field holder class n) q) part known = simp (pointer_is, pointer_read) refl
statement_said number (Statement-F.CallTo x n arguments) part known = simp (arguments_are, arguments_read) refl
statement_said number (Statement-F.PrintNumber (Constant z)) part known = refl
statement_said number (Statement-F.PrintNumber (Variable i)) part known = refl
statement_said number (Statement-F.PrintText (Quoted i)) part known = refl
statement_said number (Statement-F.PrintText (ViewOf i)) part known = refl
statement_said number (Statement-F.PrintText (Of (OwnBuffer i))) part known = refl
statement_said number (Statement-F.PrintText (Of (InCell (Held (H.Local i))))) part known = refl
statement_said number (Statement-F.PrintText (Of (InCell (Held H.This)))) part known = refl
statement_said number (Statement-F.PrintText (Of (InCell (Field (H.Local i) class n)))) part known = refl
statement_said number (Statement-F.PrintText (Of (InCell (Field H.This class n)))) part known = refl
statement_said number Statement-F.Mark part known = refl
statement_said number Statement-F.FailNone part known = refl
statement_said number Statement-F.NoteHeap part known = refl
statement_said number Statement-F.NoteAvailable part known = refl
statement_said number Statement-F.NoteCompress part known = refl
statement_said number Statement-F.Return part known = refl
statement_said number _ part known = simp (pointer_is, pointer_read, number_is, number_read, writable_is, writable_read, text_is, text_read, arguments_are, arguments_read) refl

-- a statement with others inside it takes them out of its block
pub choice_said : (number : ℕ) (c : Condition) (part : Part) → is_known (condition_line c) ≡ true → with_line number (condition_line c) part ≡ with_statement number (choice c part.inner) (closed part)
choice_said number (IsNull (Held (H.Local i))) part known = refl
choice_said number (IsNull (Held H.This)) part known = refl
choice_said number (IsNull (Field (H.Local i) class n)) part known = refl
choice_said number (IsNull (Field H.This class n)) part known = refl
choice_said number (NotNull (Held (H.Local i))) part known = refl
choice_said number (NotNull (Held H.This)) part known = refl
choice_said number (NotNull (Field (H.Local i) class n)) part known = refl
choice_said number (NotNull (Field H.This class n)) part known = refl
choice_said number (Equal (Constant y) (Constant z)) part known = refl
choice_said number (Equal (Constant y) (Variable i)) part known = refl
choice_said number (Equal (Variable i) (Constant z)) part known = refl
choice_said number (Equal (Variable i) (Variable j)) part known = refl
choice_said number (Less (Constant y) (Constant z)) part known = refl
choice_said number (Less (Constant y) (Variable i)) part known = refl
choice_said number (Less (Variable i) (Constant z)) part known = refl
choice_said number (Less (Variable i) (Variable j)) part known = refl

pub loop_said : (number : ℕ) (v : N.Number) (part : Part) → with_line number (line line_kind.Repeat (number_operand v ∷ [])) part ≡ with_statement number (Statement-F.Repeat v part.inner.here) (closed part)
loop_said number (Constant z) part = refl
loop_said number (Variable i) part = refl
