-- Which bytes spell which script, and which fault is the first of bytes that spell none.
use Rattle.std.specs.Prelude.{◌≡◌, ℕ, suc, ◌+◌, ◌-◌, ◌<◌, ◌≤◌, List, ◌++◌, Option, Some, None, false, true, codes, map, length, take}
use Rattle.std.specs.Option.{option_map}
use Rattle.wb_language.specs.declared.fault.ScriptFault.{ScriptFault}
use Rattle.wb_language.specs.declared.fault.ScriptFault.TheVariants.{TooLong, NotAscii, Grammar, UnknownName, DoubleName, WrongKind, MayLeave, NoMain, TooMany, NoMemory}
use Rattle.wb_tree.specs.declared.script_lines.Form.{Form}
use Rattle.wb_tree.specs.declared.script_lines.Referent.{Referent}
use Rattle.wb_tree.specs.declared.script_lines.Referent.TheVariants as referent
use Rattle.wb_tree.specs.declared.script.Script.{Script}
use Rattle.wb_language.specs.Forms.{forms_of, role_of_form}
use Rattle.wb_language.specs.Grammar.{IsGrammatical}
use Rattle.wb_language.specs.Kinds.{has_wrong_kind, may_leave}
use Rattle.wb_language.specs.Lines.{lines_of, first_foreign_line, is_too_long}
use Rattle.wb_language.specs.Names.{Text, first_refused, declares_again, passes_limit, items_of, names_of, literals_of}
use Rattle.wb_language.specs.Resolved.{resolved, item_referent, uses_unknown}
use Rattle.wb_language.specs.Trees.{counted_from, script_lines}

-- the lines are those of a script, whatever their names
abbrev pub AreLines : List Text → Type 0
AreLines lines = IsGrammatical (map role_of_form (forms_of lines))

-- the lines are the first lines of a script
abbrev pub AreFirstLines : List Text → Type 0
AreFirstLines lines = (more : List Text) × AreLines (lines ++ more)

-- The line where a text stops being the beginning of any script. Where it never does and yet is none, it is the line after
-- the last.
pub record IsGrammarLine (lines : List Text) (n : ℕ) : Type 0 where
  pub counted : 0 < n
  pub within : n ≤ length lines + 1
  pub before : AreFirstLines (take (n - 1) lines)
  pub here : n ≤ length lines → AreFirstLines (take n lines) → ⊥
  pub unfinished : n ≡ length lines + 1 → AreLines lines → ⊥

abbrev pub procedure_referent : Referent → Option ℕ
procedure_referent (referent.Procedure index) = Some index
procedure_referent _ = None

-- the index of `main` among the procedures
abbrev pub main_of : List (Form Text) → Option ℕ
main_of forms = procedure_referent (item_referent (items_of forms) (codes "main"))

-- not too long, and of lines alone
pub record IsPlainText (bytes : List ℕ) : Type 0 where
  pub short : is_too_long bytes ≡ false
  pub printable : first_foreign_line bytes ≡ None

-- a text whose lines are those of a script, whatever their names
pub record IsWellFormed (bytes : List ℕ) : Type 0 where
  pub text : IsPlainText bytes
  pub grammar : AreLines (lines_of bytes)

-- the first line of each kind of fault, by the script's own space
abbrev pub first_unknown : List (Form Text) → Option ℕ
first_unknown forms = first_refused (uses_unknown (items_of forms)) forms

abbrev pub first_double : List (Form Text) → Option ℕ
first_double forms = first_refused (declares_again (names_of (items_of forms))) forms

abbrev pub first_wrong : List (Form Text) → Option ℕ
first_wrong forms = first_refused (has_wrong_kind (items_of forms)) forms

abbrev pub first_leaving : List (Form Text) → Option ℕ
first_leaving forms = first_refused may_leave forms

-- the names of lines are declared, each once, their operands are of the right kinds, and no line of an operation or of a destructor
-- may leave
pub record IsNamed (forms : List (Form Text)) : Type 0 where
  pub known : first_unknown forms ≡ None
  pub once : first_double forms ≡ None
  pub right : first_wrong forms ≡ None
  pub quiet : first_leaving forms ≡ None

-- The tree that lines without a fault in their names, kinds and limits have. Its items and its statements have the numbers of
-- their lines.
pub record IsTreeOf (forms : List (Form Text)) (script : Script) : Type 0 where
  pub named : IsNamed forms
  pub main : main_of forms ≡ Some script.main
  pub within : first_refused passes_limit forms ≡ None
  pub literals : script.literals ≡ literals_of forms
  pub tree : script_lines script ≡ counted_from 1 (resolved forms)

-- the bytes spell this script
pub record IsScriptOf (bytes : List ℕ) (script : Script) : Type 0 where
  pub well_formed : IsWellFormed bytes
  pub tree : IsTreeOf (forms_of (lines_of bytes)) script

-- the number of the first line that a test refuses, from 1
abbrev pub number_of_line : Option ℕ → Option ℕ
number_of_line index = option_map suc index

-- the first fault of lines that are grammatical
abbrev pub IsLinesFault : List (Form Text) → ScriptFault → Type 0
IsLinesFault forms (UnknownName n) = number_of_line (first_unknown forms) ≡ Some n
IsLinesFault forms (DoubleName n) = (first_unknown forms ≡ None) × (number_of_line (first_double forms) ≡ Some n)
IsLinesFault forms (WrongKind n) = (first_unknown forms ≡ None) × (first_double forms ≡ None) × (number_of_line (first_wrong forms) ≡ Some n)
IsLinesFault forms (MayLeave n) = (first_unknown forms ≡ None) × (first_double forms ≡ None) × (first_wrong forms ≡ None) × (number_of_line (first_leaving forms) ≡ Some n)
IsLinesFault forms NoMain = IsNamed forms × (main_of forms ≡ None)
IsLinesFault forms (TooMany n) = IsNamed forms × (main_of forms ≡ None → ⊥) × (number_of_line (first_refused passes_limit forms) ≡ Some n)
IsLinesFault forms _ = ⊥

-- the first fault of bytes, with its line
abbrev pub IsFaultOf : List ℕ → ScriptFault → Type 0
IsFaultOf bytes TooLong = is_too_long bytes ≡ true
IsFaultOf bytes (NotAscii n) = (is_too_long bytes ≡ false) × (first_foreign_line bytes ≡ Some n)
IsFaultOf bytes (Grammar n) = IsPlainText bytes × IsGrammarLine (lines_of bytes) n
IsFaultOf bytes NoMemory = ⊥
IsFaultOf bytes fault = IsWellFormed bytes × IsLinesFault (forms_of (lines_of bytes)) fault
