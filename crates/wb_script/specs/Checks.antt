-- What the lines so far are found to be.
use Rattle.std.specs.Prelude.{◌≡◌, ◌<◌, ℕ, ◌+◌, ◌^◌, List, [], ◌∷◌, length, map, nat_lt, Bool, true, false, Option, Some, None, codes}
use Rattle.wb_language.specs.declared.fault.ScriptFault.{ScriptFault}
use Rattle.wb_language.specs.declared.fault.ScriptFault.TheVariants.{UnknownName, DoubleName, WrongKind, MayLeave, NoMain, TooMany}
use Rattle.wb_tree.specs.declared.script_lines.Form.{Form}
use Rattle.wb_tree.specs.declared.script_lines.Operand.{Operand}
use Rattle.wb_tree.specs.declared.script_lines.Operand.TheVariants.{Size}
use Rattle.wb_language.specs.Names.{Text, Declaration, names_of, nothing_known, known_after, first_refused, declares_again, passes_limit, literals_of}
use Rattle.wb_language.specs.Names as model
use Rattle.wb_language.specs.Passes.{state_after}
use Rattle.wb_language.specs.Kinds.{has_wrong_kind, may_leave}
use Rattle.wb_language.specs.Resolved.{resolved_among, item_referent, uses_unknown}
use Rattle.wb_language.specs.Scripts.{number_of_line, procedure_referent}
use Rattle.wb_lines.specs.BytesOf.{bytes_of_kind, bytes_of_texts}
use Rattle.wb_script.specs.declared.checks.names_so_far.NamesSoFar.{NamesSoFar}
use Rattle.wb_script.specs.declared.checks.Checked.{Checked}
use Rattle.wb_script.specs.declared.checks.FirstLines.{FirstLines}

-- what is known, without the references
abbrev pub known_in : NamesSoFar → model.NamesSoFar
known_in known = record {
  classes = known.classes;
  procedures = known.procedures;
  operations = known.operations;
  fields = bytes_of_texts known.fields.items;
  literals = length known.literals.items;
  body = known.body;
  locals = bytes_of_texts known.locals.items;
  kinds = map bytes_of_kind known.kinds.items;
  blocks = known.blocks.items;
}

-- the counts of the script's own space are the same, and so is the kind of the body
pub record AreSameItems (old new : NamesSoFar) : Type 0 where
  pub classes : new.classes ≡ old.classes
  pub procedures : new.procedures ≡ old.procedures
  pub operations : new.operations ≡ old.operations
  pub body : new.body ≡ old.body

-- one more class, procedure or operation can be counted
abbrev pub IsFew : NamesSoFar → Type 0
IsFew known = known.classes + known.procedures + known.operations < 2 ^ 32

-- the second of two words is a size, and larger than this
abbrev pub is_size_above : ℕ → List (Operand Text) → Bool
is_size_above most (first ∷ Size size ∷ []) = nat_lt most size
is_size_above most _ = false

-- the first line that a check refuses, with one more line
abbrev pub or_here : Option ℕ → ℕ → Bool → Option ℕ
or_here (Some first) line refused = Some first
or_here None line true = Some line
or_here None line false = None

-- what is after all lines
abbrev pub known_of : List (Form Text) → model.NamesSoFar
known_of forms = state_after known_after nothing_known forms

-- The lines of a script with these items in its own space: what their names stand for, the literals, and the number of the
-- first line that each check refuses.
pub record AreChecked (items : List Declaration) (forms : List (Form Text)) (checked : Checked) : Type 0 where
  pub lines : checked.lines ≡ resolved_among items forms
  pub known : known_in checked.known ≡ known_of forms
  pub literals : bytes_of_texts checked.known.literals.items ≡ literals_of forms
  pub unknown_name : checked.first.unknown_name ≡ number_of_line (first_refused (uses_unknown items) forms)
  pub double_name : checked.first.double_name ≡ number_of_line (first_refused (declares_again (names_of items)) forms)
  pub wrong_kind : checked.first.wrong_kind ≡ number_of_line (first_refused (has_wrong_kind items) forms)
  pub may_leave : checked.first.may_leave ≡ number_of_line (first_refused may_leave forms)
  pub too_many : checked.first.too_many ≡ number_of_line (first_refused passes_limit forms)

-- no line is refused for its names or kinds, or may leave where nothing may
pub record AreNamed (first : FirstLines) : Type 0 where
  pub known : first.unknown_name ≡ None
  pub once : first.double_name ≡ None
  pub right : first.wrong_kind ≡ None
  pub quiet : first.may_leave ≡ None

abbrev pub main_among : List Declaration → Option ℕ
main_among items = procedure_referent (item_referent items (codes "main"))

-- no line is refused, and this is the place of `main`
pub record IsMain (items : List Declaration) (first : FirstLines) (main : ℕ) : Type 0 where
  pub named : AreNamed first
  pub place : main_among items ≡ Some main
  pub within : first.too_many ≡ None

-- the first fault, by the first lines that the checks refuse
abbrev pub IsFirstFault : List Declaration → FirstLines → ScriptFault → Type 0
IsFirstFault items first (UnknownName n) = first.unknown_name ≡ Some n
IsFirstFault items first (DoubleName n) = (first.unknown_name ≡ None) × (first.double_name ≡ Some n)
IsFirstFault items first (WrongKind n) = (first.unknown_name ≡ None) × (first.double_name ≡ None) × (first.wrong_kind ≡ Some n)
IsFirstFault items first (MayLeave n) = (first.unknown_name ≡ None) × (first.double_name ≡ None) × (first.wrong_kind ≡ None) × (first.may_leave ≡ Some n)
IsFirstFault items first NoMain = AreNamed first × (main_among items ≡ None)
IsFirstFault items first (TooMany n) = AreNamed first × (main_among items ≡ None → ⊥) × (first.too_many ≡ Some n)
IsFirstFault items first _ = ⊥
