-- Faults of bytes, by computing. That the lines are those of a script, whatever their names, is shown by its derivation in the grammar.
use Rattle.std.proofs.Common.{◌≡◌, ℕ, arith, Bool, true, false, List, [], ◌∷◌, length, Option, Some, None, refl}
use Rattle.std.proofs.lemmas.Bool.{false≢true, lt-ltb}
use Rattle.wb_tree.specs.declared.script_lines.Role.{Role}
use Rattle.wb_tree.specs.declared.script_lines.Role.TheVariants.{Class, Procedure}
use Rattle.wb_language.specs.Grammar.{AreItems, AreStatements, IsBody}
use Rattle.wb_language.specs.LineKinds.{line_kinds}
use Rattle.wb_language.specs.Lines.{lines_of}
use Rattle.wb_language.specs.Scripts.{IsGrammarLine, IsWellFormed}
use Rattle.wb_worked.specs.WorkedFaults.{declared_twice, end_alone, leaves_in_operation, number_is_freed, text_too_large, undeclared, without_main, DeclaredTwice, EndAlone, ForeignByte, LeavesInOperation, NumberIsFreed, TextTooLarge, TooManyBytes, Undeclared, WithoutMain}

pub too-many-bytes : TooManyBytes
too-many-bytes bytes more = lt-ltb 65536 (length bytes) more

pub foreign-byte : ForeignByte
foreign-byte = (refl, refl)

-- ---- the grammar

-- with which lines an item begins
abbrev begins_item : List Role → Bool
begins_item [] = true
begins_item (Class ∷ roles) = true
begins_item (Procedure ∷ roles) = true
begins_item _ = false

items-begin : {roles : List Role} → AreItems roles → begins_item roles ≡ true
items-begin AreItems.none = refl
items-begin (AreItems.class fields construct destroy rest) = refl
items-begin (AreItems.procedure body rest) = refl

end-is-first : IsGrammarLine (lines_of end_alone) 1
unfolding line_kinds
end-is-first = record {
  counted = omega arith;
  within = omega arith;
  before = ([], AreItems.none);
  here = λ le first. false≢true (items-begin first.1);
  unfinished = λ e are. let three : length (lines_of end_alone) ≡ 3 = refl in absurd (omega (arith, e, three));
}

pub end-alone : EndAlone
end-alone = (record { short = refl; printable = refl }, end-is-first)

-- ---- names, kinds and limits

of-undeclared : IsWellFormed undeclared
unfolding line_kinds
of-undeclared = record {
  text = record { short = refl; printable = refl };
  grammar = AreItems.procedure (IsBody.statements (AreStatements.plain AreStatements.none)) AreItems.none;
}

pub is-undeclared : Undeclared
unfolding line_kinds
is-undeclared = (of-undeclared, refl)

of-twice : IsWellFormed declared_twice
unfolding line_kinds
of-twice = record {
  text = record { short = refl; printable = refl };
  grammar = AreItems.procedure (IsBody.declaration (IsBody.declaration (IsBody.statements AreStatements.none))) AreItems.none;
}

pub declared-twice : DeclaredTwice
unfolding line_kinds
declared-twice = (of-twice, (refl, refl))

of-freed : IsWellFormed number_is_freed
unfolding line_kinds
of-freed = record {
  text = record { short = refl; printable = refl };
  grammar = AreItems.procedure (IsBody.declaration (IsBody.statements (AreStatements.plain AreStatements.none))) AreItems.none;
}

pub number-is-freed : NumberIsFreed
unfolding line_kinds
number-is-freed = (of-freed, (refl, refl, refl))

of-operation : IsWellFormed leaves_in_operation
unfolding line_kinds
of-operation = record {
  text = record { short = refl; printable = refl };
  grammar =
      AreItems.procedure (IsBody.statements (AreStatements.plain AreStatements.none))
      (AreItems.procedure (IsBody.statements AreStatements.none) AreItems.none);
}

pub leaves-in-operation : LeavesInOperation
unfolding line_kinds
leaves-in-operation = (of-operation, (refl, refl, refl, refl))

of-first : IsWellFormed without_main
unfolding line_kinds
of-first = record {
  text = record { short = refl; printable = refl };
  grammar = AreItems.procedure (IsBody.statements AreStatements.none) AreItems.none;
}

pub is-without-main : WithoutMain
unfolding line_kinds
is-without-main = (of-first, (record { known = refl; once = refl; right = refl; quiet = refl }, refl))

of-large : IsWellFormed text_too_large
unfolding line_kinds
of-large = record {
  text = record { short = refl; printable = refl };
  grammar = AreItems.procedure (IsBody.declaration (IsBody.statements AreStatements.none)) AreItems.none;
}

pub text-too-large : TextTooLarge
unfolding line_kinds
text-too-large = (
  of-large,
  (
    record { known = refl; once = refl; right = refl; quiet = refl },
    λ none. let clash : ◌≡◌ {A = Option ℕ} (Some 0) None = none in cc,
    refl,
  ),
)
