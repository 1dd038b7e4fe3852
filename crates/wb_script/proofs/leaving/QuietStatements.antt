-- Statements whose lines cannot leave in an operation or in a destructor cannot leave.
use Rattle.std.proofs.Common.{◌≡◌, refl, sym, ap, subst, ◌∙◌, ℕ, zero, suc, List, [], ◌∷◌, ◌++◌, Bool, true, false, not, ◌&&◌, ◌||◌, IsTrue, is_some, Option, Some, None, map, append_assoc}
use Rattle.std.proofs.lemmas.Bool.{false≢true}
use Rattle.wb_tree.specs.declared.script_lines.BodyKind.{BodyKind}
use Rattle.wb_tree.specs.declared.script_lines.LineKind.{LineKind}
use Rattle.wb_tree.specs.declared.script_lines.LineKind.TheVariants as line_kind
use Rattle.wb_tree.specs.declared.script_lines.Referent.{Referent}
use Rattle.wb_tree.specs.declared.script_lines.Operand.{Operand}
use Rattle.wb_tree.specs.declared.script.Argument.{Argument}
use Rattle.wb_tree.specs.declared.script.Condition.{Condition}
use Rattle.wb_tree.specs.declared.script.Condition.TheVariants.{IsNull, NotNull, Equal, Less}
use Rattle.wb_tree.specs.declared.script.Pointer.{Pointer}
use Rattle.wb_tree.specs.declared.script.Pointer.TheVariants.{Held, Field}
use Rattle.wb_tree.specs.declared.script.Number.{Number}
use Rattle.wb_tree.specs.declared.script.Writable.{Writable}
use Rattle.wb_tree.specs.declared.script.Readable.{Readable}
use Rattle.wb_tree.specs.declared.script.Refusal.TheVariants.{GivesNull, Leaves}
use Rattle.wb_tree.specs.declared.script.StatementAt.{StatementAt}
use Rattle.wb_tree.specs.declared.script.Statement.{Statement}
use Rattle.wb_tree.specs.declared.script.Statement.TheOpen.{Statement-F}
use Rattle.wb_tree.specs.declared.script.Statement.TheFolds.{fold_out-Statement, map-Statement}
use Rattle.wb_tree.specs.declared.script.Statement.TheViews.{out-Statement}
use Rattle.wb_tree.specs.QuietLines.{is_quiet}
use Rattle.wb_language.specs.LineKinds.{is_outside, is_loud, may_leave_in}
use Rattle.wb_language.specs.Names.{body_kind_of, body_after}
use Rattle.wb_tree.specs.Quiet.{is_quiet_statement, are_quiet}
use Rattle.wb_tree.specs.Sound.{Declared, Scope, is_condition, is_number, is_nested, are_within}
use Rattle.wb_tree.specs.Spellings.{Spelled, Spelling, pointer_operand, number_operand, variable_operand, writable_operand, text_operand, argument_operand, condition_spelling, statement_spelling}
use Rattle.wb_language.specs.Trees.{Marked, and_operand, all_spelled, line_or_unknown, spelled_line, layer_lines, statement_at_layer, lines_joined, lines_of_statement, statement_at_lines, statement_lines, end_line, else_line}
use Rattle.wb_script.proofs.building.ClosedBlocks.{lines_of_statement_at, joined-map, flat_layer}
use Rattle.wb_script.proofs.one_script.OperandLaws.{pointer_is, number_is, writable_is, text_is, argument_spelled}
use Rattle.wb_script.proofs.leaving.QuietLines.{are_quiet_from, QuietFrom, both, both_hold}

-- each word of a line is spelled
abbrev AreSpelled : List Spelled → Type 0
AreSpelled [] = Unit {0}
AreSpelled (word ∷ words) = IsTrue (is_some word) × AreSpelled words

spelled : (words : List Spelled) → AreSpelled words → (operands : List (Operand Referent)) × (all_spelled words ≡ Some operands)
spelled [] are = ([], refl)
spelled (None ∷ words) (is, are) = absurd (false≢true is)
spelled (Some operand ∷ words) (is, are) = let (operands, same) = spelled words are in (operand ∷ operands, ap (and_operand (Some operand)) same)

pointer_spelled : (p : Pointer) → IsTrue (is_some (pointer_operand p))
pointer_spelled p = ap is_some (pointer_is p)

number_spelled : (v : Number) → IsTrue (is_some (number_operand v))
number_spelled v = ap is_some (number_is v)

writable_spelled : (d : Writable) → IsTrue (is_some (writable_operand d))
writable_spelled d = ap is_some (writable_is d)

text_spelled : (t : Readable) → IsTrue (is_some (text_operand t))
text_spelled t = ap is_some (text_is t)

arguments_spelled : (arguments : List Argument) → AreSpelled (map argument_operand arguments)
arguments_spelled [] = tt
arguments_spelled (a ∷ arguments) = (argument_spelled a, arguments_spelled arguments)

-- the spelling of a line inside a body
pub record IsInBody (s : Spelling) : Type 0 where
  pub begins_none : body_kind_of s.0 ≡ None
  pub inside : is_outside s.0 ≡ false
  pub spelled : AreSpelled s.1

condition_in_body : (c : Condition) → IsInBody (condition_spelling c)
condition_in_body (IsNull p) = record { begins_none = refl; inside = refl; spelled = (refl, (pointer_spelled p, tt)) }
condition_in_body (NotNull p) = record { begins_none = refl; inside = refl; spelled = (refl, (pointer_spelled p, tt)) }
condition_in_body (Equal v w) = record { begins_none = refl; inside = refl; spelled = (refl, (number_spelled v, (number_spelled w, tt))) }
condition_in_body (Less v w) = record { begins_none = refl; inside = refl; spelled = (refl, (number_spelled v, (number_spelled w, tt))) }

statement_in_body : (s : Statement-F Statement StatementAt) → IsInBody (statement_spelling s)
statement_in_body (Statement-F.If c first) = condition_in_body c
statement_in_body (Statement-F.IfElse c first other) = condition_in_body c
statement_in_body (Statement-F.Alloc p v GivesNull) = record { begins_none = refl; inside = refl; spelled = (pointer_spelled p, (number_spelled v, tt)) }
statement_in_body (Statement-F.Alloc p v Leaves) = record { begins_none = refl; inside = refl; spelled = (pointer_spelled p, (number_spelled v, tt)) }
statement_in_body (Statement-F.Realloc p q v GivesNull) = record { begins_none = refl; inside = refl; spelled = (pointer_spelled p, (pointer_spelled q, (number_spelled v, tt))) }
statement_in_body (Statement-F.Realloc p q v Leaves) = record { begins_none = refl; inside = refl; spelled = (pointer_spelled p, (pointer_spelled q, (number_spelled v, tt))) }
statement_in_body (Statement-F.New p class GivesNull) = record { begins_none = refl; inside = refl; spelled = (pointer_spelled p, (refl, tt)) }
statement_in_body (Statement-F.New p class Leaves) = record { begins_none = refl; inside = refl; spelled = (pointer_spelled p, (refl, tt)) }
statement_in_body (Statement-F.NewText p v GivesNull) = record { begins_none = refl; inside = refl; spelled = (pointer_spelled p, (number_spelled v, tt)) }
statement_in_body (Statement-F.NewText p v Leaves) = record { begins_none = refl; inside = refl; spelled = (pointer_spelled p, (number_spelled v, tt)) }
statement_in_body (Statement-F.Set (Held holder) q) = record { begins_none = refl; inside = refl; spelled = (refl, (pointer_spelled q, tt)) }
statement_in_body (Statement-F.Set (Field holder class i) q) = record { begins_none = refl; inside = refl; spelled = (refl, (pointer_spelled q, tt)) }
statement_in_body _ = record { begins_none = refl; inside = refl; spelled = search (pointer_spelled, number_spelled, writable_spelled, text_spelled, arguments_spelled) }

-- a body of a kind that may do nothing which can leave
abbrev pub Closed : BodyKind → Type 0
Closed body = (k : LineKind) → may_leave_in body k ≡ is_loud k

-- the lines of the statement of a layer
abbrev lines_in_layer : Statement-F Statement StatementAt → ℕ → List Marked
lines_in_layer layer number = layer_lines (map-Statement Statement StatementAt (ℕ → List Marked) (List Marked) lines_of_statement lines_of_statement_at layer) number

statement_at_lines_are : (s : StatementAt) → statement_at_lines s ≡ lines_in_layer (out-Statement s.statement) s.line
statement_at_lines_are s = ap (λ f. f s.line) (fold_out-Statement (ℕ → List Marked) (List Marked) layer_lines statement_at_layer s.statement)

module _ (body : BodyKind) (closed : Closed body) where
  -- a line inside the body is quiet where it cannot leave, and so are the lines after it
  pub quiet_line : (s : Spelling) → IsInBody s → (number : Option ℕ) (rest : List Marked) → QuietFrom body ((number, spelled_line s) ∷ rest) → IsTrue (is_quiet s.0) × QuietFrom body rest
  quiet_line s within number rest is =
      let (operands, same) = spelled s.1 within.spelled in
      let is_known = subst (λ o. QuietFrom body ((number, line_or_unknown s.0 o) ∷ rest)) same is in
      let (here, more) = both (not (may_leave_in body s.0 || false)) (are_quiet_from (body_after (body_kind_of s.0) body) rest) is_known in
      (by (may_leave_in body s.0) (is_outside s.0) (is_quiet s.0) (closed s.0) within.inside here, subst (λ b. QuietFrom (body_after b body) rest) within.begins_none more)
    where
      by : (loud outside quiet : Bool) → loud ≡ not (outside || quiet) → outside ≡ false → not (loud || false) ≡ true → quiet ≡ true
      by loud outside true said none here = refl
      by loud true false said none here = absurd (false≢true (sym none))
      by true false false said none here = absurd (false≢true here)
      by false false false said none here = absurd (false≢true said)

  after_end : (rest : List Marked) → QuietFrom body (end_line ∷ rest) → QuietFrom body rest
  after_end rest is = (quiet_line (line_kind.End, []) (record { begins_none = refl; inside = refl; spelled = tt }) None rest is).1

  after_else : (rest : List Marked) → QuietFrom body (else_line ∷ rest) → QuietFrom body rest
  after_else rest is = (quiet_line (line_kind.Else, []) (record { begins_none = refl; inside = refl; spelled = tt }) None rest is).1

  module _ (declared : Declared) (scope : Scope) where
    -- what is proved of the statements inside a block
    abbrev Inside : ℕ → Type 0
    Inside depth = (trapped : Bool) (ss : List StatementAt) (rest : List Marked) → IsTrue (are_within declared scope depth trapped ss) → QuietFrom body (statement_lines ss ++ rest) → IsTrue (are_quiet depth ss) × QuietFrom body rest

    module _ (depth : ℕ) (inside : Inside depth) where
      -- the statements of a block, with what is after them
      block : (trapped : Bool) (ss : List StatementAt) (end rest : List Marked) → IsTrue (are_within declared scope depth trapped ss) → QuietFrom body ((lines_joined (map lines_of_statement_at ss) ++ end) ++ rest) → IsTrue (are_quiet depth ss) × QuietFrom body (end ++ rest)
      block trapped ss end rest within is =
          inside trapped ss (end ++ rest) within
          (subst (QuietFrom body) (append_assoc (lines_joined (map lines_of_statement_at ss)) end rest ∙ ap (λ l. l ++ (end ++ rest)) (joined-map ss)) is)

      abbrev Layer : Bool → Statement-F Statement StatementAt → Type 0
      Layer trapped layer = (number : ℕ) (rest : List Marked) → IsTrue (is_nested declared scope trapped (are_within declared scope depth) layer) → QuietFrom body (lines_in_layer layer number ++ rest) → IsTrue (is_quiet_statement (are_quiet depth) layer) × QuietFrom body rest

      ifs : (trapped : Bool) (c : Condition) (first : List StatementAt) → Layer trapped (Statement-F.If c first)
      ifs trapped c first number rest within is =
          let (asked, sound) = both (is_condition scope c) (are_within declared scope depth trapped first) within in
          let (here, more) = quiet_line (condition_spelling c) (condition_in_body c) (Some number) ((lines_joined (map lines_of_statement_at first) ++ end_line ∷ []) ++ rest) is in
          let (quiet, last) = block trapped first (end_line ∷ []) rest sound more in
          (both_hold (is_quiet (condition_spelling c).0) (are_quiet depth first && true) here (both_hold (are_quiet depth first) true quiet refl), after_end rest last)

      if_elses : (trapped : Bool) (c : Condition) (first other : List StatementAt) → Layer trapped (Statement-F.IfElse c first other)
      if_elses trapped c first other number rest within is =
          let (asked, sounds) = both (is_condition scope c) (are_within declared scope depth trapped first && are_within declared scope depth trapped other) within in
          let (sound, other_sound) = both (are_within declared scope depth trapped first) (are_within declared scope depth trapped other) sounds in
          let others = lines_joined (map lines_of_statement_at other) ++ end_line ∷ [] in
          let (here, lines) = quiet_line (condition_spelling c) (condition_in_body c) (Some number) ((lines_joined (map lines_of_statement_at first) ++ else_line ∷ others) ++ rest) is in
          let (quiet, more) = block trapped first (else_line ∷ others) rest sound lines in
          let (other_quiet, last) = block trapped other (end_line ∷ []) rest other_sound (after_else (others ++ rest) more) in
          let blocks = both_hold (are_quiet depth first) (are_quiet depth other && true) quiet (both_hold (are_quiet depth other) true other_quiet refl) in
          (both_hold (is_quiet (condition_spelling c).0) (are_quiet depth first && (are_quiet depth other && true)) here blocks, after_end rest last)

      repeats : (trapped : Bool) (v : Number) (inner : List StatementAt) → Layer trapped (Statement-F.Repeat v inner)
      repeats trapped v inner number rest within is =
          let (asked, sound) = both (is_number scope.locals v) (are_within declared scope depth trapped inner) within in
          let (here, more) = quiet_line (line_kind.Repeat, number_operand v ∷ []) (statement_in_body (Statement-F.Repeat v inner)) (Some number) ((lines_joined (map lines_of_statement_at inner) ++ end_line ∷ []) ++ rest) is in
          let (quiet, last) = block trapped inner (end_line ∷ []) rest sound more in
          (both_hold (are_quiet depth inner) true quiet refl, after_end rest last)

      -- a statement with blocks, or of one line; one whose line may leave is none of such a body
      layers : (trapped : Bool) (layer : Statement-F Statement StatementAt) → Layer trapped layer
      layers trapped (Statement-F.If c first) number rest within is = ifs trapped c first number rest within is
      layers trapped (Statement-F.IfElse c first other) number rest within is = if_elses trapped c first other number rest within is
      layers trapped (Statement-F.Repeat v inner) number rest within is = repeats trapped v inner number rest within is
      layers trapped (Statement-F.Trap x inner) number rest within is =
          absurd (false≢true (quiet_line (line_kind.Trap, variable_operand x ∷ []) (statement_in_body (Statement-F.Trap x inner)) (Some number) ((lines_joined (map lines_of_statement_at inner) ++ end_line ∷ []) ++ rest) is).0)
      layers trapped layer number rest within is =
          let (here, more) = quiet_line (statement_spelling layer) (statement_in_body layer) (Some number) rest (subst (λ l. QuietFrom body (l ++ rest)) (flat_layer number layer refl) is) in
          (both_hold (is_quiet (statement_spelling layer).0) true here refl, more)

      each : (trapped : Bool) (ss : List StatementAt) (rest : List Marked) → IsTrue (are_within declared scope (suc depth) trapped ss) → QuietFrom body (statement_lines ss ++ rest) → IsTrue (are_quiet (suc depth) ss) × QuietFrom body rest
      each trapped [] rest within is = (refl, is)
      each trapped (s ∷ ss) rest within is =
          let layer = out-Statement s.statement in
          let (sound, others) = both (is_nested declared scope trapped (are_within declared scope depth) layer) (are_within declared scope (suc depth) trapped ss) within in
          let parted = subst (QuietFrom body) (append_assoc (statement_at_lines s) (statement_lines ss) rest ∙ ap (λ l. l ++ (statement_lines ss ++ rest)) (statement_at_lines_are s)) is in
          let (quiet, more) = layers trapped layer s.line (statement_lines ss ++ rest) sound parted in
          let (all, last) = each trapped ss rest others more in
          (both_hold (is_quiet_statement (are_quiet depth) layer) (are_quiet (suc depth) ss) quiet all, last)

    -- the statements of a body, and the lines after them
    pub quiet_statements : (depth : ℕ) → Inside depth
    quiet_statements zero trapped ss rest within is = absurd (false≢true within)
    quiet_statements (suc depth) trapped ss rest within is = each depth (quiet_statements depth) trapped ss rest within is
