-- The lines of a statement, with those of each one inside it, tell which statement it is.
use Rattle.std.proofs.Common.{◌≡◌, refl, sym, ap, subst, ◌∙◌, ℕ, List, [], ◌∷◌, ◌++◌, true, Some, None, map, append-nil, append_assoc}
use Rattle.std.specs.List.{list_all}
use Rattle.std.proofs.lemmas.List.Folds.{list_all-append}
use Rattle.wb_tree.specs.declared.script_lines.LineKind.TheVariants as line_kind
use Rattle.wb_tree.specs.declared.script_lines.Form.TheVariants.{Line}
use Rattle.wb_tree.specs.declared.script.StatementAt.{StatementAt}
use Rattle.wb_tree.specs.declared.script.Statement.{Statement}
use Rattle.wb_tree.specs.declared.script.Statement.TheOpen.{Statement-F}
use Rattle.wb_tree.specs.declared.script.Statement.TheViews.{roll-Statement}
use Rattle.wb_tree.specs.declared.script.Statement.TheFolds.{fold-StatementAt, fold_out-StatementAt, fold-roll-Statement, map-Statement, ind-Statement}
use Rattle.wb_language.specs.Trees.{Marked, line, condition_line, layer_lines, statement_at_layer, lines_joined, lines_of_statement, statement_at_lines, statement_lines, end_line, else_line}
use Rattle.wb_tree.specs.Spellings.{number_operand, variable_operand}
use Rattle.wb_lines.proofs.TypedLemmas.{both}
use Rattle.wb_script.proofs.names.KnownLines.{is_known, is_of_a_script}
use Rattle.wb_script.proofs.one_script.ReadBack.{Part, with_statement, opened, with_line, with_lines, with_lines-append}
use Rattle.wb_script.proofs.one_script.StatementLaws.{plain_line, statement_said, choice_said, loop_said}

-- the lines of a numbered statement, as the fold has them
abbrev pub statement_at_fold : StatementAt → List Marked
statement_at_fold = fold-StatementAt (ℕ → List Marked) (List Marked) layer_lines statement_at_layer

statement_at_fold_is : (s : StatementAt) → statement_at_fold s ≡ statement_at_lines s
statement_at_fold_is s = fold_out-StatementAt (ℕ → List Marked) (List Marked) layer_lines statement_at_layer s

-- the statements of a layer, and what a fold makes of them
abbrev folded : Statement-F Statement StatementAt → Statement-F (ℕ → List Marked) (List Marked)
folded layer = map-Statement Statement StatementAt (ℕ → List Marked) (List Marked) lines_of_statement statement_at_fold layer

layer_lines_are : (layer : Statement-F Statement StatementAt) (number : ℕ) → lines_of_statement (roll-Statement layer) number ≡ layer_lines (folded layer) number
layer_lines_are layer number = ap (λ f. f number) (fold-roll-Statement (ℕ → List Marked) (List Marked) layer_lines statement_at_layer layer)

-- the lines of a list of statements, as the fold has them
abbrev pub inside : List StatementAt → List Marked
inside ss = lines_joined (map statement_at_fold ss)

pub inside_is : (ss : List StatementAt) → inside ss ≡ statement_lines ss
inside_is [] = refl
inside_is (s ∷ ss) = ap (λ l. l ++ inside ss) (statement_at_fold_is s) ∙ ap (λ l. statement_at_lines s ++ l) (inside_is ss)

abbrev pub with_all : List StatementAt → Part → Part
with_all ss part = record part { inner = record part.inner { here = ss ++ part.inner.here } }

-- the lines of a statement, with all that is inside it, say that it is there
abbrev pub Said : Statement → Type 0
Said s = (number : ℕ) (part : Part) → list_all is_of_a_script (lines_of_statement s number) ≡ true → with_lines (lines_of_statement s number) part ≡ with_all (record { line = number; statement = s } ∷ []) part

abbrev AllSaid : List StatementAt → Type 0
AllSaid [] = Unit {0}
AllSaid (s ∷ ss) = Said s.statement × AllSaid ss

pub statements_said : (ss : List StatementAt) → AllSaid ss → (rest : List Marked) (part : Part) → list_all is_of_a_script (inside ss) ≡ true → with_lines (inside ss ++ rest) part ≡ with_all ss (with_lines rest part)
statements_said [] said rest part known = refl
statements_said (s ∷ ss) (first, said) rest part known =
    let (here, more) = both (list_all is_of_a_script (statement_at_fold s)) (list_all is_of_a_script (inside ss)) (sym (list_all-append is_of_a_script (statement_at_fold s) (inside ss)) ∙ known) in
    let is = statement_at_fold_is s in
    let later = with_all ss (with_lines rest part) in
    ap (λ l. with_lines l part) (append_assoc (statement_at_fold s) (inside ss) rest)
    ∙ with_lines-append (statement_at_fold s) (inside ss ++ rest) part
    ∙ ap (with_lines (statement_at_fold s)) (statements_said ss said rest part more)
    ∙ ap (λ l. with_lines l later) is
    ∙ first s.line later (ap (list_all is_of_a_script) (sym is) ∙ here)

abbrev Proved : Type 0
Proved = (s : StatementAt) × Said s.statement

abbrev bare : List Proved → List StatementAt
bare es = map (λ e. e.0) es

all_proved : (es : List Proved) → AllSaid (bare es)
all_proved [] = tt
all_proved (e ∷ es) = (e.1, all_proved es)

-- a block whose lines are followed by its end
block_said : (es : List Proved) (part : Part) → list_all is_of_a_script (inside (bare es)) ≡ true → with_lines (inside (bare es) ++ end_line ∷ []) part ≡ record (opened part) { inner = record { here = bare es; other = None } }
block_said es part known = statements_said (bare es) (all_proved es) (end_line ∷ []) part known ∙ ap (λ l. record (opened part) { inner = record { here = l; other = None } }) (append-nil (bare es))

pub following : (ss : List Marked) (rest : List Marked) → list_all is_of_a_script (ss ++ rest) ≡ true → (list_all is_of_a_script ss ≡ true) × (list_all is_of_a_script rest ≡ true)
following ss rest known = both (list_all is_of_a_script ss) (list_all is_of_a_script rest) (sym (list_all-append is_of_a_script ss rest) ∙ known)

abbrev Layer : Type 0
Layer = Statement-F ((s : Statement) × Said s) Proved

abbrev layer_of : Layer → Statement-F Statement StatementAt
layer_of y = map-Statement ((s : Statement) × Said s) Proved Statement StatementAt (λ e. e.0) (λ e. e.0) y

layer_said : (y : Layer) (number : ℕ) (part : Part) → list_all is_of_a_script (layer_lines (folded (layer_of y)) number) ≡ true → with_lines (layer_lines (folded (layer_of y)) number) part ≡ with_statement number (layer_of y) part
layer_said (Statement-F.If c first) number part known =
    let (head, rest) = both (is_known (condition_line c)) (list_all is_of_a_script (inside (bare first) ++ end_line ∷ [])) known in
    let (told, end) = following (inside (bare first)) (end_line ∷ []) rest in
    ap (with_line number (condition_line c)) (block_said first part told)
    ∙ choice_said number c (record (opened part) { inner = record { here = bare first; other = None } }) head
layer_said (Statement-F.IfElse c first other) number part known =
    let (head, rest) = both (is_known (condition_line c)) (list_all is_of_a_script (inside (bare first) ++ else_line ∷ (inside (bare other) ++ end_line ∷ []))) known in
    let (told, later) = following (inside (bare first)) (else_line ∷ (inside (bare other) ++ end_line ∷ [])) rest in
    let (others, end) = following (inside (bare other)) (end_line ∷ []) later in
    let after_else : Part = record (opened part) { inner = record { here = bare first; other = Some (bare other) } } in
    ap (with_line number (condition_line c))
    (statements_said (bare first) (all_proved first) (else_line ∷ (inside (bare other) ++ end_line ∷ [])) part told
    ∙ ap (λ p. with_all (bare first) (with_line 0 (Line line_kind.Else []) p)) (block_said other part others)
    ∙ ap (λ l. record (opened part) { inner = record { here = l; other = Some (bare other) } }) (append-nil (bare first)))
    ∙ choice_said number c after_else head
layer_said (Statement-F.Repeat v body) number part known =
    let (head, rest) = both (is_known (line line_kind.Repeat (number_operand v ∷ []))) (list_all is_of_a_script (inside (bare body) ++ end_line ∷ [])) known in
    let (told, end) = following (inside (bare body)) (end_line ∷ []) rest in
    ap (with_line number (line line_kind.Repeat (number_operand v ∷ []))) (block_said body part told)
    ∙ loop_said number v (record (opened part) { inner = record { here = bare body; other = None } })
layer_said (Statement-F.Trap x body) number part known =
    let (told, end) = following (inside (bare body)) (end_line ∷ []) known in
    ap (with_line number (line line_kind.Trap (variable_operand x ∷ []))) (block_said body part told)
layer_said y number part known = statement_said number (layer_of y) part (both (is_known (plain_line (layer_of y))) true known).0

said : (s : Statement) → Said s
said = ind-Statement Said (λ s. Said s.statement) (λ x y is number part known.
    subst (λ z. list_all is_of_a_script (lines_of_statement (roll-Statement z) number) ≡ true → with_lines (lines_of_statement (roll-Statement z) number) part ≡ with_statement number z part) is
    (λ told. ap (λ l. with_lines l part) (layer_lines_are (layer_of y) number) ∙ layer_said y number part (ap (list_all is_of_a_script) (sym (layer_lines_are (layer_of y) number)) ∙ told)) known) (λ x y is. subst (λ z. Said z.statement) is y.statement.1)

pub all_said : (ss : List StatementAt) → AllSaid ss
all_said [] = tt
all_said (s ∷ ss) = (said s.statement, all_said ss)
