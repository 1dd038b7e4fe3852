-- Reading with open blocks, against the grammar.
use Rattle.std.proofs.Common.{◌≡◌, List, [], ◌∷◌, ◌++◌, Option, Some, None, ◌⊎◌, inl, inr, refl, sym, ap, subst, ◌∙◌, append_assoc}
use Rattle.std.proofs.lemmas.Option.{option_and_then_some}
use Rattle.std.specs.Option.{option_and_then}
use Rattle.wb_tree.specs.declared.script_lines.Role.{Role}
use Rattle.wb_tree.specs.declared.script_lines.Role.TheVariants.{Class, Field, Construct, Destroy, Procedure, Declaration, Plain, Loop, If, Else, End}
use Rattle.wb_nesting.specs.declared.open.Open.{Open}
use Rattle.wb_nesting.specs.declared.open.Open.TheVariants.{Fields, Made, Destroyed, Declarations, Statements, Branch, Block}
use Rattle.wb_nesting.specs.declared.open.Move.{Move}
use Rattle.wb_nesting.specs.declared.open.Move.TheVariants.{Close, Stay, Enter}
use Rattle.wb_nesting.specs.Machine.{statement, move_of, after, moved, step}
use Rattle.wb_language.specs.Grammar.{AreStatements, IsBody, AreFields, IsOptional, AreItems}

-- the open blocks after some lines
abbrev pub run : List Open → List Role → Option (List Open)
run stack [] = Some stack
run stack (role ∷ lines) = option_and_then (λ next. run next lines) (step stack role)

-- what may be before the `end` of an open block
abbrev pub MayFollow : Open → List Role → Type 0
MayFollow Fields a = (fields construct destroy : List Role) × AreFields fields × IsOptional Construct construct × IsOptional Destroy destroy × (a ≡ fields ++ (construct ++ destroy))
MayFollow Made a = IsOptional Destroy a
MayFollow Destroyed a = a ≡ []
MayFollow Declarations a = IsBody a
MayFollow Statements a = AreStatements a
MayFollow Block a = AreStatements a
MayFollow Branch a = AreStatements a ⊎ ((yes no : List Role) × AreStatements yes × AreStatements no × (a ≡ yes ++ (Else ∷ no)))

-- what completes a script with these open blocks
abbrev pub Completes : List Open → List Role → Type 0
Completes [] lines = AreItems lines
Completes (place ∷ below) lines = (a b : List Role) × MayFollow place a × (lines ≡ a ++ (End ∷ b)) × Completes below b

-- one move back: what completes the script after a move completes it, after the line, before the move
abbrev BackFrom : Option Move → List Open → List Role → Type 0 → Type 0
BackFrom None below lines goal = Unit {0}
BackFrom (Some m) below lines goal = Completes (after m below) lines → goal

nested : (a b : List Role) (c d : List Role) → b ≡ c ++ (End ∷ d) → a ++ (End ∷ b) ≡ (a ++ (End ∷ c)) ++ (End ∷ d)
nested a b c d e = ap (λ l. a ++ (End ∷ l)) e ∙ sym (append_assoc a (End ∷ c) (End ∷ d))

-- how statements go before what may follow in a block
record TakesStatements (inside outside : Open) : Type 0 where
  empty : MayFollow outside []
  plain : (a : List Role) → MayFollow inside a → MayFollow outside (Plain ∷ a)
  loop : (body a : List Role) → AreStatements body → MayFollow inside a → MayFollow outside (Loop ∷ (body ++ (End ∷ a)))
  choice : (body a : List Role) → MayFollow Branch body → MayFollow inside a → MayFollow outside (If ∷ (body ++ (End ∷ a)))

choice_then : (body a : List Role) → MayFollow Branch body → AreStatements a → AreStatements (If ∷ (body ++ (End ∷ a)))
choice_then body a (inl first) rest = AreStatements.one_way first rest
choice_then body a (inr (u, v, y, n, e)) rest =
    let same : If ∷ (u ++ (Else ∷ (v ++ (End ∷ a)))) ≡ If ∷ (body ++ (End ∷ a)) = ap (λ l. If ∷ l) (sym (append_assoc u (Else ∷ v) (End ∷ a)) ∙ ap (λ l. l ++ (End ∷ a)) (sym e)) in
    subst AreStatements same (AreStatements.two_ways y n rest)

statement_back : (inside outside : Open) → TakesStatements inside outside → (role : Role) (below : List Open) (lines : List Role) → BackFrom (statement inside role) below lines (Completes (outside ∷ below) (role ∷ lines))
statement_back inside outside t Plain below lines = λ (a, b, f, e, rest). (Plain ∷ a, b, t.plain a f, ap (λ l. Plain ∷ l) e, rest)
statement_back inside outside t Loop below lines = λ (a, b, f, e, (c, d, g, h, rest)). (Loop ∷ (a ++ (End ∷ c)), d, t.loop a c f g, ap (λ l. Loop ∷ l) (e ∙ nested a b c d h), rest)
statement_back inside outside t If below lines = λ (a, b, f, e, (c, d, g, h, rest)). (If ∷ (a ++ (End ∷ c)), d, t.choice a c f g, ap (λ l. If ∷ l) (e ∙ nested a b c d h), rest)
statement_back inside outside t End below lines = λ rest. ([], lines, t.empty, refl, rest)
statement_back inside outside t _ below lines = tt

in_statements : TakesStatements Statements Statements
in_statements = record { empty = AreStatements.none; plain = λ a f. AreStatements.plain f; loop = λ body a f g. AreStatements.loop f g; choice = choice_then }

in_block : TakesStatements Block Block
in_block = record { empty = AreStatements.none; plain = λ a f. AreStatements.plain f; loop = λ body a f g. AreStatements.loop f g; choice = choice_then }

after_declarations : TakesStatements Statements Declarations
after_declarations = record { empty = IsBody.statements AreStatements.none; plain = λ a f. IsBody.statements (AreStatements.plain f); loop = λ body a f g. IsBody.statements (AreStatements.loop f g); choice = λ body a f g. IsBody.statements (choice_then body a f g) }

-- a front of the first part goes before either form of an `if`
branch_with : (front : List Role) → ((a : List Role) → AreStatements a → AreStatements (front ++ a)) → (a : List Role) → MayFollow Branch a → MayFollow Branch (front ++ a)
branch_with front put a (inl s) = inl (put a s)
branch_with front put a (inr (u, v, y, n, e)) = inr (front ++ u, v, put u y, n, ap (λ l. front ++ l) e ∙ sym (append_assoc front u (Else ∷ v)))

in_branch : TakesStatements Branch Branch
in_branch = record {
  empty = inl AreStatements.none;
  plain = branch_with (Plain ∷ []) (λ a f. AreStatements.plain f);
  loop = λ body a f g.
      let put : (c : List Role) → AreStatements c → AreStatements ((Loop ∷ (body ++ (End ∷ []))) ++ c) = λ c h. subst (λ l. AreStatements (Loop ∷ l)) (sym (append_assoc body (End ∷ []) c)) (AreStatements.loop f h) in
      subst (λ l. MayFollow Branch (Loop ∷ l)) (append_assoc body (End ∷ []) a) (branch_with (Loop ∷ (body ++ (End ∷ []))) put a g);
  choice = λ body a f g.
      let put : (c : List Role) → AreStatements c → AreStatements ((If ∷ (body ++ (End ∷ []))) ++ c) = λ c h. subst (λ l. AreStatements (If ∷ l)) (sym (append_assoc body (End ∷ []) c)) (choice_then body c f h) in
      subst (λ l. MayFollow Branch (If ∷ l)) (append_assoc body (End ∷ []) a) (branch_with (If ∷ (body ++ (End ∷ []))) put a g);
}

place_back : (place : Open) (role : Role) (below : List Open) (lines : List Role) → BackFrom (move_of (Some place) role) below lines (Completes (place ∷ below) (role ∷ lines))
place_back Fields Field below lines = λ (a, b, (f, c, d, ff, cc', dd, e), g, rest). (Field ∷ a, b, (Field ∷ f, c, d, AreFields.field ff, cc', dd, ap (λ l. Field ∷ l) e), ap (λ l. Field ∷ l) g, rest)
place_back Fields Construct below lines = λ (a, b, f, e, (c, d, g, h, rest)). (Construct ∷ (a ++ (End ∷ c)), d, ([], Construct ∷ (a ++ (End ∷ [])), c, AreFields.none, IsOptional.present f, g, ap (λ l. Construct ∷ l) (sym (append_assoc a (End ∷ []) c))), ap (λ l. Construct ∷ l) (e ∙ nested a b c d h), rest)
place_back Fields Destroy below lines = λ (a, b, f, e, (c, d, nil, h, rest)). (Destroy ∷ (a ++ (End ∷ c)), d, ([], [], Destroy ∷ (a ++ (End ∷ [])), AreFields.none, IsOptional.absent, IsOptional.present f, ap (λ l. Destroy ∷ (a ++ (End ∷ l))) nil), ap (λ l. Destroy ∷ l) (e ∙ nested a b c d h), rest)
place_back Fields End below lines = λ rest. ([], lines, ([], [], [], AreFields.none, IsOptional.absent, IsOptional.absent, refl), refl, rest)
place_back Made Destroy below lines = λ (a, b, f, e, (c, d, nil, h, rest)). (Destroy ∷ (a ++ (End ∷ [])), d, IsOptional.present f, ap (λ l. Destroy ∷ l) (e ∙ nested a b c d h ∙ ap (λ l. (a ++ (End ∷ l)) ++ (End ∷ d)) nil), rest)
place_back Made End below lines = λ rest. ([], lines, IsOptional.absent, refl, rest)
place_back Destroyed End below lines = λ rest. ([], lines, refl, refl, rest)
place_back Declarations Declaration below lines = λ (a, b, f, e, rest). (Declaration ∷ a, b, IsBody.declaration f, ap (λ l. Declaration ∷ l) e, rest)
place_back Declarations role below lines = statement_back Statements Declarations after_declarations role below lines
place_back Statements role below lines = statement_back Statements Statements in_statements role below lines
place_back Branch Else below lines = λ (a, b, f, e, rest). (Else ∷ a, b, inr ([], a, AreStatements.none, f, refl), ap (λ l. Else ∷ l) e, rest)
place_back Branch role below lines = statement_back Branch Branch in_branch role below lines
place_back Block role below lines = statement_back Block Block in_block role below lines
place_back _ _ below lines = tt

top_back : (role : Role) (lines : List Role) → BackFrom (move_of None role) [] lines (Completes [] (role ∷ lines))
top_back Class lines = λ (a, b, (f, c, d, ff, fc, fd, e), g, rest).
    let same : lines ≡ f ++ (c ++ (d ++ (End ∷ b))) = g ∙ ap (λ l. l ++ (End ∷ b)) e ∙ append_assoc f (c ++ d) (End ∷ b) ∙ ap (λ l. f ++ l) (append_assoc c d (End ∷ b)) in
    subst (λ l. AreItems (Class ∷ l)) (sym same) (AreItems.class ff fc fd rest)
top_back Procedure lines = λ (a, b, f, e, rest). subst (λ l. AreItems (Procedure ∷ l)) (sym e) (AreItems.procedure f rest)
top_back _ lines = tt

moved_back : (o : Option Move) (below next : List Open) (lines : List Role) (goal : Type 0) → BackFrom o below lines goal → moved o below ≡ Some next → Completes next lines → goal
moved_back None below next lines goal back is f = let no_way : ⊥ = cc in absurd no_way
moved_back (Some m) below next lines goal back is f = let e : after m below ≡ next = cc in back (subst (λ l. Completes l lines) (sym e) f)

step_back : (stack : List Open) (role : Role) (next : List Open) (lines : List Role) → step stack role ≡ Some next → Completes next lines → Completes stack (role ∷ lines)
step_back [] role next lines is f = moved_back (move_of None role) [] next lines _ (top_back role lines) is f
step_back (place ∷ below) role next lines is f = moved_back (move_of (Some place) role) below next lines _ (place_back place role below lines) is f

-- what completes the script after some lines completes it, after those lines, before them
pub run_back : (lines : List Role) (stack next : List Open) (more : List Role) → run stack lines ≡ Some next → Completes next more → Completes stack (lines ++ more)
run_back [] stack next more is f = let e : stack ≡ next = cc in subst (λ l. Completes l more) (sym e) f
run_back (role ∷ lines) stack next more is f =
    option_and_then_some (λ (between : List Open). run between lines) (step stack role) next is
    (λ between first then. step_back stack role between (lines ++ more) first (run_back lines between next more then f))

-- an `end` for each open block completes the script
unfoldable pub ends : List Open → List Role
ends [] = []
ends (place ∷ below) = End ∷ ends below

may_end : (place : Open) → MayFollow place []
may_end Fields = ([], [], [], AreFields.none, IsOptional.absent, IsOptional.absent, refl)
may_end Made = IsOptional.absent
may_end Destroyed = refl
may_end Declarations = IsBody.statements AreStatements.none
may_end Statements = AreStatements.none
may_end Branch = inl AreStatements.none
may_end Block = AreStatements.none

pub ends_complete : (stack : List Open) → Completes stack (ends stack)
unfolding ends
ends_complete [] = AreItems.none
ends_complete (place ∷ below) = ([], ends below, may_end place, refl, ends_complete below)

-- lines read in two parts
pub run-append : (lines more : List Role) (stack : List Open) → run stack (lines ++ more) ≡ option_and_then (λ next. run next more) (run stack lines)
run-append [] more stack = refl
run-append (role ∷ lines) more stack = go (λ next. run-append lines more next) (step stack role)
  where
    go : ((next : List Open) → run next (lines ++ more) ≡ option_and_then (λ last. run last more) (run next lines)) → (o : Option (List Open)) → option_and_then (λ next. run next (lines ++ more)) o ≡ option_and_then (λ next. run next more) (option_and_then (λ next. run next lines) o)
    go rest None = refl
    go rest (Some next) = rest next

record HoldsStatements (place : Open) : Type 0 where
  plain : move_of (Some place) Plain ≡ Some (Stay place)
  loop : move_of (Some place) Loop ≡ Some (Enter place Block)
  choice : move_of (Some place) If ≡ Some (Enter place Branch)

holds_statements : HoldsStatements Statements
holds_statements = record { plain = refl; loop = refl; choice = refl }

holds_block : HoldsStatements Block
holds_block = record { plain = refl; loop = refl; choice = refl }

holds_branch : HoldsStatements Branch
holds_branch = record { plain = refl; loop = refl; choice = refl }

statements_run : {lines : List Role} → AreStatements lines → (place : Open) → HoldsStatements place → (below : List Open) → run (place ∷ below) lines ≡ Some (place ∷ below)
statements_run AreStatements.none place h below = refl
statements_run (AreStatements.plain f) place h below = rw h.plain (statements_run f place h below)
statements_run (AreStatements.loop {body = body} {rest = rest} f g) place h below =
    rw h.loop (rw (run-append body (End ∷ rest)) (rw (statements_run f Block holds_block (place ∷ below)) (statements_run g place h below)))
statements_run (AreStatements.one_way {yes = body} {rest = rest} f g) place h below =
    rw h.choice (rw (run-append body (End ∷ rest)) (rw (statements_run f Branch holds_branch (place ∷ below)) (statements_run g place h below)))
statements_run (AreStatements.two_ways {yes = a} {no = b} {rest = rest} f g k) place h below =
    rw h.choice (rw (run-append a (Else ∷ (b ++ (End ∷ rest)))) (rw (statements_run f Branch holds_branch (place ∷ below)) (rw (run-append b (End ∷ rest)) (rw (statements_run g Block holds_block (place ∷ below)) (statements_run k place h below)))))

-- a body is read alike after its first statement
after_first : {lines : List Role} → AreStatements lines → (below : List Open) (rest : List Role) → run (Declarations ∷ below) (lines ++ (End ∷ rest)) ≡ run (Statements ∷ below) (lines ++ (End ∷ rest))
after_first AreStatements.none below rest = refl
after_first (AreStatements.plain f) below rest = refl
after_first (AreStatements.loop f g) below rest = refl
after_first (AreStatements.one_way f g) below rest = refl
after_first (AreStatements.two_ways f g k) below rest = refl

body_run : {lines : List Role} → IsBody lines → (below : List Open) (rest : List Role) → run (Declarations ∷ below) (lines ++ (End ∷ rest)) ≡ run below rest
body_run (IsBody.statements {body = lines} f) below rest =
    after_first f below rest ∙ rw (run-append lines (End ∷ rest)) (rw (statements_run f Statements holds_statements below) refl)
body_run (IsBody.declaration f) below rest = body_run f below rest

fields_run : {lines : List Role} → AreFields lines → (rest : List Role) → run (Fields ∷ []) (lines ++ rest) ≡ run (Fields ∷ []) rest
fields_run AreFields.none rest = refl
fields_run (AreFields.field f) rest = fields_run f rest

destroy_run : {lines : List Role} → IsOptional Destroy lines → (place : Open) → (move_of (Some place) End ≡ Some Close) → move_of (Some place) Destroy ≡ Some (Enter Destroyed Declarations) → (rest : List Role) → run (place ∷ []) (lines ++ (End ∷ rest)) ≡ run [] rest
destroy_run IsOptional.absent place ends_here destroys rest = rw ends_here refl
destroy_run (IsOptional.present {body = body} f) place ends_here destroys rest = rw destroys (rw (append_assoc body (End ∷ []) (End ∷ rest)) (body_run f (Destroyed ∷ []) (End ∷ rest)))

construct_run : {made gone : List Role} → IsOptional Construct made → IsOptional Destroy gone → (rest : List Role) → run (Fields ∷ []) (made ++ (gone ++ (End ∷ rest))) ≡ run [] rest
construct_run IsOptional.absent g rest = destroy_run g Fields refl refl rest
construct_run {gone = gone} (IsOptional.present {body = body} f) g rest = rw (append_assoc body (End ∷ []) (gone ++ (End ∷ rest))) (body_run f (Made ∷ []) (gone ++ (End ∷ rest)) ∙ destroy_run g Made refl refl rest)

pub items_run : {lines : List Role} → AreItems lines → run [] lines ≡ Some []
items_run AreItems.none = refl
items_run (AreItems.class {construct = made} {destroy = gone} {rest = rest} f c d g) = fields_run f (made ++ (gone ++ (End ∷ rest))) ∙ construct_run c d rest ∙ items_run g
items_run (AreItems.procedure {rest = rest} f g) = body_run f [] rest ∙ items_run g
