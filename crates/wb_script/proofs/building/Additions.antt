-- One more line of an open body.
use Rattle.std.proofs.Common.{◌≡◌, refl, sym, ap, subst, ◌∙◌, ℕ, suc, ◌+◌, ◌<◌, ◌≤◌, nat_le, nat_lt, ◌==◌, List, [], ◌∷◌, ◌++◌, length, map, Option, Some, None, Bool, true, false, ◌&&◌, IsTrue, append_assoc, append-nil, add-zero, length-append, arith}
use Rattle.std.proofs.lemmas.Bool.{false≢true}
use Rattle.std.specs.Prelude.{is_some}
use Rattle.std.specs.Option.{IfSome}
use Rattle.std.proofs.lemmas.List.{length-map}
use Rattle.std.specs.List.{list_all, list_any}
use Rattle.std.proofs.lemmas.List.Folds.{list_all-append}
use Rattle.std.proofs.lemmas.Bool.Decides.{nat_tests}
use Rattle.wb_basics.specs.declared.limits.TheConstants.{LARGEST_BUFFER, MOST_LOCALS, DEEPEST_BLOCK}
use Rattle.wb_tree.specs.declared.script.Condition.TheVariants.{IsNull, NotNull, Equal, Less}
use Rattle.wb_tree.specs.declared.script.Local.{Local}
use Rattle.wb_tree.specs.declared.script.StatementAt.{StatementAt}
use Rattle.wb_tree.specs.declared.script.Statement.{Statement}
use Rattle.wb_tree.specs.declared.script.Statement.TheViews.{out-Statement}
use Rattle.wb_tree.specs.declared.script_lines.ItemKind.{ItemKind}
use Rattle.wb_tree.specs.declared.script_lines.LineKind.{LineKind}
use Rattle.wb_tree.specs.declared.script_lines.LineKind.TheVariants as line_kind
use Rattle.wb_tree.specs.declared.script_lines.Referent.{Referent}
use Rattle.wb_tree.specs.declared.script_lines.Operand.{Operand}
use Rattle.wb_tree.specs.declared.script_lines.Form.TheVariants.{Line}
use Rattle.wb_tree.specs.declared.script_lines.Role.{Role}
use Rattle.wb_tree.specs.declared.script_lines.Role.TheVariants as role
use Rattle.wb_language.specs.LineKinds.{role_of}
use Rattle.wb_language.specs.Kinds.{is_trap}
use Rattle.wb_language.specs.Names.{with_one, without_last, blocks_after, item_kind_of}
use Rattle.wb_tree.specs.Sound.{Declared, is_body, is_local, is_nested, are_statements, local_of_parameter}
use Rattle.wb_language.specs.Trees.{Indexed, Marked, number_kept, local_line, local_lines, statement_lines, else_line, end_line}
use Rattle.wb_nesting.specs.declared.open.Open.{Open}
use Rattle.wb_nesting.specs.declared.open.Open.TheVariants.{Branch, Block}
use Rattle.wb_script.specs.declared.tree.blocks.Head.{Head}
use Rattle.wb_script.specs.declared.tree.blocks.Head.TheVariants as head
use Rattle.wb_script.specs.declared.tree.blocks.BlockStack.{BlockStack}
use Rattle.wb_script.specs.declared.tree.blocks.OpenBlock.{OpenBlock}
use Rattle.wb_script.specs.declared.tree.bodies.OpenBody.{OpenBody}
use Rattle.wb_script.specs.declared.tree.bodies.BodyProgress.TheVariants.{Inside, Done}
use Rattle.wb_script.specs.Building.{fits, is_due, is_small, declares, begins, local_of, begins_block, AreOpen, BecomesElse, ClosesBlock, Counts, is_head, head_line_kind, head_form, first_part, block_stack_lines, block_stack_places, place_in_block, line_kinds_of_blocks, counts_after, locals_after, procedures_after, operations_after, classes_after, this_after}
use Rattle.wb_script.specs.Growing.{Adds, IsSoundOpen, TakesLocal, TakesWhereFit, inside_lines, counts_in, scope_in_body}
use Rattle.wb_script.specs.Fitting.{operands_fit}
use Rattle.wb_nesting.specs.Machine.{step}
use Rattle.wb_script.specs.Stated.{IsOneLine}
use Rattle.wb_script.proofs.building.ClosedBlocks.{both}
use Rattle.wb_script.proofs.building.Nests.{stated_lines, entered_lines, else_lines, closed_lines, stated_open, entered_open, else_open, closed_open, in_trap-outside, line_kinds-last, without_last-last, around, places, places-block, places-stated, step-plain, step-loop, step-if, step-end, step-outer_end, step-else, late_declaration, opens}

same_block_stack : (n : BlockStack) (blocks : List OpenBlock) (statements : List StatementAt) → n.blocks ≡ blocks → n.statements ≡ statements → n ≡ record { blocks = blocks; statements = statements }
same_block_stack n blocks statements b s = ap (λ x. record { blocks = x; statements = n.statements }) b ∙ ap (λ x. record { blocks = blocks; statements = x }) s

-- a line inside a body begins no item, so that it counts locals and blocks alone
begins_none : (k : LineKind) → opens (role_of k) ≡ false → item_kind_of k ≡ None
begins_none line_kind.Class is = let clash : ⊥ = cc in absurd clash
begins_none line_kind.Proc is = let clash : ⊥ = cc in absurd clash
begins_none line_kind.Op is = let clash : ⊥ = cc in absurd clash
begins_none _ is = refl

abbrev inner_counts : Role → Indexed → Counts → Counts
inner_counts r line counts = record counts { locals = locals_after r line counts.locals; blocks = blocks_after r line counts.blocks }

-- the counts after a line, by what it begins and its role
abbrev pub counts_by : Option ItemKind → Role → Indexed → Counts → Counts
counts_by begun r line counts = record {
  classes = classes_after r counts.classes;
  procedures = procedures_after begun line counts.procedures;
  operations = operations_after begun counts.operations;
  this = this_after r counts.classes counts.this;
  locals = locals_after r line counts.locals;
  blocks = blocks_after r line counts.blocks;
}

inner_is : (r : Role) (line : Indexed) (counts : Counts) → opens r ≡ false → inner_counts r line counts ≡ counts_by None r line counts
inner_is role.Class line counts inner = let clash : ⊥ = cc in absurd clash
inner_is role.Field line counts inner = let clash : ⊥ = cc in absurd clash
inner_is role.Construct line counts inner = let clash : ⊥ = cc in absurd clash
inner_is role.Destroy line counts inner = let clash : ⊥ = cc in absurd clash
inner_is role.Procedure line counts inner = let clash : ⊥ = cc in absurd clash
inner_is _ line counts inner = refl

-- the counts after a line that begins no item, by its role
pub counts_as : (k : LineKind) (operands : List (Operand Referent)) (r : Role) (counts : Counts) → role_of k ≡ r → item_kind_of k ≡ None → counts_by None r (Line k operands) counts ≡ counts_after counts (Line k operands)
counts_as k operands r counts is none =
    let line : Indexed = Line k operands in
    ap (λ q. counts_by None q line counts) (sym is) ∙ ap (λ i. counts_by i (role_of k) line counts) (sym none)

same_counts : (k : LineKind) (operands : List (Operand Referent)) (r : Role) (counts : Counts) → role_of k ≡ r → opens r ≡ false → inner_counts r (Line k operands) counts ≡ counts_after counts (Line k operands)
same_counts k operands r counts is inner = inner_is r (Line k operands) counts inner ∙ counts_as k operands r counts is (begins_none k (ap opens is ∙ inner))

-- a line that adds to what is in the blocks
following : (p : OpenBody) (block_stack : BlockStack) (line : Marked) → block_stack_lines block_stack ≡ block_stack_lines p.block_stack ++ line ∷ [] → local_lines (length p.parameters) p.locals ++ block_stack_lines block_stack ≡ inside_lines p ++ line ∷ []
following p block_stack line is =
    ap (λ l. local_lines (length p.parameters) p.locals ++ l) is
    ∙ sym (append_assoc (local_lines (length p.parameters) p.locals) (block_stack_lines p.block_stack) (line ∷ []))

with_sound : (declared : Declared) (p : OpenBody) (block_stack : BlockStack) → IsSoundOpen declared p → AreOpen declared (scope_in_body declared p) (suc DEEPEST_BLOCK) false block_stack.blocks block_stack.statements → IsSoundOpen declared (record p { block_stack = block_stack })
with_sound declared p block_stack sound is = record {
  scope = sound.scope;
  locals = sound.locals;
  most = sound.most;
  block_stack = is;
}

pub stated_adds : (declared : Declared) (number : ℕ) (p : OpenBody) (k : LineKind) (operands : List (Operand Referent)) (s : Statement) → IsSoundOpen declared p → role_of k ≡ role.Plain →
    IsOneLine declared (scope_in_body declared p) (list_any is_trap (line_kinds_of_blocks p.block_stack.blocks)) k operands s →
    Adds declared number (Line k operands) p (Inside (record p { block_stack = record { blocks = p.block_stack.blocks; statements = p.block_stack.statements ++ (record { line = number; statement = s }) ∷ [] } }))
stated_adds declared number p k operands s sound is one =
    let numbered : StatementAt = record { line = number; statement = s } in
    let block_stack : BlockStack = record { blocks = p.block_stack.blocks; statements = p.block_stack.statements ++ numbered ∷ [] } in
    record {
      lines =
          following p block_stack (Some number, Line k operands) (stated_lines p.block_stack.blocks p.block_stack.statements numbered ∙ ap (λ l. block_stack_lines p.block_stack ++ l) (one.lines number))
          ∙ ap (λ r. inside_lines p ++ (number_kept r number, Line k operands) ∷ []) (sym is);
      same = (refl, refl);
      sound = with_sound declared p block_stack sound (stated_open declared (scope_in_body declared p) (suc DEEPEST_BLOCK) false p.block_stack.blocks p.block_stack.statements numbered sound.block_stack
          (λ inside. subst (λ t. IsTrue (is_nested declared (scope_in_body declared p) t inside (out-Statement s))) (sym (in_trap-outside p.block_stack.blocks)) (one.sound inside)));
      counts = λ before. same_counts k operands role.Plain (counts_in before p) is refl;
      places = ap (step (block_stack_places p.block_stack)) is ∙ step-plain p.block_stack.blocks p.block_stack.statements ∙ ap Some (sym (places-stated p.block_stack.blocks p.block_stack.statements numbered));
    }

-- a block's first line
module _ (declared : Declared) (number : ℕ) (p : OpenBody) (k : LineKind) (operands : List (Operand Referent)) (h : Head) where
  abbrev begun : OpenBlock
  begun = record { before = p.block_stack.statements; line = number; head = h }

  abbrev within : BlockStack
  within = record { blocks = p.block_stack.blocks ++ begun ∷ []; statements = [] }

  entered_as : (r : Role) (place : Open) → IsSoundOpen declared p → length p.block_stack.blocks < DEEPEST_BLOCK → head_form h ≡ Line k operands → head_line_kind h ≡ k → first_part h ≡ [] →
      ((depth : ℕ) (trapped : Bool) → IsTrue (is_head declared (scope_in_body declared p) depth trapped h)) → role_of k ≡ r → place_in_block begun ≡ place → number_kept r number ≡ Some number →
      opens r ≡ false → ((counts : Counts) → inner_counts r (Line k operands) counts ≡ record counts { blocks = counts.blocks ++ k ∷ [] }) →
      step (block_stack_places p.block_stack) r ≡ Some (place ∷ around p.block_stack.blocks) →
      Adds declared number (Line k operands) p (Inside (record p { block_stack = within }))
  entered_as r place sound room line line_kind_is first head_sound is at kept inner counted moved = record {
    lines =
        following p within (Some number, Line k operands)
        (entered_lines p.block_stack.blocks p.block_stack.statements number h ∙ ap (λ l. block_stack_lines p.block_stack ++ (Some number, head_form h) ∷ l) first ∙ ap (λ l. block_stack_lines p.block_stack ++ (Some number, l) ∷ []) line)
        ∙ ap (λ n. inside_lines p ++ (n, Line k operands) ∷ []) (sym kept) ∙ ap (λ q. inside_lines p ++ (number_kept q number, Line k operands) ∷ []) (sym is);
    same = (refl, refl);
    sound = with_sound declared p within sound (entered_open declared (scope_in_body declared p) (suc DEEPEST_BLOCK) false p.block_stack.blocks p.block_stack.statements number h sound.block_stack (omega (arith, room)) head_sound);
    counts = λ before.
        ap (λ l. record before { this = p.this; locals = p.scope; blocks = l }) (line_kinds-last p.block_stack.blocks begun ∙ ap (λ l. line_kinds_of_blocks p.block_stack.blocks ++ l ∷ []) line_kind_is)
        ∙ sym (counted (counts_in before p)) ∙ same_counts k operands r (counts_in before p) is inner;
    places = ap (step (block_stack_places p.block_stack)) is ∙ moved ∙ ap (λ l. Some (l ∷ around p.block_stack.blocks)) (sym at) ∙ ap Some (sym (places-block p.block_stack.blocks begun []));
  }

not_empty : {X : Type 0} (l : List X) (x : X) → l ++ x ∷ [] ≡ [] → ⊥
not_empty [] x e = let clash : ⊥ = cc in clash
not_empty (y ∷ l) x e = let clash : ⊥ = cc in clash

pub entered_adds : (declared : Declared) (number : ℕ) (p : OpenBody) (k : LineKind) (operands : List (Operand Referent)) (h : Head) → IsSoundOpen declared p → length p.block_stack.blocks < DEEPEST_BLOCK → head_form h ≡ Line k operands → head_line_kind h ≡ k → first_part h ≡ [] →
    ((depth : ℕ) (trapped : Bool) → IsTrue (is_head declared (scope_in_body declared p) depth trapped h)) →
    Adds declared number (Line k operands) p (Inside (record p { block_stack = record { blocks = p.block_stack.blocks ++ (record { before = p.block_stack.statements; line = number; head = h }) ∷ []; statements = [] } }))
entered_adds declared number p k operands (head.If (IsNull q)) sound room line line_kind_is first head_sound =
    entered_as declared number p k operands (head.If (IsNull q)) role.If Branch sound room line line_kind_is first head_sound (ap role_of (sym line_kind_is)) refl refl refl (λ c. refl) (step-if p.block_stack.blocks p.block_stack.statements)
entered_adds declared number p k operands (head.If (NotNull q)) sound room line line_kind_is first head_sound =
    entered_as declared number p k operands (head.If (NotNull q)) role.If Branch sound room line line_kind_is first head_sound (ap role_of (sym line_kind_is)) refl refl refl (λ c. refl) (step-if p.block_stack.blocks p.block_stack.statements)
entered_adds declared number p k operands (head.If (Equal v w)) sound room line line_kind_is first head_sound =
    entered_as declared number p k operands (head.If (Equal v w)) role.If Branch sound room line line_kind_is first head_sound (ap role_of (sym line_kind_is)) refl refl refl (λ c. refl) (step-if p.block_stack.blocks p.block_stack.statements)
entered_adds declared number p k operands (head.If (Less v w)) sound room line line_kind_is first head_sound =
    entered_as declared number p k operands (head.If (Less v w)) role.If Branch sound room line line_kind_is first head_sound (ap role_of (sym line_kind_is)) refl refl refl (λ c. refl) (step-if p.block_stack.blocks p.block_stack.statements)
entered_adds declared number p k operands (head.Else c part) sound room line line_kind_is first head_sound = absurd (not_empty (statement_lines part) else_line first)
entered_adds declared number p k operands (head.Repeat v) sound room line line_kind_is first head_sound =
    entered_as declared number p k operands (head.Repeat v) role.Loop Block sound room line line_kind_is first head_sound (ap role_of (sym line_kind_is)) refl refl refl (λ c. refl) (step-loop p.block_stack.blocks p.block_stack.statements)
entered_adds declared number p k operands (head.Trap x) sound room line line_kind_is first head_sound =
    entered_as declared number p k operands (head.Trap x) role.Loop Block sound room line line_kind_is first head_sound (ap role_of (sym line_kind_is)) refl refl refl (λ c. refl) (step-loop p.block_stack.blocks p.block_stack.statements)

-- an `else`
pub else_adds : (declared : Declared) (number : ℕ) (p : OpenBody) (next : BlockStack) → IsSoundOpen declared p → BecomesElse p.block_stack next → Adds declared number (Line line_kind.Else []) p (Inside (record p { block_stack = next }))
else_adds declared number p next sound turn =
    let from : OpenBlock = record { before = turn.before; line = turn.line; head = head.If turn.condition } in
    let to : OpenBlock = record { before = turn.before; line = turn.line; head = head.Else turn.condition p.block_stack.statements } in
    let old : p.block_stack ≡ record { blocks = turn.below ++ from ∷ []; statements = p.block_stack.statements } = same_block_stack p.block_stack (turn.below ++ from ∷ []) p.block_stack.statements turn.blocks refl in
    let new : next ≡ record { blocks = turn.below ++ to ∷ []; statements = [] } = same_block_stack next (turn.below ++ to ∷ []) [] turn.next_blocks turn.statements in
    record {
      lines = following p next else_line
          (ap block_stack_lines new ∙ else_lines turn.below turn.before p.block_stack.statements turn.line turn.condition ∙ ap (λ n. block_stack_lines n ++ else_line ∷ []) (sym old));
      same = (refl, refl);
      sound = with_sound declared p next sound
          (subst (λ n. AreOpen declared (scope_in_body declared p) (suc DEEPEST_BLOCK) false n.blocks n.statements) (sym new)
          (else_open declared (scope_in_body declared p) (suc DEEPEST_BLOCK) false turn.below turn.before p.block_stack.statements turn.line turn.condition
          (subst (λ n. AreOpen declared (scope_in_body declared p) (suc DEEPEST_BLOCK) false n.blocks n.statements) old sound.block_stack)));
      counts = λ before.
          ap (λ l. record before { this = p.this; locals = p.scope; blocks = l })
          (ap line_kinds_of_blocks turn.next_blocks ∙ line_kinds-last turn.below to ∙ sym (line_kinds-last turn.below from) ∙ ap line_kinds_of_blocks (sym turn.blocks));
      places =
          ap (λ n. step (block_stack_places n) role.Else) old
          ∙ step-else turn.below turn.before p.block_stack.statements turn.line turn.condition
          ∙ ap Some (sym (places-block turn.below to [])) ∙ ap (λ n. Some (block_stack_places n)) (sym new);
    }

-- the end of a block
pub closed_adds : (declared : Declared) (number : ℕ) (p : OpenBody) (next : BlockStack) → IsSoundOpen declared p → ClosesBlock p.block_stack next → Adds declared number (Line line_kind.End []) p (Inside (record p { block_stack = next }))
closed_adds declared number p next sound closes =
    let b : OpenBlock = closes.block in
    let one : StatementAt = record { line = b.line; statement = closes.statement } in
    let old : p.block_stack ≡ record { blocks = next.blocks ++ b ∷ []; statements = p.block_stack.statements } = same_block_stack p.block_stack (next.blocks ++ b ∷ []) p.block_stack.statements closes.blocks refl in
    let new : next ≡ record { blocks = next.blocks; statements = b.before ++ one ∷ [] } = same_block_stack next next.blocks (b.before ++ one ∷ []) refl closes.statements in
    record {
      lines = following p next end_line
          (ap block_stack_lines new ∙ closed_lines next.blocks b p.block_stack.statements closes.statement closes.whole ∙ ap (λ n. block_stack_lines n ++ end_line ∷ []) (sym old));
      same = (refl, refl);
      sound = with_sound declared p next sound
          (subst (λ n. AreOpen declared (scope_in_body declared p) (suc DEEPEST_BLOCK) false n.blocks n.statements) (sym new)
          (closed_open declared (scope_in_body declared p) (suc DEEPEST_BLOCK) false next.blocks b p.block_stack.statements closes.statement closes.whole
          (subst (λ n. AreOpen declared (scope_in_body declared p) (suc DEEPEST_BLOCK) false n.blocks n.statements) old sound.block_stack)));
      counts = λ before.
          ap (λ l. record before { this = p.this; locals = p.scope; blocks = l })
          (sym (ap without_last (ap line_kinds_of_blocks closes.blocks ∙ line_kinds-last next.blocks b) ∙ without_last-last (line_kinds_of_blocks next.blocks) (head_line_kind b.head)));
      places =
          ap (λ n. step (block_stack_places n) role.End) old
          ∙ step-end next.blocks b p.block_stack.statements
          ∙ ap Some (sym (places-stated next.blocks b.before one)) ∙ ap (λ n. Some (block_stack_places n)) (sym new);
    }

nothing : {X : Type 0} (l : List X) → true ≡ (length l == 0) → l ≡ []
nothing [] e = refl
nothing (x ∷ l) e = absurd (some (length l) e)
  where
    some : (n : ℕ) → true ≡ (suc n == 0) → ⊥
    some n e = grind (arith, nat_tests)

-- no local comes after a block, after a statement, or past the limit
pub late_by_block : (p : OpenBody) → 0 < length p.block_stack.blocks → step (block_stack_places p.block_stack) role.Declaration ≡ None
late_by_block p lt = late_declaration p.block_stack.blocks p.block_stack.statements lt

pub late_by_statement : (p : OpenBody) → 0 < length p.block_stack.statements → step (block_stack_places p.block_stack) role.Declaration ≡ None
late_by_statement p lt = on p.block_stack.blocks p.block_stack.statements lt
  where
    on : (blocks : List OpenBlock) (statements : List StatementAt) → 0 < length statements → step (places blocks statements) role.Declaration ≡ None
    on [] [] lt = absurd (omega arith)
    on [] (s ∷ statements) lt = refl
    on (b ∷ blocks) statements lt = late_declaration (b ∷ blocks) statements (omega arith)

second : (a b : Bool) → IsTrue (a && b) → IsTrue b
second true b is = is
second false b is = let clash : ⊥ = cc in absurd clash

first : (a b : Bool) → IsTrue (a && b) → IsTrue a
first true b is = refl
first false b is = is

below_of : (a b : ℕ) → nat_lt a b ≡ true → a < b
below_of a b is = grind (arith, nat_tests)

pub late_by_room : {X : Type 0} (declared : Declared) (p : OpenBody) (k : LineKind) (operands : List (Operand Referent)) (before : Counts) → role_of k ≡ role.Declaration → MOST_LOCALS ≤ length p.scope → IsTrue (fits declared (counts_in before p) (Line k operands)) → X
late_by_room declared p k operands before is full fit =
    let due : IsTrue (is_due (role_of k) (counts_in before p) (Line k operands) operands) = first _ _ (second (operands_fit declared (scope_in_body declared p) k operands) _ fit) in
    let there : IsTrue (is_due role.Declaration (counts_in before p) (Line k operands) operands) = subst (λ r. IsTrue (is_due r (counts_in before p) (Line k operands) operands)) is due in
    let room : IsTrue (nat_lt (length p.scope) MOST_LOCALS) = first _ _ (second (declares (length p.scope) operands) _ there) in
    absurd (omega (arith, full, below_of (length p.scope) MOST_LOCALS room))

pub late_by_depth : {X : Type 0} (declared : Declared) (p : OpenBody) (k : LineKind) (operands : List (Operand Referent)) (before : Counts) → IsTrue (begins_block k) → DEEPEST_BLOCK ≤ length p.block_stack.blocks → IsTrue (fits declared (counts_in before p) (Line k operands)) → X
late_by_depth declared p k operands before begins_it full fit =
    let due : IsTrue (is_due (role_of k) (counts_in before p) (Line k operands) operands) = first _ _ (second (operands_fit declared (scope_in_body declared p) k operands) _ fit) in
    let room : IsTrue (nat_lt (length (line_kinds_of_blocks p.block_stack.blocks)) DEEPEST_BLOCK) = of_role (role_of k) begins_it due in
    absurd (omega (arith, full, below_of (length (line_kinds_of_blocks p.block_stack.blocks)) DEEPEST_BLOCK room, length-map p.block_stack.blocks (λ b. head_line_kind b.head)))
  where
    of_role : (r : Role) → IsTrue (begins r) → IsTrue (is_due r (counts_in before p) (Line k operands) operands) → IsTrue (nat_lt (length (line_kinds_of_blocks p.block_stack.blocks)) DEEPEST_BLOCK)
    of_role role.Loop is due = due
    of_role role.If is due = due
    of_role _ is due = absurd (false≢true is)

within_test : (a b : ℕ) → a ≤ b → nat_le a b ≡ true
within_test a b le = grind (arith, nat_tests)

-- the end of a body
pub done_adds : (declared : Declared) (number : ℕ) (p : OpenBody) (statements : List StatementAt) → IsSoundOpen declared p → p.block_stack.blocks ≡ [] → statements ≡ p.block_stack.statements →
    Adds declared number (Line line_kind.End []) p (Done p.parameters (record { locals = p.locals; statements = statements }))
done_adds declared number p statements sound outside same =
    let old : p.block_stack ≡ record { blocks = []; statements = statements } = same_block_stack p.block_stack [] statements outside (sym same) in
    let classes = length declared.fields in
    let whole : IsTrue (are_statements declared (scope_in_body declared p) statements) = subst (λ n. AreOpen declared (scope_in_body declared p) (suc DEEPEST_BLOCK) false n.blocks n.statements) old sound.block_stack in
    record {
      lines = ap (λ n. (local_lines (length p.parameters) p.locals ++ block_stack_lines n) ++ end_line ∷ []) (sym old);
      same = refl;
      sound =
          subst (λ l. IsTrue (is_body declared (record { locals = l; this = p.this; fields = declared.fields }) statements)) sound.scope
          (both (list_all (is_local classes) p.scope && nat_le (length p.scope) MOST_LOCALS) (are_statements declared (scope_in_body declared p) statements)
          (both (list_all (is_local classes) p.scope) (nat_le (length p.scope) MOST_LOCALS) sound.locals (within_test (length p.scope) MOST_LOCALS sound.most)) whole);
      counts = λ before.
          ap (λ l. record before { this = p.this; locals = l; blocks = [] }) (sym sound.scope)
          ∙ ap (λ n. record before { this = p.this; locals = p.scope; blocks = without_last (line_kinds_of_blocks n.blocks) }) (sym old);
      places = ap (λ n. step (block_stack_places n) role.End) old ∙ step-outer_end statements;
    }

local_lines-last : (index : ℕ) (locals : List Local) (local : Local) → local_lines index (locals ++ local ∷ []) ≡ local_lines index locals ++ (None, local_line (index + length locals) local) ∷ []
local_lines-last index [] local = ap (λ i. (None, local_line i local) ∷ []) (sym (add-zero index))
local_lines-last index (l ∷ ls) local =
    let same : suc index + length ls ≡ index + suc (length ls) = omega arith in
    ap (λ lines. (None, local_line index l) ∷ lines) (local_lines-last (suc index) ls local ∙ ap (λ i. local_lines (suc index) ls ++ (None, local_line i local) ∷ []) same)

-- a local
pub declared_adds : (declared : Declared) (number : ℕ) (p : OpenBody) (k : LineKind) (operands : List (Operand Referent)) (local : Local) → IsSoundOpen declared p → role_of k ≡ role.Declaration → TakesLocal declared p k operands local →
    Adds declared number (Line k operands) p (Inside (record p { locals = p.locals ++ local ∷ []; scope = p.scope ++ local ∷ [] }))
declared_adds declared number p k operands local sound is takes =
    let old : p.block_stack ≡ record { blocks = []; statements = [] } = same_block_stack p.block_stack [] [] takes.outside takes.first in
    let index : length p.parameters + length p.locals ≡ length p.scope = sym (ap length sound.scope ∙ length-append (map local_of_parameter p.parameters) p.locals ∙ ap (λ n. n + length p.locals) (length-map p.parameters local_of_parameter)) in
    let front : List Marked = local_lines (length p.parameters) p.locals in
    let classes = length declared.fields in
    record {
      lines =
          ap (λ n. local_lines (length p.parameters) (p.locals ++ local ∷ []) ++ block_stack_lines n) old
          ∙ append-nil (local_lines (length p.parameters) (p.locals ++ local ∷ []))
          ∙ local_lines-last (length p.parameters) p.locals local
          ∙ ap (λ i. front ++ (None, local_line i local) ∷ []) index
          ∙ ap (λ l. front ++ (None, l) ∷ []) takes.line
          ∙ ap (λ l. l ++ (None, Line k operands) ∷ []) (sym (append-nil front))
          ∙ ap (λ n. (front ++ block_stack_lines n) ++ (None, Line k operands) ∷ []) (sym old)
          ∙ ap (λ r. inside_lines p ++ (number_kept r number, Line k operands) ∷ []) (sym is);
      same = (refl, refl);
      sound = record {
        scope = ap (λ l. l ++ local ∷ []) sound.scope ∙ append_assoc (map local_of_parameter p.parameters) p.locals (local ∷ []);
        locals = list_all-append (is_local classes) p.scope (local ∷ []) ∙ both (list_all (is_local classes) p.scope) (list_all (is_local classes) (local ∷ [])) sound.locals (both (is_local classes local) true takes.sound refl);
        most = omega (arith, length-append p.scope (local ∷ []), takes.room);
        block_stack = subst (λ n. AreOpen declared (record { locals = p.scope ++ local ∷ []; this = p.this; fields = declared.fields }) (suc DEEPEST_BLOCK) false n.blocks n.statements) (sym old) refl;
      };
      counts = λ before.
          ap (λ l. record before { this = p.this; locals = with_one p.scope l; blocks = line_kinds_of_blocks p.block_stack.blocks }) (sym takes.declared_as)
          ∙ same_counts k operands role.Declaration (counts_in before p) is refl;
      places = ap (step (block_stack_places p.block_stack)) is ∙ ap (λ n. step (block_stack_places n) role.Declaration) old ∙ ap (λ n. Some (block_stack_places n)) (sym old);
    }

-- the same, of lines that have no operands
pub else_adds_where : (declared : Declared) (number : ℕ) (p : OpenBody) (operands : List (Operand Referent)) (next : BlockStack) → true ≡ (length operands == 0) → IsSoundOpen declared p → BecomesElse p.block_stack next → Adds declared number (Line line_kind.Else operands) p (Inside (record p { block_stack = next }))
else_adds_where declared number p operands next empty sound turn = subst (λ o. Adds declared number (Line line_kind.Else o) p (Inside (record p { block_stack = next }))) (sym (nothing operands empty)) (else_adds declared number p next sound turn)

pub closed_adds_where : (declared : Declared) (number : ℕ) (p : OpenBody) (operands : List (Operand Referent)) (next : BlockStack) → true ≡ (length operands == 0) → IsSoundOpen declared p → ClosesBlock p.block_stack next → Adds declared number (Line line_kind.End operands) p (Inside (record p { block_stack = next }))
closed_adds_where declared number p operands next empty sound closes = subst (λ o. Adds declared number (Line line_kind.End o) p (Inside (record p { block_stack = next }))) (sym (nothing operands empty)) (closed_adds declared number p next sound closes)

pub done_adds_where : (declared : Declared) (number : ℕ) (p : OpenBody) (operands : List (Operand Referent)) (statements : List StatementAt) → true ≡ (length operands == 0) → IsSoundOpen declared p → p.block_stack.blocks ≡ [] → statements ≡ p.block_stack.statements →
    Adds declared number (Line line_kind.End operands) p (Done p.parameters (record { locals = p.locals; statements = statements }))
done_adds_where declared number p operands statements empty sound outside same =
    subst (λ o. Adds declared number (Line line_kind.End o) p (Done p.parameters (record { locals = p.locals; statements = statements }))) (sym (nothing operands empty)) (done_adds declared number p statements sound outside same)

none_of : {X : Type 0} (l : List X) → length l ≤ 0 → l ≡ []
none_of [] le = refl
none_of (x ∷ l) le = absurd (omega arith)

-- what a line declares as the next local, by the index of it and how many fields each class has
pub takes_local : (declared : Declared) (p : OpenBody) (k : LineKind) (operands : List (Operand Referent)) (index : ℕ) (fields : List ℕ) (found : Option Local) → index ≡ length p.scope → fields ≡ declared.fields →
    length p.block_stack.blocks ≤ 0 → length p.block_stack.statements ≤ 0 → length p.scope < MOST_LOCALS → role_of k ≡ role.Declaration →
    IfSome found (λ l. local_line index l ≡ Line k operands) → IfSome found (λ l. local_of k operands ≡ Some l) → IfSome found (λ l. IsTrue (is_local (length fields) l)) →
    (IsTrue (operands_fit declared (scope_in_body declared p) k operands) → IsTrue (declares index operands) → IsTrue (is_small LARGEST_BUFFER operands) → IsTrue (is_some found)) →
    TakesWhereFit declared p k operands found
takes_local declared p k operands index fields (Some l) next counted blocks statements room is line told sound some = record {
  outside = none_of p.block_stack.blocks blocks;
  first = none_of p.block_stack.statements statements;
  line = ap (λ n. local_line n l) (sym next) ∙ line;
  declared_as = told;
  sound = subst (λ (f : List ℕ). IsTrue (is_local (length f) l)) counted sound;
  room = room;
}
takes_local declared p k operands index fields None next counted blocks statements room is line told sound some = λ before fit.
    let here = counts_in before p in
    let rest = second (operands_fit declared (scope_in_body declared p) k operands) _ fit in
    let due : IsTrue (is_due role.Declaration here (Line k operands) operands) = subst (λ r. IsTrue (is_due r here (Line k operands) operands)) is (first _ _ rest) in
    let named = subst (λ n. IsTrue (declares n operands)) (sym next) (first (declares (length p.scope) operands) _ due) in
    let small = second (nat_lt (length p.scope) MOST_LOCALS) (is_small LARGEST_BUFFER operands) (second (declares (length p.scope) operands) _ due) in
    let clash : false ≡ true = some (first (operands_fit declared (scope_in_body declared p) k operands) _ fit) named small in
    absurd cc
