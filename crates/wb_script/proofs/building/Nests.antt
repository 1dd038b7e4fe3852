-- Blocks inside one another, with one more statement, block, `else` or end.
use Rattle.std.proofs.Common.{◌≡◌, refl, sym, ap, subst, ◌∙◌, ℕ, zero, suc, ◌-◌, ◌<◌, List, [], ◌∷◌, ◌++◌, length, take, get_or, Some, None, Bool, true, false, IsTrue, append_assoc, append-nil, length-append, arith}
use Rattle.std.specs.Prelude.{◌||◌, fold}
use Rattle.std.specs.List.{flat_map, list_all, list_any}
use Rattle.std.proofs.lemmas.Grind.{flat_map-append, fold-append}
use Rattle.std.proofs.lemmas.List.{map-append}
use Rattle.std.proofs.lemmas.List.Folds.{list_all-append}
use Rattle.wb_tree.specs.declared.script.Condition.{Condition}
use Rattle.wb_tree.specs.declared.script.StatementAt.{StatementAt}
use Rattle.wb_tree.specs.declared.script.Statement.{Statement}
use Rattle.wb_tree.specs.declared.script.Statement.TheViews.{out-Statement}
use Rattle.wb_tree.specs.declared.script_lines.Role.{Role}
use Rattle.wb_tree.specs.declared.script_lines.Role.TheVariants as role
use Rattle.wb_language.specs.Kinds.{is_trap}
use Rattle.wb_language.specs.Names.{without_last}
use Rattle.wb_tree.specs.Sound.{Declared, Scope, is_condition, is_nested, are_within}
use Rattle.wb_language.specs.Trees.{Marked, condition_line, statement_at_lines, statement_lines, else_line, end_line}
use Rattle.wb_nesting.specs.declared.open.Open.{Open}
use Rattle.wb_nesting.specs.declared.open.Open.TheVariants.{Declarations, Statements, Branch, Block}
use Rattle.wb_script.specs.declared.tree.blocks.Head.{Head}
use Rattle.wb_script.specs.declared.tree.blocks.Head.TheVariants as head
use Rattle.wb_script.specs.declared.tree.blocks.OpenBlock.{OpenBlock}
use Rattle.wb_script.specs.Building.{AreOpen, IsWhole, in_trap, is_head, head_line_kind, head_lines, block_lines, block_stack_lines, block_stack_places, place_in_block, place_in_body, line_kinds_of_blocks}
use Rattle.wb_nesting.specs.Machine.{step}
use Rattle.wb_script.proofs.building.ClosedBlocks.{both, no_trap}

module _ {X : Type 0} where
  pub flat_map-last : {Y : Type 0} (f : X → List Y) (xs : List X) (x : X) → flat_map f (xs ++ x ∷ []) ≡ flat_map f xs ++ f x
  flat_map-last f xs x = flat_map-append f xs (x ∷ []) ∙ ap (λ l. flat_map f xs ++ l) (append-nil (f x))

  last_of : (x : X) (xs : List X) → (ys : List X) × (y : X) × (x ∷ xs ≡ ys ++ y ∷ [])
  last_of x [] = ([], x, refl)
  last_of x (z ∷ zs) = (x ∷ (last_of z zs).0, (last_of z zs).1, ap (λ l. x ∷ l) (last_of z zs).2)

  pub without_last-last : (xs : List X) (x : X) → without_last (xs ++ x ∷ []) ≡ xs
  without_last-last xs x =
      let same : length (xs ++ x ∷ []) - 1 ≡ length xs = omega (arith, length-append xs (x ∷ [])) in
      ap (λ n. take n (xs ++ x ∷ [])) same ∙ take_front xs (x ∷ [])
    where
      take_front : (ys zs : List X) → take (length ys) (ys ++ zs) ≡ ys
      take_front [] zs = refl
      take_front (y ∷ ys) zs = ap (λ l. y ∷ l) (take_front ys zs)

-- lines
pub stated_lines : (blocks : List OpenBlock) (statements : List StatementAt) (s : StatementAt) → block_stack_lines (record { blocks = blocks; statements = statements ++ s ∷ [] }) ≡ block_stack_lines (record { blocks = blocks; statements = statements }) ++ statement_at_lines s
stated_lines blocks statements s =
    ap (λ l. flat_map block_lines blocks ++ l) (flat_map-last statement_at_lines statements s)
    ∙ sym (append_assoc (flat_map block_lines blocks) (statement_lines statements) (statement_at_lines s))

pub entered_lines : (blocks : List OpenBlock) (statements : List StatementAt) (n : ℕ) (h : Head) → block_stack_lines (record { blocks = blocks ++ (record { before = statements; line = n; head = h }) ∷ []; statements = [] }) ≡ block_stack_lines (record { blocks = blocks; statements = statements }) ++ head_lines n h
entered_lines blocks statements n h =
    append-nil (flat_map block_lines (blocks ++ (record { before = statements; line = n; head = h }) ∷ []))
    ∙ flat_map-last block_lines blocks (record { before = statements; line = n; head = h })
    ∙ sym (append_assoc (flat_map block_lines blocks) (statement_lines statements) (head_lines n h))

pub else_lines : (below : List OpenBlock) (before statements : List StatementAt) (n : ℕ) (c : Condition) →
    block_stack_lines (record { blocks = below ++ (record { before = before; line = n; head = head.Else c statements }) ∷ []; statements = [] })
    ≡ block_stack_lines (record { blocks = below ++ (record { before = before; line = n; head = head.If c }) ∷ []; statements = statements }) ++ else_line ∷ []
else_lines below before statements n c =
    let first : List Marked = (Some n, condition_line c) ∷ [] in
    let front : List Marked = block_stack_lines (record { blocks = below; statements = before }) in
    entered_lines below before n (head.Else c statements)
    ∙ sym (append_assoc front (first ++ statement_lines statements) (else_line ∷ []))
    ∙ ap (λ l. l ++ else_line ∷ []) (sym (append_assoc front first (statement_lines statements)))
    ∙ ap (λ l. (l ++ statement_lines statements) ++ else_line ∷ []) (sym (entered_lines below before n (head.If c)) ∙ append-nil (flat_map block_lines (below ++ (record { before = before; line = n; head = head.If c }) ∷ [])))

pub closed_lines : (below : List OpenBlock) (b : OpenBlock) (statements : List StatementAt) (s : Statement) → IsWhole b.head statements s →
    block_stack_lines (record { blocks = below; statements = b.before ++ (record { line = b.line; statement = s }) ∷ [] })
    ≡ block_stack_lines (record { blocks = below ++ b ∷ []; statements = statements }) ++ end_line ∷ []
closed_lines below b statements s whole =
    let front : List Marked = block_stack_lines (record { blocks = below; statements = b.before }) in
    stated_lines below b.before (record { line = b.line; statement = s })
    ∙ ap (λ l. front ++ l) (whole.lines b.line)
    ∙ sym (append_assoc front (head_lines b.line b.head) (statement_lines statements ++ end_line ∷ []))
    ∙ ap (λ l. l ++ (statement_lines statements ++ end_line ∷ [])) (sym (entered_lines below b.before b.line b.head) ∙ append-nil (flat_map block_lines (below ++ b ∷ [])))
    ∙ sym (append_assoc (flat_map block_lines (below ++ b ∷ [])) (statement_lines statements) (end_line ∷ []))

-- what is sound
module _ (declared : Declared) (scope : Scope) where
  within_one : (depth : ℕ) (trapped : Bool) (statements : List StatementAt) (s : StatementAt) → IsTrue (are_within declared scope (suc depth) trapped statements) → IsTrue (is_nested declared scope trapped (are_within declared scope depth) (out-Statement s.statement)) →
      IsTrue (are_within declared scope (suc depth) trapped (statements ++ s ∷ []))
  within_one depth trapped statements s before sound =
      let one : StatementAt → Bool = λ t. is_nested declared scope trapped (are_within declared scope depth) (out-Statement t.statement) in
      list_all-append one statements (s ∷ []) ∙ both (list_all one statements) (list_all one (s ∷ [])) before (both (one s) true sound refl)

  pub stated_open : (depth : ℕ) (trapped : Bool) (blocks : List OpenBlock) (statements : List StatementAt) (s : StatementAt) → AreOpen declared scope depth trapped blocks statements →
      ((inside : Bool → List StatementAt → Bool) → IsTrue (is_nested declared scope (in_trap trapped blocks) inside (out-Statement s.statement))) →
      AreOpen declared scope depth trapped blocks (statements ++ s ∷ [])
  stated_open zero trapped [] statements s before sound = let clash : ⊥ = cc in absurd clash
  stated_open (suc depth) trapped [] statements s before sound = within_one depth trapped statements s before (sound (are_within declared scope depth))
  stated_open zero trapped (b ∷ blocks) statements s before sound = absurd before
  stated_open (suc depth) trapped (b ∷ blocks) statements s before sound = (before.0, before.1, stated_open depth (trapped || is_trap (head_line_kind b.head)) blocks statements s before.2 sound)

  pub entered_open : (depth : ℕ) (trapped : Bool) (blocks : List OpenBlock) (statements : List StatementAt) (n : ℕ) (h : Head) → AreOpen declared scope depth trapped blocks statements → suc (length blocks) < depth →
      ((deep : ℕ) (inner : Bool) → IsTrue (is_head declared scope deep inner h)) → AreOpen declared scope depth trapped (blocks ++ (record { before = statements; line = n; head = h }) ∷ []) []
  entered_open zero trapped blocks statements n h before lt sound = absurd (omega arith)
  entered_open (suc zero) trapped [] statements n h before lt sound = absurd (omega arith)
  entered_open (suc (suc depth)) trapped [] statements n h before lt sound = (before, sound (suc depth) trapped, refl)
  entered_open (suc depth) trapped (b ∷ blocks) statements n h before lt sound = (before.0, before.1, entered_open depth (trapped || is_trap (head_line_kind b.head)) blocks statements n h before.2 (omega arith) sound)

  pub else_open : (depth : ℕ) (trapped : Bool) (below : List OpenBlock) (before statements : List StatementAt) (n : ℕ) (c : Condition) →
      AreOpen declared scope depth trapped (below ++ (record { before = before; line = n; head = head.If c }) ∷ []) statements →
      AreOpen declared scope depth trapped (below ++ (record { before = before; line = n; head = head.Else c statements }) ∷ []) []
  else_open zero trapped [] before statements n c is = absurd is
  else_open (suc zero) trapped [] before statements n c is = let clash : ⊥ = cc (is.2) in absurd clash
  else_open (suc (suc depth)) trapped [] before statements n c is =
      (is.0, both (is_condition scope c) (are_within declared scope (suc depth) trapped statements) is.1 (subst (λ t. IsTrue (are_within declared scope (suc depth) t statements)) (no_trap trapped c) is.2), refl)
  else_open zero trapped (b ∷ below) before statements n c is = absurd is
  else_open (suc depth) trapped (b ∷ below) before statements n c is = (is.0, is.1, else_open depth (trapped || is_trap (head_line_kind b.head)) below before statements n c is.2)

  pub closed_open : (depth : ℕ) (trapped : Bool) (below : List OpenBlock) (b : OpenBlock) (statements : List StatementAt) (s : Statement) → IsWhole b.head statements s →
      AreOpen declared scope depth trapped (below ++ b ∷ []) statements → AreOpen declared scope depth trapped below (b.before ++ (record { line = b.line; statement = s }) ∷ [])
  closed_open zero trapped [] b statements s whole is = absurd is
  closed_open (suc depth) trapped [] b statements s whole is = within_one depth trapped b.before (record { line = b.line; statement = s }) is.0 (whole.sound declared scope depth trapped is.1 is.2)
  closed_open zero trapped (c ∷ below) b statements s whole is = absurd is
  closed_open (suc depth) trapped (c ∷ below) b statements s whole is = (is.0, is.1, closed_open depth (trapped || is_trap (head_line_kind c.head)) below b statements s whole is.2)

or_assoc : (a b c : Bool) → ((a || b) || c) ≡ (a || (b || c))
or_assoc true b c = refl
or_assoc false b c = refl

or_false : (a : Bool) → (a || false) ≡ a
or_false true = refl
or_false false = refl

in_trap-from : (trapped : Bool) (blocks : List OpenBlock) → in_trap trapped blocks ≡ (trapped || list_any is_trap (line_kinds_of_blocks blocks))
in_trap-from trapped [] = sym (or_false trapped)
in_trap-from trapped (b ∷ blocks) = in_trap-from (trapped || is_trap (head_line_kind b.head)) blocks ∙ or_assoc trapped (is_trap (head_line_kind b.head)) (list_any is_trap (line_kinds_of_blocks blocks))

pub in_trap-outside : (blocks : List OpenBlock) → in_trap false blocks ≡ list_any is_trap (line_kinds_of_blocks blocks)
in_trap-outside blocks = in_trap-from false blocks

-- one of these blocks is a TRAP
pub trap_found : (blocks : List OpenBlock) (i : ℕ) (d : OpenBlock) → i < length blocks → is_trap (head_line_kind (get_or blocks i d).head) ≡ true → list_any is_trap (line_kinds_of_blocks blocks) ≡ true
trap_found [] i d lt is = absurd (omega arith)
trap_found (b ∷ blocks) zero d lt is = ap (λ t. t || list_any is_trap (line_kinds_of_blocks blocks)) is
trap_found (b ∷ blocks) (suc i) d lt is = later (is_trap (head_line_kind b.head)) (list_any is_trap (line_kinds_of_blocks blocks)) (trap_found blocks i d (omega arith) is)
  where
    later : (a b : Bool) → b ≡ true → (a || b) ≡ true
    later true b e = refl
    later false b e = e

pub line_kinds-last : (blocks : List OpenBlock) (b : OpenBlock) → line_kinds_of_blocks (blocks ++ b ∷ []) ≡ line_kinds_of_blocks blocks ++ head_line_kind b.head ∷ []
line_kinds-last blocks b = map-append (λ c. head_line_kind c.head) blocks (b ∷ [])

-- a place in a body
abbrev pub is_inner : Open → Bool
is_inner Declarations = true
is_inner Statements = true
is_inner Branch = true
is_inner Block = true
is_inner _ = false

-- places: after one statement
abbrev pub around : List OpenBlock → List Open
around blocks = fold (λ below b. place_in_block b ∷ below) (Statements ∷ []) blocks

abbrev pub places : List OpenBlock → List StatementAt → List Open
places blocks statements = block_stack_places (record { blocks = blocks; statements = statements })

block_first : (blocks : List OpenBlock) (b : OpenBlock) (statements : List StatementAt) → place_in_body (blocks ++ b ∷ []) statements ≡ Statements
block_first [] b statements = refl
block_first (c ∷ blocks) b statements = refl

pub places-block : (blocks : List OpenBlock) (b : OpenBlock) (statements : List StatementAt) → places (blocks ++ b ∷ []) statements ≡ place_in_block b ∷ around blocks
places-block blocks b statements =
    ap (λ place. fold (λ below c. place_in_block c ∷ below) (place ∷ []) (blocks ++ b ∷ [])) (block_first blocks b statements)
    ∙ fold-append (λ below c. place_in_block c ∷ below) (Statements ∷ []) blocks (b ∷ [])

pub places-stated : (blocks : List OpenBlock) (statements : List StatementAt) (s : StatementAt) → places blocks (statements ++ s ∷ []) ≡ around blocks
places-stated [] [] s = refl
places-stated [] (t ∷ statements) s = refl
places-stated (b ∷ blocks) statements s = refl

around-block : (blocks : List OpenBlock) (b : OpenBlock) → around (blocks ++ b ∷ []) ≡ place_in_block b ∷ around blocks
around-block blocks b = fold-append (λ below c. place_in_block c ∷ below) (Statements ∷ []) blocks (b ∷ [])

in_block_plain : (b : OpenBlock) (below : List Open) → step (place_in_block b ∷ below) role.Plain ≡ Some (place_in_block b ∷ below)
in_block_plain b below = on b.head
  where
    on : (h : Head) → step (place_in_block (record b { head = h }) ∷ below) role.Plain ≡ Some (place_in_block (record b { head = h }) ∷ below)
    on (head.If c) = refl
    on (head.Else c first) = refl
    on (head.Repeat v) = refl
    on (head.Trap x) = refl

in_block_loop : (b : OpenBlock) (below : List Open) → step (place_in_block b ∷ below) role.Loop ≡ Some (Block ∷ (place_in_block b ∷ below))
in_block_loop b below = on b.head
  where
    on : (h : Head) → step (place_in_block (record b { head = h }) ∷ below) role.Loop ≡ Some (Block ∷ (place_in_block (record b { head = h }) ∷ below))
    on (head.If c) = refl
    on (head.Else c first) = refl
    on (head.Repeat v) = refl
    on (head.Trap x) = refl

in_block_if : (b : OpenBlock) (below : List Open) → step (place_in_block b ∷ below) role.If ≡ Some (Branch ∷ (place_in_block b ∷ below))
in_block_if b below = on b.head
  where
    on : (h : Head) → step (place_in_block (record b { head = h }) ∷ below) role.If ≡ Some (Branch ∷ (place_in_block (record b { head = h }) ∷ below))
    on (head.If c) = refl
    on (head.Else c first) = refl
    on (head.Repeat v) = refl
    on (head.Trap x) = refl

pub in_block_end : (b : OpenBlock) (below : List Open) → step (place_in_block b ∷ below) role.End ≡ Some below
in_block_end b below = on b.head
  where
    on : (h : Head) → step (place_in_block (record b { head = h }) ∷ below) role.End ≡ Some below
    on (head.If c) = refl
    on (head.Else c first) = refl
    on (head.Repeat v) = refl
    on (head.Trap x) = refl

pub step-plain : (blocks : List OpenBlock) (statements : List StatementAt) → step (places blocks statements) role.Plain ≡ Some (around blocks)
step-plain [] [] = refl
step-plain [] (s ∷ statements) = refl
step-plain (b ∷ blocks) statements =
    let last = last_of b blocks in
    ap (λ l. step (places l statements) role.Plain) last.2 ∙ ap (λ l. step l role.Plain) (places-block last.0 last.1 statements) ∙ in_block_plain last.1 (around last.0)
    ∙ ap Some (sym (around-block last.0 last.1) ∙ ap around (sym last.2))

pub step-loop : (blocks : List OpenBlock) (statements : List StatementAt) → step (places blocks statements) role.Loop ≡ Some (Block ∷ around blocks)
step-loop [] [] = refl
step-loop [] (s ∷ statements) = refl
step-loop (b ∷ blocks) statements =
    let last = last_of b blocks in
    ap (λ l. step (places l statements) role.Loop) last.2 ∙ ap (λ l. step l role.Loop) (places-block last.0 last.1 statements) ∙ in_block_loop last.1 (around last.0)
    ∙ ap (λ l. Some (Block ∷ l)) (sym (around-block last.0 last.1) ∙ ap around (sym last.2))

pub step-if : (blocks : List OpenBlock) (statements : List StatementAt) → step (places blocks statements) role.If ≡ Some (Branch ∷ around blocks)
step-if [] [] = refl
step-if [] (s ∷ statements) = refl
step-if (b ∷ blocks) statements =
    let last = last_of b blocks in
    ap (λ l. step (places l statements) role.If) last.2 ∙ ap (λ l. step l role.If) (places-block last.0 last.1 statements) ∙ in_block_if last.1 (around last.0)
    ∙ ap (λ l. Some (Branch ∷ l)) (sym (around-block last.0 last.1) ∙ ap around (sym last.2))

pub step-end : (blocks : List OpenBlock) (b : OpenBlock) (statements : List StatementAt) → step (places (blocks ++ b ∷ []) statements) role.End ≡ Some (around blocks)
step-end blocks b statements = ap (λ l. step l role.End) (places-block blocks b statements) ∙ in_block_end b (around blocks)

pub step-outer_end : (statements : List StatementAt) → step (places [] statements) role.End ≡ Some []
step-outer_end [] = refl
step-outer_end (s ∷ statements) = refl

pub step-else : (below : List OpenBlock) (before statements : List StatementAt) (n : ℕ) (c : Condition) → step (places (below ++ (record { before = before; line = n; head = head.If c }) ∷ []) statements) role.Else ≡ Some (Block ∷ around below)
step-else below before statements n c = ap (λ l. step l role.Else) (places-block below (record { before = before; line = n; head = head.If c }) statements)

-- what begins an item, or a part of one
abbrev pub opens : Role → Bool
opens role.Class = true
opens role.Field = true
opens role.Construct = true
opens role.Destroy = true
opens role.Procedure = true
opens _ = false

none_opens : (place : Open) (below : List Open) (r : Role) → is_inner place ≡ true → opens r ≡ true → step (place ∷ below) r ≡ None
none_opens Declarations below role.Class inner is = refl
none_opens Declarations below role.Field inner is = refl
none_opens Declarations below role.Construct inner is = refl
none_opens Declarations below role.Destroy inner is = refl
none_opens Declarations below role.Procedure inner is = refl
none_opens Statements below role.Class inner is = refl
none_opens Statements below role.Field inner is = refl
none_opens Statements below role.Construct inner is = refl
none_opens Statements below role.Destroy inner is = refl
none_opens Statements below role.Procedure inner is = refl
none_opens Branch below role.Class inner is = refl
none_opens Branch below role.Field inner is = refl
none_opens Branch below role.Construct inner is = refl
none_opens Branch below role.Destroy inner is = refl
none_opens Branch below role.Procedure inner is = refl
none_opens Block below role.Class inner is = refl
none_opens Block below role.Field inner is = refl
none_opens Block below role.Construct inner is = refl
none_opens Block below role.Destroy inner is = refl
none_opens Block below role.Procedure inner is = refl
none_opens place below r inner is = cc

block_inner : (h : Head) (b : OpenBlock) → is_inner (place_in_block (record b { head = h })) ≡ true
block_inner (head.If x) b = refl
block_inner (head.Else x first) b = refl
block_inner (head.Repeat v) b = refl
block_inner (head.Trap x) b = refl

-- no item begins in a body, and no part of one, and no declaration is after a statement or in a block
pub no_body_inside : (blocks : List OpenBlock) (statements : List StatementAt) (r : Role) → opens r ≡ true → step (places blocks statements) r ≡ None
no_body_inside [] [] r is = none_opens Declarations [] r refl is
no_body_inside [] (s ∷ statements) r is = none_opens Statements [] r refl is
no_body_inside (b ∷ blocks) statements r is =
    let last = last_of b blocks in
    ap (λ l. step (places l statements) r) last.2 ∙ ap (λ l. step l r) (places-block last.0 last.1 statements) ∙ none_opens (place_in_block last.1) (around last.0) r (block_inner last.1.head last.1) is

pub late_declaration : (blocks : List OpenBlock) (statements : List StatementAt) → (0 < length blocks) → step (places blocks statements) role.Declaration ≡ None
late_declaration [] statements lt = absurd (omega arith)
late_declaration (b ∷ blocks) statements lt =
    let last = last_of b blocks in
    ap (λ l. step (places l statements) role.Declaration) last.2 ∙ ap (λ l. step l role.Declaration) (places-block last.0 last.1 statements) ∙ on last.1 (around last.0) last.1.head
  where
    on : (c : OpenBlock) (below : List Open) (h : Head) → step (place_in_block (record c { head = h }) ∷ below) role.Declaration ≡ None
    on c below (head.If x) = refl
    on c below (head.Else x first) = refl
    on c below (head.Repeat v) = refl
    on c below (head.Trap x) = refl
