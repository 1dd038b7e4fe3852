-- A pass refuses the lines that pass a limit.
use Rattle.std.proofs.Common.{◌≡◌, ℕ, zero, suc, ◌+◌, ◌-◌, ◌<◌, ◌≤◌, List, [], ◌∷◌, ◌++◌, length, Bool, true, false, ◌||◌, cond, refl, sym, ap, subst, ◌∙◌, append_assoc, append-nil, length-append, arith}
use Rattle.std.specs.List.{flat_map, list_all, list_any}
use Rattle.std.proofs.lemmas.Bool.{false≢true}
use Rattle.std.proofs.lemmas.List.{length-take}
use Rattle.std.proofs.lemmas.List.Folds.{list_any-append, list_all-append}
use Rattle.std.proofs.lemmas.List.Sums.{sum_by-cons}
use Rattle.wb_language.specs.declared.fault.ScriptFault.TheVariants.{TooMany}
use Rattle.wb_tree.specs.declared.script.Script.{Script}
use Rattle.wb_tree.specs.declared.script_lines.ItemKind.TheVariants as item
use Rattle.wb_tree.specs.declared.script_lines.LineKind.{LineKind}
use Rattle.wb_tree.specs.declared.script_lines.LineKind.TheVariants as line_kind
use Rattle.wb_tree.specs.declared.script_lines.Operand.TheVariants.{Name}
use Rattle.wb_tree.specs.declared.script_lines.Role.{Role}
use Rattle.wb_tree.specs.declared.script_lines.Role.TheVariants as role
use Rattle.wb_tree.specs.declared.script_lines.Form.{Form}
use Rattle.wb_tree.specs.declared.script_lines.Form.TheVariants.{Skip, Unknown, Line}
use Rattle.wb_language.specs.DeclaredAgain.{Space, begins_space, is_class_role}
use Rattle.wb_language.specs.FirstLines.{IsFirstLine, IsOfNoLine}
use Rattle.wb_language.specs.Forms.{forms_of, role_of_form}
use Rattle.wb_language.specs.Lines.{lines_of}
use Rattle.wb_language.specs.Names.{Text, NamesSoFar, blocks_after, count_begun, has_long_name, has_more_parameters, is_large, is_one_more, known_after, nothing_known, passes_limit}
use Rattle.wb_language.specs.PassedLimits.{PassesLimit, DeclareSoMany, HaveOpenBlocks, count_of, is_procedure_role, is_block_role, is_end_role, is_in_no_body}
use Rattle.wb_language.specs.Passes.{state_after}
use Rattle.wb_language.specs.Scripts.{IsFaultOf, IsScriptOf}
use Rattle.wb_lines.specs.Typed.{is_typed, AreTyped}
use Rattle.wb_lines.proofs.TypedLemmas.{both}
use Rattle.wb_script.proofs.lists.Tests.{within_of, within_test}
use Rattle.wb_script.proofs.names.DeclaredHere.{known_following}
use Rattle.wb_script.proofs.one_script.NameLaws.{typed_lines}
use Rattle.wb_script.proofs.said.DoubleNames.{declared_by, fields_known, locals_known}
use Rattle.wb_script.proofs.said.FirstSaid.{AreRefused, first_said, none_said}
use Rattle.wb_script.proofs.said.SinceLines.{AreSince, either_false, lines_since, neither, since_holds, they_are_since}

-- How many of some lines there are.
pub one_counted : (test : Role → Bool) (form : Form Text) (lines : List (Form Text)) → count_of test (form ∷ lines) ≡ cond (test (role_of_form form)) 1 0 + count_of test lines
one_counted test form lines = sum_by-cons (λ (f : Form Text). cond (test (role_of_form f)) 1 0) form lines

pub all_counted : (test : Role → Bool) (lines more : List (Form Text)) → count_of test (lines ++ more) ≡ count_of test lines + count_of test more
all_counted test [] more = omega arith
all_counted test (form ∷ lines) more = omega (arith, one_counted test form (lines ++ more), one_counted test form lines, all_counted test lines more)

-- Classes, and procedures and operations.
pub class_counted : (form : Form Text) → is_typed form ≡ true → count_begun item.Class form ≡ cond (is_class_role (role_of_form form)) 1 0
class_counted (Line line_kind.Class []) typed = absurd (false≢true typed)
class_counted (Line line_kind.Class (Name n ∷ os)) typed = refl
class_counted (Line line_kind.Class (_ ∷ os)) typed = absurd (false≢true typed)
class_counted (Line line_kind.Proc []) typed = refl
class_counted (Line line_kind.Proc (Name n ∷ os)) typed = refl
class_counted (Line line_kind.Proc (_ ∷ os)) typed = refl
class_counted (Line line_kind.Op []) typed = refl
class_counted (Line line_kind.Op (Name n ∷ os)) typed = refl
class_counted (Line line_kind.Op (_ ∷ os)) typed = refl
class_counted (Line k os) typed = refl
class_counted Skip typed = refl
class_counted Unknown typed = refl

procedure_counted : (form : Form Text) → is_typed form ≡ true → count_begun item.Procedure form + count_begun item.Operation form ≡ cond (is_procedure_role (role_of_form form)) 1 0
procedure_counted (Line line_kind.Class []) typed = refl
procedure_counted (Line line_kind.Class (Name n ∷ os)) typed = refl
procedure_counted (Line line_kind.Class (_ ∷ os)) typed = refl
procedure_counted (Line line_kind.Proc []) typed = absurd (false≢true typed)
procedure_counted (Line line_kind.Proc (Name n ∷ os)) typed = refl
procedure_counted (Line line_kind.Proc (_ ∷ os)) typed = absurd (false≢true typed)
procedure_counted (Line line_kind.Op []) typed = absurd (false≢true typed)
procedure_counted (Line line_kind.Op (Name n ∷ os)) typed = refl
procedure_counted (Line line_kind.Op (_ ∷ os)) typed = absurd (false≢true typed)
procedure_counted (Line k os) typed = refl
procedure_counted Skip typed = refl
procedure_counted Unknown typed = refl

counted_from : (lines : List (Form Text)) (known : NamesSoFar) → AreTyped lines →
    ((state_after known_after known lines).classes ≡ known.classes + count_of is_class_role lines)
    × ((state_after known_after known lines).procedures + (state_after known_after known lines).operations ≡ (known.procedures + known.operations) + count_of is_procedure_role lines)
counted_from [] known typed = (omega arith, omega arith)
counted_from (form ∷ lines) known typed =
    let (here, rest) = both (is_typed form) (list_all is_typed lines) typed in
    let (classes, procedures) = counted_from lines (known_after known form) rest in (
      omega (arith, classes, class_counted form here, one_counted is_class_role form lines),
      omega (arith, procedures, procedure_counted form here, one_counted is_procedure_role form lines),
    )

pub classes_counted : (before : List (Form Text)) → AreTyped before → (known_following before).classes ≡ count_of is_class_role before
classes_counted before typed = let from = (counted_from before nothing_known typed).0 in omega (arith, from)

procedures_counted : (before : List (Form Text)) → AreTyped before → (known_following before).procedures + (known_following before).operations ≡ count_of is_procedure_role before
procedures_counted before typed = let from = (counted_from before nothing_known typed).1 in omega (arith, from)

-- Fields and locals.
module _ (space : Space) (most : ℕ) where
  they_declare : {lines since : List (Form Text)} → 0 < most → AreSince (begins_space space) lines since → most ≤ length (flat_map (declared_by space) since) → DeclareSoMany space most lines
  they_declare some AreSince.no_lines many = absurd (omega (arith, some, many))
  they_declare some (AreSince.last_lines earlier inside head stays_in first) many = (earlier, inside, head, refl, stays_in, many)

  pub so_many : (before : List (Form Text)) → 0 < most → most ≤ length (flat_map (declared_by space) (lines_since (begins_space space) before)) → DeclareSoMany space most before
  so_many before some many = they_declare some (they_are_since (begins_space space) before) many

  longer : (front lines : List (Form Text)) → length (flat_map (declared_by space) lines) ≤ length (flat_map (declared_by space) (front ++ lines))
  longer [] lines = omega arith
  longer (form ∷ front) lines = omega (arith, longer front lines, length-append (declared_by space form) (flat_map (declared_by space) (front ++ lines)))

  pub many_since : (before : List (Form Text)) → DeclareSoMany space most before → most ≤ length (flat_map (declared_by space) (lines_since (begins_space space) before))
  many_since before (earlier, inside, first, parts, stays_in, many) =
      let (front, whole) = since_holds (begins_space space) earlier inside first stays_in in
      let same = ap (λ l. length (flat_map (declared_by space) (lines_since (begins_space space) l))) parts ∙ ap (λ l. length (flat_map (declared_by space) l)) whole in
      omega (arith, many, same, longer front (first ∷ inside))

-- Blocks: how many are open after a line, by its role.
abbrev depth_after : Role → ℕ → ℕ
depth_after role.Class depth = 0
depth_after role.Construct depth = 0
depth_after role.Destroy depth = 0
depth_after role.Procedure depth = 0
depth_after role.Loop depth = suc depth
depth_after role.If depth = suc depth
depth_after role.End depth = depth - 1
depth_after _ depth = depth

abbrev depth_from : ℕ → List (Form Text) → ℕ
depth_from depth [] = depth
depth_from depth (form ∷ lines) = depth_from (depth_after (role_of_form form) depth) lines

depth_next : (form : Form Text) (blocks : List LineKind) → length (blocks_after (role_of_form form) form blocks) ≡ depth_after (role_of_form form) (length blocks)
depth_next Skip blocks = refl
depth_next Unknown blocks = refl
depth_next (Line k operands) blocks = go (role_of_form (Line k operands))
  where
    go : (r : Role) → length (blocks_after r (Line k operands) blocks) ≡ depth_after r (length blocks)
    go role.Class = refl
    go role.Construct = refl
    go role.Destroy = refl
    go role.Procedure = refl
    go role.Loop = omega (arith, length-append blocks (k ∷ []))
    go role.If = omega (arith, length-append blocks (k ∷ []))
    go role.End = omega (arith, length-take (length blocks - 1) blocks)
    go _ = refl

depth_of_state : (lines : List (Form Text)) (known : NamesSoFar) → length (state_after known_after known lines).blocks ≡ depth_from (length known.blocks) lines
depth_of_state [] known = refl
depth_of_state (form ∷ lines) known = depth_of_state lines (known_after known form) ∙ ap (λ d. depth_from d lines) (depth_next form known.blocks)

pub depth_known : (before : List (Form Text)) → length (known_following before).blocks ≡ depth_from 0 before
depth_known before = depth_of_state before nothing_known

one_step : (r : Role) (depth begun ended : ℕ) (rest : ℕ → ℕ) → is_in_no_body r ≡ false → ((d : ℕ) → begun + d ≤ ended + rest d) → (cond (is_block_role r) 1 0 + begun) + depth ≤ (cond (is_end_role r) 1 0 + ended) + rest (depth_after r depth)
one_step role.Class depth begun ended rest inside later = let clash : ⊥ = cc in absurd clash
one_step role.Construct depth begun ended rest inside later = let clash : ⊥ = cc in absurd clash
one_step role.Destroy depth begun ended rest inside later = let clash : ⊥ = cc in absurd clash
one_step role.Procedure depth begun ended rest inside later = let clash : ⊥ = cc in absurd clash
one_step role.Loop depth begun ended rest inside later = let h = later (suc depth) in omega (arith, h)
one_step role.If depth begun ended rest inside later = let h = later (suc depth) in omega (arith, h)
one_step role.End depth begun ended rest inside later = let h = later (depth - 1) in omega (arith, h)
one_step _ depth begun ended rest inside later = let h = later depth in omega (arith, h)

abbrev leaves_body : Form Text → Bool
leaves_body form = is_in_no_body (role_of_form form)

-- no more blocks are begun than are ended or open
at_most_open : (lines : List (Form Text)) (depth : ℕ) → list_any leaves_body lines ≡ false → count_of is_block_role lines + depth ≤ count_of is_end_role lines + depth_from depth lines
at_most_open [] depth inside = omega arith
at_most_open (form ∷ lines) depth inside =
    let (here, later) = neither (leaves_body form) (list_any leaves_body lines) inside in
    let step = one_step (role_of_form form) depth (count_of is_block_role lines) (count_of is_end_role lines) (λ d. depth_from d lines) here (λ d. at_most_open lines d later) in
    omega (arith, step, one_counted is_block_role form lines, one_counted is_end_role form lines)

depth_parts : (first more : List (Form Text)) (depth : ℕ) → depth_from depth (first ++ more) ≡ depth_from (depth_from depth first) more
depth_parts [] more depth = refl
depth_parts (form ∷ first) more depth = depth_parts first more (depth_after (role_of_form form) depth)

pub open_is_deep : (before : List (Form Text)) (most : ℕ) → HaveOpenBlocks most before → most ≤ length (known_following before).blocks
open_is_deep before most (earlier, inside, parts, stays, many) =
    let deep = at_most_open inside (depth_from 0 earlier) stays in
    let whole = depth_known before ∙ ap (depth_from 0) parts ∙ depth_parts earlier inside 0 in
    omega (arith, deep, whole, many)

-- and as many as are open are begun in lines of the body and not ended there
no_block : (lines : List (Form Text)) → HaveOpenBlocks 0 lines
no_block lines = (lines, [], sym (append-nil lines), refl, omega arith)

with_line : (lines : List (Form Text)) (form : Form Text) (depth more : ℕ) → leaves_body form ≡ false → cond (is_end_role (role_of_form form)) 1 0 + more ≤ cond (is_block_role (role_of_form form)) 1 0 + depth → HaveOpenBlocks depth lines → HaveOpenBlocks more (lines ++ form ∷ [])
with_line lines form depth more stays fits (earlier, inside, parts, none, many) =
    let kept : list_any leaves_body (inside ++ form ∷ []) ≡ false =
    list_any-append leaves_body inside (form ∷ []) ∙ either_false (list_any leaves_body inside) (leaves_body form || false) none (either_false (leaves_body form) false stays refl) in (
      earlier,
      inside ++ form ∷ [],
      ap (λ l. l ++ form ∷ []) parts ∙ append_assoc earlier inside (form ∷ []),
      kept,
      omega (arith, many, fits, all_counted is_end_role inside (form ∷ []), all_counted is_block_role inside (form ∷ []), one_counted is_end_role form [], one_counted is_block_role form []),
    )

-- the blocks of one more line
abbrev Fits : Role → ℕ → ℕ → Type 0
Fits r depth more = cond (is_end_role r) 1 0 + more ≤ cond (is_block_role r) 1 0 + depth

one_more : (lines : List (Form Text)) (form : Form Text) (depth : ℕ) → HaveOpenBlocks depth lines → HaveOpenBlocks (depth_after (role_of_form form) depth) (lines ++ form ∷ [])
one_more lines form depth is_open = go (role_of_form form) depth refl is_open
  where
    by_role : (r : Role) (depth more : ℕ) → role_of_form form ≡ r → is_in_no_body r ≡ false → Fits r depth more → HaveOpenBlocks depth lines → HaveOpenBlocks more (lines ++ form ∷ [])
    by_role r depth more e stays fit is_open = with_line lines form depth more (ap is_in_no_body e ∙ stays) (subst (λ x. Fits x depth more) (sym e) fit) is_open

    go : (r : Role) (depth : ℕ) → role_of_form form ≡ r → HaveOpenBlocks depth lines → HaveOpenBlocks (depth_after r depth) (lines ++ form ∷ [])
    go role.Class depth e is_open = no_block (lines ++ form ∷ [])
    go role.Construct depth e is_open = no_block (lines ++ form ∷ [])
    go role.Destroy depth e is_open = no_block (lines ++ form ∷ [])
    go role.Procedure depth e is_open = no_block (lines ++ form ∷ [])
    go role.Loop depth e is_open = by_role role.Loop depth (suc depth) e refl (omega arith) is_open
    go role.If depth e is_open = by_role role.If depth (suc depth) e refl (omega arith) is_open
    go role.End zero e is_open = no_block (lines ++ form ∷ [])
    go role.End (suc depth) e is_open = by_role role.End (suc depth) (suc depth - 1) e refl (omega arith) is_open
    go role.Skip depth e is_open = by_role role.Skip depth depth e refl (omega arith) is_open
    go role.Unknown depth e is_open = by_role role.Unknown depth depth e refl (omega arith) is_open
    go role.Field depth e is_open = by_role role.Field depth depth e refl (omega arith) is_open
    go role.Declaration depth e is_open = by_role role.Declaration depth depth e refl (omega arith) is_open
    go role.Plain depth e is_open = by_role role.Plain depth depth e refl (omega arith) is_open
    go role.Else depth e is_open = by_role role.Else depth depth e refl (omega arith) is_open

blocks_from : (more lines : List (Form Text)) (depth : ℕ) → HaveOpenBlocks depth lines → HaveOpenBlocks (depth_from depth more) (lines ++ more)
blocks_from [] lines depth is_open = subst (HaveOpenBlocks depth) (sym (append-nil lines)) is_open
blocks_from (form ∷ more) lines depth is_open =
    subst (HaveOpenBlocks (depth_from (depth_after (role_of_form form) depth) more)) (append_assoc lines (form ∷ []) more) (blocks_from more (lines ++ form ∷ []) (depth_after (role_of_form form) depth) (one_more lines form depth is_open))

pub deep_is_open : (before : List (Form Text)) (most : ℕ) → most ≤ length (known_following before).blocks → HaveOpenBlocks most before
deep_is_open before most le =
    let (earlier, inside, parts, stays, many) = blocks_from before [] 0 (no_block []) in
    let deep = depth_known before in
    (earlier, inside, parts, stays, omega (arith, le, deep, many))

-- The limits together.
module _ (forms before : List (Form Text)) (form : Form Text) (typed : AreTyped before) where
  abbrev here : NamesSoFar
  here = known_following before

  one_more_here : (r : Role) → role_of_form form ≡ r → is_one_more r here ≡ true → PassesLimit forms before form
  one_more_here role.Class e is = PassesLimit.class e (omega (arith, within_of 64 here.classes is, classes_counted before typed))
  one_more_here role.Field e is = PassesLimit.field e (so_many Space.of_class 16 before (omega arith) (omega (arith, within_of 16 (length here.fields) is, ap (λ l. length l) (fields_known before))))
  one_more_here role.Procedure e is = PassesLimit.procedure e (omega (arith, within_of 256 (here.procedures + here.operations) is, procedures_counted before typed))
  one_more_here role.Declaration e is = PassesLimit.local e (so_many Space.of_body 32 before (omega arith) (omega (arith, within_of 32 (length here.locals) is, ap (λ l. length l) (locals_known before))))
  one_more_here role.Loop e is = PassesLimit.block (ap is_block_role e) (deep_is_open before 16 (within_of 16 (length here.blocks) is))
  one_more_here role.If e is = PassesLimit.block (ap is_block_role e) (deep_is_open before 16 (within_of 16 (length here.blocks) is))
  one_more_here _ e is = absurd (false≢true is)

  limit_passed : passes_limit here form ≡ true → PassesLimit forms before form
  limit_passed is = go (has_long_name form) (has_more_parameters form) (is_one_more (role_of_form form) here) (is_large form) refl refl refl refl is
    where
      go : (a b c d : Bool) → has_long_name form ≡ a → has_more_parameters form ≡ b → is_one_more (role_of_form form) here ≡ c → is_large form ≡ d → ((a || b) || (c || d)) ≡ true → PassesLimit forms before form
      go true b c d ea eb ec ed h = PassesLimit.name ea
      go false true c d ea eb ec ed h = PassesLimit.parameters eb
      go false false true d ea eb ec ed h = one_more_here (role_of_form form) refl ec
      go false false false true ea eb ec ed h = PassesLimit.size ed
      go false false false false ea eb ec ed h = absurd (false≢true h)

  second : (a b : Bool) → b ≡ true → (a || b) ≡ true
  second true b is = refl
  second false b is = is

  first : (a b : Bool) → a ≡ true → (a || b) ≡ true
  first true b is = refl
  first false b is = absurd (false≢true is)

  abbrev early : Bool
  early = has_long_name form || has_more_parameters form

  by_count : (r : Role) → role_of_form form ≡ r → is_one_more r here ≡ true → passes_limit here form ≡ true
  by_count r e is = second early (is_one_more (role_of_form form) here || is_large form) (first (is_one_more (role_of_form form) here) (is_large form) (ap (λ x. is_one_more x here) e ∙ is))

  by_block : (r : Role) → role_of_form form ≡ r → is_block_role r ≡ true → 16 ≤ length here.blocks → passes_limit here form ≡ true
  by_block role.Loop e is deep = by_count role.Loop e (within_test 16 (length here.blocks) deep)
  by_block role.If e is deep = by_count role.If e (within_test 16 (length here.blocks) deep)
  by_block _ e is deep = absurd (false≢true is)

  is_refused : PassesLimit forms before form → passes_limit here form ≡ true
  is_refused (PassesLimit.name is) = first early (is_one_more (role_of_form form) here || is_large form) (first (has_long_name form) (has_more_parameters form) is)
  is_refused (PassesLimit.parameters is) = first early (is_one_more (role_of_form form) here || is_large form) (second (has_long_name form) (has_more_parameters form) is)
  is_refused (PassesLimit.size is) = second early (is_one_more (role_of_form form) here || is_large form) (second (is_one_more (role_of_form form) here) (is_large form) is)
  is_refused (PassesLimit.class e many) = by_count role.Class e (within_test 64 here.classes (omega (arith, many, classes_counted before typed)))
  is_refused (PassesLimit.procedure e many) = by_count role.Procedure e (within_test 256 (here.procedures + here.operations) (omega (arith, many, procedures_counted before typed)))
  is_refused (PassesLimit.field e many) = by_count role.Field e (within_test 16 (length here.fields) (omega (arith, many_since Space.of_class 16 before many, ap (λ l. length l) (fields_known before))))
  is_refused (PassesLimit.local e many) = by_count role.Declaration e (within_test 32 (length here.locals) (omega (arith, many_since Space.of_body 32 before many, ap (λ l. length l) (locals_known before))))
  is_refused (PassesLimit.block is is_open) = by_block (role_of_form form) refl is (open_is_deep before 16 is_open)

refused_many : (forms : List (Form Text)) → AreTyped forms → AreRefused PassesLimit passes_limit forms
refused_many forms typed before after form whole =
    let split : AreTyped (before ++ form ∷ after) = subst AreTyped whole typed in
    let first = (both (list_all is_typed before) (list_all is_typed (form ∷ after)) (sym (list_all-append is_typed before (form ∷ after)) ∙ split)).0 in
    (limit_passed forms before form first, is_refused forms before form first)

pub too_many_passes : (bytes : List ℕ) (n : ℕ) → IsFaultOf bytes (TooMany n) → IsFirstLine PassesLimit (forms_of (lines_of bytes)) n
too_many_passes bytes n (formed, (named, main, is)) =
    let forms = forms_of (lines_of bytes) in
    first_said PassesLimit passes_limit forms (refused_many forms (typed_lines bytes formed.text.short)) n is

pub script_within : (bytes : List ℕ) (script : Script) → IsScriptOf bytes script → IsOfNoLine PassesLimit (forms_of (lines_of bytes))
script_within bytes script is =
    let forms = forms_of (lines_of bytes) in
    none_said PassesLimit passes_limit forms (refused_many forms (typed_lines bytes is.well_formed.text.short)) is.tree.within
