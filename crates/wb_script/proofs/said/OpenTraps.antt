-- A pass knows that a TRAP is open exactly where its head is before and its own end isn't.
use Rattle.std.proofs.Common.{◌≡◌, ℕ, suc, ◌+◌, ◌-◌, ◌<◌, ◌≤◌, List, [], ◌∷◌, ◌++◌, length, take, Bool, true, false, ◌||◌, cond, ◌⊎◌, inl, inr, refl, sym, ap, subst, ◌∙◌, append_assoc, arith, length-append}
use Rattle.std.specs.List.{list_any}
use Rattle.std.proofs.lemmas.Bool.{false≢true}
use Rattle.wb_tree.specs.declared.script_lines.LineKind.{LineKind}
use Rattle.wb_tree.specs.declared.script_lines.LineKind.TheVariants as line_kind
use Rattle.wb_tree.specs.declared.script_lines.Role.{Role}
use Rattle.wb_tree.specs.declared.script_lines.Role.TheVariants as role
use Rattle.wb_tree.specs.declared.script_lines.Form.{Form}
use Rattle.wb_tree.specs.declared.script_lines.Form.TheVariants.{Skip, Unknown, Line}
use Rattle.wb_language.specs.Forms.{role_of_form}
use Rattle.wb_language.specs.Kinds.{is_trap}
use Rattle.wb_language.specs.LineKinds.{role_of}
use Rattle.wb_language.specs.Names.{Text, NamesSoFar, blocks_after, known_after, line_kind_in, nothing_known, without_last}
use Rattle.wb_language.specs.PassedLimits.{count_of, is_block_role, is_end_role, is_in_no_body}
use Rattle.wb_language.specs.Passes.{state_after}
use Rattle.wb_language.specs.WrongSorts.{IsInTrap, LeaveOpen, heads_trap}
use Rattle.wb_script.proofs.names.DeclaredHere.{known_following}
use Rattle.wb_script.proofs.said.ManyLines.{one_counted}
use Rattle.wb_script.proofs.said.SinceLines.{either_false, found_in, neither, passes_in}

-- the blocks that are open after lines, from those before them
abbrev blocks_from : List LineKind → List (Form Text) → List LineKind
blocks_from blocks [] = blocks
blocks_from blocks (form ∷ lines) = blocks_from (blocks_after (role_of_form form) form blocks) lines

blocks_of_state : (lines : List (Form Text)) (known : NamesSoFar) → (state_after known_after known lines).blocks ≡ blocks_from known.blocks lines
blocks_of_state [] known = refl
blocks_of_state (form ∷ lines) known = blocks_of_state lines (known_after known form)

blocks_parts : (first more : List (Form Text)) (blocks : List LineKind) → blocks_from blocks (first ++ more) ≡ blocks_from (blocks_from blocks first) more
blocks_parts [] more blocks = refl
blocks_parts (form ∷ first) more blocks = blocks_parts first more (blocks_after (role_of_form form) form blocks)

abbrev leaves_body : Form Text → Bool
leaves_body form = is_in_no_body (role_of_form form)

-- With so many blocks open inside it, a block stays open through these lines.
abbrev StaysOpen : ℕ → List (Form Text) → Type 0
StaysOpen inner lines = (list_any leaves_body lines ≡ false) × ((first last : List (Form Text)) → lines ≡ first ++ last → count_of is_end_role first ≤ count_of is_block_role first + inner)

-- What a line makes of the blocks.
data Effect (form : Form Text) : Type 0 where
  leaves : leaves_body form ≡ true → ((blocks : List LineKind) → blocks_after (role_of_form form) form blocks ≡ []) → Effect form
  opens : (k : LineKind) → line_kind_in form ≡ k ∷ [] → leaves_body form ≡ false → is_block_role (role_of_form form) ≡ true → is_end_role (role_of_form form) ≡ false →
      ((blocks : List LineKind) → blocks_after (role_of_form form) form blocks ≡ blocks ++ k ∷ []) → Effect form
  closes : leaves_body form ≡ false → is_block_role (role_of_form form) ≡ false → is_end_role (role_of_form form) ≡ true → ((blocks : List LineKind) → blocks_after (role_of_form form) form blocks ≡ without_last blocks) → Effect form
  keeps : leaves_body form ≡ false → is_block_role (role_of_form form) ≡ false → is_end_role (role_of_form form) ≡ false → ((blocks : List LineKind) → blocks_after (role_of_form form) form blocks ≡ blocks) → Effect form

effect_of : (form : Form Text) → Effect form
effect_of Skip = Effect.keeps refl refl refl (λ blocks. refl)
effect_of Unknown = Effect.keeps refl refl refl (λ blocks. refl)
effect_of (Line k operands) = go (role_of k) refl
  where
    go : (r : Role) → role_of k ≡ r → Effect (Line k operands)
    go role.Class e = Effect.leaves (ap is_in_no_body e) (λ blocks. ap (λ r. blocks_after r (Line k operands) blocks) e)
    go role.Construct e = Effect.leaves (ap is_in_no_body e) (λ blocks. ap (λ r. blocks_after r (Line k operands) blocks) e)
    go role.Destroy e = Effect.leaves (ap is_in_no_body e) (λ blocks. ap (λ r. blocks_after r (Line k operands) blocks) e)
    go role.Procedure e = Effect.leaves (ap is_in_no_body e) (λ blocks. ap (λ r. blocks_after r (Line k operands) blocks) e)
    go role.Loop e = Effect.opens k refl (ap is_in_no_body e) (ap is_block_role e) (ap is_end_role e) (λ blocks. ap (λ r. blocks_after r (Line k operands) blocks) e)
    go role.If e = Effect.opens k refl (ap is_in_no_body e) (ap is_block_role e) (ap is_end_role e) (λ blocks. ap (λ r. blocks_after r (Line k operands) blocks) e)
    go role.End e = Effect.closes (ap is_in_no_body e) (ap is_block_role e) (ap is_end_role e) (λ blocks. ap (λ r. blocks_after r (Line k operands) blocks) e)
    go role.Skip e = Effect.keeps (ap is_in_no_body e) (ap is_block_role e) (ap is_end_role e) (λ blocks. ap (λ r. blocks_after r (Line k operands) blocks) e)
    go role.Unknown e = Effect.keeps (ap is_in_no_body e) (ap is_block_role e) (ap is_end_role e) (λ blocks. ap (λ r. blocks_after r (Line k operands) blocks) e)
    go role.Field e = Effect.keeps (ap is_in_no_body e) (ap is_block_role e) (ap is_end_role e) (λ blocks. ap (λ r. blocks_after r (Line k operands) blocks) e)
    go role.Declaration e = Effect.keeps (ap is_in_no_body e) (ap is_block_role e) (ap is_end_role e) (λ blocks. ap (λ r. blocks_after r (Line k operands) blocks) e)
    go role.Plain e = Effect.keeps (ap is_in_no_body e) (ap is_block_role e) (ap is_end_role e) (λ blocks. ap (λ r. blocks_after r (Line k operands) blocks) e)
    go role.Else e = Effect.keeps (ap is_in_no_body e) (ap is_block_role e) (ap is_end_role e) (λ blocks. ap (λ r. blocks_after r (Line k operands) blocks) e)

-- Lists with a last element.
abbrev Ends : {X : Type 0} → List X → Type 0
Ends {X = X} xs = (xs ≡ []) ⊎ ((front : List X) × (x : X) × (xs ≡ front ++ x ∷ []))

last_of : {X : Type 0} (xs : List X) → Ends xs
last_of [] = inl refl
last_of (x ∷ xs) = go (last_of xs)
  where
    go : {X : Type 0} {x : X} {xs : List X} → Ends xs → Ends (x ∷ xs)
    go {x = x} (inl nothing) = inr ([], x, ap (λ l. x ∷ l) nothing)
    go {x = x} (inr (front, y, parts)) = inr (x ∷ front, y, ap (λ l. x ∷ l) parts)

take_front : {X : Type 0} (front : List X) (x : X) → take (length front) (front ++ x ∷ []) ≡ front
take_front [] x = refl
take_front (y ∷ front) x = ap (λ l. y ∷ l) (take_front front x)

without_added : {X : Type 0} (front : List X) (x : X) → without_last (front ++ x ∷ []) ≡ front
without_added front x =
    let long : length (front ++ x ∷ []) - 1 ≡ length front = omega (arith, length-append front (x ∷ [])) in
    ap (λ n. take n (front ++ x ∷ [])) long ∙ take_front front x

same_front : {X : Type 0} (a b : List X) (x y : X) → a ++ x ∷ [] ≡ b ++ y ∷ [] → (a ≡ b) × (x ≡ y)
same_front a b x y e =
    let front = sym (without_added a x) ∙ ap without_last e ∙ without_added b y in
    (front, same_last a x y (e ∙ ap (λ l. l ++ y ∷ []) (sym front)))
  where
    same_last : {X : Type 0} (a : List X) (x y : X) → a ++ x ∷ [] ≡ a ++ y ∷ [] → x ≡ y
    same_last [] x y e = cc
    same_last (z ∷ a) x y e = let rest : a ++ x ∷ [] ≡ a ++ y ∷ [] = cc in same_last a x y rest

-- what is open after one more line, where a block was open below others
trap_first : (below above : List LineKind) (t : LineKind) → below ++ t ∷ above ≡ [] → ⊥
trap_first [] above t e = cc
trap_first (b ∷ below) above t e = cc

-- One more line before others.
module _ (form : Form Text) (lines : List (Form Text)) (inner : ℕ) where
  -- the first part is nothing, or begins with the line
  counts_first : (first last : List (Form Text)) → form ∷ lines ≡ first ++ last → (first ≡ []) ⊎ ((more : List (Form Text)) × (first ≡ form ∷ more) × (lines ≡ more ++ last))
  counts_first [] last e = inl refl
  counts_first (f ∷ more) last e = let same : form ≡ f = cc in let rest : lines ≡ more ++ last = cc in inr (more, ap (λ x. x ∷ more) (sym same), rest)

  more_open : (next : ℕ) → leaves_body form ≡ false → cond (is_end_role (role_of_form form)) 1 0 + next ≤ cond (is_block_role (role_of_form form)) 1 0 + inner → cond (is_end_role (role_of_form form)) 1 0 ≤ cond (is_block_role (role_of_form form)) 1 0 + inner →
      cond (is_block_role (role_of_form form)) 1 0 + inner ≤ cond (is_end_role (role_of_form form)) 1 0 + next → StaysOpen next lines → StaysOpen inner (form ∷ lines)
  more_open next stays fits alone back (inside, least) = (either_false (leaves_body form) (list_any leaves_body lines) stays inside, λ first last parts. go first (counts_first first last parts))
    where
      go : {last : List (Form Text)} (first : List (Form Text)) → (first ≡ []) ⊎ ((more : List (Form Text)) × (first ≡ form ∷ more) × (lines ≡ more ++ last)) → count_of is_end_role first ≤ count_of is_block_role first + inner
      go first (inl nothing) = subst (λ l. count_of is_end_role l ≤ count_of is_block_role l + inner) (sym nothing) (omega arith)
      go {last = last} first (inr (more, begins, rest)) =
          let later = least more last rest in
          let ends = one_counted is_end_role form more in
          let heads = one_counted is_block_role form more in
          subst (λ l. count_of is_end_role l ≤ count_of is_block_role l + inner) (sym begins) (omega (arith, later, ends, heads, fits, back))

  less_open : (next : ℕ) → cond (is_block_role (role_of_form form)) 1 0 + inner ≤ cond (is_end_role (role_of_form form)) 1 0 + next → StaysOpen inner (form ∷ lines) → StaysOpen next lines
  less_open next fits (inside, least) =
      let (here, later) = neither (leaves_body form) (list_any leaves_body lines) inside in
      (later, λ first last parts. let most = least (form ∷ first) last (ap (λ l. form ∷ l) parts) in let ends = one_counted is_end_role form first in let heads = one_counted is_block_role form first in omega (arith, most, ends, heads, fits))

  -- where the line ends a block, one is open inside
  one_inside : is_end_role (role_of_form form) ≡ true → is_block_role (role_of_form form) ≡ false → StaysOpen inner (form ∷ lines) → 0 < inner
  one_inside ends begins (inside, least) =
      let most = least (form ∷ []) lines refl in
      let end : count_of is_end_role (form ∷ []) ≡ cond true 1 0 + 0 = one_counted is_end_role form [] ∙ ap (λ b. cond b 1 0 + 0) ends in
      let head : count_of is_block_role (form ∷ []) ≡ cond false 1 0 + 0 = one_counted is_block_role form [] ∙ ap (λ b. cond b 1 0 + 0) begins in
      omega (arith, most, end, head)

-- A block that stays open is among those that are open.
abbrev IsBelow : LineKind → ℕ → List LineKind → Type 0
IsBelow t inner blocks = (below above : List LineKind) × (blocks ≡ below ++ t ∷ above) × (length above ≡ inner)

still_open : (lines : List (Form Text)) (t : LineKind) (inner : ℕ) (blocks : List LineKind) → StaysOpen inner lines → IsBelow t inner blocks → (end : ℕ) × IsBelow t end (blocks_from blocks lines)
still_open [] t inner blocks stays is_open = (inner, is_open)
still_open (form ∷ lines) t inner blocks stays is_open = go (λ n more s o. still_open lines t n more s o) (effect_of form)
  where
    closed : (front : List LineKind) (x : LineKind) (below above : List LineKind) → blocks ≡ below ++ t ∷ above → above ≡ front ++ x ∷ [] → without_last blocks ≡ below ++ t ∷ front
    closed front x below above parts ends =
        ap without_last (parts ∙ ap (λ l. below ++ t ∷ l) ends ∙ sym (append_assoc below (t ∷ front) (x ∷ [])))
        ∙ without_added (below ++ t ∷ front) x

    end_of : (below above : List LineKind) → blocks ≡ below ++ t ∷ above → length above ≡ inner → 0 < inner → Ends above → IsBelow t (inner - 1) (without_last blocks)
    end_of below above parts long some (inl nothing) = absurd (let none = ap (λ l. length l) nothing in omega (arith, none, long, some))
    end_of below above parts long some (inr (front, x, ends)) =
        let many = ap (λ l. length l) ends in
        let one = length-append front (x ∷ []) in
        (below, front, closed front x below above parts ends, omega (arith, many, one, long))

    go : ((n : ℕ) (more : List LineKind) → StaysOpen n lines → IsBelow t n more → (end : ℕ) × IsBelow t end (blocks_from more lines)) → Effect form → (end : ℕ) × IsBelow t end (blocks_from (blocks_after (role_of_form form) form blocks) lines)
    go later (Effect.leaves left nothing) = let clash : ⊥ = cc (left, (neither (leaves_body form) (list_any leaves_body lines) stays.0).0) in absurd clash
    go later (Effect.opens k kind here head end added) =
        let (below, above, parts, long) = is_open in
        let fits : cond (is_block_role (role_of_form form)) 1 0 + inner ≤ cond (is_end_role (role_of_form form)) 1 0 + suc inner = subst (λ b. cond b 1 0 + inner ≤ cond (is_end_role (role_of_form form)) 1 0 + suc inner) (sym head) (omega arith) in
        later (suc inner) (blocks_after (role_of_form form) form blocks) (less_open form lines inner (suc inner) fits stays)
        (below, above ++ k ∷ [], added blocks ∙ ap (λ l. l ++ k ∷ []) parts ∙ append_assoc below (t ∷ above) (k ∷ []), omega (arith, length-append above (k ∷ []), long))
    go later (Effect.closes here head end dropped) =
        let (below, above, parts, long) = is_open in
        let some = one_inside form lines inner end head stays in
        let fits : cond (is_block_role (role_of_form form)) 1 0 + inner ≤ cond (is_end_role (role_of_form form)) 1 0 + (inner - 1) =
        subst (λ b. cond b 1 0 + inner ≤ cond (is_end_role (role_of_form form)) 1 0 + (inner - 1)) (sym head) (subst (λ b. 0 + inner ≤ cond b 1 0 + (inner - 1)) (sym end) (omega (arith, some))) in
        later (inner - 1) (blocks_after (role_of_form form) form blocks) (less_open form lines inner (inner - 1) fits stays)
        (subst (IsBelow t (inner - 1)) (sym (dropped blocks)) (end_of below above parts long some (last_of above)))
    go later (Effect.keeps here head end same) =
        let fits : cond (is_block_role (role_of_form form)) 1 0 + inner ≤ cond (is_end_role (role_of_form form)) 1 0 + inner = subst (λ b. cond b 1 0 + inner ≤ cond (is_end_role (role_of_form form)) 1 0 + inner) (sym head) (omega arith) in
        later inner (blocks_after (role_of_form form) form blocks) (less_open form lines inner inner fits stays) (subst (IsBelow t inner) (sym (same blocks)) is_open)

-- And one that is open was open before, or has its head in the lines.
abbrev HasHead : LineKind → List (Form Text) → Type 0
HasHead t lines = (earlier inside : List (Form Text)) × (head : Form Text) × (lines ≡ earlier ++ head ∷ inside) × (line_kind_in head ≡ t ∷ []) × StaysOpen 0 inside

head_later : (form : Form Text) (lines : List (Form Text)) (t : LineKind) → HasHead t lines → HasHead t (form ∷ lines)
head_later form lines t (earlier, inside, head, parts, kind, stays) = (form ∷ earlier, inside, head, ap (λ l. form ∷ l) parts, kind, stays)

opened : (lines : List (Form Text)) (t : LineKind) (end : ℕ) (blocks : List LineKind) → IsBelow t end (blocks_from blocks lines) → HasHead t lines ⊎ ((inner : ℕ) × StaysOpen inner lines × IsBelow t inner blocks)
opened [] t end blocks is_open = inr (end, (refl, λ first last parts. nothing end first last parts), is_open)
  where
    nothing : (inner : ℕ) (first last : List (Form Text)) → [] ≡ first ++ last → count_of is_end_role first ≤ count_of is_block_role first + inner
    nothing inner [] last parts = omega arith
    nothing inner (f ∷ first) last parts = let clash : ⊥ = cc in absurd clash
opened (form ∷ lines) t end blocks is_open = back (opened lines t end (blocks_after (role_of_form form) form blocks) is_open)
  where
    -- the line opens a block: this one, or one inside it
    by_head : (k : LineKind) → line_kind_in form ≡ k ∷ [] → leaves_body form ≡ false → is_block_role (role_of_form form) ≡ true → is_end_role (role_of_form form) ≡ false → (inner : ℕ) → StaysOpen inner lines → (below above : List LineKind) → blocks ++ k ∷ [] ≡ below ++ t ∷ above → length above ≡ inner → Ends above → (HasHead t (form ∷ lines) ⊎ ((inner : ℕ) × StaysOpen inner (form ∷ lines) × IsBelow t inner blocks))
    by_head k kind here head end inner stays below above parts long (inl nothing) =
        let whole : blocks ++ k ∷ [] ≡ below ++ t ∷ [] = parts ∙ ap (λ l. below ++ t ∷ l) nothing in
        let same = (same_front blocks below k t whole).1 in
        let none = ap (λ l. length l) nothing in
        let zero_inside : inner ≡ 0 = omega (arith, none, long) in
        inl ([], lines, form, refl, kind ∙ ap (λ x. x ∷ []) same, subst (λ n. StaysOpen n lines) zero_inside stays)
    by_head k kind here head end inner stays below above parts long (inr (front, x, ends)) =
        let whole : blocks ++ k ∷ [] ≡ (below ++ t ∷ front) ++ x ∷ [] = parts ∙ ap (λ l. below ++ t ∷ l) ends ∙ sym (append_assoc below (t ∷ front) (x ∷ [])) in
        let same = (same_front blocks (below ++ t ∷ front) k x whole).0 in
        let many = ap (λ l. length l) ends in
        let one = length-append front (x ∷ []) in
        let next_is : inner ≡ suc (length front) = omega (arith, many, one, long) in
        let fits : cond false 1 0 + inner ≤ cond true 1 0 + length front = omega (arith, next_is) in
        let back : cond true 1 0 + length front ≤ cond false 1 0 + inner = omega (arith, next_is) in
        inr (
          length front,
          more_open form lines (length front) inner here
              (subst (λ b. cond b 1 0 + inner ≤ cond (is_block_role (role_of_form form)) 1 0 + length front) (sym end) (subst (λ b. cond false 1 0 + inner ≤ cond b 1 0 + length front) (sym head) fits))
              (subst (λ b. cond b 1 0 ≤ cond (is_block_role (role_of_form form)) 1 0 + length front) (sym end) (omega arith))
              (subst (λ b. cond b 1 0 + length front ≤ cond (is_end_role (role_of_form form)) 1 0 + inner) (sym head) (subst (λ b. cond true 1 0 + length front ≤ cond b 1 0 + inner) (sym end) back))
              stays,
          (below, front, same, refl),
        )

    -- the line ends a block, which is one inside it
    by_end : leaves_body form ≡ false → is_block_role (role_of_form form) ≡ false → is_end_role (role_of_form form) ≡ true → (inner : ℕ) → StaysOpen inner lines → (below above : List LineKind) → without_last blocks ≡ below ++ t ∷ above → length above ≡ inner → Ends blocks → (HasHead t (form ∷ lines) ⊎ ((inner : ℕ) × StaysOpen inner (form ∷ lines) × IsBelow t inner blocks))
    by_end here head end inner stays below above parts long (inl nothing) = absurd (trap_first below above t (sym parts ∙ ap without_last nothing))
    by_end here head end inner stays below above parts long (inr (front, x, ends)) =
        let same : front ≡ below ++ t ∷ above = sym (without_added front x) ∙ ap without_last (sym ends) ∙ parts in
        inr (
          suc inner,
          more_open form lines (suc inner) inner here
              (subst (λ b. cond b 1 0 + inner ≤ cond (is_block_role (role_of_form form)) 1 0 + suc inner) (sym end) (subst (λ b. cond true 1 0 + inner ≤ cond b 1 0 + suc inner) (sym head) (omega arith)))
              (subst (λ b. cond b 1 0 ≤ cond (is_block_role (role_of_form form)) 1 0 + suc inner) (sym end) (subst (λ b. cond true 1 0 ≤ cond b 1 0 + suc inner) (sym head) (omega arith)))
              (subst (λ b. cond b 1 0 + suc inner ≤ cond (is_end_role (role_of_form form)) 1 0 + inner) (sym head) (subst (λ b. cond false 1 0 + suc inner ≤ cond b 1 0 + inner) (sym end) (omega arith)))
              stays,
          (below, above ++ x ∷ [], ends ∙ ap (λ l. l ++ x ∷ []) same ∙ append_assoc below (t ∷ above) (x ∷ []), omega (arith, length-append above (x ∷ []), long)),
        )

    kept : leaves_body form ≡ false → is_block_role (role_of_form form) ≡ false → is_end_role (role_of_form form) ≡ false → (inner : ℕ) → StaysOpen inner lines → StaysOpen inner (form ∷ lines)
    kept here head end inner stays =
        more_open form lines inner inner here
        (subst (λ b. cond b 1 0 + inner ≤ cond (is_block_role (role_of_form form)) 1 0 + inner) (sym end) (subst (λ b. cond false 1 0 + inner ≤ cond b 1 0 + inner) (sym head) (omega arith)))
        (subst (λ b. cond b 1 0 ≤ cond (is_block_role (role_of_form form)) 1 0 + inner) (sym end) (omega arith))
        (subst (λ b. cond b 1 0 + inner ≤ cond (is_end_role (role_of_form form)) 1 0 + inner) (sym head) (subst (λ b. cond false 1 0 + inner ≤ cond b 1 0 + inner) (sym end) (omega arith)))
        stays

    by_effect : Effect form → (inner : ℕ) → StaysOpen inner lines → (below above : List LineKind) → (blocks_after (role_of_form form) form blocks) ≡ below ++ t ∷ above → length above ≡ inner → (HasHead t (form ∷ lines) ⊎ ((inner : ℕ) × StaysOpen inner (form ∷ lines) × IsBelow t inner blocks))
    by_effect (Effect.leaves left nothing) inner stays below above parts long = absurd (trap_first below above t (sym parts ∙ nothing blocks))
    by_effect (Effect.opens k kind here head end added) inner stays below above parts long = by_head k kind here head end inner stays below above (sym (added blocks) ∙ parts) long (last_of above)
    by_effect (Effect.closes here head end dropped) inner stays below above parts long = by_end here head end inner stays below above (sym (dropped blocks) ∙ parts) long (last_of blocks)
    by_effect (Effect.keeps here head end same) inner stays below above parts long = inr (inner, kept here head end inner stays, (below, above, sym (same blocks) ∙ parts, long))

    back : HasHead t lines ⊎ ((inner : ℕ) × StaysOpen inner lines × IsBelow t inner (blocks_after (role_of_form form) form blocks)) → (HasHead t (form ∷ lines) ⊎ ((inner : ℕ) × StaysOpen inner (form ∷ lines) × IsBelow t inner blocks))
    back (inl there) = inl (head_later form lines t there)
    back (inr (inner, stays, (below, above, parts, long))) = by_effect (effect_of form) inner stays below above parts long

-- So a TRAP is among the open blocks exactly where its head is before and its end isn't.
blocks_known : (before : List (Form Text)) → (known_following before).blocks ≡ blocks_from [] before
blocks_known before = blocks_of_state before nothing_known

no_more : (inside : List (Form Text)) → StaysOpen 0 inside → LeaveOpen inside
no_more inside (stays, least) = (stays, λ first last parts. let h = least first last parts in omega (arith, h))

no_less : (inside : List (Form Text)) → LeaveOpen inside → StaysOpen 0 inside
no_less inside (stays, least) = (stays, λ first last parts. let h = least first last parts in omega (arith, h))

pub trap_before : (before : List (Form Text)) → list_any is_trap (known_following before).blocks ≡ true → IsInTrap before
trap_before before is =
    let (below, above, t, parts, trap) = found_in is_trap (known_following before).blocks is in
    go t trap (opened before t (length above) [] (below, above, sym (blocks_known before) ∙ parts, refl))
  where
    go : (t : LineKind) → is_trap t ≡ true → HasHead t before ⊎ ((inner : ℕ) × StaysOpen inner before × IsBelow t inner []) → IsInTrap before
    go t trap (inl (earlier, inside, head, parts, kind, stays)) = (earlier, inside, head, parts, ap (list_any is_trap) kind ∙ ap (λ b. b || false) trap, no_more inside stays)
    go t trap (inr (inner, stays, (below, above, parts, long))) = absurd (trap_first below above t (sym parts))

-- the head of a TRAP opens a block
trap_opens : (head : Form Text) → heads_trap head ≡ true → (t : LineKind) × (is_trap t ≡ true) × ((blocks : List LineKind) → blocks_after (role_of_form head) head blocks ≡ blocks ++ t ∷ [])
trap_opens Skip is = absurd (false≢true is)
trap_opens Unknown is = absurd (false≢true is)
trap_opens (Line line_kind.Trap operands) is = (line_kind.Trap, refl, λ blocks. refl)
trap_opens (Line k operands) is = absurd (false≢true is)

pub trap_is_open : (before : List (Form Text)) → IsInTrap before → list_any is_trap (known_following before).blocks ≡ true
trap_is_open before (earlier, inside, head, parts, trap, is_open) =
    let (t, is, added) = trap_opens head trap in
    let opened_here : blocks_from [] (earlier ++ head ∷ []) ≡ blocks_from [] earlier ++ t ∷ [] = blocks_parts earlier (head ∷ []) [] ∙ added (blocks_from [] earlier) in
    let split : before ≡ (earlier ++ head ∷ []) ++ inside = parts ∙ sym (append_assoc earlier (head ∷ []) inside) in
    let (end, (below, above, among, long)) = still_open inside t 0 (blocks_from [] (earlier ++ head ∷ [])) (no_less inside is_open) (blocks_from [] earlier, [], opened_here, refl) in
    let blocks = blocks_known before ∙ ap (blocks_from []) split ∙ blocks_parts (earlier ++ head ∷ []) inside [] ∙ among in
    ap (list_any is_trap) blocks ∙ passes_in is_trap below above t is
