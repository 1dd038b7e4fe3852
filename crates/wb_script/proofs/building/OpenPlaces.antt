-- A body that is open has a place, and what is below it stays.
use Rattle.std.proofs.Common.{◌≡◌, refl, sym, ap, subst, ◌∙◌, List, [], ◌∷◌, ◌++◌, fold, Option, Some, None, Bool, true, false}
use Rattle.wb_tree.specs.declared.script_lines.LineKind.{LineKind}
use Rattle.wb_tree.specs.declared.script_lines.LineKind.TheVariants as line_kind
use Rattle.wb_tree.specs.declared.script_lines.Role.{Role}
use Rattle.wb_tree.specs.declared.script_lines.Role.TheVariants as role
use Rattle.wb_language.specs.LineKinds.{role_of}
use Rattle.wb_nesting.specs.declared.open.Move.{Move}
use Rattle.wb_nesting.specs.declared.open.Move.TheVariants.{Close, Stay, Enter}
use Rattle.wb_nesting.specs.declared.open.Open.{Open}
use Rattle.wb_nesting.specs.declared.open.Open.TheVariants.{Block, Branch, Declarations, Statements}
use Rattle.wb_tree.specs.declared.script.Body.{Body}
use Rattle.wb_tree.specs.declared.script.Class.{Class}
use Rattle.wb_script.specs.declared.tree.bodies.OpenBody.{OpenBody}
use Rattle.wb_script.specs.declared.tree.whole.Building.{Building}
use Rattle.wb_script.specs.declared.tree.whole.Owner.{Owner}
use Rattle.wb_script.specs.declared.tree.whole.Stage.TheVariants.{InBody, InClass}
use Rattle.wb_script.specs.declared.tree.blocks.BlockStack.{BlockStack}
use Rattle.wb_script.specs.declared.tree.blocks.OpenBlock.{OpenBlock}
use Rattle.wb_script.specs.Building.{block_stack_places, place_in_block, place_in_body}
use Rattle.wb_script.specs.Growing.{building_places, class_place, owner_places, place_after, stage_places}
use Rattle.wb_nesting.specs.Machine.{after_line, move_of, moved, step}

pub record HasPlace (places : List Open) : Type 0 where
  pub place : Open
  pub below : List Open
  pub is : places ≡ place ∷ below

some_place : (blocks : List OpenBlock) (place : Open) (below : List Open) → HasPlace (fold (λ below b. place_in_block b ∷ below) (place ∷ below) blocks)
some_place [] place below = record { place = place; below = below; is = refl }
some_place (b ∷ blocks) place below = some_place blocks (place_in_block b) (place ∷ below)

pub block_stack_place : (n : BlockStack) → HasPlace (block_stack_places n)
block_stack_place n = some_place n.blocks (place_in_body n.blocks n.statements) []

module _ (place : Open) (rest below : List Open) (r : Role) where
  step_above : (next : List Open) → step (place ∷ rest) r ≡ Some next → step (place ∷ (rest ++ below)) r ≡ Some (next ++ below)
  step_above next is = go (move_of (Some place) r) is
    where
      go : (m : Option Move) → moved m rest ≡ Some next → moved m (rest ++ below) ≡ Some (next ++ below)
      go None e = let clash : ⊥ = cc in absurd clash
      go (Some Close) e = let same : rest ≡ next = cc in ap (λ l. Some (l ++ below)) same
      go (Some (Stay inner)) e = let same : inner ∷ rest ≡ next = cc in ap (λ l. Some (l ++ below)) same
      go (Some (Enter outer inner)) e = let same : inner ∷ (outer ∷ rest) ≡ next = cc in ap (λ l. Some (l ++ below)) same

  stuck_above : step (place ∷ rest) r ≡ None → step (place ∷ (rest ++ below)) r ≡ None
  stuck_above is = go (move_of (Some place) r) is
    where
      go : (m : Option Move) → moved m rest ≡ None → moved m (rest ++ below) ≡ None
      go None e = refl
      go (Some m) e = let clash : ⊥ = cc in absurd clash

-- a line inside a body, whatever is around it
pub inner_step : (n : BlockStack) (below : List Open) (r : Role) (next : List Open) → step (block_stack_places n) r ≡ Some next → step (block_stack_places n ++ below) r ≡ Some (next ++ below)
inner_step n below r next is =
    let at = block_stack_place n in
    subst (λ l. step (l ++ below) r ≡ Some (next ++ below)) (sym at.is) (step_above at.place at.below below r next (subst (λ l. step l r ≡ Some next) at.is is))

pub inner_stuck : (n : BlockStack) (below : List Open) (r : Role) → step (block_stack_places n) r ≡ None → step (block_stack_places n ++ below) r ≡ None
inner_stuck n below r is =
    let at = block_stack_place n in
    subst (λ l. step (l ++ below) r ≡ None) (sym at.is) (stuck_above at.place at.below below r (subst (λ l. step l r ≡ None) at.is is))

never_outside : (n : BlockStack) (below : List Open) → block_stack_places n ++ below ≡ [] → ⊥
never_outside n below none =
    let at = block_stack_place n in
    let clash : at.place ∷ (at.below ++ below) ≡ [] = ap (λ l. l ++ below) (sym at.is) ∙ none in
    cc

pub never_in_body : (b : Building) (owner : Owner) (p : OpenBody) → b.stage ≡ InBody owner p → building_places b ≡ [] → ⊥
never_in_body b owner p is none = never_outside p.block_stack (owner_places owner) (sym (ap stage_places is) ∙ none)

pub never_in_class : (b : Building) (c : Class) → b.stage ≡ InClass c → building_places b ≡ [] → ⊥
never_in_class b c is none = let clash : class_place c ∷ [] ≡ [] = sym (ap stage_places is) ∙ none in cc

-- a line that can't be read has no place
pub unknown_stuck : (stack : List Open) → after_line stack role.Unknown ≡ None
unknown_stuck [] = refl
unknown_stuck (Declarations ∷ below) = refl
unknown_stuck (Statements ∷ below) = refl
unknown_stuck (Branch ∷ below) = refl
unknown_stuck (Block ∷ below) = refl
unknown_stuck (_ ∷ below) = refl

-- what has a place in a class
abbrev is_of_class : Role → Bool
is_of_class role.Skip = true
is_of_class role.Field = true
is_of_class role.Construct = true
is_of_class role.Destroy = true
is_of_class role.End = true
is_of_class _ = false

of_class : (k : LineKind) → (k ≡ line_kind.Field → ⊥) → (k ≡ line_kind.ClassField → ⊥) → (k ≡ line_kind.Constructor → ⊥) → (k ≡ line_kind.Destructor → ⊥) → (k ≡ line_kind.End → ⊥) → is_of_class (role_of k) ≡ false
of_class line_kind.Field field class_field constructor destructor end = absurd (field refl)
of_class line_kind.ClassField field class_field constructor destructor end = absurd (class_field refl)
of_class line_kind.Constructor field class_field constructor destructor end = absurd (constructor refl)
of_class line_kind.Destructor field class_field constructor destructor end = absurd (destructor refl)
of_class line_kind.End field class_field constructor destructor end = absurd (end refl)
of_class _ field class_field constructor destructor end = refl

stuck_in_class : (r : Role) (construct destroy : Option Body) → is_of_class r ≡ false → after_line (place_after construct destroy ∷ []) r ≡ None
stuck_in_class role.Skip construct destroy not = let clash : ⊥ = cc in absurd clash
stuck_in_class role.Field construct destroy not = let clash : ⊥ = cc in absurd clash
stuck_in_class role.Construct construct destroy not = let clash : ⊥ = cc in absurd clash
stuck_in_class role.Destroy construct destroy not = let clash : ⊥ = cc in absurd clash
stuck_in_class role.End construct destroy not = let clash : ⊥ = cc in absurd clash
stuck_in_class _ None None not = refl
stuck_in_class _ (Some body) None not = refl
stuck_in_class _ None (Some body) not = refl
stuck_in_class _ (Some body) (Some other) not = refl

-- a line that no class takes
pub no_part : (c : Class) (k : LineKind) → (k ≡ line_kind.Field → ⊥) → (k ≡ line_kind.ClassField → ⊥) → (k ≡ line_kind.Constructor → ⊥) → (k ≡ line_kind.Destructor → ⊥) → (k ≡ line_kind.End → ⊥) → after_line (class_place c ∷ []) (role_of k) ≡ None
no_part c k field class_field constructor destructor end = stuck_in_class (role_of k) c.construct c.destroy (of_class k field class_field constructor destructor end)
