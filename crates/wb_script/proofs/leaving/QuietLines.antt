-- Lines of which none may leave where it is: those of a script, where the check of its lines refused none.
use Rattle.std.proofs.Common.{◌≡◌, refl, ℕ, suc, List, [], ◌∷◌, ◌++◌, Bool, true, false, not, ◌&&◌, Option, Some, None, if◌then◌else◌, option_map}
use Rattle.std.specs.List.{list_any}
use Rattle.wb_tree.specs.declared.script_lines.BodyKind.{BodyKind}
use Rattle.wb_tree.specs.declared.script_lines.BodyKind.TheVariants as of
use Rattle.wb_tree.specs.declared.script_lines.Form.{Form}
use Rattle.wb_tree.specs.declared.script_lines.Form.TheVariants.{Skip, Unknown, Line}
use Rattle.wb_language.specs.Kinds.{may_leave}
use Rattle.wb_language.specs.LineKinds.{may_leave_in}
use Rattle.wb_language.specs.Names.{Text, NamesSoFar, Declaration, nothing_known, known_after, line_kind_in, body_in, body_after, items_of}
use Rattle.wb_language.specs.Passes.{first_bad, each_with}
use Rattle.wb_language.specs.Resolved.{resolved_line, resolved}
use Rattle.wb_language.specs.Scripts.{first_leaving}
use Rattle.wb_language.specs.Trees.{Indexed, Marked, counted_from}

-- a line cannot leave in a body of a kind
abbrev pub is_quiet_in : BodyKind → Indexed → Bool
is_quiet_in body form = not (list_any (may_leave_in body) (line_kind_in form))

-- the kind of the body that is open after a line, or was the last
abbrev pub following_body : BodyKind → Indexed → BodyKind
following_body body form = body_after (body_in form) body

-- none of the lines may leave, where the first is in a body of this kind or after it
abbrev pub are_quiet_from : BodyKind → List Marked → Bool
are_quiet_from body [] = true
are_quiet_from body (m ∷ lines) = is_quiet_in body m.1 && are_quiet_from (following_body body m.1) lines

abbrev pub QuietFrom : BodyKind → List Marked → Type 0
QuietFrom body lines = are_quiet_from body lines ≡ true

-- wherever the lines are, none of them may leave there
abbrev pub QuietSomewhere : List Marked → Type 0
QuietSomewhere lines = (body : BodyKind) × QuietFrom body lines

pub both : (a b : Bool) → (a && b) ≡ true → (a ≡ true) × (b ≡ true)
both true b e = (refl, e)
both false b e = let clash : ⊥ = cc in absurd clash

pub both_hold : (a b : Bool) → a ≡ true → b ≡ true → (a && b) ≡ true
both_hold true b p q = q
both_hold false b p q = p

pub quiet_parts : (lines rest : List Marked) (body : BodyKind) → QuietFrom body (lines ++ rest) → QuietFrom body lines × QuietSomewhere rest
quiet_parts [] rest body is = (refl, (body, is))
quiet_parts (m ∷ lines) rest body is =
    let (here, more) = both (is_quiet_in body m.1) (are_quiet_from (following_body body m.1) (lines ++ rest)) is in
    let (first, following) = quiet_parts lines rest (following_body body m.1) more in
    (both_hold (is_quiet_in body m.1) (are_quiet_from (following_body body m.1) lines) here first, following)

unrefused : (b : Bool) (o : Option ℕ) → (if b then Some 0 else option_map suc o) ≡ None → (not b ≡ true) × (o ≡ None)
unrefused true o e = let clash : ⊥ = cc in absurd clash
unrefused false None e = (refl, refl)
unrefused false (Some n) e = let clash : ⊥ = cc in absurd clash

module _ (items : List Declaration) where
  none_leaves : (forms : List (Form Text)) (known : NamesSoFar) (number : ℕ) → first_bad known_after may_leave known forms ≡ None → QuietFrom known.body (counted_from number (each_with known_after (resolved_line items) known forms))
  none_leaves [] known number none = refl
  none_leaves (Skip ∷ forms) known number none =
      none_leaves forms (known_after known Skip) (suc number) (unrefused false (first_bad known_after may_leave (known_after known Skip) forms) none).1
  none_leaves (Unknown ∷ forms) known number none =
      none_leaves forms (known_after known Unknown) (suc number) (unrefused false (first_bad known_after may_leave (known_after known Unknown) forms) none).1
  none_leaves (Line line_kind operands ∷ forms) known number none =
      let form : Form Text = Line line_kind operands in
      let (here, more) = unrefused (may_leave known form) (first_bad known_after may_leave (known_after known form) forms) none in
      both_hold (not (may_leave known form)) (are_quiet_from (known_after known form).body (counted_from (suc number) (each_with known_after (resolved_line items) (known_after known form) forms))) here (none_leaves forms (known_after known form) (suc number) more)

pub quiet_lines : (forms : List (Form Text)) → first_leaving forms ≡ None → QuietFrom of.Procedure (counted_from 1 (resolved forms))
quiet_lines forms none = none_leaves (items_of forms) forms nothing_known 1 none
