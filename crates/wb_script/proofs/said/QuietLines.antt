-- A pass refuses the lines that may leave where nothing may.
use Rattle.std.proofs.Common.{◌≡◌, ℕ, ◌<◌, List, [], ◌∷◌, ◌++◌, Option, Some, None, Bool, true, false, not, ◌&&◌, ◌||◌, refl, sym, ap, ◌∙◌}
use Rattle.std.specs.Prelude.{if◌then◌else◌, is_some}
use Rattle.std.proofs.lemmas.Bool.{false≢true}
use Rattle.wb_language.specs.declared.fault.ScriptFault.{ScriptFault}
use Rattle.wb_language.specs.declared.fault.ScriptFault.TheVariants.{MayLeave}
use Rattle.wb_tree.specs.declared.script.Script.{Script}
use Rattle.wb_tree.specs.declared.script_lines.BodyKind.{BodyKind}
use Rattle.wb_tree.specs.declared.script_lines.BodyKind.TheVariants as of
use Rattle.wb_tree.specs.declared.script_lines.LineKind.{LineKind}
use Rattle.wb_tree.specs.declared.script_lines.LineKind.TheVariants as line_kind
use Rattle.wb_tree.specs.declared.script_lines.Form.{Form}
use Rattle.wb_tree.specs.declared.script_lines.Form.TheVariants.{Skip, Unknown, Line}
use Rattle.wb_language.specs.DeclaredAgain.{Space, begins_space}
use Rattle.wb_language.specs.FaultOrder.{number_of_fault}
use Rattle.wb_language.specs.FirstLines.{IsFirstLine, IsOfNoLine}
use Rattle.wb_language.specs.Forms.{forms_of, role_of_form}
use Rattle.wb_language.specs.Kinds.{may_leave}
use Rattle.wb_language.specs.LineKinds.{is_loud, may_leave_in, role_of, text_of}
use Rattle.wb_language.specs.Lines.{lines_of}
use Rattle.wb_language.specs.Names.{Text, NamesSoFar, begins_body, body_after, body_in, is_among, known_after, nothing_known}
use Rattle.wb_language.specs.Passes.{state_after}
use Rattle.wb_language.specs.QuietBodies.{quiet_words, does_something, begins_quiet_body, IsInQuietBody, MayLeaveThere}
use Rattle.wb_language.specs.Scripts.{IsFaultOf, IsScriptOf}
use Rattle.wb_script.proofs.names.DeclaredHere.{known_following}
use Rattle.wb_script.proofs.said.LaterFaults.{none_leaving}
use Rattle.wb_script.proofs.said.FirstSaid.{AreRefused, first_said, none_said}
use Rattle.wb_script.proofs.said.SinceLines.{AreSince, since_after, since_from, lines_since, since_head, they_are_since}

-- what a body is of, by its lines
abbrev pub body_of : List (Form Text) → BodyKind
body_of [] = of.Procedure
body_of (head ∷ inside) = body_after (body_in head) of.Procedure

body_begun : (form : Form Text) → is_some (body_in form) ≡ begins_body (role_of_form form)
body_begun (Line line_kind.Proc operands) = refl
body_begun (Line k operands) = refl
body_begun Skip = refl
body_begun Unknown = refl

abbrev pub heads_body : Form Text → Bool
heads_body = begins_space Space.of_body

body_next : (known : NamesSoFar) (since : List (Form Text)) (form : Form Text) → known.body ≡ body_of since → body_after (body_in form) known.body ≡ body_of (since_after heads_body since form)
body_next known since form is = go (begins_body (role_of_form form)) (body_in form) refl (body_begun form)
  where
    unchanged : (since : List (Form Text)) → known.body ≡ body_of since → body_in form ≡ None → known.body ≡ body_of (since ++ form ∷ [])
    unchanged [] is none = is ∙ ap (λ o. body_after o of.Procedure) (sym none)
    unchanged (head ∷ inside) is none = is

    go : (b : Bool) (o : Option BodyKind) → body_in form ≡ o → is_some o ≡ b → body_after o known.body ≡ body_of (if b then form ∷ [] else since ++ form ∷ [])
    go true (Some kind) e some = ap (λ o. body_after o of.Procedure) (sym e)
    go true None e some = let clash : ⊥ = cc in absurd clash
    go false (Some kind) e some = let clash : ⊥ = cc in absurd clash
    go false None e some = unchanged since is e

body_from : (lines since : List (Form Text)) (known : NamesSoFar) → known.body ≡ body_of since → (state_after known_after known lines).body ≡ body_of (since_from heads_body since lines)
body_from [] since known is = is
body_from (form ∷ lines) since known is = body_from lines (since_after heads_body since form) (known_after known form) (body_next known since form is)

pub body_known : (before : List (Form Text)) → (known_following before).body ≡ body_of (lines_since heads_body before)
body_known before = body_from before [] nothing_known refl

-- a line that may leave is one that does something, and begins with none of the few words
loud_is : (k : LineKind) → is_loud k ≡ (does_something (role_of k) && not (is_among quiet_words (text_of k)))
loud_is line_kind.Class = refl
loud_is _ = refl

alone : (b : Bool) → (b || false) ≡ true → b ≡ true
alone true is = refl
alone false is = let clash : ⊥ = cc in absurd clash

quiet_there : {lines since : List (Form Text)} (k : LineKind) → AreSince heads_body lines since → may_leave_in (body_of since) k ≡ true → IsInQuietBody lines × (is_loud k ≡ true)
quiet_there k AreSince.no_lines is = absurd (false≢true is)
quiet_there k (AreSince.last_lines earlier inside (Line line_kind.Op operands) stays_in first) is = ((earlier, inside, Line line_kind.Op operands, refl, refl, stays_in), is)
quiet_there k (AreSince.last_lines earlier inside (Line line_kind.Destructor operands) stays_in first) is = ((earlier, inside, Line line_kind.Destructor operands, refl, refl, stays_in), is)
quiet_there k (AreSince.last_lines earlier inside (Line other operands) stays_in first) is = absurd (false≢true is)
quiet_there k (AreSince.last_lines earlier inside Skip stays_in first) is = absurd (false≢true is)
quiet_there k (AreSince.last_lines earlier inside Unknown stays_in first) is = absurd (false≢true is)

leaves_there : (forms before : List (Form Text)) (form : Form Text) → may_leave (known_following before) form ≡ true → MayLeaveThere forms before form
leaves_there forms before Skip is = absurd (false≢true is)
leaves_there forms before Unknown is = absurd (false≢true is)
leaves_there forms before (Line k operands) is =
    let there = ap (λ body. may_leave_in body k) (sym (body_known before)) ∙ alone (may_leave_in (known_following before).body k) is in
    let (quiet, loud) = quiet_there k (they_are_since heads_body before) there in
    (quiet, sym (loud_is k) ∙ loud)

loud_there : (head : Form Text) (k : LineKind) → begins_quiet_body head ≡ true → may_leave_in (body_after (body_in head) of.Procedure) k ≡ is_loud k
loud_there (Line line_kind.Op operands) k is = refl
loud_there (Line line_kind.Destructor operands) k is = refl
loud_there (Line other operands) k is = absurd (false≢true is)
loud_there Skip k is = absurd (false≢true is)
loud_there Unknown k is = absurd (false≢true is)

heads_quiet : (head : Form Text) → begins_quiet_body head ≡ true → heads_body head ≡ true
heads_quiet (Line line_kind.Op operands) is = refl
heads_quiet (Line line_kind.Destructor operands) is = refl
heads_quiet (Line other operands) is = absurd (false≢true is)
heads_quiet Skip is = absurd (false≢true is)
heads_quiet Unknown is = absurd (false≢true is)

is_refused : (forms before : List (Form Text)) (form : Form Text) → MayLeaveThere forms before form → may_leave (known_following before) form ≡ true
is_refused forms before Skip (quiet, loud) = absurd (false≢true loud)
is_refused forms before Unknown (quiet, loud) = absurd (false≢true loud)
is_refused forms before (Line k operands) ((outside, inside, head, parts, heads, stays_in), loud) =
    let body = body_known before ∙ ap (λ l. body_of (lines_since heads_body l)) parts ∙ ap body_of (since_head heads_body outside inside head (heads_quiet head heads) stays_in) in
    ap (λ b. may_leave_in b k || false) body ∙ ap (λ b. b || false) (loud_there head k heads ∙ loud_is k ∙ loud)

refused_leaving : (forms : List (Form Text)) → AreRefused MayLeaveThere may_leave forms
refused_leaving forms before after form whole = (leaves_there forms before form, is_refused forms before form)

pub leaving_in_quiet_body : (bytes : List ℕ) (n : ℕ) → IsFaultOf bytes (MayLeave n) → IsFirstLine MayLeaveThere (forms_of (lines_of bytes)) n
leaving_in_quiet_body bytes n (formed, (known, once, right, is)) =
    let forms = forms_of (lines_of bytes) in
    first_said MayLeaveThere may_leave forms (refused_leaving forms) n is

pub script_quiet : (bytes : List ℕ) (script : Script) → IsScriptOf bytes script → IsOfNoLine MayLeaveThere (forms_of (lines_of bytes))
script_quiet bytes script is =
    let forms = forms_of (lines_of bytes) in
    none_said MayLeaveThere may_leave forms (refused_leaving forms) is.tree.named.quiet

pub none_leaving_later : (bytes : List ℕ) (fault : ScriptFault) → IsFaultOf bytes fault → 7 < number_of_fault fault → IsOfNoLine MayLeaveThere (forms_of (lines_of bytes))
none_leaving_later bytes fault is later =
    let (formed, none) = none_leaving bytes fault is later in
    let forms = forms_of (lines_of bytes) in
    none_said MayLeaveThere may_leave forms (refused_leaving forms) none
