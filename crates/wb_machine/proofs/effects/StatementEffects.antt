-- What was carried out comes to what a statement means: the frame of each proof, and number operands.
use Rattle.std.proofs.Common.{◌≡◌, ℕ, refl, ap, ◌∙◌, sym, subst, None}
use Rattle.wb_heap_model.specs.declared.heap.Rule.{Rule}
use Rattle.wb_tree.specs.declared.script.Script.{Script}
use Rattle.wb_tree.specs.declared.script.Number.{Number}
use Rattle.wb_tree.specs.declared.script.Number.TheVariants as N
use Rattle.wb_meaning.specs.State.{Process, and_then}
use Rattle.wb_meaning.specs.Operands.{number_of}
use Rattle.wb_meaning.specs.Statements.{Layer, statement}
use Rattle.wb_machine.specs.declared.pieces.Ending.{Ending}
use Rattle.wb_machine.specs.RunState.{RunState, state_of}
use Rattle.wb_machine.specs.Flow.{flow, ended_by, IsSameFlow, FitsStep, IsCarriedAnywhere, IsCarriedOut}
pub use Rattle.wb_machine.proofs.turns.Scripts.{and_left, and_right}
pub use Rattle.wb_machine.proofs.effects.PointerOperands.{pointer_is, stored_is, fine_first, fine_rest, fine_left, fine_right}
use Rattle.wb_machine.specs.PointerOperands.{operands_refusal}
use Rattle.wb_machine.specs.Effects.{Effect, number_read}
use Rattle.wb_machine.specs.Owed.{CarriesOut}

-- a statement means what was carried out
abbrev pub Means : Script → RunState → Layer → Effect → Type 0
Means script h layer c = IsCarriedAnywhere script layer h c.ending c.state

-- where a number of items were at the entry of the innermost TRAP
abbrev pub MeansOver : Script → ℕ → RunState → Layer → Effect → Type 0
MeansOver script floor h layer c = IsCarriedOut script floor layer h c.ending c.state

-- a process comes to what was carried out
abbrev pub ComesTo : Rule → Script → RunState → Process → Effect → Type 0
ComesTo r script h p c = IsSameFlow r (ended_by c.ending (state_of script c.state)) c.state p h

-- what was carried out is what the statement makes
pub effect_over : {h : RunState} {c : Effect} {ending : Ending} {g : RunState} {floor : ℕ} (script : Script) {layer : Layer} → operands_refusal h layer ≡ None → (was : Layer) →
    layer ≡ was → CarriesOut h c ending g →
    (operands_refusal h was ≡ None → MeansOver script floor h was c) → IsCarriedOut script floor layer h ending g
effect_over {h} {c} {ending} {g} script {layer} fine was is made means r f rec at over k =
    let fits : FitsStep r h c.ending c.state = subst (λ (x : RunState). FitsStep r h c.ending x) made.becomes (subst (λ e. FitsStep r h e g) made.ends_so f) in
    ap (λ e. flow r (and_then (ended_by e (state_of script g)) k) g) made.ends_so
    ∙ ap (λ x. flow r (and_then (ended_by c.ending (state_of script x)) k) x) made.becomes
    ∙ means (sym (ap (operands_refusal h) is) ∙ fine) r fits rec at over k
    ∙ ap (λ (l : Layer). flow r (and_then (statement script rec at l (state_of script h)) k) h) (sym is)

-- wherever it is
pub effect_of : {h : RunState} {c : Effect} {ending : Ending} {g : RunState} {floor : ℕ} (script : Script) {layer : Layer} → operands_refusal h layer ≡ None → (was : Layer) →
    layer ≡ was → CarriesOut h c ending g →
    (operands_refusal h was ≡ None → Means script h was c) → IsCarriedOut script floor layer h ending g
effect_of script fine was is made means = effect_over script fine was is made (λ none r f rec at over k. means none r f rec at k)

-- the number of an operand is that of the definitions
pub number_is : (script : Script) (h : RunState) (v : Number) → number_of (state_of script h) v ≡ number_read h v
number_is script h (N.Constant z) = refl
number_is script h (N.Variable i) = refl
