use Rattle.std.proofs.Common.{◌∙◌, sym, ap, subst, length, arith}
use Rattle.std.proofs.lemmas.List.{length-map}
use Rattle.wb_language.specs.Forms.{forms_of}
use Rattle.wb_language.specs.Lines.{lines_of}
use Rattle.wb_lines.specs.BytesOf.{bytes_of_texts, bytes_of_forms}
use Rattle.wb_lines.specs.Typed.{AreTyped}
use Rattle.wb_lines.proofs.Cuts.{lines_within}
use Rattle.wb_lines.proofs.Foreign.{at_most}
use Rattle.wb_script.proofs.one_script.TextLemmas.{few_lines, faults_of_lines, scripts_of_lines}
use Rattle.wb_lines.proofs.TypedLemmas.{lines_typed}
use Rattle.wb_script.proofs.reading.read_text.Goals as goal

pub read_forms-requires-clause-few : goal.read_forms-requires-clause-few
read_forms-requires-clause-few c =
    let are = ap (bytes_of_forms) c.deref-2.ensures.value ∙ c.in_ok-forms.ensures ∙ ap (λ l. forms_of (bytes_of_texts l)) c.deref.ensures.value ∙ ap forms_of c.in_ok-lines.ensures in
    let few = few_lines c.args.bytes.now c.requires.short in
    omega (arith, few, simp length-map at (ap length are))

pub read_forms-requires-clause-typed : goal.read_forms-requires-clause-typed
read_forms-requires-clause-typed c =
    let are = ap (bytes_of_forms) c.deref-2.ensures.value ∙ c.in_ok-forms.ensures ∙ ap (λ l. forms_of (bytes_of_texts l)) c.deref.ensures.value ∙ ap forms_of c.in_ok-lines.ensures in
    subst AreTyped (sym are) (lines_typed (lines_of c.args.bytes.now) (lines_within 65536 c.args.bytes.now (at_most c.args.bytes.now c.requires.short)))

pub returns-clause-fault : goal.returns-clause-fault
returns-clause-fault c =
    let are = ap (bytes_of_forms) c.deref-2.ensures.value ∙ c.in_ok-forms.ensures ∙ ap (λ l. forms_of (bytes_of_texts l)) c.deref.ensures.value ∙ ap forms_of c.in_ok-lines.ensures in
    faults_of_lines c.args.bytes.now _ c.read_forms.result are c.requires c.read_forms.ensures.fault

pub returns-clause-script : goal.returns-clause-script
returns-clause-script c =
    let are = ap (bytes_of_forms) c.deref-2.ensures.value ∙ c.in_ok-forms.ensures ∙ ap (λ l. forms_of (bytes_of_texts l)) c.deref.ensures.value ∙ ap forms_of c.in_ok-lines.ensures in
    scripts_of_lines c.args.bytes.now _ c.read_forms.result are c.requires c.read_forms.ensures.grammar c.read_forms.ensures.tree
