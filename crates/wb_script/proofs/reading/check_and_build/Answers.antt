use Rattle.std.proofs.Common.{◌≡◌, ◌∙◌, sym, ap, subst, map, length, arith, IsTrue, Some}
use Rattle.std.specs.Prelude.{codes}
use Rattle.std.specs.List.{list_all}
use Rattle.std.proofs.lemmas.List.{length-map}
use Rattle.wb_tree.specs.declared.script_lines.ItemKind.TheVariants as item
use Rattle.wb_language.specs.Forms.{role_of_form}
use Rattle.wb_language.specs.Grammar.{IsGrammatical}
use Rattle.wb_language.specs.Names.{nothing_known, known_after, count_among, items_of, literals_of}
use Rattle.wb_language.specs.Resolved.{resolved_line, item_referent}
use Rattle.wb_language.specs.Scripts.{main_of, procedure_referent}
use Rattle.wb_tree.specs.Quiet.{is_quiet}
use Rattle.wb_tree.specs.Sound.{Declared, is_literal_text, is_sound_script}
use Rattle.wb_language.specs.Trees.{counted_from}
use Rattle.wb_script.specs.Building.{AllFit, counts_of}
use Rattle.wb_script.specs.Checks.{AreChecked, IsFirstFault}
use Rattle.wb_lines.specs.BytesOf.{bytes_of_text, bytes_of_texts, bytes_of_form, bytes_of_forms}
use Rattle.wb_script.specs.BytesOf.{declared_by, bytes_of_items, signatures_among, fields_among}
use Rattle.wb_script.proofs.counts.CountedClasses.{counted_classes}
use Rattle.wb_script.proofs.names.FitLemmas.{declared_among}
use Rattle.wb_script.proofs.names.LiteralLemmas.{few_literals, literals_sound}
use Rattle.wb_script.proofs.lists.Passes.{each_length}
use Rattle.wb_script.proofs.leaving.QuietTrees.{quiet_script}
use Rattle.wb_script.proofs.lists.Tests.{together}
use Rattle.wb_script.proofs.names.ReadLemmas.{no_line, main_entry, all_named, lines_fault}
use Rattle.wb_script.proofs.names.ResolvedLemmas.{roles-resolved, all_fit, procedures-resolved, operations-resolved}
use Rattle.wb_script.proofs.reading.check_and_build.Goals as goal

pub script_of-requires-clause-grammar : goal.script_of-requires-clause-grammar
script_of-requires-clause-grammar c =
    let forms = bytes_of_forms c.args.forms.now in
    let found = subst (λ i. AreChecked i forms c.in_ok-found.found) c.in_ok-items.ensures c.in_ok-found.ensures in
    let lines = found.lines in
    subst IsGrammatical (sym (ap (map role_of_form) lines ∙ roles-resolved forms)) c.requires.grammar

pub script_of-requires-clause-fit : goal.script_of-requires-clause-fit
script_of-requires-clause-fit c =
    let forms = bytes_of_forms c.args.forms.now in
    let found = subst (λ i. AreChecked i forms c.in_ok-found.found) c.in_ok-items.ensures c.in_ok-found.ensures in
    let lines = found.lines in
    let texts = c.deref.result.now in
    let as_many : length texts ≡ length (literals_of forms) = sym (length-map texts bytes_of_text) ∙ ap (λ l. length (bytes_of_texts l)) c.deref.ensures.value ∙ ap length found.literals in
    let declared : declared_by (length texts) c.in_ok-items.items ≡ declared_among (length (literals_of forms)) (items_of forms) =
    ap (λ n. declared_among n (bytes_of_items c.in_ok-items.items)) as_many ∙ ap (declared_among (length (literals_of forms))) c.in_ok-items.ensures in
    let right = no_line _ (sym found.wrong_kind ∙ c.in-Ok.ensures.found.named.right) in
    let within = no_line _ (sym found.too_many ∙ c.in-Ok.ensures.found.within) in
    subst (λ (d : Declared). AllFit d c.in_ok-found.found.lines) (sym declared)
    (subst (AllFit (declared_among (length (literals_of forms)) (items_of forms))) (sym lines) (all_fit forms c.requires.grammar c.requires.typed right within))

pub script_of-requires-clause-classes : goal.script_of-requires-clause-classes
script_of-requires-clause-classes c =
    let forms = bytes_of_forms c.args.forms.now in
    let found = subst (λ i. AreChecked i forms c.in_ok-found.found) c.in_ok-items.ensures c.in_ok-found.ensures in
    let lines = found.lines in
    ap (λ l. (counts_of l).classes) lines ∙ counted_classes forms c.requires.grammar c.requires.typed ∙ sym (ap fields_among c.in_ok-items.ensures)

pub script_of-requires-clause-procedures : goal.script_of-requires-clause-procedures
script_of-requires-clause-procedures c =
    let forms = bytes_of_forms c.args.forms.now in
    let found = subst (λ i. AreChecked i forms c.in_ok-found.found) c.in_ok-items.ensures c.in_ok-found.ensures in
    let lines = found.lines in
    ap (λ l. (counts_of l).procedures) lines ∙ procedures-resolved forms c.requires.typed ∙ sym (ap signatures_among c.in_ok-items.ensures)

pub script_of-requires-clause-operations : goal.script_of-requires-clause-operations
script_of-requires-clause-operations c =
    let forms = bytes_of_forms c.args.forms.now in
    let found = subst (λ i. AreChecked i forms c.in_ok-found.found) c.in_ok-items.ensures c.in_ok-found.ensures in
    let lines = found.lines in
    ap (λ l. (counts_of l).operations) lines ∙ operations-resolved forms c.requires.typed ∙ sym (ap (count_among item.Operation) c.in_ok-items.ensures)

pub script_of-requires-clause-few : goal.script_of-requires-clause-few
script_of-requires-clause-few c =
    let forms = bytes_of_forms c.args.forms.now in
    let texts = c.deref.result.now in
    let found = subst (λ i. AreChecked i forms c.in_ok-found.found) c.in_ok-items.ensures c.in_ok-found.ensures in
    let as_many : length texts ≡ length (literals_of forms) = sym (length-map texts bytes_of_text) ∙ ap (λ l. length (bytes_of_texts l)) c.deref.ensures.value ∙ ap length found.literals in
    let few = few_literals forms c.requires.typed in
    let many = length-map c.args.forms.now bytes_of_form in
    let lines : length c.in_ok-found.found.lines ≡ length forms =
    ap length (found.lines) ∙ each_length known_after (resolved_line (items_of forms)) forms nothing_known in
    (omega (arith, as_many, few, many, c.requires.few), omega (arith, lines, many, c.requires.few))

pub script_of-requires-clause-quotable : goal.script_of-requires-clause-quotable
script_of-requires-clause-quotable c =
    let literals = ap bytes_of_texts c.deref.ensures.value ∙ c.in_ok-found.ensures.literals in
    subst (λ l. IsTrue (list_all is_literal_text l)) (sym literals) (literals_sound (bytes_of_forms c.args.forms.now) c.requires.typed)

pub script_of-requires-clause-main : goal.script_of-requires-clause-main
script_of-requires-clause-main c =
    let forms = bytes_of_forms c.args.forms.now in
    let found = subst (λ i. AreChecked i forms c.in_ok-found.found) c.in_ok-items.ensures c.in_ok-found.ensures in
    let lines = found.lines in
    let is : main_of forms ≡ Some c.in-Ok.main = ap (λ l. procedure_referent (item_referent l (codes "main"))) (sym c.in_ok-items.ensures) ∙ c.in-Ok.ensures.found.place in
    let right = no_line _ (sym found.wrong_kind ∙ c.in-Ok.ensures.found.named.right) in
    rw lines (main_entry forms c.in-Ok.main c.requires.typed is right)

pub returns-clause-tree : goal.returns-clause-tree
returns-clause-tree c =
    let forms = bytes_of_forms c.args.forms.now in
    let found = subst (λ i. AreChecked i forms c.in_ok-found.found) c.in_ok-items.ensures c.in_ok-found.ensures in
    let lines = found.lines in
    let is : main_of forms ≡ Some c.in-Ok.main = ap (λ l. procedure_referent (item_referent l (codes "main"))) (sym c.in_ok-items.ensures) ∙ c.in-Ok.ensures.found.place in
    let made = c.in_ok-script-in-Ok.ensures in
    record {
      named = all_named forms c.in_ok-found.found found c.in-Ok.ensures.found.named;
      main = is ∙ ap Some (sym made.main);
      within = no_line _ (sym found.too_many ∙ c.in-Ok.ensures.found.within);
      literals = made.literals ∙ ap bytes_of_texts c.deref.ensures.value ∙ found.literals;
      tree = made.tree ∙ ap (counted_from 1) lines;
    }

pub returns-clause-sound : goal.returns-clause-sound
returns-clause-sound c =
    let script = c.in_ok-script-in-Ok.script in
    let sound = c.in_ok-script-in-Ok.ensures.sound in
    together (is_sound_script script) (is_quiet script) sound (quiet_script (bytes_of_forms c.args.forms.now) script (returns-clause-tree c) sound)

pub returns-in-Err-clause-fault : goal.returns-in-Err-clause-fault
returns-in-Err-clause-fault c =
    let forms = bytes_of_forms c.args.forms.now in
    let found = subst (λ i. AreChecked i forms c.in_ok-found.found) c.in_ok-items.ensures c.in_ok-found.ensures in
    lines_fault forms c.in_ok-found.found c.in-Err.fault found (subst (λ i. IsFirstFault i c.in_ok-found.found.first c.in-Err.fault) c.in_ok-items.ensures c.in-Err.ensures.fault)
