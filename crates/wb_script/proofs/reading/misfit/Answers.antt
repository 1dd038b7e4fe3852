use Rattle.std.proofs.Common.{List, ◌∙◌, sym, subst}
use Rattle.std.specs.Prelude.{IfOk, MatchOption}
use Rattle.wb_tree.specs.declared.script_lines.Role.{Role}
use Rattle.wb_language.specs.Grammar.{IsGrammatical, IsFirstMisfit}
use Rattle.wb_lines.specs.BytesOf.{bytes_of_text}
use Rattle.wb_script.proofs.names.ReadLemmas.{roles-renamed}
use Rattle.wb_script.proofs.reading.misfit.Goals as goal

pub returns : goal.returns
returns c =
    let same = roles-renamed bytes_of_text c.args.forms.now ∙ sym c.in_ok-roles.ensures ∙ sym c.deref.ensures.value in
    subst (λ (s : List Role). IfOk c.first_misfit.result (λ found. MatchOption found (IsGrammatical s) (IsFirstMisfit s))) (sym same) c.first_misfit.ensures
