use Rattle.std.proofs.Common.{◌≡◌, arith, subst, sym}
use Rattle.std.proofs.lemmas.Grind.{common_steps}
use Rattle.workbench.specs.Ascii.{HasPrintableLines}
use Rattle.workbench.specs.Brief.{brief_text}
use Rattle.workbench.proofs.BriefLemmas.{brief_printable}
use Rattle.workbench.proofs.brief.without_rows.Goals as goal

pub returns-clause-printable : goal.returns-clause-printable
returns-clause-printable c =
    let kept : c.loop-rest.brief.items ≡ brief_text c.args.text.now = grind (arith, common_steps) in
    subst HasPrintableLines (sym kept) (brief_printable c.args.text.now c.requires)
