use Rattle.std.proofs.Common.{ap, ◌∙◌, sym}
use Rattle.std.proofs.lemmas.List.{map_more, take_all}
use Rattle.wb_lines.specs.BytesOf.{bytes_of_text, bytes_of_texts}
use Rattle.wb_script.proofs.reading.literals_of.Goals as goal

pub loop-text-preserved : goal.loop-text-preserved
loop-text-preserved c = rw (c.in_ok-add_text.ensures, c.loop-text.invariant) (sym (map_more bytes_of_text c.args.texts.now c.loop-text.text-index _ c.loop-text-test.true))

pub returns : goal.returns
returns c = c.from_vec.ensures ∙ c.loop-text.invariant ∙ ap bytes_of_texts (take_all c.loop-text.text-index c.args.texts.now c.loop-text-test.false)
