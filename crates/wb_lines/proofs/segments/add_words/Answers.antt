use Rattle.wb_lines.specs.BytesOf.{bytes_of_text, bytes_of_texts}
use Rattle.wb_lines.proofs.BytesOf.{map_some}
use Rattle.wb_lines.proofs.FirstSegments.{words_more}
use Rattle.wb_lines.proofs.segments.add_words.Goals as goal

pub loop-rest-preserved : goal.loop-rest-preserved
loop-rest-preserved c =
    rw (c.in_ok-add_some.ensures, map_some bytes_of_text c.loop-rest.words.items c.unless_empty.result)
    (words_more c.loop-rest.rest.now c.first_segment.result.0.now c.first_segment.result.1.now _ (bytes_of_texts c.loop-rest.words.items) _ c.first_segment.ensures.pieces c.unless_empty.ensures c.loop-rest.invariant)
