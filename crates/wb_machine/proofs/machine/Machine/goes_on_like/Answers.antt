use Rattle.std.proofs.Common.{sym, ap, ◌∙◌}
use Rattle.wb_renaming.proofs.SameNumbers.{state-later, value-later}
use Rattle.wb_renaming.proofs.SameNumbers as numbers
use Rattle.wb_renaming.specs.SameButNumbers.{Renaming}
use Rattle.wb_machine.specs.Alike.{GoesOnLike}
use Rattle.wb_machine.specs.Seen.{Seen}
use Rattle.wb_machine.proofs.likeness.GrownMaps.{by-both}
use Rattle.wb_machine.proofs.likeness.RunsAlike.{goes-on-like}
use Rattle.wb_machine.proofs.machine.Machine.goes_on_like.Goals as goal

pub returns-then-is_like : goal.returns-then-is_like
returns-then-is_like c e =
    let m = c.other.inside in
    let n = c.self.inside in
    let here = c.other.view_is in
    let there = c.self.view_is in
    let w = c.is_like-then-is_like.new.names in
    let more = c.is_like-then-is_like.ensures.grown in
    let first = c.is_like.ensures.grown in
    let fork = c.is_comparable.ensures.here c.if-not-is_comparable.false in
    let ahead = c.is_comparable.ensures.there c.if-not-is_comparable.false in
    by-both GoesOnLike (sym there) (sym here)
    (goes-on-like w m n c.other.invariant c.self.invariant (ap (λ (s : Seen). s.script) there ∙ sym c.requires.script ∙ sym (ap (λ (s : Seen). s.script) here)) (record {
      renaming = more.renaming (first.renaming c.new-names.ensures.renaming);
      made = sym (more.made ∙ first.made ∙ ap (λ (r : Renaming). r.made) c.new-names.ensures.map ∙ c.attempts-made.ensures.so_far ∙ sym (ap (λ (s : Seen). s.attempts) here));
      other_made = sym (more.other_made ∙ first.other_made ∙ ap (λ (r : Renaming). r.other_made) c.new-names.ensures.map ∙ c.attempts-other_made.ensures.so_far ∙ sym (ap (λ (s : Seen). s.attempts) there));
      budget = ap (λ (s : Seen). s.budget) there ∙ sym (c.is_comparable.ensures.budget c.if-not-is_comparable.false) ∙ sym (ap (λ (s : Seen). s.budget) here);
      begun = ap (λ (s : Seen). s.begun) here ∙ ahead.1;
      other_begun = ap (λ (s : Seen). s.begun) there ∙ fork.1;
      well = ap (λ (s : Seen). s.failed) here ∙ ahead.0;
      other_well = ap (λ (s : Seen). s.failed) there ∙ fork.0;
      ending = c.is_at_place_of.ensures.here c.if-not-is_at_place_of.false;
      other_ending = c.is_at_place_of.ensures.there c.if-not-is_at_place_of.false;
      callers = numbers.all-weaker (λ v u r. value-later more.pairs r) (c.is_like.ensures.callers c.if-is_like.true);
      state = λ script. state-later more.pairs (c.is_like.ensures.state c.if-is_like.true script);
      pieces = c.is_like-then-is_like.ensures.same e;
    }))
