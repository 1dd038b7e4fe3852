use Rattle.std.proofs.Common.{◌≡◌, ◌≢◌, ◌+◌, ◌*◌, ◌/◌, ℕ, slice_index, refl, sym, ◌∙◌, ap, subst}
use Rattle.std.proofs.lemmas.List.{get_or-set_same, get_or-set_other}
use Rattle.wb_cells.specs.Maxima.{IsGreatest}
use Rattle.wb_cells.proofs.Spans.{renewed_spans, turned, turned_back}
use Rattle.wb_cells.proofs.maxima.renew.Goals as goal

pub returns-then-now-was-clause-renewed : goal.returns-then-now-was-clause-renewed
returns-then-now-was-clause-renewed c f old others are =
    let g = slice_index c.args.numbers.now in
    let j = c.args.at / 64 in
    let is : IsGreatest f (j * 64) (j * 64 + 64) c.number-was.result = subst (IsGreatest f (j * 64) (j * 64 + 64)) (sym c.number-was.ensures) (turned f j _ (are j)) in
    let now : IsGreatest g (64 * j) (64 * j + 64) c.greatest_now-now.result = turned_back g j _ (c.greatest_now-now.ensures f old others is) in
    renewed_spans f g c.args.spans.now c.args.spans.now c.args.at are others (λ i other. refl)
    (subst (IsGreatest g (64 * j) (64 * j + 64)) (c.if-now-was.true ∙ c.number-was.ensures) now)

pub returns-clause-renewed : goal.returns-clause-renewed
returns-clause-renewed c f old others are =
    let g = slice_index c.args.numbers.now in
    let j = c.args.at / 64 in
    let is : IsGreatest f (j * 64) (j * 64 + 64) c.number-was.result = subst (IsGreatest f (j * 64) (j * 64 + 64)) (sym c.number-was.ensures) (turned f j _ (are j)) in
    let now : IsGreatest g (64 * j) (64 * j + 64) c.greatest_now-now.result = turned_back g j _ (c.greatest_now-now.ensures f old others is) in
    let here : slice_index c.set.new.self j ≡ c.greatest_now-now.result =
    ap (λ l. slice_index l j) c.set.ensures ∙ get_or-set_same c.args.spans.now j c.greatest_now-now.result 0 c.requires.room in
    let same : (i : ℕ) → i ≢ j → slice_index c.set.new.self i ≡ slice_index c.args.spans.now i =
    λ i other. ap (λ l. slice_index l i) c.set.ensures ∙ get_or-set_other c.args.spans.now j i c.greatest_now-now.result 0 other in
    renewed_spans f g c.args.spans.now c.set.new.self c.args.at are others same (subst (IsGreatest g (64 * j) (64 * j + 64)) (sym here) now)
