use Rattle.std.proofs.Common.{◌≡◌, ◌∙◌, List, Ok, Option, ap, arith, length, lit<, map, subst, sym, ℕ}
use Rattle.std.specs.Prelude.{IfOk}
use Rattle.std.proofs.lemmas.Iterator.Consumers.{map_from_collect}
use Rattle.std.proofs.lemmas.Iterator.Splits.{YieldsList-from_str_split}
use Rattle.std.proofs.lemmas.List.{length-map}
use Rattle.wb_command_line.specs.SetList.{ascending_in, between_commas}
use Rattle.wb_command_line.proofs.SetLemmas.{few_listed, many_unlisted}
use Rattle.wb_command_line.proofs.command_line.set_list.numbers_listed.Goals as goal

pub returns-then-len-le-MOST_NUMBERS : goal.returns-then-len-le-MOST_NUMBERS
returns-then-len-le-MOST_NUMBERS c =
    let cut : map (λ text. text.now) c.in_ok-texts.texts.items ≡ between_commas c.args.text.now =
    map_from_collect {E = ℕ} (Ok c.in_ok-texts.texts) c.in_ok-texts.ensures.ran (YieldsList-from_str_split 44 c.args.text.now (lit< tt) c.split.ensures.text c.split.ensures.has_more c.split.ensures.pattern) in
    let parts : map (λ text. text.now) c.as_slice.result.now ≡ between_commas c.args.text.now = ap (map (λ text. text.now)) c.as_slice.ensures.value ∙ cut in
    let count = length-map c.in_ok-texts.texts.items (λ text. text.now) in
    let few = few_listed c.args.text.now (omega (arith, sym (ap length cut), count, c.len.ensures, c.if-len-le-MOST_NUMBERS.true)) in
    subst (λ (o : Option (List ℕ)). IfOk c.numbers_ascending.result (λ numbers. numbers ≡ o)) (ap ascending_in parts ∙ few) c.numbers_ascending.ensures

pub returns : goal.returns
returns c =
    let cut : map (λ text. text.now) c.in_ok-texts.texts.items ≡ between_commas c.args.text.now =
    map_from_collect {E = ℕ} (Ok c.in_ok-texts.texts) c.in_ok-texts.ensures.ran (YieldsList-from_str_split 44 c.args.text.now (lit< tt) c.split.ensures.text c.split.ensures.has_more c.split.ensures.pattern) in
    let count = length-map c.in_ok-texts.texts.items (λ text. text.now) in
    many_unlisted c.args.text.now (omega (arith, sym (ap length cut), count, c.len.ensures, c.if-len-le-MOST_NUMBERS.false))
