-- Proof: search_states. What the sets that are tried show is what those of the part show.
use Rattle.std.proofs.Common.{rules, ◌≡◌, Bool, subst}
use Rattle.wb_states.specs.Answers.{at_least_one, IsAnswer}
use Rattle.wb_states.specs.declared.searching.Searched.{Searched}
use Rattle.wb_states.specs.declared.searching.Searched.TheVariants as found
use Rattle.wb_states.proofs.AnswerLemmas.{at-least-shown, ground-of, many-told, shown-in}
use Rattle.wb_states.proofs.searching.search_states.Goals as goal

pub returns-in-Some-clause-shown : goal.returns-in-Some-clause-shown
returns-in-Some-clause-shown g c shown e =
    let script = c.args.script.now in
    let answer : Searched = c.in-Some.answer in
    let whole : Bool = c.is_whole.result in
    let told = c.at_least_one.ensures in
    let same : at_least_one answer ≡ found.Shown shown = cc in
    let known : IsAnswer (ground-of script c.args.conditions.budget c.args.conditions.shape whole c.args.part c.args.last c.args.states) answer = search rules in
    shown-in script c.args.conditions.budget c.args.conditions.shape whole c.args.part c.args.last c.args.states c.requires.last c.is_whole.ensures shown
    (subst (IsAnswer (ground-of script c.args.conditions.budget c.args.conditions.shape whole c.args.part c.args.last c.args.states)) (at-least-shown answer shown same) known)

pub returns-in-Some-2-clause-shown : goal.returns-in-Some-2-clause-shown
returns-in-Some-2-clause-shown g c shown e =
    let script = c.args.script.now in
    let answer : Searched = c.in-Some-2.answer in
    let whole : Bool = c.is_whole.result in
    let told = c.at_least_one-in-Some-2.ensures in
    let same : at_least_one answer ≡ found.Shown shown = cc in
    let known : IsAnswer (ground-of script c.args.conditions.budget c.args.conditions.shape whole c.args.part c.args.last c.args.states) answer = search rules in
    shown-in script c.args.conditions.budget c.args.conditions.shape whole c.args.part c.args.last c.args.states c.requires.last c.is_whole.ensures shown
    (subst (IsAnswer (ground-of script c.args.conditions.budget c.args.conditions.shape whole c.args.part c.args.last c.args.states)) (at-least-shown answer shown same) known)

pub returns-in-Some-clause-many : goal.returns-in-Some-clause-many
returns-in-Some-clause-many g c fine e =
    let script = c.args.script.now in
    let answer : Searched = c.in-Some.answer in
    let whole : Bool = c.is_whole.result in
    let told = c.at_least_one.ensures in
    let same : at_least_one answer ≡ found.ManyStates fine = cc in
    let known : IsAnswer (ground-of script c.args.conditions.budget c.args.conditions.shape whole c.args.part c.args.last c.args.states) answer = search rules in
    many-told script c.args.conditions.budget c.args.conditions.shape whole c.args.part c.args.last c.args.states c.requires.last c.is_whole.ensures c.requires.single.fine answer fine same known

pub returns-in-Some-2-clause-many : goal.returns-in-Some-2-clause-many
returns-in-Some-2-clause-many g c fine e =
    let script = c.args.script.now in
    let answer : Searched = c.in-Some-2.answer in
    let whole : Bool = c.is_whole.result in
    let told = c.at_least_one-in-Some-2.ensures in
    let same : at_least_one answer ≡ found.ManyStates fine = cc in
    let known : IsAnswer (ground-of script c.args.conditions.budget c.args.conditions.shape whole c.args.part c.args.last c.args.states) answer = search rules in
    many-told script c.args.conditions.budget c.args.conditions.shape whole c.args.part c.args.last c.args.states c.requires.last c.is_whole.ensures c.requires.single.fine answer fine same known
