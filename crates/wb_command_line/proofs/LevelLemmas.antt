-- The options of a subcommand, whatever its name and whatever it takes.
use Rattle.std.proofs.Common.{◌≡◌, ◌||◌, ℕ, Bool, inl, inr, true, false, refl, List, [], ◌∷◌, None, codes, true≢false}
use Rattle.std.specs.Prelude.{◌==◌}
use Rattle.std.specs.Str.{bytes_eq}
use Rattle.clap.specs.Simple.{filled}
use Rattle.clap.specs.Walk.{Row, Rule, Text, arg_by_index, arg_by_long, arg_by_short}
use Rattle.wb_command_line.specs.CommandLine.{all_flag, also_option, brief_flag, budget_option, ends_flag, every_option, fail_from_option, fail_option, failures_option, follow_around_option, follow_flag, follow_steps_option, from_option, joined_level, json_flag, level, limit_option, min_option, moving_flag, pairs_flag, persistent_flag, quiet_flag, rates_flag, sets_flag, states_option, step_option, to_option}
use Rattle.wb_command_line.specs.Passed.{IsIn, RowsPass}
use Rattle.wb_command_line.specs.declared.command_line.parser.Takes.{Takes}
use Rattle.wb_command_line.specs.declared.command_line.parser.Takes.TheVariants as taking
use Rattle.wb_command_line.specs.WordByWord.{is_option, option_names}
use Rattle.wb_command_line.proofs.PassedRows.{are_single}
use Rattle.wb_command_line.proofs.PassedValues.{IsOnly, only}
use Rattle.wb_command_line.proofs.RefusalLemmas.{IsAsking, help_asks}

-- ---- settings

pub level_name : (name : Text) (takes : Takes) → (level name takes).name ≡ name
level_name name taking.Rule = refl
level_name name taking.Failures = refl
level_name name taking.Part = refl
level_name name taking.Neither = refl

pub level_single : (name : Text) (takes : Takes) → are_single (level name takes).rules ≡ true
level_single name taking.Rule = refl
level_single name taking.Failures = refl
level_single name taking.Part = refl
level_single name taking.Neither = refl

pub level_once : (name : Text) (takes : Takes) → (level name takes).args_override_self ≡ false
level_once name taking.Rule = refl
level_once name taking.Failures = refl
level_once name taking.Part = refl
level_once name taking.Neither = refl

-- ---- flags

-- one test is false, and the rest of them
pub first_false : (a b : Bool) → (a || b) ≡ false → (a ≡ false) × (b ≡ false)
first_false true b e = absurd (true≢false e)
first_false false b e = (refl, e)

-- a name that is no option's is help's or none
pub level_long : (called : Text) (takes : Takes) (name : Text) → is_option (option_names takes) name ≡ false
    → IsAsking (arg_by_long (level called takes).rules name)
level_long called taking.Rule name e =
    let limit = first_false (bytes_eq (codes "limit") name) _ e in
    let fail = first_false (bytes_eq (codes "fail") name) _ limit.1 in
    let also = first_false (bytes_eq (codes "also") name) _ fail.1 in
    let every = first_false (bytes_eq (codes "every") name) _ also.1 in
    let fail_from = first_false (bytes_eq (codes "fail-from") name) _ every.1 in
    let set = first_false (bytes_eq (codes "set") name) _ fail_from.1 in
    let follow = first_false (bytes_eq (codes "follow") name) _ set.1 in
    let follow_steps = first_false (bytes_eq (codes "follow-steps") name) _ follow.1 in
    let follow_around = first_false (bytes_eq (codes "follow-around") name) _ follow_steps.1 in
    let budget = first_false (bytes_eq (codes "budget") name) _ follow_around.1 in
    let min = first_false (bytes_eq (codes "min") name) _ budget.1 in
    let step = first_false (bytes_eq (codes "step") name) _ min.1 in
    let moving = first_false (bytes_eq (codes "moving") name) _ step.1 in
    let json = first_false (bytes_eq (codes "json") name) _ moving.1 in
    let quiet = first_false (bytes_eq (codes "quiet") name) _ json.1 in
    let picture = first_false (bytes_eq (codes "picture") name) _ quiet.1 in
    let sarif = first_false (bytes_eq (codes "sarif") name) _ picture.1 in
    rw (limit.0, fail.0, also.0, every.0, fail_from.0, set.0, follow.0, follow_steps.0, follow_around.0, budget.0, min.0, step.0, moving.0, json.0, quiet.0, picture.0, sarif.0) (help_asks (bytes_eq (codes "help") name))
level_long called taking.Failures name e =
    let every = first_false (bytes_eq (codes "every") name) _ e in
    let persistent = first_false (bytes_eq (codes "persistent") name) _ every.1 in
    let pairs = first_false (bytes_eq (codes "pairs") name) _ persistent.1 in
    let all = first_false (bytes_eq (codes "all") name) _ pairs.1 in
    let ends = first_false (bytes_eq (codes "ends") name) _ all.1 in
    let failures = first_false (bytes_eq (codes "failures") name) _ ends.1 in
    let sets = first_false (bytes_eq (codes "sets") name) _ failures.1 in
    let states = first_false (bytes_eq (codes "states") name) _ sets.1 in
    let brief = first_false (bytes_eq (codes "brief") name) _ states.1 in
    let budget = first_false (bytes_eq (codes "budget") name) _ brief.1 in
    let min = first_false (bytes_eq (codes "min") name) _ budget.1 in
    let step = first_false (bytes_eq (codes "step") name) _ min.1 in
    let moving = first_false (bytes_eq (codes "moving") name) _ step.1 in
    let json = first_false (bytes_eq (codes "json") name) _ moving.1 in
    let quiet = first_false (bytes_eq (codes "quiet") name) _ json.1 in
    let picture = first_false (bytes_eq (codes "picture") name) _ quiet.1 in
    let sarif = first_false (bytes_eq (codes "sarif") name) _ picture.1 in
    rw (every.0, persistent.0, pairs.0, all.0, ends.0, failures.0, sets.0, states.0, brief.0, budget.0, min.0, step.0, moving.0, json.0, quiet.0, picture.0, sarif.0) (help_asks (bytes_eq (codes "help") name))
level_long called taking.Part name e =
    let every = first_false (bytes_eq (codes "every") name) _ e in
    let persistent = first_false (bytes_eq (codes "persistent") name) _ every.1 in
    let pairs = first_false (bytes_eq (codes "pairs") name) _ persistent.1 in
    let all = first_false (bytes_eq (codes "all") name) _ pairs.1 in
    let ends = first_false (bytes_eq (codes "ends") name) _ all.1 in
    let failures = first_false (bytes_eq (codes "failures") name) _ ends.1 in
    let sets = first_false (bytes_eq (codes "sets") name) _ failures.1 in
    let states = first_false (bytes_eq (codes "states") name) _ sets.1 in
    let from = first_false (bytes_eq (codes "from") name) _ states.1 in
    let to = first_false (bytes_eq (codes "to") name) _ from.1 in
    let budget = first_false (bytes_eq (codes "budget") name) _ to.1 in
    let min = first_false (bytes_eq (codes "min") name) _ budget.1 in
    let step = first_false (bytes_eq (codes "step") name) _ min.1 in
    let moving = first_false (bytes_eq (codes "moving") name) _ step.1 in
    let json = first_false (bytes_eq (codes "json") name) _ moving.1 in
    let quiet = first_false (bytes_eq (codes "quiet") name) _ json.1 in
    let picture = first_false (bytes_eq (codes "picture") name) _ quiet.1 in
    let sarif = first_false (bytes_eq (codes "sarif") name) _ picture.1 in
    rw (every.0, persistent.0, pairs.0, all.0, ends.0, failures.0, sets.0, states.0, from.0, to.0, budget.0, min.0, step.0, moving.0, json.0, quiet.0, picture.0, sarif.0) (help_asks (bytes_eq (codes "help") name))
level_long called taking.Neither name e =
    let brief = first_false (bytes_eq (codes "brief") name) _ e in
    let budget = first_false (bytes_eq (codes "budget") name) _ brief.1 in
    let min = first_false (bytes_eq (codes "min") name) _ budget.1 in
    let step = first_false (bytes_eq (codes "step") name) _ min.1 in
    let moving = first_false (bytes_eq (codes "moving") name) _ step.1 in
    let json = first_false (bytes_eq (codes "json") name) _ moving.1 in
    let quiet = first_false (bytes_eq (codes "quiet") name) _ json.1 in
    let picture = first_false (bytes_eq (codes "picture") name) _ quiet.1 in
    let sarif = first_false (bytes_eq (codes "sarif") name) _ picture.1 in
    rw (brief.0, budget.0, min.0, step.0, moving.0, json.0, quiet.0, picture.0, sarif.0) (help_asks (bytes_eq (codes "help") name))

pub level_short : (called : Text) (takes : Takes) (x : ℕ) → IsAsking (arg_by_short (level called takes).rules x)
level_short called taking.Rule x = help_asks (104 == x)
level_short called taking.Failures x = help_asks (104 == x)
level_short called taking.Part x = help_asks (104 == x)
level_short called taking.Neither x = help_asks (104 == x)

-- a file, and no second one
pub level_second : (called : Text) (takes : Takes) → arg_by_index (level called takes).rules 2 ≡ None
level_second called taking.Rule = refl
level_second called taking.Failures = refl
level_second called taking.Part = refl
level_second called taking.Neither = refl

-- ---- rows that passed

-- the options of a level are among those of all
own_rule_in : (a : Rule) → IsIn a (level [] taking.Rule).rules → IsIn a joined_level.rules
own_rule_in a (inl file) = inl file
own_rule_in a (inr (inl limit)) = inr (inl limit)
own_rule_in a (inr (inr (inl fail))) = inr (inr (inl fail))
own_rule_in a (inr (inr (inr (inl also)))) = inr (inr (inr (inl also)))
own_rule_in a (inr (inr (inr (inr (inl every))))) = inr (inr (inr (inr (inl every))))
own_rule_in a (inr (inr (inr (inr (inr (inl first)))))) = inr (inr (inr (inr (inr (inl first)))))
own_rule_in a (inr (inr (inr (inr (inr (inr (inl set))))))) = inr (inr (inr (inr (inr (inr (inl set))))))
own_rule_in a (inr (inr (inr (inr (inr (inr (inr (inl follow)))))))) = inr (inr (inr (inr (inr (inr (inr (inl follow)))))))
own_rule_in a (inr (inr (inr (inr (inr (inr (inr (inr (inl steps))))))))) = inr (inr (inr (inr (inr (inr (inr (inr (inl steps))))))))
own_rule_in a (inr (inr (inr (inr (inr (inr (inr (inr (inr (inl around)))))))))) = inr (inr (inr (inr (inr (inr (inr (inr (inr (inl around)))))))))
own_rule_in a (inr (inr (inr (inr (inr (inr (inr (inr (inr (inr shared)))))))))) = inr (inr (inr (inr (inr (inr (inr (inr (inr (inr (inr (inr (inr (inr (inr (inr (inr (inr (inr (inr (inr shared))))))))))))))))))))

part_in : (a : Rule) → IsIn a (level [] taking.Part).rules → IsIn a joined_level.rules
part_in a (inl file) = inl file
part_in a (inr rest) = inr (inr (inr (inr (inr (inr (inr (inr (inr (inr (inr rest))))))))))

failures_in : (a : Rule) → IsIn a (level [] taking.Failures).rules → IsIn a joined_level.rules
failures_in a (inl file) = inl file
failures_in a (inr (inl rates)) = inr (inr (inr (inr (inr (inr (inr (inr (inr (inr (inr (inl rates)))))))))))
failures_in a (inr (inr (inl persistent))) = inr (inr (inr (inr (inr (inr (inr (inr (inr (inr (inr (inr (inl persistent))))))))))))
failures_in a (inr (inr (inr (inl pairs)))) = inr (inr (inr (inr (inr (inr (inr (inr (inr (inr (inr (inr (inr (inl pairs)))))))))))))
failures_in a (inr (inr (inr (inr (inl all))))) = inr (inr (inr (inr (inr (inr (inr (inr (inr (inr (inr (inr (inr (inr (inl all))))))))))))))
failures_in a (inr (inr (inr (inr (inr (inl ends)))))) = inr (inr (inr (inr (inr (inr (inr (inr (inr (inr (inr (inr (inr (inr (inr (inl ends)))))))))))))))
failures_in a (inr (inr (inr (inr (inr (inr (inl together))))))) = inr (inr (inr (inr (inr (inr (inr (inr (inr (inr (inr (inr (inr (inr (inr (inr (inl together))))))))))))))))
failures_in a (inr (inr (inr (inr (inr (inr (inr (inl sets)))))))) = inr (inr (inr (inr (inr (inr (inr (inr (inr (inr (inr (inr (inr (inr (inr (inr (inr (inl sets)))))))))))))))))
failures_in a (inr (inr (inr (inr (inr (inr (inr (inr (inl states))))))))) = inr (inr (inr (inr (inr (inr (inr (inr (inr (inr (inr (inr (inr (inr (inr (inr (inr (inr (inl states))))))))))))))))))
failures_in a (inr (inr (inr (inr (inr (inr (inr (inr (inr (inl brief)))))))))) = inr (inr (inr (inr (inr (inr (inr (inr (inr (inr (inl brief))))))))))
failures_in a (inr (inr (inr (inr (inr (inr (inr (inr (inr (inr shared)))))))))) = inr (inr (inr (inr (inr (inr (inr (inr (inr (inr (inr (inr (inr (inr (inr (inr (inr (inr (inr (inr (inr shared))))))))))))))))))))

shared_in : (a : Rule) → IsIn a (level [] taking.Neither).rules → IsIn a joined_level.rules
shared_in a (inl file) = inl file
shared_in a (inr (inl brief)) = inr (inr (inr (inr (inr (inr (inr (inr (inr (inr (inl brief))))))))))
shared_in a (inr (inr shared)) = inr (inr (inr (inr (inr (inr (inr (inr (inr (inr (inr (inr (inr (inr (inr (inr (inr (inr (inr (inr (inr shared))))))))))))))))))))

wider_rows : (c d : List Rule) → ((a : Rule) → IsIn a c → IsIn a d) → (rows : List Row) → RowsPass c rows → RowsPass d rows
wider_rows c d wide [] passed = tt
wider_rows c d wide (r ∷ rs) passed = ((passed.0.0, wide passed.0.0 passed.0.1, passed.0.2), wider_rows c d wide rs passed.1)

pub level_wide : (called : Text) (takes : Takes) (rows : List Row) → RowsPass (level called takes).rules rows → RowsPass joined_level.rules rows
level_wide called taking.Rule rows passed = wider_rows (level [] taking.Rule).rules joined_level.rules own_rule_in rows passed
level_wide called taking.Failures rows passed = wider_rows (level [] taking.Failures).rules joined_level.rules failures_in rows passed
level_wide called taking.Part rows passed = wider_rows (level [] taking.Part).rules joined_level.rules part_in rows passed
level_wide called taking.Neither rows passed = wider_rows (level [] taking.Neither).rules joined_level.rules shared_in rows passed

-- ---- the options of all levels

abbrev pub limit_rule : Rule
limit_rule = filled limit_option

abbrev pub fail_rule : Rule
fail_rule = filled fail_option

abbrev pub also_rule : Rule
also_rule = filled also_option

abbrev pub every_rule : Rule
every_rule = filled every_option

abbrev pub fail_from_rule : Rule
fail_from_rule = filled fail_from_option

abbrev pub follow_rule : Rule
follow_rule = filled follow_flag

abbrev pub follow_steps_rule : Rule
follow_steps_rule = filled follow_steps_option

abbrev pub follow_around_rule : Rule
follow_around_rule = filled follow_around_option

abbrev pub rates_rule : Rule
rates_rule = filled rates_flag

abbrev pub persistent_rule : Rule
persistent_rule = filled persistent_flag

abbrev pub pairs_rule : Rule
pairs_rule = filled pairs_flag

abbrev pub all_rule : Rule
all_rule = filled all_flag

abbrev pub ends_rule : Rule
ends_rule = filled ends_flag

abbrev pub failures_rule : Rule
failures_rule = filled failures_option

abbrev pub sets_rule : Rule
sets_rule = filled sets_flag

abbrev pub states_rule : Rule
states_rule = filled states_option

abbrev pub from_rule : Rule
from_rule = filled from_option

abbrev pub to_rule : Rule
to_rule = filled to_option

abbrev pub budget_rule : Rule
budget_rule = filled budget_option

abbrev pub min_rule : Rule
min_rule = filled min_option

abbrev pub step_rule : Rule
step_rule = filled step_option

abbrev pub moving_rule : Rule
moving_rule = filled moving_flag

abbrev pub json_rule : Rule
json_rule = filled json_flag

abbrev pub quiet_rule : Rule
quiet_rule = filled quiet_flag

abbrev pub brief_rule : Rule
brief_rule = filled brief_flag

-- no other argument has their names
pub only_limit : IsOnly joined_level.rules (codes "limit") limit_rule
only_limit = only joined_level.rules (codes "limit") limit_rule refl

pub only_fail : IsOnly joined_level.rules (codes "fail") fail_rule
only_fail = only joined_level.rules (codes "fail") fail_rule refl

pub only_also : IsOnly joined_level.rules (codes "also") also_rule
only_also = only joined_level.rules (codes "also") also_rule refl

pub only_every : IsOnly joined_level.rules (codes "every") every_rule
only_every = only joined_level.rules (codes "every") every_rule refl

pub only_fail_from : IsOnly joined_level.rules (codes "fail-from") fail_from_rule
only_fail_from = only joined_level.rules (codes "fail-from") fail_from_rule refl

pub only_follow : IsOnly joined_level.rules (codes "follow") follow_rule
only_follow = only joined_level.rules (codes "follow") follow_rule refl

pub only_follow_steps : IsOnly joined_level.rules (codes "follow-steps") follow_steps_rule
only_follow_steps = only joined_level.rules (codes "follow-steps") follow_steps_rule refl

pub only_follow_around : IsOnly joined_level.rules (codes "follow-around") follow_around_rule
only_follow_around = only joined_level.rules (codes "follow-around") follow_around_rule refl

pub only_rates : IsOnly joined_level.rules (codes "rates") rates_rule
only_rates = only joined_level.rules (codes "rates") rates_rule refl

pub only_persistent : IsOnly joined_level.rules (codes "persistent") persistent_rule
only_persistent = only joined_level.rules (codes "persistent") persistent_rule refl

pub only_pairs : IsOnly joined_level.rules (codes "pairs") pairs_rule
only_pairs = only joined_level.rules (codes "pairs") pairs_rule refl

pub only_all : IsOnly joined_level.rules (codes "all") all_rule
only_all = only joined_level.rules (codes "all") all_rule refl

pub only_ends : IsOnly joined_level.rules (codes "ends") ends_rule
only_ends = only joined_level.rules (codes "ends") ends_rule refl

pub only_failures : IsOnly joined_level.rules (codes "failures") failures_rule
only_failures = only joined_level.rules (codes "failures") failures_rule refl

pub only_sets : IsOnly joined_level.rules (codes "sets") sets_rule
only_sets = only joined_level.rules (codes "sets") sets_rule refl

pub only_states : IsOnly joined_level.rules (codes "states") states_rule
only_states = only joined_level.rules (codes "states") states_rule refl

pub only_from : IsOnly joined_level.rules (codes "from") from_rule
only_from = only joined_level.rules (codes "from") from_rule refl

pub only_to : IsOnly joined_level.rules (codes "to") to_rule
only_to = only joined_level.rules (codes "to") to_rule refl

pub only_budget : IsOnly joined_level.rules (codes "budget") budget_rule
only_budget = only joined_level.rules (codes "budget") budget_rule refl

pub only_min : IsOnly joined_level.rules (codes "min") min_rule
only_min = only joined_level.rules (codes "min") min_rule refl

pub only_step : IsOnly joined_level.rules (codes "step") step_rule
only_step = only joined_level.rules (codes "step") step_rule refl

pub only_moving : IsOnly joined_level.rules (codes "moving") moving_rule
only_moving = only joined_level.rules (codes "moving") moving_rule refl

pub only_json : IsOnly joined_level.rules (codes "json") json_rule
only_json = only joined_level.rules (codes "json") json_rule refl

pub only_quiet : IsOnly joined_level.rules (codes "quiet") quiet_rule
only_quiet = only joined_level.rules (codes "quiet") quiet_rule refl

pub only_brief : IsOnly joined_level.rules (codes "brief") brief_rule
only_brief = only joined_level.rules (codes "brief") brief_rule refl
