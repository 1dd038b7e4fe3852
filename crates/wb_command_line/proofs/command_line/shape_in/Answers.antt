use Rattle.std.proofs.Common.{◌≡◌, ◌%◌, subst, arith, codes, false}
use Rattle.std.specs.Str.Parse.{ExplainsUnsignedError, HasUnsignedDigitsIfOk, ParsesUnsigned}
use Rattle.std.proofs.lemmas.Bool.{eq-eqb, le-leb}
use Rattle.clap.specs.Words.{found_of, rows_of}
use Rattle.wb_basics.specs.declared.limits.TheConstants.{LARGEST_MINIMUM, DEFAULT_MINIMUM, SMALLEST_STEP, LARGEST_STEP, DEFAULT_STEP}
use Rattle.wb_heap_model.specs.declared.heap.Shape.{Shape}
use Rattle.wb_command_line.specs.Command.{is_sixteenfold}
use Rattle.wb_command_line.specs.Spelled.{shape_of}
use Rattle.wb_command_line.proofs.MatchesLemmas.{given_or, min_is, not_sixteenfold, step_is}
use Rattle.wb_command_line.proofs.command_line.shape_in.Goals as goal
use Rattle.wb_command_line.proofs.command_line.shape_in.Goals.{else-min-eq0-via-then-min-eq0+else-step-eq0, else-min-eq0-via-else-min-eq0}

pub returns-then-step-eq0-clause-ok : goal.returns-then-step-eq0-clause-ok
returns-then-step-eq0-clause-ok c =
    let min = given_or (codes "min") (rows_of (found_of c.args.options.now)) 0 LARGEST_MINIMUM DEFAULT_MINIMUM c.unwrap_or-min.result c.get_one.result
    (min_is _ (λ bs r. ParsesUnsigned 32 10 bs r × ExplainsUnsignedError 10 bs r × HasUnsignedDigitsIfOk bs r) (λ u x g. g.0) (found_of c.args.options.now) c.get_one.result c.requires c.get_one.ensures.none c.get_one.ensures.value) (omega arith) (omega arith) c.unwrap_or-min.ensures in
    let step = given_or (codes "step") (rows_of (found_of c.args.options.now)) SMALLEST_STEP LARGEST_STEP DEFAULT_STEP c.unwrap_or-step.result c.get_one-2.result
    (step_is _ (λ bs r. ParsesUnsigned 32 10 bs r × ExplainsUnsignedError 10 bs r × HasUnsignedDigitsIfOk bs r) (λ u x g. g.0) (found_of c.args.options.now) c.get_one-2.result c.requires c.get_one-2.ensures.none c.get_one-2.ensures.value) (omega arith) (omega arith) c.unwrap_or-step.ensures in
    let whole : ◌≡◌ {A = Shape} (record { min = c.unwrap_or-min.result; step = c.unwrap_or-step.result; moving = c.moving_in-moving.result }) (shape_of (rows_of (found_of c.args.options.now))) =
    λ i. record { min = min.is i; step = step.is i; moving = c.moving_in-moving.ensures i } in
    whole

pub returns-then-step-eq0-clause-range : goal.returns-then-step-eq0-clause-range
returns-then-step-eq0-clause-range c =
    let min = given_or (codes "min") (rows_of (found_of c.args.options.now)) 0 LARGEST_MINIMUM DEFAULT_MINIMUM c.unwrap_or-min.result c.get_one.result
    (min_is _ (λ bs r. ParsesUnsigned 32 10 bs r × ExplainsUnsignedError 10 bs r × HasUnsignedDigitsIfOk bs r) (λ u x g. g.0) (found_of c.args.options.now) c.get_one.result c.requires c.get_one.ensures.none c.get_one.ensures.value) (omega arith) (omega arith) c.unwrap_or-min.ensures in
    let step = given_or (codes "step") (rows_of (found_of c.args.options.now)) SMALLEST_STEP LARGEST_STEP DEFAULT_STEP c.unwrap_or-step.result c.get_one-2.result
    (step_is _ (λ bs r. ParsesUnsigned 32 10 bs r × ExplainsUnsignedError 10 bs r × HasUnsignedDigitsIfOk bs r) (λ u x g. g.0) (found_of c.args.options.now) c.get_one-2.result c.requires c.get_one-2.ensures.none c.get_one-2.ensures.value) (omega arith) (omega arith) c.unwrap_or-step.ensures in
    rw (eq-eqb _ _ c.if-min-eq0.true, eq-eqb _ _ c.if-step-eq0.true, le-leb _ _ min.most, le-leb _ _ step.least, le-leb _ _ step.most)

pub returns-else-min-eq0-clause-misshapen : goal.returns-else-min-eq0-clause-misshapen
returns-else-min-eq0-clause-misshapen c =
    let min = given_or (codes "min") (rows_of (found_of c.args.options.now)) 0 LARGEST_MINIMUM DEFAULT_MINIMUM c.unwrap_or-min.result c.get_one.result
    (min_is _ (λ bs r. ParsesUnsigned 32 10 bs r × ExplainsUnsignedError 10 bs r × HasUnsignedDigitsIfOk bs r) (λ u x g. g.0) (found_of c.args.options.now) c.get_one.result c.requires c.get_one.ensures.none c.get_one.ensures.value) (omega arith) (omega arith) c.unwrap_or-min.ensures in
    let step = given_or (codes "step") (rows_of (found_of c.args.options.now)) SMALLEST_STEP LARGEST_STEP DEFAULT_STEP c.unwrap_or-step.result c.get_one-2.result
    (step_is _ (λ bs r. ParsesUnsigned 32 10 bs r × ExplainsUnsignedError 10 bs r × HasUnsignedDigitsIfOk bs r) (λ u x g. g.0) (found_of c.args.options.now) c.get_one-2.result c.requires c.get_one-2.ensures.none c.get_one-2.ensures.value) (omega arith) (omega arith) c.unwrap_or-step.ensures in
    let whole : ◌≡◌ {A = Shape} (record { min = c.unwrap_or-min.result; step = c.unwrap_or-step.result; moving = c.moving_in-moving.result }) (shape_of (rows_of (found_of c.args.options.now))) =
    λ i. record { min = min.is i; step = step.is i; moving = c.moving_in-moving.ensures i } in
    let misshapen : c.unwrap_or-min.result % 16 ≡ 0 → c.unwrap_or-step.result % 16 ≡ 0 → ⊥ = elim c.else-min-eq0.branch [
      | else-min-eq0-via-then-min-eq0+else-step-eq0 w ↦ λ m s. w.if-step-eq0.false s
      | else-min-eq0-via-else-min-eq0 w ↦ λ m s. w.if-min-eq0.false m
    ] in
    subst (λ (s : Shape). is_sixteenfold s ≡ false) whole (not_sixteenfold (record { min = c.unwrap_or-min.result; step = c.unwrap_or-step.result; moving = c.moving_in-moving.result }) misshapen)
