use Rattle.std.proofs.Common.{◌≡◌, ◌∙◌, Some, ap, subst, sym}
use Rattle.std.specs.Prelude.{option_map}
use Rattle.clap.specs.Words.{found_of, rows_of}
use Rattle.clap.proofs.TakesLemmas.{passed_up}
use Rattle.wb_command_line.specs.Fault.{AreMisshapen, AreReversed, IsFaultOfOptions}
use Rattle.wb_command_line.specs.Command.{is_sixteenfold}
use Rattle.wb_command_line.specs.Spelled.{command_with, shape_of}
use Rattle.wb_command_line.specs.declared.command.Command.{Command}
use Rattle.wb_command_line.proofs.FaultLemmas.{shapely, task_fault}
use Rattle.wb_command_line.proofs.command_line.command_in.Goals as goal

pub returns-in_err-task-clause-fault : goal.returns-in_err-task-clause-fault
returns-in_err-task-clause-fault c =
    let rows = rows_of (found_of c.args.options.now) in
    passed_up c.from_residual.result _ (IsFaultOfOptions c.args.name.now rows) c.from_residual.ensures.1
    (task_fault c.args.name.now rows _ c.in_err-task.ensures.fault)

pub returns-in_err-shape-clause-fault : goal.returns-in_err-shape-clause-fault
returns-in_err-shape-clause-fault c =
    let rows = rows_of (found_of c.args.options.now) in
    let misshapen : AreMisshapen c.args.name.now rows = record {
      command = command_with rows c.in_ok-task.task;
      meant = record { listed = c.in_ok-task.ensures.list; one_rule = c.in_ok-task.ensures.alone; in_order = c.in_ok-task.ensures.ordered; meaning = ap (option_map (command_with rows)) c.in_ok-task.ensures.ok };
      misshapen = c.in_err-shape.ensures.misshapen;
    } in
    passed_up c.from_residual-in_err-shape.result _ (IsFaultOfOptions c.args.name.now rows) c.from_residual-in_err-shape.ensures.1
    (subst (IsFaultOfOptions c.args.name.now rows) (sym c.in_err-shape.ensures.fault) misshapen)

pub returns-in_err-check_part_of-clause-fault : goal.returns-in_err-check_part_of-clause-fault
returns-in_err-check_part_of-clause-fault c =
    let rows = rows_of (found_of c.args.options.now) in
    let task = c.in_ok-task.task in
    let shape : shape_of rows ≡ c.in_ok-shape.shape = sym c.in_ok-shape.ensures.ok in
    let reversed : AreReversed c.args.name.now rows = record {
      command = command_with rows task;
      meant = record { listed = c.in_ok-task.ensures.list; one_rule = c.in_ok-task.ensures.alone; in_order = c.in_ok-task.ensures.ordered; meaning = ap (option_map (command_with rows)) c.in_ok-task.ensures.ok };
      shapely = ap is_sixteenfold shape ∙ shapely c.in_ok-shape.shape c.in_ok-shape.ensures.range;
      empty = c.in_err-check_part_of.ensures.empty;
    } in
    passed_up c.from_residual-in_err-check_part_of.result _ (IsFaultOfOptions c.args.name.now rows) c.from_residual-in_err-check_part_of.ensures.1
    (subst (IsFaultOfOptions c.args.name.now rows) (sym c.in_err-check_part_of.ensures.fault) reversed)

pub returns-clause-meant : goal.returns-clause-meant
returns-clause-meant c =
    let rows = rows_of (found_of c.args.options.now) in
    let task = c.in_ok-task.task in
    let command : ◌≡◌ {A = Command} (command_with rows task) (record { task = task; file = c.in_ok-file_in.field-0; budget = c.budget_in.result; shape = c.in_ok-shape.shape; json = c.json_in.result; quiet = c.quiet_in.result; brief = c.brief_in.result; picture = c.in_ok-picture_in.field-0; sarif = c.in_ok-sarif_in.field-0; follow = c.follow_in.result; around = c.around_in.result }) =
    λ i. record { task = task; file = sym c.in_ok-file_in.ensures i; budget = sym c.budget_in.ensures.is i; shape = sym c.in_ok-shape.ensures.ok i; json = sym c.json_in.ensures i; quiet = sym c.quiet_in.ensures i; brief = sym c.brief_in.ensures i; picture = sym c.in_ok-picture_in.ensures i; sarif = sym c.in_ok-sarif_in.ensures i; follow = sym c.follow_in.ensures.is i; around = sym c.around_in.ensures.is i } in
    record {
      listed = c.in_ok-task.ensures.list;
      one_rule = c.in_ok-task.ensures.alone;
      in_order = c.in_ok-task.ensures.ordered;
      meaning = ap (option_map (command_with rows)) c.in_ok-task.ensures.ok ∙ ap (λ x. Some x) command;
    }
