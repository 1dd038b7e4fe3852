use Rattle.wb_worked.proofs.WorkedFaults.{declared-twice, end-alone, foreign-byte, is-undeclared, is-without-main, leaves-in-operation, number-is-freed, text-too-large, too-many-bytes}
use Rattle.wb_worked.proofs.fault_theorems.each_fault_is_met.Goals as goal

pub returns : goal.returns
returns c = record {
  too_long = too-many-bytes;
  not_ascii = foreign-byte;
  grammar = end-alone;
  unknown_name = is-undeclared;
  double_name = declared-twice;
  wrong_kind = number-is-freed;
  may_leave = leaves-in-operation;
  no_main = is-without-main;
  too_many = text-too-large;
}
