use Rattle.workbench.proofs.OneEverySetReport.{ended_once}
use Rattle.workbench.proofs.OneReport.{report_once}
use Rattle.workbench.proofs.laws.one_report.Goals as goal

pub returns : goal.returns
returns c = record {
  one = λ command bytes text other values figures status last old. report_once command bytes text other values figures status last old;
  ended = λ command bytes text other values figures status last here there. ended_once command bytes text other values figures status last here there;
}
