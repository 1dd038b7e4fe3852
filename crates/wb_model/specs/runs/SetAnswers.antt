-- Given on from `wb_runs`.
pub use Rattle.wb_runs.specs.SetAnswers.{SetAnswer, found, cut, none, IsSetAnswerIn, first_set_of, least_set_of, IsSetOfFound, IsSetOfCut}
