pub mod SearchesReported
pub mod TasksReported
