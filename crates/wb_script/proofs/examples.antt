-- Scripts whose lines and trees are computed.
mod CheckExamples
mod ClassExamples
mod OperationExamples
mod ScriptExamples
