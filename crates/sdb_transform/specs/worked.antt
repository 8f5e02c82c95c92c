pub mod ConvergenceExamples
pub mod Examples
pub mod OperationExamples
