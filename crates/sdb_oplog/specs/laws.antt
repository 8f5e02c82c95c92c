pub mod LogLaws
pub mod DecidedLogLaws
