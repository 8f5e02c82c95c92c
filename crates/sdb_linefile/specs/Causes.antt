-- The error of a file of lines for an error of `sqlite`.
use Rattle.sqlite.specs.declared.error.Error.{Error}
use Rattle.sqlite.specs.declared.error.Error.TheVariants.{SqliteFailure}
use Rattle.sqlite.specs.declared.error.ErrorCode.TheVariants as code
use Rattle.sdb_linefile.specs.declared.error.LineFileError.{LineFileError}
use Rattle.sdb_linefile.specs.declared.error.LineFileError.TheVariants.{Busy, CannotOpen, Damaged, LineTooLong, TooManyLines, DiskFull, DiskFailed, Closed, OutOfMemory, StatementRefused}

abbrev pub cause_of : Error → LineFileError
cause_of (SqliteFailure code.DatabaseBusy) = Busy
cause_of (SqliteFailure code.CannotOpen) = CannotOpen
cause_of (SqliteFailure code.NotADatabase) = Damaged
cause_of (SqliteFailure code.DatabaseCorrupt) = Damaged
cause_of (SqliteFailure code.TooBig) = LineTooLong
cause_of (SqliteFailure code.NoRowid) = TooManyLines
cause_of (SqliteFailure code.DiskFull) = DiskFull
cause_of (SqliteFailure code.SystemIoFailure) = DiskFailed
cause_of (SqliteFailure code.Closed) = Closed
cause_of (SqliteFailure code.OutOfMemory) = OutOfMemory
cause_of _ = StatementRefused
