mod RestoredLines
mod SendSync
