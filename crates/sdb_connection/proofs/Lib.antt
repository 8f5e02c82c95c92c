pub mod SendSync
