pub mod LineSessionLemmas
