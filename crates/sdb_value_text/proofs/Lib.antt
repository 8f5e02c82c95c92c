pub mod TextLemmas
pub mod HasTextLemmas
