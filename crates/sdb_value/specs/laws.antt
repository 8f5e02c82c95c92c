pub mod PrefixLaws
pub mod ValueLaws
pub mod PathLaws
