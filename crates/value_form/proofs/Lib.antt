pub mod ObjectLemmas
pub mod ValueLaws
