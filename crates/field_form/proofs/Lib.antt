pub mod FormLaws
pub mod NumberLaws
pub mod TimeLaws
pub mod DecisionLaws
pub mod Names
