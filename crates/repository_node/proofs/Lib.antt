pub mod CoreLemmas
pub mod DoubtLemmas
pub mod Names
