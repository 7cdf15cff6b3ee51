pub mod RetireLemmas
