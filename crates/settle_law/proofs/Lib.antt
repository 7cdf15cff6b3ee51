pub mod DueLemmas
pub mod LegalLemmas
pub mod SilentLemmas
pub mod WalkLemmas
