pub mod ChainLemmas
pub mod ForwardLemmas
pub mod OlderLemmas
pub mod RetiredLemmas
pub mod StoodLemmas
pub mod Names
