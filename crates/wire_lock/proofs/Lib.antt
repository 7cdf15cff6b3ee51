pub mod SightLemmas
pub mod DecisionLemmas
pub mod StoryLemmas
pub mod Crosses
mod UntoldLemmas
pub mod Names
