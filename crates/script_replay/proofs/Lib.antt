pub mod WorkLemmas
pub mod VersionLemmas
pub mod FollowLemmas
