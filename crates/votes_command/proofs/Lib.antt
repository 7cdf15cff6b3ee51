pub mod HeldLemmas
pub mod MemberLemmas
