pub mod Books
pub mod Members
pub mod Polls
pub mod Voting
pub use Rattle.message_form.specs.Posts
pub use Rattle.message_form.specs.Ranges
