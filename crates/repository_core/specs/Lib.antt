pub mod Accounts
pub mod Calls
pub mod Cores
pub mod Hands
pub mod Hearing
pub mod Logs
pub mod Rows
pub mod Turns
pub use Rattle.repository_draft.specs.Answers
pub use Rattle.repository_draft.specs.Causes
pub use Rattle.repository_draft.specs.History
pub use Rattle.repository_draft.specs.Posts
pub use Rattle.repository_draft.specs.contracts.drafts.Draft as DraftContracts
pub use Rattle.repository_draft.specs.contracts.waits.AskerPartialEq
pub use Rattle.repository_draft.specs.contracts.waits.AskerPartialOrd
pub use Rattle.repository_draft.specs.declared.waits.Asker
pub use Rattle.repository_draft.specs.declared.waits.HeldRead
