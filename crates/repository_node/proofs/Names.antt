-- The names that the proofs of this crate cite, passed on from one place. Declares nothing.
pub use Rattle.medium_port.specs.Image.{Image, NoMore}
pub use Rattle.medium_port.specs.Moment.{LeavesOnly, Stage}
pub use Rattle.node_turn.proofs.MediumLemmas.{AppendsTo, appended, appends-all, appends-none, leaves-log, none-new}
pub use Rattle.node_turn.specs.Cores.{HasTurn, IsReady, LeavesLog, given_for}
pub use Rattle.object_header.specs.Ledgers.{BeneathParts, MediumParts, content, told_medium}
pub use Rattle.object_header.specs.Tables.{ledger_of, store_of}
pub use Rattle.pseudo_time.specs.Nodes.{repository}
pub use Rattle.repository_log.specs.Logs.{HasMarks, known, knows}
pub use Rattle.repository_node.specs.KeptCores.{HasLife, HasMarksOfLog, Owes, is_able, medium_in}
pub use Rattle.std.proofs.Common.{[], Bool, Err, IfOk, IsTrue, List, Ok, OnOk, Option, Result, Some, ap, append_assoc, false, is_err, is_some, not, refl, reverse, subst, sym, true, ℕ, ◌++◌, ◌∙◌, ◌≡◌, ◌≤◌}
pub use Rattle.std.proofs.lemmas.List.{append-nil}
pub use Rattle.stream_port.specs.Causes.{Rose}
pub use Rattle.version_store.specs.StoreWords.{medium_of}
pub use Rattle.node_turn.specs.WorldNodes.Input.{Hearing, Learning, Taking}
pub use Rattle.node_turn.specs.Walks.{Base, Life, after_input, all_effects, gated_life, opened_life, opened_log}
