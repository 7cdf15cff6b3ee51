pub mod Came
pub mod CoreParts
pub mod Cores
pub mod Costs
pub mod Entries
pub mod Lives
pub mod Trails
pub use Rattle.atomic_table.specs.declared.shared.Seat
pub use Rattle.broker_laws.specs.Works
pub use Rattle.effect_form.specs.Effects
pub use Rattle.effect_form.specs.declared.effects.Effect
pub use Rattle.medium_port.specs.Image
pub use Rattle.medium_port.specs.Moment
pub use Rattle.medium_port.specs.declared.media.Medium
pub use Rattle.message_form.specs.Messages
pub use Rattle.message_form.specs.Ranges as TurnRanges
pub use Rattle.message_form.specs.declared.messages.Message
pub use Rattle.message_form.specs.declared.turns.Out
pub use Rattle.object_history.specs.declared.steps.HistoryFault
pub use Rattle.page_gate.specs.States
pub use Rattle.page_gate.specs.declared.pages.PageState
pub use Rattle.pseudo_time.specs.Lists
pub use Rattle.pseudo_time.specs.Nodes as NodeNames
pub use Rattle.pseudo_time.specs.StampParts
pub use Rattle.pseudo_time.specs.declared.down_causes.DownCause
pub use Rattle.pseudo_time.specs.declared.nodes.NodeId
pub use Rattle.repository_log.specs.Logs
pub use Rattle.seat_lock.specs.Story
pub use Rattle.seat_lock.specs.Words
pub use Rattle.seat_lock.specs.declared.views.View
pub use Rattle.serial_model.specs.Questions
pub use Rattle.stream_port.specs.Causes
pub use Rattle.value_form.specs.contracts.scripts.Stmt as StmtContracts
pub use Rattle.version_store.specs.Causes as StoreCauses
pub use Rattle.version_store.specs.Filling
pub use Rattle.version_store.specs.Storage
pub use Rattle.version_store.specs.StoreWords
pub use Rattle.version_store.specs.declared.faults.OpenFault
pub use Rattle.version_store.specs.declared.faults.StoreFault
pub use Rattle.wire_core.specs.Boards
pub use Rattle.wire_core.specs.Changes
pub use Rattle.wire_core.specs.Clocked
pub use Rattle.wire_core.specs.Learns
pub use Rattle.wire_core.specs.Wires
pub use Rattle.wire_lock.specs.Decisions
pub use Rattle.wire_lock.specs.Sights
pub use Rattle.wire_lock.specs.Stories
pub use Rattle.world_core.specs.Cores as WorldCores
pub use Rattle.world_core.specs.Legal
pub use Rattle.world_core.specs.Nodes as WorldNodes
pub use Rattle.world_core.specs.Walks
pub use Rattle.world_core.specs.declared.entries.Entry
