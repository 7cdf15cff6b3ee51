pub mod Hands
pub mod Ranges
pub mod Replies
pub use Rattle.effect_form.specs.declared.effects.Effect
pub use Rattle.message_form.specs.Messages
pub use Rattle.message_form.specs.Posts
pub use Rattle.message_form.specs.Ranges as TurnRanges
pub use Rattle.message_form.specs.declared.messages.Message
pub use Rattle.message_form.specs.declared.turns.Out
pub use Rattle.message_form.specs.declared.turns.Turn
pub use Rattle.object_history.specs.Answers
pub use Rattle.object_history.specs.Causes
pub use Rattle.object_history.specs.History
pub use Rattle.object_history.specs.Ranges as StepRanges
pub use Rattle.object_history.specs.declared.marks.Mark
pub use Rattle.object_history.specs.declared.steps.HistoryFault
pub use Rattle.object_history.specs.declared.steps.ReadStep
pub use Rattle.object_history.specs.declared.steps.WriteStep
pub use Rattle.value_form.specs.ObjectBytes
pub use Rattle.value_form.specs.ValueBytes
pub use Rattle.value_form.specs.declared.objects.ObjectId
pub use Rattle.value_form.specs.declared.values.Value
